use Rattle.std.proofs.Common.{◌≡◌, ℕ, ◌-◌, List, length, take, drop, sym, ap, ◌∙◌, subst, arith}
use Rattle.std.specs.Prelude.{MatchOption}
use Rattle.std.proofs.lemmas.List.{take_all, length-drop}
use Rattle.planar_code.specs.Stream.{lists_in, lists_of}
use Rattle.embedding.specs.Rules.{FirstBroken, KeepsBefore}
use Rattle.embedding.proofs.WrittenLists.{lists_of-rest}
use Rattle.embedding.proofs.genus.broken_wide_rule.Goals as goal

pub returns : goal.returns
returns c =
    let all = c.entries.result.now in
    let rest : take (length all - 1) (drop 1 all) ≡ drop 1 all = take_all _ _ (omega (arith, length-drop 1 all)) in
    let same : c.new-lists.result ≡ lists_of c.args.rec.now =
    c.new-lists.ensures ∙ ap lists_in (rest ∙ ap (drop 1) c.entries.ensures.value) ∙ sym (lists_of-rest c.args.rec.now) in
    subst (λ (l : List (List ℕ)). MatchOption c.broken_by_lists.result (KeepsBefore l 9) (λ rule. FirstBroken l rule)) same c.broken_by_lists.ensures
