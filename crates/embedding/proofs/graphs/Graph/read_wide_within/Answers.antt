use Rattle.std.proofs.Common.{◌≡◌, ℕ, ◌-◌, List, length, take, drop, sym, ap, ◌∙◌, subst, arith}
use Rattle.std.specs.Prelude.{OnOk}
use Rattle.std.proofs.lemmas.List.{take_all, length-drop}
use Rattle.planar_code.specs.Stream.{lists_in, lists_of}
use Rattle.embedding.specs.Rules.{KeepsBefore}
use Rattle.embedding.proofs.WrittenLists.{lists_of-rest}
use Rattle.embedding.proofs.graphs.Graph.read_wide_within.Goals as goal

pub returns-clause-rules : goal.returns-clause-rules
returns-clause-rules g c =
    let all = c.entries.result.now in
    let rest : take (length all - 1) (drop 1 all) ≡ drop 1 all = take_all _ _ (omega (arith, length-drop 1 all)) in
    let same : c.new-lists.result ≡ lists_of c.args.rec.now =
    c.new-lists.ensures ∙ ap lists_in (rest ∙ ap (drop 1) c.entries.ensures.value) ∙ sym (lists_of-rest c.args.rec.now) in
    subst (λ (l : List (List ℕ)). OnOk c.of.result (KeepsBefore l 8)) same c.of.ensures.rules
