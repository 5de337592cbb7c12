use Rattle.std.proofs.Common.{◌≡◌, ◌+◌, length, sym, ap, ◌∙◌}
use Rattle.std.proofs.lemmas.Bool.{false≢true, eq-eqb}
use Rattle.embedding.proofs.EachList.{no_is, list_of-add}
use Rattle.embedding.proofs.breaks.breaks_edgeless.Goals as goal

pub returns-then-not-is_empty : goal.returns-then-not-is_empty
returns-then-not-is_empty c =
    let g = c.args.lists.now in
    no_is (λ none.
    let empty : length c.at.result.now ≡ 0 =
    ap length (c.at.ensures.value ∙ sym (list_of-add g c.loop-place.place) ∙ none (c.loop-place.place + 1)) in
    false≢true (sym c.if-not-is_empty.true ∙ c.is_empty.ensures ∙ eq-eqb _ _ empty))
