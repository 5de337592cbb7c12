use Rattle.std.proofs.Common.{◌++◌, ◌∷◌, [], arith, refl, sym, subst}
use Rattle.std.proofs.lemmas.Bool.{ne_eqb}
use Rattle.lanes.specs.Notes.{End}
use Rattle.lanes.specs.Drafts.{AreDrafts}
use Rattle.lanes.proofs.Drafting.{drafts_end, drafts_other}
use Rattle.lanes.proofs.gathering.DraftsConsumer.end.Goals as goal
use Rattle.lanes.proofs.gathering.DraftsConsumer.end.Goals.{then-place-len, else-place-len}

pub returns-clause-taken : goal.returns-clause-taken
returns-clause-taken g c = λ ns were.
    elim c.if-place-len.branch [
      | then-place-len w ↦
          subst (λ d. AreDrafts g.E.Numbered.about 0 (ns ++ End c.args.file c.args.mark ∷ []) d.files.items) (sym w.self-is)
          (drafts_end _ 0 ns _ c.args.file c.args.file w.index_mut.result.now _ c.args.mark (omega (arith, w.if-place-len.true, c.len.ensures)) (omega arith) w.index_mut.ensures.value refl refl were)
      | else-place-len w ↦
          subst (λ d. AreDrafts g.E.Numbered.about 0 (ns ++ End c.args.file c.args.mark ∷ []) d.files.items) (sym w.self-is)
          (drafts_other _ 0 ns (End c.args.file c.args.mark) _ (λ other from to. ne_eqb c.args.file other (λ same. absurd (omega (arith, to, same, w.if-place-len.false, c.len.ensures)))) were)
    ]
