use Rattle.std.proofs.Common.{arith, refl}
use Rattle.std.proofs.lemmas.Bool.{ne_eqb}
use Rattle.lanes.specs.Notes.{Item}
use Rattle.lanes.proofs.Drafting.{drafts_item, drafts_other}
use Rattle.lanes.proofs.gathering.DraftsConsumer.item.Goals as goal

pub returns-in-Ok-clause-taken : goal.returns-in-Ok-clause-taken
returns-in-Ok-clause-taken g c = λ ns were. drafts_item _ 0 ns _ _ c.index_mut.result.now _ c.args.item (omega (arith, c.if-file-len.true, c.len.ensures)) (omega (arith, c.file-file.ensures)) c.index_mut.ensures.value c.in-Ok.ensures.items refl were

pub returns-else-file-len-clause-taken : goal.returns-else-file-len-clause-taken
returns-else-file-len-clause-taken g c = λ ns were. drafts_other _ 0 ns (Item (g.E.Numbered.about c.args.item)) _ (λ file from to. ne_eqb (g.E.Numbered.about c.args.item).file file (λ same. absurd (omega (arith, from, to, same, c.if-file-len.false, c.file-file.ensures, c.len.ensures)))) were
