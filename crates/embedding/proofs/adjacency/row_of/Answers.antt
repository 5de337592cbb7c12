use Rattle.std.proofs.Common.{ℕ, get_or, refl, sym, ◌∙◌, arith}
use Rattle.std.proofs.lemmas.Bool.{eqb-false}
use Rattle.std.proofs.lemmas.Nat.Bits.{shr_and_one}
use Rattle.embedding.proofs.RowWords.{read_more, flagged_more, read_row}
use Rattle.embedding.proofs.adjacency.row_of.Goals as goal

pub loop-entry-preserved : goal.loop-entry-preserved
loop-entry-preserved c =
    let entry : ℕ = get_or c.args.list.now c.loop-entry.entry-index 0 in
    let (range, other) = c.if-not-is_other.ensures refl in
    record {
      row = read_more c.args.n c.args.vertex c.args.list.now c.loop-entry.entry-index c.loop-entry.row entry (omega (arith, range, c.requires.few)) refl range other (λ has. c.if-row-entry-eq1.false (shr_and_one c.loop-entry.row entry ∙ has)) c.loop-entry.invariant.row;
      columns = flagged_more c.args.vertex c.args.list.now c.loop-entry.entry-index c.from.result c.args.columns.now c.loop-entry.columns (omega (arith, c.requires.vertex)) (omega (arith, range, c.requires.few, c.from.ensures, c.loop-entry.invariant.columns.size)) c.from.ensures c.loop-entry.invariant.columns;
    }

pub returns-clause-row : goal.returns-clause-row
returns-clause-row c =
    read_row c.args.n c.args.vertex c.args.list.now c.loop-entry.entry-index c.loop-entry.row (omega (arith, eqb-false _ _ (sym c.if-is_empty.ensures))) (omega arith) (omega arith) c.loop-entry.invariant.row
