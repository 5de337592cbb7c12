use Rattle.std.proofs.Common.{arith, ap, ◌+◌, ℕ}
use Rattle.embedding.proofs.RowWords.{rows_more, each_more, columns_more}
use Rattle.embedding.proofs.adjacency.fill_rows.Goals as goal

pub loop-place-preserved : goal.loop-place-preserved
loop-place-preserved c =
    let g = c.args.lists.now in
    let place = c.loop-place.place in
    let made = c.in-Some.ensures in
    record {
      rows = rows_more g c.loop-place.rows _ place c.in-Some.row _ (ap (λ (k : ℕ). k + 1) c.from.ensures) (omega arith) c.at.ensures.value made.bits c.loop-place.invariant.rows;
      each = each_more g _ place _ c.count-n.ensures.count c.at.ensures.value made.row c.loop-place.invariant.each;
      columns = columns_more g place _ c.loop-place.columns _ c.at.ensures.value made.columns made.kept c.loop-place.invariant.columns;
    }
