use Rattle.std.proofs.Common.{◌+◌, [], length, get_or, sym, ◌∙◌, arith}
use Rattle.std.proofs.lemmas.Bool.{true≢false}
use Rattle.std.proofs.lemmas.Bool.Decides.{Decides-eqb}
use Rattle.std.proofs.lemmas.Slice.Eq.{slice_eq-Decides}
use Rattle.embedding.proofs.RowBits.{blank_bits}
use Rattle.embedding.proofs.RowWords.{answered}
use Rattle.embedding.proofs.SmallGraphs.{small_keeps}
use Rattle.embedding.proofs.adjacency.is_small_graph.Goals as goal
use Rattle.embedding.proofs.adjacency.is_small_graph.Goals.{then-fill_rows, else-fill_rows}

pub fill_rows-requires-clause-empty : goal.fill_rows-requires-clause-empty
fill_rows-requires-clause-empty c = λ u v has. blank_bits 64 u v has

pub returns-then-eq : goal.returns-then-eq
returns-then-eq c =
    λ reached.
    elim c.if-fill_rows.branch [
      | then-fill_rows w ↦
          let rows = c.fill_rows.new.rows in
          let same = (slice_eq-Decides Decides-eqb _ _ _ w.eq.ensures).0 (sym w.value-is ∙ c.if-eq.true) in
          let each = c.fill_rows.ensures.lists w.if-fill_rows.true in
          small_keeps c.args.lists.now rows
          (record {
            some = omega (arith, c.count.ensures.count, c.count.ensures.some);
            words = c.fill_rows.ensures.rows w.if-fill_rows.true;
            each = each;
            answered = λ k below. answered rows c.fill_rows.new.columns (get_or c.args.lists.now k []) (length c.args.lists.now) (c.from-end.result + 1) (k + 1) (omega (arith, c.from-end.ensures, c.count-2.ensures.count)) same (each k below).range (c.fill_rows.ensures.columns w.if-fill_rows.true k below);
            reached = λ s one kept v from to. c.reaches_all.ensures reached s one kept v from (omega (arith, to, c.count-then-eq.ensures.count));
          })
      | else-fill_rows w ↦
          absurd (true≢false (sym c.if-eq.true ∙ w.value-is ∙ w.if-fill_rows.false))
    ]
