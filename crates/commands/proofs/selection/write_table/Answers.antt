use Rattle.std.proofs.Common.{◌∙◌, inl, inr, refl, sym, true≢false}
use Rattle.std.proofs.lemmas.Result.{err_from_is_err_and}
use Rattle.commands.proofs.PickFaults.{no_misuse, no_misuse_written, prefix_of_written}
use Rattle.commands.proofs.FlawTexts.{has_failed}
use Rattle.commands.proofs.ReportBegun.{on_err}
use Rattle.commands.proofs.selection.write_table.Goals as goal

pub returns-clause-written : goal.returns-clause-written
returns-clause-written g c = (c.in_ok-counted.counted.counts, c.in_ok-counted.ensures.counted, c.in_ok-write_counts.ensures.1)

pub returns-in_err-counted-clause-begun : goal.returns-in_err-counted-clause-begun
returns-in_err-counted-clause-begun g c = on_err c.from_residual.result (inl refl)

pub returns-in_err-counted-clause-asked_well : goal.returns-in_err-counted-clause-asked_well
returns-in_err-counted-clause-asked_well g c =
    let p = err_from_is_err_and c.from_residual.result c.from_residual.ensures.1 in
    no_misuse _ _ _ _ p.1 p.2

pub returns-in_err-write_counts-clause-begun : goal.returns-in_err-write_counts-clause-begun
returns-in_err-write_counts-clause-begun g c =
    let is = c.in_ok-counted.ensures.counted in
    on_err c.from_residual-in_err-write_counts.result (inr (record {
      books = is.books;
      of_files = is.of_files;
      table = c.in_ok-counted.counted.counts;
      columns_are = is.columns_are;
      counted = is.is_table;
      text = prefix_of_written _ _ _ _ _ c.in_err-write_counts.ensures;
    }))

pub returns-in_err-write_counts-clause-asked_well : goal.returns-in_err-write_counts-clause-asked_well
returns-in_err-write_counts-clause-asked_well g c =
    let p = err_from_is_err_and c.from_residual-in_err-write_counts.result c.from_residual-in_err-write_counts.ensures.1 in
    no_misuse_written _ _ _ _ p.1 p.2

pub returns-in_err-write_counts-clause-unwritten : goal.returns-in_err-write_counts-clause-unwritten
returns-in_err-write_counts-clause-unwritten g c =
    on_err c.from_residual-in_err-write_counts.result (λ stands. absurd (true≢false (sym (has_failed _ _ _ _ _ c.in_err-write_counts.ensures) ∙ stands)))
