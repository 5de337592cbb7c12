use Rattle.std.proofs.Common.{◌∙◌, ap, map}
use Rattle.command_line.proofs.Asking.{files_of_run, passes_not}
use Rattle.command_line.proofs.request.run_of.Goals as goal

pub returns-then-not-are_valid-clause-none : goal.returns-then-not-are_valid-clause-none
returns-then-not-are_valid-clause-none c = λ valid run asked. passes_not c.are_valid.result (c.are_valid.ensures.1 valid) c.if-not-are_valid.true

pub returns-then-not-has_files-clause-none : goal.returns-then-not-has_files-clause-none
returns-then-not-has_files-clause-none c = λ valid run asked.
    passes_not c.has_files.result (c.has_files.ensures.1 (files_of_run c.args.words.now run c.as_slice.result.now (ap (map (λ file. file.now)) c.as_slice.ensures.value ∙ c.requires.files) asked))
    c.if-not-has_files.true
