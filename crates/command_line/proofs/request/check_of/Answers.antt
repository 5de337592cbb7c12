use Rattle.std.proofs.Common.{arith}
use Rattle.command_line.proofs.Asking.{nothing_for_check, files_of_check, two_given, passes_not}
use Rattle.command_line.proofs.request.check_of.Goals as goal

pub returns-then-not-are_valid-clause-none : goal.returns-then-not-are_valid-clause-none
returns-then-not-are_valid-clause-none c =
    nothing_for_check c.args.words.now c.requires.command (λ valid once graphs lines two. passes_not c.are_valid.result (c.are_valid.ensures.1 valid) c.if-not-are_valid.true)

pub returns-then-not-has_files-clause-none : goal.returns-then-not-has_files-clause-none
returns-then-not-has_files-clause-none c =
    nothing_for_check c.args.words.now c.requires.command (λ valid once graphs lines two.
    passes_not c.has_files.result (c.has_files.ensures.1 (files_of_check c.args.words.now graphs lines c.args.files.now c.requires.files two once)) c.if-not-has_files.true)

pub returns-in_default-clause-none : goal.returns-in_default-clause-none
returns-in_default-clause-none c =
    nothing_for_check c.args.words.now c.requires.command (λ valid once graphs lines two.
    let given = two_given c.args.words.now graphs lines c.args.files.now c.requires.files two in grind (arith, given))
