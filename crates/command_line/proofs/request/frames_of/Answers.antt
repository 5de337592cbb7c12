use Rattle.std.proofs.Common.{arith}
use Rattle.command_line.proofs.Asking.{nothing_for_frames, one_given, passes_not}
use Rattle.command_line.proofs.request.frames_of.Goals as goal

pub returns-then-not-are_valid-clause-none : goal.returns-then-not-are_valid-clause-none
returns-then-not-are_valid-clause-none c =
    nothing_for_frames c.args.words.now c.requires.command (λ valid name one. passes_not c.are_valid.result (c.are_valid.ensures.1 valid) c.if-not-are_valid.true)

pub returns-in_default-clause-none : goal.returns-in_default-clause-none
returns-in_default-clause-none c =
    nothing_for_frames c.args.words.now c.requires.command (λ valid name one.
    let given = one_given c.args.words.now name c.args.files.now c.requires.files one in grind (arith, given))
