use Rattle.std.proofs.Common.{◌≡◌, drop}
use Rattle.command_line.specs.declared.reading.Role.{Role}
use Rattle.command_line.specs.Requests.{fit_from}
use Rattle.command_line.proofs.reading.all_fit.Given as goal

abbrev pub invariant-loop-word : goal.invariant-loop-word
invariant-loop-word l = fit_from l.command l.role (drop l.word-index l.words) ≡ fit_from l.command Role.Command l.words
