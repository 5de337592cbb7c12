use Rattle.std.proofs.Common.{◌≡◌, drop}
use Rattle.command_line.specs.Requests.{setting_text_from, setting_text_in}
use Rattle.command_line.proofs.reading.setting_text.Given as goal

abbrev pub invariant-loop-word : goal.invariant-loop-word
invariant-loop-word l = setting_text_from l.setting l.role (drop l.word-index l.words) ≡ setting_text_in l.setting l.words
