use Rattle.std.proofs.Common.{◌≡◌, ◌++◌, List, ℕ, Bor, drop, map}
use Rattle.command_line.specs.Requests.{files_from, files_in}
use Rattle.command_line.proofs.reading.files_of.Given as goal

abbrev pub invariant-loop-word : goal.invariant-loop-word
invariant-loop-word l =
    map (λ (file : Bor (List ℕ)). file.now) l.files.items ++ files_from l.role (drop l.word-index l.words) ≡ files_in l.words
