use Rattle.std.proofs.Common.{ℕ, ◌<◌, ◌≤◌, [], get_or}
use Rattle.embedding.specs.declared.neighbour_lists.TheConstants.{VERTEX_NUMBERS}
use Rattle.embedding.specs.Rules.{NamesTwice}
use Rattle.embedding.proofs.breaks.breaks_multi.Given as goal

abbrev pub invariant-loop-place : goal.invariant-loop-place
invariant-loop-place l =
    ((v : ℕ) → v < VERTEX_NUMBERS → get_or l.last v 0 ≤ l.place)
    × ((k : ℕ) → k < l.place → NamesTwice (get_or l.lists k []) → ⊥)
