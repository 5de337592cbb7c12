use Rattle.std.proofs.Common.{◌≡◌, ◌≤◌, ℕ, vec_len}
use Rattle.least_length.specs.Searching.{seen_at}
use Rattle.least_length.proofs.sight_lists.note_ends.Given as goal

abbrev pub invariant-loop-listed : goal.invariant-loop-listed
invariant-loop-listed l = record {
  listed : l.listed ≤ vec_len l.begun.nexts;
  same : (level : ℕ) → (seen_at l.frontier level).segment ≡ (seen_at l.initial.frontier level).segment;
}

abbrev pub decreases-loop-listed : goal.decreases-loop-listed
decreases-loop-listed l = l.listed
