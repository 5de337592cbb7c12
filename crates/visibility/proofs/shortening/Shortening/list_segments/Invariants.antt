use Rattle.std.proofs.Common.{◌≡◌, ◌≤◌, ◌<◌, ℕ, length, vec_len}
use Rattle.std.specs.Prelude.{slice_index}
use Rattle.visibility.proofs.shortening.Shortening.list_segments.Given as goal

abbrev pub invariant-loop-first : goal.invariant-loop-first
invariant-loop-first l = record {
  count : vec_len l.self.places ≡ length l.segments;
  places : (r : ℕ) → r < length l.segments → slice_index l.self.places.items r < length l.segments;
}

abbrev pub invariant-loop : goal.invariant-loop
invariant-loop l = record {
  count : vec_len l.self.places ≡ length l.segments;
  places : (r : ℕ) → r < length l.segments → slice_index l.self.places.items r < length l.segments;
  named : l.named ≤ length l.segments;
}
