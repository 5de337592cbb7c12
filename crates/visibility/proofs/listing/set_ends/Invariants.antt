use Rattle.std.proofs.Common.{◌<◌, ℕ, List, length}
use Rattle.visibility.specs.Axes.{segment_at, AreFew, AreListed, KeepEnds}
use Rattle.visibility.proofs.listing.set_ends.Given as goal

abbrev pub invariant-loop-place : goal.invariant-loop-place
invariant-loop-place l = record {
  few : AreFew l.segments;
  begins : (r : ℕ) → r < l.place → (segment_at l.segments r).begins_on < length l.others;
  ends : (r : ℕ) → r < l.place → (segment_at l.segments r).ends_on < length l.others;
  other_few : AreFew l.initial.others → AreFew l.others;
  other_listed : (firsts : List ℕ) → AreListed l.initial.others firsts → AreListed l.others firsts;
  other_ends : KeepEnds l.initial.others l.others;
}
