use Rattle.std.proofs.Common.{◌≡◌, ◌≤◌, ◌<◌, vec_len}
use Rattle.visibility.specs.Axes.{AreFew}
use Rattle.visibility.proofs.segments.Segments.add_straight.Given as goal

abbrev pub invariant-loop-steps : goal.invariant-loop-steps
invariant-loop-steps l = record {
  last : 0 < l.last;
  of : vec_len l.self.of ≡ vec_len l.initial.self.of;
  edges : vec_len l.self.edges.beside ≡ vec_len l.initial.self.edges.beside;
  few : AreFew l.self.segments.items;
  added : l.segment < vec_len l.self.segments;
}
