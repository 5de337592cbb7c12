use Rattle.std.proofs.Common.{◌≡◌, ◌<◌, vec_len, true, false}
use Rattle.visibility.specs.Axes.{AreFew}
use Rattle.visibility.proofs.listing.list_corners.Given as goal

abbrev pub invariant-loop-index : goal.invariant-loop-index
invariant-loop-index l = record {
  x : AreFew l.x.segments.items;
  y : AreFew l.y.segments.items;
  upright : l.vertical ≡ true → l.segment < vec_len l.x.segments;
  level : l.vertical ≡ false → l.segment < vec_len l.y.segments;
}
