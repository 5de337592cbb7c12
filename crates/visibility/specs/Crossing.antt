-- The segments of two axes that cross one another.
use Rattle.std.specs.Prelude.{vec_len}
use Rattle.visibility.specs.declared.segments.Segments.{Segments}
use Rattle.visibility.specs.Axes.{AreListed, HaveEnds}

-- both are listed by their coordinates, and each segment begins and ends on one of the other axis
pub record AreCrossed (x y : Segments) : Type 0 where
  pub x_listed : AreListed x.segments.items x.firsts.items
  pub y_listed : AreListed y.segments.items y.firsts.items
  pub x_ends : HaveEnds x.segments.items (vec_len y.segments)
  pub y_ends : HaveEnds y.segments.items (vec_len x.segments)
