-- What a call leaves as it was.
use Rattle.std.specs.Prelude.{◌≡◌, ◌+◌, ◌*◌, length}
use Rattle.planarbend_c.specs.declared.lists.Counts.{Counts}
use Rattle.planarbend_c.specs.Held.{ListsModel, IsSameAfter}
use Rattle.planarbend_c.specs.Cuts.{CutModel}

-- each list is as long as before, and the items after as many as are counted are the same
pub record AreSameAfter (counts : Counts) (before after : ListsModel) : Type 0 where
  pub angles : IsSameAfter (2 * counts.edges) before.angles after.angles
  pub turns : IsSameAfter (2 * counts.edges) before.turns after.turns
  pub vertices : IsSameAfter counts.vertices before.vertex_prices after.vertex_prices
  pub faces : IsSameAfter counts.faces before.face_prices after.face_prices
  pub points : IsSameAfter counts.vertices before.points after.points
  pub starts : IsSameAfter (counts.edges + 1) before.corner_starts after.corner_starts
  pub corners : IsSameAfter counts.corners before.corners after.corners

-- the lists of points are the same
pub record HaveSamePoints (before after : ListsModel) : Type 0 where
  pub points : after.points ≡ before.points
  pub starts : after.corner_starts ≡ before.corner_starts
  pub corners : after.corners ≡ before.corners

-- the lists of a cut are as long as before
pub record AreAsLong (before after : CutModel) : Type 0 where
  pub vertices : length after.vertices ≡ length before.vertices
  pub faces : length after.faces ≡ length before.faces
