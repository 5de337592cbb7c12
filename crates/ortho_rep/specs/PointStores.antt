-- What stored points stand for.
use Rattle.ortho_rep.specs.declared.grid_points.PointStore.{PointStore}
use Rattle.ortho_rep.specs.declared.grid_points.PointStore.TheVariants.{InTwoLists, Concatenated}
use Rattle.ortho_rep.specs.Points.{PointsModel}
use Rattle.ortho_rep.specs.Storage.{lists_in}

abbrev pub points_of : PointStore → PointsModel
points_of (InTwoLists vertices corners) = record { vertices = vertices.items; corners = lists_in corners.items }
points_of (Concatenated points) = points
