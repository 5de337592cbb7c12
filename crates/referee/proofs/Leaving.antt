-- The directions of darts at the ends of a route.
use Rattle.std.proofs.Common.{◌≡◌, ℕ, ◌+◌, ◌<◌, true, List, [], ◌∷◌, ◌++◌, length, length-append, sym, ap, ◌∙◌, arith}
use Rattle.geometry.specs.declared.direction.Direction.{Direction}
use Rattle.faces.specs.Planes.{PlaneModel, HasEnds, darts, reverse_dart}
use Rattle.ortho_rep.specs.declared.grid_points.Point.{Point}
use Rattle.ortho_rep.specs.Points.{PointsModel}
use Rattle.ortho_rep.specs.Edges.{is_lesser}
use Rattle.drawing_check.specs.Paths.{path_along, point_of}
use Rattle.drawing_check.specs.Draws.{direction_between, direction_of, leaving}
use Rattle.drawing_check.proofs.Leaving.{point_of-end, leaving-lesser, leaving-reverse_dart}
use Rattle.drawing_check.specs.declared.route.Route.{Route}
use Rattle.drawing_check.specs.Routes.{path_of}

pub leaves_out : (p : PlaneModel) (points : PointsModel) (d : ℕ) (route : Route) (q : Point) (v : Direction) → is_lesser p d ≡ true → path_of route ≡ path_along p points d → q ≡ point_of (path_of route) 1 → v ≡ direction_between route.start q → v ≡ leaving p points d
leaves_out p points d route q v lesser is_path is_q is_v =
    is_v ∙ ap (λ (u : Point). direction_between route.start u) is_q
    ∙ ap (λ (l : List Point). direction_of l 0) is_path ∙ sym (leaving-lesser p points d lesser)

pub leaves_back : (p : PlaneModel) (points : PointsModel) (d : ℕ) (route : Route) (q : Point) (v : Direction) → HasEnds p → d < darts p → is_lesser p d ≡ true → path_of route ≡ path_along p points d → q ≡ point_of (path_of route) (length route.corners.now) → v ≡ direction_between route.end q → v ≡ leaving p points (reverse_dart p d)
leaves_back p points d route q v ends inside lesser is_path is_q is_v =
    let n = length route.corners.now in
    let size : length (path_of route) ≡ n + 2 = omega (arith, length-append route.corners.now (route.end ∷ [])) in
    is_v
    ∙ ap (λ (u : Point). direction_between route.end u) is_q
    ∙ ap (λ (u : Point). direction_between u (point_of (path_of route) n)) (sym (point_of-end route.start route.end route.corners.now))
    ∙ ap (λ (l : List Point). direction_between (point_of l (n + 1)) (point_of l n)) is_path
    ∙ sym (leaving-reverse_dart p points d n ends inside lesser (sym (ap length is_path) ∙ size))
