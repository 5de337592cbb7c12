-- Lists of points as rectangles that cover them. Only private contracts speak of them.
use Rattle.std.specs.Prelude.{◌≡◌, ◌↔◌, min, max, Bool, ◌==◌, ◌&&◌, if◌then◌else◌, List, [], ◌∷◌, ◌++◌, Contains}
use Rattle.geometry.specs.declared.plane_sweep.Rectangle.{Rectangle}
use Rattle.geometry.specs.Rectangles.{Covers}
use Rattle.ortho_rep.specs.declared.grid_points.Point.{Point}
use Rattle.drawing_check.specs.Walks.{step_from, AreDistinct}

-- the least rectangle that covers both points
abbrev pub rectangle_between : Point → Point → Rectangle
rectangle_between a b = record { left = min a.x b.x; right = max a.x b.x; bottom = min a.y b.y; top = max a.y b.y }

-- whether two points are the same
abbrev pub same_point : Point → Point → Bool
same_point p q = (p.x == q.x) && (p.y == q.y)

-- the rectangles of a path's points between its ends: one for each part, with the corner at its end, and none
-- for a last part of one step
abbrev pub strips : List Point → List Rectangle
strips [] = []
strips (a ∷ []) = []
strips (a ∷ b ∷ []) =
    if same_point (step_from a b 1) b then [] else rectangle_between (step_from a b 1) (step_from b a 1) ∷ []
strips (a ∷ b ∷ c ∷ rest) = rectangle_between (step_from a b 1) b ∷ strips (b ∷ c ∷ rest)

-- the list has each point of the rectangle once, and no other
pub record Enumerates (r : Rectangle) (points : List Point) : Type 0 where
  pub once : AreDistinct points
  pub covered : (p : Point) → Contains points p ↔ Covers r p.x p.y

-- the list is a list for each of the rectangles, one after another
abbrev pub Shows : List Rectangle → List Point → Type 0
Shows [] points = points ≡ []
Shows (r ∷ rs) points = (front : List Point) × (back : List Point) × (points ≡ front ++ back) × Enumerates r front × Shows rs back
