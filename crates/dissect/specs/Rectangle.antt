-- The rectangle round a map, and how the two are connected. The map `inner` has n darts and v vertices, which have the
-- same numbers in the map that holds it.
use Rattle.std.specs.Prelude.{◌≡◌, ◌≢◌, ℕ, ◌+◌, ◌%◌, ◌<◌, List, [], ◌∷◌}
use Rattle.dissect.specs.DartMaps.{DartMap}
use Rattle.dissect.specs.Faces.{In, IsOutside}
use Rattle.dissect.specs.Paths.{HasPath, IsPath}

-- a straight chain of darts ends with the dart `end`, and the chain the other way along it with the dart `back`
pub record IsStraightChain (w : DartMap) (end back : ℕ) : Type 0 where
  pub there : HasPath w end back []
  pub again : HasPath w back end []

-- the place where the dart `at` arrives lies on the chain that ends with the dart `end`, before its end
pub record IsInsideChain (w : DartMap) (end at : ℕ) : Type 0 where
  pub first : ℕ
  pub rest : List ℕ
  pub path : IsPath w end first rest
  pub passes : In at (first ∷ rest)
  pub before_end : at ≢ end

-- A rectangle stands round the map. Its corners are the vertices v to v + 3. Its four sides are straight chains of darts: those
-- round its inside end with the darts n + 0 .. 3 and run to the east, north, west and south, those round its outside end with the
-- darts n + 4 .. 7.
pub record HasRectangle (inner w : DartMap) : Type 0 where
  pub sides : (k : ℕ) → k < 4 → IsStraightChain w (inner.darts + k) (inner.darts + 4 + k)
  pub directions : (k : ℕ) → k < 4 → w.direction (inner.darts + k) ≡ k
  pub inside : (k : ℕ) → k < 4 → w.head (inner.darts + k) ≡ inner.vertices + k
  -- the walk round the outside turns right at each corner, and nowhere else
  pub corners : (k : ℕ) → k < 4 → w.head (inner.darts + 4 + k) ≡ inner.vertices + (k + 3) % 4
  pub outside : (k : ℕ) → k < 4 → IsOutside w (inner.darts + 4) (inner.darts + 4 + k)

-- A straight chain of darts, which ends with the dart n + 10 and the other way with n + 11, connects the map with a side of its
-- rectangle: it sets out where the dart `right` arrives, and leaves a right angle between itself and the next edge on its left.
pub record IsBridgedAt (inner : DartMap) (right : ℕ) (w : DartMap) : Type 0 where
  pub chain : IsStraightChain w (inner.darts + 10) (inner.darts + 11)
  pub from : w.head (inner.darts + 11) ≡ w.head right
  pub leaves : (w.direction (inner.darts + 10) + 1 + inner.angle right) % 4 ≡ w.direction right
  -- it comes to the side at a right angle, between the corners, where the dart n + 8 arrives
  pub side : ℕ
  pub side_in : side < 4
  pub meets : (w.direction (inner.darts + 10) + 1) % 4 ≡ side
  pub to : w.head (inner.darts + 10) ≡ w.head (inner.darts + 8)
  pub on_side : IsInsideChain w (inner.darts + side) (inner.darts + 8)
