-- The rectangle round a map, and how the outer face of the plane looks out at it, in numbers that grow along the
-- boxes' darts.
use Rattle.std.specs.Prelude.{◌≡◌, ℕ, ◌<◌, ◌⊎◌, Bool, true}
use Rattle.faces.specs.Planes.{PlaneModel, darts, face_at}
use Rattle.ortho_rep.specs.Shapes.{ShapeModel}
use Rattle.dissect.specs.DartMaps.{DartMap}
use Rattle.dissect.specs.Boxes.{BoxesModel, dart_map}
use Rattle.dissect.specs.Boxed.{IsMapOfShape}
use Rattle.dissect.specs.Monotone.{IsMonotone}
use Rattle.drawing_laws.specs.Parts.{IsPart}

-- four vertices that are the corners of a rectangle along the axes
pub record RectangleCorners : Type 0 where
  pub south_west : ℕ
  pub south_east : ℕ
  pub north_east : ℕ
  pub north_west : ℕ

pub record AreRectangleCorners (x y : ℕ → ℕ) (c : RectangleCorners) : Type 0 where
  pub west : x c.north_west ≡ x c.south_west
  pub east : x c.north_east ≡ x c.south_east
  pub south : y c.south_east ≡ y c.south_west
  pub north : y c.north_west ≡ y c.north_east
  pub has_width : x c.south_west < x c.south_east
  pub has_height : y c.south_west < y c.north_west

-- the number of v lies strictly between those of u and t
abbrev pub Between : (ℕ → ℕ) → ℕ → ℕ → ℕ → Type 0
Between x u v t = (x u < x v) × (x v < x t)

-- the foot, a vertex on a side of the rectangle between two corners, is straight to the south, east, north or west of
-- the vertex v
abbrev pub LiesBeside : (ℕ → ℕ) → (ℕ → ℕ) → RectangleCorners → ℕ → ℕ → Type 0
LiesBeside x y c foot v =
    (Between x c.south_west foot c.south_east × (y foot ≡ y c.south_west) × (x foot ≡ x v) × (y foot < y v))
    ⊎ ((Between y c.south_east foot c.north_east × (x foot ≡ x c.south_east) × (y foot ≡ y v) × (x v < x foot))
    ⊎ ((Between x c.north_west foot c.north_east × (y foot ≡ y c.north_east) × (x foot ≡ x v) × (y v < y foot))
    ⊎ (Between y c.south_west foot c.north_west × (x foot ≡ x c.north_west) × (y foot ≡ y v) × (x foot < x v))))

-- the walk round the face of the dart a comes to each dart of the plane's outer face: each set of darts that is closed under "next" and
-- holds a holds them
abbrev pub IsOnOuterFace : PlaneModel → DartMap → ℕ → Type 0
IsOnOuterFace p w a =
    (s : ℕ → Bool) → ((c : ℕ) → c < w.darts → s c ≡ true → s (w.next c) ≡ true) → s a ≡ true
    → (d : ℕ) → d < darts p → face_at p d ≡ p.outer → s d ≡ true

-- the map of the shape is contained in the boxes, some corners are those of a rectangle, and a right turn of its outer
-- face looks at a side of that
pub record LooksOut (p : PlaneModel) (shape : ShapeModel) (b : BoxesModel) : Type 0 where
  pub enclosed_map : DartMap
  pub of_shape : IsMapOfShape p shape enclosed_map
  -- each of its darts ends at the same vertex in the boxes, and each part of an edge is a part of it there
  pub heads : (a : ℕ) → a < enclosed_map.darts → (dart_map b).head a ≡ enclosed_map.head a
  pub directions : (a : ℕ) → a < enclosed_map.darts → (dart_map b).direction a ≡ enclosed_map.direction a
  pub parts : (d a : ℕ) → d < darts p → IsPart enclosed_map d a → IsPart (dart_map b) d a
  -- round its outer face the walk turns to the right, or back, at the head of the dart `right`
  pub right : ℕ
  pub inside : right < enclosed_map.darts
  pub turns : 2 < enclosed_map.angle right
  pub on_outer : IsOnOuterFace p enclosed_map right
  -- in any coordinates, the corners are those of a rectangle, and the foot, on a side of it, is straight across from
  -- that turn
  pub corners : RectangleCorners
  pub foot : ℕ
  pub rectangle : (x y : ℕ → ℕ) → IsMonotone (dart_map b) x y → AreRectangleCorners x y corners
  pub before : (x y : ℕ → ℕ) → IsMonotone (dart_map b) x y → LiesBeside x y corners foot (enclosed_map.head right)
