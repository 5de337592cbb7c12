-- In which face of the plane each dart of a map lies. The first n darts of the map are those of the plane, of which dart d has the
-- face `face d` on its left.
use Rattle.std.specs.Prelude.{◌≡◌, ℕ, ◌+◌, ◌<◌, ◌⊎◌}
use Rattle.faces.specs.Planes.{PlaneModel, darts, face_at}
use Rattle.dissect.specs.DartMaps.{DartMap}
use Rattle.dissect.specs.Paths.{IsPart}

-- A labelling gives each dart the face of the plane in which its left side lies.
pub record IsLabelling (n : ℕ) (face : ℕ → ℕ) (w : DartMap) (label : ℕ → ℕ) : Type 0 where
  -- all darts of one face of the map have one label
  pub round : (a : ℕ) → a < w.darts → label (w.next a) ≡ label a
  -- a part of a dart of the plane has on its left the face that this dart has there
  pub parts : (d a : ℕ) → d < n → IsPart w d a → label a ≡ face d
  -- each dart is a part of a dart of the plane, or has one label on both its sides
  pub sides : (a : ℕ) → a < w.darts → ((d : ℕ) × (d < n) × IsPart w d a) ⊎ (label (w.reverse_dart a) ≡ label a)

-- the map `new` has a labelling too, in which the darts of the map w keep their labels
pub record KeepsLabels (n : ℕ) (face : ℕ → ℕ) (w : DartMap) (label : ℕ → ℕ) (new : DartMap) : Type 0 where
  pub now : ℕ → ℕ
  pub labelling : IsLabelling n face new now
  pub kept : (a : ℕ) → a < w.darts → now a ≡ label a

-- the same of a map in a rectangle, whose sides have darts that come after those of w and have the label of `outer`
pub record KeepsLabelsInside (n : ℕ) (face : ℕ → ℕ) (w : DartMap) (label : ℕ → ℕ) (outer : ℕ) (new : DartMap) : Type 0 where
  pub keeps : KeepsLabels n face w label new
  pub ring : (k : ℕ) → k < 8 → keeps.now (w.darts + k) ≡ label outer

-- a map made of the plane p has a labelling by the plane's faces; the eight darts from `ring` on, one along each side of the rectangle
-- round the map inside it and one outside it, have the outer face
pub record IsLabelled (p : PlaneModel) (w : DartMap) (ring : ℕ) : Type 0 where
  pub label : ℕ → ℕ
  pub labelling : IsLabelling (darts p) (face_at p) w label
  pub outer : (k : ℕ) → k < 8 → label (ring + k) ≡ p.outer
