-- The corners of all faces, listed, before the map is connected with its rectangle.
use Rattle.std.specs.Prelude.{◌≡◌, ◌≢◌, ℕ, ◌+◌, ◌*◌, ◌%◌, ◌<◌, List, [], ◌∷◌, ◌++◌, length, map}
use Rattle.dissect.specs.DartMaps.{DartMap}
use Rattle.dissect.specs.Faces.{IsCorner, Ring, In, Distinct, Below, concatenated, AreRings}
use Rattle.dissect.specs.Turning.{total}

-- the corners of the inner faces, and those of the outer face, which end with the right turn `right`
pub record AreListed (w : DartMap) (right : ℕ) (inner : List (List ℕ)) (outer : List ℕ) : Type 0 where
  pub rings : AreRings w inner
  pub distinct : Distinct (concatenated inner ++ outer)
  pub below : Below w.darts (concatenated inner ++ outer)
  pub ring : Ring w outer
  pub front : List ℕ
  pub ends : outer ≡ front ++ (right ∷ [])
  pub turns_back : total (map w.angle outer) ≡ 2 * length outer + 4
  pub all : (a : ℕ) → a < w.darts → IsCorner w a → In a (concatenated inner ++ outer)

-- the corners that the merged face has beside those of the outer face, where the map had n darts: along the cut to
-- the side `side` of the rectangle, round its inside and back
abbrev pub detour : ℕ → ℕ → List ℕ
detour n side =
    (n + 10) ∷ (n + side) ∷ (n + (side + 1) % 4) ∷ (n + (side + 2) % 4) ∷ (n + (side + 3) % 4) ∷ (n + 8) ∷ (n + 11) ∷ []

-- flat lists of corners and counts hold these faces
pub record AreFlat (corners counts : List ℕ) (faces : List (List ℕ)) : Type 0 where
  pub flat : corners ≡ concatenated faces
  pub lengths : counts ≡ map (λ (r : List ℕ). length r) faces

-- what the merged face keeps of the outer face's corners, which are `front` and then `right`: all of them, or all
-- but `right`, where that is straight after the bridge
pub record AreKeptCorners (w : DartMap) (right : ℕ) (front kept : List ℕ) : Type 0 where
  pub straight : w.angle right ≡ 3 → kept ≡ front
  pub turning : w.angle right ≢ 3 → kept ≡ front ++ (right ∷ [])

-- the faces of the map connected with its rectangle
pub record AreMergedFaces (w : DartMap) (right side : ℕ) (front : List ℕ) (inner : List (List ℕ)) (corners counts : List ℕ) : Type 0 where
  pub kept : List ℕ
  pub is_kept : AreKeptCorners w right front kept
  pub flat : AreFlat corners counts (inner ++ ((kept ++ detour w.darts side) ∷ []))
