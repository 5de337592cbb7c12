-- Faces given by numbers, and how often each of them turns.
use Rattle.std.specs.Prelude.{◌≡◌, ◌≢◌, ℕ, ◌+◌, ◌*◌, ◌<◌, ◌==◌, Bool, true, if◌then◌else◌}
use Rattle.common.specs.Sums.{sum_below}
use Rattle.dissect.specs.DartMaps.{DartMap}

-- two darts have one number exactly where they are of one face
pub record AreFaceNumbers (w : DartMap) (face_number : ℕ → ℕ) : Type 0 where
  pub stays : (a : ℕ) → a < w.darts → face_number (w.next a) ≡ face_number a
  -- each set closed under "next" that holds one dart of a face holds them all
  pub least : (s : ℕ → Bool) → ((a : ℕ) → a < w.darts → s a ≡ true → s (w.next a) ≡ true)
      → (a b : ℕ) → a < w.darts → b < w.darts → face_number a ≡ face_number b → s a ≡ true → s b ≡ true

-- how many darts the face f has
abbrev pub darts_around_face : DartMap → (ℕ → ℕ) → ℕ → ℕ
darts_around_face w face_number f = sum_below w.darts (λ a. if face_number a == f then 1 else 0)

-- the sum of their angles
abbrev pub angles_around_face : DartMap → (ℕ → ℕ) → ℕ → ℕ
angles_around_face w face_number f = sum_below w.darts (λ a. if face_number a == f then w.angle a else 0)

-- the walk turns once to the right round the outer face, and once to the left round each other face
pub record HasTurns (w : DartMap) (face_number : ℕ → ℕ) (outer : ℕ) : Type 0 where
  pub face_numbers : AreFaceNumbers w face_number
  pub inner : (a : ℕ) → a < w.darts → face_number a ≢ outer → angles_around_face w face_number (face_number a) + 4 ≡ 2 * darts_around_face w face_number (face_number a)
  pub outer_turns : angles_around_face w face_number outer ≡ 2 * darts_around_face w face_number outer + 4
