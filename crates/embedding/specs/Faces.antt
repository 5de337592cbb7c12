-- Faces are the least nonempty sets of darts that are closed under "next", numbered from 0 in the order of
-- their least darts.
use Rattle.std.specs.Prelude.{◌≡◌, ℕ, ◌<◌, ◌==◌, Bool, true, if◌then◌else◌}
use Rattle.common.specs.Sums.{sum_below}

-- n darts have f faces, and dart d has the face `face d`
pub record HasFaces (n : ℕ) (next face : ℕ → ℕ) (f : ℕ) : Type 0 where
  -- each dart has a face
  pub named : (d : ℕ) → d < n → face d < f
  -- each face has a dart
  pub used : (k : ℕ) → k < f → (d : ℕ) × (d < n) × (face d ≡ k)
  -- a face is closed under "next"
  pub closed : (d : ℕ) → d < n → face (next d) ≡ face d
  -- and a least such set: each set closed under "next" that holds one of its darts holds them all
  pub least : (s : ℕ → Bool) → ((d : ℕ) → d < n → s d ≡ true → s (next d) ≡ true)
      → (d e : ℕ) → d < n → e < n → face d ≡ face e → s d ≡ true → s e ≡ true
  -- each face below that of a dart has a dart before it, so the faces stand in the order of their least darts
  pub ordered : (d k : ℕ) → d < n → k < face d → (e : ℕ) × (e < d) × (face e ≡ k)

-- how many of n darts have the face k: its degree
abbrev pub degree_in : ℕ → (ℕ → ℕ) → ℕ → ℕ
degree_in n face k = sum_below n (λ d. if face d == k then 1 else 0)

-- the set s of darts holds with each dart its next
abbrev pub IsClosedUnder : ℕ → (ℕ → ℕ) → (ℕ → Bool) → Type 0
IsClosedUnder n next s = (d : ℕ) → d < n → s d ≡ true → s (next d) ≡ true
