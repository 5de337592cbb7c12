-- Faces as sets of darts, how large a face is, and which one is the outer one.
use Rattle.std.specs.Prelude.{◌≡◌, ℕ, ◌<◌, ◌≤◌, Bool, true}
use Prim.Native.Nat.{suc, zero}
pub use Rattle.embedding.specs.Faces.{degree_in, IsClosedUnder}

-- the outer face o among f faces of n darts: it has the most darts, and among equals it holds the least dart
pub record IsOuter (n : ℕ) (face : ℕ → ℕ) (f o : ℕ) : Type 0 where
  pub named : o < f
  pub most : (k : ℕ) → k < f → degree_in n face k ≤ degree_in n face o
  -- each dart of a face that is as large is preceded by a dart of the outer face, or is one
  pub first : (k d : ℕ) → degree_in n face k ≡ degree_in n face o → d < n → face d ≡ k
      → (e : ℕ) × (e ≤ d) × (face e ≡ o)

-- the dart that "next" leads to in k steps
abbrev pub steps : (ℕ → ℕ) → ℕ → ℕ → ℕ
steps next zero d = d
steps next (suc k) d = next (steps next k d)

-- the set s is a face: it holds some dart and is closed under "next", and each such set within it is all of it
pub record IsFace (n : ℕ) (next : ℕ → ℕ) (s : ℕ → Bool) : Type 0 where
  pub some : (d : ℕ) × (d < n) × (s d ≡ true)
  pub closed : IsClosedUnder n next s
  pub least : (t : ℕ → Bool) → IsClosedUnder n next t → ((d : ℕ) × (d < n) × (t d ≡ true))
      → ((d : ℕ) → d < n → t d ≡ true → s d ≡ true)
      → (d : ℕ) → d < n → s d ≡ true → t d ≡ true
