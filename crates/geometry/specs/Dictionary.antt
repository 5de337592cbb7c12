-- The active rectangles of a sweep, as a map by their bottom rows. Only the contracts of the sweep's private steps
-- mention them.
use Rattle.std.specs.Prelude.{◌≡◌, ℕ, ◌<◌, ◌≤◌, Option, Some}
use Rattle.geometry.specs.declared.plane_sweep.Rectangle.{Rectangle}
use Rattle.geometry.specs.Rectangles.{IsNonempty}

-- each rectangle is listed at its bottom row, and the rows of any two are disjoint
pub record IsSweepDictionary (held : ℕ → Option Rectangle) : Type 0 where
  pub keyed : (k : ℕ) (r : Rectangle) → held k ≡ Some r → r.bottom ≡ k
  pub filled : (k : ℕ) (r : Rectangle) → held k ≡ Some r → IsNonempty r
  pub disjoint : (j k : ℕ) (r s : Rectangle) → j < k → held j ≡ Some r → held k ≡ Some s → r.top < k

-- what is held afterwards was held before, and what was removed ended left of the new rectangle
pub record Clears (before after : ℕ → Option Rectangle) (new : Rectangle) : Type 0 where
  pub kept : (k : ℕ) (r : Rectangle) → after k ≡ Some r → before k ≡ Some r
  pub stays : (k : ℕ) (r : Rectangle) → before k ≡ Some r → new.left ≤ r.right → after k ≡ Some r

-- no held rectangle shares a row with the new one
abbrev pub IsFree : (ℕ → Option Rectangle) → Rectangle → Type 0
IsFree held new = (k : ℕ) (r : Rectangle) → held k ≡ Some r → k ≤ new.top → r.top < new.bottom

-- some held rectangle shares a row with the new one, and reaches its left column
abbrev pub IsMet : (ℕ → Option Rectangle) → Rectangle → Type 0
IsMet held new =
    (k : ℕ) × (r : Rectangle) × (held k ≡ Some r) × (k ≤ new.top) × (new.bottom ≤ r.top) × (new.left ≤ r.right)
