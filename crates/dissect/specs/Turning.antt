-- Counting quarter turns along lists of angles: a corner with angle a turns left by 2 - a, so n corners turn
-- left by twice n less the sum of their angles. The stack's list has its top first.
use Rattle.std.specs.Prelude.{◌≡◌, ℕ, ◌+◌, ◌*◌, ◌<◌, ◌≤◌, List, [], ◌∷◌, length, take}

abbrev pub total : List ℕ → ℕ
total [] = 0
total (x ∷ xs) = x + total xs

-- each right turn is made good for by what comes after it
abbrev pub Rising : List ℕ → Type 0
Rising [] = Unit {0}
Rising (x ∷ xs) = (2 < x → x + total xs + 1 ≤ 2 * (length xs + 1)) × Rising xs

-- the same of the angles on a stack, above which `count` corners come with the sum `sum`
abbrev pub Hopeful : ℕ → ℕ → List ℕ → Type 0
Hopeful sum count [] = Unit {0}
Hopeful sum count (x ∷ st) = (2 < x → sum + x + 1 ≤ 2 * (count + 1)) × Hopeful (sum + x) (count + 1) st

-- on each right turn of the stack stands at most one left turn, of which `lefts` stand above the list
abbrev pub HasNoHook : ℕ → List ℕ → Type 0
HasNoHook lefts [] = Unit {0}
HasNoHook lefts (x ∷ st) = (2 < x → (lefts ≤ 1) × HasNoHook 0 st) × (x ≡ 1 → HasNoHook (lefts + 1) st)

-- the angles of corners
abbrev pub AreCornerAngles : List ℕ → Type 0
AreCornerAngles [] = Unit {0}
AreCornerAngles (x ∷ xs) = (1 ≤ x) × (x ≤ 4) × (x ≡ 2 → ⊥) × AreCornerAngles xs

abbrev pub AreLefts : List ℕ → Type 0
AreLefts [] = Unit {0}
AreLefts (x ∷ xs) = (x ≡ 1) × AreLefts xs

-- the walk along these corners has turned left most before place m, and less before each earlier place
pub record IsPeak (xs : List ℕ) (m : ℕ) : Type 0 where
  pub within : m ≤ length xs
  pub first : (j : ℕ) → j < m → 2 * j + total (take m xs) + 1 ≤ 2 * m + total (take j xs)
  pub most : (j : ℕ) → j ≤ length xs → 2 * j + total (take m xs) ≤ 2 * m + total (take j xs)
