-- The invariant of tickets: the numbers that the seats drew are those below the word, or below the limit if the word is
-- greater, each once. The word counts the numbers drawn and the seats that have ended.
use Rattle.std.specs.Prelude.{◌≡◌, ◌==◌, ◌+◌, ◌<◌, ◌≤◌, ℕ, min, List, [], ◌∷◌, ◌++◌, length, count_by, sum_by}
use mathlib.Core.Option.{some}
use lib.ListN.{get_elem?}
use Rattle.ruled_lanes.specs.declared.tickets.Draws.{Draws}

abbrev pub draws : ℕ → ℕ → ℕ → List ℕ → Draws
draws limit shares ends drawn = record { limit = limit; shares = shares; ends = ends; drawn = drawn }

-- how often x occurs in the list
abbrev pub times : ℕ → List ℕ → ℕ
times x xs = count_by (λ y. y == x) xs

-- by this count each number below n occurs once, and no other number occurs
abbrev pub CountsOnceBelow : ℕ → (ℕ → ℕ) → Type 0
CountsOnceBelow n count = (x : ℕ) → (x < n → count x ≡ 1) × (n ≤ x → count x ≡ 0)

-- the list has each number below n once, and no other number
abbrev pub HasOnceBelow : ℕ → List ℕ → Type 0
HasOnceBelow n xs = CountsOnceBelow n (λ x. times x xs)

-- what a seat knows after a draw that found n
abbrev pub DrawsNext : Draws → ℕ → Draws → Type 0
DrawsNext v n w =
    (n < v.limit → w ≡ draws v.limit v.shares v.ends (v.drawn ++ n ∷ [])) × (v.limit ≤ n → w ≡ draws v.limit v.shares (v.ends + 1) v.drawn)

-- a pass that represents no seat knows nothing, and one that represents some knows the limit
abbrev pub Stands : ℕ → ℕ → Draws → Type 0
Stands limit pass v = (v.ends ≤ v.shares) × (v.shares ≡ 0 → v.drawn ≡ []) × (0 < v.shares → v.limit ≡ limit)

pub record IsDealt (key : ℕ × ℕ) (words : List ℕ) (views : List Draws) : Type 0 where
  pub word : ℕ
  pub only : words ≡ word ∷ []
  -- each seat is represented
  pub shares : sum_by (λ (v : Draws). v.shares) views ≡ key.1
  pub once : CountsOnceBelow (min word key.0) (λ x. sum_by (λ (v : Draws). times x v.drawn) views)
  pub count : sum_by (λ (v : Draws). length v.drawn) views ≡ min word key.0
  pub ended : sum_by (λ (v : Draws). v.ends) views + min word key.0 ≡ word
  pub each : (pass : ℕ) (v : Draws) → get_elem? views pass ≡ some v → Stands key.0 pass v
