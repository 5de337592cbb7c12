-- The darts of neighbour lists: each entry v in the list of u is the dart from u, its tail, to v, its head.
-- Darts are numbered from 0 in the order in which their entries stand.
use Rattle.std.specs.Prelude.{◌≡◌, ◌<◌, ℕ, ◌+◌, ◌==◌, ◌&&◌, Bool, List, [], ◌∷◌, ◌++◌, length, slice_index, replicate, take, if◌then◌else◌}
use Prim.Native.Nat.{suc, zero}

-- the heads of all darts: the lists, one after another
abbrev pub heads : List (List ℕ) → List ℕ
heads [] = []
heads (l ∷ ls) = l ++ heads ls

-- the tails of all darts, where the first list is that of vertex u
abbrev pub tails_from : ℕ → List (List ℕ) → List ℕ
tails_from u [] = []
tails_from u (l ∷ ls) = replicate (length l) u ++ tails_from (u + 1) ls

-- how many darts there are
abbrev pub dart_count : List (List ℕ) → ℕ
dart_count g = length (heads g)

-- the number of the first dart of the list at place k
abbrev pub first_dart : List (List ℕ) → ℕ → ℕ
first_dart g k = length (heads (take k g))

-- the vertex that dart d goes to
abbrev pub head_of : List (List ℕ) → ℕ → ℕ
head_of g d = slice_index (heads g) d

-- the vertex that dart d comes from
abbrev pub tail_of : List (List ℕ) → ℕ → ℕ
tail_of g d = slice_index (tails_from 1 g) d

-- the least number below n for which the test is true, or n if there is none
abbrev pub first_below : ℕ → (ℕ → Bool) → ℕ
first_below zero passes = zero
first_below (suc n) passes = if passes 0 then 0 else suc (first_below n (λ k. passes (suc k)))

-- the dart along the same edge the other way
abbrev pub reverse_of : List (List ℕ) → ℕ → ℕ
reverse_of g d =
    first_below (dart_count g) (λ e. (tail_of g e == head_of g d) && (head_of g e == tail_of g d))

-- the next dart clockwise from the same vertex: the next entry of its list, after the last one the first
abbrev pub after_of : List (List ℕ) → ℕ → ℕ
after_of g d =
    if tail_of g (d + 1) == tail_of g d then d + 1
    else first_below (dart_count g) (λ e. tail_of g e == tail_of g d)

-- the next dart of the face on the left
abbrev pub next_of : List (List ℕ) → ℕ → ℕ
next_of g d = after_of g (reverse_of g d)

-- f maps the numbers below n to such numbers, and each back from where it went
pub record IsInvolution (n : ℕ) (f : ℕ → ℕ) : Type 0 where
  pub inside : (d : ℕ) → d < n → f d < n
  pub back : (d : ℕ) → d < n → f (f d) ≡ d

-- f maps the numbers below n to such numbers, and no two to one
pub record IsOneToOne (n : ℕ) (f : ℕ → ℕ) : Type 0 where
  pub inside : (d : ℕ) → d < n → f d < n
  pub one : (d e : ℕ) → d < n → e < n → f d ≡ f e → d ≡ e
