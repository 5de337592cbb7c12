-- Where a dart stands: which list, and which place in it.
use Rattle.std.proofs.Common.{◌≡◌, ℕ, zero, suc, ◌+◌, ◌-◌, ◌<◌, List, [], ◌∷◌, ◌++◌, length, get_or, take, replicate, refl, ap, ◌∙◌, inl, inr, arith}
use Rattle.std.proofs.lemmas.List.{get_or-replicate, get_or_append_left, get_or-append-add, length-append, length-replicate}
use Rattle.std.proofs.lemmas.Bool.{cases_lt}
use Rattle.embedding.specs.Darts.{heads, tails_from, first_dart}

-- dart d is place i of list k, where the first list is that of vertex b
pub record Stands (b : ℕ) (g : List (List ℕ)) (d k i : ℕ) : Type 0 where
  pub list : k < length g
  pub place : i < length (get_or g k [])
  pub number : d ≡ first_dart g k + i
  pub tail : get_or (tails_from b g) d 0 ≡ b + k
  pub head : get_or (heads g) d 0 ≡ get_or (get_or g k []) i 0

-- an element of the second of two lists
get_or-second : (xs ys : List ℕ) (n p q : ℕ) → length xs ≡ n → p ≡ n + q → get_or (xs ++ ys) p 0 ≡ get_or ys q 0
get_or-second xs ys n p q l e =
    let at : p ≡ length xs + q = omega arith in rw at (get_or-append-add xs ys q 0)

pub length-tails_from : (b : ℕ) (g : List (List ℕ)) → length (tails_from b g) ≡ length (heads g)
length-tails_from b [] = refl
length-tails_from b (l ∷ ls) =
    simp (length-append, length-replicate) (ap (λ n. length l + n) (length-tails_from (b + 1) ls))

pub stands_at : (b : ℕ) (g : List (List ℕ)) (d k i : ℕ) → k < length g → i < length (get_or g k []) → d ≡ first_dart g k + i → Stands b g d k i
stands_at b [] d k i below inside number = absurd (omega arith)
stands_at b (l ∷ ls) d zero i below inside number =
    let same : d ≡ i = omega arith in
    record {
      list = below;
      place = inside;
      number = number;
      tail =
          rw (same, get_or_append_left (replicate (length l) b) (tails_from (b + 1) ls) 0 i (rw length-replicate inside), get_or-replicate (length l) i b 0 inside)
          (omega arith);
      head = rw (same) (get_or_append_left l (heads ls) 0 i inside);
    }
stands_at b (l ∷ ls) d (suc k) i below inside number =
    let longer : length (l ++ heads (take k ls)) ≡ length l + first_dart ls k = length-append l (heads (take k ls)) in
    let rest : Stands (b + 1) ls (first_dart ls k + i) k i =
    stands_at (b + 1) ls (first_dart ls k + i) k i (omega arith) inside refl in
    let later : d ≡ length l + (first_dart ls k + i) = omega arith in
    record {
      list = below;
      place = inside;
      number = number;
      tail =
          get_or-second (replicate (length l) b) (tails_from (b + 1) ls) (length l) d (first_dart ls k + i) (length-replicate (length l) b) later ∙ rest.tail ∙ omega arith;
      head =
          get_or-second l (heads ls) (length l) d (first_dart ls k + i) refl later ∙ rest.head;
    }

pub some_place : (g : List (List ℕ)) (d : ℕ) → d < length (heads g) → (k i : ℕ) × (k < length g) × (i < length (get_or g k [])) × (d ≡ first_dart g k + i)
some_place [] d below = absurd (omega arith)
some_place (l ∷ ls) d below =
    elim (cases_lt d (length l)) [
      | inl early ↦ (0, d, omega arith, early, omega arith)
      | inr late ↦
          let rest = some_place ls (d - length l) (omega (arith, length-append l (heads ls))) in
          let there : d - length l ≡ first_dart ls rest.0 + rest.1 = rest.4 in
          (suc rest.0, rest.1, omega (arith, rest.2), rest.3, omega (arith, length-append l (heads (take rest.0 ls))))
    ]

-- each dart stands somewhere
pub dart_stands : (b : ℕ) (g : List (List ℕ)) (d : ℕ) → d < length (heads g) → (k i : ℕ) × Stands b g d k i
dart_stands b g d below =
    let (k, i, list, place, number) = some_place g d below in (k, i, stands_at b g d k i list place number)

-- a dart that stands somewhere is one of the darts
pub stands_below : (g : List (List ℕ)) (k i : ℕ) → k < length g → i < length (get_or g k []) → first_dart g k + i < length (heads g)
stands_below [] k i below inside = absurd (omega arith)
stands_below (l ∷ ls) zero i below inside = omega (arith, length-append l (heads ls), inside)
stands_below (l ∷ ls) (suc k) i below inside =
    let rest : first_dart ls k + i < length (heads ls) = stands_below ls k i (omega arith) inside in
    omega (arith, length-append l (heads ls), length-append l (heads (take k ls)))
