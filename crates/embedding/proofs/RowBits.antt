-- Words of bits.
use Rattle.std.proofs.Common.{◌≡◌, ◌⊎◌, ℕ, ◌+◌, ◌-◌, ◌*◌, ◌%◌, ◌^◌, ◌<◌, ◌≤◌, Bool, true, List, get_or, replicate, ap, ◌∙◌, subst, inl, inr, arith, w64, bit_and, bit_or}
use Rattle.std.specs.Int.{bit_at}
use Rattle.std.proofs.lemmas.Bool.{cases_eq}
use Rattle.std.proofs.lemmas.Nat.Bits.{bit_at-lt, bit_at-zero, bit_at-pow_other, bit_at_and, bit_at_or, bit_at_set_other, bit_at_mask_inside}
use Rattle.std.proofs.lemmas.Nat.{one_shl}
use Rattle.embedding.specs.Rows.{HasBit, IsClosedUnderRows}
use Rattle.embedding.proofs.EachList.{blank_le}

-- ---- bits

pub bit_of_one : (k v : ℕ) → k < 64 → HasBit (1 * 2 ^ k % 2 ^ 64) v → v ≡ k
bit_of_one k v below has =
    elim (cases_eq v k) [
      | inl same ↦ same
      | inr other ↦ absurd (omega (arith, has, bit_at_set_other w64 0 k below v other, bit_at-zero v))
    ]

pub bit_of_or : (a b v : ℕ) → HasBit (bit_or a b) v → HasBit a v ⊎ HasBit b v
bit_of_or a b v has =
    elim (cases_eq (bit_at a v) 1) [
      | inl first ↦ inl first
      | inr other ↦ inr (omega (arith, has, other, bit_at_or a b v, bit_at-lt a v, bit_at-lt b v))
    ]

pub bit_of_and : (a b v : ℕ) → HasBit (bit_and a b) v → HasBit a v × HasBit b v
bit_of_and a b v has =
    let both = bit_at_and a b v in
    let is-a : HasBit a v = omega (arith, has, both, bit_at-lt a v, bit_at-lt b v) in
    let is-b : HasBit b v = omega (arith, has, both, bit_at-lt a v, bit_at-lt b v) in
    (is-a, is-b)

-- ---- what the rows reach

pub two_has : (v : ℕ) → HasBit 2 v → v ≡ 1
two_has v has =
    elim (cases_eq v 1) [
      | inl same ↦ same
      | inr other ↦ absurd (omega (arith, has, bit_at-pow_other 1 v other))
    ]

-- the numbers whose bits a word has are in the set
abbrev pub IsWithin : ℕ → (ℕ → Bool) → Type 0
IsWithin word s = (v : ℕ) → HasBit word v → s v ≡ true

pub first_within : (s : ℕ → Bool) → s 1 ≡ true → IsWithin 2 s
first_within s one v has = ap s (two_has v has) ∙ one

-- a row of a vertex in the set is read
pub reads_within : (rows : List ℕ) (s : ℕ → Bool) (old kept mask vertex : ℕ) → IsClosedUnderRows rows s → s vertex ≡ true → IsWithin old s → ((v : ℕ) → HasBit kept v → HasBit old v) → IsWithin (bit_or kept (bit_and (get_or rows vertex 0) mask)) s
reads_within rows s old kept mask vertex closed here within less v has =
    elim (bit_of_or _ _ v has) [
      | inl before ↦ within v (less v before)
      | inr new ↦ closed vertex v (bit_of_and _ _ v new).0 here
    ]

-- the word has the bits of all numbers from 1 to n
pub all_within : (n v reached : ℕ) → n < 63 → 0 < v → v ≤ n → reached ≡ 1 * 2 ^ (n + 1) % 2 ^ 64 - 2 → HasBit reached v
all_within n v reached few from to is =
    let one : 1 * 2 ^ (n + 1) % 2 ^ 64 ≡ 2 ^ (n + 1) = one_shl (n + 1) 64 (omega arith) in
    let same : reached ≡ 2 ^ (n + 1) - 2 ^ 1 = is ∙ ap (λ (m : ℕ). m - 2) one in
    ap (λ (m : ℕ). bit_at m v) same ∙ bit_at_mask_inside 1 (n + 1) v from (omega arith)

-- ---- words that are 0

pub zero_bits : (w v : ℕ) → w ≤ 0 → HasBit w v → ⊥
zero_bits w v none has =
    let is : w ≡ 0 = omega arith in
    let bit : bit_at 0 v ≡ 1 = subst (λ (x : ℕ). bit_at x v ≡ 1) is has in
    absurd (omega (arith, bit, bit_at-zero v))

pub blank_bits : (n u v : ℕ) → HasBit (get_or (replicate n 0) u 0) v → ⊥
blank_bits n u v has = zero_bits (get_or (replicate n 0) u 0) v (blank_le n u) has
