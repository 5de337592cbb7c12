-- How many turns of each kind a string has.
use Rattle.std.proofs.Common.{◌≡◌, ℕ, zero, suc, ◌+◌, cond, List, [], ◌∷◌, replicate, length, map, reverse, not, ◌∙◌, refl, ap, arith}
use Rattle.std.proofs.lemmas.List.Sums.{sum_by-cons}
use Rattle.std.proofs.lemmas.List.Sorted.{sum_by-IsPermutation, IsPermutation-reverse}
use Rattle.ortho_rep.specs.declared.turn_strings.Turn.{Turn}
use Rattle.ortho_rep.specs.declared.turn_strings.Turn.TheVariants.{Left, Right}
use Rattle.ortho_rep.specs.Turns.{opposite, is_left, mirrored, lefts, rights}

-- what a turn adds to each count
abbrev one_if_left : Turn → ℕ
one_if_left t = cond (is_left t) 1 0

abbrev one_if_right : Turn → ℕ
one_if_right t = cond (not (is_left t)) 1 0

pub lefts-cons : (t : Turn) (ts : List Turn) → lefts (t ∷ ts) ≡ cond (is_left t) 1 0 + lefts ts
lefts-cons t ts = sum_by-cons one_if_left t ts

pub rights-cons : (t : Turn) (ts : List Turn) → rights (t ∷ ts) ≡ cond (not (is_left t)) 1 0 + rights ts
rights-cons t ts = sum_by-cons one_if_right t ts

-- each turn is a left or a right
pub lefts-add-rights : (ts : List Turn) → lefts ts + rights ts ≡ length ts
lefts-add-rights [] = refl
lefts-add-rights (Left ∷ ts) = omega (arith, lefts-cons Left ts, rights-cons Left ts, lefts-add-rights ts)
lefts-add-rights (Right ∷ ts) = omega (arith, lefts-cons Right ts, rights-cons Right ts, lefts-add-rights ts)

-- with each turn exchanged, lefts are rights
lefts-map-opposite : (ts : List Turn) → lefts (map opposite ts) ≡ rights ts
lefts-map-opposite [] = refl
lefts-map-opposite (Left ∷ ts) = omega (arith, lefts-cons Right (map opposite ts), rights-cons Left ts, lefts-map-opposite ts)
lefts-map-opposite (Right ∷ ts) = omega (arith, lefts-cons Left (map opposite ts), rights-cons Right ts, lefts-map-opposite ts)

-- the reverse dart turns left where the dart turns right
pub lefts-mirrored : (ts : List Turn) → lefts (mirrored ts) ≡ rights ts
lefts-mirrored ts =
    lefts-map-opposite (reverse ts) ∙ sum_by-IsPermutation one_if_right ts (reverse ts) (IsPermutation-reverse ts)

-- strings of one kind
pub lefts-lefts_only : (n : ℕ) → lefts (replicate n Left) ≡ n
lefts-lefts_only zero = refl
lefts-lefts_only (suc n) = omega (arith, lefts-cons Left (replicate n Left), lefts-lefts_only n)

pub lefts-rights_only : (n : ℕ) → lefts (replicate n Right) ≡ 0
lefts-rights_only zero = refl
lefts-rights_only (suc n) = omega (arith, lefts-cons Right (replicate n Right), lefts-rights_only n)

pub rights-lefts_only : (n : ℕ) → rights (replicate n Left) ≡ 0
rights-lefts_only zero = refl
rights-lefts_only (suc n) = omega (arith, rights-cons Left (replicate n Left), rights-lefts_only n)

pub rights-rights_only : (n : ℕ) → rights (replicate n Right) ≡ n
rights-rights_only zero = refl
rights-rights_only (suc n) = omega (arith, rights-cons Right (replicate n Right), rights-rights_only n)

-- a string with left turns only, and one with none
pub lefts-all : (ts : List Turn) → lefts ts ≡ length ts → ts ≡ replicate (length ts) Left
lefts-all [] all = refl
lefts-all (Left ∷ ts) all = ap (λ (rest : List Turn). Left ∷ rest) (lefts-all ts (omega (arith, all, lefts-cons Left ts)))
lefts-all (Right ∷ ts) all = absurd (omega (arith, all, lefts-cons Right ts, lefts-add-rights ts))

pub lefts-none : (ts : List Turn) → lefts ts ≡ 0 → ts ≡ replicate (length ts) Right
lefts-none [] none = refl
lefts-none (Left ∷ ts) none = absurd (omega (arith, none, lefts-cons Left ts))
lefts-none (Right ∷ ts) none = ap (λ (rest : List Turn). Right ∷ rest) (lefts-none ts (omega (arith, none, lefts-cons Right ts)))
