-- Which places a part passes.
use Rattle.std.proofs.Common.{◌≡◌, ℕ, ◌<◌, ◌≤◌, ◌⊎◌, true, zero, suc, List, [], ◌∷◌, length, get_or, refl, inl, inr, arith, eqb, ltb, leb}
use Rattle.std.specs.List.{Contains}
use Rattle.std.proofs.lemmas.Bool.{and_parts, and_from, eqb-true, ltb-true, leb-true, eq-eqb, lt-ltb, le-leb}
use Rattle.drawing_check.specs.Parts.{Part, passes}

-- ---- lists

pub contains_head : {X : Type 0} (x : X) (xs : List X) → Contains (x ∷ xs) x
contains_head x xs = (0, omega arith, refl)

pub contains_tail : {X : Type 0} (x y : X) (xs : List X) → Contains xs y → Contains (x ∷ xs) y
contains_tail x y xs h = let lt = h.1 in (suc h.0, omega arith, h.2)

pub contains_cases : {X : Type 0} (x y : X) (xs : List X) → Contains (x ∷ xs) y → (x ≡ y) ⊎ Contains xs y
contains_cases {X} x y xs h = at h.0 h.1 h.2
  where
    at : (k : ℕ) → k < length (x ∷ xs) → get_or (x ∷ xs) k y ≡ y → (x ≡ y) ⊎ Contains xs y
    at zero lt is = inl is
    at (suc k) lt is = inr (k, omega arith, is)

pub contains_none : {X : Type 0} {P : Type 0} (y : X) → Contains [] y → P
contains_none y h = let lt = h.1 in absurd (omega arith)

-- ---- one part

pub record Passing (s : Part) (l c : ℕ) : Type 0 where
  pub line : s.line ≡ l
  pub from : s.from < c
  pub to : c ≤ s.to

pub passing_told : (s : Part) (l c : ℕ) → passes s l c ≡ true → Passing s l c
passing_told s l c h =
    let first = and_parts (eqb s.line l) _ h in
    let second = and_parts (ltb s.from c) (leb c s.to) first.1 in
    record { line = eqb-true s.line l first.0; from = ltb-true s.from c second.0; to = leb-true c s.to second.1 }

pub passing_from : (s : Part) (l c : ℕ) → s.line ≡ l → s.from < c → c ≤ s.to → passes s l c ≡ true
passing_from s l c line from to =
    and_from (eqb s.line l) _ (eq-eqb s.line l line) (and_from (ltb s.from c) (leb c s.to) (lt-ltb s.from c from) (le-leb c s.to to))
