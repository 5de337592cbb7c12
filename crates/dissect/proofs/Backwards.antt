-- A path is found from its last dart by going back: it is the only one, and no dart is on it twice.
use Rattle.std.proofs.Common.{◌≡◌, ℕ, zero, suc, ◌+◌, ◌<◌, ◌≤◌, ◌∙◌, List, [], ◌∷◌, length, arith, subst, sym, ap, refl, inl, inr, cond, eqb}
use Rattle.std.proofs.lemmas.Bool.{cases_eq, cases_lt, eq-eqb, ne_eqb, cond-true, cond-false}
use Rattle.common.specs.Sums.{sum_below}
use Rattle.common.proofs.Sums.{sum_below-none, sum_below-add, sum_below-one, sum_below-le, sum_below-constant}
use Rattle.dissect.specs.DartMaps.{DartMap, no_dart}
use Rattle.dissect.specs.Faces.{last_of, Below, In, Distinct}
use Rattle.dissect.specs.Paths.{Follows, IsPath}
use Rattle.dissect.proofs.Listing.{in_below}

-- the dart this many darts before the dart a
abbrev pub back : DartMap → ℕ → ℕ → ℕ
back w zero a = a
back w (suc k) a = w.before (back w k a)

pub back_first : (w : DartMap) (a : ℕ) (rest : List ℕ) → Follows w a rest → back w (length rest) (last_of a rest) ≡ a
back_first w a [] follows = refl
back_first w a (b ∷ bs) follows = ap w.before (back_first w b bs follows.2) ∙ follows.0

pub back_inside : (w : DartMap) (n a : ℕ) (rest : List ℕ) (k : ℕ) → Follows w a rest → a < n → Below n rest → k ≤ length rest →
    back w k (last_of a rest) < n
back_inside w n a [] zero follows a_in below few = a_in
back_inside w n a [] (suc k) follows a_in below few = absurd (omega (arith, few))
back_inside w n a (b ∷ bs) k follows a_in below few =
    elim (cases_lt k (length (b ∷ bs))) [
      | inl less ↦ back_inside w n b bs k follows.2 below.0 below.1 (shorter k (length bs) less)
      | inr all ↦
          let whole : k ≡ length (b ∷ bs) = omega (arith, few, all) in
          let first : back w k (last_of b bs) ≡ a =
          ap (λ (i : ℕ). back w i (last_of b bs)) whole ∙ back_first w a (b ∷ bs) follows in
          omega (arith, first, a_in)
    ]
  where
    shorter : (k m : ℕ) → k < suc m → k ≤ m
    shorter k m less = omega arith

-- of two paths to the same dart, one is no longer than the other that starts with nothing before it
pub path_no_longer : (w : DartMap) (a b : ℕ) (rest others : List ℕ) → w.darts ≤ no_dart → w.before a ≡ no_dart → b < w.darts →
    Below w.darts others → Follows w a rest → Follows w b others → last_of a rest ≡ last_of b others → length others ≤ length rest
path_no_longer w a b rest others darts_fit start b_in below follows follows' same =
    elim (cases_lt (length rest) (length others)) [
      | inl less ↦
          let first : back w (length rest) (last_of b others) ≡ a =
          ap (back w (length rest)) (sym same) ∙ back_first w a rest follows in
          let none : back w (suc (length rest)) (last_of b others) ≡ no_dart = ap w.before first ∙ start in
          let inside : back w (suc (length rest)) (last_of b others) < w.darts =
          back_inside w w.darts b others (suc (length rest)) follows' b_in below (omega (arith, less)) in
          absurd (omega (arith, none, inside, darts_fit))
      | inr done ↦ done
    ]

pub record AreSame (a b : ℕ) (rest others : List ℕ) : Type 0 where
  pub first : a ≡ b
  pub rests : rest ≡ others

pub walks_same : (w : DartMap) (a b : ℕ) (rest others : List ℕ) → length rest ≡ length others → Follows w a rest → Follows w b others →
    last_of a rest ≡ last_of b others → AreSame a b rest others
walks_same w a b [] [] long follows follows' last = record { first = last; rests = refl }
walks_same w a b [] (c ∷ cs) long follows follows' last = absurd (omega (arith, long))
walks_same w a b (c ∷ cs) [] long follows follows' last = absurd (omega (arith, long))
walks_same w a b (c ∷ cs) (d ∷ ds) long follows follows' last =
    let on = walks_same w c d cs ds (omega (arith, long)) follows.2 follows'.2 last in
    record {
      first = sym follows.0 ∙ ap w.before on.first ∙ follows'.0;
      rests = ap (λ (k : ℕ). k ∷ cs) on.first ∙ ap (λ (zs : List ℕ). d ∷ zs) on.rests;
    }

-- there is one path to a dart
pub path_unique : (w : DartMap) (end first first' : ℕ) (rest rest' : List ℕ) → w.darts ≤ no_dart → IsPath w end first rest →
    IsPath w end first' rest' → AreSame first first' rest rest'
path_unique w end first first' rest rest' darts_fit path path' =
    let more = path_no_longer w first first' rest rest' darts_fit path.start path'.first_in path'.rest_in path.follows path'.follows
    (path.ends ∙ sym path'.ends) in
    let less = path_no_longer w first' first rest' rest darts_fit path'.start path.first_in path.rest_in path'.follows path.follows
    (path'.ends ∙ sym path.ends) in
    walks_same w first first' rest rest' (omega (arith, more, less)) path.follows path'.follows (path.ends ∙ sym path'.ends)

-- the dart before a dart of the rest is on the path too
pub before_in : (w : DartMap) (a b : ℕ) (rest : List ℕ) → Follows w a rest → In b rest → In (w.before b) (a ∷ rest)
before_in w a b [] follows here = absurd here
before_in w a b (c ∷ cs) follows (inl at) = inl (ap w.before at ∙ follows.0)
before_in w a b (c ∷ cs) follows (inr later) = inr (before_in w c b cs follows.2 later)

pub walk_distinct : (w : DartMap) (a : ℕ) (rest : List ℕ) → Follows w a rest → (In a rest → ⊥) → Distinct (a ∷ rest)
walk_distinct w a [] follows out = (out, tt)
walk_distinct w a (b ∷ bs) follows out =
    let out_b : In b bs → ⊥ = λ again.
    out (subst (λ (k : ℕ). In k (b ∷ bs)) follows.0 (before_in w b b bs follows.2 again)) in
    (out, walk_distinct w b bs follows.2 out_b)

pub path_distinct : (w : DartMap) (end first : ℕ) (rest : List ℕ) → w.darts ≤ no_dart → IsPath w end first rest → Distinct (first ∷ rest)
path_distinct w end first rest darts_fit path =
    walk_distinct w first rest path.follows
    (λ again.
    let inside : w.before first < w.darts =
    in_below w.darts (w.before first) (first ∷ rest) (path.first_in, path.rest_in) (before_in w first first rest path.follows again) in
    let start : w.before first ≡ no_dart = path.start in
    omega (arith, inside, start, darts_fit))

-- how often a number is on a list
abbrev pub times_in : List ℕ → ℕ → ℕ
times_in [] v = 0
times_in (x ∷ xs) v = cond (eqb x v) 1 0 + times_in xs v

times_out : (xs : List ℕ) (v : ℕ) → (In v xs → ⊥) → times_in xs v ≡ 0
times_out [] v out = refl
times_out (x ∷ xs) v out =
    let here : cond (eqb x v) 1 0 ≡ 0 = cond-false {A = ℕ} (eqb x v) 1 0 (ne_eqb x v (λ h. out (inl (sym h)))) in
    let later : times_in xs v ≡ 0 = times_out xs v (λ h. out (inr h)) in
    omega (arith, here, later)

times_few : (xs : List ℕ) (v : ℕ) → Distinct xs → times_in xs v ≤ 1
times_few [] v distinct = omega arith
times_few (x ∷ xs) v distinct =
    elim (cases_eq x v) [
      | inl at ↦
          let here : cond (eqb x v) 1 0 ≡ 1 = cond-true {A = ℕ} (eqb x v) 1 0 (eq-eqb x v at) in
          let later : times_in xs v ≡ 0 = times_out xs v (λ h. distinct.0 (subst (λ (k : ℕ). In k xs) (sym at) h)) in
          omega (arith, here, later)
      | inr off ↦
          let here : cond (eqb x v) 1 0 ≡ 0 = cond-false {A = ℕ} (eqb x v) 1 0 (ne_eqb x v off) in
          let later : times_in xs v ≤ 1 = times_few xs v distinct.1 in
          omega (arith, here, later)
    ]

times_all : (n : ℕ) (xs : List ℕ) → Below n xs → sum_below n (times_in xs) ≡ length xs
times_all n [] below = sum_below-none n (λ _. 0) (λ i l. refl)
times_all n (x ∷ xs) below =
    sum_below-add n (λ v. cond (eqb x v) 1 0) (times_in xs)
    ∙ ap (λ (k : ℕ). k + sum_below n (times_in xs)) (sum_below-one n x (λ _. 1) below.0)
    ∙ ap (λ (k : ℕ). 1 + k) (times_all n xs below.1)
    ∙ omega arith

-- different numbers below n are at most n
pub distinct_few : (n : ℕ) (xs : List ℕ) → Below n xs → Distinct xs → length xs ≤ n
distinct_few n xs below distinct =
    omega (
      arith,
      times_all n xs below,
      sum_below-le n (times_in xs) (λ _. 1) (λ i l. times_few xs i distinct),
      sum_below-constant n 1,
    )

-- a path has no more darts than the map
pub path_short : (w : DartMap) (end first : ℕ) (rest : List ℕ) → w.darts ≤ no_dart → IsPath w end first rest → length rest < w.darts
path_short w end first rest darts_fit path =
    let few : length (first ∷ rest) ≤ w.darts =
    distinct_few w.darts (first ∷ rest) (path.first_in, path.rest_in) (path_distinct w end first rest darts_fit path) in
    omega (arith, few)
