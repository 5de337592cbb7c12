-- The faces as sets: the darts of one number are a face, each face has a number, and a face is one orbit.
use Rattle.std.proofs.Common.{◌≡◌, ℕ, ◌+◌, ◌<◌, ◌==◌, ◌↔◌, ◌&&◌, eqb, Bool, true, false, List, [], ◌∷◌, length, ◌⊎◌, inl, inr, refl, sym, ap, ◌∙◌, subst, arith, zero, suc}
use Rattle.std.specs.List.{list_any, IsDistinct, AllByRecursion}
use Rattle.std.proofs.lemmas.Bool.{cases_eq, cases_Bool, eqb-true, eq-eqb, and_parts, and_from, or_cases, or_left, or_right, or_parts, both_ways}
use Rattle.std.proofs.lemmas.Map.Steps.{length-le_from_distinct_below}
use Rattle.embedding.specs.Faces.{HasFaces}
use Rattle.faces.specs.Faces.{IsClosedUnder, IsFace, steps}

-- the darts of one number are a face
pub number_is_face : (n : ℕ) (next face : ℕ → ℕ) (f : ℕ) → HasFaces n next face f → (k : ℕ) → k < f → IsFace n next (λ d. face d == k)
number_is_face n next face f h k hk = record {
  some = let d = h.used k hk in (d.0, d.1, eq-eqb (face d.0) k d.2);
  closed = λ d hd m. eq-eqb (face (next d)) k (h.closed d hd ∙ eqb-true (face d) k m);
  least = λ t shut e within d hd m.
      let same : face e.0 ≡ k = eqb-true (face e.0) k (within e.0 e.1 e.2) in
      h.least t shut e.0 d e.1 hd (same ∙ sym (eqb-true (face d) k m)) e.2;
}

-- a face has one of the numbers
pub face_has_number : (n : ℕ) (next face : ℕ → ℕ) (f : ℕ) → HasFaces n next face f → (s : ℕ → Bool) → IsFace n next s
    → (k : ℕ) × (k < f) × ((d : ℕ) → d < n → (s d ≡ true) ↔ (face d ≡ k))
face_has_number n next face f h s is =
    let d = is.some in
    let here : s d.0 ≡ true = d.2 in
    let both : ℕ → Bool = λ x. s x && (face x == face d.0) in
    let shut : IsClosedUnder n next both = λ x hx m.
    let parts = and_parts (s x) (face x == face d.0) m in
    and_from (s (next x)) (face (next x) == face d.0) (is.closed x hx parts.0)
    (eq-eqb (face (next x)) (face d.0) (h.closed x hx ∙ eqb-true (face x) (face d.0) parts.1)) in (
      face d.0,
      h.named d.0 d.1,
      λ e he. (
        (λ m. eqb-true (face e) (face d.0)
            (and_parts (s e) (face e == face d.0)
            (is.least both shut (d.0, d.1, and_from (s d.0) (face d.0 == face d.0) here (eq-eqb (face d.0) (face d.0) refl))
            (λ x hx m. (and_parts (s x) (face x == face d.0) m).0) e he m)).1),
        (λ same. h.least s is.closed d.0 e d.1 he (sym same) here),
      ),
    )

-- the darts that k steps pass, the last one first
abbrev orbit : (ℕ → ℕ) → ℕ → ℕ → List ℕ
orbit next d zero = []
orbit next d (suc k) = steps next k d ∷ orbit next d k

-- the dart e is passed in k steps
abbrev seen : (ℕ → ℕ) → ℕ → ℕ → ℕ → Bool
seen next d k e = list_any (eqb e) (orbit next d k)

orbit_long : (next : ℕ → ℕ) (d k : ℕ) → length (orbit next d k) ≡ k
orbit_long next d zero = refl
orbit_long next d (suc k) = omega (arith, orbit_long next d k)

steps_inside : (n : ℕ) (next : ℕ → ℕ) → ((d : ℕ) → d < n → next d < n) → (d : ℕ) → d < n → (k : ℕ) → steps next k d < n
steps_inside n next inside d hd zero = hd
steps_inside n next inside d hd (suc k) = inside _ (steps_inside n next inside d hd k)

-- what is passed is reached by some number of steps
seen_steps : (next : ℕ → ℕ) (d k e : ℕ) → seen next d k e ≡ true → (j : ℕ) × (j < k) × (steps next j d ≡ e)
seen_steps next d zero e m = absurd (both_ways false refl m)
seen_steps next d (suc k) e m =
    elim (or_cases (eqb e (steps next k d)) (seen next d k e) m) [
      | inl a ↦ (k, omega arith, sym (eqb-true e (steps next k d) a))
      | inr a ↦ let j = seen_steps next d k e a in (j.0, omega (arith, j.1), j.2)
    ]

-- and the other way round
steps_seen : (next : ℕ → ℕ) (d k e : ℕ) → (j : ℕ) → j < k → steps next j d ≡ e → seen next d k e ≡ true
steps_seen next d zero e j h m = absurd (omega arith)
steps_seen next d (suc k) e j h m =
    elim (cases_eq j k) [
      | inl same ↦ or_left (eqb e (steps next k d)) (seen next d k e) (eq-eqb e (steps next k d) (sym m ∙ ap (λ i. steps next i d) same))
      | inr apart ↦ or_right (eqb e (steps next k d)) (seen next d k e) (steps_seen next d k e j (omega arith) m)
    ]

-- a number that is not in a list is apart from each of its members
apart_from_all : (x : ℕ) (xs : List ℕ) → list_any (eqb x) xs ≡ false → AllByRecursion (λ y. eqb x y ≡ false) xs
apart_from_all x [] m = tt
apart_from_all x (y ∷ ys) m =
    let parts = or_parts (eqb x y) (list_any (eqb x) ys) m in (parts.0, apart_from_all x ys parts.1)

-- either some step comes to a dart that was passed, or all darts so far differ
comes_back : (next : ℕ → ℕ) (d k : ℕ) → ((j : ℕ) × (seen next d j (steps next j d) ≡ true)) ⊎ IsDistinct eqb (orbit next d k)
unfolding IsDistinct
comes_back next d zero = inr tt
comes_back next d (suc k) =
    elim (comes_back next d k) [
      | inl a ↦ inl a
      | inr a ↦ elim (cases_Bool (seen next d k (steps next k d))) [ inl b ↦ inl (k, b) | inr b ↦ inr (apart_from_all (steps next k d) (orbit next d k) b, a) ]
    ]

-- among n darts some step comes to a dart that was passed
returns : (n : ℕ) (next : ℕ → ℕ) → ((d : ℕ) → d < n → next d < n) → (d : ℕ) → d < n → (j : ℕ) × (seen next d j (steps next j d) ≡ true)
returns n next inside d hd =
    elim (comes_back next d (n + 1)) [
      | inl a ↦ a
      | inr a ↦ absurd (omega (
        arith,
        orbit_long next d (n + 1),
        length-le_from_distinct_below (orbit next d (n + 1)) n a (λ q m.
            let j = seen_steps next d (n + 1) q m in subst (λ x. x < n) j.2 (steps_inside n next inside d hd j.0)),
      ))
    ]

-- the darts passed until then are closed under "next"
seen_shut : (n : ℕ) (next : ℕ → ℕ) (d j : ℕ) → seen next d j (steps next j d) ≡ true → IsClosedUnder n next (seen next d j)
seen_shut n next d j back e he m =
    let i = seen_steps next d j e m in
    elim (cases_eq (suc i.0) j) [
      | inl same ↦ subst (λ x. seen next d j x ≡ true) (ap (λ x. steps next x d) (sym same) ∙ ap next i.2) back
      | inr apart ↦ steps_seen next d j (next e) (suc i.0) (omega (arith, i.1)) (ap next i.2)
    ]

-- the first dart is among them
begins_seen : (next : ℕ → ℕ) (d j : ℕ) → seen next d j (steps next j d) ≡ true → seen next d j d ≡ true
begins_seen next d zero m = absurd (both_ways false refl m)
begins_seen next d (suc j) m = steps_seen next d (suc j) d 0 (omega arith) refl

-- darts of one face lead to one another
pub one_orbit : (n : ℕ) (next face : ℕ → ℕ) (f : ℕ) → HasFaces n next face f → ((d : ℕ) → d < n → next d < n)
    → (d e : ℕ) → d < n → e < n → face d ≡ face e → (k : ℕ) × (steps next k d ≡ e)
one_orbit n next face f h inside d e hd he same =
    let back = returns n next inside d hd in
    let found = seen_steps next d back.0 e
    (h.least (seen next d back.0) (seen_shut n next d back.0 back.1) d e hd he same (begins_seen next d back.0 back.1)) in
    (found.0, found.2)

-- and what a dart leads to is of its face
pub orbit_stays : (n : ℕ) (next face : ℕ → ℕ) (f : ℕ) → HasFaces n next face f → ((d : ℕ) → d < n → next d < n)
    → (d : ℕ) → d < n → (k : ℕ) → face (steps next k d) ≡ face d
orbit_stays n next face f h inside d hd zero = refl
orbit_stays n next face f h inside d hd (suc k) =
    h.closed _ (steps_inside n next inside d hd k) ∙ orbit_stays n next face f h inside d hd k
