-- The darts in front of a dart on its edge, and a path read from its last dart back.
use Rattle.std.proofs.Common.{◌≡◌, ◌≢◌, ℕ, zero, suc, ◌<◌, ◌≤◌, ◌∙◌, ◌==◌, Bool, true, false, List, [], ◌∷◌, ◌++◌, length, reverse, eqb, if◌then◌else◌, arith, subst, sym, ap, refl, inl, inr, append_assoc, ◌||◌}
use Rattle.std.specs.List.{list_any, IsDistinct, AllByRecursion}
use Rattle.std.proofs.lemmas.Grind.{reverse_onto}
use Rattle.std.proofs.lemmas.Bool.{cases_eq, ne_eqb, eq-eqb, cond-true, cond-false, false≢true}
use Rattle.std.proofs.lemmas.Map.Steps.{length-le_from_distinct_below}
use Rattle.dissect.specs.DartMaps.{DartMap, no_dart}
use Rattle.dissect.specs.Faces.{last_of, Below, In}
use Rattle.dissect.specs.Paths.{Follows, IsPath}

-- the darts in front of d on its edge, the nearest first
abbrev pub Back : DartMap → ℕ → List ℕ → Type 0
Back w d [] = w.before d ≡ no_dart
Back w d (f ∷ fs) = (w.before d ≡ f) × (f < w.darts) × Back w f fs

-- what stands in front of the last of a, bs when fs stands in front of a
abbrev pub behind : ℕ → List ℕ → List ℕ → List ℕ
behind a fs [] = fs
behind a fs (b ∷ bs) = behind b (a ∷ fs) bs

pub back_of : (w : DartMap) (a : ℕ) (fs bs : List ℕ) → a < w.darts → Below w.darts bs → Follows w a bs → Back w a fs → Back w (last_of a bs) (behind a fs bs)
back_of w a fs [] a_in below follows back = back
back_of w a fs (b ∷ bs) a_in below follows back = back_of w b (a ∷ fs) bs below.0 below.1 follows.2 (follows.0, a_in, back)

-- a path, seen from its end
pub path_back : (w : DartMap) (end first : ℕ) (rest : List ℕ) → IsPath w end first rest → Back w end (behind first [] rest)
path_back w end first rest path =
    subst (λ (d : ℕ). Back w d (behind first [] rest)) path.ends
    (back_of w first [] rest path.first_in path.rest_in path.follows path.start)

-- there is one way back
pub one_back : (w : DartMap) (d : ℕ) (fs gs : List ℕ) → w.darts ≤ no_dart → Back w d fs → Back w d gs → fs ≡ gs
one_back w d [] [] few back other = refl
one_back w d [] (g ∷ gs) few back other = absurd (omega (arith, back, other.0, other.1, few))
one_back w d (f ∷ fs) [] few back other = absurd (omega (arith, back.0, back.1, other, few))
one_back w d (f ∷ fs) (g ∷ gs) few back other =
    let same : g ≡ f = sym other.0 ∙ back.0 in
    let rest : fs ≡ gs = one_back w f fs gs few back.2 (subst (λ (k : ℕ). Back w k gs) same other.2) in
    ap (λ (xs : List ℕ). f ∷ xs) rest ∙ ap (λ (k : ℕ). k ∷ gs) (sym same)

-- a dart in front of d has fewer in front of it
pub fewer_back : (w : DartMap) (d a : ℕ) (fs : List ℕ) → Back w d fs → In a fs → (gs : List ℕ) × Back w a gs × (length gs < length fs)
fewer_back w d a [] back here = absurd here
fewer_back w d a (f ∷ fs) back (inl same) = (fs, subst (λ (k : ℕ). Back w k fs) (sym same) back.2, omega (arith))
fewer_back w d a (f ∷ fs) back (inr there) =
    let (gs, more, less) = fewer_back w f a fs back.2 there in
    (gs, more, omega (arith, less))

pub not_in_front : (w : DartMap) (d : ℕ) (fs : List ℕ) → w.darts ≤ no_dart → Back w d fs → In d fs → ⊥
not_in_front w d fs few back here =
    let (gs, more, less) = fewer_back w d d fs back here in
    let same : length fs ≡ length gs = ap length (one_back w d fs gs few back more) in
    omega (arith, same, less)

-- how many darts stand in front of d, as far as `fuel` of them
abbrev pub depth : DartMap → ℕ → ℕ → ℕ
depth w zero d = 0
depth w (suc fuel) d = if w.before d == no_dart then 0 else suc (depth w fuel (w.before d))

pub depth_is : (w : DartMap) (fuel d : ℕ) (fs : List ℕ) → w.darts ≤ no_dart → length fs ≤ fuel → Back w d fs → depth w fuel d ≡ length fs
depth_is w zero d [] few enough back = refl
depth_is w zero d (f ∷ fs) few enough back = absurd (omega (arith, enough))
depth_is w (suc fuel) d [] few enough back = cond-true (eqb (w.before d) no_dart) 0 (suc (depth w fuel (w.before d))) (eq-eqb (w.before d) no_dart back)
depth_is w (suc fuel) d (f ∷ fs) few enough back =
    let real : w.before d ≢ no_dart = λ e. omega (arith, e, back.0, back.1, few) in
    cond-false (eqb (w.before d) no_dart) 0 (suc (depth w fuel (w.before d))) (ne_eqb (w.before d) no_dart real)
    ∙ ap (λ (k : ℕ). suc (depth w fuel k)) back.0
    ∙ ap suc (depth_is w fuel f fs few (omega (arith, enough)) back.2)

-- no more darts stand in front of one than there are
pub all_apart : (xs : List ℕ) (a : ℕ) → (In a xs → ⊥) → AllByRecursion (λ y. eqb a y ≡ false) xs
all_apart [] a away = tt
all_apart (x ∷ xs) a away = (ne_eqb a x (λ e. away (inl e)), all_apart xs a (λ here. away (inr here)))

pub back_distinct : (w : DartMap) (d : ℕ) (fs : List ℕ) → w.darts ≤ no_dart → Back w d fs → IsDistinct eqb fs
unfolding IsDistinct
back_distinct w d [] few back = tt
back_distinct w d (f ∷ fs) few back = (all_apart fs f (not_in_front w f fs few back.2), back_distinct w f fs few back.2)

pub back_below : (w : DartMap) (d : ℕ) (fs : List ℕ) → Back w d fs → (q : ℕ) → list_any (eqb q) fs ≡ true → q < w.darts
back_below w d [] back q here = absurd (false≢true here)
back_below w d (f ∷ fs) back q here =
    elim (cases_eq q f) [
      | inl same ↦ subst (λ (k : ℕ). k < w.darts) (sym same) back.1
      | inr other ↦ back_below w f fs back.2 q (subst (λ (b : Bool). b || list_any (eqb q) fs ≡ true) (ne_eqb q f other) here)
    ]

pub back_short : (w : DartMap) (d : ℕ) (fs : List ℕ) → w.darts ≤ no_dart → Back w d fs → length fs ≤ w.darts
back_short w d fs few back = length-le_from_distinct_below fs w.darts (back_distinct w d fs few back) (back_below w d fs back)

last_in : (n a : ℕ) (bs : List ℕ) → a < n → Below n bs → last_of a bs < n
last_in n a [] a_in below = a_in
last_in n a (b ∷ bs) a_in below = last_in n b bs below.0 below.1

pub path_last_in : (w : DartMap) (end first : ℕ) (rest : List ℕ) → IsPath w end first rest → end < w.darts
path_last_in w end first rest path = subst (λ (d : ℕ). d < w.darts) path.ends (last_in w.darts first rest path.first_in path.rest_in)

-- where a path is read back: the darts in front of `dart`, and those met so far, the last dart first
pub record IsReadBack (w : DartMap) (all : List ℕ) (dart : ℕ) (met : List ℕ) : Type 0 where
  pub front : List ℕ
  pub in_front : Back w dart front
  pub met_is : all ≡ reverse front ++ reverse met

reverse_push : (x : ℕ) (xs : List ℕ) → reverse (xs ++ (x ∷ [])) ≡ x ∷ reverse xs
reverse_push x [] = refl
reverse_push x (y ∷ ys) =
    reverse_onto (ys ++ (x ∷ [])) y [] ∙ ap (λ (zs : List ℕ). zs ++ (y ∷ [])) (reverse_push x ys)
    ∙ ap (λ (zs : List ℕ). x ∷ zs) (sym (reverse_onto ys y []))

behind_all : (a : ℕ) (fs bs : List ℕ) → reverse fs ++ (a ∷ bs) ≡ reverse (behind a fs bs) ++ (last_of a bs ∷ [])
behind_all a fs [] = refl
behind_all a fs (b ∷ bs) =
    sym (append_assoc (reverse fs) (a ∷ []) (b ∷ bs)) ∙ ap (λ (xs : List ℕ). xs ++ (b ∷ bs)) (sym (reverse_onto fs a []))
    ∙ behind_all b (a ∷ fs) bs

pub way_starts : (w : DartMap) (last first : ℕ) (rest : List ℕ) → IsPath w last first rest → IsReadBack w (first ∷ rest) last (last ∷ [])
way_starts w last first rest path = record {
  front = behind first [] rest;
  in_front = path_back w last first rest path;
  met_is = behind_all first [] rest ∙ ap (λ (d : ℕ). reverse (behind first [] rest) ++ (d ∷ [])) path.ends;
}

pub way_on : (w : DartMap) (all : List ℕ) (dart front : ℕ) (met : List ℕ) → w.darts ≤ no_dart → w.before dart ≡ front → front ≢ no_dart →
    IsReadBack w all dart met →
    IsReadBack w all front (met ++ (front ∷ [])) × (front < w.darts) × (depth w w.darts front < depth w w.darts dart)
way_on w all dart front met few is real way = further way.front way.in_front way.met_is
  where
    further : (ahead : List ℕ) → Back w dart ahead → all ≡ reverse ahead ++ reverse met →
        IsReadBack w all front (met ++ (front ∷ [])) × (front < w.darts) × (depth w w.darts front < depth w w.darts dart)
    further [] back whole = absurd (real (sym is ∙ back))
    further (f ∷ fs) back whole =
        let same : f ≡ front = sym back.0 ∙ is in
        let rest : Back w front fs = subst (λ (k : ℕ). Back w k fs) same back.2 in
        let deep : depth w w.darts dart ≡ length (f ∷ fs) = depth_is w w.darts dart (f ∷ fs) few (back_short w dart (f ∷ fs) few back) back in
        let less : depth w w.darts front ≡ length fs = depth_is w w.darts front fs few (back_short w front fs few rest) rest in (
          record {
            front = fs;
            in_front = rest;
            met_is = whole ∙ ap (λ (xs : List ℕ). xs ++ reverse met) (reverse_onto fs f [])
                ∙ append_assoc (reverse fs) (f ∷ []) (reverse met)
                ∙ ap (λ (k : ℕ). reverse fs ++ (k ∷ reverse met)) same
                ∙ ap (λ (xs : List ℕ). reverse fs ++ xs) (sym (reverse_push front met));
          },
          subst (λ (k : ℕ). k < w.darts) same back.1,
          omega (arith, deep, less),
        )

pub way_ends : (w : DartMap) (all : List ℕ) (dart : ℕ) (met : List ℕ) → w.darts ≤ no_dart → w.before dart ≡ no_dart → IsReadBack w all dart met →
    reverse met ≡ all
way_ends w all dart met few none way = sym (way.met_is ∙ ap (λ (fs : List ℕ). reverse fs ++ reverse met) (one_back w dart way.front [] few way.in_front none))
