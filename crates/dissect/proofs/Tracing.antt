-- All faces are walked round, one after another.
use Rattle.std.proofs.Common.{◌≡◌, ◌≢◌, ◌⊎◌, ℕ, zero, suc, ◌+◌, ◌-◌, ◌<◌, ◌≤◌, ◌∙◌, List, [], ◌∷◌, ◌++◌, Bool, false, length, map, get_or, replicate, length-append, append_assoc, append-nil, arith, subst, sym, ap, refl, inl, inr}
use Rattle.std.proofs.lemmas.Bool.{cases_eq, both_ways}
use Rattle.dissect.specs.DartMaps.{DartMap, IsTied}
use Rattle.dissect.specs.Faces.{IsCorner, Ring, In, Distinct, Below, concatenated, TurnsOnce, AreRings}
use Rattle.dissect.specs.FaceNumbers.{HasTurns}
use Rattle.dissect.proofs.Listing.{in_append, in_left, in_right, below_append, distinct_append}
use Rattle.dissect.specs.Walks.{steps, darts_walked, turning, HasPeriod, IsFlagged, IsWalked}
use Rattle.dissect.specs.Listed.{AreListed, AreFlat}
use Rattle.dissect.proofs.Orbits.{steps_in, steps_more, steps_add, path_member, path_holds, path_below, length-darts_walked, orbit_distinct, in_turning, turning_in, turning_distinct, turning_below, turning_straight, turning_corner, orbit_ends, orbit_ring}
use Rattle.dissect.proofs.Turns.{orbit_holds, orbit_once, orbit_outside}

pub concatenated_more : (rs : List (List ℕ)) (r : List ℕ) → concatenated (rs ++ (r ∷ [])) ≡ concatenated rs ++ r
concatenated_more [] r = append-nil r
concatenated_more (q ∷ rs) r = ap (λ (xs : List ℕ). q ++ xs) (concatenated_more rs r) ∙ sym (append_assoc q (concatenated rs) r)

pub lengths_more : (rs : List (List ℕ)) (r : List ℕ) →
    map (λ (q : List ℕ). length q) (rs ++ (r ∷ [])) ≡ map (λ (q : List ℕ). length q) rs ++ (length r ∷ [])
lengths_more [] r = refl
lengths_more (q ∷ rs) r = ap (λ (xs : List ℕ). length q ∷ xs) (lengths_more rs r)

pub rings_more : (w : DartMap) (rs : List (List ℕ)) (r : List ℕ) → AreRings w rs → Ring w r → TurnsOnce w r → AreRings w (rs ++ (r ∷ []))
rings_more w [] r rings ring once = ((ring, once), tt)
rings_more w (q ∷ rs) r rings ring once = (rings.0, rings_more w rs r rings.1 ring once)

-- a walk that is back holds what follows each of its darts
pub path_closed : (w : DartMap) (a p x : ℕ) → HasPeriod w a p → In x (darts_walked w a p) → In (w.next x) (darts_walked w a p)
path_closed w a p x period here =
    let m = path_member w x a p here in
    elim (cases_eq m.0 p) [
      | inl e ↦
          let there : w.next x ≡ steps w 1 a = ap w.next (sym m.3 ∙ ap (λ (k : ℕ). steps w k a) e ∙ period.back) in
          subst (λ (z : ℕ). In z (darts_walked w a p)) (sym there) (path_holds w a p 1 (omega arith) period.some)
      | inr less ↦
          let there : w.next x ≡ steps w (suc m.0) a = ap w.next (sym m.3) ∙ sym (steps_more w m.0 a) in
          subst (λ (z : ℕ). In z (darts_walked w a p)) (sym there) (path_holds w a p (suc m.0) (omega arith) (omega (arith, m.2, less)))
    ]

pub path_self : (w : DartMap) (a p : ℕ) → HasPeriod w a p → In a (darts_walked w a p)
path_self w a p period = subst (λ (z : ℕ). In z (darts_walked w a p)) period.back (path_holds w a p p period.some (omega arith))

-- flags that "next" stays within
abbrev pub AreShut : DartMap → List Bool → Type 0
AreShut w flags = (a : ℕ) → a < w.darts → IsFlagged flags a → IsFlagged flags (w.next a)

shut_steps : (w : DartMap) (flags : List Bool) → IsTied w → AreShut w flags → (k a : ℕ) → a < w.darts → IsFlagged flags a → IsFlagged flags (steps w k a)
shut_steps w flags tied shut zero a l m = m
shut_steps w flags tied shut (suc k) a l m = shut_steps w flags tied shut k (w.next a) (tied.next_in a l) (shut a l m)

-- a walk that passes a flagged dart began at one
pub shut_back : (w : DartMap) (flags : List Bool) (a p x : ℕ) → IsTied w → AreShut w flags → a < w.darts → HasPeriod w a p →
    In x (darts_walked w a p) → IsFlagged flags x → IsFlagged flags a
shut_back w flags a p x tied shut l period here m =
    let j = path_member w x a p here in
    let e : j.0 + (p - j.0) ≡ p = omega (arith, j.2) in
    let back : steps w (p - j.0) x ≡ a =
    ap (steps w (p - j.0)) (sym j.3) ∙ sym (steps_add w j.0 (p - j.0) a) ∙ ap (λ (k : ℕ). steps w k a) e ∙ period.back in
    let inside : x < w.darts = subst (λ (z : ℕ). z < w.darts) j.3 (steps_in w tied j.0 a l) in
    subst (IsFlagged flags) back (shut_steps w flags tied shut (p - j.0) x inside m)

-- the outer face is walked, and the faces of the corners below d
pub record IsTracing (w : DartMap) (right : ℕ) (flags : List Bool) (corners counts outer : List ℕ) (d : ℕ) : Type 0 where
  pub inner : List (List ℕ)
  pub flat : AreFlat corners counts inner
  pub rings : AreRings w inner
  pub distinct : Distinct (concatenated inner)
  pub below : Below w.darts (concatenated inner)
  pub size : w.darts ≤ length flags
  pub shut : AreShut w flags
  pub listed : (a : ℕ) → In a (concatenated inner) → IsFlagged flags a
  pub known : (a : ℕ) → IsFlagged flags a → IsCorner w a → In a (concatenated inner) ⊎ In a outer
  pub passed : (a : ℕ) → a < d → IsCorner w a → IsFlagged flags a
  pub places : ℕ
  pub period : HasPeriod w right places
  pub outer_is : outer ≡ turning w (darts_walked w right places)
  pub held : (a : ℕ) → In a (darts_walked w right places) → IsFlagged flags a
  pub apart : (a : ℕ) → In a (concatenated inner) → In a (darts_walked w right places) → ⊥

pub trace_begins : (w : DartMap) (right : ℕ) (none flags : List Bool) (outer : List ℕ) → ((a : ℕ) → IsFlagged none a → ⊥) → w.darts ≤ length flags →
    IsWalked w right none flags [] outer → IsTracing w right flags [] [] outer 0
trace_begins w right none flags outer blank size walked = record {
  inner = [];
  flat = record { flat = refl; lengths = refl };
  rings = tt;
  distinct = tt;
  below = tt;
  size = size;
  shut = λ a l m. elim (walked.only a m) [
    | inl old ↦ absurd (blank a old)
    | inr here ↦ walked.passed (w.next a) (path_closed w right walked.places a walked.period here)
  ];
  listed = λ a h. absurd h;
  known = λ a m corner. elim (walked.only a m) [
    | inl old ↦ absurd (blank a old)
    | inr here ↦ inr (subst (In a) (sym walked.corners) (turning_in w a (darts_walked w right walked.places) here corner))
  ];
  passed = λ a l. absurd (omega arith);
  places = walked.places;
  period = walked.period;
  outer_is = walked.corners;
  held = walked.passed;
  apart = λ a h. absurd h;
}

-- a dart that was seen, or that goes straight on, is passed over
pub trace_skips : (w : DartMap) (right : ℕ) (flags : List Bool) (corners counts outer : List ℕ) (d : ℕ) →
    IsTracing w right flags corners counts outer d → IsFlagged flags d ⊎ (w.angle d ≡ 2) → IsTracing w right flags corners counts outer (d + 1)
trace_skips w right flags corners counts outer d trace skip = record {
  inner = trace.inner;
  flat = trace.flat;
  rings = trace.rings;
  distinct = trace.distinct;
  below = trace.below;
  size = trace.size;
  shut = trace.shut;
  listed = trace.listed;
  known = trace.known;
  passed = λ a l corner. elim (cases_eq a d) [
    | inl e ↦ elim skip [
      | inl flagged ↦ subst (IsFlagged flags) (sym e) flagged
      | inr straight ↦ absurd (corner (ap w.angle e ∙ straight))
    ]
    | inr other ↦ trace.passed a (omega arith) corner
  ];
  places = trace.places;
  period = trace.period;
  outer_is = trace.outer_is;
  held = trace.held;
  apart = trace.apart;
}

-- a corner that was not seen begins a new face
pub trace_more : (w : DartMap) (right : ℕ) (face_number : ℕ → ℕ) (flags after : List Bool) (corners counts outer new : List ℕ) (d count : ℕ) →
    IsTied w → right < w.darts → HasTurns w face_number (face_number right) → d < w.darts → w.angle d ≢ 2 → (IsFlagged flags d → ⊥) →
    length after ≡ length flags → count ≡ length new - length corners →
    IsTracing w right flags corners counts outer d → IsWalked w d flags after corners new →
    IsTracing w right after new (counts ++ (count ∷ [])) outer (d + 1)
trace_more w right face_number flags after corners counts outer new d count tied right_in turns d_in corner bare same_size counted trace walked =
    let p : ℕ = walked.places in
    let r : List ℕ = turning w (darts_walked w d p) in
    let inner : List (List ℕ) = trace.inner in
    let fresh : (x : ℕ) → In x (darts_walked w d p) → IsFlagged flags x → ⊥ =
    λ x here m. bare (shut_back w flags d p x tied trace.shut d_in walked.period here m) in
    let inside : face_number d ≢ face_number right =
    λ h. bare (trace.held d (orbit_holds w face_number right trace.places d tied turns.face_numbers right_in trace.period d_in h)) in
    let long : count ≡ length r = omega (arith, counted, ap length walked.corners, length-append corners r) in
    record {
      inner = inner ++ (r ∷ []);
      flat = record {
        flat = walked.corners ∙ ap (λ (xs : List ℕ). xs ++ r) trace.flat.flat ∙ sym (concatenated_more inner r);
        lengths = ap (λ (k : ℕ). counts ++ (k ∷ [])) long ∙ ap (λ (xs : List ℕ). xs ++ (length r ∷ [])) trace.flat.lengths
            ∙ sym (lengths_more inner r);
      };
      rings = rings_more w inner r trace.rings (orbit_ring w d p walked.period corner)
          (orbit_once w face_number (face_number right) d p tied turns d_in walked.period inside);
      distinct = subst Distinct (sym (concatenated_more inner r))
          (distinct_append (concatenated inner) r trace.distinct (turning_distinct w (darts_walked w d p) (orbit_distinct w d p tied d_in walked.period))
          (λ a left right. fresh a (in_turning w a (darts_walked w d p) right).0 (trace.listed a left)));
      below = subst (Below w.darts) (sym (concatenated_more inner r))
          (below_append w.darts (concatenated inner) r trace.below (turning_below w w.darts (darts_walked w d p) (path_below w tied d p d_in)));
      size = omega (arith, trace.size, same_size);
      shut = λ a l m. elim (walked.only a m) [
        | inl old ↦ walked.kept (w.next a) (trace.shut a l old)
        | inr here ↦ walked.passed (w.next a) (path_closed w d p a walked.period here)
      ];
      listed = λ a h. elim (in_append a (concatenated inner) r (subst (In a) (concatenated_more inner r) h)) [
        | inl left ↦ walked.kept a (trace.listed a left)
        | inr right ↦ walked.passed a (in_turning w a (darts_walked w d p) right).0
      ];
      known = λ a m turn. elim (walked.only a m) [
        | inl old ↦ elim (trace.known a old turn) [
          | inl left ↦ inl (subst (In a) (sym (concatenated_more inner r)) (in_left a (concatenated inner) r left))
          | inr outside ↦ inr outside
        ]
        | inr here ↦ inl (subst (In a) (sym (concatenated_more inner r)) (in_right a (concatenated inner) r (turning_in w a (darts_walked w d p) here turn)))
      ];
      passed = λ a l turn. elim (cases_eq a d) [
        | inl e ↦ subst (IsFlagged after) (sym e) (walked.passed d (path_self w d p walked.period))
        | inr other ↦ walked.kept a (trace.passed a (omega arith) turn)
      ];
      places = trace.places;
      period = trace.period;
      outer_is = trace.outer_is;
      held = λ a h. walked.kept a (trace.held a h);
      apart = λ a h outside. elim (in_append a (concatenated inner) r (subst (In a) (concatenated_more inner r) h)) [
        | inl left ↦ trace.apart a left outside
        | inr right ↦ fresh a (in_turning w a (darts_walked w d p) right).0 (trace.held a outside)
      ];
    }

pub trace_done : (w : DartMap) (right : ℕ) (face_number : ℕ → ℕ) (flags : List Bool) (corners counts outer : List ℕ) (d : ℕ) → IsTied w →
    right < w.darts → 2 < w.angle right → HasTurns w face_number (face_number right) → w.darts ≤ d → IsTracing w right flags corners counts outer d →
    (inner : List (List ℕ)) × AreFlat corners counts inner × AreListed w right inner outer
trace_done w right face_number flags corners counts outer d tied right_in turn turns all trace =
    let p : ℕ = trace.places in
    let r : List ℕ = turning w (darts_walked w right p) in
    let corner : IsCorner w right = λ h. omega (arith, h, turn) in
    let listed : AreListed w right trace.inner r = record {
      rings = trace.rings;
      distinct = distinct_append (concatenated trace.inner) r trace.distinct
          (turning_distinct w (darts_walked w right p) (orbit_distinct w right p tied right_in trace.period))
          (λ a left outside. trace.apart a left (in_turning w a (darts_walked w right p) outside).0);
      below = below_append w.darts (concatenated trace.inner) r trace.below
          (turning_below w w.darts (darts_walked w right p) (path_below w tied right p right_in));
      ring = orbit_ring w right p trace.period corner;
      front = turning w (darts_walked w right (p - 1));
      ends = orbit_ends w right p trace.period corner;
      turns_back = orbit_outside w face_number right p tied turns right_in trace.period;
      all = λ a l turn. elim (trace.known a (trace.passed a (omega (arith, l, all)) turn) turn) [
        | inl left ↦ in_left a (concatenated trace.inner) r left
        | inr outside ↦ in_right a (concatenated trace.inner) r (subst (In a) trace.outer_is outside)
      ];
    } in
    (trace.inner, trace.flat, subst (AreListed w right trace.inner) (sym trace.outer_is) listed)

turning_few : (w : DartMap) (xs : List ℕ) → length (turning w xs) ≤ length xs
turning_few w [] = omega arith
turning_few w (x ∷ xs) =
    elim (cases_eq (w.angle x) 2) [
      | inl e ↦ omega (arith, ap length (turning_straight w x xs e), turning_few w xs)
      | inr e ↦ omega (arith, ap length (turning_corner w x xs e), turning_few w xs)
    ]

-- a walk lists no more corners than there are darts
pub walked_few : (w : DartMap) (start : ℕ) (before after : List Bool) (others listed : List ℕ) → IsWalked w start before after others listed →
    length listed ≤ length others + w.darts
walked_few w start before after others listed walked =
    omega (
      arith,
      ap length walked.corners,
      length-append others (turning w (darts_walked w start walked.places)),
      turning_few w (darts_walked w start walked.places),
      length-darts_walked w start walked.places,
      walked.period.most,
    )

-- at first no dart is flagged
pub unflagged : (n a : ℕ) → IsFlagged (replicate n false) a → ⊥
unflagged n a m = both_ways (get_or (replicate n false) a false) (none n a) m
  where
    none : (n a : ℕ) → get_or (replicate n false) a false ≡ false
    none zero a = refl
    none (suc n) zero = refl
    none (suc n) (suc a) = none n a
