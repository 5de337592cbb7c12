-- What holds on the way of a walk.
use Rattle.std.proofs.Common.{◌≡◌, ◌≢◌, ◌⊎◌, ℕ, suc, ◌+◌, ◌<◌, ◌≤◌, ◌∙◌, List, [], ◌∷◌, ◌++◌, Bool, true, false, length, get_or, set, append_assoc, arith, subst, sym, ap, refl, inl, inr, get_or-set_same, get_or-set_other, append-nil}
use Rattle.std.proofs.Math.ListN.{length-set}
use Rattle.std.proofs.lemmas.Bool.{cases_eq}
use Rattle.dissect.specs.DartMaps.{DartMap, IsTied}
use Rattle.dissect.specs.Faces.{In}
use Rattle.dissect.specs.FaceNumbers.{AreFaceNumbers, HasTurns}
use Rattle.dissect.proofs.Listing.{in_append, in_left, in_right}
use Rattle.dissect.specs.Walks.{steps, darts_walked, turning, IsFlagged, IsWalked}
use Rattle.dissect.proofs.Orbits.{steps_in, steps_more, path_member, path_more, orbit_of, turning-append, turning_corner, turning_straight}
use Rattle.dissect.proofs.Turns.{flat_total, face_number_along, orbit_angles, orbit_darts}

-- no right turn within k steps
pub record IsSeeking (w : DartMap) (a k dart : ℕ) : Type 0 where
  pub here : dart ≡ steps w k a
  pub flat : (j : ℕ) → j < k → w.angle (steps w j a) ≤ 2

pub seek_on : (w : DartMap) (a k dart next : ℕ) → IsSeeking w a k dart → w.angle dart ≤ 2 → next ≡ w.next dart → IsSeeking w a (k + 1) next
seek_on w a k dart next seek low to =
    let more : k + 1 ≡ suc k = omega arith in
    record {
      here = to ∙ ap w.next seek.here ∙ sym (steps_more w k a) ∙ ap (λ (i : ℕ). steps w i a) (sym more);
      flat = λ j l. elim (cases_eq j k) [
        | inl e ↦ subst (λ (d : ℕ). w.angle d ≤ 2) (seek.here ∙ ap (λ (i : ℕ). steps w i a) (sym e)) low
        | inr other ↦ seek.flat j (omega arith)
      ];
    }

-- a face that turns to the right has a right turn
pub seek_fails : (w : DartMap) (face_number : ℕ → ℕ) (a k dart : ℕ) → IsTied w → HasTurns w face_number (face_number a) → a < w.darts →
    w.darts ≤ k → IsSeeking w a k dart → ⊥
seek_fails w face_number a k dart tied turns l all seek =
    let period = orbit_of w tied a l in
    let p : ℕ = period.0 in
    let flat : (x : ℕ) → In x (darts_walked w a p) → w.angle x ≤ 2 = λ x h.
    let m = path_member w x a p h in
    elim (cases_eq m.0 p) [
      | inl e ↦ subst (λ (d : ℕ). w.angle d ≤ 2) (sym period.1.back ∙ ap (λ (i : ℕ). steps w i a) (sym e) ∙ m.3) (seek.flat 0 (omega (arith, all, l)))
      | inr less ↦ subst (λ (d : ℕ). w.angle d ≤ 2) m.3 (seek.flat m.0 (omega (arith, m.2, less, period.1.most, all)))
    ] in
    omega (
      arith,
      flat_total w.angle (darts_walked w a p) flat,
      orbit_angles w face_number a p tied turns.face_numbers l period.1,
      orbit_darts w face_number a p tied turns.face_numbers l period.1,
      turns.outer_turns,
    )

-- k steps from `start` are walked, and none was back there
pub record IsWalking (w : DartMap) (start : ℕ) (before after : List Bool) (others listed : List ℕ) (k dart : ℕ) : Type 0 where
  pub here : dart ≡ steps w k start
  pub away : (j : ℕ) → 1 ≤ j → j ≤ k → steps w j start ≢ start
  pub corners : listed ≡ others ++ turning w (darts_walked w start k)
  pub kept : (a : ℕ) → IsFlagged before a → IsFlagged after a
  pub passed : (a : ℕ) → In a (darts_walked w start k) → IsFlagged after a
  pub only : (a : ℕ) → IsFlagged after a → IsFlagged before a ⊎ In a (darts_walked w start k)
  pub size : length after ≡ length before

pub walk_begins : (w : DartMap) (start : ℕ) (flags : List Bool) (others : List ℕ) → IsWalking w start flags flags others others 0 start
walk_begins w start flags others = record {
  here = refl;
  away = λ j some most. absurd (omega arith);
  corners = sym (append-nil others);
  kept = λ a h. h;
  passed = λ a h. absurd h;
  only = λ a h. inl h;
  size = refl;
}

-- one more step, before it is known whether it is back
pub record IsStepped (w : DartMap) (start : ℕ) (before after : List Bool) (others listed : List ℕ) (k dart : ℕ) : Type 0 where
  pub here : dart ≡ steps w (suc k) start
  pub away : (j : ℕ) → 1 ≤ j → j ≤ k → steps w j start ≢ start
  pub corners : listed ≡ others ++ turning w (darts_walked w start (suc k))
  pub kept : (a : ℕ) → IsFlagged before a → IsFlagged after a
  pub passed : (a : ℕ) → In a (darts_walked w start (suc k)) → IsFlagged after a
  pub only : (a : ℕ) → IsFlagged after a → IsFlagged before a ⊎ In a (darts_walked w start (suc k))
  pub size : length after ≡ length before

pub walk_steps : (w : DartMap) (start : ℕ) (before after : List Bool) (others listed new : List ℕ) (k dart next : ℕ) →
    IsWalking w start before after others listed k dart → next ≡ w.next dart → next < length after →
    ((w.angle next ≢ 2) × (new ≡ listed ++ (next ∷ []))) ⊎ ((w.angle next ≡ 2) × (new ≡ listed)) →
    IsStepped w start before (set after next true) others new k next
walk_steps w start before after others listed new k dart next walk to inside put =
    let here : next ≡ steps w (suc k) start = to ∙ ap w.next walk.here ∙ sym (steps_more w k start) in
    let more : darts_walked w start (suc k) ≡ darts_walked w start k ++ (next ∷ []) =
    path_more w start k ∙ ap (λ (d : ℕ). darts_walked w start k ++ (d ∷ [])) (sym here) in
    let set_here : get_or (set after next true) next false ≡ true = get_or-set_same after next true false inside in
    let set_other : (a : ℕ) → a ≢ next → get_or (set after next true) a false ≡ get_or after a false =
    λ a ne. get_or-set_other after next a true false ne in
    record {
      here = here;
      away = walk.away;
      corners = elim put [
        | inl corner ↦ corner.1 ∙ ap (λ (xs : List ℕ). xs ++ (next ∷ [])) walk.corners
            ∙ append_assoc others (turning w (darts_walked w start k)) (next ∷ [])
            ∙ ap (λ (xs : List ℕ). others ++ xs)
            (ap (λ (xs : List ℕ). turning w (darts_walked w start k) ++ xs) (sym (turning_corner w next [] corner.0))
            ∙ sym (turning-append w (darts_walked w start k) (next ∷ [])) ∙ ap (turning w) (sym more))
        | inr straight ↦ straight.1 ∙ walk.corners
            ∙ ap (λ (xs : List ℕ). others ++ xs)
            (sym (append-nil (turning w (darts_walked w start k)))
            ∙ ap (λ (xs : List ℕ). turning w (darts_walked w start k) ++ xs) (sym (turning_straight w next [] straight.0))
            ∙ sym (turning-append w (darts_walked w start k) (next ∷ [])) ∙ ap (turning w) (sym more))
      ];
      kept = λ a h. elim (cases_eq a next) [
        | inl e ↦ subst (λ (d : ℕ). get_or (set after next true) d false ≡ true) (sym e) set_here
        | inr ne ↦ set_other a ne ∙ walk.kept a h
      ];
      passed = λ a h. elim (cases_eq a next) [
        | inl e ↦ subst (λ (d : ℕ). get_or (set after next true) d false ≡ true) (sym e) set_here
        | inr ne ↦ set_other a ne ∙ walk.passed a
            (earlier a next (darts_walked w start k) ne (subst (λ (xs : List ℕ). In a xs) more h))
      ];
      only = λ a h. elim (cases_eq a next) [
        | inl e ↦ inr (subst (λ (xs : List ℕ). In a xs) (sym more) (in_right a (darts_walked w start k) (next ∷ []) (inl e)))
        | inr ne ↦ elim (walk.only a (sym (set_other a ne) ∙ h)) [
          | inl old ↦ inl old
          | inr here ↦ inr (subst (λ (xs : List ℕ). In a xs) (sym more) (in_left a (darts_walked w start k) (next ∷ []) here))
        ]
      ];
      size = length-set after next true ∙ walk.size;
    }
  where
    earlier : (a next : ℕ) (xs : List ℕ) → a ≢ next → In a (xs ++ (next ∷ [])) → In a xs
    earlier a next xs ne here =
        elim (in_append a xs (next ∷ []) here) [
          | inl left ↦ left
          | inr right ↦ absurd (elim right [ inl e ↦ ne e | inr none ↦ none ])
        ]

pub walk_goes : (w : DartMap) (start : ℕ) (before after : List Bool) (others listed : List ℕ) (k dart : ℕ) →
    IsStepped w start before after others listed k dart → dart ≢ start → IsWalking w start before after others listed (k + 1) dart
walk_goes w start before after others listed k dart step away =
    let more : suc k ≡ k + 1 = omega arith in
    subst (λ (i : ℕ). IsWalking w start before after others listed i dart) more (record {
      here = step.here;
      away = λ j some most. elim (cases_eq j (suc k)) [
        | inl e ↦ λ h. away (step.here ∙ ap (λ (i : ℕ). steps w i start) (sym e) ∙ h)
        | inr other ↦ step.away j some (omega arith)
      ];
      corners = step.corners;
      kept = step.kept;
      passed = step.passed;
      only = step.only;
      size = step.size;
    })

pub walk_ends : (w : DartMap) (start : ℕ) (before after : List Bool) (others listed : List ℕ) (k dart : ℕ) →
    IsStepped w start before after others listed k dart → k < w.darts → dart ≡ start → IsWalked w start before after others listed
walk_ends w start before after others listed k dart step inside back = record {
  places = suc k;
  period = record {
    some = omega arith;
    most = omega arith;
    back = sym step.here ∙ back;
    first = λ j some less. step.away j some (omega arith);
  };
  corners = step.corners;
  kept = step.kept;
  passed = step.passed;
  only = step.only;
}

-- a walk is back within as many steps as there are darts
pub walk_fails : (w : DartMap) (start : ℕ) (before after : List Bool) (others listed : List ℕ) (k dart : ℕ) → IsTied w → start < w.darts →
    w.darts ≤ k → IsWalking w start before after others listed k dart → ⊥
walk_fails w start before after others listed k dart tied l all walk =
    let period = orbit_of w tied start l in
    walk.away period.0 period.1.some (omega (arith, period.1.most, all)) period.1.back

pub seek_in : (w : DartMap) (a k dart : ℕ) → IsTied w → a < w.darts → IsSeeking w a k dart → dart < w.darts
seek_in w a k dart tied l seek = subst (λ (d : ℕ). d < w.darts) (sym seek.here) (steps_in w tied k a l)

pub seek_face_number : (w : DartMap) (face_number : ℕ → ℕ) (a k dart : ℕ) → IsTied w → AreFaceNumbers w face_number → a < w.darts → IsSeeking w a k dart →
    face_number dart ≡ face_number a
seek_face_number w face_number a k dart tied face_numbers l seek = ap face_number seek.here ∙ face_number_along w face_number tied face_numbers k a l

pub walk_in : (w : DartMap) (start : ℕ) (before after : List Bool) (others listed : List ℕ) (k dart : ℕ) → IsTied w → start < w.darts →
    IsWalking w start before after others listed k dart → dart < w.darts
walk_in w start before after others listed k dart tied l walk =
    subst (λ (d : ℕ). d < w.darts) (sym walk.here) (steps_in w tied k start l)

-- the values that one turn of the loop reads and writes
pub record IsTurn (w : DartMap) (dart next angle : ℕ) (listed new : List ℕ) : Type 0 where
  pub next_is : next ≡ w.next dart
  pub angle_is : angle ≡ w.angle next
  pub put : ((angle ≢ 2) × (new ≡ listed ++ (next ∷ []))) ⊎ ((angle ≡ 2) × (new ≡ listed))

pub walk_turns : (w : DartMap) (start : ℕ) (before after : List Bool) (others listed new : List ℕ) (k dart next angle : ℕ) →
    IsWalking w start before after others listed k dart → next < length after → IsTurn w dart next angle listed new →
    IsStepped w start before (set after next true) others new k next
walk_turns w start before after others listed new k dart next angle walk inside turn =
    walk_steps w start before after others listed new k dart next walk turn.next_is inside
    (elim turn.put [
      | inl corner ↦ inl ((λ h. corner.0 (turn.angle_is ∙ h)), corner.1)
      | inr straight ↦ inr (sym turn.angle_is ∙ straight.0, straight.1)
    ])
