-- The search for directions: what it keeps, and what it has found at its end.
use Rattle.std.proofs.Common.{◌≡◌, ◌≢◌, ◌⊎◌, ℕ, ◌+◌, ◌-◌, ◌*◌, ◌%◌, ◌<◌, ◌≤◌, Bool, true, cond, eqb, not, List, [], ◌∷◌, ◌++◌, length, get_or, set, refl, sym, ap, ◌∙◌, subst, inl, inr, length-append, arith}
use Rattle.std.specs.List.{Contains}
use Rattle.std.proofs.lemmas.List.{get_or_default, get_or-set_same, get_or-set_other, length-set}
use Rattle.std.proofs.lemmas.List.Elements.{Contains-append_left, Contains-append_right, Contains-push_cases}
use Rattle.std.proofs.lemmas.Bool.{cases_eq, eq-eqb, ne_eqb, not-true, not_from_false, true≢false}
use Rattle.common.specs.Sums.{sum_below}
use Rattle.common.proofs.Sums.{sum_below-changed}
use Rattle.faces.specs.Faces.{IsClosedUnder}
use Rattle.faces.specs.Planes.{PlaneModel, IsPlane, HasEnds, darts, reverse_dart, next}
use Rattle.faces.proofs.Ends.{plane_ends, seven_rules}
use Rattle.faces.proofs.Connected.{all_connected}
use Rattle.ortho_rep.specs.declared.turn_strings.Turn.{Turn}
use Rattle.ortho_rep.specs.Turns.{lefts, rights}
use Rattle.ortho_rep.specs.Shapes.{ShapeModel, angle_at, turns_at}
use Rattle.ortho_rep.specs.Representation.{IsShape}
use Rattle.dissect.specs.Directions.{AreDirections}
use Rattle.dissect.proofs.Existence.{plane_directions}
use Rattle.dissect.specs.DirectionSearch.{IsKnown, IsGivenDirection}

-- 1 for a dart without a direction, else 0
abbrev missing_of : List ℕ → ℕ → ℕ
missing_of directions d = cond (eqb (get_or directions d 0) 4) 1 0

-- what is left to do: each dart that waits is taken once, and each that gets a direction waits once
abbrev pub work_of : List ℕ → List ℕ → ℕ
work_of directions waiting = 2 * sum_below (length directions) (missing_of directions) + length waiting

-- no dart
abbrev pub nobody : ℕ → Type 0
nobody d = ⊥

-- the directions found are those of h with c added to each; each dart that has one waits, or is the busy one, or the
-- darts `ahead` of it and `back` from it have theirs
pub record IsSearch (n : ℕ) (h : ℕ → ℕ) (c : ℕ) (ahead back : ℕ → ℕ) (directions waiting : List ℕ) (busy : ℕ → Type 0) : Type 0 where
  pub size : length directions ≡ n
  pub sound : (d : ℕ) → d < n → IsKnown directions d → get_or directions d 0 ≡ (h d + c) % 4
  pub inside : (d : ℕ) → Contains waiting d → (d < n) × IsKnown directions d
  pub gone_on : (d : ℕ) → d < n → IsKnown directions d → Contains waiting d ⊎ (busy d ⊎ (IsKnown directions (ahead d) × IsKnown directions (back d)))

-- what a dart that is reached changes
pub record Reaches (n : ℕ) (h : ℕ → ℕ) (c : ℕ) (ahead back : ℕ → ℕ) (directions waiting : List ℕ) (busy : ℕ → Type 0) (e : ℕ) (directions' waiting' : List ℕ) : Type 0 where
  pub search : IsSearch n h c ahead back directions' waiting' busy
  pub here : IsKnown directions' e
  pub kept : (d : ℕ) → IsKnown directions d → IsKnown directions' d
  pub less : work_of directions' waiting' ≤ work_of directions waiting

-- a direction in step is none that is missing
in_step : (x : ℕ) → x % 4 ≢ 4
in_step x e = omega arith

-- a dart gets its direction
new_reached : {n : ℕ} {h : ℕ → ℕ} {c : ℕ} {ahead back : ℕ → ℕ} {directions waiting : List ℕ} {busy : ℕ → Type 0} (e direction : ℕ) → e < n → direction ≡ (h e + c) % 4 → get_or directions e 0 ≡ 4 → IsSearch n h c ahead back directions waiting busy → Reaches n h c ahead back directions waiting busy e (set directions e direction) (waiting ++ e ∷ [])
new_reached {n} {h} {c} {ahead} {back} {directions} {waiting} {busy} e direction below right new s =
    record {
      search = record {
        size = length-set directions e direction ∙ s.size;
        sound = sound;
        inside = λ d w. elim (Contains-push_cases waiting e d w) [
          | inl old ↦ let (b, known) = s.inside d old in (b, kept d known)
          | inr same ↦ (subst (λ k. k < n) same below, subst (λ k. IsKnown (set directions e direction) k) same here)
        ];
        gone_on = gone_on;
      };
      here = here;
      kept = kept;
      less =
          let long = length-set directions e direction in
          let changed = sum_below-changed (length directions) e (missing_of directions) (missing_of (set directions e direction)) inside (λ i _ other. ap (λ (k : ℕ). cond (eqb k 4) 1 0) (sym (get_or-set_other directions e i direction 0 other))) in
          let was : missing_of directions e ≡ 1 = ap (λ (k : ℕ). cond (eqb k 4) 1 0) new in
          let is : missing_of (set directions e direction) e ≡ 0 = ap (λ (b : Bool). cond b 1 0) (ne_eqb (get_or (set directions e direction) e 0) 4 here) in
          let more : length (waiting ++ e ∷ []) ≡ length waiting + 1 = length-append waiting (e ∷ []) in
          rw long (omega (arith, changed, was, is, more));
    }
  where
    inside : e < length directions
    inside = omega (arith, s.size)

    at_e : get_or (set directions e direction) e 0 ≡ direction
    at_e = get_or-set_same directions e direction 0 inside

    here : IsKnown (set directions e direction) e
    here none = in_step (h e + c) (sym right ∙ (sym at_e ∙ none))

    kept : (d : ℕ) → IsKnown directions d → IsKnown (set directions e direction) d
    kept d known none =
        elim (cases_eq d e) [
          | inl same ↦ known (ap (λ (k : ℕ). get_or directions k 0) same ∙ new)
          | inr other ↦ known (sym (get_or-set_other directions e d direction 0 other) ∙ none)
        ]

    before : (d : ℕ) → d ≢ e → IsKnown (set directions e direction) d → IsKnown directions d
    before d other known none = known (get_or-set_other directions e d direction 0 other ∙ none)

    sound : (d : ℕ) → d < n → IsKnown (set directions e direction) d → get_or (set directions e direction) d 0 ≡ (h d + c) % 4
    sound d b known =
        elim (cases_eq d e) [
          | inl same ↦ ap (λ (k : ℕ). get_or (set directions e direction) k 0) same ∙ (at_e ∙ (right ∙ ap (λ (k : ℕ). (h k + c) % 4) (sym same)))
          | inr other ↦ get_or-set_other directions e d direction 0 other ∙ s.sound d b (before d other known)
        ]

    gone_on : (d : ℕ) → d < n → IsKnown (set directions e direction) d → Contains (waiting ++ e ∷ []) d ⊎ (busy d ⊎ (IsKnown (set directions e direction) (ahead d) × IsKnown (set directions e direction) (back d)))
    gone_on d b known =
        elim (cases_eq d e) [
          | inl same ↦ inl (Contains-append_right waiting (e ∷ []) d (0, omega arith, sym same))
          | inr other ↦ elim (s.gone_on d b (before d other known)) [
            | inl w ↦ inl (Contains-append_left waiting (e ∷ []) d w)
            | inr rest ↦ inr (elim rest [
              | inl now ↦ inl now
              | inr both ↦ inr (kept (ahead d) both.0, kept (back d) both.1)
            ])
          ]
        ]

-- a dart is reached
pub reached : {n : ℕ} {h : ℕ → ℕ} {c : ℕ} {ahead back : ℕ → ℕ} {directions waiting : List ℕ} {busy : ℕ → Type 0} (e direction : ℕ) (directions' waiting' : List ℕ) → e < n → direction ≡ (h e + c) % 4 → IsSearch n h c ahead back directions waiting busy → IsGivenDirection directions waiting e direction directions' waiting' → Reaches n h c ahead back directions waiting busy e directions' waiting'
reached {n} {h} {c} {ahead} {back} {directions} {waiting} {busy} e direction directions' waiting' below right s (inl (known, same, still)) =
    rw (same, still) (record { search = s; here = known; kept = λ d k. k; less = omega arith })
reached {n} {h} {c} {ahead} {back} {directions} {waiting} {busy} e direction directions' waiting' below right s (inr (new, same, more)) =
    rw (same, more) (new_reached e direction below right new s)

-- the first dart
pub search_starts : (n : ℕ) (h : ℕ → ℕ) (c : ℕ) (ahead back : ℕ → ℕ) (directions : List ℕ) → length directions ≡ n → ((d : ℕ) → d < n → get_or directions d 0 ≡ 4) → IsSearch n h c ahead back directions [] nobody
search_starts n h c ahead back directions size blank =
    record {
      size = size;
      sound = λ d b known. absurd (known (blank d b));
      inside = λ d w. absurd (omega (arith, w.1));
      gone_on = λ d b known. absurd (known (blank d b));
    }

-- a dart is taken to go on from it
pub search_taken : {n : ℕ} {h : ℕ → ℕ} {c : ℕ} {ahead back : ℕ → ℕ} {directions waiting : List ℕ} (rest : List ℕ) (d : ℕ) → waiting ≡ rest ++ d ∷ [] → IsSearch n h c ahead back directions waiting nobody → (d < n) × IsKnown directions d × IsSearch n h c ahead back directions rest (λ x. x ≡ d)
search_taken {n} {h} {c} {ahead} {back} {directions} {waiting} rest d was s =
    let at_end : Contains waiting d = subst (λ (w : List ℕ). Contains w d) (sym was) (Contains-append_right rest (d ∷ []) d (0, omega arith, refl)) in
    let (below, known) = s.inside d at_end in (
      below,
      known,
      record {
        size = s.size;
        sound = s.sound;
        inside = λ x w. s.inside x (subst (λ (w : List ℕ). Contains w x) (sym was) (Contains-append_left rest (d ∷ []) x w));
        gone_on = λ x b k. elim (s.gone_on x b k) [
          | inl w ↦ elim (Contains-push_cases rest d x (subst (λ (w : List ℕ). Contains w x) was w)) [
            | inl old ↦ inl old
            | inr same ↦ inr (inl (sym same))
          ]
          | inr other ↦ elim other [
            | inl none ↦ absurd none
            | inr both ↦ inr (inr both)
          ]
        ];
      },
    )

-- and both darts that follow it have their directions
pub search_passed : {n : ℕ} {h : ℕ → ℕ} {c : ℕ} {ahead back : ℕ → ℕ} {directions waiting : List ℕ} (d : ℕ) → IsKnown directions (ahead d) → IsKnown directions (back d) → IsSearch n h c ahead back directions waiting (λ x. x ≡ d) → IsSearch n h c ahead back directions waiting nobody
search_passed {n} {h} {c} {ahead} {back} {directions} {waiting} d first second s =
    record {
      size = s.size;
      sound = s.sound;
      inside = s.inside;
      gone_on = λ x b k. elim (s.gone_on x b k) [
        | inl w ↦ inl w
        | inr other ↦ elim other [
          | inl same ↦ inr (inr (rw same first, rw same second))
          | inr both ↦ inr (inr both)
        ]
      ];
    }

-- where no dart waits, each has its direction
pub search_whole : (p : PlaneModel) → IsPlane p → {h : ℕ → ℕ} {c : ℕ} {directions : List ℕ} → IsKnown directions 0 → IsSearch (darts p) h c (λ d. reverse_dart p (next p d)) (reverse_dart p) directions [] nobody → (d : ℕ) → d < darts p → get_or directions d 0 ≡ (h d + c) % 4
search_whole p is {h} {c} {directions} first s d b =
    s.sound d b (known d (all_connected p.lists (seven_rules p.lists is.rules) held onward across 0 d ends.some_darts b (holds 0 first)))
  where
    ends : HasEnds p
    ends = plane_ends p is

    held : ℕ → Bool
    held d = not (eqb (get_or directions d 0) 4)

    holds : (d : ℕ) → IsKnown directions d → not (eqb (get_or directions d 0) 4) ≡ true
    holds d k = not_from_false (eqb (get_or directions d 0) 4) (ne_eqb (get_or directions d 0) 4 k)

    known : (d : ℕ) → not (eqb (get_or directions d 0) 4) ≡ true → IsKnown directions d
    known d flagged none = true≢false (sym (eq-eqb (get_or directions d 0) 4 none) ∙ not-true (eqb (get_or directions d 0) 4) flagged)

    both : (d : ℕ) → d < darts p → IsKnown directions d → IsKnown directions (reverse_dart p (next p d)) × IsKnown directions (reverse_dart p d)
    both d b k = elim (s.gone_on d b k) [
      | inl w ↦ absurd (omega (arith, w.1))
      | inr other ↦ elim other [
        | inl none ↦ absurd none
        | inr two ↦ two
      ]
    ]

    across : IsClosedUnder (darts p) (reverse_dart p) (λ d. not (eqb (get_or directions d 0) 4))
    across d b flagged = holds (reverse_dart p d) (both d b (known d flagged)).1

    onward : IsClosedUnder (darts p) (next p) (λ d. not (eqb (get_or directions d 0) 4))
    onward d b flagged =
        let inside = ends.next_one.inside d b in
        let back : reverse_dart p (reverse_dart p (next p d)) ≡ next p d = ends.reverse_dart_back (next p d) inside in
        subst (λ x. not (eqb (get_or directions x 0) 4) ≡ true) back
        (across (reverse_dart p (next p d)) (ends.reverse_dart_in_range (next p d) inside) (holds (reverse_dart p (next p d)) (both d b (known d flagged)).0))

-- directions with c added to each are directions too
pub turned_headings : (p : PlaneModel) (a : ℕ → ℕ) (s : ℕ → List Turn) (h : ℕ → ℕ) (c : ℕ) (g : ℕ → ℕ) → ((d : ℕ) → d < darts p → reverse_dart p d < darts p) → ((d : ℕ) → d < darts p → next p d < darts p) → AreDirections p a s h → ((d : ℕ) → d < darts p → g d ≡ (h d + c) % 4) → AreDirections p a s g
turned_headings p a s h c g reverse_darts nexts are same =
    record {
      quarter = λ d b. omega (arith, same d b);
      angles = λ d b. omega (arith, same d b, same (reverse_dart p (next p d)) (reverse_darts (next p d) (nexts d b)), are.angles d b);
      strings = λ d b. omega (arith, same d b, same (reverse_dart p d) (reverse_darts d b), are.strings d b);
    }

-- a dart that is reached leaves the length as it is
pub reached_size : (directions waiting : List ℕ) (e direction : ℕ) (directions' waiting' : List ℕ) → IsGivenDirection directions waiting e direction directions' waiting' → length directions' ≡ length directions
reached_size directions waiting e direction directions' waiting' (inl (known, same, still)) = ap (length {A = ℕ}) same
reached_size directions waiting e direction directions' waiting' (inr (new, same, more)) = ap (length {A = ℕ}) same ∙ length-set directions e direction

-- the direction of the dart that arrives next clockwise, in step where the dart's is
clockwise_in_step : (x direction angle hd hm c : ℕ) → x < 4 → (x + angle) % 4 ≡ direction → direction ≡ (hd + c) % 4 → (hm + angle) % 4 ≡ hd → x ≡ (hm + c) % 4
clockwise_in_step x direction angle hd hm c small turned is met = omega arith

-- the direction of the reverse, in step where the dart's is
reverse_in_step : (x direction l r hd hm c : ℕ) → x < 4 → (x + 2 + l) % 4 ≡ (direction + r) % 4 → direction ≡ (hd + c) % 4 → (hm + 2 + l) % 4 ≡ (hd + r) % 4 → x ≡ (hm + c) % 4
reverse_in_step x direction l r hd hm c small turned is met = omega arith

-- the first dart has the direction 0
pub search_first : (p : PlaneModel) (a : ℕ → ℕ) (s : ℕ → List Turn) (h : ℕ → ℕ) (blank directions waiting : List ℕ) → IsPlane p → AreDirections p a s h → length blank ≡ darts p → ((d : ℕ) → d < darts p → get_or blank d 0 ≡ 4) → IsGivenDirection blank [] 0 0 directions waiting → IsKnown directions 0 × IsSearch (darts p) h (4 - h 0) (λ d. reverse_dart p (next p d)) (reverse_dart p) directions waiting nobody
search_first p a s h blank directions waiting is are size none step =
    let some : 0 < darts p = (plane_ends p is).some_darts in
    let small : h 0 < 4 = are.quarter 0 some in
    let now = reached 0 0 directions waiting some (omega arith) (search_starts (darts p) h (4 - h 0) (λ d. reverse_dart p (next p d)) (reverse_dart p) blank size none) step in
    (now.here, now.search)

-- what the darts that follow dart d get in one step
pub record IsStep (p : PlaneModel) (a : ℕ → ℕ) (s : ℕ → List Turn) (directions rest : List ℕ) (d : ℕ) (directions' waiting' : List ℕ) : Type 0 where
  pub ahead : ℕ
  pub back : ℕ
  pub ahead_is : ahead ≡ reverse_dart p (next p d)
  pub back_is : back ≡ reverse_dart p d
  pub first : ℕ
  pub second : ℕ
  pub first_small : first < 4
  pub first_turned : (first + a d) % 4 ≡ get_or directions d 0
  pub second_small : second < 4
  pub second_turned : (second + 2 + lefts (s d)) % 4 ≡ (get_or directions d 0 + rights (s d)) % 4
  pub between : List ℕ
  pub queue : List ℕ
  pub first_reached : IsGivenDirection directions rest ahead first between queue
  pub second_reached : IsGivenDirection between queue back second directions' waiting'

-- one step
pub search_step : (p : PlaneModel) (a : ℕ → ℕ) (s : ℕ → List Turn) (h : ℕ → ℕ) → IsPlane p → AreDirections p a s h → {directions waiting rest directions' waiting' : List ℕ} (d : ℕ) → waiting ≡ rest ++ d ∷ [] → IsStep p a s directions rest d directions' waiting' → IsSearch (darts p) h (4 - h 0) (λ d. reverse_dart p (next p d)) (reverse_dart p) directions waiting nobody → IsSearch (darts p) h (4 - h 0) (λ d. reverse_dart p (next p d)) (reverse_dart p) directions' waiting' nobody × ((x : ℕ) → IsKnown directions x → IsKnown directions' x) × (work_of directions' waiting' < work_of directions waiting)
search_step p a s h is are {directions} {waiting} {rest} {directions'} {waiting'} d was step search =
    let ends = plane_ends p is in
    let (below, known, taken) = search_taken rest d was search in
    let direction : get_or directions d 0 ≡ (h d + (4 - h 0)) % 4 = search.sound d below known in
    let next_in : next p d < darts p = ends.next_one.inside d below in
    let onward = subst (λ e. IsGivenDirection directions rest e step.first step.between step.queue) step.ahead_is step.first_reached in
    let across = subst (λ e. IsGivenDirection step.between step.queue e step.second directions' waiting') step.back_is step.second_reached in
    let one = reached (reverse_dart p (next p d)) step.first step.between step.queue (ends.reverse_dart_in_range (next p d) next_in)
    (clockwise_in_step step.first (get_or directions d 0) (a d) (h d) (h (reverse_dart p (next p d))) (4 - h 0) step.first_small step.first_turned direction (are.angles d below)) taken onward in
    let two = reached (reverse_dart p d) step.second directions' waiting' (ends.reverse_dart_in_range d below)
    (reverse_in_step step.second (get_or directions d 0) (lefts (s d)) (rights (s d)) (h d) (h (reverse_dart p d)) (4 - h 0) step.second_small step.second_turned direction (are.strings d below)) one.search across in
    let longer : length waiting ≡ length rest + 1 = ap (length {A = ℕ}) was ∙ length-append rest (d ∷ []) in (
      search_passed d (two.kept (reverse_dart p (next p d)) one.here) two.here two.search,
      λ x k. two.kept x (one.kept x k),
      omega (arith, one.less, two.less, longer),
    )

-- where no dart waits, the directions found are directions of all darts
pub search_ends : (p : PlaneModel) (a : ℕ → ℕ) (s : ℕ → List Turn) (h : ℕ → ℕ) (directions : List ℕ) → IsPlane p → AreDirections p a s h → IsKnown directions 0 → IsSearch (darts p) h (4 - h 0) (λ d. reverse_dart p (next p d)) (reverse_dart p) directions [] nobody → AreDirections p a s (λ d. get_or directions d 0)
search_ends p a s h directions is are first search =
    let ends = plane_ends p is in
    turned_headings p a s h (4 - h 0) (λ d. get_or directions d 0) ends.reverse_dart_in_range ends.next_one.inside are (search_whole p is first search)

-- the direction that is read
pub read_at : (xs : List ℕ) (i j y : ℕ) → y ≡ get_or xs i y → i ≡ j → j < length xs → get_or xs j 0 ≡ y
read_at xs i j y e same inside =
    get_or_default xs j 0 y inside ∙ (ap (λ (k : ℕ). get_or xs k y) (sym same) ∙ sym e)

-- the directions that a shape has
pub shape_directions : (p : PlaneModel) (shape : ShapeModel) → IsPlane p → IsShape p shape → (h : ℕ → ℕ) × AreDirections p (angle_at shape) (turns_at shape) h
shape_directions p shape is shaped = plane_directions p (angle_at shape) (turns_at shape) is shaped.rep
