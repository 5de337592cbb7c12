-- What is given, as turns to the left and turns to the right: those of a dart are those of its reverse, exchanged, and no face
-- has more than all edges have.
use Rattle.std.proofs.Common.{◌≡◌, ◌≢◌, ℕ, zero, suc, ◌+◌, ◌-◌, ◌*◌, ◌<◌, ◌≤◌, ◌==◌, if◌then◌else◌, ltb, Bool, true, false, List, length, ◌∙◌, refl, subst, sym, ap, inl, inr, arith}
use Rattle.std.specs.Prelude.{ℤ, pos, negsuc, ◌+ℤ◌, ◌-ℤ◌, ◌≤ℤ◌, nat_abs, nat_lt, slice_index_or, Option, Some, None}
use Rattle.std.proofs.lemmas.Bool.{cases_lt, cases_eq, cases_Bool, eq-eqb, ne_eqb, cond-true, cond-false, lt-ltb, le-ltb}
use Rattle.std.proofs.lemmas.Int.{ints}
use Rattle.std.proofs.lemmas.List.{get_or_past}
use Rattle.common.specs.Sums.{sum_below}
use Rattle.common.proofs.Sums.{sum_below-same, sum_below-le, sum_below-add, sum_below-none, sum_below-member, sum_below-split, sum_below-turned, exchanged, total_below-parts}
use Rattle.embedding.specs.Lesser.{is_lesser_of}
use Rattle.faces.specs.Planes.{PlaneModel, IsPlane, HasEnds, darts, vertices, head, reverse_dart, face_at, degree}
use Rattle.faces.proofs.Ends.{plane_ends}
use Rattle.flow_network.specs.declared.given_shape.TheConstants.{MAX_GIVEN_TURNS}
use Rattle.flow_network.specs.Given.{GivenModel, CanBeGiven, IsAngle, nothing_given, angle_given, turns_given, walked_back, beyond_first, lefts_given, turns_in_all}
use Rattle.flow_network.specs.FaceNet.{vertex_degree, beyond_at_vertex, beyond_in_face, lefts_in_face, vertex_has_to_turn, face_has_to_turn}

-- how often given turns go to the left, and how often to the right
abbrev pub left_part : Option ℤ → ℕ
left_part None = 0
left_part (Some (pos n)) = n
left_part (Some (negsuc n)) = 0

abbrev pub right_part : Option ℤ → ℕ
right_part None = 0
right_part (Some (pos n)) = 0
right_part (Some (negsuc n)) = n + 1

pub lefts_parts : (g : Option ℤ) → lefts_given g ≡ pos (left_part g) -ℤ pos (right_part g)
lefts_parts None = omega (arith, ints)
lefts_parts (Some (pos n)) = omega (arith, ints)
lefts_parts (Some (negsuc n)) = omega (arith, ints)

pub both_parts : (g : Option ℤ) → left_part g + right_part g ≡ nat_abs (lefts_given g)
both_parts None = refl
both_parts (Some (pos n)) = omega arith
both_parts (Some (negsuc n)) = omega arith

pub left_back : (g : Option ℤ) → left_part (walked_back g) ≡ right_part g
left_back None = refl
left_back (Some (pos zero)) = refl
left_back (Some (pos (suc n))) = refl
left_back (Some (negsuc n)) = omega arith

pub right_back : (g : Option ℤ) → right_part (walked_back g) ≡ left_part g
right_back None = refl
right_back (Some (pos zero)) = refl
right_back (Some (pos (suc n))) = omega arith
right_back (Some (negsuc n)) = refl

pub back_twice : (g : Option ℤ) → walked_back (walked_back g) ≡ g
back_twice None = refl
back_twice (Some (pos zero)) = refl
back_twice (Some (pos (suc n))) = refl
back_twice (Some (negsuc n)) = refl

pub abs_le : (t : ℤ) (k : ℕ) → nat_abs t ≤ k → ((pos 0 -ℤ pos k) ≤ℤ t) × (t ≤ℤ pos k)
abs_le (pos n) k few = (omega (arith, ints, few), omega (arith, ints, few))
abs_le (negsuc n) k few = (omega (arith, ints, few), omega (arith, ints, few))

-- of an edge's two darts one is the lesser
pub lesser_turned : (p : PlaneModel) (d : ℕ) → HasEnds p → d < darts p → is_lesser_of p.lists (reverse_dart p d) ≡ (if is_lesser_of p.lists d then false else true)
lesser_turned p d ends b =
    let r = reverse_dart p d in
    let back : reverse_dart p r ≡ d = ends.reverse_dart_back d b in
    elim (cases_lt d r) [
      | inl less ↦
          ap (λ (e : ℕ). nat_lt r e) back ∙ le-ltb r d (omega arith)
          ∙ sym (cond-true {A = Bool} (ltb d r) false true (lt-ltb d r less))
      | inr more ↦
          let apart : r ≢ d = ends.reverse_dart_apart d b in
          let less : r < d = omega (arith, more, apart) in
          ap (λ (e : ℕ). nat_lt r e) back ∙ lt-ltb r d less
          ∙ sym (cond-false {A = Bool} (ltb d r) false true (le-ltb d r more))
    ]

-- what is given along a dart is given along its reverse, walked back
pub turns_back : (p : PlaneModel) (given : GivenModel) (d : ℕ) → HasEnds p → d < darts p → turns_given p given (reverse_dart p d) ≡ walked_back (turns_given p given d)
turns_back p given d ends b =
    let r = reverse_dart p d in
    let back : reverse_dart p r ≡ d = ends.reverse_dart_back d b in
    let at : ℕ → Option ℤ = λ e. slice_index_or given.turns e None in
    elim (cases_Bool (is_lesser_of p.lists d)) [
      | inl lesser ↦
          let other : is_lesser_of p.lists r ≡ false = lesser_turned p d ends b ∙ ap (λ (c : Bool). if c then false else true) lesser in
          cond-false {A = Option ℤ} (is_lesser_of p.lists r) (at r) (walked_back (at (reverse_dart p r))) other
          ∙ ap (λ (e : ℕ). walked_back (at e)) back
          ∙ ap walked_back (sym (cond-true {A = Option ℤ} (is_lesser_of p.lists d) (at d) (walked_back (at r)) lesser))
      | inr greater ↦
          let other : is_lesser_of p.lists r ≡ true = lesser_turned p d ends b ∙ ap (λ (c : Bool). if c then false else true) greater in
          cond-true {A = Option ℤ} (is_lesser_of p.lists r) (at r) (walked_back (at (reverse_dart p r))) other
          ∙ sym (back_twice (at r))
          ∙ ap walked_back (sym (cond-false {A = Option ℤ} (is_lesser_of p.lists d) (at d) (walked_back (at r)) greater))
    ]

-- where nothing is given no dart has any
pub none_along : (p : PlaneModel) (d : ℕ) → turns_given p nothing_given d ≡ None
none_along p d = by_dart (is_lesser_of p.lists d)
  where
    by_dart : (c : Bool) → (if c then None else walked_back None) ≡ None
    by_dart true = refl
    by_dart false = refl

pub none_at : (d : ℕ) → angle_given nothing_given d ≡ None
none_at d = refl

-- an angle that can be given has three right angles beyond the first at most
pub angle_few : (g : Option ℕ) → IsAngle g → beyond_first g ≤ 3
angle_few None is = omega arith
angle_few (Some k) is = omega (arith, is.1)

pub beyond_first_few : (given : GivenModel) → CanBeGiven given.angles given.turns → (d : ℕ) → beyond_first (angle_given given d) ≤ 3
beyond_first_few given can d =
    elim (cases_lt d (length given.angles)) [
      | inl inside ↦ angle_few (angle_given given d) (can.are_angles d None inside)
      | inr past ↦ angle_few (angle_given given d) (subst IsAngle (sym (get_or_past given.angles d None past)) tt)
    ]

-- nor does it where the list has none
pub empty_along : (p : PlaneModel) (given : GivenModel) (d : ℕ) → length given.turns ≡ 0 → turns_given p given d ≡ None
empty_along p given d none =
    by_dart (is_lesser_of p.lists d) (slice_index_or given.turns d None) (slice_index_or given.turns (reverse_dart p d) None)
    (get_or_past given.turns d None (omega (arith, none))) (get_or_past given.turns (reverse_dart p d) None (omega (arith, none)))
  where
    by_dart : (c : Bool) (g h : Option ℤ) → g ≡ None → h ≡ None → (if c then g else walked_back h) ≡ None
    by_dart true g h one other = one
    by_dart false g h one other = ap walked_back other

-- walked back they are as many
pub abs_back : (g : Option ℤ) → nat_abs (lefts_given (walked_back g)) ≡ nat_abs (lefts_given g)
abs_back None = refl
abs_back (Some (pos zero)) = refl
abs_back (Some (pos (suc n))) = omega arith
abs_back (Some (negsuc n)) = omega arith

-- what stands at one place of a list is no more than what stands at all
pub listed_few : (turns : List (Option ℤ)) → turns_in_all turns ≤ MAX_GIVEN_TURNS → (d : ℕ) → nat_abs (lefts_given (slice_index_or turns d None)) ≤ MAX_GIVEN_TURNS
listed_few turns few d =
    elim (cases_lt d (length turns)) [
      | inl inside ↦ omega (arith, few, sum_below-member (length turns) d (λ e. nat_abs (lefts_given (slice_index_or turns e None))) inside)
      | inr past ↦ subst (λ (g : Option ℤ). nat_abs (lefts_given g) ≤ MAX_GIVEN_TURNS) (sym (get_or_past turns d None past)) (omega arith)
    ]

pub turns_few : (p : PlaneModel) (given : GivenModel) → CanBeGiven given.angles given.turns → (d : ℕ) → nat_abs (lefts_given (turns_given p given d)) ≤ MAX_GIVEN_TURNS
turns_few p given can d =
    by_dart (is_lesser_of p.lists d) (slice_index_or given.turns d None) (slice_index_or given.turns (reverse_dart p d) None)
    (listed_few given.turns can.few d) (listed_few given.turns can.few (reverse_dart p d))
  where
    by_dart : (c : Bool) (g h : Option ℤ) → nat_abs (lefts_given g) ≤ MAX_GIVEN_TURNS → nat_abs (lefts_given h) ≤ MAX_GIVEN_TURNS → nat_abs (lefts_given (if c then g else walked_back h)) ≤ MAX_GIVEN_TURNS
    by_dart true g h one other = one
    by_dart false g h one other = omega (arith, abs_back h, other)

-- the first n places of a list have no more turns than all
pub some_places : (turns : List (Option ℤ)) (n : ℕ) → sum_below n (λ d. nat_abs (lefts_given (slice_index_or turns d None))) ≤ turns_in_all turns
some_places turns n =
    let f : ℕ → ℕ = λ d. nat_abs (lefts_given (slice_index_or turns d None)) in
    let m = length turns in
    elim (cases_lt m n) [
      | inl less ↦
          let rest : sum_below (n - m) (λ i. f (m + i)) ≡ 0 = sum_below-none (n - m) (λ i. f (m + i))
          (λ i _. ap (λ (g : Option ℤ). nat_abs (lefts_given g)) (get_or_past turns (m + i) None (omega arith))) in
          let whole : m + (n - m) ≡ n = omega arith in
          omega (arith, rest, sum_below-split m (n - m) f, ap (λ (k : ℕ). sum_below k f) whole)
      | inr more ↦
          let whole : n + (m - n) ≡ m = omega arith in
          omega (arith, sum_below-split n (m - n) f, ap (λ (k : ℕ). sum_below k f) whole)
    ]

-- the left turns of all darts are all turns of the lesser ones, and so are the right turns
pub all_parts : (p : PlaneModel) (given : GivenModel) (one other : Option ℤ → ℕ) → HasEnds p → ((g : Option ℤ) → one (walked_back g) ≡ other g) → ((g : Option ℤ) → one g + other g ≡ nat_abs (lefts_given g)) →
    sum_below (darts p) (λ d. one (turns_given p given d)) ≤ turns_in_all given.turns
all_parts p given one other ends back both =
    let n = darts p in
    let r = reverse_dart p in
    let lesser : ℕ → Bool = is_lesser_of p.lists in
    let f : ℕ → ℕ = λ d. one (turns_given p given d) in
    let low : ℕ → ℕ = λ d. if lesser d then f d else 0 in
    let high : ℕ → ℕ = λ d. if lesser d then 0 else f d in
    let apart : sum_below n f ≡ sum_below n low + sum_below n high =
    sum_below-same n f (λ d. low d + high d) (λ d _. halves (lesser d) (f d)) ∙ sum_below-add n low high in
    let turned : sum_below n (λ d. high (r d)) ≡ sum_below n high = sum_below-turned n r high ends.reverse_dart_in_range ends.reverse_dart_back in
    let mirror : sum_below n (λ d. high (r d)) ≡ sum_below n (λ d. if lesser d then other (turns_given p given d) else 0) =
    sum_below-same n (λ d. high (r d)) (λ d. if lesser d then other (turns_given p given d) else 0)
    (λ d b. flipped (lesser d) (lesser (r d)) (f (r d)) (other (turns_given p given d)) (lesser_turned p d ends b) (ap one (turns_back p given d ends b) ∙ back (turns_given p given d))) in
    let joined : sum_below n low + sum_below n (λ d. if lesser d then other (turns_given p given d) else 0) ≡ sum_below n (λ d. low d + (if lesser d then other (turns_given p given d) else 0)) =
    sym (sum_below-add n low (λ d. if lesser d then other (turns_given p given d) else 0)) in
    let listed : sum_below n (λ d. low d + (if lesser d then other (turns_given p given d) else 0)) ≤ sum_below n (λ d. nat_abs (lefts_given (slice_index_or given.turns d None))) =
    sum_below-le n (λ d. low d + (if lesser d then other (turns_given p given d) else 0)) (λ d. nat_abs (lefts_given (slice_index_or given.turns d None)))
    (λ d _. at_lesser (lesser d) (slice_index_or given.turns d None) (walked_back (slice_index_or given.turns (r d) None)) one other both) in
    omega (arith, apart, turned, mirror, joined, listed, some_places given.turns n)
  where
    halves : (c : Bool) (k : ℕ) → k ≡ (if c then k else 0) + (if c then 0 else k)
    halves true k = omega arith
    halves false k = omega arith

    flipped : (c e : Bool) (k m : ℕ) → e ≡ (if c then false else true) → k ≡ m → (if e then 0 else k) ≡ (if c then m else 0)
    flipped true true k m is same = cc
    flipped true false k m is same = same
    flipped false true k m is same = refl
    flipped false false k m is same = cc

    at_lesser : (c : Bool) (g h : Option ℤ) (one other : Option ℤ → ℕ) → ((g : Option ℤ) → one g + other g ≡ nat_abs (lefts_given g)) →
        (if c then one (if c then g else h) else 0) + (if c then other (if c then g else h) else 0) ≤ nat_abs (lefts_given g)
    at_lesser true g h one other both = omega (arith, both g)
    at_lesser false g h one other both = omega arith

-- so those of a face's darts are at most so many, to each side
pub lefts_few : (given : GivenModel) (p : PlaneModel) → IsPlane p → CanBeGiven given.angles given.turns → (f : ℕ) → nat_abs (lefts_in_face p given f) ≤ MAX_GIVEN_TURNS
lefts_few given p plane can f =
    let ends = plane_ends p plane in
    let n = darts p in
    let g : ℕ → Option ℤ = turns_given p given in
    let ls : ℕ → ℕ = λ d. if face_at p d == f then left_part (g d) else 0 in
    let rs : ℕ → ℕ = λ d. if face_at p d == f then right_part (g d) else 0 in
    let parts : lefts_in_face p given f ≡ pos (sum_below n ls) -ℤ pos (sum_below n rs) =
    total_below-parts n (λ d. if face_at p d == f then lefts_given (g d) else pos 0) ls rs (λ d _. split (face_at p d == f) (g d)) in
    let few_lefts : sum_below n ls ≤ sum_below n (λ d. left_part (g d)) = sum_below-le n ls (λ d. left_part (g d)) (λ d _. no_more (face_at p d == f) (left_part (g d))) in
    let few_rights : sum_below n rs ≤ sum_below n (λ d. right_part (g d)) = sum_below-le n rs (λ d. right_part (g d)) (λ d _. no_more (face_at p d == f) (right_part (g d))) in
    close (lefts_in_face p given f) (sum_below n ls) (sum_below n rs) MAX_GIVEN_TURNS parts
    (omega (arith, few_lefts, can.few, all_parts p given left_part right_part ends left_back both_parts))
    (omega (arith, few_rights, can.few, all_parts p given right_part left_part ends right_back (λ k. omega (arith, both_parts k))))
  where
    split : (c : Bool) (g : Option ℤ) → (if c then lefts_given g else pos 0) ≡ pos (if c then left_part g else 0) -ℤ pos (if c then right_part g else 0)
    split true g = lefts_parts g
    split false g = omega (arith, ints)

    no_more : (c : Bool) (k : ℕ) → (if c then k else 0) ≤ k
    no_more true k = omega arith
    no_more false k = omega arith

    close : (z : ℤ) (a b k : ℕ) → z ≡ pos a -ℤ pos b → a ≤ k → b ≤ k → nat_abs z ≤ k
    close (pos n) a b k is few less = omega (arith, ints, is)
    close (negsuc n) a b k is few less = omega (arith, ints, is)

-- where nothing is given, all have to turn as ever
pub vertex_plain : (p : PlaneModel) (v : ℕ) → vertex_has_to_turn p nothing_given v ≡ pos 4 -ℤ pos (vertex_degree p v)
vertex_plain p v =
    let none : beyond_at_vertex p nothing_given v ≡ 0 = sum_below-none (darts p) (λ d. if head p d == v then beyond_first (angle_given nothing_given d) else 0) (λ d _. zero_or (head p d == v)) in
    less (vertex_degree p v) (beyond_at_vertex p nothing_given v) none
  where
    zero_or : (c : Bool) → ◌≡◌ {A = ℕ} (if c then 0 else 0) 0
    zero_or true = refl
    zero_or false = refl

    less : (k more : ℕ) → more ≡ 0 → pos 4 -ℤ pos k -ℤ pos more ≡ pos 4 -ℤ pos k
    less k more none = omega (arith, ints)

pub face_plain : (p : PlaneModel) (f : ℕ) → face_has_to_turn p nothing_given f ≡ (if f == p.outer then negsuc 3 else pos 4) -ℤ pos (degree p f)
face_plain p f =
    let angles : beyond_in_face p nothing_given f ≡ 0 = sum_below-none (darts p) (λ d. if face_at p d == f then beyond_first (angle_given nothing_given d) else 0) (λ d _. zero_or (face_at p d == f)) in
    let turns : lefts_in_face p nothing_given f ≡ pos 0 =
    total_below-parts (darts p) (λ d. if face_at p d == f then lefts_given (turns_given p nothing_given d) else pos 0) (λ _. 0) (λ _. 0)
    (λ d _. ap (λ (g : Option ℤ). if face_at p d == f then lefts_given g else pos 0) (none_along p d) ∙ nothing (face_at p d == f))
    ∙ even (sum_below (darts p) (λ _. 0)) in
    less (if f == p.outer then negsuc 3 else pos 4) (degree p f) (beyond_in_face p nothing_given f) (lefts_in_face p nothing_given f) angles turns
  where
    zero_or : (c : Bool) → ◌≡◌ {A = ℕ} (if c then 0 else 0) 0
    zero_or true = refl
    zero_or false = refl

    nothing : (c : Bool) → (if c then pos 0 else pos 0) ≡ pos 0 -ℤ pos 0
    nothing true = omega (arith, ints)
    nothing false = omega (arith, ints)

    even : (k : ℕ) → pos k -ℤ pos k ≡ pos 0
    even k = omega (arith, ints)

    less : (turn : ℤ) (k more : ℕ) (t : ℤ) → more ≡ 0 → t ≡ pos 0 → turn -ℤ pos k +ℤ pos more -ℤ t ≡ turn -ℤ pos k
    less turn k more t none straight = omega (arith, ints)

-- the left turns that are given to a face's darts, and the right turns
abbrev pub lefts_of_face : PlaneModel → GivenModel → ℕ → ℕ
lefts_of_face p given f = sum_below (darts p) (λ d. if face_at p d == f then left_part (turns_given p given d) else 0)

abbrev pub rights_of_face : PlaneModel → GivenModel → ℕ → ℕ
rights_of_face p given f = sum_below (darts p) (λ d. if face_at p d == f then right_part (turns_given p given d) else 0)

pub face_parts : (p : PlaneModel) (given : GivenModel) (f : ℕ) → lefts_in_face p given f ≡ pos (lefts_of_face p given f) -ℤ pos (rights_of_face p given f)
face_parts p given f =
    total_below-parts (darts p) (λ d. if face_at p d == f then lefts_given (turns_given p given d) else pos 0)
    (λ d. if face_at p d == f then left_part (turns_given p given d) else 0) (λ d. if face_at p d == f then right_part (turns_given p given d) else 0)
    (λ d _. split (face_at p d == f) (turns_given p given d))
  where
    split : (c : Bool) (g : Option ℤ) → (if c then lefts_given g else pos 0) ≡ pos (if c then left_part g else 0) -ℤ pos (if c then right_part g else 0)
    split true g = lefts_parts g
    split false g = omega (arith, ints)

-- a number of each dart, summed at the places of all darts
pub all_at : (n m : ℕ) (at x : ℕ → ℕ) → ((d : ℕ) → d < n → at d < m) → sum_below m (λ k. sum_below n (λ d. if at d == k then x d else 0)) ≡ sum_below n x
all_at n m at x inside =
    sum_below-same m (λ k. sum_below n (λ d. if at d == k then x d else 0)) (λ k. 1 * sum_below n (λ d. if at d == k then x d else 0)) (λ k _. omega arith)
    ∙ exchanged n m at x (λ _. 1) inside
    ∙ sum_below-same n (λ d. 1 * x d) x (λ d _. omega arith)

-- vertices are counted from 1
pub all_at_vertices : (p : PlaneModel) (x : ℕ → ℕ) → HasEnds p → sum_below (vertices p) (λ k. sum_below (darts p) (λ d. if head p d == k + 1 then x d else 0)) ≡ sum_below (darts p) x
all_at_vertices p x ends =
    sum_below-same (vertices p) (λ k. sum_below (darts p) (λ d. if head p d == k + 1 then x d else 0)) (λ k. sum_below (darts p) (λ d. if head p d - 1 == k then x d else 0))
    (λ k _. sum_below-same (darts p) (λ d. if head p d == k + 1 then x d else 0) (λ d. if head p d - 1 == k then x d else 0)
    (λ d b. ap (λ (c : Bool). if c then x d else 0) (alike (head p d) k (ends.head_from d b))))
    ∙ all_at (darts p) (vertices p) (λ d. head p d - 1) x (λ d b. omega (arith, ends.head_from d b, ends.head_to d b))
  where
    alike : (h k : ℕ) → 1 ≤ h → (h == k + 1) ≡ (h - 1 == k)
    alike h k one =
        elim (cases_eq h (k + 1)) [
          | inl e ↦ eq-eqb h (k + 1) e ∙ sym (eq-eqb (h - 1) k (omega (arith, e)))
          | inr ne ↦ ne_eqb h (k + 1) ne ∙ sym (ne_eqb (h - 1) k (λ e. ne (omega (arith, e, one))))
        ]

-- all darts have as many given left turns as right turns
pub lefts_are_rights : (p : PlaneModel) (given : GivenModel) → HasEnds p → sum_below (darts p) (λ d. left_part (turns_given p given d)) ≡ sum_below (darts p) (λ d. right_part (turns_given p given d))
lefts_are_rights p given ends =
    sym (sum_below-turned (darts p) (reverse_dart p) (λ d. left_part (turns_given p given d)) ends.reverse_dart_in_range ends.reverse_dart_back)
    ∙ sum_below-same (darts p) (λ d. left_part (turns_given p given (reverse_dart p d))) (λ d. right_part (turns_given p given d))
    (λ d b. ap left_part (turns_back p given d ends b) ∙ left_back (turns_given p given d))
