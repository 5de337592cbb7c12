-- Points can always be kept: where only points are given, no vertices and faces turn more than can leave them.
use Rattle.std.proofs.Common.{◌≡◌, ◌≤◌, ◌<◌, ℕ, ◌+◌, ◌-◌, cond, eqb, Bool, true, false, List, length, refl, sym, ◌∙◌, ap, subst, inl, inr, arith}
use Rattle.std.specs.Prelude.{ℤ, pos, ◌+ℤ◌, ◌-ℤ◌, ◌≤ℤ◌, ◌<ℤ◌, ◌&&◌, Option, Some, None, if◌then◌else◌}
use Rattle.std.proofs.lemmas.Bool.{cases_eq, cases_lt, cases_Bool, both_ways, cond-true, cond-false, eq-eqb, eqb-true, ne_eqb}
use Rattle.std.proofs.lemmas.List.{get_or_past}
use Rattle.std.proofs.lemmas.Int.{ints}
use Rattle.common.specs.Sums.{sum_below, total_below}
use Rattle.common.proofs.Sums.{sum_below-same, sum_below-add, sum_below-none, total_below-same, total_below-parts, total_below-le, total_below-split}
use Rattle.faces.specs.Planes.{PlaneModel, IsPlane, darts, vertices, head, face_at}
use Rattle.faces.proofs.Ends.{plane_ends}
use Rattle.faces.proofs.Connected.{faces_connected}
use Rattle.min_cost_flow.specs.Networks.{NetworkModel, node_count, supply_at}
use Rattle.flow_network.specs.Marks.{is_marked}
use Rattle.flow_network.specs.Given.{GivenModel, CanBeGiven, IsAngle, angle_given, beyond_first}
use Rattle.flow_network.specs.FaceNet.{IsKeepingNet, vertex_degree, beyond_at_vertex, vertex_has_to_turn, face_has_to_turn}
use Rattle.flow_network.proofs.Flowing.{supplies_sum_to_zero, chosen, chosen_arrives}
use Rattle.flow_network.proofs.VertexDegrees.{search_below, arrivals_most}
use Rattle.conditions.specs.Cut.{ShowsNone, has_to_turn}
use Rattle.conditions.proofs.Excluded.{is_net, net_for}
use Rattle.run_laws.specs.Points.{right_angles, given_around, IsGivenAngle, IsPoint, ArePoints}

-- a given angle is one right angle and those beyond
angle_parts : (g : Option ℕ) (k : ℕ) → IsAngle g → g ≡ Some k → right_angles g ≡ 1 + beyond_first g
angle_parts None k is e = cc
angle_parts (Some j) k is e = omega (arith, is.0)

-- the given angles round a point, one by one
around_parts : (p : PlaneModel) (given : GivenModel) (v : ℕ) → ((d : ℕ) → d < darts p → IsAngle (angle_given given d)) → IsPoint p given v →
    given_around p given v ≡ vertex_degree p v + beyond_at_vertex p given v
around_parts p given v range point =
    let f : ℕ → ℕ = λ d. cond (eqb (head p d) v) (right_angles (angle_given given d)) 0 in
    let g : ℕ → ℕ = λ d. cond (eqb (head p d) v) 1 0 in
    let h : ℕ → ℕ = λ d. cond (eqb (head p d) v) (beyond_first (angle_given given d)) 0 in
    sum_below-same (darts p) f (λ d. g d + h d)
    (λ d lt. elim (cases_eq (head p d) v) [
      | inl here ↦
          let on : eqb (head p d) v ≡ true = eq-eqb (head p d) v here in
          let (k, is) = point.all d lt here in
          omega (arith, cond-true {A = ℕ} (eqb (head p d) v) (right_angles (angle_given given d)) 0 on, cond-true {A = ℕ} (eqb (head p d) v) 1 0 on, cond-true {A = ℕ} (eqb (head p d) v) (beyond_first (angle_given given d)) 0 on, angle_parts (angle_given given d) k (range d lt) is)
      | inr away ↦
          let off : eqb (head p d) v ≡ false = ne_eqb (head p d) v away in
          omega (arith, cond-false {A = ℕ} (eqb (head p d) v) (right_angles (angle_given given d)) 0 off, cond-false {A = ℕ} (eqb (head p d) v) 1 0 off, cond-false {A = ℕ} (eqb (head p d) v) (beyond_first (angle_given given d)) 0 off)
    ])
    ∙ sum_below-add (darts p) g h

-- so a point has nothing to turn
point_turns : (p : PlaneModel) (given : GivenModel) (v : ℕ) → ((d : ℕ) → d < darts p → IsAngle (angle_given given d)) → IsPoint p given v → vertex_has_to_turn p given v ≡ pos 0
point_turns p given v range point = nothing (vertex_degree p v) (beyond_at_vertex p given v) (sym (around_parts p given v range point) ∙ point.whole)
  where
    nothing : (k more : ℕ) → k + more ≡ 4 → pos 4 -ℤ pos k -ℤ pos more ≡ pos 0
    nothing k more all = omega (arith, ints)

abbrev is_some : Option ℕ → Bool
is_some None = false
is_some (Some k) = true

some_value : (g : Option ℕ) → is_some g ≡ true → (k : ℕ) × (g ≡ Some k)
some_value None e = cc
some_value (Some k) e = (k, refl)

no_value : (g : Option ℕ) → is_some g ≡ false → g ≡ None
no_value None e = refl
no_value (Some k) e = cc

both_true : (a b : Bool) → (a && b) ≡ true → (a ≡ true) × (b ≡ true)
both_true true true e = (refl, refl)
both_true true false e = cc
both_true false b e = cc

second_false : (a b : Bool) → (a && b) ≡ false → a ≡ true → b ≡ false
second_false true b e on = e
second_false false b e on = cc

-- and no vertex has less
some_to_turn : (p : PlaneModel) (given : GivenModel) (v : ℕ) → IsPlane p → ((d : ℕ) → d < darts p → IsAngle (angle_given given d)) → ArePoints p given → pos 0 ≤ℤ vertex_has_to_turn p given v
some_to_turn p given v plane range points =
    elim (search_below (darts p) (λ d. eqb (head p d) v && is_some (angle_given given d))) [
      | inl (d, lt, on) ↦
          let (at, some) = both_true (eqb (head p d) v) (is_some (angle_given given d)) on in
          let (k, is) = some_value (angle_given given d) some in
          let point : IsPoint p given v = subst (λ (u : ℕ). IsPoint p given u) (eqb-true (head p d) v at) (points.angles d lt (k, is)) in
          zero_most (vertex_has_to_turn p given v) (point_turns p given v range point)
      | inr none ↦
          let nothing : beyond_at_vertex p given v ≡ 0 = sum_below-none (darts p) (λ d. cond (eqb (head p d) v) (beyond_first (angle_given given d)) 0)
          (λ d lt. elim (cases_Bool (eqb (head p d) v)) [
            | inl at ↦ cond-true {A = ℕ} (eqb (head p d) v) (beyond_first (angle_given given d)) 0 at ∙ ap beyond_first (no_value (angle_given given d) (second_false (eqb (head p d) v) (is_some (angle_given given d)) (none d lt) at))
            | inr away ↦ cond-false {A = ℕ} (eqb (head p d) v) (beyond_first (angle_given given d)) 0 away
          ]) in
          few (vertex_degree p v) (beyond_at_vertex p given v) nothing (arrivals_most p plane v)
    ]
  where
    zero_most : (z : ℤ) → z ≡ pos 0 → pos 0 ≤ℤ z
    zero_most z is = omega (arith, ints)

    few : (k more : ℕ) → more ≡ 0 → k ≤ 4 → pos 0 ≤ℤ (pos 4 -ℤ pos k -ℤ pos more)
    few k more none less = omega (arith, ints)

-- all vertices and faces together have nothing to turn
all_even : (p : PlaneModel) (given : GivenModel) → IsPlane p → total_below (vertices p) (λ k. vertex_has_to_turn p given (k + 1)) +ℤ total_below p.faces (λ f. face_has_to_turn p given f) ≡ pos 0
all_even p given plane =
    let n : ℕ = vertices p in
    let net : NetworkModel = net_for p given in
    let is : IsKeepingNet p given net = is_net p given in
    let apart : total_below (node_count net) (supply_at net) ≡ total_below n (supply_at net) +ℤ total_below p.faces (λ f. supply_at net (n + f)) =
    ap (λ (m : ℕ). total_below m (supply_at net)) is.nodes ∙ total_below-split n p.faces (supply_at net) in
    let at_vertices : total_below n (supply_at net) ≡ total_below n (λ k. vertex_has_to_turn p given (k + 1)) =
    total_below-same n (supply_at net) (λ k. vertex_has_to_turn p given (k + 1))
    (λ k l. let back : k + 1 - 1 ≡ k = omega arith in
    subst (λ (j : ℕ). supply_at net j ≡ vertex_has_to_turn p given (k + 1)) back (is.at_vertex (k + 1) (omega arith) (omega arith))) in
    let at_faces : total_below p.faces (λ f. supply_at net (n + f)) ≡ total_below p.faces (λ f. face_has_to_turn p given f) =
    total_below-same p.faces (λ f. supply_at net (n + f)) (λ f. face_has_to_turn p given f) (λ f l. is.at_face f l) in
    joined (total_below (node_count net) (supply_at net)) (total_below n (supply_at net)) (total_below p.faces (λ f. supply_at net (n + f)))
    (total_below n (λ k. vertex_has_to_turn p given (k + 1))) (total_below p.faces (λ f. face_has_to_turn p given f))
    apart at_vertices at_faces (supplies_sum_to_zero p net plane is)
  where
    joined : (t a b x y : ℤ) → t ≡ a +ℤ b → a ≡ x → b ≡ y → t ≡ pos 0 → x +ℤ y ≡ pos 0
    joined t a b x y apart one other none = omega (arith, ints)

at_most : (b : Bool) (z : ℤ) → pos 0 ≤ℤ z → (if b then z else pos 0) ≤ℤ z
at_most true z some = omega (arith, ints)
at_most false z some = some

-- no cut has all faces
whole_fails : (p : PlaneModel) (given : GivenModel) (vs fs : List Bool) → IsPlane p → ((d : ℕ) → d < darts p → IsAngle (angle_given given d)) → ArePoints p given →
    ((f : ℕ) → f < p.faces → is_marked fs f ≡ true) → has_to_turn p given vs fs ≤ℤ pos 0
whole_fails p given vs fs plane range points all =
    let n : ℕ = vertices p in
    let a : ℕ → ℤ = λ k. if is_marked vs k then vertex_has_to_turn p given (k + 1) else pos 0 in
    let b : ℕ → ℤ = λ f. if is_marked fs f then face_has_to_turn p given f else pos 0 in
    let fewer : total_below n a ≤ℤ total_below n (λ k. vertex_has_to_turn p given (k + 1)) =
    total_below-le n a (λ k. vertex_has_to_turn p given (k + 1)) (λ k l. at_most (is_marked vs k) (vertex_has_to_turn p given (k + 1)) (some_to_turn p given (k + 1) plane range points)) in
    let same : total_below p.faces b ≡ total_below p.faces (λ f. face_has_to_turn p given f) =
    total_below-same p.faces b (λ f. face_has_to_turn p given f) (λ f l. cond-true {A = ℤ} (is_marked fs f) (face_has_to_turn p given f) (pos 0) (all f l)) in
    close (total_below n a) (total_below p.faces b) (total_below n (λ k. vertex_has_to_turn p given (k + 1))) (total_below p.faces (λ f. face_has_to_turn p given f)) fewer same (all_even p given plane)
  where
    close : (x y u w : ℤ) → x ≤ℤ u → y ≡ w → u +ℤ w ≡ pos 0 → (x +ℤ y) ≤ℤ pos 0
    close x y u w less same none = omega (arith, ints)

pub zeros : (n : ℕ) (f : ℕ → ℤ) → ((k : ℕ) → k < n → f k ≡ pos 0) → total_below n f ≡ pos 0
zeros n f none = total_below-same n f (λ _. pos 0) none ∙ nothing n
  where
    even : (k : ℕ) → pos k -ℤ pos k ≡ pos 0
    even k = omega (arith, ints)

    nothing : (n : ℕ) → total_below n (λ _. pos 0) ≡ pos 0
    nothing n = total_below-parts n (λ _. pos 0) (λ _. 0) (λ _. 0) (λ _ _. omega (arith, ints)) ∙ even (sum_below n (λ _. 0))

-- and none has no face: its vertices are points
none_fails : (p : PlaneModel) (given : GivenModel) (vs fs : List Bool) → IsPlane p → ((d : ℕ) → d < darts p → IsAngle (angle_given given d)) → ArePoints p given → ShowsNone p given vs fs →
    ((f : ℕ) → f < p.faces → is_marked fs f ≡ false) → has_to_turn p given vs fs ≡ pos 0
none_fails p given vs fs plane range points shows none =
    let n : ℕ = vertices p in
    let ends = plane_ends p plane in
    let a : ℕ → ℤ = λ k. if is_marked vs k then vertex_has_to_turn p given (k + 1) else pos 0 in
    let b : ℕ → ℤ = λ f. if is_marked fs f then face_has_to_turn p given f else pos 0 in
    let at_vertices : total_below n a ≡ pos 0 = zeros n a
    (λ k l. elim (cases_Bool (is_marked vs k)) [
      | inl on ↦
          let (arrives, here) = chosen_arrives p plane (k + 1) (omega arith) (omega arith) in
          let d = chosen p (k + 1) in
          let back : head p d - 1 ≡ k = omega (arith, here) in
          let known : (g : Option ℕ) → angle_given given d ≡ g → IsGivenAngle given d = λ g. elim g as (λ (o : Option ℕ). angle_given given d ≡ o → IsGivenAngle given d) [
            | None ↦ λ is. absurd (both_ways (is_marked fs (face_at p d)) (none (face_at p d) (ends.face_named d arrives)) (shows.corners d arrives is (ap (is_marked vs) back ∙ on)))
            | Some j ↦ λ is. (j, is)
          ] in
          let point : IsPoint p given (k + 1) = subst (λ (u : ℕ). IsPoint p given u) here (points.angles d arrives (known (angle_given given d) refl)) in
          cond-true {A = ℤ} (is_marked vs k) (vertex_has_to_turn p given (k + 1)) (pos 0) on ∙ point_turns p given (k + 1) range point
      | inr off ↦ cond-false {A = ℤ} (is_marked vs k) (vertex_has_to_turn p given (k + 1)) (pos 0) off
    ]) in
    let at_faces : total_below p.faces b ≡ pos 0 = zeros p.faces b (λ f l. cond-false {A = ℤ} (is_marked fs f) (face_has_to_turn p given f) (pos 0) (none f l)) in
    sum (total_below n a) (total_below p.faces b) at_vertices at_faces
  where
    sum : (x y : ℤ) → x ≡ pos 0 → y ≡ pos 0 → x +ℤ y ≡ pos 0
    sum x y one other = omega (arith, ints)

-- with points alone there is no cut
points_have_no_cut : (p : PlaneModel) (given : GivenModel) (vs fs : List Bool) → IsPlane p → ((d : ℕ) → d < darts p → IsAngle (angle_given given d)) → ArePoints p given → ¬ ShowsNone p given vs fs
points_have_no_cut p given vs fs plane range points shows =
    elim (search_below p.faces (is_marked fs)) [
      | inl (g, g_in, on) ↦
          more_and_less (has_to_turn p given vs fs) shows.more
          (whole_fails p given vs fs plane range points
          (λ f f_in. faces_connected p plane (is_marked fs) (λ d lt held. shows.crossings d lt (points.turns d lt) held) g f g_in f_in on))
      | inr none ↦ more_and_none (has_to_turn p given vs fs) shows.more (none_fails p given vs fs plane range points shows none)
    ]
  where
    more_and_less : (z : ℤ) → pos 0 <ℤ z → z ≤ℤ pos 0 → ⊥
    more_and_less z more less = omega (arith, ints)

    more_and_none : (z : ℤ) → pos 0 <ℤ z → z ≡ pos 0 → ⊥
    more_and_none z more none = omega (arith, ints)

-- an angle that can be given is 1 to 4 right angles
pub in_range : (given : GivenModel) → CanBeGiven given.angles given.turns → (d : ℕ) → IsAngle (angle_given given d)
in_range given can d = elim (cases_lt d (length given.angles)) [
  | inl inside ↦ can.are_angles d None inside
  | inr past ↦ subst IsAngle (sym (get_or_past given.angles d None past)) tt
]

pub no_cut_of_points : (p : PlaneModel) (given : GivenModel) (vs fs : List Bool) → IsPlane p → CanBeGiven given.angles given.turns → ArePoints p given → ¬ ShowsNone p given vs fs
no_cut_of_points p given vs fs plane can points = points_have_no_cut p given vs fs plane (λ d _. in_range given can d) points
