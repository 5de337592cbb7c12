-- From a set of nodes that supplies more than the arcs out of it can carry to vertices and faces that turn more than can
-- leave them: a vertex that has nothing to turn is left out, and one with a
-- free angle in a face outside the set, since it supplies no more than that corner can carry.
use Rattle.std.proofs.Common.{◌≡◌, ◌≤◌, ◌<◌, ℕ, ◌+◌, ◌-◌, ◌*◌, cond, eqb, ltb, Bool, true, false, List, length, refl, sym, ◌∙◌, ap, subst, inl, inr, arith}
use Rattle.std.specs.Prelude.{ℤ, pos, ◌+ℤ◌, ◌-ℤ◌, ◌≤ℤ◌, ◌<ℤ◌, Option, not, ◌&&◌, if◌then◌else◌}
use Rattle.std.proofs.lemmas.Bool.{cases_lt, cases_Bool, cond-true, cond-false, lt-ltb, le-ltb, eq-eqb}
use Rattle.std.proofs.lemmas.Int.{ints}
use Rattle.common.specs.Sums.{sum_below, total_below}
use Rattle.common.proofs.Sums.{sum_below-same, sum_below-member, exchanged, total_below-same, total_below-pos, total_below-add, total_below-le, total_below-split}
use Rattle.faces.specs.Planes.{PlaneModel, IsPlane, darts, vertices, head, reverse_dart, face_at}
use Rattle.faces.proofs.Ends.{plane_ends}
use Rattle.min_cost_flow.specs.declared.network.Arc.{Arc}
use Rattle.min_cost_flow.specs.declared.network.Cap.TheVariants.{Any}
use Rattle.min_cost_flow.specs.Networks.{NetworkModel, node_count, arc_count, arc_at, supply_at}
use Rattle.min_cost_flow.specs.Flow.{outflow}
use Rattle.min_cost_flow.specs.ResidualArcs.{units_of}
use Rattle.min_cost_flow.specs.Overfull.{leads_out, supply_of, capacity_out, IsOverfull}
use Rattle.flow_network.specs.Marks.{is_marked}
use Rattle.flow_network.specs.Given.{GivenModel}
use Rattle.flow_network.specs.FaceNet.{IsKeepingNet, vertex_degree, beyond_at_vertex, vertex_has_to_turn, face_has_to_turn, corner_cap, crossing_cap}
use Rattle.flow_network.proofs.Faultless.{arc_ends}
use Rattle.flow_network.proofs.Flowing.{arrivals_some}
use Rattle.conditions.specs.Cut.{has_to_turn, ShowsNone, HasFacesIn, IsLeftOut}

-- the nodes of marked vertices and faces
abbrev pub nodes_of : PlaneModel → List Bool → List Bool → ℕ → Bool
nodes_of p vs fs k = cond (ltb k (vertices p)) (is_marked vs k) (is_marked fs (k - vertices p))

pub vertex_in : (p : PlaneModel) (vs fs : List Bool) (k : ℕ) → k < vertices p → nodes_of p vs fs k ≡ is_marked vs k
vertex_in p vs fs k l = cond-true {A = Bool} (ltb k (vertices p)) (is_marked vs k) (is_marked fs (k - vertices p)) (lt-ltb k (vertices p) l)

pub face_in : (p : PlaneModel) (vs fs : List Bool) (f : ℕ) → nodes_of p vs fs (vertices p + f) ≡ is_marked fs f
face_in p vs fs f =
    let back : vertices p + f - vertices p ≡ f = omega arith in
    cond-false {A = Bool} (ltb (vertices p + f) (vertices p)) (is_marked vs (vertices p + f)) (is_marked fs (vertices p + f - vertices p)) (le-ltb (vertices p + f) (vertices p) (omega arith))
    ∙ ap (is_marked fs) back

-- what these nodes supply is what the vertices and faces turn
pub supply_is : {given : GivenModel} (p : PlaneModel) (net : NetworkModel) (vs fs : List Bool) → IsKeepingNet p given net → supply_of net (nodes_of p vs fs) ≡ has_to_turn p given vs fs
supply_is {given} p net vs fs is =
    let n : ℕ = vertices p in
    let s : ℕ → Bool = nodes_of p vs fs in
    let g : ℕ → ℤ = λ v. if s v then supply_at net v else pos 0 in
    let apart : supply_of net s ≡ total_below n g +ℤ total_below p.faces (λ f. g (n + f)) =
    ap (λ (m : ℕ). total_below m g) is.nodes ∙ total_below-split n p.faces g in
    let at_vertices : total_below n g ≡ total_below n (λ k. if is_marked vs k then vertex_has_to_turn p given (k + 1) else pos 0) =
    total_below-same n g (λ k. if is_marked vs k then vertex_has_to_turn p given (k + 1) else pos 0)
    (λ k l.
    let back : k + 1 - 1 ≡ k = omega arith in
    let supply : supply_at net k ≡ vertex_has_to_turn p given (k + 1) = subst (λ (j : ℕ). supply_at net j ≡ vertex_has_to_turn p given (k + 1)) back (is.at_vertex (k + 1) (omega arith) (omega arith)) in
    ap (λ (b : Bool). if b then supply_at net k else pos 0) (vertex_in p vs fs k l)
    ∙ ap (λ (z : ℤ). if is_marked vs k then z else pos 0) supply) in
    let at_faces : total_below p.faces (λ f. g (n + f)) ≡ total_below p.faces (λ f. if is_marked fs f then face_has_to_turn p given f else pos 0) =
    total_below-same p.faces (λ f. g (n + f)) (λ f. if is_marked fs f then face_has_to_turn p given f else pos 0)
    (λ f l.
    ap (λ (b : Bool). if b then supply_at net (n + f) else pos 0) (face_in p vs fs f)
    ∙ ap (λ (z : ℤ). if is_marked fs f then z else pos 0) (is.at_face f l)) in
    apart
    ∙ ap (λ (z : ℤ). z +ℤ total_below p.faces (λ f. g (n + f))) at_vertices
    ∙ ap (λ (z : ℤ). total_below n (λ k. if is_marked vs k then vertex_has_to_turn p given (k + 1) else pos 0) +ℤ z) at_faces

-- what an arc out of a set can carry
abbrev pub limit_of : NetworkModel → (ℕ → Bool) → ℕ → ℕ
limit_of net s i = if leads_out net s i then units_of (arc_at net i).cap else 0

-- the arcs out of a set, by the nodes where they start
all_start : (net : NetworkModel) (s : ℕ → Bool) → ((i : ℕ) → i < arc_count net → (arc_at net i).from < node_count net) →
    sum_below (node_count net) (λ v. outflow net (limit_of net s) v) ≡ capacity_out net s
all_start net s from =
    let n = node_count net in
    let m = arc_count net in
    let one : sum_below n (λ v. 1 * outflow net (limit_of net s) v) ≡ sum_below m (λ i. 1 * limit_of net s i) =
    exchanged m n (λ i. (arc_at net i).from) (limit_of net s) (λ _. 1) from in
    let l : sum_below n (λ v. 1 * outflow net (limit_of net s) v) ≡ sum_below n (λ v. outflow net (limit_of net s) v) = sum_below-same n (λ v. 1 * outflow net (limit_of net s) v) (λ v. outflow net (limit_of net s) v) (λ v b. omega arith) in
    let r : sum_below m (λ i. 1 * limit_of net s i) ≡ sum_below m (λ i. limit_of net s i) = sum_below-same m (λ i. 1 * limit_of net s i) (λ i. limit_of net s i) (λ i b. omega arith) in
    sym l ∙ (one ∙ r)

-- an arc out of the set is one of those that start at its node
starts_here : (net : NetworkModel) (s : ℕ → Bool) (i v : ℕ) → i < arc_count net → (arc_at net i).from ≡ v → limit_of net s i ≤ outflow net (limit_of net s) v
starts_here net s i v l at =
    omega (
      arith,
      sum_below-member (arc_count net) i (λ j. cond (eqb (arc_at net j).from v) (limit_of net s j) 0) l,
      cond-true {A = ℕ} (eqb (arc_at net i).from v) (limit_of net s i) 0 (eq-eqb (arc_at net i).from v at),
    )

no_more : (b t : Bool) (z : ℤ) (k : ℕ) → (t ≡ true → pos 0 ≤ℤ z) → (t ≡ false → b ≡ true → z ≤ℤ pos k) →
    (if b then z else pos 0) ≤ℤ ((if t then z else pos 0) +ℤ pos k)
no_more true true z k some few = omega (arith, ints, some refl)
no_more false true z k some few = omega (arith, ints, some refl)
no_more true false z k some few = omega (arith, ints, few refl refl)
no_more false false z k some few = omega (arith, ints)

same_more : (b t : Bool) (z : ℤ) (k : ℕ) → b ≡ t → (if b then z else pos 0) ≤ℤ ((if t then z else pos 0) +ℤ pos k)
same_more true true z k e = omega (arith, ints)
same_more true false z k e = cc
same_more false true z k e = cc
same_more false false z k e = omega (arith, ints)

some_supply : (z y : ℤ) → z ≡ y → pos 0 <ℤ y → pos 0 ≤ℤ z
some_supply z y is some = omega (arith, ints)

none_supply : (z y : ℤ) (out : ℕ) → z ≡ y → y ≤ℤ pos 0 → z ≤ℤ pos out
none_supply z y out is none = omega (arith, ints)

few_supply : (z : ℤ) (k more c out : ℕ) → z ≡ pos 4 -ℤ pos k -ℤ pos more → 1 ≤ k → c ≡ 3 → c ≤ out → z ≤ℤ pos out
few_supply z k more c out is one three most = omega (arith, ints)

leads : (s t : Bool) → s ≡ true → t ≡ false → (s && not t) ≡ true
leads true false a b = refl
leads true true a b = cc
leads false t a b = cc

more_than : (x y : ℤ) (k : ℕ) → pos k <ℤ x → x ≤ℤ (y +ℤ pos k) → pos 0 <ℤ y
more_than x y k more le = omega (arith, ints)

-- what the solver found, and what is made of it
pub record IsMade (p : PlaneModel) (given : GivenModel) (s : ℕ → Bool) (vs fs : List Bool) : Type 0 where
  pub vertices_size : length vs ≡ vertices p
  pub faces_size : length fs ≡ p.faces
  pub faces : (f : ℕ) → f < p.faces → is_marked fs f ≡ s (vertices p + f)
  pub some : (k : ℕ) → is_marked vs k ≡ true → pos 0 <ℤ vertex_has_to_turn p given (k + 1)
  pub inside : (k : ℕ) → is_marked vs k ≡ true → HasFacesIn p given fs (k + 1)
  pub outside : (k : ℕ) → k < vertices p → is_marked vs k ≡ false → IsLeftOut p given fs (k + 1)

-- no node supplies more than it does in the new set, and the arcs out of the old one that start there can carry
node_no_more : {given : GivenModel} (p : PlaneModel) (net : NetworkModel) (s : ℕ → Bool) (vs fs : List Bool) → IsPlane p → IsKeepingNet p given net → IsMade p given s vs fs → (v : ℕ) → v < node_count net →
    (if s v then supply_at net v else pos 0) ≤ℤ ((if nodes_of p vs fs v then supply_at net v else pos 0) +ℤ pos (outflow net (limit_of net s) v))
node_no_more {given} p net s vs fs plane is made v l =
    let n : ℕ = vertices p in
    elim (cases_lt v n) [
      | inl vertex ↦
          let back : v + 1 - 1 ≡ v = omega arith in
          let supply : supply_at net v ≡ vertex_has_to_turn p given (v + 1) = subst (λ (j : ℕ). supply_at net j ≡ vertex_has_to_turn p given (v + 1)) back (is.at_vertex (v + 1) (omega arith) (omega arith)) in
          subst (λ (t : Bool). (if s v then supply_at net v else pos 0) ≤ℤ ((if t then supply_at net v else pos 0) +ℤ pos (outflow net (limit_of net s) v))) (sym (vertex_in p vs fs v vertex))
          (no_more (s v) (is_marked vs v) (supply_at net v) (outflow net (limit_of net s) v)
          (λ on. some_supply (supply_at net v) (vertex_has_to_turn p given (v + 1)) supply (made.some v on))
          (λ left_out held. elim (made.outside v vertex left_out) [
            | inl none ↦ none_supply (supply_at net v) (vertex_has_to_turn p given (v + 1)) (outflow net (limit_of net s) v) supply none
            | inr (d, b, at, free, out) ↦
                let ends = plane_ends p plane in
                let corner = is.corner d b in
                let starts : (arc_at net d).from ≡ head p d - 1 = ap (λ (a : Arc). a.from) corner in
                let from : (arc_at net d).from ≡ v = omega (arith, starts, at) in
                let to : (arc_at net d).to ≡ n + face_at p d = ap (λ (a : Arc). a.to) corner in
                let cap : units_of (arc_at net d).cap ≡ 3 = ap (λ (a : Arc). units_of a.cap) corner ∙ ap (λ (g : Option ℕ). units_of (corner_cap g)) free in
                let away : s (arc_at net d).to ≡ false = ap s to ∙ (sym (made.faces (face_at p d) (ends.face_named d b)) ∙ out) in
                let limit : limit_of net s d ≡ 3 = cond-true {A = ℕ} (leads_out net s d) (units_of (arc_at net d).cap) 0 (leads (s (arc_at net d).from) (s (arc_at net d).to) (ap s from ∙ held) away) ∙ cap in
                few_supply (supply_at net v) (vertex_degree p (v + 1)) (beyond_at_vertex p given (v + 1)) (limit_of net s d) (outflow net (limit_of net s) v) supply
                (subst (λ (u : ℕ). 1 ≤ vertex_degree p u) at (arrivals_some p d b)) limit (starts_here net s d v (omega (arith, is.arcs)) from)
          ]))
      | inr face ↦
          let f : ℕ = v - n in
          let at : n + f ≡ v = omega arith in
          let same : s v ≡ nodes_of p vs fs v = subst (λ (j : ℕ). s j ≡ nodes_of p vs fs j) at (sym (made.faces f (omega (arith, is.nodes))) ∙ sym (face_in p vs fs f)) in
          same_more (s v) (nodes_of p vs fs v) (supply_at net v) (outflow net (limit_of net s) v) same
    ]

-- so something has to leave it
pub made_more : {given : GivenModel} (p : PlaneModel) (net : NetworkModel) (s : ℕ → Bool) (vs fs : List Bool) → IsPlane p → IsKeepingNet p given net → IsMade p given s vs fs → IsOverfull net s → pos 0 <ℤ has_to_turn p given vs fs
made_more {given} p net s vs fs plane is made over =
    let n = node_count net in
    let t : ℕ → Bool = nodes_of p vs fs in
    let f : ℕ → ℤ = λ v. if s v then supply_at net v else pos 0 in
    let g : ℕ → ℤ = λ v. if t v then supply_at net v else pos 0 in
    let out : ℕ → ℕ = outflow net (limit_of net s) in
    let le : total_below n f ≤ℤ total_below n (λ v. g v +ℤ pos (out v)) = total_below-le n f (λ v. g v +ℤ pos (out v)) (node_no_more p net s vs fs plane is made) in
    let sum : total_below n (λ v. g v +ℤ pos (out v)) ≡ total_below n g +ℤ pos (capacity_out net s) =
    total_below-add n g (λ v. pos (out v))
    ∙ ap (λ (z : ℤ). total_below n g +ℤ z) (total_below-pos n out ∙ ap (λ (k : ℕ). pos k) (all_start net s (λ i b. (arc_ends p net plane is i b).0))) in
    subst (λ (z : ℤ). pos 0 <ℤ z) (supply_is p net vs fs is)
    (more_than (total_below n f) (total_below n g) (capacity_out net s) over.more (subst (λ (z : ℤ). total_below n f ≤ℤ z) sum le))

-- the vertices and faces show that there is no representation
pub shows_none : {given : GivenModel} (p : PlaneModel) (net : NetworkModel) (s : ℕ → Bool) (vs fs : List Bool) → IsPlane p → IsKeepingNet p given net → IsMade p given s vs fs → IsOverfull net s → ShowsNone p given vs fs
shows_none {given} p net s vs fs plane is made over =
    let ends = plane_ends p plane in
    record {
      vertices_size = made.vertices_size;
      faces_size = made.faces_size;
      corners = λ d b free here. made.inside (head p d - 1) here d b (omega (arith, ends.head_from d b)) free;
      crossings = λ d b bends here.
          let arc = is.crossing d b in
          let from : (arc_at net (darts p + d)).from ≡ vertices p + face_at p d = ap (λ (a : Arc). a.from) arc in
          let to : (arc_at net (darts p + d)).to ≡ vertices p + face_at p (reverse_dart p d) = ap (λ (a : Arc). a.to) arc in
          let any : (arc_at net (darts p + d)).cap ≡ Any = ap (λ (a : Arc). a.cap) arc ∙ ap crossing_cap bends in
          let held : s (arc_at net (darts p + d)).from ≡ true = ap s from ∙ (sym (made.faces (face_at p d) (ends.face_named d b)) ∙ here) in
          elim (cases_Bool (s (arc_at net (darts p + d)).to)) [
            | inl stays ↦ made.faces (face_at p (reverse_dart p d)) (ends.face_named (reverse_dart p d) (ends.reverse_dart_in_range d b)) ∙ (sym (ap s to) ∙ stays)
            | inr out ↦ absurd (over.limited (darts p + d) (omega (arith, is.arcs)) (leads (s (arc_at net (darts p + d)).from) (s (arc_at net (darts p + d)).to) held out) any)
          ];
      more = made_more p net s vs fs plane is made over;
    }
