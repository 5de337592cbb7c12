-- The network of a plane has a flow: each vertex sends its supply into one corner, and what faces have over can
-- cross to what they want, since any two faces are joined by crossings.
use Rattle.std.proofs.Common.{◌≡◌, ◌≢◌, ℕ, zero, suc, ◌+◌, ◌-◌, ◌*◌, ◌<◌, ◌≤◌, ◌==◌, if◌then◌else◌, ◌∙◌, Bool, true, false, arith, subst, sym, ap, refl, inl, inr, cond, eqb, ltb}
use Rattle.std.specs.Prelude.{Option, nat_lt, ℤ, pos, negsuc, ◌+ℤ◌, ◌-ℤ◌, ◌<ℤ◌}
use Rattle.std.proofs.lemmas.Bool.{cases_eq, cases_lt, cases_Bool, eq-eqb, eqb-true, ne_eqb, cond-true, cond-false, lt-ltb, le-ltb}
use Rattle.std.proofs.lemmas.Int.{ints}
use Rattle.common.specs.Sums.{sum_below, total_below}
use Rattle.common.proofs.Sums.{sum_below-same, sum_below-none, sum_below-one, sum_below-split, sum_below-add, sum_below-constant, sum_below-member, exchanged-ones, total_below-split, total_below-parts}
use Rattle.faces.specs.Planes.{PlaneModel, IsPlane, HasEnds, darts, vertices, head, reverse_dart, face_at, degree}
use Rattle.faces.proofs.Ends.{plane_ends}
use Rattle.faces.proofs.Connected.{faces_connected}
use Rattle.faces.proofs.Degrees.{degrees_sum}
use Rattle.min_cost_flow.specs.declared.network.Arc.{Arc}
use Rattle.min_cost_flow.specs.Networks.{NetworkModel, node_count, arc_count, arc_at, supply_at}
use Rattle.min_cost_flow.specs.Flow.{Flow, IsWithinCap, outflow, inflow, net_outflow}
use Rattle.min_cost_flow.specs.Excess.{IsWithinCaps}
use Rattle.min_cost_flow.specs.Existence.{HasUnlimitedPaths, SuppliesSumToZero}
use Rattle.min_cost_flow.proofs.Existence.{flow_where_joined, excess_leaves}
use Rattle.min_cost_flow.specs.declared.network.Cap.TheVariants.{Any}
use Rattle.flow_network.specs.Given.{GivenModel, angle_given, turns_given, beyond_first}
use Rattle.flow_network.specs.FaceNet.{IsFaceNet, IsKeepingNet, vertex_degree, beyond_at_vertex, beyond_in_face, lefts_in_face, vertex_has_to_turn, crossing_cap}
use Rattle.flow_network.proofs.GivenParts.{left_part, right_part, none_along, vertex_plain, lefts_of_face, rights_of_face, face_parts, all_at, all_at_vertices, lefts_are_rights}
use Rattle.flow_network.proofs.VertexDegrees.{vertex_has_dart, arrivals_most}

-- the last number below n that passes, where one does
abbrev pub last_below : ℕ → (ℕ → Bool) → ℕ
last_below zero q = 0
last_below (suc n) q = if q n then n else last_below n q

pub last_below-passes : (n : ℕ) (q : ℕ → Bool) (k : ℕ) → k < n → q k ≡ true → (last_below n q < n) × (q (last_below n q) ≡ true)
last_below-passes zero q k l here = absurd (omega arith)
last_below-passes (suc n) q k l here =
    elim (cases_Bool (q n)) [
      | inl top ↦
          let e : last_below (suc n) q ≡ n = cond-true {A = ℕ} (q n) n (last_below n q) top in
          (omega (arith, e), ap q e ∙ top)
      | inr not_top ↦
          let e : last_below (suc n) q ≡ last_below n q = cond-false {A = ℕ} (q n) n (last_below n q) not_top in
          let less : k < n = elim (cases_eq k n) [
            | inl same ↦ absurd (both (q n) not_top (ap q (sym same) ∙ here))
            | inr other ↦ omega arith
          ] in
          let rest = last_below-passes n q k less here in
          (omega (arith, e, rest.0), ap q e ∙ rest.1)
    ]
  where
    both : (b : Bool) → b ≡ false → b ≡ true → ⊥
    both b no_b yes_b = cc

-- a dart that arrives at the vertex
abbrev pub chosen : PlaneModel → ℕ → ℕ
chosen p v = last_below (darts p) (λ d. head p d == v)

pub chosen_arrives : (p : PlaneModel) → IsPlane p → (v : ℕ) → 1 ≤ v → v ≤ vertices p → (chosen p v < darts p) × (head p (chosen p v) ≡ v)
chosen_arrives p plane v one most =
    let (d, below, arrives) = vertex_has_dart p plane v one most in
    let found = last_below-passes (darts p) (λ d. head p d == v) d below (eq-eqb (head p d) v arrives) in
    (found.0, eqb-true (head p (chosen p v)) v found.1)

-- each vertex sends what it supplies into its chosen corner, and nothing crosses
abbrev pub start : PlaneModel → ℕ → ℕ
start p i = if nat_lt i (darts p) then (if chosen p (head p i) == i then 4 - vertex_degree p (head p i) else 0) else 0

pub start_at : (p : PlaneModel) (d : ℕ) → d < darts p → start p d ≡ (if chosen p (head p d) == d then 4 - vertex_degree p (head p d) else 0)
start_at p d l = cond-true {A = ℕ} (ltb d (darts p)) (if chosen p (head p d) == d then 4 - vertex_degree p (head p d) else 0) 0 (lt-ltb d (darts p) l)

pub start_past : (p : PlaneModel) (d : ℕ) → start p (darts p + d) ≡ 0
start_past p d =
    cond-false {A = ℕ} (ltb (darts p + d) (darts p))
    (if chosen p (head p (darts p + d)) == darts p + d then 4 - vertex_degree p (head p (darts p + d)) else 0) 0 (le-ltb (darts p + d) (darts p) (omega arith))

-- a dart that arrives counts
pub arrivals_some : (p : PlaneModel) (d : ℕ) → d < darts p → 1 ≤ vertex_degree p (head p d)
arrivals_some p d l =
    omega (
      arith,
      sum_below-member (darts p) d (λ e. if head p e == head p d then 1 else 0) l,
      cond-true {A = ℕ} (eqb (head p d) (head p d)) 1 0 (eq-eqb (head p d) (head p d) refl),
    )

-- where nothing is given, any number of units crosses
plain_crossing : (p : PlaneModel) (net : NetworkModel) → IsFaceNet p net → (d : ℕ) → d < darts p → arc_at net (darts p + d) ≡ record { from = vertices p + face_at p d; to = vertices p + face_at p (reverse_dart p d); cap = Any; cost = 1 }
plain_crossing p net is d l =
    is.crossing d l ∙ ap (λ (g : Option ℤ). record { from = vertices p + face_at p d; to = vertices p + face_at p (reverse_dart p d); cap = crossing_cap g; cost = 1 }) (none_along p d)

pub start_keeps : (p : PlaneModel) (net : NetworkModel) → IsFaceNet p net → IsWithinCaps net (start p)
start_keeps p net is i l =
    elim (cases_lt i (darts p)) [
      | inl corner ↦
          subst (λ (a : Arc). IsWithinCap a.cap (start p i)) (sym (is.corner i corner)) (small p i corner)
      | inr crossing ↦
          let d : ℕ = i - darts p in
          let at : darts p + d ≡ i = omega arith in
          let d_in : d < darts p = omega (arith, is.arcs) in
          subst (λ (j : ℕ). IsWithinCap (arc_at net j).cap (start p i)) at
          (subst (λ (a : Arc). IsWithinCap a.cap (start p i)) (sym (plain_crossing p net is d d_in)) tt)
    ]
  where
    small : (p : PlaneModel) (d : ℕ) → d < darts p → start p d ≤ 3
    small p d l =
        elim (cases_Bool (eqb (chosen p (head p d)) d)) [
          | inl here ↦ omega (arith, start_at p d l, cond-true {A = ℕ} (eqb (chosen p (head p d)) d) (4 - vertex_degree p (head p d)) 0 here, arrivals_some p d l)
          | inr away ↦ omega (arith, start_at p d l, cond-false {A = ℕ} (eqb (chosen p (head p d)) d) (4 - vertex_degree p (head p d)) 0 away)
        ]

-- what leaves a vertex is its supply
pub start_leaves : (p : PlaneModel) (net : NetworkModel) → IsPlane p → IsFaceNet p net → (v : ℕ) → 1 ≤ v → v ≤ vertices p →
    outflow net (start p) (v - 1) ≡ 4 - vertex_degree p v
start_leaves p net plane is v one most =
    let n : ℕ = darts p in
    let ends = plane_ends p plane in
    let f : ℕ → ℕ = λ i. if (arc_at net i).from == v - 1 then start p i else 0 in
    let c : ℕ = chosen p v in
    let c_arrives = chosen_arrives p plane v one most in
    let units : ℕ = 4 - vertex_degree p v in
    let whole : outflow net (start p) (v - 1) ≡ sum_below n f + sum_below n (λ d. f (n + d)) =
    ap (λ (m : ℕ). sum_below m f) is.arcs ∙ sum_below-split n n f in
    let corners : sum_below n f ≡ sum_below n (λ d. cond (eqb c d) units 0) =
    sum_below-same n f (λ d. cond (eqb c d) units 0) (λ d l. corner p net plane is v one most d l) in
    let one_corner : sum_below n (λ d. cond (eqb c d) units 0) ≡ units = sum_below-one n c (λ _. units) c_arrives.0 in
    let crossings : sum_below n (λ d. f (n + d)) ≡ 0 =
    sum_below-none n (λ d. f (n + d)) (λ d l. none (eqb (arc_at net (n + d)).from (v - 1)) (start p (n + d)) (start_past p d)) in
    omega (arith, whole, corners, one_corner, crossings)
  where
    none : (b : Bool) (k : ℕ) → k ≡ 0 → cond b k 0 ≡ 0
    none true k e = e
    none false k e = refl

    corner : (p : PlaneModel) (net : NetworkModel) → IsPlane p → IsFaceNet p net → (v : ℕ) → 1 ≤ v → v ≤ vertices p → (d : ℕ) → d < darts p →
        cond (eqb (arc_at net d).from (v - 1)) (start p d) 0 ≡ cond (eqb (chosen p v) d) (4 - vertex_degree p v) 0
    corner p net plane is v one most d l =
        let ends = plane_ends p plane in
        let from : (arc_at net d).from ≡ head p d - 1 = ap (λ (a : Arc). a.from) (is.corner d l) in
        elim (cases_eq (head p d) v) [
          | inl arrives ↦
              cond-true {A = ℕ} (eqb (arc_at net d).from (v - 1)) (start p d) 0 (eq-eqb (arc_at net d).from (v - 1) (from ∙ ap (λ (k : ℕ). k - 1) arrives))
              ∙ start_at p d l
              ∙ ap (λ (u : ℕ). cond (eqb (chosen p u) d) (4 - vertex_degree p u) 0) arrives
          | inr away ↦
              let other : (arc_at net d).from ≢ v - 1 = λ h. away (omega (arith, from, h, ends.head_from d l, one)) in
              let not_chosen : chosen p v ≢ d = λ h. away (ap (head p) (sym h) ∙ (chosen_arrives p plane v one most).1) in
              cond-false {A = ℕ} (eqb (arc_at net d).from (v - 1)) (start p d) 0 (ne_eqb (arc_at net d).from (v - 1) other)
              ∙ sym (cond-false {A = ℕ} (eqb (chosen p v) d) (4 - vertex_degree p v) 0 (ne_eqb (chosen p v) d not_chosen))
        ]

-- nothing enters a vertex
pub start_enters : (p : PlaneModel) (net : NetworkModel) → IsFaceNet p net → (k : ℕ) → k < vertices p → inflow net (start p) k ≡ 0
start_enters p net is k below =
    let n : ℕ = darts p in
    let f : ℕ → ℕ = λ i. if (arc_at net i).to == k then start p i else 0 in
    let whole : inflow net (start p) k ≡ sum_below n f + sum_below n (λ d. f (n + d)) =
    ap (λ (m : ℕ). sum_below m f) is.arcs ∙ sum_below-split n n f in
    let corners : sum_below n f ≡ 0 = sum_below-none n f (λ d l.
    let to : (arc_at net d).to ≡ vertices p + face_at p d = ap (λ (a : Arc). a.to) (is.corner d l) in
    let other : (arc_at net d).to ≢ k = λ h. omega (arith, to, h, below) in
    cond-false {A = ℕ} (eqb (arc_at net d).to k) (start p d) 0 (ne_eqb (arc_at net d).to k other)) in
    let crossings : sum_below n (λ d. f (n + d)) ≡ 0 = sum_below-none n (λ d. f (n + d)) (λ d l.
    let to : (arc_at net (n + d)).to ≡ vertices p + face_at p (reverse_dart p d) = ap (λ (a : Arc). a.to) (is.crossing d l) in
    let other : (arc_at net (n + d)).to ≢ k = λ h. omega (arith, to, h, below) in
    cond-false {A = ℕ} (eqb (arc_at net (n + d)).to k) (start p (n + d)) 0 (ne_eqb (arc_at net (n + d)).to k other)) in
    omega (arith, whole, corners, crossings)

-- so no vertex has anything over, or wants anything
pub vertex_even : (p : PlaneModel) (net : NetworkModel) → IsPlane p → IsFaceNet p net → (k : ℕ) → k < vertices p →
    supply_at net k -ℤ net_outflow net (start p) k ≡ pos 0
vertex_even p net plane is k below =
    let v : ℕ = k + 1 in
    let back : v - 1 ≡ k = omega arith in
    let supply : supply_at net k ≡ pos 4 -ℤ pos (vertex_degree p v) =
    subst (λ (j : ℕ). supply_at net j ≡ pos 4 -ℤ pos (vertex_degree p v)) back (is.at_vertex v (omega arith) (omega arith) ∙ vertex_plain p v) in
    let out : outflow net (start p) k ≡ 4 - vertex_degree p v =
    subst (λ (j : ℕ). outflow net (start p) j ≡ 4 - vertex_degree p v) back (start_leaves p net plane is v (omega arith) (omega arith)) in
    even (supply_at net k) (outflow net (start p) k) (inflow net (start p) k) (vertex_degree p v) supply out (start_enters p net is k below)
    (arrivals_most p plane v)
  where
    even : (s : ℤ) (out into many : ℕ) → s ≡ pos 4 -ℤ pos many → out ≡ 4 - many → into ≡ 0 → many ≤ 4 → s -ℤ (pos out -ℤ pos into) ≡ pos 0
    even s out into many supply left nothing few = omega (arith, ints)

-- what is over at one face can cross to each other face
pub start_joined : (p : PlaneModel) (net : NetworkModel) → IsPlane p → IsFaceNet p net → HasUnlimitedPaths net (λ v. supply_at net v -ℤ net_outflow net (start p) v)
start_joined p net plane is = record {
  meets = λ s closed u v u_in v_in here over wants.
      let n : ℕ = vertices p in
      let u_face : n ≤ u = face_node p net plane is u (λ e. over_zero _ e over) in
      let v_face : n ≤ v = face_node p net plane is v (λ e. wants_zero _ e wants) in
      let ku : ℕ = u - n in
      let kv : ℕ = v - n in
      let u_is : n + ku ≡ u = omega arith in
      let v_is : n + kv ≡ v = omega arith in
      subst (λ (j : ℕ). s j ≡ true) v_is
      (faces_connected p plane (λ f. s (n + f))
      (λ d l held.
      let arc = plain_crossing p net is d l in
      let from : (arc_at net (darts p + d)).from ≡ n + face_at p d = ap (λ (a : Arc). a.from) arc in
      let to : (arc_at net (darts p + d)).to ≡ n + face_at p (reverse_dart p d) = ap (λ (a : Arc). a.to) arc in
      subst (λ (j : ℕ). s j ≡ true) to
      (closed.stays (darts p + d) (omega (arith, is.arcs)) (ap (λ (a : Arc). a.cap) arc)
      (subst (λ (j : ℕ). s j ≡ true) (sym from) held)))
      ku kv (omega (arith, is.nodes)) (omega (arith, is.nodes))
      (subst (λ (j : ℕ). s j ≡ true) (sym u_is) here));
}
  where
    over_zero : (z : ℤ) → z ≡ pos 0 → pos 0 <ℤ z → ⊥
    over_zero z e less = omega (arith, ints)

    wants_zero : (z : ℤ) → z ≡ pos 0 → z <ℤ pos 0 → ⊥
    wants_zero z e less = omega (arith, ints)

    face_node : (p : PlaneModel) (net : NetworkModel) → IsPlane p → IsFaceNet p net → (w : ℕ) →
        (supply_at net w -ℤ net_outflow net (start p) w ≡ pos 0 → ⊥) → vertices p ≤ w
    face_node p net plane is w uneven =
        elim (cases_lt w (vertices p)) [ inl below ↦ absurd (uneven (vertex_even p net plane is w below)) | inr face ↦ face ]

-- as much is supplied as is wanted, by Euler's formula
pub supplies_sum_to_zero : {given : GivenModel} (p : PlaneModel) (net : NetworkModel) → IsPlane p → IsKeepingNet p given net → SuppliesSumToZero net
supplies_sum_to_zero {given} p net plane is =
    let n : ℕ = vertices p in
    let m : ℕ = p.faces in
    let ends = plane_ends p plane in
    let beyond : ℕ → ℕ = λ d. beyond_first (angle_given given d) in
    let at_v : ℕ → ℕ = λ k. beyond_at_vertex p given (k + 1) in
    let gain : ℕ → ℕ = λ f. (if f == p.outer then 0 else 4) + beyond_in_face p given f in
    let loss : ℕ → ℕ = λ f. degree p f + (if f == p.outer then 4 else 0) in
    let ls : ℕ → ℕ = lefts_of_face p given in
    let rs : ℕ → ℕ = rights_of_face p given in
    let apart : total_below (node_count net) (supply_at net) ≡ total_below n (supply_at net) +ℤ total_below m (λ f. supply_at net (n + f)) =
    ap (λ (k : ℕ). total_below k (supply_at net)) is.nodes ∙ total_below-split n m (supply_at net) in
    let at_vertices : total_below n (supply_at net) ≡ pos (sum_below n (λ _. 4)) -ℤ pos (sum_below n (λ k. vertex_degree p (k + 1) + at_v k)) =
    total_below-parts n (supply_at net) (λ _. 4) (λ k. vertex_degree p (k + 1) + at_v k) (λ k l.
    let back : k + 1 - 1 ≡ k = omega arith in
    subst (λ (j : ℕ). supply_at net j ≡ vertex_has_to_turn p given (k + 1)) back (is.at_vertex (k + 1) (omega arith) (omega arith)) ∙ both (vertex_degree p (k + 1)) (at_v k)) in
    let at_faces : total_below m (λ f. supply_at net (n + f)) ≡ pos (sum_below m (λ f. gain f + rs f)) -ℤ pos (sum_below m (λ f. loss f + ls f)) =
    total_below-parts m (λ f. supply_at net (n + f)) (λ f. gain f + rs f) (λ f. loss f + ls f)
    (λ f l. is.at_face f l ∙ turned (f == p.outer) (degree p f) (beyond_in_face p given f) (lefts_in_face p given f) (ls f) (rs f) (face_parts p given f)) in
    let corners_at_vertices : sum_below n at_v ≡ sum_below (darts p) beyond = all_at_vertices p beyond ends in
    let corners_in_faces : sum_below m (beyond_in_face p given) ≡ sum_below (darts p) beyond = all_at (darts p) m (face_at p) beyond ends.face_named in
    let lefts_all : sum_below m ls ≡ sum_below (darts p) (λ d. left_part (turns_given p given d)) = all_at (darts p) m (face_at p) (λ d. left_part (turns_given p given d)) ends.face_named in
    let rights_all : sum_below m rs ≡ sum_below (darts p) (λ d. right_part (turns_given p given d)) = all_at (darts p) m (face_at p) (λ d. right_part (turns_given p given d)) ends.face_named in
    let fours : sum_below n (λ _. 4) ≡ n * 4 = sum_below-constant n 4 in
    let all_arrive : sum_below n (λ k. vertex_degree p (k + 1)) ≡ darts p = heads_sum p ends in
    let vertex_loss : sum_below n (λ k. vertex_degree p (k + 1) + at_v k) ≡ darts p + sum_below (darts p) beyond =
    omega (arith, sum_below-add n (λ k. vertex_degree p (k + 1)) at_v, all_arrive, corners_at_vertices) in
    let face_gain : sum_below m (λ f. gain f + rs f) + 4 ≡ m * 4 + sum_below (darts p) beyond + sum_below m rs =
    omega (arith, sum_below-add m gain rs, sum_below-add m (λ f. if f == p.outer then 0 else 4) (beyond_in_face p given), inner_sum p plane, corners_in_faces) in
    let face_degrees : sum_below m loss ≡ darts p + 4 =
    sum_below-add m (degree p) (λ f. if f == p.outer then 4 else 0)
    ∙ ap (λ (k : ℕ). k + sum_below m (λ f. if f == p.outer then 4 else 0)) (degrees_sum (darts p) m (face_at p) ends.face_named)
    ∙ ap (λ (k : ℕ). darts p + k) (outer_sum p plane) in
    let face_loss : sum_below m (λ f. loss f + ls f) ≡ darts p + 4 + sum_below m rs =
    omega (arith, sum_below-add m loss ls, face_degrees, lefts_all, rights_all, lefts_are_rights p given ends) in
    close (total_below (node_count net) (supply_at net)) (total_below n (supply_at net)) (total_below m (λ f. supply_at net (n + f)))
    n m (darts p) (sum_below (darts p) beyond) (sum_below m rs) (sum_below n (λ _. 4)) (sum_below n (λ k. vertex_degree p (k + 1) + at_v k))
    (sum_below m (λ f. gain f + rs f)) (sum_below m (λ f. loss f + ls f))
    apart at_vertices at_faces fours vertex_loss face_gain face_loss plane.euler
  where
    close : (t a b : ℤ) (n m d c r s1 s2 s3 s4 : ℕ) → t ≡ a +ℤ b → a ≡ pos s1 -ℤ pos s2 → b ≡ pos s3 -ℤ pos s4 → s1 ≡ n * 4 → s2 ≡ d + c →
        s3 + 4 ≡ m * 4 + c + r → s4 ≡ d + 4 + r → 2 * (n + m) ≡ d + 4 → t ≡ pos 0
    close t a b n m d c r s1 s2 s3 s4 e1 e2 e3 e4 e5 e6 e7 e8 = omega (arith, ints)

    both : (k more : ℕ) → pos 4 -ℤ pos k -ℤ pos more ≡ pos 4 -ℤ pos (k + more)
    both k more = omega (arith, ints)

    turned : (b : Bool) (k more : ℕ) (t : ℤ) (l r : ℕ) → t ≡ pos l -ℤ pos r →
        (if b then negsuc 3 else pos 4) -ℤ pos k +ℤ pos more -ℤ t ≡ pos ((if b then 0 else 4) + more + r) -ℤ pos (k + (if b then 4 else 0) + l)
    turned true k more t l r is = omega (arith, ints)
    turned false k more t l r is = omega (arith, ints)

    alike : (h k : ℕ) → 1 ≤ h → eqb h (k + 1) ≡ eqb (h - 1) k
    alike h k one =
        elim (cases_eq h (k + 1)) [
          | inl e ↦ eq-eqb h (k + 1) e ∙ sym (eq-eqb (h - 1) k (omega (arith, e)))
          | inr ne ↦ ne_eqb h (k + 1) ne ∙ sym (ne_eqb (h - 1) k (λ e. ne (omega (arith, e, one))))
        ]

    heads_sum : (p : PlaneModel) → HasEnds p → sum_below (vertices p) (λ k. vertex_degree p (k + 1)) ≡ darts p
    heads_sum p ends =
        sum_below-same (vertices p) (λ k. vertex_degree p (k + 1)) (λ k. sum_below (darts p) (λ d. cond (eqb (head p d - 1) k) 1 0))
        (λ k l. sum_below-same (darts p) (λ d. if head p d == k + 1 then 1 else 0) (λ d. cond (eqb (head p d - 1) k) 1 0)
        (λ d b. ap (λ (c : Bool). cond c 1 0) (alike (head p d) k (ends.head_from d b))))
        ∙ exchanged-ones (darts p) (vertices p) (λ d. head p d - 1) (λ d b. omega (arith, ends.head_from d b, ends.head_to d b))

    eqb_turned : (a b : ℕ) → eqb a b ≡ eqb b a
    eqb_turned a b = elim (cases_eq a b) [ inl e ↦ eq-eqb a b e ∙ sym (eq-eqb b a (sym e)) | inr ne ↦ ne_eqb a b ne ∙ sym (ne_eqb b a (λ e. ne (sym e))) ]

    outer_sum : (p : PlaneModel) → IsPlane p → sum_below p.faces (λ f. if f == p.outer then 4 else 0) ≡ 4
    outer_sum p plane =
        sum_below-same p.faces (λ f. if f == p.outer then 4 else 0) (λ f. cond (eqb p.outer f) 4 0)
        (λ f l. ap (λ (c : Bool). cond c 4 0) (eqb_turned f p.outer))
        ∙ sum_below-one p.faces p.outer (λ _. 4) plane.outer

    four : (b : Bool) → (if b then 0 else 4) + (if b then 4 else 0) ≡ 4
    four true = refl
    four false = refl

    inner_sum : (p : PlaneModel) → IsPlane p → sum_below p.faces (λ f. if f == p.outer then 0 else 4) + 4 ≡ p.faces * 4
    inner_sum p plane =
        let both : sum_below p.faces (λ f. (if f == p.outer then 0 else 4) + (if f == p.outer then 4 else 0)) ≡ p.faces * 4 =
        sum_below-same p.faces (λ f. (if f == p.outer then 0 else 4) + (if f == p.outer then 4 else 0)) (λ _. 4) (λ f l. four (f == p.outer))
        ∙ sum_below-constant p.faces 4 in
        omega (arith, both, sum_below-add p.faces (λ f. if f == p.outer then 0 else 4) (λ f. if f == p.outer then 4 else 0), outer_sum p plane)

pub net_flows : (p : PlaneModel) (net : NetworkModel) → IsPlane p → IsFaceNet p net → ((i : ℕ) → i < arc_count net → ((arc_at net i).from < node_count net) × ((arc_at net i).to < node_count net)) → (y : ℕ → ℕ) × Flow net y
net_flows p net plane is ends =
    flow_where_joined net (start p) (λ v. supply_at net v -ℤ net_outflow net (start p) v) ends (supplies_sum_to_zero p net plane is)
    (start_keeps p net is) (excess_leaves net (start p)) (start_joined p net plane is)
