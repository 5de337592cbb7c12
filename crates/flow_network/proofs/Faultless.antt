-- The network of a plane is one.
use Rattle.std.proofs.Common.{◌≡◌, ℕ, ◌+◌, ◌-◌, ◌*◌, ◌<◌, ◌≤◌, ◌==◌, if◌then◌else◌, Bool, true, false, arith, subst, ap, inl, inr}
use Rattle.std.specs.Prelude.{ℤ, pos, negsuc, ◌+ℤ◌, ◌-ℤ◌, nat_abs}
use Rattle.std.proofs.lemmas.Bool.{cases_lt}
use Rattle.std.proofs.lemmas.Int.{ints}
use Rattle.common.specs.Sums.{sum_below}
use Rattle.common.proofs.Sums.{sum_below-le, sum_below-times}
use Rattle.common.specs.declared.parameters.TheConstants.{MAX_VERTICES}
use Rattle.faces.specs.Planes.{PlaneModel, IsPlane, darts, vertices, head, reverse_dart, face_at, degree}
use Rattle.faces.proofs.Ends.{plane_ends}
use Rattle.faces.proofs.FaceDegrees.{degree_at_most}
use Rattle.min_cost_flow.specs.declared.network.Arc.{Arc}
use Rattle.min_cost_flow.specs.Networks.{NetworkModel, node_count, arc_count, arc_at, supply_at, IsInSupplyRange, IsNetwork}
use Rattle.flow_network.specs.FaceNet.{IsKeepingNet, vertex_degree, beyond_at_vertex, beyond_in_face, lefts_in_face, vertex_has_to_turn, face_has_to_turn}
use Rattle.flow_network.specs.declared.given_shape.TheConstants.{MAX_GIVEN_TURNS}
use Rattle.flow_network.specs.Given.{GivenModel, CanBeGiven, angle_given, beyond_first}
use Rattle.flow_network.proofs.GivenParts.{beyond_first_few, lefts_few, abs_le}
use Rattle.flow_network.proofs.VertexDegrees.{arrivals_most}

-- a fact of each arc of the network
pub each_arc : {given : GivenModel} (p : PlaneModel) (net : NetworkModel) → IsKeepingNet p given net → (P : Arc → Type 0) →
    ((d : ℕ) → d < darts p → P (arc_at net d)) → ((d : ℕ) → d < darts p → P (arc_at net (darts p + d))) →
    (i : ℕ) → i < arc_count net → P (arc_at net i)
each_arc p net is P corner crossing i l =
    elim (cases_lt i (darts p)) [
      | inl first ↦ corner i first
      | inr second ↦
          let at : darts p + (i - darts p) ≡ i = omega arith in
          subst (λ (j : ℕ). P (arc_at net j)) at (crossing (i - darts p) (omega (arith, is.arcs)))
    ]

pub arc_ends : {given : GivenModel} (p : PlaneModel) (net : NetworkModel) → IsPlane p → IsKeepingNet p given net → (i : ℕ) → i < arc_count net →
    ((arc_at net i).from < node_count net) × ((arc_at net i).to < node_count net)
arc_ends p net plane is =
    let ends = plane_ends p plane in
    each_arc p net is (λ a. (a.from < node_count net) × (a.to < node_count net))
    (λ d l. (
      omega (arith, ap (λ (a : Arc). a.from) (is.corner d l), is.nodes, ends.head_from d l, ends.head_to d l),
      omega (arith, ap (λ (a : Arc). a.to) (is.corner d l), is.nodes, ends.face_named d l),
    ))
    (λ d l. (
      omega (arith, ap (λ (a : Arc). a.from) (is.crossing d l), is.nodes, ends.face_named d l),
      omega (arith, ap (λ (a : Arc). a.to) (is.crossing d l), is.nodes, ends.face_named (reverse_dart p d) (ends.reverse_dart_in_range d l)),
    ))

-- in all darts of a face, or of a vertex, given angles have at most three right angles each beyond the first
beyond_few : (n : ℕ) (at : ℕ → ℕ) (x : ℕ → ℕ) (k : ℕ) → ((d : ℕ) → x d ≤ 3) → sum_below n (λ d. if at d == k then x d else 0) ≤ 3 * sum_below n (λ d. if at d == k then 1 else 0)
beyond_few n at x k each =
    omega (
      arith,
      sum_below-le n (λ d. if at d == k then x d else 0) (λ d. 3 * (if at d == k then 1 else 0)) (λ d _. three (at d == k) (x d) (each d)),
      sum_below-times n 3 (λ d. if at d == k then 1 else 0),
    )
  where
    three : (c : Bool) (x : ℕ) → x ≤ 3 → (if c then x else 0) ≤ 3 * (if c then 1 else 0)
    three true x few = omega (arith, few)
    three false x few = omega arith

pub supply_fair : {given : GivenModel} (p : PlaneModel) (net : NetworkModel) → IsPlane p → CanBeGiven given.angles given.turns → IsKeepingNet p given net → (k : ℕ) → k < node_count net → IsInSupplyRange (supply_at net k)
supply_fair {given} p net plane can is k l =
    let ends = plane_ends p plane in
    let few = beyond_first_few given can in
    elim (cases_lt k (vertices p)) [
      | inl vertex ↦
          let back : k + 1 - 1 ≡ k = omega arith in
          at_vertex (supply_at net k) (vertex_degree p (k + 1)) (beyond_at_vertex p given (k + 1))
          (subst (λ (j : ℕ). supply_at net j ≡ vertex_has_to_turn p given (k + 1)) back (is.at_vertex (k + 1) (omega arith) (omega arith)))
          (arrivals_most p plane (k + 1))
          (beyond_few (darts p) (head p) (λ d. beyond_first (angle_given given d)) (k + 1) few)
      | inr face ↦
          let f : ℕ = k - vertices p in
          let at : vertices p + f ≡ k = omega arith in
          let f_in : f < p.faces = omega (arith, is.nodes) in
          at_face (f == p.outer) (supply_at net k) (degree p f) (beyond_in_face p given f) (lefts_in_face p given f) (vertices p)
          (subst (λ (j : ℕ). supply_at net j ≡ face_has_to_turn p given f) at (is.at_face f f_in))
          (degree_at_most p plane f f_in) plane.order
          (beyond_few (darts p) (face_at p) (λ d. beyond_first (angle_given given d)) f few)
          (lefts_few given p plane can f)
    ]
  where
    at_vertex : (z : ℤ) (k more : ℕ) → z ≡ pos 4 -ℤ pos k -ℤ pos more → k ≤ 4 → more ≤ 3 * k → IsInSupplyRange z
    at_vertex z k more is few three = (omega (arith, ints), omega (arith, ints))

    -- with n vertices: -4 - (2n - 2) - (6n + 4) at least, 4 + 2 (2n - 2) + 6n + 4 at most
    at_face : (b : Bool) (z : ℤ) (k more : ℕ) (t : ℤ) (n : ℕ) → z ≡ (if b then negsuc 3 else pos 4) -ℤ pos k +ℤ pos more -ℤ t → k + 2 ≤ 2 * n → n ≤ MAX_VERTICES → more ≤ 3 * k → nat_abs t ≤ MAX_GIVEN_TURNS → IsInSupplyRange z
    at_face true z k more t n is few order three turns = (omega (arith, ints, abs_le t MAX_GIVEN_TURNS turns), omega (arith, ints, abs_le t MAX_GIVEN_TURNS turns))
    at_face false z k more t n is few order three turns = (omega (arith, ints, abs_le t MAX_GIVEN_TURNS turns), omega (arith, ints, abs_le t MAX_GIVEN_TURNS turns))

pub net_sound : {given : GivenModel} (p : PlaneModel) (net : NetworkModel) → IsPlane p → CanBeGiven given.angles given.turns → IsKeepingNet p given net → IsNetwork net
net_sound p net plane can is =
    let ends = plane_ends p plane in
    record {
      small = (omega (arith, is.nodes, plane.order, ends.few_faces), omega (arith, is.arcs, ends.few_darts));
      ends = arc_ends p net plane is;
      supplies = supply_fair p net plane can is;
      costs = each_arc p net is (λ a. a.cost ≤ 1)
          (λ d l. omega (arith, ap (λ (a : Arc). a.cost) (is.corner d l)))
          (λ d l. omega (arith, ap (λ (a : Arc). a.cost) (is.crossing d l)));
    }
