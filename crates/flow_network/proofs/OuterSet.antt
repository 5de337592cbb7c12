-- The network of a plane once another face is the outer one.
use Rattle.std.proofs.Common.{◌≡◌, ℕ, ◌+◌, ◌-◌, ◌<◌, ◌≤◌, ◌==◌, if◌then◌else◌, ◌∙◌, Bool, true, false, cond, eqb, length, arith, subst, sym, inl, inr}
use Rattle.std.specs.Prelude.{ℤ, pos, negsuc, ◌+ℤ◌, ◌-ℤ◌}
use Rattle.std.proofs.lemmas.Bool.{cases_eq, cases_lt, eq-eqb, ne_eqb}
use Rattle.std.proofs.lemmas.Int.{ints}
use Rattle.embedding.specs.declared.graphs.TheConstants.{MAX_DARTS}
use Rattle.faces.specs.Planes.{PlaneModel, IsPlane, darts, vertices, face_at, degree, with_outer}
use Rattle.faces.proofs.Ends.{plane_ends}
use Rattle.faces.proofs.Degrees.{degree_few}
use Rattle.min_cost_flow.specs.Networks.{NetworkModel, supply_at, shifted, IsInSupplyRange, HasSuppliesInRange}
use Rattle.min_cost_flow.proofs.Moving.{delta, moved_at, length-moved}
use Rattle.flow_network.specs.Given.{GivenModel}
use Rattle.flow_network.specs.FaceNet.{IsFaceNet, IsKeepingNet, vertex_degree, beyond_in_face, lefts_in_face}
use Rattle.flow_network.proofs.GivenParts.{vertex_plain, face_plain}
use Rattle.flow_network.proofs.VertexDegrees.{arrivals_most}

set_face : (b c : Bool) (s s' : ℤ) (k more : ℕ) (t : ℤ) → s ≡ (if b then negsuc 3 else pos 4) -ℤ pos k +ℤ pos more -ℤ t → s' ≡ s +ℤ (pos (cond {A = ℕ} b 8 0) -ℤ pos (cond {A = ℕ} c 8 0)) → s' ≡ (if c then negsuc 3 else pos 4) -ℤ pos k +ℤ pos more -ℤ t
set_face true true s s' k more t h e = omega (arith, ints)
set_face true false s s' k more t h e = omega (arith, ints)
set_face false true s s' k more t h e = omega (arith, ints)
set_face false false s s' k more t h e = omega (arith, ints)

untouched : (b c : Bool) (s s' : ℤ) → b ≡ false → c ≡ false → s' ≡ s +ℤ (pos (cond {A = ℕ} b 8 0) -ℤ pos (cond {A = ℕ} c 8 0)) → s' ≡ s
untouched true c s s' h k e = cc
untouched false true s s' h k e = cc
untouched false false s s' h k e = omega (arith, ints)

pub same_test : (n f g : ℕ) → eqb (n + f) (n + g) ≡ eqb f g
same_test n f g = elim (cases_eq f g) [
  | inl e ↦ eq-eqb (n + f) (n + g) (omega arith) ∙ sym (eq-eqb f g e)
  | inr ne ↦ ne_eqb (n + f) (n + g) (λ e. ne (omega arith)) ∙ sym (ne_eqb f g ne)
]

pub net_set : {given : GivenModel} (p : PlaneModel) (net : NetworkModel) (face : ℕ) → p.outer < p.faces → face < p.faces → IsKeepingNet p given net → IsKeepingNet (with_outer p face) given (shifted net (vertices p + p.outer) (vertices p + face) 8)
net_set {given} p net face outer inside is =
    let from : ℕ = vertices p + p.outer in
    let to : ℕ = vertices p + face in
    let fb : from < length net.supplies = omega (arith, is.nodes) in
    let tb : to < length net.supplies = omega (arith, is.nodes) in
    let at : (v : ℕ) → supply_at (shifted net from to 8) v ≡ supply_at net v +ℤ delta from to 8 v = λ v. moved_at net.supplies from to 8 v fb tb in
    record {
      nodes = length-moved net.supplies from to 8 ∙ is.nodes;
      arcs = is.arcs;
      corner = is.corner;
      crossing = is.crossing;
      at_vertex = λ v one most. untouched (eqb (v - 1) from) (eqb (v - 1) to) (supply_at net (v - 1)) (supply_at (shifted net from to 8) (v - 1))
          (ne_eqb (v - 1) from (λ e. absurd (omega arith))) (ne_eqb (v - 1) to (λ e. absurd (omega arith))) (at (v - 1)) ∙ is.at_vertex v one most;
      at_face = λ f b. set_face (f == p.outer) (f == face) (supply_at net (vertices p + f)) (supply_at (shifted net from to 8) (vertices p + f)) (degree p f) (beyond_in_face p given f) (lefts_in_face p given f) (is.at_face f b)
          (subst (λ (c : Bool). supply_at (shifted net from to 8) (vertices p + f) ≡ supply_at net (vertices p + f) +ℤ (pos (cond {A = ℕ} (eqb f p.outer) 8 0) -ℤ pos (cond {A = ℕ} c 8 0))) (same_test (vertices p) f face)
          (subst (λ (b : Bool). supply_at (shifted net from to 8) (vertices p + f) ≡ supply_at net (vertices p + f) +ℤ (pos (cond {A = ℕ} b 8 0) -ℤ pos (cond {A = ℕ} (eqb (vertices p + f) to) 8 0))) (same_test (vertices p) f p.outer)
          (at (vertices p + f))));
    }

vertex_fair : (z : ℤ) (k : ℕ) → z ≡ pos 4 -ℤ pos k → k ≤ 4 → IsInSupplyRange z
vertex_fair z k is few = (omega (arith, ints), omega (arith, ints))

face_fair : (b : Bool) (z : ℤ) (k : ℕ) → z ≡ (if b then negsuc 3 else pos 4) -ℤ pos k → k ≤ MAX_DARTS → IsInSupplyRange z
face_fair true z k is few = (omega (arith, ints), omega (arith, ints))
face_fair false z k is few = (omega (arith, ints), omega (arith, ints))

-- whichever face is the outer one, the supplies are fair
pub set_fair : (p : PlaneModel) (net : NetworkModel) (face : ℕ) → IsPlane p → IsFaceNet (with_outer p face) net → HasSuppliesInRange net
set_fair p net face plane is k l =
    let ends = plane_ends p plane in
    elim (cases_lt k (vertices p)) [
      | inl vertex ↦
          let back : k + 1 - 1 ≡ k = omega arith in
          vertex_fair (supply_at net k) (vertex_degree p (k + 1))
          (subst (λ (j : ℕ). supply_at net j ≡ pos 4 -ℤ pos (vertex_degree p (k + 1))) back (is.at_vertex (k + 1) (omega arith) (omega arith) ∙ vertex_plain (with_outer p face) (k + 1)))
          (arrivals_most p plane (k + 1))
      | inr other ↦
          let f : ℕ = k - vertices p in
          let at : vertices p + f ≡ k = omega arith in
          face_fair (f == face) (supply_at net k) (degree p f)
          (subst (λ (j : ℕ). supply_at net j ≡ (if f == face then negsuc 3 else pos 4) -ℤ pos (degree p f)) at (is.at_face f (omega (arith, is.nodes)) ∙ face_plain (with_outer p face) f))
          (omega (arith, degree_few (darts p) (face_at p) f, ends.few_darts))
    ]
