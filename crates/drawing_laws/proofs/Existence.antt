-- Each plane has a shape with the fewest bends: its network has a flow, which is a representation.
use Rattle.std.proofs.Common.{◌≡◌, ◌<◌, ℕ, ◌+◌, ◌-◌, cond, ltb, List, [], length, map, sym, ap, ◌∙◌, arith}
use Rattle.std.specs.Prelude.{ℤ, pos, ◌-ℤ◌, Option}
use Rattle.std.specs.List.{range_with_len}
use Rattle.std.proofs.lemmas.Bool.{lt-ltb, le-ltb, cond-true, cond-false}
use Rattle.std.proofs.lemmas.List.FromFn.{length-map-range_with_len, get_or-map-range_with_len}
use Rattle.common.specs.Sums.{sum_below}
use Rattle.common.proofs.Sums.{sum_below-same}
use Rattle.min_cost_flow.specs.declared.network.Arc.{Arc}
use Rattle.min_cost_flow.specs.declared.network.Cap.TheVariants.{AtMost, Any}
use Rattle.min_cost_flow.specs.Networks.{NetworkModel, net_of, no_arc, arc_at, supply_at}
use Rattle.faces.specs.Planes.{PlaneModel, IsPlane, darts, vertices, head, reverse_dart, face_at, degree}
use Rattle.faces.proofs.Ends.{plane_ends}
use Rattle.flow_network.specs.Given.{nothing_given}
use Rattle.flow_network.specs.FaceNet.{IsFaceNet, vertex_degree, crossing_cap}
use Rattle.flow_network.proofs.GivenParts.{none_along, vertex_plain, face_plain}
use Rattle.flow_network.proofs.Flowing.{net_flows}
use Rattle.flow_network.proofs.Faultless.{arc_ends}
use Rattle.ortho_rep.specs.declared.turn_strings.Turn.{Turn}
use Rattle.ortho_rep.specs.Shapes.{ShapeModel, angle_at, turns_at}
use Rattle.ortho_rep.specs.OfFlow.{angles_of, strings_of}
use Rattle.ortho_rep.specs.Representation.{Rep, IsShape, IsLeast, bends_of, whole_turn}
use Rattle.ortho_rep.proofs.GivenFlow.{nothing_can}
use Rattle.ortho_rep.proofs.FromFlow.{rep_of_flow}
use Rattle.ortho_rep.proofs.SameAtDarts.{rep-alike}
use Rattle.drawing_laws.proofs.StrongDuality.{least_below}

-- ---- the network of a plane

abbrev corner_arc : PlaneModel → ℕ → Arc
corner_arc p d = record { from = head p d - 1; to = vertices p + face_at p d; cap = AtMost 3; cost = 0 }

abbrev crossing_arc : PlaneModel → ℕ → Arc
crossing_arc p d = record { from = vertices p + face_at p d; to = vertices p + face_at p (reverse_dart p d); cap = Any; cost = 1 }

abbrev arc_of : PlaneModel → ℕ → Arc
arc_of p i = cond (ltb i (darts p)) (corner_arc p i) (crossing_arc p (i - darts p))

abbrev supply_of : PlaneModel → ℕ → ℤ
supply_of p k = cond (ltb k (vertices p)) (pos 4 -ℤ pos (vertex_degree p (k + 1))) (whole_turn p (k - vertices p) -ℤ pos (degree p (k - vertices p)))

abbrev net : PlaneModel → NetworkModel
net p = net_of (map (supply_of p) (range_with_len 0 (vertices p + p.faces))) (map (arc_of p) (range_with_len 0 (darts p + darts p)))

arc_is : (p : PlaneModel) (i : ℕ) → i < darts p + darts p → arc_at (net p) i ≡ arc_of p i
arc_is p i b = get_or-map-range_with_len (arc_of p) 0 (darts p + darts p) i i no_arc b (omega arith)

supply_is : (p : PlaneModel) (k : ℕ) → k < vertices p + p.faces → supply_at (net p) k ≡ supply_of p k
supply_is p k b = get_or-map-range_with_len (supply_of p) 0 (vertices p + p.faces) k k (pos 0) b (omega arith)

is_net : (p : PlaneModel) → IsFaceNet p (net p)
is_net p = record {
  nodes = length-map-range_with_len (supply_of p) 0 (vertices p + p.faces);
  arcs = length-map-range_with_len (arc_of p) 0 (darts p + darts p);
  corner = λ d b. arc_is p d (omega arith) ∙ cond-true {A = Arc} (ltb d (darts p)) (corner_arc p d) (crossing_arc p (d - darts p)) (lt-ltb d (darts p) b);
  crossing = λ d b.
      let back : darts p + d - darts p ≡ d = omega arith in
      arc_is p (darts p + d) (omega arith)
      ∙ cond-false {A = Arc} (ltb (darts p + d) (darts p)) (corner_arc p (darts p + d)) (crossing_arc p (darts p + d - darts p)) (le-ltb (darts p + d) (darts p) (omega arith))
      ∙ ap (crossing_arc p) back
      ∙ ap (λ (g : Option ℤ). record { from = vertices p + face_at p d; to = vertices p + face_at p (reverse_dart p d); cap = crossing_cap g; cost = 1 }) (sym (none_along p d));
  at_vertex = λ v from to.
      let back : v - 1 + 1 ≡ v = omega arith in
      supply_is p (v - 1) (omega arith)
      ∙ cond-true {A = ℤ} (ltb (v - 1) (vertices p)) (pos 4 -ℤ pos (vertex_degree p (v - 1 + 1))) (whole_turn p (v - 1 - vertices p) -ℤ pos (degree p (v - 1 - vertices p))) (lt-ltb (v - 1) (vertices p) (omega arith))
      ∙ ap (λ (u : ℕ). pos 4 -ℤ pos (vertex_degree p u)) back
      ∙ sym (vertex_plain p v);
  at_face = λ f b.
      let back : vertices p + f - vertices p ≡ f = omega arith in
      supply_is p (vertices p + f) (omega arith)
      ∙ cond-false {A = ℤ} (ltb (vertices p + f) (vertices p)) (pos 4 -ℤ pos (vertex_degree p (vertices p + f + 1))) (whole_turn p (vertices p + f - vertices p) -ℤ pos (degree p (vertices p + f - vertices p))) (le-ltb (vertices p + f) (vertices p) (omega arith))
      ∙ ap (λ (g : ℕ). whole_turn p g -ℤ pos (degree p g)) back
      ∙ sym (face_plain p f);
}

-- each plane has a representation
some_rep : (p : PlaneModel) → IsPlane p → (a : ℕ → ℕ) × (s : ℕ → List Turn) × Rep p a s
some_rep p plane =
    let (x, flow) = net_flows p (net p) plane (is_net p) (arc_ends p (net p) plane (is_net p)) in
    (angles_of nothing_given x, strings_of p nothing_given x, rep_of_flow p (net p) x (plane_ends p plane) nothing_can (is_net p) flow)

-- and so a least shape
pub some_least : (p : PlaneModel) → IsPlane p → (shape : ShapeModel) × (IsShape p shape) × (IsLeast p shape)
some_least p plane =
    let (a, s, rep) = some_rep p plane in
    let (b, t, least) = least_below p plane (bends_of (darts p) s + 1) a s rep (omega arith) in
    let shape : ShapeModel = record { angles = map b (range_with_len 0 (darts p)); strings = map t (range_with_len 0 (darts p)) } in
    let angles : (d : ℕ) → d < darts p → angle_at shape d ≡ b d = λ d l. get_or-map-range_with_len b 0 (darts p) d d 0 l (omega arith) in
    let strings : (d : ℕ) → d < darts p → turns_at shape d ≡ t d = λ d l. get_or-map-range_with_len t 0 (darts p) d d [] l (omega arith) in
    let is : Rep p (angle_at shape) (turns_at shape) = rep-alike p b (angle_at shape) t (turns_at shape) (plane_ends p plane) angles strings least.rep in
    let alike : sum_below (darts p) (λ d. length (turns_at shape d)) ≡ sum_below (darts p) (λ d. length (t d)) =
    sum_below-same (darts p) (λ d. length (turns_at shape d)) (λ d. length (t d)) (λ d l. ap length (strings d l)) in (
      shape,
      record {
        lengths = record { angles = length-map-range_with_len b 0 (darts p); strings = length-map-range_with_len t 0 (darts p) };
        rep = is;
      },
      record { rep = is; least = λ c u other. omega (arith, alike, least.least c u other) },
    )
