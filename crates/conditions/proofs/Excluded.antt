-- Vertices and faces that turn more than can leave them exclude every representation: in the network of the plane they
-- supply more than the arcs out of them can carry.
use Rattle.std.proofs.Common.{◌≡◌, ◌<◌, ℕ, ◌+◌, ◌-◌, cond, ltb, Bool, true, false, List, map, refl, sym, ◌∙◌, ap, subst, inl, inr, arith}
use Rattle.std.specs.Prelude.{ℤ, pos, ◌<ℤ◌, Option, Some, None, not, ◌&&◌, if◌then◌else◌}
use Rattle.std.specs.List.{range_with_len}
use Rattle.std.proofs.lemmas.Bool.{cases_lt, both_ways, cond-true, cond-false, lt-ltb, le-ltb}
use Rattle.std.proofs.lemmas.List.FromFn.{length-map-range_with_len, get_or-map-range_with_len}
use Rattle.common.proofs.Sums.{sum_below-none}
use Rattle.faces.specs.Planes.{PlaneModel, IsPlane, darts, vertices, head, reverse_dart, face_at}
use Rattle.faces.proofs.Ends.{plane_ends}
use Rattle.min_cost_flow.specs.declared.network.Arc.{Arc}
use Rattle.min_cost_flow.specs.declared.network.Cap.{Cap}
use Rattle.min_cost_flow.specs.declared.network.Cap.TheVariants.{AtMost, Any}
use Rattle.min_cost_flow.specs.Networks.{NetworkModel, arc_count, arc_at, supply_at, net_of, no_arc}
use Rattle.min_cost_flow.specs.ResidualArcs.{units_of}
use Rattle.min_cost_flow.specs.Overfull.{leads_out, supply_of, capacity_out, IsOverfull}
use Rattle.min_cost_flow.proofs.OverfullSets.{overfull_has_no_flow}
use Rattle.flow_network.specs.Marks.{is_marked}
use Rattle.flow_network.specs.Given.{GivenModel, angle_given, turns_given}
use Rattle.flow_network.specs.FaceNet.{IsKeepingNet, vertex_has_to_turn, face_has_to_turn, corner_cap, crossing_cap}
use Rattle.flow_network.proofs.Faultless.{arc_ends}
use Rattle.ortho_rep.specs.Keeping.{HasNoneKeeping}
use Rattle.ortho_rep.proofs.IntoFlow.{none_without_flow}
use Rattle.conditions.specs.Cut.{ShowsNone}
use Rattle.conditions.proofs.CutSets.{nodes_of, vertex_in, face_in, supply_is, limit_of}

-- ---- the network of a plane

abbrev supply_for : PlaneModel → GivenModel → ℕ → ℤ
supply_for p given k = cond (ltb k (vertices p)) (vertex_has_to_turn p given (k + 1)) (face_has_to_turn p given (k - vertices p))

abbrev corner_for : PlaneModel → GivenModel → ℕ → Arc
corner_for p given d = record { from = head p d - 1; to = vertices p + face_at p d; cap = corner_cap (angle_given given d); cost = 0 }

abbrev crossing_for : PlaneModel → GivenModel → ℕ → Arc
crossing_for p given d = record { from = vertices p + face_at p d; to = vertices p + face_at p (reverse_dart p d); cap = crossing_cap (turns_given p given d); cost = 1 }

abbrev arc_for : PlaneModel → GivenModel → ℕ → Arc
arc_for p given i = cond (ltb i (darts p)) (corner_for p given i) (crossing_for p given (i - darts p))

abbrev pub net_for : PlaneModel → GivenModel → NetworkModel
net_for p given = net_of (map (supply_for p given) (range_with_len 0 (vertices p + p.faces))) (map (arc_for p given) (range_with_len 0 (darts p + darts p)))

supply_here : (p : PlaneModel) (given : GivenModel) (k : ℕ) → k < vertices p + p.faces → supply_at (net_for p given) k ≡ supply_for p given k
supply_here p given k l = get_or-map-range_with_len (supply_for p given) 0 (vertices p + p.faces) k k (pos 0) l (omega arith)

arc_here : (p : PlaneModel) (given : GivenModel) (i : ℕ) → i < darts p + darts p → arc_at (net_for p given) i ≡ arc_for p given i
arc_here p given i l = get_or-map-range_with_len (arc_for p given) 0 (darts p + darts p) i i no_arc l (omega arith)

pub is_net : (p : PlaneModel) (given : GivenModel) → IsKeepingNet p given (net_for p given)
is_net p given = record {
  nodes = length-map-range_with_len (supply_for p given) 0 (vertices p + p.faces);
  arcs = length-map-range_with_len (arc_for p given) 0 (darts p + darts p);
  corner = λ d b. arc_here p given d (omega arith) ∙ cond-true {A = Arc} (ltb d (darts p)) (corner_for p given d) (crossing_for p given (d - darts p)) (lt-ltb d (darts p) b);
  crossing = λ d b.
      let back : darts p + d - darts p ≡ d = omega arith in
      arc_here p given (darts p + d) (omega arith)
      ∙ cond-false {A = Arc} (ltb (darts p + d) (darts p)) (corner_for p given (darts p + d)) (crossing_for p given (darts p + d - darts p)) (le-ltb (darts p + d) (darts p) (omega arith))
      ∙ ap (crossing_for p given) back;
  at_vertex = λ v one most.
      let k : ℕ = v - 1 in
      let forth : k + 1 ≡ v = omega arith in
      supply_here p given k (omega arith)
      ∙ cond-true {A = ℤ} (ltb k (vertices p)) (vertex_has_to_turn p given (k + 1)) (face_has_to_turn p given (k - vertices p)) (lt-ltb k (vertices p) (omega arith))
      ∙ ap (vertex_has_to_turn p given) forth;
  at_face = λ f b.
      let back : vertices p + f - vertices p ≡ f = omega arith in
      supply_here p given (vertices p + f) (omega arith)
      ∙ cond-false {A = ℤ} (ltb (vertices p + f) (vertices p)) (vertex_has_to_turn p given (vertices p + f + 1)) (face_has_to_turn p given (vertices p + f - vertices p)) (le-ltb (vertices p + f) (vertices p) (omega arith))
      ∙ ap (face_has_to_turn p given) back;
}

-- ---- what leaves the set

parted : (s t : Bool) → (s && not t) ≡ true → (s ≡ true) × (t ≡ false)
parted true true h = cc
parted true false h = (refl, refl)
parted false t h = cc

no_limit : (b : Bool) (c : Cap) → (b ≡ true → c ≡ AtMost 0) → (if b then units_of c else 0) ≡ 0
no_limit true c only = ap units_of (only refl)
no_limit false c only = refl

-- only arcs that carry nothing leave it
leaving : (p : PlaneModel) (given : GivenModel) (vs fs : List Bool) (net : NetworkModel) → IsPlane p → IsKeepingNet p given net → ShowsNone p given vs fs → (i : ℕ) → i < arc_count net → leads_out net (nodes_of p vs fs) i ≡ true → (arc_at net i).cap ≡ AtMost 0
leaving p given vs fs net plane is shows i l leads =
    let s : ℕ → Bool = nodes_of p vs fs in
    let ends = plane_ends p plane in
    let (sf, st) = parted (s (arc_at net i).from) (s (arc_at net i).to) leads in
    elim (cases_lt i (darts p)) [
      | inl corner ↦
          let arc = is.corner i corner in
          let from : (arc_at net i).from ≡ head p i - 1 = ap (λ (a : Arc). a.from) arc in
          let to : (arc_at net i).to ≡ vertices p + face_at p i = ap (λ (a : Arc). a.to) arc in
          let vertex : is_marked vs (head p i - 1) ≡ true = sym (vertex_in p vs fs (head p i - 1) (omega (arith, ends.head_from i corner, ends.head_to i corner))) ∙ (sym (ap s from) ∙ sf) in
          let out : is_marked fs (face_at p i) ≡ false = sym (face_in p vs fs (face_at p i)) ∙ (sym (ap s to) ∙ st) in
          ap (λ (a : Arc). a.cap) arc
          ∙ angle_kept (angle_given given i) (λ free. both_ways (is_marked fs (face_at p i)) out (shows.corners i corner free vertex))
      | inr past ↦
          let d : ℕ = i - darts p in
          let at : darts p + d ≡ i = omega arith in
          let b : d < darts p = omega (arith, is.arcs) in
          let arc : arc_at net i ≡ crossing_for p given d = subst (λ (j : ℕ). arc_at net j ≡ crossing_for p given d) at (is.crossing d b) in
          let from : (arc_at net i).from ≡ vertices p + face_at p d = ap (λ (a : Arc). a.from) arc in
          let to : (arc_at net i).to ≡ vertices p + face_at p (reverse_dart p d) = ap (λ (a : Arc). a.to) arc in
          let held : is_marked fs (face_at p d) ≡ true = sym (face_in p vs fs (face_at p d)) ∙ (sym (ap s from) ∙ sf) in
          let out : is_marked fs (face_at p (reverse_dart p d)) ≡ false = sym (face_in p vs fs (face_at p (reverse_dart p d))) ∙ (sym (ap s to) ∙ st) in
          ap (λ (a : Arc). a.cap) arc
          ∙ turns_kept (turns_given p given d) (λ free. both_ways (is_marked fs (face_at p (reverse_dart p d))) out (shows.crossings d b free held))
    ]
  where
    -- only what is given is left
    angle_kept : (g : Option ℕ) → (g ≡ None → ⊥) → corner_cap g ≡ AtMost 0
    angle_kept None not_free = absurd (not_free refl)
    angle_kept (Some k) not_free = refl

    turns_kept : (g : Option ℤ) → (g ≡ None → ⊥) → crossing_cap g ≡ AtMost 0
    turns_kept None not_free = absurd (not_free refl)
    turns_kept (Some t) not_free = refl

pub is_overfull : (p : PlaneModel) (given : GivenModel) (vs fs : List Bool) (net : NetworkModel) → IsPlane p → IsKeepingNet p given net → ShowsNone p given vs fs → IsOverfull net (nodes_of p vs fs)
is_overfull p given vs fs net plane is shows =
    let s : ℕ → Bool = nodes_of p vs fs in
    let none : capacity_out net s ≡ 0 = sum_below-none (arc_count net) (limit_of net s) (λ i l. no_limit (leads_out net s i) (arc_at net i).cap (leaving p given vs fs net plane is shows i l)) in
    record {
      limited = λ i l leads any. differ (sym any ∙ leaving p given vs fs net plane is shows i l leads);
      more = subst (λ (k : ℕ). pos k <ℤ supply_of net s) (sym none) (subst (λ (z : ℤ). pos 0 <ℤ z) (sym (supply_is p net vs fs is)) shows.more);
    }
  where
    differ : Any ≡ AtMost 0 → ⊥
    differ e = cc

-- so no representation keeps what is given
pub none_where_shown : (p : PlaneModel) (given : GivenModel) (vs fs : List Bool) → IsPlane p → ShowsNone p given vs fs → HasNoneKeeping p given
none_where_shown p given vs fs plane shows =
    let net : NetworkModel = net_for p given in
    let is = is_net p given in
    none_without_flow p net (plane_ends p plane) is
    (overfull_has_no_flow net (nodes_of p vs fs) (arc_ends p net plane is) (is_overfull p given vs fs net plane is shows))
