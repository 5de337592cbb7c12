-- A representation that keeps what is given is a flow in the network where nothing more flows there: a corner arc carries a
-- dart's angle less one, a crossing arc its left turns. So if there is no flow, there is no such representation.
use Rattle.std.proofs.Common.{◌≡◌, ◌≤◌, ◌<◌, ℕ, ◌+◌, ◌-◌, cond, eqb, ltb, List, refl, sym, ap, ◌∙◌, subst, inl, inr, arith}
use Rattle.std.specs.Prelude.{ℤ, pos, ◌+ℤ◌, ◌-ℤ◌, Option, Some, None}
use Rattle.std.proofs.lemmas.Bool.{cases_lt, lt-ltb, le-ltb, cond-true, cond-false}
use Rattle.std.proofs.lemmas.Int.{ints}
use Rattle.common.proofs.Sums.{sum_below-same, total_below-same}
use Rattle.faces.specs.Planes.{PlaneModel, HasEnds, darts, vertices, head, reverse_dart, face_at, degree}
use Rattle.min_cost_flow.specs.declared.network.Arc.{Arc}
use Rattle.min_cost_flow.specs.Networks.{NetworkModel, node_count, arc_at, supply_at}
use Rattle.min_cost_flow.specs.Flow.{Flow, HasNoFlow, IsWithinCap, net_outflow}
use Rattle.flow_network.specs.Given.{GivenModel, IsAngle, angle_given, turns_given, walked_back}
use Rattle.flow_network.specs.FaceNet.{IsKeepingNet, vertex_degree, beyond_at_vertex, beyond_in_face, lefts_in_face, corner_cap, crossing_cap}
use Rattle.flow_network.proofs.GivenParts.{turns_back}
use Rattle.ortho_rep.specs.declared.turn_strings.Turn.{Turn}
use Rattle.ortho_rep.specs.Turns.{lefts, rights}
use Rattle.ortho_rep.specs.Representation.{Rep, angles_around, turning_of, turning_around, whole_turn}
use Rattle.ortho_rep.specs.Keeping.{one_way, Keeps, HasNoneKeeping}
use Rattle.ortho_rep.specs.OfFlow.{angle_or, angles_of, turns_or, strings_of}
use Rattle.ortho_rep.proofs.WeakDuality.{rights_are}
use Rattle.ortho_rep.proofs.FlowStrings.{lefts-lefts_then_rights, rights-lefts_then_rights}
use Rattle.ortho_rep.proofs.GivenFlow.{AnglesCan}
use Rattle.ortho_rep.proofs.FromFlow.{KeepsCaps, vertex_balance, face_balance}

-- what the arcs of a dart carry: nothing where something is given
abbrev pub units_beyond : Option ℕ → ℕ → ℕ
units_beyond None angle = angle - 1
units_beyond (Some k) angle = 0

abbrev pub units_across : Option ℤ → List Turn → ℕ
units_across None turns = lefts turns
units_across (Some t) turns = 0

-- what arc i carries
abbrev pub units_of : PlaneModel → GivenModel → (ℕ → ℕ) → (ℕ → List Turn) → ℕ → ℕ
units_of p given a s i = cond (ltb i (darts p)) (units_beyond (angle_given given i) (a i)) (units_across (turns_given p given (i - darts p)) (s (i - darts p)))

corner_units : (p : PlaneModel) (given : GivenModel) (a : ℕ → ℕ) (s : ℕ → List Turn) (d : ℕ) → d < darts p → units_of p given a s d ≡ units_beyond (angle_given given d) (a d)
corner_units p given a s d b =
    cond-true {A = ℕ} (ltb d (darts p)) (units_beyond (angle_given given d) (a d)) (units_across (turns_given p given (d - darts p)) (s (d - darts p))) (lt-ltb d (darts p) b)

crossing_units : (p : PlaneModel) (given : GivenModel) (a : ℕ → ℕ) (s : ℕ → List Turn) (d : ℕ) → units_of p given a s (darts p + d) ≡ units_across (turns_given p given d) (s d)
crossing_units p given a s d =
    let back : darts p + d - darts p ≡ d = omega arith in
    cond-false {A = ℕ} (ltb (darts p + d) (darts p)) (units_beyond (angle_given given (darts p + d)) (a (darts p + d))) (units_across (turns_given p given (darts p + d - darts p)) (s (darts p + d - darts p))) (le-ltb (darts p + d) (darts p) (omega arith))
    ∙ ap (λ (e : ℕ). units_across (turns_given p given e) (s e)) back

-- the capacities are kept
within_caps : {given : GivenModel} (p : PlaneModel) (net : NetworkModel) (a : ℕ → ℕ) (s : ℕ → List Turn) → IsKeepingNet p given net → Rep p a s → KeepsCaps net (units_of p given a s)
within_caps {given} p net a s is rep = λ i l.
    let x = units_of p given a s in
    elim (cases_lt i (darts p)) [
      | inl corner ↦
          let few : IsWithinCap (corner_cap (angle_given given i)) (x i) =
          subst (λ (k : ℕ). IsWithinCap (corner_cap (angle_given given i)) k) (sym (corner_units p given a s i corner)) (corner_fits (angle_given given i) (a i) (rep.angles i corner).1) in
          subst (λ (arc : Arc). IsWithinCap arc.cap (x i)) (sym (is.corner i corner)) few
      | inr past ↦
          let d : ℕ = i - darts p in
          let at : darts p + d ≡ i = omega arith in
          let b : d < darts p = omega (arith, is.arcs) in
          let few : IsWithinCap (crossing_cap (turns_given p given d)) (x (darts p + d)) =
          subst (λ (k : ℕ). IsWithinCap (crossing_cap (turns_given p given d)) k) (sym (crossing_units p given a s d)) (crossing_fits (turns_given p given d) (s d)) in
          subst (λ (j : ℕ). IsWithinCap (arc_at net j).cap (x j)) at
          (subst (λ (arc : Arc). IsWithinCap arc.cap (x (darts p + d))) (sym (is.crossing d b)) few)
    ]
  where
    corner_fits : (g : Option ℕ) (angle : ℕ) → angle ≤ 4 → IsWithinCap (corner_cap g) (units_beyond g angle)
    corner_fits None angle most = omega arith
    corner_fits (Some k) angle most = omega arith

    crossing_fits : (g : Option ℤ) (turns : List Turn) → IsWithinCap (crossing_cap g) (units_across g turns)
    crossing_fits None turns = tt
    crossing_fits (Some t) turns = omega arith

-- the angles are those of the flow
angle_alike : (p : PlaneModel) (given : GivenModel) (a : ℕ → ℕ) (s : ℕ → List Turn) → Rep p a s → Keeps p given a s → (d : ℕ) → d < darts p → angles_of given (units_of p given a s) d ≡ a d
angle_alike p given a s rep keeps d b =
    ap (angle_or (angle_given given d)) (corner_units p given a s d b) ∙ same (angle_given given d) (a d) (rep.angles d b).0 (keeps.angles d b)
  where
    same : (g : Option ℕ) (angle : ℕ) → 1 ≤ angle → ((k : ℕ) → g ≡ Some k → angle ≡ k) → angle_or g (units_beyond g angle) ≡ angle
    same None angle least kept = omega arith
    same (Some k) angle least kept = sym (kept k refl)

-- and each dart turns as often to each side
lefts_alike : (g : Option ℤ) (turns : List Turn) (l r : ℕ) → l ≡ units_across g turns → ((t : ℤ) → g ≡ Some t → turns ≡ one_way t) → lefts (turns_or g l r) ≡ lefts turns
lefts_alike None turns l r is kept = lefts-lefts_then_rights l r ∙ is
lefts_alike (Some t) turns l r is kept = ap lefts (sym (kept t refl))

rights_alike : (g : Option ℤ) (turns back : List Turn) (l r : ℕ) → r ≡ units_across (walked_back g) back → rights turns ≡ lefts back → ((t : ℤ) → g ≡ Some t → turns ≡ one_way t) → rights (turns_or g l r) ≡ rights turns
rights_alike None turns back l r is turned kept = rights-lefts_then_rights l r ∙ is ∙ sym turned
rights_alike (Some t) turns back l r is turned kept = ap rights (sym (kept t refl))

turning_same : (a b : ℕ) (s t : List Turn) → a ≡ b → lefts s ≡ lefts t → rights s ≡ rights t → turning_of a s ≡ turning_of b t
turning_same a b s t same_angle same_lefts same_rights = omega (arith, ints)

turns_alike : (p : PlaneModel) (given : GivenModel) (a : ℕ → ℕ) (s : ℕ → List Turn) → HasEnds p → Rep p a s → Keeps p given a s → (f : ℕ) → turning_around p (angles_of given (units_of p given a s)) (strings_of p given (units_of p given a s)) f ≡ turning_around p a s f
turns_alike p given a s ends rep keeps f =
    let x = units_of p given a s in
    let back : (d : ℕ) → d < darts p → x (darts p + reverse_dart p d) ≡ units_across (walked_back (turns_given p given d)) (s (reverse_dart p d)) =
    λ d b. crossing_units p given a s (reverse_dart p d) ∙ ap (λ (g : Option ℤ). units_across g (s (reverse_dart p d))) (turns_back p given d ends b) in
    total_below-same (darts p) (λ d. cond (eqb (face_at p d) f) (turning_of (angles_of given x d) (strings_of p given x d)) (pos 0)) (λ d. cond (eqb (face_at p d) f) (turning_of (a d) (s d)) (pos 0))
    (λ d b. ap (λ (z : ℤ). cond (eqb (face_at p d) f) z (pos 0))
    (turning_same (angles_of given x d) (a d) (strings_of p given x d) (s d)
    (angle_alike p given a s rep keeps d b)
    (lefts_alike (turns_given p given d) (s d) (x (darts p + d)) (x (darts p + reverse_dart p d)) (crossing_units p given a s d) (keeps.turns d b))
    (rights_alike (turns_given p given d) (s d) (s (reverse_dart p d)) (x (darts p + d)) (x (darts p + reverse_dart p d)) (back d b) (rights_are p a s rep d b) (keeps.turns d b))))

angles_alike : (p : PlaneModel) (given : GivenModel) (a : ℕ → ℕ) (s : ℕ → List Turn) → Rep p a s → Keeps p given a s → (v : ℕ) → angles_around p (angles_of given (units_of p given a s)) v ≡ angles_around p a v
angles_alike p given a s rep keeps v =
    let x = units_of p given a s in
    sum_below-same (darts p) (λ d. cond (eqb (head p d) v) (angles_of given x d) 0) (λ d. cond (eqb (head p d) v) (a d) 0)
    (λ d b. ap (λ (k : ℕ). cond (eqb (head p d) v) k 0) (angle_alike p given a s rep keeps d b))

-- each node sends out its supply
meets_supplies : {given : GivenModel} (p : PlaneModel) (net : NetworkModel) (a : ℕ → ℕ) (s : ℕ → List Turn) → HasEnds p → AnglesCan p given → IsKeepingNet p given net → Rep p a s → Keeps p given a s → (k : ℕ) → k < node_count net → net_outflow net (units_of p given a s) k ≡ supply_at net k
meets_supplies {given} p net a s ends can is rep keeps k l =
    let x = units_of p given a s in
    let within = within_caps p net a s is rep in
    elim (cases_lt k (vertices p)) [
      | inl vertex ↦
          let v : ℕ = k + 1 in
          let back : v - 1 ≡ k = omega arith in
          let four : angles_around p (angles_of given x) v ≡ 4 = angles_alike p given a s rep keeps v ∙ rep.around v (omega arith) (omega arith) in
          subst (λ (j : ℕ). net_outflow net x j ≡ supply_at net j) back
          (left (net_outflow net x (v - 1)) (supply_at net (v - 1)) (angles_around p (angles_of given x) v) (vertex_degree p v) (beyond_at_vertex p given v)
          (vertex_balance p net x v ends can is within (omega arith) (omega arith)) four (is.at_vertex v (omega arith) (omega arith)))
      | inr face ↦
          let f : ℕ = k - vertices p in
          let at : vertices p + f ≡ k = omega arith in
          let b : f < p.faces = omega (arith, is.nodes) in
          let turned : net_outflow net x (vertices p + f) +ℤ pos (degree p f) -ℤ pos (beyond_in_face p given f) +ℤ lefts_in_face p given f ≡ whole_turn p f =
          sym (face_balance p net x f ends can is within b) ∙ (turns_alike p given a s ends rep keeps f ∙ rep.faces f b) in
          subst (λ (j : ℕ). net_outflow net x j ≡ supply_at net j) at
          (sent (net_outflow net x (vertices p + f)) (supply_at net (vertices p + f)) (whole_turn p f) (lefts_in_face p given f) (degree p f) (beyond_in_face p given f) turned (is.at_face f b))
    ]
  where
    left : (out supply : ℤ) (angles degree more : ℕ) → pos angles ≡ out +ℤ pos degree +ℤ pos more → angles ≡ 4 → supply ≡ pos 4 -ℤ pos degree -ℤ pos more → out ≡ supply
    left out supply angles degree more balance four is = omega (arith, ints)

    sent : (out supply turn turns : ℤ) (degree more : ℕ) → out +ℤ pos degree -ℤ pos more +ℤ turns ≡ turn → supply ≡ turn -ℤ pos degree +ℤ pos more -ℤ turns → out ≡ supply
    sent out supply turn turns degree more balance is = omega (arith, ints)

-- a representation is a flow
pub flow_of_rep : {given : GivenModel} (p : PlaneModel) (net : NetworkModel) (a : ℕ → ℕ) (s : ℕ → List Turn) → HasEnds p → AnglesCan p given → IsKeepingNet p given net → Rep p a s → Keeps p given a s → Flow net (units_of p given a s)
flow_of_rep p net a s ends can is rep keeps = record {
  within = within_caps p net a s is rep;
  meets = meets_supplies p net a s ends can is rep keeps;
}

-- angles that a representation keeps are 1 to 4
angles_kept : (p : PlaneModel) (given : GivenModel) (a : ℕ → ℕ) (s : ℕ → List Turn) → Rep p a s → Keeps p given a s → AnglesCan p given
angles_kept p given a s rep keeps = λ d b. in_range (angle_given given d) (a d) (rep.angles d b) (keeps.angles d b)
  where
    in_range : (g : Option ℕ) (angle : ℕ) → (1 ≤ angle) × (angle ≤ 4) → ((k : ℕ) → g ≡ Some k → angle ≡ k) → IsAngle g
    in_range None angle bounds kept = tt
    in_range (Some k) angle bounds kept = subst (λ (n : ℕ). (1 ≤ n) × (n ≤ 4)) (kept k refl) bounds

-- if there is no flow, no representation keeps what is given
pub none_without_flow : {given : GivenModel} (p : PlaneModel) (net : NetworkModel) → HasEnds p → IsKeepingNet p given net → HasNoFlow net → HasNoneKeeping p given
none_without_flow {given} p net ends is no_flow = λ a s rep keeps. no_flow (units_of p given a s) (flow_of_rep p net a s ends (angles_kept p given a s rep keeps) is rep keeps)
