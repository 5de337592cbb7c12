-- A flow in the network of a plane with what is given is an orthogonal representation that keeps it, and its potentials are
-- prices.
use Rattle.std.proofs.Common.{◌≡◌, ◌≤◌, ◌<◌, ℕ, ◌+◌, ◌-◌, ◌⊎◌, Bool, true, false, cond, eqb, length, replicate, length-append, refl, sym, ap, ◌∙◌, subst, inl, inr, arith}
use Rattle.std.specs.Prelude.{ℤ, slice_index_or, pos, ◌+ℤ◌, ◌-ℤ◌, ◌≤ℤ◌, Option, Some, None}
use Rattle.std.proofs.lemmas.Bool.{cases_eq, eq-eqb, ne_eqb}
use Rattle.std.proofs.lemmas.Int.{ints}
use Rattle.std.proofs.lemmas.List.{length-replicate}
use Rattle.common.specs.declared.parameters.TheConstants.{MAX_VERTICES}
use Rattle.common.specs.Sums.{sum_below}
use Rattle.common.proofs.Sums.{sum_below-same, sum_below-add, sum_below-none, sum_below-split, sum_below-turned}
use Rattle.faces.specs.Planes.{PlaneModel, HasEnds, darts, vertices, head, reverse_dart, face_at, degree}
use Rattle.min_cost_flow.specs.declared.network.Arc.{Arc}
use Rattle.min_cost_flow.specs.Networks.{NetworkModel, arc_count, arc_at}
use Rattle.min_cost_flow.specs.Flow.{Flow, HasPotentials, IsWithinCap, IsUnsaturated, outflow, inflow, net_outflow}
use Rattle.ortho_rep.specs.declared.turn_strings.TheConstants.{MAX_REPEATS}
use Rattle.ortho_rep.specs.declared.turn_strings.Turn.TheVariants.{Left, Right}
use Rattle.flow_network.specs.Given.{GivenModel, CanBeGiven, angle_given, turns_given, walked_back, beyond_first}
use Rattle.flow_network.specs.FaceNet.{IsKeepingNet, vertex_degree, beyond_at_vertex, beyond_in_face, lefts_in_face, vertex_has_to_turn, face_has_to_turn, corner_cap, crossing_cap}
use Rattle.flow_network.proofs.GivenParts.{left_part, right_part, turns_back, lefts_of_face, rights_of_face, face_parts}
use Rattle.ortho_rep.specs.Turns.{mirrored, lefts, rights}
use Rattle.ortho_rep.specs.Representation.{Rep, IsShape, angles_around, turning_around, whole_turn}
use Rattle.ortho_rep.specs.Keeping.{Keeps, IsLeastKeeping}
use Rattle.ortho_rep.specs.OfFlow.{lefts_then_rights, angle_or, angles_of, turns_or, strings_of}
use Rattle.ortho_rep.specs.Prices.{PricesModel, IsAngleKept, AreTurnsKept, ProveKeeping, IsProofKeeping, vertex_price, face_price}
use Rattle.ortho_rep.specs.Shapes.{ShapeModel, angle_at, turns_at}
use Rattle.ortho_rep.proofs.FewTurns.{short_one_way}
use Rattle.ortho_rep.proofs.FlowStrings.{lefts-lefts_then_rights, rights-lefts_then_rights}
use Rattle.ortho_rep.proofs.GivenFlow.{AnglesCan, angle_can, angle_units, angle_within, left_units, right_units, mirrored-turns_or}
use Rattle.ortho_rep.proofs.WeakDuality.{part_at, left_sums, right_sums, turning-split, least_keeping_by_prices}
use Rattle.ortho_rep.proofs.SameAtDarts.{rep-alike, prove_keeping-alike}

pub length-lefts_then_rights : (l r : ℕ) → length (lefts_then_rights l r) ≡ l + r
length-lefts_then_rights l r = omega (arith, length-append (replicate l Left) (replicate r Right), length-replicate l Left, length-replicate r Right)

-- the part at a place, where places are named in another way
part-alike : (m : ℕ) (at to y : ℕ → ℕ) (j k : ℕ) → ((d : ℕ) → d < m → eqb (at d) j ≡ eqb (to d) k) → part_at m at y j ≡ part_at m to y k
part-alike m at to y j k alike =
    sum_below-same m (λ d. cond (eqb (at d) j) (y d) 0) (λ d. cond (eqb (to d) k) (y d) 0) (λ d b. ap (λ (c : Bool). cond c (y d) 0) (alike d b))

part-none : (m : ℕ) (at y : ℕ → ℕ) (k : ℕ) → ((d : ℕ) → d < m → at d ≡ k → ⊥) → part_at m at y k ≡ 0
part-none m at y k away =
    sum_below-none m (λ d. cond (eqb (at d) k) (y d) 0) (λ d b. ap (λ (c : Bool). cond c (y d) 0) (ne_eqb (at d) k (away d b)))

eqb-alike : (a b c d : ℕ) → (a ≡ b → c ≡ d) → (c ≡ d → a ≡ b) → eqb a b ≡ eqb c d
eqb-alike a b c d to back =
    elim (cases_eq a b) [
      | inl e ↦ eq-eqb a b e ∙ sym (eq-eqb c d (to e))
      | inr ne ↦ ne_eqb a b ne ∙ sym (ne_eqb c d (λ e. ne (back e)))
    ]

part-add : (m : ℕ) (at y z : ℕ → ℕ) (k : ℕ) → part_at m at (λ d. y d + z d) k ≡ part_at m at y k + part_at m at z k
part-add m at y z k =
    sum_below-same m (λ d. cond (eqb (at d) k) (y d + z d) 0) (λ d. cond (eqb (at d) k) (y d) 0 + cond (eqb (at d) k) (z d) 0) (λ d b. cond_add (eqb (at d) k) (y d) (z d))
    ∙ sum_below-add m (λ d. cond (eqb (at d) k) (y d) 0) (λ d. cond (eqb (at d) k) (z d) 0)
  where
    cond_add : (c : Bool) (y z : ℕ) → cond c (y + z) 0 ≡ cond c y 0 + cond c z 0
    cond_add true y z = refl
    cond_add false y z = refl

part-same : (m : ℕ) (at y z : ℕ → ℕ) (k : ℕ) → ((d : ℕ) → d < m → y d ≡ z d) → part_at m at y k ≡ part_at m at z k
part-same m at y z k same =
    sum_below-same m (λ d. cond (eqb (at d) k) (y d) 0) (λ d. cond (eqb (at d) k) (z d) 0) (λ d b. ap (λ (w : ℕ). cond (eqb (at d) k) w 0) (same d b))

-- what leaves a node, and what enters it, by corners and by crossings
outflow-parts : {given : GivenModel} (p : PlaneModel) (net : NetworkModel) (x : ℕ → ℕ) (k : ℕ) → IsKeepingNet p given net → outflow net x k ≡ part_at (darts p) (λ d. head p d - 1) x k + part_at (darts p) (λ d. vertices p + face_at p d) (λ d. x (darts p + d)) k
outflow-parts p net x k is =
    let n = darts p in
    ap (λ (m : ℕ). sum_below m (λ i. cond (eqb (arc_at net i).from k) (x i) 0)) is.arcs
    ∙ (sum_below-split n n (λ i. cond (eqb (arc_at net i).from k) (x i) 0)
    ∙ ap2_add
    (part-alike n (λ d. (arc_at net d).from) (λ d. head p d - 1) x k k (λ d b. ap (λ (arc : Arc). eqb arc.from k) (is.corner d b)))
    (part-alike n (λ d. (arc_at net (n + d)).from) (λ d. vertices p + face_at p d) (λ d. x (n + d)) k k (λ d b. ap (λ (arc : Arc). eqb arc.from k) (is.crossing d b))))
  where
    ap2_add : {a b c d : ℕ} → a ≡ b → c ≡ d → a + c ≡ b + d
    ap2_add e h = omega (arith, e, h)

inflow-parts : {given : GivenModel} (p : PlaneModel) (net : NetworkModel) (x : ℕ → ℕ) (k : ℕ) → IsKeepingNet p given net → inflow net x k ≡ part_at (darts p) (λ d. vertices p + face_at p d) x k + part_at (darts p) (λ d. vertices p + face_at p (reverse_dart p d)) (λ d. x (darts p + d)) k
inflow-parts p net x k is =
    let n = darts p in
    ap (λ (m : ℕ). sum_below m (λ i. cond (eqb (arc_at net i).to k) (x i) 0)) is.arcs
    ∙ (sum_below-split n n (λ i. cond (eqb (arc_at net i).to k) (x i) 0)
    ∙ ap2_add
    (part-alike n (λ d. (arc_at net d).to) (λ d. vertices p + face_at p d) x k k (λ d b. ap (λ (arc : Arc). eqb arc.to k) (is.corner d b)))
    (part-alike n (λ d. (arc_at net (n + d)).to) (λ d. vertices p + face_at p (reverse_dart p d)) (λ d. x (n + d)) k k (λ d b. ap (λ (arc : Arc). eqb arc.to k) (is.crossing d b))))
  where
    ap2_add : {a b c d : ℕ} → a ≡ b → c ≡ d → a + c ≡ b + d
    ap2_add e h = omega (arith, e, h)

-- each arc carries no more than its capacity
abbrev pub KeepsCaps : NetworkModel → (ℕ → ℕ) → Type 0
KeepsCaps net x = (i : ℕ) → i < arc_count net → IsWithinCap (arc_at net i).cap (x i)

pub corner_within : {given : GivenModel} (p : PlaneModel) (net : NetworkModel) (x : ℕ → ℕ) → IsKeepingNet p given net → KeepsCaps net x → (d : ℕ) → d < darts p → IsWithinCap (corner_cap (angle_given given d)) (x d)
corner_within p net x is within d b = subst (λ (arc : Arc). IsWithinCap arc.cap (x d)) (is.corner d b) (within d (omega (arith, is.arcs)))

pub crossing_within : {given : GivenModel} (p : PlaneModel) (net : NetworkModel) (x : ℕ → ℕ) → IsKeepingNet p given net → KeepsCaps net x → (d : ℕ) → d < darts p → IsWithinCap (crossing_cap (turns_given p given d)) (x (darts p + d))
crossing_within p net x is within d b = subst (λ (arc : Arc). IsWithinCap arc.cap (x (darts p + d))) (is.crossing d b) (within (darts p + d) (omega (arith, is.arcs)))

-- an angle is one right angle, what its corner arc carries and what is given beyond
pub angle_is : {given : GivenModel} (p : PlaneModel) (net : NetworkModel) (x : ℕ → ℕ) → AnglesCan p given → IsKeepingNet p given net → KeepsCaps net x → (d : ℕ) → d < darts p → angles_of given x d ≡ x d + 1 + beyond_first (angle_given given d)
angle_is {given} p net x can is within d b = angle_units (angle_given given d) (x d) (can d b) (corner_within p net x is within d b)

-- turns are what crossing arcs carry and what is given
pub left_is : {given : GivenModel} (p : PlaneModel) (net : NetworkModel) (x : ℕ → ℕ) → IsKeepingNet p given net → KeepsCaps net x → (d : ℕ) → d < darts p → lefts (strings_of p given x d) ≡ x (darts p + d) + left_part (turns_given p given d)
left_is {given} p net x is within d b = left_units (turns_given p given d) (x (darts p + d)) (x (darts p + reverse_dart p d)) (crossing_within p net x is within d b)

pub right_is : {given : GivenModel} (p : PlaneModel) (net : NetworkModel) (x : ℕ → ℕ) → HasEnds p → IsKeepingNet p given net → KeepsCaps net x → (d : ℕ) → d < darts p → rights (strings_of p given x d) ≡ x (darts p + reverse_dart p d) + right_part (turns_given p given d)
right_is {given} p net x ends is within d b =
    let r = reverse_dart p d in
    right_units (turns_given p given d) (x (darts p + d)) (x (darts p + r))
    (subst (λ (g : Option ℤ). IsWithinCap (crossing_cap g) (x (darts p + r))) (turns_back p given d ends b) (crossing_within p net x is within r (ends.reverse_dart_in_range d b)))

-- at a vertex: its corners carry what the angles have beyond 1, but for what is given
pub vertex_balance : {given : GivenModel} (p : PlaneModel) (net : NetworkModel) (x : ℕ → ℕ) (v : ℕ) → HasEnds p → AnglesCan p given → IsKeepingNet p given net → KeepsCaps net x → 1 ≤ v → v ≤ vertices p →
    pos (angles_around p (angles_of given x) v) ≡ net_outflow net x (v - 1) +ℤ pos (vertex_degree p v) +ℤ pos (beyond_at_vertex p given v)
vertex_balance {given} p net x v ends can is within from to =
    let n = darts p in
    let k = v - 1 in
    let beyond : ℕ → ℕ = λ d. beyond_first (angle_given given d) in
    let corners : part_at n (λ d. head p d - 1) x k ≡ part_at n (head p) x v =
    part-alike n (λ d. head p d - 1) (head p) x k v (λ d b. eqb-alike (head p d - 1) k (head p d) v (λ e. omega (arith, ends.head_from d b)) (λ e. omega arith)) in
    let out : part_at n (λ d. vertices p + face_at p d) (λ d. x (n + d)) k ≡ 0 = part-none n (λ d. vertices p + face_at p d) (λ d. x (n + d)) k (λ d b e. omega arith) in
    let in_corner : part_at n (λ d. vertices p + face_at p d) x k ≡ 0 = part-none n (λ d. vertices p + face_at p d) x k (λ d b e. omega arith) in
    let in_crossing : part_at n (λ d. vertices p + face_at p (reverse_dart p d)) (λ d. x (n + d)) k ≡ 0 = part-none n (λ d. vertices p + face_at p (reverse_dart p d)) (λ d. x (n + d)) k (λ d b e. omega arith) in
    let angles : angles_around p (angles_of given x) v ≡ part_at n (head p) x v + vertex_degree p v + beyond_at_vertex p given v =
    omega (
      arith,
      part-same n (head p) (angles_of given x) (λ d. x d + 1 + beyond d) v (angle_is p net x can is within),
      part-add n (head p) (λ d. x d + 1) beyond v,
      part-add n (head p) x (λ d. 1) v,
    ) in
    omega (arith, ints, corners, out, in_corner, in_crossing, angles, outflow-parts p net x k is, inflow-parts p net x k is)

around_vertex : {given : GivenModel} (p : PlaneModel) (net : NetworkModel) (x : ℕ → ℕ) (v : ℕ) → HasEnds p → CanBeGiven given.angles given.turns → IsKeepingNet p given net → Flow net x → 1 ≤ v → v ≤ vertices p → angles_around p (angles_of given x) v ≡ 4
around_vertex {given} p net x v ends can is flow from to =
    let meets : net_outflow net x (v - 1) ≡ vertex_has_to_turn p given v = flow.meets (v - 1) (omega (arith, is.nodes)) ∙ is.at_vertex v from to in
    left (net_outflow net x (v - 1)) (angles_around p (angles_of given x) v) (vertex_degree p v) (beyond_at_vertex p given v) (vertex_balance p net x v ends (λ d _. angle_can given can d) is flow.within from to) meets
  where
    left : (out : ℤ) (angles degree more : ℕ) → pos angles ≡ out +ℤ pos degree +ℤ pos more → out ≡ pos 4 -ℤ pos degree -ℤ pos more → angles ≡ 4
    left out angles degree more balance meets = omega (arith, ints)

-- at a face: its turning is what its corners and crossings carry, and what is given
pub face_balance : {given : GivenModel} (p : PlaneModel) (net : NetworkModel) (x : ℕ → ℕ) (f : ℕ) → HasEnds p → AnglesCan p given → IsKeepingNet p given net → KeepsCaps net x → f < p.faces →
    turning_around p (angles_of given x) (strings_of p given x) f ≡ net_outflow net x (vertices p + f) +ℤ pos (degree p f) -ℤ pos (beyond_in_face p given f) +ℤ lefts_in_face p given f
face_balance {given} p net x f ends can is within below =
    let n = darts p in
    let k = vertices p + f in
    let face = face_at p in
    let a = angles_of given x in
    let s = strings_of p given x in
    let left : ℕ → ℕ = λ d. x (n + d) in
    let right : ℕ → ℕ = λ d. x (n + reverse_dart p d) in
    let beyond : ℕ → ℕ = λ d. beyond_first (angle_given given d) in
    let lefts_there : ℕ → ℕ = λ d. left_part (turns_given p given d) in
    let rights_there : ℕ → ℕ = λ d. right_part (turns_given p given d) in
    let shifted : (y at : ℕ → ℕ) → part_at n (λ d. vertices p + at d) y k ≡ part_at n at y f =
    λ y at. part-alike n (λ d. vertices p + at d) at y k f (λ d b. eqb-alike (vertices p + at d) k (at d) f (λ e. omega arith) (λ e. omega arith)) in
    let out_corner : part_at n (λ d. head p d - 1) x k ≡ 0 = part-none n (λ d. head p d - 1) x k (λ d b e. omega (arith, ends.head_from d b, ends.head_to d b)) in
    let back : part_at n (λ d. face (reverse_dart p d)) left f ≡ part_at n face right f =
    sum_below-same n (λ d. cond (eqb (face (reverse_dart p d)) f) (left d) 0) (λ d. cond (eqb (face (reverse_dart p d)) f) (right (reverse_dart p d)) 0)
    (λ d b. ap (λ (e : ℕ). cond (eqb (face (reverse_dart p d)) f) (x (n + e)) 0) (sym (ends.reverse_dart_back d b)))
    ∙ sum_below-turned n (reverse_dart p) (λ d. cond (eqb (face d) f) (right d) 0) ends.reverse_dart_in_range ends.reverse_dart_back in
    let left_sum : left_sums p a s f ≡ part_at n face (λ d. 1) f + part_at n face (λ d. 1) f + part_at n face left f + lefts_of_face p given f =
    omega (
      arith,
      part-same n face (λ d. 2 + lefts (s d)) (λ d. 1 + 1 + left d + lefts_there d) f (λ d b. omega (arith, left_is p net x is within d b)),
      part-add n face (λ d. 1) (λ d. 1) f,
      part-add n face (λ d. 1 + 1) left f,
      part-add n face (λ d. 1 + 1 + left d) lefts_there f,
    ) in
    let right_sum : right_sums p a s f ≡ part_at n face x f + part_at n face (λ d. 1) f + beyond_in_face p given f + part_at n face right f + rights_of_face p given f =
    omega (
      arith,
      part-same n face (λ d. a d + rights (s d)) (λ d. x d + 1 + beyond d + right d + rights_there d) f (λ d b. omega (arith, angle_is p net x can is within d b, right_is p net x ends is within d b)),
      part-add n face x (λ d. 1) f,
      part-add n face (λ d. x d + 1) beyond f,
      part-add n face (λ d. x d + 1 + beyond d) right f,
      part-add n face (λ d. x d + 1 + beyond d + right d) rights_there f,
    ) in
    turning-split p a s f
    ∙ omega (
      arith,
      ints,
      shifted left face,
      shifted x face,
      shifted left (λ d. face (reverse_dart p d)),
      out_corner,
      back,
      left_sum,
      right_sum,
      face_parts p given f,
      outflow-parts p net x k is,
      inflow-parts p net x k is,
    )

around_face : {given : GivenModel} (p : PlaneModel) (net : NetworkModel) (x : ℕ → ℕ) (f : ℕ) → HasEnds p → CanBeGiven given.angles given.turns → IsKeepingNet p given net → Flow net x → f < p.faces → turning_around p (angles_of given x) (strings_of p given x) f ≡ whole_turn p f
around_face {given} p net x f ends can is flow below =
    let meets : net_outflow net x (vertices p + f) ≡ face_has_to_turn p given f = flow.meets (vertices p + f) (omega (arith, is.nodes)) ∙ is.at_face f below in
    face_balance p net x f ends (λ d _. angle_can given can d) is flow.within below ∙ back (net_outflow net x (vertices p + f)) (whole_turn p f) (lefts_in_face p given f) (degree p f) (beyond_in_face p given f) meets
  where
    back : (out turn turns : ℤ) (k more : ℕ) → out ≡ turn -ℤ pos k +ℤ pos more -ℤ turns → out +ℤ pos k -ℤ pos more +ℤ turns ≡ turn
    back out turn turns k more e = omega (arith, ints)

-- a flow is a representation
pub rep_of_flow : {given : GivenModel} (p : PlaneModel) (net : NetworkModel) (x : ℕ → ℕ) → HasEnds p → CanBeGiven given.angles given.turns → IsKeepingNet p given net → Flow net x → Rep p (angles_of given x) (strings_of p given x)
rep_of_flow {given} p net x ends can is flow = record {
  angles = λ d b. angle_within (angle_given given d) (x d) (angle_can given can d) (corner_within p net x is flow.within d b);
  strings = λ d b. mirror d b;
  around = λ v from to. around_vertex p net x v ends can is flow from to;
  faces = λ f b. around_face p net x f ends can is flow b;
}
  where
    mirror : (d : ℕ) → d < darts p → strings_of p given x (reverse_dart p d) ≡ mirrored (strings_of p given x d)
    mirror d b =
        let r = reverse_dart p d in
        ap (λ (g : Option ℤ). turns_or g (x (darts p + r)) (x (darts p + reverse_dart p r))) (turns_back p given d ends b)
        ∙ ap (λ (e : ℕ). turns_or (walked_back (turns_given p given d)) (x (darts p + r)) (x (darts p + e))) (ends.reverse_dart_back d b)
        ∙ mirrored-turns_or (turns_given p given d) (x (darts p + d)) (x (darts p + r))

-- that keeps what is given
pub keeps_of_flow : (p : PlaneModel) (given : GivenModel) (x : ℕ → ℕ) → Keeps p given (angles_of given x) (strings_of p given x)
keeps_of_flow p given x = record {
  angles = λ d b k is. ap (λ (g : Option ℕ). angle_or g (x d)) is;
  turns = λ d b t is. ap (λ (g : Option ℤ). turns_or g (x (darts p + d)) (x (darts p + reverse_dart p d))) is;
}

-- the potentials fit an arc that carries an amount
abbrev fits : Arc → (ℕ → ℤ) → ℕ → Type 0
fits arc q amount =
    (IsUnsaturated arc.cap amount → pos 0 ≤ℤ (pos arc.cost +ℤ q arc.from -ℤ q arc.to))
    × (0 < amount → pos 0 ≤ℤ ((pos 0 -ℤ pos arc.cost) +ℤ q arc.to -ℤ q arc.from))

fits_at : (net : NetworkModel) (x : ℕ → ℕ) (q : ℕ → ℤ) → HasPotentials net x q → (i : ℕ) → i < arc_count net → fits (arc_at net i) q (x i)
fits_at net x q fit i c = (λ h. fit.residual i false c h, λ h. fit.residual i true c h)

-- an angle's prices, by the arc of its corner
angle_priced : (g : Option ℕ) (y : ℕ) (vertex face : ℤ) →
    (IsUnsaturated (corner_cap g) y → pos 0 ≤ℤ (pos 0 +ℤ vertex -ℤ face)) → (0 < y → pos 0 ≤ℤ ((pos 0 -ℤ pos 0) +ℤ face -ℤ vertex)) →
    IsAngleKept g (angle_or g y) vertex face
angle_priced None y vertex face narrow wide = record {
  wider = λ h. omega (arith, ints, narrow (omega arith));
  narrower = λ h. omega (arith, ints, wide (omega arith));
}
angle_priced (Some k) y vertex face narrow wide = refl

-- and turns' prices, by the arc of their crossing
turns_priced : (g : Option ℤ) (l r : ℕ) (face across : ℤ) →
    (IsUnsaturated (crossing_cap g) l → pos 0 ≤ℤ (pos 1 +ℤ face -ℤ across)) → (0 < l → pos 0 ≤ℤ ((pos 0 -ℤ pos 1) +ℤ across -ℤ face)) →
    AreTurnsKept g (turns_or g l r) face across
turns_priced None l r face across cross back = record {
  crossed = cross tt;
  tight = λ h. omega (arith, ints, cross tt, back (omega (arith, lefts-lefts_then_rights l r)));
}
turns_priced (Some t) l r face across cross back = refl

-- potentials are prices that prove it
pub prove_of_potentials : {given : GivenModel} (p : PlaneModel) (net : NetworkModel) (x : ℕ → ℕ) (q : ℕ → ℤ) → IsKeepingNet p given net → HasPotentials net x q → ProveKeeping p given (angles_of given x) (strings_of p given x) (λ v. q (v - 1)) (λ f. q (vertices p + f))
prove_of_potentials {given} p net x q is fit = λ d b.
    let corner = subst (λ (arc : Arc). fits arc q (x d)) (is.corner d b) (fits_at net x q fit d (omega (arith, is.arcs))) in
    let crossing = subst (λ (arc : Arc). fits arc q (x (darts p + d))) (is.crossing d b) (fits_at net x q fit (darts p + d) (omega (arith, is.arcs))) in
    record {
      angle = angle_priced (angle_given given d) (x d) (q (head p d - 1)) (q (vertices p + face_at p d)) corner.0 corner.1;
      turns = turns_priced (turns_given p given d) (x (darts p + d)) (x (darts p + reverse_dart p d)) (q (vertices p + face_at p d)) (q (vertices p + face_at p (reverse_dart p d))) crossing.0 crossing.1;
    }

-- a least-cost flow crosses no edge both ways: each crossing that is used gains what the bend costs
pub one_sided_of_flow : {given : GivenModel} (p : PlaneModel) (net : NetworkModel) (x : ℕ → ℕ) (q : ℕ → ℤ) → HasEnds p → IsKeepingNet p given net → HasPotentials net x q → (d : ℕ) → d < darts p → 0 < x (darts p + d) → x (darts p + reverse_dart p d) ≡ 0
one_sided_of_flow p net x q ends is fit d b left =
    let r = reverse_dart p d in
    let tight : (e : ℕ) → e < darts p → 0 < x (darts p + e) → pos 0 ≤ℤ ((pos 0 -ℤ pos 1) +ℤ q (vertices p + face_at p (reverse_dart p e)) -ℤ q (vertices p + face_at p e)) =
    λ e c. (subst (λ (arc : Arc). fits arc q (x (darts p + e))) (is.crossing e c) (fits_at net x q fit (darts p + e) (omega (arith, is.arcs)))).1 in
    elim (cases_eq (x (darts p + r)) 0) [
      | inl none ↦ none
      | inr some ↦ absurd (omega (
        arith,
        ints,
        tight d b left,
        tight r (ends.reverse_dart_in_range d b) (omega arith),
        ap (λ (e : ℕ). q (vertices p + face_at p e)) (ends.reverse_dart_back d b),
      ))
    ]

-- the strings of a least-cost flow are short
pub short_of_flow : {given : GivenModel} (p : PlaneModel) (net : NetworkModel) (x : ℕ → ℕ) (q : ℕ → ℤ) → HasEnds p → vertices p ≤ MAX_VERTICES → CanBeGiven given.angles given.turns → IsKeepingNet p given net → Flow net x → HasPotentials net x q → (d : ℕ) → d < darts p → turns_given p given d ≡ None → x (darts p + d) + x (darts p + reverse_dart p d) ≤ MAX_REPEATS
short_of_flow {given} p net x q ends order can is flow fit d b free =
    let l : ℕ = x (darts p + d) in
    let r : ℕ = x (darts p + reverse_dart p d) in
    let string : strings_of p given x d ≡ lefts_then_rights l r = ap (λ (g : Option ℤ). turns_or g l r) free in
    let one : (lefts (strings_of p given x d) ≡ 0) ⊎ (rights (strings_of p given x d) ≡ 0) =
    elim (cases_eq l 0) [
      | inl none ↦ inl (ap lefts string ∙ lefts-lefts_then_rights l r ∙ none)
      | inr some ↦ inr (ap rights string ∙ rights-lefts_then_rights l r ∙ one_sided_of_flow p net x q ends is fit d b (omega arith))
    ] in
    omega (
      arith,
      short_one_way p given (angles_of given x) (strings_of p given x) (λ v. q (v - 1)) (λ f. q (vertices p + f)) ends order can (rep_of_flow p net x ends can is flow) (prove_of_potentials p net x q is fit) d b one,
      ap length string,
      length-lefts_then_rights l r,
    )

-- angles, strings and prices of a least-cost flow
pub record IsOfFlow (p : PlaneModel) (given : GivenModel) (x : ℕ → ℕ) (q : ℕ → ℤ) (shape : ShapeModel) (t : PricesModel) : Type 0 where
  pub angle_count : length shape.angles ≡ darts p
  pub string_count : length shape.strings ≡ darts p
  pub vertex_count : length t.vertices ≡ vertices p
  pub face_count : length t.faces ≡ p.faces
  pub angle : (d : ℕ) → d < darts p → angle_at shape d ≡ angles_of given x d
  pub string : (d : ℕ) → d < darts p → turns_at shape d ≡ strings_of p given x d
  pub vertex : (k : ℕ) → k < vertices p → slice_index_or t.vertices k (pos 0) ≡ q k
  pub face : (f : ℕ) → f < p.faces → face_price t f ≡ q (vertices p + f)

-- are a representation that is least among those that keep what is given, and prices that prove it
pub shape_of_flow : {given : GivenModel} (p : PlaneModel) (net : NetworkModel) (x : ℕ → ℕ) (q : ℕ → ℤ) (shape : ShapeModel) (t : PricesModel) → HasEnds p → CanBeGiven given.angles given.turns → IsKeepingNet p given net → Flow net x → IsOfFlow p given x q shape t → IsShape p shape
shape_of_flow {given} p net x q shape t ends can is flow found = record {
  lengths = record { angles = found.angle_count; strings = found.string_count };
  rep = rep-alike p (angles_of given x) (angle_at shape) (strings_of p given x) (turns_at shape) ends found.angle found.string (rep_of_flow p net x ends can is flow);
}

pub proof_of_flow : {given : GivenModel} (p : PlaneModel) (net : NetworkModel) (x : ℕ → ℕ) (q : ℕ → ℤ) (shape : ShapeModel) (t : PricesModel) → HasEnds p → IsKeepingNet p given net → HasPotentials net x q → IsOfFlow p given x q shape t → IsProofKeeping p given shape t
proof_of_flow {given} p net x q shape t ends is fit found = record {
  lengths = record { angles = found.angle_count; strings = found.string_count };
  prices = record { vertices = found.vertex_count; faces = found.face_count };
  prove = prove_keeping-alike p given (angles_of given x) (angle_at shape) (strings_of p given x) (turns_at shape) (λ v. q (v - 1)) (vertex_price t) (λ f. q (vertices p + f)) (face_price t) ends found.angle found.string (λ v from to. found.vertex (v - 1) (omega arith)) found.face (prove_of_potentials p net x q is fit);
}

pub least_of_flow : {given : GivenModel} (p : PlaneModel) (net : NetworkModel) (x : ℕ → ℕ) (q : ℕ → ℤ) (shape : ShapeModel) (t : PricesModel) → HasEnds p → CanBeGiven given.angles given.turns → IsKeepingNet p given net → Flow net x → HasPotentials net x q → IsOfFlow p given x q shape t → IsLeastKeeping p given shape
least_of_flow {given} p net x q shape t ends can is flow fit found =
    least_keeping_by_prices p given (angle_at shape) (turns_at shape) (vertex_price t) (face_price t) ends (shape_of_flow p net x q shape t ends can is flow found).rep (proof_of_flow p net x q shape t ends is fit found).prove
