-- The best of the faces that were tried.
use Rattle.std.proofs.Common.{◌≡◌, ◌≤◌, ◌<◌, ◌+◌, ◌-◌, ◌*◌, ℕ, ◌⊎◌, inl, inr, List, length, get_or, set, replicate, sym, ap, ◌∙◌, subst, below_more, arith}
use Rattle.std.proofs.lemmas.Bool.{cases_eq}
use Rattle.std.proofs.lemmas.List.{get_or-replicate, get_or-set_same, get_or-set_other}
use Rattle.std.specs.Prelude.{ℤ, pos, ◌+ℤ◌, ◌-ℤ◌, ◌*ℤ◌}
use borrow.Author.Differences.{up, down}
use Rattle.std.proofs.lemmas.Int.{ints}
use Rattle.common.specs.Sums.{sum_below}
use Rattle.common.proofs.Sums.{sum_below-same, sum_below-none, sum_below-split}
use Rattle.faces.specs.Planes.{PlaneModel, IsPlane, HasEnds, darts, vertices, with_outer}
use Rattle.min_cost_flow.specs.declared.network.Arc.{Arc}
use Rattle.min_cost_flow.specs.Networks.{NetworkModel, arc_at}
use Rattle.min_cost_flow.specs.Flow.{Flow, at_nodes, cost_of}
use Rattle.min_cost_flow.specs.SolverState.{IsShown}
use Rattle.flow_network.specs.FaceNet.{IsFaceNet}
use Rattle.flow_network.specs.Given.{nothing_given}
use Rattle.flow_network.proofs.GivenParts.{left_part, none_along}
use Rattle.ortho_rep.specs.declared.best.Incumbent.{Incumbent}
use Rattle.ortho_rep.specs.Representation.{bends_of}
use Rattle.ortho_rep.specs.OfFlow.{angles_of, strings_of}
use Rattle.ortho_rep.specs.Best.{HasRep, NeedsBends, IsBest}
use Rattle.ortho_rep.specs.Tries.{IsIncumbent, IsNoWorse, IsNoBetter, AreBounds}
use Rattle.ortho_rep.proofs.WeakDuality.{lefts_of, lengths-twice, least_by_prices, more_by_prices, all_keep}
use Rattle.ortho_rep.proofs.GivenFlow.{nothing_can}
use Rattle.ortho_rep.proofs.FromFlow.{left_is, rep_of_flow, prove_of_potentials}

-- a face that is no better than one is no better than a better one
pub no_better_still : (p : PlaneModel) (bends face lower other f : ℕ) → lower ≤ bends → (lower ≡ bends → other ≤ face) → IsNoBetter p bends face f → IsNoBetter p lower other f
no_better_still p bends face lower other f fewer first h = record {
  fewest = λ a s rep. omega (arith, h.fewest a s rep, fewer);
  first = λ (a, s, rep, is).
      let same : lower ≡ bends = omega (arith, h.fewest a s rep, fewer, is) in
      let before : other ≤ face = first same in
      omega (arith, before, h.first (a, s, rep, is ∙ same));
}

-- a face with which more bends are needed, or as many and its number is no lesser one, is no better
pub no_better : (p : PlaneModel) (bends face bound f : ℕ) → NeedsBends (with_outer p f) bound → bends ≤ bound → (bound ≡ bends → face ≤ f) → IsNoBetter p bends face f
no_better p bends face bound f needs more first = record {
  fewest = λ a s rep. omega (arith, needs a s rep, more);
  first = λ (a, s, rep, is). first (omega (arith, needs a s rep, more, is));
}

-- a plane with another outer face has the same ends
pub ends_turned : (p : PlaneModel) (outer : ℕ) → HasEnds p → HasEnds (with_outer p outer)
ends_turned p outer ends = record {
  some_darts = ends.some_darts;
  few_darts = ends.few_darts;
  few_faces = ends.few_faces;
  tail_from = ends.tail_from;
  tail_to = ends.tail_to;
  head_from = ends.head_from;
  head_to = ends.head_to;
  reverse_dart_in_range = ends.reverse_dart_in_range;
  reverse_dart_back = ends.reverse_dart_back;
  reverse_dart_apart = ends.reverse_dart_apart;
  reverse_dart_tail = ends.reverse_dart_tail;
  reverse_dart_head = ends.reverse_dart_head;
  after_in_range = ends.after_in_range;
  after_tail = ends.after_tail;
  next_one = ends.next_one;
  next_tail = ends.next_tail;
  face_named = ends.face_named;
}

-- the plane with the best face outside
pub best_of : (p : PlaneModel) (incumbent : Incumbent) → IsIncumbent p incumbent → ((f : ℕ) → f < p.faces → IsNoBetter p incumbent.bends incumbent.face f) → IsBest (with_outer p incumbent.face)
best_of p incumbent is all = record {
  bends = incumbent.bends;
  some = is.some;
  fewest = λ f b. (all f b).fewest;
  first = λ f b. (all f b).first;
}

-- a plane whose outer face was set twice is the plane where it was set once
pub moved_again : (p q r : PlaneModel) (outer face : ℕ) → q ≡ with_outer p outer → r ≡ with_outer q face → r ≡ with_outer p face
moved_again p q r outer face first second = second ∙ ap (λ (m : PlaneModel). with_outer m face) first

-- what is known of faces of the plane with another outer face is known of the plane, and the other way
pub incumbent_moved : (p q : PlaneModel) (outer : ℕ) (incumbent : Incumbent) → q ≡ with_outer p outer → IsIncumbent q incumbent → IsIncumbent p incumbent
incumbent_moved p q outer incumbent outer_moved is =
    let was = subst (λ (m : PlaneModel). IsIncumbent m incumbent) outer_moved is in
    record { named = was.named; some = was.some; needs = was.needs }

pub incumbent_moving : (p q : PlaneModel) (outer : ℕ) (incumbent : Incumbent) → q ≡ with_outer p outer → IsIncumbent p incumbent → IsIncumbent q incumbent
incumbent_moving p q outer incumbent outer_moved is =
    let will : IsIncumbent (with_outer p outer) incumbent = record { named = is.named; some = is.some; needs = is.needs } in
    subst (λ (m : PlaneModel). IsIncumbent m incumbent) (sym outer_moved) will

pub tried_moved : (p q : PlaneModel) (outer bends face f : ℕ) → q ≡ with_outer p outer → IsNoBetter q bends face f → IsNoBetter p bends face f
tried_moved p q outer bends face f outer_moved is =
    let was = subst (λ (m : PlaneModel). IsNoBetter m bends face f) outer_moved is in
    record { fewest = was.fewest; first = was.first }

pub tried_moving : (p q : PlaneModel) (outer bends face f : ℕ) → q ≡ with_outer p outer → IsNoBetter p bends face f → IsNoBetter q bends face f
tried_moving p q outer bends face f outer_moved is =
    let will : IsNoBetter (with_outer p outer) bends face f = record { fewest = is.fewest; first = is.first } in
    subst (λ (m : PlaneModel). IsNoBetter m bends face f) (sym outer_moved) will

-- faces that were tried before, and one that is tried now
pub tried_next : (p : PlaneModel) (incumbent other : Incumbent) (face : ℕ) → IsNoWorse incumbent other → ((f : ℕ) → f < face → IsNoBetter p other.bends other.face f) → IsNoBetter p incumbent.bends incumbent.face face → (f : ℕ) → f < face + 1 → IsNoBetter p incumbent.bends incumbent.face f
tried_next p incumbent other face no_worse all here =
    below_more _ _ (λ f b. no_better_still p other.bends other.face incumbent.bends incumbent.face f no_worse.fewer no_worse.first (all f b)) here

-- the bends of a flow are what it costs
pub bends_are_cost : (p : PlaneModel) (net : NetworkModel) (x : ℕ → ℕ) → HasEnds p → IsFaceNet p net → Flow net x → bends_of (darts p) (strings_of p nothing_given x) ≡ cost_of net x
bends_are_cost p net x ends is flow =
    let n = darts p in
    let left : ℕ → ℕ = λ d. x (n + d) in
    let twice = lengths-twice p (angles_of nothing_given x) (strings_of p nothing_given x) ends (rep_of_flow p net x ends nothing_can is flow) in
    let lefts_are : sum_below n (lefts_of (strings_of p nothing_given x)) ≡ sum_below n left =
    sum_below-same n (lefts_of (strings_of p nothing_given x)) left (λ d b. omega (arith, left_is p net x is flow.within d b, ap left_part (none_along p d))) in
    let split : cost_of net x ≡ sum_below n (λ d. (arc_at net d).cost * x d) + sum_below n (λ d. (arc_at net (n + d)).cost * x (n + d)) =
    ap (λ (m : ℕ). sum_below m (λ i. (arc_at net i).cost * x i)) is.arcs ∙ sum_below-split n n (λ i. (arc_at net i).cost * x i) in
    let none : sum_below n (λ d. (arc_at net d).cost * x d) ≡ 0 =
    sum_below-none n (λ d. (arc_at net d).cost * x d) (λ d b. ap (λ (arc : Arc). arc.cost * x d) (is.corner d b) ∙ nothing (x d)) in
    let all : sum_below n (λ d. (arc_at net (n + d)).cost * x (n + d)) ≡ sum_below n left =
    sum_below-same n (λ d. (arc_at net (n + d)).cost * x (n + d)) left (λ d b. ap (λ (arc : Arc). arc.cost * x (n + d)) (is.crossing d b) ∙ once (x (n + d))) in
    omega (arith, twice, lefts_are, split, none, all)
  where
    nothing : (k : ℕ) → 0 * k ≡ 0
    nothing k = omega arith

    once : (k : ℕ) → 1 * k ≡ k
    once k = omega arith

-- what a flow of least cost shows of the plane's outer face
pub rep_of_cost : (p : PlaneModel) (net : NetworkModel) (bends : ℕ) (ps : List ℤ) → HasEnds p → IsFaceNet p net → IsShown net bends ps → HasRep p bends
rep_of_cost p net bends ps ends is shown =
    (angles_of nothing_given shown.amounts, strings_of p nothing_given shown.amounts, rep_of_flow p net shown.amounts ends nothing_can is shown.flow, bends_are_cost p net shown.amounts ends is shown.flow ∙ shown.costs)

pub needs_cost : (p : PlaneModel) (net : NetworkModel) (bends : ℕ) (ps : List ℤ) → HasEnds p → IsFaceNet p net → IsShown net bends ps → NeedsBends p bends
needs_cost p net bends ps ends is shown = λ a s rep.
    let x = shown.amounts in
    let own = rep_of_flow p net x ends nothing_can is shown.flow in
    let least = least_by_prices p (angles_of nothing_given x) (strings_of p nothing_given x) (λ v. at_nodes ps (v - 1)) (λ f. at_nodes ps (vertices p + f)) ends own (prove_of_potentials p net x (at_nodes ps) is shown.potentials) in
    omega (arith, least.least a s rep, bends_are_cost p net x ends is shown.flow, shown.costs)

-- and its potentials prove a bound for each face
pub bound_of_potentials : (p : PlaneModel) (net : NetworkModel) (bends : ℕ) (ps : List ℤ) (face bound : ℕ) (own other : ℤ) → HasEnds p → p.outer < p.faces → face < p.faces → IsFaceNet p net → IsShown net bends ps → own ≡ at_nodes ps (vertices p + p.outer) → other ≡ at_nodes ps (vertices p + face) → (bound ≡ 0) ⊎ (pos bound ≡ pos bends +ℤ pos 8 *ℤ (other -ℤ own)) → NeedsBends (with_outer p face) bound
bound_of_potentials p net bends ps face bound own other ends outer inside is shown of_own of_other (inl none) = λ a s rep. omega arith
bound_of_potentials p net bends ps face bound own other ends outer inside is shown of_own of_other (inr sum) = λ a s rep.
    let x = shown.amounts in
    let prove = prove_of_potentials p net x (at_nodes ps) is shown.potentials in
    let more = more_by_prices p nothing_given face (angles_of nothing_given x) a (strings_of p nothing_given x) s (λ v. at_nodes ps (v - 1)) (λ f. at_nodes ps (vertices p + f)) ends outer inside (rep_of_flow p net x ends nothing_can is shown.flow) prove rep (all_keep p a s) in
    let priced : bends_of (darts p) (strings_of p nothing_given x) + 8 * up other + 8 * down own ≤ bends_of (darts p) s + 8 * up own + 8 * down other = rw (of_own, of_other) more in
    omega (arith, ints, priced, sum, bends_are_cost p net x ends is shown.flow, shown.costs)

-- to begin with, no bends are needed
pub no_bounds : (p : PlaneModel) (n : ℕ) → p.faces ≤ n → AreBounds p (replicate n 0)
no_bounds p n few = record {
  each = λ f b a s rep. omega (arith, get_or-replicate {A = ℕ} n f 0 0 (omega arith));
}

-- a bound may rise to what is proved of its face
pub raised : (p : PlaneModel) (bounds : List ℕ) (place face bound : ℕ) → AreBounds p bounds → place < length bounds → place ≡ face → NeedsBends (with_outer p face) bound → AreBounds p (set bounds place bound)
raised p bounds place face bound are within here needs = record {
  each = λ f b.
      elim (cases_eq f place) [
        | inl e ↦
            let written : get_or (set bounds place bound) f 0 ≡ bound = ap (λ (z : ℕ). get_or (set bounds place bound) z 0) e ∙ get_or-set_same bounds place bound 0 within in
            subst (λ (n : ℕ). NeedsBends (with_outer p f) n) (sym written) (subst (λ (g : ℕ). NeedsBends (with_outer p g) bound) (sym here ∙ sym e) needs)
        | inr ne ↦ subst (λ (n : ℕ). NeedsBends (with_outer p f) n) (sym (get_or-set_other bounds place f bound 0 ne)) (are.each f b)
      ];
}

-- a plane with another outer face is one
pub plane_moved : (p : PlaneModel) (face : ℕ) → face < p.faces → IsPlane p → IsPlane (with_outer p face)
plane_moved p face inside plane = record {
  order = plane.order;
  rules = plane.rules;
  size = plane.size;
  faces = plane.faces;
  euler = plane.euler;
  outer = inside;
}
