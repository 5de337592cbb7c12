use Rattle.std.proofs.Common.{◌≡◌, ◌∙◌, ap, subst}
use Rattle.std.proofs.lemmas.Result.{err_from_is_err_and}
use Rattle.faces.specs.Planes.{PlaneModel, IsPlane}
use Rattle.ortho_rep.specs.Best.{IsChosen}
use Rattle.ortho_rep.specs.Prices.{IsProof}
use Rattle.ortho_rep.specs.Representation.{IsLeast, IsShape}
use Rattle.answers.specs.Steps.{IsEmbedded, IsTracedPlane}
use Rattle.answers.proofs.Held.{no_memory}
use Rattle.answers.proofs.shaping.shape.Goals as goal
use Rattle.answers.proofs.shaping.shape.Goals.{in-First+in_ok-least_shape_in-in-First, in-Best+in_ok-shape-in-Best, in-Quick, in-Short+in_ok-shape-in-Short}

-- where memory runs out no rule is broken

pub returns-in_err-least_shape_in-in-First-clause-shaped : goal.returns-in_err-least_shape_in-in-First-clause-shaped
returns-in_err-least_shape_in-in-First-clause-shaped c =
    let q = err_from_is_err_and c.from_residual-in_err-least_shape_in-in-First.result c.from_residual-in_err-least_shape_in-in-First.ensures.1 in
    rw q.1 (λ g made.
    let traced = subst (IsEmbedded g) c.in_ok-plane.was made in
    no_memory g c.in_ok-plane.plane q.0 q.2 traced.lists traced.rules)

pub returns-in_err-shape-in-Best-clause-shaped : goal.returns-in_err-shape-in-Best-clause-shaped
returns-in_err-shape-in-Best-clause-shaped c =
    let q = err_from_is_err_and c.from_residual-in_err-shape-in-Best.result c.from_residual-in_err-shape-in-Best.ensures.1 in
    rw q.1 (λ g made.
    let traced = subst (IsEmbedded g) c.in_ok-plane.was made in
    no_memory g c.in_ok-plane.plane q.0 q.2 traced.lists traced.rules)

pub returns-in_err-shape-in-Short-clause-shaped : goal.returns-in_err-shape-in-Short-clause-shaped
returns-in_err-shape-in-Short-clause-shaped c =
    let q = err_from_is_err_and c.from_residual-in_err-shape-in-Short.result c.from_residual-in_err-shape-in-Short.ensures.1 in
    rw q.1 (λ g made.
    let traced = subst (IsEmbedded g) c.in_ok-plane.was made in
    no_memory g c.in_ok-plane.plane q.0 q.2 traced.lists traced.rules)

pub returns-in_err-directions-clause-shaped : goal.returns-in_err-directions-clause-shaped
returns-in_err-directions-clause-shaped c =
    let q = err_from_is_err_and c.from_residual-in_err-directions.result c.from_residual-in_err-directions.ensures.1 in
    rw q.1 (λ g made.
    let traced = subst (IsEmbedded g) c.in_ok-plane.was made in
    no_memory g c.in_ok-plane.plane q.0 q.2 traced.lists traced.rules)

-- the shape that is found is a least one

pub straighten_in-requires-clause-shape : goal.straighten_in-requires-clause-shape
straighten_in-requires-clause-shape c = elim c.match-choice.branch [
  | in-First+in_ok-least_shape_in-in-First w ↦ rw (w.plane-is, w.shape-is) w.in_ok-least_shape_in-in-First.ensures.shape
  | in-Best+in_ok-shape-in-Best w ↦ rw (w.plane-is, w.shape-is) w.in_ok-shape-in-Best.ensures.shape
]

pub straighten_in-requires-clause-least : goal.straighten_in-requires-clause-least
straighten_in-requires-clause-least c = elim c.match-choice.branch [
  | in-First+in_ok-least_shape_in-in-First w ↦ rw (w.plane-is, w.shape-is) w.in_ok-least_shape_in-in-First.ensures.least
  | in-Best+in_ok-shape-in-Best w ↦ rw (w.plane-is, w.shape-is) w.in_ok-shape-in-Best.ensures.least
]

pub straighten_in-requires-clause-proof : goal.straighten_in-requires-clause-proof
straighten_in-requires-clause-proof c = elim c.match-choice.branch [
  | in-First+in_ok-least_shape_in-in-First w ↦ rw (w.plane-is, w.shape-is) w.in_ok-least_shape_in-in-First.ensures.proof
  | in-Best+in_ok-shape-in-Best w ↦ rw (w.plane-is, w.shape-is) w.in_ok-shape-in-Best.ensures.proof
]

-- so is the one that is drawn

pub directions_of-requires : goal.directions_of-requires
directions_of-requires c =
    let found : IsShape c.match-choice.plane c.match-choice.shape.0 = elim c.match-choice.branch [
      | in-First+in_ok-least_shape_in-in-First w ↦ rw (w.plane-is, w.shape-is) w.in_ok-least_shape_in-in-First.ensures.shape
      | in-Best+in_ok-shape-in-Best w ↦ rw (w.plane-is, w.shape-is) w.in_ok-shape-in-Best.ensures.shape
    ] in
    elim c.match-drawing_kind.branch [
      | in-Quick w ↦ rw w.shape-is found
      | in-Short+in_ok-shape-in-Short w ↦ rw w.shape-is w.in_ok-shape-in-Short.ensures.shape
    ]

pub invariant_of-result : goal.invariant_of-result
invariant_of-result c =
    let found : IsShape c.match-choice.plane c.match-choice.shape.0 = elim c.match-choice.branch [
      | in-First+in_ok-least_shape_in-in-First w ↦ rw (w.plane-is, w.shape-is) w.in_ok-least_shape_in-in-First.ensures.shape
      | in-Best+in_ok-shape-in-Best w ↦ rw (w.plane-is, w.shape-is) w.in_ok-shape-in-Best.ensures.shape
    ] in
    let drawn : IsShape c.match-choice.plane c.match-drawing_kind.shape = elim c.match-drawing_kind.branch [
      | in-Quick w ↦ rw w.shape-is found
      | in-Short+in_ok-shape-in-Short w ↦ rw w.shape-is w.in_ok-shape-in-Short.ensures.shape
    ] in
    record { shape_is = drawn; directed = c.in_ok-directions.ensures }

-- its prices prove it
pub returns-clause-least : goal.returns-clause-least
returns-clause-least c =
    let plane = c.match-choice.plane in
    let first = c.match-choice.shape in
    let shape = c.match-drawing_kind.shape in
    let least : IsLeast plane first.0 = elim c.match-choice.branch [
      | in-First+in_ok-least_shape_in-in-First w ↦ rw (w.plane-is, w.shape-is) w.in_ok-least_shape_in-in-First.ensures.least
      | in-Best+in_ok-shape-in-Best w ↦ rw (w.plane-is, w.shape-is) w.in_ok-shape-in-Best.ensures.least
    ] in
    let proof : IsProof plane first.0 first.1 = elim c.match-choice.branch [
      | in-First+in_ok-least_shape_in-in-First w ↦ rw (w.plane-is, w.shape-is) w.in_ok-least_shape_in-in-First.ensures.proof
      | in-Best+in_ok-shape-in-Best w ↦ rw (w.plane-is, w.shape-is) w.in_ok-shape-in-Best.ensures.proof
    ] in
    let drawn_least : IsLeast plane shape = elim c.match-drawing_kind.branch [
      | in-Quick w ↦ rw w.shape-is least
      | in-Short+in_ok-shape-in-Short w ↦ rw w.shape-is w.in_ok-shape-in-Short.ensures.least
    ] in
    let drawn_proof : IsProof plane shape first.1 = elim c.match-drawing_kind.branch [
      | in-Quick w ↦ rw w.shape-is proof
      | in-Short+in_ok-shape-in-Short w ↦ rw w.shape-is w.in_ok-shape-in-Short.ensures.proof
    ] in
    (drawn_least, drawn_proof)

pub returns-clause-shaped : goal.returns-clause-shaped
returns-clause-shaped c g made =
    let plane = c.match-choice.plane in
    let first = c.match-choice.shape in
    let shape = c.match-drawing_kind.shape in
    let traced : IsTracedPlane g c.in_ok-plane.plane = subst (IsEmbedded g) c.in_ok-plane.was made in
    let lists : plane.lists ≡ g = elim c.match-choice.branch [
      | in-First+in_ok-least_shape_in-in-First w ↦ ap (λ (p : PlaneModel). p.lists) w.plane-is ∙ traced.lists
      | in-Best+in_ok-shape-in-Best w ↦ ap (λ (p : PlaneModel). p.lists) (w.plane-is ∙ w.in_ok-shape-in-Best.ensures.outer_moved) ∙ traced.lists
    ] in
    let chosen : IsChosen c.args.choice plane = elim c.match-choice.branch [
      | in-First+in_ok-least_shape_in-in-First w ↦ rw (w.in-First.is, w.plane-is) traced.greatest
      | in-Best+in_ok-shape-in-Best w ↦ rw (w.in-Best.is, w.plane-is) w.in_ok-shape-in-Best.ensures.best
    ] in
    let priced : IsLeast plane shape × IsProof plane shape first.1 = returns-clause-least c in
    record { lists = lists; rules = c.graph-graph.ensures.plane; chosen = chosen; least = priced.0; proof = priced.1 }
