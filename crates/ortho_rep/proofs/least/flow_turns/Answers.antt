use Rattle.std.proofs.Common.{◌≡◌, ◌+◌, ◌∙◌, ℕ, replicate, ap, sym, arith}
use Rattle.std.proofs.lemmas.List.{append-nil}
use Rattle.embedding.specs.Darts.{reverse_of}
use Rattle.faces.specs.Planes.{darts, reverse_dart}
use Rattle.min_cost_flow.specs.Flow.{amounts, at_nodes}
use Rattle.ortho_rep.specs.declared.turn_strings.Turn.TheVariants.{Left}
use Rattle.ortho_rep.specs.OfFlow.{lefts_then_rights}
use Rattle.ortho_rep.proofs.FromFlow.{short_of_flow, one_sided_of_flow}
use Rattle.ortho_rep.proofs.least.flow_turns.Goals as goal

pub overflow_cast-result : goal.overflow_cast-result
overflow_cast-result c =
    let x = amounts c.args.solved.now.flow in
    let few = short_of_flow c.args.plane.now c.args.net.now.network x (at_nodes c.args.solved.now.potential) c.graph-graph.ensures.ends c.graph-graph.ensures.plane.order c.requires.can c.requires.net.network c.requires.solves.flow c.requires.solves.potentials c.args.dart c.requires.within c.requires.free in
    let lefts : c.crossing_flow-lefts.result ≡ x (darts c.args.plane.now + c.args.dart) = c.crossing_flow-lefts.ensures ∙ ap x (omega (arith, c.requires.net.darts)) in
    omega (arith, few, lefts)

pub overflow_cast-result-2 : goal.overflow_cast-result-2
overflow_cast-result-2 c =
    let x = amounts c.args.solved.now.flow in
    let few = short_of_flow c.args.plane.now c.args.net.now.network x (at_nodes c.args.solved.now.potential) c.graph-graph.ensures.ends c.graph-graph.ensures.plane.order c.requires.can c.requires.net.network c.requires.solves.flow c.requires.solves.potentials c.args.dart c.requires.within c.requires.free in
    let rights : c.crossing_flow-rights.result ≡ x (darts c.args.plane.now + reverse_dart c.args.plane.now c.args.dart) = c.crossing_flow-rights.ensures ∙ ap x (omega (arith, c.requires.net.darts, c.reverse.ensures.value, ap (λ g. reverse_of g c.args.dart) c.graph-graph.ensures.value)) in
    omega (arith, few, rights)

pub returns-then-lefts-gt0-clause-turns : goal.returns-then-lefts-gt0-clause-turns
returns-then-lefts-gt0-clause-turns c =
    let x = amounts c.args.solved.now.flow in
    let lefts : c.crossing_flow-lefts.result ≡ x (darts c.args.plane.now + c.args.dart) = c.crossing_flow-lefts.ensures ∙ ap x (omega (arith, c.requires.net.darts)) in
    let none = one_sided_of_flow c.args.plane.now c.args.net.now.network x (at_nodes c.args.solved.now.potential) c.graph-graph.ensures.ends c.requires.net.network c.requires.solves.potentials c.args.dart c.requires.within (omega (arith, lefts, c.if-lefts-gt0.true)) in
    sym (ap (lefts_then_rights (x (darts c.args.plane.now + c.args.dart))) none ∙ (append-nil (replicate (x (darts c.args.plane.now + c.args.dart)) Left) ∙ ap (λ (n : ℕ). replicate n Left) (sym lefts)))

pub returns-then-lefts-gt0-clause-short : goal.returns-then-lefts-gt0-clause-short
returns-then-lefts-gt0-clause-short c =
    let x = amounts c.args.solved.now.flow in
    let few = short_of_flow c.args.plane.now c.args.net.now.network x (at_nodes c.args.solved.now.potential) c.graph-graph.ensures.ends c.graph-graph.ensures.plane.order c.requires.can c.requires.net.network c.requires.solves.flow c.requires.solves.potentials c.args.dart c.requires.within c.requires.free in
    let lefts : c.crossing_flow-lefts.result ≡ x (darts c.args.plane.now + c.args.dart) = c.crossing_flow-lefts.ensures ∙ ap x (omega (arith, c.requires.net.darts)) in
    omega (arith, few, lefts)

pub returns-clause-short : goal.returns-clause-short
returns-clause-short c =
    let x = amounts c.args.solved.now.flow in
    let few = short_of_flow c.args.plane.now c.args.net.now.network x (at_nodes c.args.solved.now.potential) c.graph-graph.ensures.ends c.graph-graph.ensures.plane.order c.requires.can c.requires.net.network c.requires.solves.flow c.requires.solves.potentials c.args.dart c.requires.within c.requires.free in
    let rights : c.crossing_flow-rights.result ≡ x (darts c.args.plane.now + reverse_dart c.args.plane.now c.args.dart) = c.crossing_flow-rights.ensures ∙ ap x (omega (arith, c.requires.net.darts, c.reverse.ensures.value, ap (λ g. reverse_of g c.args.dart) c.graph-graph.ensures.value)) in
    omega (arith, few, rights)
