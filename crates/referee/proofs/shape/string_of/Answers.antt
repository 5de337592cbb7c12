use Rattle.std.proofs.Common.{◌≡◌, ◌<◌, ◌∙◌, ℕ, List, true, false, sym, subst, arith}
use Rattle.std.proofs.lemmas.Bool.{both_ways, lt-ltb, le-ltb}
use Rattle.std.proofs.lemmas.Result.{err_from_is_err_and}
use Rattle.faces.specs.Planes.{darts, reverse_dart}
use Rattle.ortho_rep.specs.declared.grid_points.Point.{Point}
use Rattle.ortho_rep.specs.declared.turn_strings.Turn.{Turn}
use Rattle.ortho_rep.specs.Shapes.{turns_at}
use Rattle.ortho_rep.specs.Edges.{is_lesser}
use Rattle.drawing_check.specs.Paths.{path_along}
use Rattle.drawing_check.specs.Draws.{IsTurning}
use Rattle.drawing_check.proofs.Routing.{each_lesser}
use Rattle.referee.specs.Faults.{IsTurnFault}
use Rattle.referee.specs.declared.judge.Fault.{Fault}
use Rattle.referee.proofs.shape.string_of.Goals as goal

pub returns-then-dart-reverse-clause-turning : goal.returns-then-dart-reverse-clause-turning
returns-then-dart-reverse-clause-turning c =
    λ _. subst (λ (ps : List Point). IsTurning ps c.in_ok-turns.turns.items) c.route_of-route.ensures.path c.in_ok-turns.ensures.turning

pub returns-in_err-turns-clause-refused : goal.returns-in_err-turns-clause-refused
returns-in_err-turns-clause-refused c =
    let p = c.args.plane.now in
    let points = c.args.points.now in
    let dart : ℕ = c.args.dart in
    let reverse_dart_is : c.reverse-reverse.result ≡ reverse_dart p dart = rw c.graph.ensures.value at c.reverse-reverse.ensures.value in
    let lesser : is_lesser p dart ≡ true = lt-ltb dart (reverse_dart p dart) (omega (arith, reverse_dart_is, c.if-dart-reverse.true)) in
    let q = err_from_is_err_and c.from_residual.result c.from_residual.ensures.1 in
    rw q.1 (λ some shape said. c.in_err-turns.ensures.refused (λ m. some (q.2 ∙ m)) (turns_at shape dart)
    (subst (λ (ps : List Point). IsTurning ps (turns_at shape dart)) (sym c.route_of-route.ensures.path)
    ((each_lesser (λ d. IsTurning (path_along p points d) (turns_at shape d)) p).0 said.edges dart c.requires.inside lesser)))

pub returns-in_err-turns-clause-first : goal.returns-in_err-turns-clause-first
returns-in_err-turns-clause-first c =
    let q = err_from_is_err_and c.from_residual.result c.from_residual.ensures.1 in
    rw q.1 (λ some. subst (IsTurnFault (path_along c.args.plane.now c.args.points.now c.args.dart) c.args.edge) (sym q.2)
    (subst (λ (path : List Point). IsTurnFault path c.args.edge c.in_err-turns.field-0.0) c.route_of-route.ensures.path (c.in_err-turns.ensures.first (λ m. some (q.2 ∙ m)))))
