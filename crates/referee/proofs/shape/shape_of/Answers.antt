use Rattle.std.proofs.Common.{◌≡◌, ◌∙◌, ℕ, List, Vec, Global, length, sym, subst, arith}
use Rattle.std.proofs.lemmas.List.{length-map}
use Rattle.faces.specs.Planes.{darts}
use Rattle.ortho_rep.specs.declared.turn_strings.Turn.{Turn}
use Rattle.ortho_rep.specs.Storage.{lists_in}
use Rattle.ortho_rep.specs.Shapes.{ShapeModel}
use Rattle.ortho_rep.specs.Representation.{HasDarts}
use Rattle.referee.specs.Taken.{IsTaken}
use Rattle.std.proofs.lemmas.Result.{err_from_is_err_and}
use Rattle.referee.specs.Faults.{AreOnGridLines, IsFirstFailure}
use Rattle.referee.specs.declared.judge.Fault.{Fault}
use Rattle.referee.proofs.Listed.{taken_of}
use Rattle.referee.proofs.shape.shape_of.Goals as goal

pub returns-clause-taken : goal.returns-clause-taken
returns-clause-taken c =
    let p = c.args.plane.now in
    let points = c.args.points.now in
    let strings : List (Vec Turn Global) = c.in_ok-strings.strings.items in
    let made : ShapeModel = record { angles = c.in_ok-angles.angles.items; strings = lists_in strings } in
    let lengths : HasDarts p made = record {
      angles = c.in_ok-angles.ensures.count;
      strings = omega (arith, length-map strings (λ (v : Vec Turn Global). v.items), c.in_ok-strings.ensures.count);
    } in
    subst (IsTaken p points) (sym c.new.ensures)
    (taken_of p points made c.list_directions.new.directions c.graph-graph.ensures.ends lengths c.in_ok-strings.ensures.turning c.in_ok-strings.ensures.mirrored
    (λ d lt. (c.in_ok-angles.ensures.some d lt, c.in_ok-angles.ensures.few d lt)) c.list_directions.ensures.leaving c.in_ok-angles.ensures.heads)

pub returns-in_err-strings-clause-first : goal.returns-in_err-strings-clause-first
returns-in_err-strings-clause-first c =
    let q = err_from_is_err_and c.from_residual-in_err-strings.result c.from_residual-in_err-strings.ensures.1 in
    rw q.1 (λ some. subst (λ (fault : Fault). AreOnGridLines c.args.plane.now c.args.points.now → IsFirstFailure c.args.plane.now c.args.points.now fault) (sym q.2)
    (c.in_err-strings.ensures.first (λ m. some (q.2 ∙ m))))
