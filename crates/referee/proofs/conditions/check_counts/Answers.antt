use Rattle.std.proofs.Common.{◌≡◌, ◌≤◌, ◌*◌, ◌<◌, ℕ, List, length, [], ap, subst, arith}
use Rattle.std.proofs.lemmas.List.{get_or_default}
use Rattle.ortho_rep.specs.declared.turn_strings.TheConstants.{MAX_TURNS}
use Rattle.ortho_rep.specs.declared.grid_points.Point.{Point}
use Rattle.embedding.specs.Darts.{dart_count}
use Rattle.faces.specs.Planes.{darts, vertices}
use Rattle.referee.proofs.conditions.check_counts.Goals as goal

pub returns-clause-whole : goal.returns-clause-whole
returns-clause-whole c =
    let p = c.args.plane.now in
    let corners : List (List Point) = c.args.points.now.corners in
    let total : 2 * length corners ≡ darts p = omega (arith, ap dart_count c.graph-graph.ensures.value) in
    record {
      counted = record {
        vertex_count = omega (arith, ap (length {A = List ℕ}) c.graph-graph.ensures.value);
        edge_count = total;
      };
      short = λ k d lt. subst (λ (cs : List Point). length cs ≤ MAX_TURNS) (get_or_default corners k [] d lt) (c.loop-edge.invariant k (omega (arith, lt)));
    }
