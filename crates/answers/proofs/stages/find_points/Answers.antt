use Rattle.std.proofs.Common.{subst}
use Rattle.answers.specs.Steps.{IsShaped, IsLeastPlane}
use Rattle.answers.proofs.stages.find_points.Goals as goal

-- the plane is that of the lists, and the points draw its shape
pub returns-in-Ok-clause-answers : goal.returns-in-Ok-clause-answers
returns-in-Ok-clause-answers c choice g shaped =
    let found = c.in_ok-shaped_plane.shaped_plane in
    let known : IsLeastPlane choice g found = subst (IsShaped choice g) c.in_ok-shaped_plane.was shaped in
    record {
      lists = known.lists;
      rules = known.rules;
      chosen = known.chosen;
      shape_is = found.shape_is;
      least = known.least;
      proof = known.proof;
      drawn = c.in-Ok.ensures.drawn.drawn;
      no_longer = c.in-Ok.ensures.drawn.no_longer;
      near = c.in-Ok.ensures.drawn.near;
    }
