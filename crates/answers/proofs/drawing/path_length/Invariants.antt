use Rattle.std.proofs.Common.{◌≡◌, ◌+◌, ◌++◌, ◌∷◌, [], drop}
use Rattle.drawing_check.specs.Routes.{path_of}
use Rattle.reports.specs.Lengths.{path_length}
use Rattle.answers.proofs.drawing.path_length.Given as goal

-- the way so far and the rest are the whole
abbrev pub invariant-loop-corner : goal.invariant-loop-corner
invariant-loop-corner l =
    l.length + path_length (l.from ∷ (drop l.corner-index l.route.corners.now ++ l.route.end ∷ [])) ≡ path_length (path_of l.route)
