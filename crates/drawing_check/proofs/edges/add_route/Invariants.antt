use Rattle.std.proofs.Common.{◌≡◌, [], ◌∷◌, ◌++◌, drop}
use Rattle.drawing_check.specs.Shown.{strips}
use Rattle.drawing_check.specs.Routes.{path_of}
use Rattle.drawing_check.proofs.edges.add_route.Given as goal

abbrev pub invariant-loop-corner : goal.invariant-loop-corner
invariant-loop-corner l =
    l.rectangles.items ++ strips (l.from ∷ (drop l.corner-index l.route.corners.now ++ l.route.end ∷ []))
    ≡ l.initial.rectangles.items ++ strips (path_of l.route)
