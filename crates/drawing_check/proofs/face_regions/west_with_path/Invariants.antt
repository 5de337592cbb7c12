use Rattle.std.proofs.Common.{◌≡◌, ◌++◌, ◌∷◌, [], drop}
use Rattle.drawing_check.specs.Routes.{path_of}
use Rattle.drawing_check.specs.Westmost.{west_with_path}
use Rattle.drawing_check.proofs.face_regions.west_with_path.Given as goal

-- the parts so far and the rest are the whole
abbrev pub invariant-loop-corner : goal.invariant-loop-corner
invariant-loop-corner l =
    west_with_path l.sides.left l.sides.right l.so_far (l.from ∷ (drop l.corner-index l.route.corners.now ++ l.route.end ∷ []))
    ≡ west_with_path l.sides.left l.sides.right l.fn.west (path_of l.route)
