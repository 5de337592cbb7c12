use Rattle.std.proofs.Common.{ℕ, ◌-◌}
use Rattle.faces.specs.Planes.{darts, reverse_dart, next}
use Rattle.ortho_rep.specs.Shapes.{angle_at, turns_at}
use Rattle.dissect.specs.Directions.{AreDirections}
use Rattle.dissect.specs.DirectionSearch.{IsKnown}
use Rattle.dissect.proofs.Searching.{IsSearch, nobody, work_of}
use Rattle.dissect.proofs.dissection.directions_in.Given as goal

abbrev pub invariant-loop-dart : goal.invariant-loop-dart
invariant-loop-dart l =
    IsKnown l.search.directions.items 0
    × ((h : ℕ → ℕ) → AreDirections l.plane (angle_at l.shape) (turns_at l.shape) h
    → IsSearch (darts l.plane) h (4 - h 0) (λ d. reverse_dart l.plane (next l.plane d)) (reverse_dart l.plane) l.search.directions.items l.search.waiting.items nobody)

abbrev pub decreases-loop-dart : goal.decreases-loop-dart
decreases-loop-dart l = work_of l.search.directions.items l.search.waiting.items
