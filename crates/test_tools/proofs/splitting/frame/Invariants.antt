use Rattle.std.proofs.Common.{take}
use Rattle.std.specs.List.{flat_map}
use Rattle.planar_code.specs.FramerState.{StandsAt}
use Rattle.test_tools.proofs.splitting.frame.Given as goal

-- the pieces up to here have led to the framer's state
abbrev pub invariant-loop-piece : goal.invariant-loop-piece
invariant-loop-piece l = StandsAt (flat_map (λ piece. piece.items) (take l.piece-index l.pieces)) l.records.items l.framer
