-- The item that a refused call returns.
use Rattle.ruled_lanes.specs.declared.channel.Closed.{Closed}

-- the item in the error of a refused give
abbrev pub handed_back : {T : Type 0} → Closed T → T
handed_back closed = closed.0
