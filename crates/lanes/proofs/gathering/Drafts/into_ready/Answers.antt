use Rattle.std.proofs.Common.{arith}
use Rattle.lanes.proofs.Dealing.{drafts_ready}
use Rattle.lanes.proofs.gathering.Drafts.into_ready.Goals as goal

pub returns-clause-ready : goal.returns-clause-ready
returns-clause-ready g c = λ choice meaning ns are told. drafts_ready _ choice meaning 0 ns _ are (λ file below. told file (omega (arith, below)))
