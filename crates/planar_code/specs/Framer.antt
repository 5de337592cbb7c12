-- What a framer's fields say: its state.
use Rattle.std.specs.Prelude.{◌≡◌, ℕ, ◌<◌, ◌≤◌, List, [], take, length}
use Rattle.planar_code.specs.declared.TheConstants.{HEADER, MAX_RECORDS}
use Rattle.planar_code.specs.declared.framer.Framer.TheInside.{Inside}
use Rattle.planar_code.specs.declared.framer.Phase.{Phase}
use Rattle.planar_code.specs.declared.framer.Phase.TheVariants as phase
use Rattle.planar_code.specs.FramerState.{FramerState, Early, After, Failed}

-- the state given by the phase, a number of records, and the bytes of the partial one
abbrev pub framer_state_at : Phase → ℕ → List ℕ → FramerState
framer_state_at (phase.Header passed) records rest = Early (take passed HEADER)
framer_state_at phase.Records records rest = After records rest
framer_state_at (phase.Failed fault) records rest = Failed fault

abbrev pub framer_state_of : Inside → FramerState
framer_state_of f = framer_state_at f.phase f.records f.current

-- before the last byte of the header there is no record, nor a byte of one
abbrev pub IsBefore : Phase → ℕ → List ℕ → Type 0
IsBefore (phase.Header passed) records rest = (passed < length HEADER) × (records ≡ 0) × (rest ≡ [])
IsBefore phase.Records records rest = records ≤ MAX_RECORDS
IsBefore (phase.Failed fault) records rest = Unit {0}

abbrev pub IsFramer : Inside → Type 0
IsFramer f = IsBefore f.phase f.records f.current
