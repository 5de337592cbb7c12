-- What one step of a framer does, and what several do.
use Rattle.std.specs.Prelude.{◌≡◌, ℕ, ◌<◌, ◌≤◌, List, [], ◌++◌, length, take, Option, option_to_list, Result, Ok, Err}
use Rattle.planar_code.specs.declared.partial_record.FeedFault.{FeedFault}
use Rattle.planar_code.specs.declared.partial_record.FeedFault.TheVariants as fault
use Rattle.planar_code.specs.FramerState.{FramerState, Failed, Goes, HasNotFailed, LosesRecord}

-- a step takes some bytes of a text and returns a record or none; if it fails, the state that the whole text leads to
-- is the fault
abbrev pub FramerSteps : FramerState → List ℕ → FramerState → Result (ℕ × Option (List ℕ)) FeedFault → Type 0
FramerSteps old text new (Ok taken) = (0 < taken.0) × (taken.0 ≤ length text) × HasNotFailed new × Goes old (take taken.0 text) (option_to_list taken.1) new
FramerSteps old text new (Err fault.Memory) = LosesRecord old text []
FramerSteps old text new (Err f) = Goes old text [] (Failed f)

-- several steps have taken the piece up to a text that remains, and have appended the added records to those that the
-- list had before
pub record HasRead (old : FramerState) (piece text : List ℕ) (before after : List (List ℕ)) (new : FramerState) : Type 0 where
  pub taken : List ℕ
  pub added : List (List ℕ)
  pub parts : piece ≡ taken ++ text
  pub appended : after ≡ before ++ added
  pub running : HasNotFailed new
  pub goes : Goes old taken added new
