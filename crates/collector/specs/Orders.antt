-- What may arrive of a file.
use Rattle.std.specs.Prelude.{◌≡◌, ℕ, ◌≤◌, List, length, map, Some, All}
use Rattle.planar_code.specs.declared.TheConstants.{MAX_RECORDS}
use Rattle.streams.specs.declared.frames.Mark.{Mark}
use Rattle.common.specs.declared.parameters.Choice.{Choice}
use Rattle.streams.specs.Placing.{EachAt}
use Rattle.lanes.specs.Notes.{numbered}
use Rattle.lanes.specs.Opening.{Meaning, IsPlacedAt, IsEndAt}
use Rattle.reports.specs.declared.answer.Entry.{Entry}
use Rattle.reports.specs.Abouts.{about_of}
use Rattle.answers.specs.Spelt.{IsSpelt}
use Rattle.collector.specs.Came.{Came}

-- the record has this place in a file that means this
abbrev pub IsKnownAt : Meaning → ℕ → List ℕ → Type 0
IsKnownAt meaning place bytes = ∥ IsPlacedAt meaning place bytes ∥₁

-- The entries are about records of this file under this choice, in order and from the first on, at most as many as a
-- file may have, and each at its place in what the file means. If the file has ended, what it means allows its mark
-- with this many records.
pub record IsInOrder (choice : Choice) (meaning : Meaning) (file : ℕ) (came : Came) : Type 0 where
  pub each : map about_of came.entries ≡ numbered choice file 0 (map (λ (entry : Entry). entry.rec) came.entries)
  pub records : All (λ (entry : Entry). IsSpelt entry.rec) came.entries
  pub few : length came.entries ≤ MAX_RECORDS
  pub placed : EachAt (IsKnownAt meaning) 0 (map (λ (entry : Entry). entry.rec) came.entries)
  pub ends : (mark : Mark) → came.mark ≡ Some mark → ∥ IsEndAt meaning (length came.entries) mark ∥₁
