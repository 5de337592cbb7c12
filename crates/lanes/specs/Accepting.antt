-- The records and ends that a kind of lanes may be passed of the files of a run.
use Rattle.std.specs.Prelude.{ℕ, List}
use Rattle.streams.specs.declared.frames.Mark.{Mark}
use Rattle.lanes.specs.Opening.{Meaning, IsPlacedAt, IsEndAt}

-- any record that has this place in its file, and any end that its file has with this many records
pub record AcceptsFiles (accepts : ℕ → ℕ → List ℕ → Type 0) (ends : ℕ → ℕ → Mark → Type 0) (meaning : ℕ → Meaning) : Type 0 where
  pub records : (file place : ℕ) (bytes : List ℕ) → IsPlacedAt (meaning file) place bytes → accepts file place bytes
  pub marks : (file count : ℕ) (mark : Mark) → IsEndAt (meaning file) count mark → ends file count mark

-- `AcceptsFiles` under a name that only the first stage unfolds
unfoldable pub AcceptsAll : (ℕ → ℕ → List ℕ → Type 0) → (ℕ → ℕ → Mark → Type 0) → (ℕ → Meaning) → Type 0
AcceptsAll accepts ends meaning = AcceptsFiles accepts ends meaning
