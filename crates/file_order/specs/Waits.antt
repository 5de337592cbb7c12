-- The buffered state of a file, and how it changes.
use Rattle.std.specs.Prelude.{◌≡◌, ◌≢◌, ◌<◌, ℕ, ◌+◌, List, [], ◌++◌, None, Some, length, slice_index_or}
use Rattle.planar_code.specs.declared.TheConstants.{MAX_RECORDS}
use Rattle.streams.specs.declared.frames.Mark.{Mark}
use Rattle.file_order.specs.declared.chunks.Waiting.{Waiting}

-- nothing is buffered
pub record IsNothing (waiting : Waiting) : Type 0 where
  pub lines : waiting.lines ≡ []
  pub count : waiting.count ≡ 0
  pub mark : waiting.mark ≡ None

-- one more entry is counted, and this text of it is buffered
pub record TakesIn (text : List ℕ) (before after : Waiting) : Type 0 where
  pub lines : after.lines ≡ before.lines ++ text
  pub count : after.count ≡ before.count + 1
  pub mark : after.mark ≡ before.mark

-- there was no mark, and now it is this one; and this many entries have arrived
pub record GetsMark (many : ℕ) (given : Mark) (before after : Waiting) : Type 0 where
  pub lines : after.lines ≡ before.lines
  pub count : after.count ≡ before.count
  pub unmarked : before.mark ≡ None
  pub counted : before.count ≡ many
  pub mark : after.mark ≡ Some given

-- there is no mark, and this many entries have arrived
pub record IsUnmarked (many : ℕ) (waiting : Waiting) : Type 0 where
  pub mark : waiting.mark ≡ None
  pub count : waiting.count ≡ many

-- the file has not ended, and an entry at this place is its next one
pub record IsNext (ordinal : ℕ) (waiting : Waiting) : Type 0 where
  pub unmarked : waiting.mark ≡ None
  pub count : waiting.count ≡ ordinal
  pub few : ordinal < MAX_RECORDS

-- the buffered lines are taken: nothing is left of them
pub record IsTaken (before after : Waiting) : Type 0 where
  pub lines : after.lines ≡ []
  pub count : after.count ≡ before.count
  pub mark : after.mark ≡ before.mark

-- only the buffered state of this file changes, in this way
pub record ChangesAt (file : ℕ) (change : Waiting → Waiting → Type 0) (before after : List Waiting) : Type 0 where
  pub count : length after ≡ length before
  pub here : (other : Waiting) → change (slice_index_or before file other) (slice_index_or after file other)
  pub others : (k : ℕ) (other : Waiting) → k ≢ file → slice_index_or after k other ≡ slice_index_or before k other
