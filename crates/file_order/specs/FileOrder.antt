-- A reorder buffer for the texts of files.
use Rattle.std.specs.Prelude.{◌≡◌, ◌≢◌, ℕ, ◌+◌, ◌^◌, ◌==◌, List, [], All, Some, length, if◌then◌else◌, ⊤}
use Rattle.streams.specs.declared.output.SinkFault.{SinkFault}
use Rattle.streams.specs.declared.source.SourceEnd.{SourceEnd}
use Rattle.lanes.specs.declared.gathering.RunFault.{RunFault}
use Rattle.lanes.specs.declared.gathering.RunFault.TheVariants.{Memory, LaneLost, Thread, Refused}
use Rattle.file_order.specs.declared.chunks.Waiting.{Waiting}
use Rattle.file_order.specs.Waits.{IsNothing}

-- the model of a reorder buffer: the text in transit to the sink, the first file that has not ended, and what has
-- arrived of each file and is not written
pub record OrderModel : Type 0 where
  pub buffer : List ℕ
  pub current : ℕ
  pub waiting : List Waiting

-- nothing has arrived of this many files, and this text is in transit
pub record IsBegun (files : ℕ) (first : List ℕ) (order : OrderModel) : Type 0 where
  pub buffer : order.buffer ≡ first
  pub current : order.current ≡ 0
  pub count : length order.waiting ≡ files
  pub empty : All IsNothing order.waiting

-- of a text of a file, what goes on to the sink at once: all of it if the file is current
abbrev pub at_once : ℕ → ℕ → List ℕ → List ℕ
at_once current file text = if file == current then text else []

-- and what is buffered for later
abbrev pub for_later : ℕ → ℕ → List ℕ → List ℕ
for_later current file text = if file == current then [] else text

-- the current file and the number of files are unchanged
pub record StaysAt (before after : OrderModel) : Type 0 where
  pub current : after.current ≡ before.current
  pub count : length after.waiting ≡ length before.waiting

-- Why an entry of this file was not added: the sink refused its text; there was no memory to buffer it, and the file is
-- not the current one; or the file has as many entries as can be counted, one less than 2^32.
abbrev pub IsAddFault : ℕ → ℕ → Waiting → RunFault SinkFault → Type 0
IsAddFault current file waiting (Refused fault) = ⊤
IsAddFault current file waiting Memory = file ≢ current
IsAddFault current file waiting LaneLost = waiting.count + 1 ≡ 2 ^ 32
IsAddFault current file waiting Thread = ⊥

-- the file has this end
pub record HasEnd (end : SourceEnd) (waiting : Waiting) : Type 0 where
  pub mark : waiting.mark ≡ Some end.mark
  pub count : waiting.count ≡ end.count
