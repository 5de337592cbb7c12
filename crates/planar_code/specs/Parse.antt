-- Why bytes are not one record.
use Rattle.std.specs.Prelude.{◌≡◌, ◌≢◌, ℕ, List, [], ◌++◌}
use Rattle.planar_code.specs.declared.record.ParseFault.{ParseFault}
use Rattle.planar_code.specs.declared.record.ParseFault.TheVariants as fault
use Rattle.planar_code.specs.Stream.{IsRecord, IsUnfinished}
use Rattle.planar_code.specs.Split.{BeginsWithZero}
use Rattle.planar_code.specs.Started.{IsOversize}

-- the bytes are a record followed by more bytes
pub record HasBytesAfter (bytes : List ℕ) : Type 0 where
  pub first : List ℕ
  pub after : List ℕ
  pub parts : bytes ≡ first ++ after
  pub whole : IsRecord first
  pub more : after ≢ []

-- the fault of the bytes; `Memory` says only that they are a record
abbrev pub IsParseFault : List ℕ → ParseFault → Type 0
IsParseFault bytes fault.Unfinished = IsUnfinished bytes
IsParseFault bytes fault.Order = BeginsWithZero bytes
IsParseFault bytes fault.Oversize = IsOversize bytes
IsParseFault bytes fault.Long = HasBytesAfter bytes
IsParseFault bytes fault.Memory = IsRecord bytes
