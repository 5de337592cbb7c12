-- What a caller gives as one record, in entries of 8 or of 16 bits.
use Rattle.std.specs.Prelude.{ℕ, Bool, true, false, List, ⊤}
use Rattle.planar_code.specs.Stream.{IsRecord, lists_of}
use Rattle.embedding.specs.Wide.{IsWideRecord, BeginsAboveLimit}
use Rattle.planarbend_c.specs.declared.request.Parsed.{Parsed}
use Rattle.planarbend_c.specs.declared.request.Parsed.TheVariants as parsed
use Rattle.planarbend_c.specs.declared.request.Source.{Source}

-- entries of 8 bits, or of 16
pub data Input : Type 0 where
  Bytes : List ℕ → Input
  Entries : List ℕ → Input

-- which of two lists is given
abbrev pub input_in : Bool → List ℕ → List ℕ → Input
input_in true bytes entries = Entries entries
input_in false bytes entries = Bytes bytes

abbrev pub input_of : Source → Input
input_of source = input_in source.is_wide source.bytes.now source.entries.now

-- they are one record
abbrev pub IsOneRecord : Input → Type 0
IsOneRecord (Bytes bytes) = IsRecord bytes
IsOneRecord (Entries entries) = IsWideRecord entries

-- they begin with a number of vertices above the maximum, which no 8 bits hold
abbrev pub IsTooLarge : Input → Type 0
IsTooLarge (Bytes bytes) = ⊥
IsTooLarge (Entries entries) = BeginsAboveLimit entries

-- the neighbour lists of the record
abbrev pub input_lists : Input → List (List ℕ)
input_lists (Bytes bytes) = lists_of bytes
input_lists (Entries entries) = lists_of entries

-- the neighbour lists of a record that was parsed
abbrev pub parsed_lists : Parsed → List (List ℕ)
parsed_lists (parsed.Bytes rec) = lists_of rec
parsed_lists (parsed.Entries rec) = lists_of rec
