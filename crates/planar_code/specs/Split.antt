-- How a whole stream splits into header, records, rest and ending.
use Rattle.std.specs.Prelude.{◌≡◌, ◌≢◌, ◌⊎◌, ℕ, ◌≤◌, List, [], ◌∷◌, ◌++◌, length, All}
use Rattle.std.specs.List.{concat}
use Rattle.planar_code.specs.declared.TheConstants.{HEADER, MAX_RECORDS}
use Rattle.planar_code.specs.declared.partial_record.Ending.{Ending}
use Rattle.planar_code.specs.declared.partial_record.Ending.TheVariants as ending
use Rattle.planar_code.specs.declared.partial_record.FeedFault.{FeedFault}
use Rattle.planar_code.specs.declared.partial_record.FeedFault.TheVariants as fault
use Rattle.planar_code.specs.Stream.{IsRecord, IsUnfinished}

-- the bytes after the header are divided into the longest list of whole records, at most 1,000,000 of
-- them, and a rest
pub record IsDivided (body : List ℕ) (records : List (List ℕ)) (rest : List ℕ) : Type 0 where
  pub concatenated : body ≡ concat records ++ rest
  pub each : All IsRecord records
  pub few : length records ≤ MAX_RECORDS
  pub longest : (others : List (List ℕ)) (remaining : List ℕ) → body ≡ concat others ++ remaining → All IsRecord others → length others ≤ MAX_RECORDS → length others ≤ length records

-- the bytes begin with byte 0
abbrev pub BeginsWithZero : List ℕ → Type 0
BeginsWithZero bytes = (more : List ℕ) × (bytes ≡ 0 ∷ more)

-- how a number of records and the rest after them end: the first of these that fits
abbrev pub EndsAs : ℕ → List ℕ → Ending → Type 0
EndsAs count rest ending.Complete = rest ≡ []
EndsAs count rest ending.Many = (rest ≢ []) × (count ≡ MAX_RECORDS)
EndsAs count rest ending.Large = BeginsWithZero rest × (count ≢ MAX_RECORDS)
EndsAs count rest ending.Truncated = IsUnfinished rest × (rest ≢ []) × (count ≢ MAX_RECORDS)
EndsAs count rest ending.Oversize = (IsUnfinished rest → ⊥) × (BeginsWithZero rest → ⊥) × (rest ≢ []) × (count ≢ MAX_RECORDS)
EndsAs count rest ending.Header = ⊥
EndsAs count rest ending.Memory = ⊥

-- a stream that begins with the whole header: its records, and how it ends
pub record IsSplitAfterHeader (stream : List ℕ) (records : List (List ℕ)) (end : Ending) : Type 0 where
  pub body : List ℕ
  pub rest : List ℕ
  pub with_header : stream ≡ HEADER ++ body
  pub divided : IsDivided body records rest
  pub ends : EndsAs (length records) rest end

-- a stream that does not begin with the whole header: it has no records
pub record IsHeaderless (stream : List ℕ) (records : List (List ℕ)) (end : Ending) : Type 0 where
  pub header : (body : List ℕ) → stream ≢ HEADER ++ body
  pub none : records ≡ []
  pub ends : end ≡ ending.Header

-- the records and the ending of a stream
abbrev pub IsSplit : List ℕ → List (List ℕ) → Ending → Type 0
IsSplit stream records end = IsHeaderless stream records end ⊎ IsSplitAfterHeader stream records end

-- more bytes may come: the bytes are a prefix of the header, or end complete or truncated
abbrev pub MayGoOn : List ℕ → Type 0
MayGoOn bytes =
    ((more : List ℕ) × (bytes ++ more ≡ HEADER))
    ⊎ (((records : List (List ℕ)) × IsSplit bytes records ending.Complete)
    ⊎ ((records : List (List ℕ)) × IsSplit bytes records ending.Truncated))

-- the ending that a fault stands for
abbrev pub ending_of : FeedFault → Ending
ending_of fault.Header = ending.Header
ending_of fault.Large = ending.Large
ending_of fault.Oversize = ending.Oversize
ending_of fault.Memory = ending.Memory
ending_of fault.Many = ending.Many
