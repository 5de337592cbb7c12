-- The results of the plain splitter.
use Rattle.std.specs.Prelude.{◌≡◌, ℕ, ◌-◌, ◌<◌, ◌≤◌, List, ◌++◌, length, take, All}
use Rattle.std.specs.List.{concat}
use Rattle.planar_code.specs.declared.TheConstants.{MAX_RECORDS}
use Rattle.planar_code.specs.declared.partial_record.Ending.{Ending}
use Rattle.planar_code.specs.declared.record.End.{End}
use Rattle.planar_code.specs.declared.record.End.TheVariants as end
use Rattle.planar_code.specs.Stream.{IsRecord, IsUnfinished}
use Rattle.planar_code.specs.Split.{IsDivided, EndsAs}
use Rattle.planar_code.specs.Started.{IsStarted, IsOversize}

-- where the next list ends, after bytes of a record of which this many lists remain
abbrev pub EndsList : List ℕ → ℕ → List ℕ → End → Type 0
EndsList before remaining bytes (end.After n) = (0 < n) × (n ≤ length bytes) × (1 < remaining → IsStarted (before ++ take n bytes) (remaining - 1) 0) × (remaining ≡ 1 → IsRecord (before ++ take n bytes))
EndsList before remaining bytes end.Truncated = IsUnfinished (before ++ bytes)
EndsList before remaining bytes end.Oversize = IsOversize (before ++ bytes)

-- where the record at the beginning of the bytes ends
abbrev pub EndsRecord : List ℕ → End → Type 0
EndsRecord bytes (end.After n) = (0 < n) × (n ≤ length bytes) × IsRecord (take n bytes)
EndsRecord bytes end.Truncated = IsUnfinished bytes
EndsRecord bytes end.Oversize = IsOversize bytes

-- the records after the header, and how they end
pub record SplitsBody (body : List ℕ) (records : List (List ℕ)) (end : Ending) : Type 0 where
  pub rest : List ℕ
  pub divided : IsDivided body records rest
  pub ends : EndsAs (length records) rest end

-- the records so far, and the bytes that remain
pub record HasSplit (body : List ℕ) (records : List (List ℕ)) (rest : List ℕ) : Type 0 where
  pub concatenated : body ≡ concat records ++ rest
  pub each : All IsRecord records
  pub few : length records ≤ MAX_RECORDS
