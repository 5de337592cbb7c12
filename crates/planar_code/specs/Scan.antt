-- The results of reading further in a record.
use Rattle.std.specs.Prelude.{◌≡◌, ℕ, ◌<◌, ◌≤◌, List, [], ◌++◌, length, take, Option, Some, None, Result, Ok, Err}
use Rattle.planar_code.specs.declared.partial_record.Scan.{Scan}
use Rattle.planar_code.specs.declared.partial_record.Scan.TheVariants as scan
use Rattle.planar_code.specs.declared.partial_record.FeedFault.{FeedFault}
use Rattle.planar_code.specs.declared.partial_record.FeedFault.TheVariants as fault
use Rattle.planar_code.specs.Stream.{IsRecord, IsUnfinished}
use Rattle.planar_code.specs.Split.{BeginsWithZero}
use Rattle.planar_code.specs.Started.{IsStarted, IsOversize}

-- how far a text takes the record that the bytes before it begin
abbrev pub Scans : List ℕ → List ℕ → Result Scan FeedFault → Type 0
Scans before text (Ok (scan.Whole end)) = (0 < end) × (end ≤ length text) × IsRecord (before ++ take end text)
Scans before text (Ok (scan.Open remaining entries)) = IsStarted (before ++ text) remaining entries
Scans before text (Err fault.Large) = BeginsWithZero (before ++ text)
Scans before text (Err fault.Oversize) = IsOversize (before ++ text)
Scans before text (Err _) = ⊥

-- how far a text takes a partial record: to its end, or to the same record extended by the text
abbrev pub TakesFrom : List ℕ → List ℕ → List ℕ → Result (Option (List ℕ × ℕ)) FeedFault → Type 0
TakesFrom old text new (Ok None) = IsUnfinished new × (new ≡ old ++ text)
TakesFrom old text new (Ok (Some (bytes, end))) = (new ≡ []) × (0 < end) × (end ≤ length text) × (bytes ≡ old ++ take end text) × IsRecord bytes
TakesFrom old text new (Err fault.Large) = BeginsWithZero (old ++ text)
TakesFrom old text new (Err fault.Oversize) = IsOversize (old ++ text)
TakesFrom old text new (Err fault.Memory) = (end : ℕ) × IsRecord (old ++ take end text)
TakesFrom old text new (Err _) = ⊥
