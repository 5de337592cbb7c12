-- Lists that are written one after another, each ended by a 0, and where each of them stands.
use Rattle.std.specs.Prelude.{◌≡◌, ℕ, ◌<◌, ◌≤◌, List, length, take, slice_index}
use Rattle.std.specs.List.{flat_map}
use Rattle.planar_code.specs.Stream.{ended, lists_in}
use Rattle.common.specs.declared.parameters.TheConstants.{MAX_VERTICES}
use Rattle.embedding.specs.declared.wide_record.TheConstants.{MAX_ENTRIES}

-- where list k begins, among lists that are written one after another, each ended by a 0
abbrev pub start_of : List (List ℕ) → ℕ → ℕ
start_of lists k = length (flat_map ended (take k lists))

-- the starts say where each of these lists begins, and where the last one ends
abbrev pub AreStarts : List (List ℕ) → List ℕ → Type 0
AreStarts lists starts = (k : ℕ) → k ≤ length lists → slice_index starts k ≡ start_of lists k

-- the entries are the lists that they hold, and the starts say where each begins
pub record HoldsLists (entries starts : List ℕ) (count : ℕ) : Type 0 where
  pub spelt : entries ≡ flat_map ended (lists_in entries)
  pub short : length entries < MAX_ENTRIES
  pub size : length (lists_in entries) ≡ count
  pub some : 0 < count
  pub few : count ≤ MAX_VERTICES
  pub room : count < length starts
  pub starts_are : AreStarts (lists_in entries) starts
