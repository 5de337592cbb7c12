-- The bytes of a record, encoded by the lists that they hold.
use Rattle.std.specs.Prelude.{◌≡◌, ℕ, ◌<◌, List, ◌∷◌, length, All}
use Rattle.std.specs.List.{flat_map}
use Rattle.planar_code.specs.Stream.{IsList, ended, lists_of}

-- the bytes are one record: the number of lists that they hold, 1 to 255, followed by each list, ended
pub record IsSpelt (bytes : List ℕ) : Type 0 where
  pub spelt : bytes ≡ length (lists_of bytes) ∷ flat_map ended (lists_of bytes)
  pub each : All IsList (lists_of bytes)
  pub some : 0 < length (lists_of bytes)
  pub few : length (lists_of bytes) < 256
