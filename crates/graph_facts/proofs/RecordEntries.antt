-- How many entries a record's lists have.
use Rattle.std.proofs.Common.{◌≡◌, ℕ, ◌+◌, ◌*◌, ◌≤◌, ◌<◌, List, [], ◌∷◌, ◌++◌, length, All, refl, ap, ◌∙◌, arith, length-append}
use Rattle.std.specs.List.{flat_map}
use Rattle.planar_code.specs.Stream.{IsList, ended, lists_of}
use Rattle.embedding.specs.Darts.{dart_count, heads}
use Rattle.embedding.proofs.WrittenLists.{written_few}

-- lists that are ended have their entries, and one byte more each
ended_size : (g : List (List ℕ)) → length (flat_map ended g) ≡ dart_count g + length g
ended_size [] = refl
ended_size (l ∷ ls) =
    omega (arith, length-append (ended l) (flat_map ended ls), length-append l (0 ∷ []), length-append l (heads ls), ended_size ls)

-- so has a record, which begins with the number of its lists
pub record_size : (bytes : List ℕ) → bytes ≡ length (lists_of bytes) ∷ flat_map ended (lists_of bytes)
    → length bytes ≡ dart_count (lists_of bytes) + length (lists_of bytes) + 1
record_size bytes spelt = let size = ap length spelt in omega (arith, size, ended_size (lists_of bytes))

-- few lists have few entries
pub few_entries : (g : List (List ℕ)) → All IsList g → length g < 256 → dart_count g ≤ 65025
few_entries g each few = omega (arith, written_few g each, ended_size g)
