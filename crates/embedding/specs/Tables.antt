-- What a graph keeps: where its lists start, the darts' ends and where they lead.
use Rattle.std.specs.Prelude.{◌≡◌, ℕ, ◌+◌, ◌-◌, ◌*◌, ◌<◌, ◌≤◌, List, length, map, drop, slice_index, slice_range}
use Rattle.std.specs.List.{range_with_len}
use Rattle.common.specs.declared.parameters.TheConstants.{MAX_VERTICES}
use Rattle.embedding.specs.Darts.{heads, dart_count, first_dart, reverse_of, after_of, next_of}
use Rattle.embedding.specs.Faces.{HasFaces, degree_in}
use Rattle.embedding.specs.Rules.{KeepsBefore}

-- the parts into which the starts split a list: part k goes from start k up to start k + 1
abbrev pub slices_at : List ℕ → List ℕ → List (List ℕ)
slices_at starts ends =
    map (λ k. slice_range ends (slice_index starts k) (slice_index starts (k + 1))) (range_with_len 0 (length starts - 1))

-- the list holds the values of f at the numbers below n, in order
pub record IsTable (n : ℕ) (f : ℕ → ℕ) (table : List ℕ) : Type 0 where
  pub size : length table ≡ n
  pub each : (d : ℕ) → d < n → slice_index table d ≡ f d

-- the rotation system of the first n darts: of each its reverse and the dart after it
pub record IsRotation (g : List (List ℕ)) (n : ℕ) (rotation : List ℕ) : Type 0 where
  pub size : length rotation ≡ 2 * n
  pub reverses : (d : ℕ) → d < n → slice_index rotation (2 * d) ≡ reverse_of g d
  pub afters : (d : ℕ) → d < n → slice_index rotation (2 * d + 1) ≡ after_of g d

-- the lists g of a graph keep the first seven rules, and the tables are theirs: in one stand the rotation, the faces of all
-- darts, the degrees of `count` faces and the starts
pub record AreTables (g : List (List ℕ)) (ends : List ℕ) (count : ℕ) (table : List ℕ) : Type 0 where
  pub rules : KeepsBefore g 8
  pub order : length g ≤ MAX_VERTICES
  pub heads_are : ends ≡ heads g
  pub size : length table ≡ 3 * dart_count g + count + (length g + 1)
  pub starts_are : IsTable (length g + 1) (first_dart g) (drop (3 * length ends + count) table)
  pub reverses_are : (d : ℕ) → d < dart_count g → slice_index table (2 * d) ≡ reverse_of g d
  pub afters_are : (d : ℕ) → d < dart_count g → slice_index table (2 * d + 1) ≡ after_of g d
  pub faces_are : HasFaces (dart_count g) (next_of g) (λ d. slice_index table (2 * dart_count g + d)) count
  pub degrees_are : (k : ℕ) → k < count → slice_index table (3 * dart_count g + k) ≡ degree_in (dart_count g) (λ d. slice_index table (2 * dart_count g + d)) k
