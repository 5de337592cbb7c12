-- Which list of darts is the path of an edge.
use Rattle.std.specs.Prelude.{◌≡◌, ℕ, List, ◌∷◌, slice_index}
use Rattle.dissect.specs.DartMaps.{DartMap}
use Rattle.dissect.specs.Paths.{IsPath}

-- the list has the darts of the path that ends with item k of the edges
pub record IsPathOf (w : DartMap) (edges : List ℕ) (k : ℕ) (piece : List ℕ) : Type 0 where
  pub first : ℕ
  pub rest : List ℕ
  pub path : IsPath w (slice_index edges k) first rest
  pub is : piece ≡ first ∷ rest
