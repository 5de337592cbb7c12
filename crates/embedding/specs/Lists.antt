-- A graph is given by its neighbour lists, one a vertex and clockwise: the list at place k is that of
-- vertex k + 1, and holds the numbers of its neighbours.
use Rattle.std.specs.Prelude.{ℕ, List, [], slice_index_or}
use Prim.Native.Nat.{suc, zero}

-- the list of vertex u, empty where no vertex has that number
abbrev pub list_of : List (List ℕ) → ℕ → List ℕ
list_of g zero = []
list_of g (suc k) = slice_index_or g k []
