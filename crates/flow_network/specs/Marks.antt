-- Marks of darts, of vertices or of faces, in a list by their numbers.
use Rattle.std.specs.Prelude.{ℕ, Bool, false, List, slice_index_or}

-- whether a dart or a face is marked; past the end of the list none is
abbrev pub is_marked : List Bool → ℕ → Bool
is_marked marks d = slice_index_or marks d false
