-- Text in chunks.
use Rattle.std.specs.Prelude.{ℕ, List, Vec}
use Rattle.std.specs.List.{flat_map}
use Rattle.std.specs.declared.alloc.Global.{Global}

-- the text of these chunks, one after another
abbrev pub concatenated : List (Vec ℕ Global) → List ℕ
concatenated chunks = flat_map (λ chunk. chunk.items) chunks
