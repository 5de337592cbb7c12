-- The records and the mark of one source.
use Rattle.std.specs.Prelude.{ℕ, List}
use Rattle.streams.specs.declared.frames.Mark.{Mark}

-- the bytes of its records, in order, and its mark
pub record FramesModel : Type 0 where
  pub records : List (List ℕ)
  pub mark : Mark
