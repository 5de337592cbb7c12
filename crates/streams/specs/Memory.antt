-- The chosen limit of a source in memory.
use Rattle.std.specs.Prelude.{ℕ}
use Rattle.streams.specs.declared.source.MemTap.{MemTap}

-- the maximum number of bytes that a read returns
abbrev pub most_of : MemTap → ℕ
most_of tap = tap.most
