-- The chosen limit of files in memory.
use Rattle.std.specs.Prelude.{ℕ}
use Rattle.lanes.specs.declared.run.MemOpener.{MemOpener}

-- the maximum number of bytes that a read returns
abbrev pub most_of : MemOpener → ℕ
most_of opener = opener.most
