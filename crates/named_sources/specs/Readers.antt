-- The bytes that are left of a reader that is a source.
use Rattle.std.specs.Prelude.{◌≡◌, ℕ, Bool, true, false, List, Option, None, Some, ⊤}
use Rattle.either.specs.declared.Either.{Either}
use Rattle.either.specs.declared.Either.TheVariants.{Left, Right}
use Rattle.named_sources.specs.declared.reason.ReadTap.{ReadTap}

abbrev pub reader_of : {R : Type 0} → ReadTap R → R
reader_of tap = tap.reader

-- the bytes that its reader still has, if those are known
abbrev pub remaining_in : {R : Type 0} → (R → Option (List ℕ)) → ReadTap R → Option (List ℕ)
remaining_in remaining tap = remaining tap.reader

-- for the name of standard input, and only for that, the reader is standard input, which is open
abbrev pub IsReaderOf : {F I : Type 0} → Bool → Option I → Either F I → Type 0
IsReaderOf true (Some input) reader = reader ≡ Right input
IsReaderOf true None reader = ⊥
IsReaderOf false input (Left file) = ⊤
IsReaderOf false input (Right read) = ⊥
