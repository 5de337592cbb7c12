-- What is known of a source of a run.
use Rattle.std.specs.Prelude.{◌≡◌, ℕ, Bool, true, List, [], Option, None, Some}
use Rattle.lanes.specs.Opening as opening
use Rattle.named_sources.specs.declared.source.NotedSource.{NotedSource}

module _ {F : Type 0} where
  -- the bytes of a file that are to come, if it was opened; a file that was not has none
  abbrev pub to_come_if_open : (F → Option (List ℕ)) → Option F → Option (List ℕ)
  to_come_if_open to_come None = Some []
  to_come_if_open to_come (Some file) = to_come file

  -- a read past the last of them fails
  abbrev pub fails_if_open : (F → Bool) → Option F → Bool
  fails_if_open fails None = true
  fails_if_open fails (Some file) = fails file

  -- the notes on a source do not change it
  abbrev pub noted_to_come : (F → Option (List ℕ)) → NotedSource F → Option (List ℕ)
  noted_to_come to_come noted = to_come_if_open to_come noted.source

  abbrev pub noted_fails : (F → Bool) → NotedSource F → Bool
  noted_fails fails noted = fails_if_open fails noted.source

  -- if a file's bytes are known, they are those of this source
  abbrev pub IsKnownAs : (F → Option (List ℕ)) → (F → Bool) → opening.Meaning → NotedSource F → Type 0
  IsKnownAs to_come fails meaning source = (bytes : List ℕ) → opening.known_of meaning ≡ Some bytes
      → (noted_to_come to_come source ≡ Some bytes) × (noted_fails fails source ≡ opening.fails_of meaning)
