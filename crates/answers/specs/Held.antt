-- Values that are put in a holder.
use Rattle.std.specs.Prelude.{◌≡◌, ◌⊎◌, Result, Ok, Err, IsOk}
use Rattle.embedding.specs.declared.breaks.ReadFault.{ReadFault}
use Rattle.embedding.specs.declared.breaks.ReadFault.TheVariants.{Memory}

-- the value is held, or its fault stays, or there was no memory for a holder
abbrev pub IsHeld : {T : Type 0} → Result T ReadFault → Result T ReadFault → Type 0
IsHeld value (Ok held) = value ≡ Ok held
IsHeld value (Err fault) = (value ≡ Err fault) ⊎ ((fault ≡ Memory) × IsOk value)
