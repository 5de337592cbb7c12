-- The content of the messages of a fan.
use Rattle.std.specs.Prelude.{◌≡◌, ℕ, ◌<◌, Bool, true, false, List, ◌∷◌, ◌++◌, map, slice_index_or}
use Rattle.ruled_lanes.specs.FanProtocol.{of_lane}
use Rattle.lanes.specs.declared.message.Message.{Message}
use Rattle.lanes.specs.Notes.{About, Note, notes, Stop}

-- there is a stop among the notes
abbrev pub HasStop : List Note → Type 0
HasStop ns = (front : List Note) × (rest : List Note) × (ns ≡ front ++ Stop ∷ rest)

-- the messages of all lanes, in order
abbrev pub untagged : {T : Type 0} → List (ℕ × T) → List T
untagged {T} items = map (λ (x : ℕ × T). x.1) items

module _ {T M : Type 0} where
  -- each of the first lanes has stopped
  abbrev pub HaveStopped : (T → About) → ℕ → List (ℕ × Message T M) → Type 0
  HaveStopped about lanes items = (lane : ℕ) → lane < lanes → HasStop (notes about (of_lane lane items))

  -- the lanes that are flagged have stopped
  abbrev pub AreStops : (T → About) → List (ℕ × Message T M) → List Bool → Type 0
  AreStops about items stops = (lane : ℕ) → slice_index_or stops lane false ≡ true → HasStop (notes about (of_lane lane items))
