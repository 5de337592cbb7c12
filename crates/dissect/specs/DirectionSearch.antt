-- How the search for directions goes on: the directions found so far, by dart, and the darts to go on from.
use Rattle.std.specs.Prelude.{◌≡◌, ◌≢◌, ℕ, ◌⊎◌, List, [], ◌∷◌, ◌++◌, slice_index, set}
use Rattle.dissect.specs.declared.dissection.TheConstants.{NO_DIRECTION}

-- the dart has a direction
abbrev pub IsKnown : List ℕ → ℕ → Type 0
IsKnown directions d = slice_index directions d ≢ NO_DIRECTION

-- either dart d had a direction and nothing changed, or it got this one and waits to be gone on from
abbrev pub IsGivenDirection : List ℕ → List ℕ → ℕ → ℕ → List ℕ → List ℕ → Type 0
IsGivenDirection directions waiting d direction directions' waiting' =
    (IsKnown directions d × (directions' ≡ directions) × (waiting' ≡ waiting))
    ⊎ ((slice_index directions d ≡ NO_DIRECTION) × (directions' ≡ set directions d direction) × (waiting' ≡ waiting ++ d ∷ []))
