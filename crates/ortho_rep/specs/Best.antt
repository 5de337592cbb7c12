-- The face with which the fewest bends are needed, and the outer face of a choice.
use Rattle.std.specs.Prelude.{◌≡◌, ℕ, ◌<◌, ◌≤◌, List}
use Rattle.common.specs.declared.parameters.Choice.{Choice}
use Rattle.common.specs.declared.parameters.Choice.TheVariants.{First, Best}
use Rattle.faces.specs.Planes.{PlaneModel, HasGreatestOuter, darts, with_outer}
use Rattle.ortho_rep.specs.declared.turn_strings.Turn.{Turn}
use Rattle.ortho_rep.specs.Representation.{Rep, bends_of}

-- some representation of p with its outer face has this number of bends
abbrev pub HasRep : PlaneModel → ℕ → Type 0
HasRep p bends = (a : ℕ → ℕ) × (s : ℕ → List Turn) × (Rep p a s) × (bends_of (darts p) s ≡ bends)

-- each representation of p with its outer face has at least this number of bends
abbrev pub NeedsBends : PlaneModel → ℕ → Type 0
NeedsBends p bends = (a : ℕ → ℕ) (s : ℕ → List Turn) → Rep p a s → bends ≤ bends_of (darts p) s

-- the outer face is the one with which the fewest bends are needed, among equals the one with the least number
pub record IsBest (p : PlaneModel) : Type 0 where
  pub bends : ℕ
  pub some : HasRep p bends
  -- whichever face is the outer one, at least as many are needed
  pub fewest : (f : ℕ) → f < p.faces → NeedsBends (with_outer p f) bends
  -- a face with which as few suffice has a number at least as great
  pub first : (f : ℕ) → f < p.faces → HasRep (with_outer p f) bends → p.outer ≤ f

-- the outer face is the one of the choice
abbrev pub IsChosen : Choice → PlaneModel → Type 0
IsChosen First p = HasGreatestOuter p
IsChosen Best p = IsBest p
