-- What C asks for: an outer face and a drawing, by numbers, and conditions.
use Rattle.std.specs.Prelude.{◌≡◌, ℕ, zero, suc, [], Option, Some, None}
use Rattle.common.specs.declared.parameters.Choice.{Choice}
use Rattle.common.specs.declared.parameters.Choice.TheVariants.{First, Best}
use Rattle.common.specs.declared.parameters.DrawingKind.{DrawingKind}
use Rattle.common.specs.declared.parameters.DrawingKind.TheVariants.{Quick, Short}
use Rattle.conditions.specs.declared.conditions.Conditions.{Conditions}

-- the choice of an outer face with this number
abbrev pub choice_in : ℕ → Option Choice
choice_in zero = Some First
choice_in (suc zero) = Some Best
choice_in (suc (suc _)) = None

-- the kind of drawing with this number, where 0 asks for none
abbrev pub drawing_in : ℕ → Option (Option DrawingKind)
drawing_in zero = Some None
drawing_in (suc zero) = Some (Some Quick)
drawing_in (suc (suc zero)) = Some (Some Short)
drawing_in (suc (suc (suc _))) = None

-- the kind of drawing that a shape is for: the one that is asked for, or a quick one where none is
abbrev pub shape_kind : Option DrawingKind → DrawingKind
shape_kind (Some kind) = kind
shape_kind None = Quick

-- there are no conditions
pub record AsksNothing (conditions : Conditions) : Type 0 where
  pub turns : conditions.turns.now ≡ []
  pub angles : conditions.angles.now ≡ []
  pub inner : conditions.inner.now ≡ []
