-- Lists of what is asked for, by darts, while conditions are put into them one after another.
use Rattle.std.specs.Prelude.{◌≡◌, ◌≢◌, ℕ, ◌<◌, ◌≤◌, ◌^◌, ◌↔◌, if◌then◌else◌, ℤ, neg_ℤ, nat_abs, true, false, List, length, slice_index_or, slice_set, Option, Some, None}
use Rattle.embedding.specs.Lesser.{is_lesser_of}
use Rattle.faces.specs.Planes.{PlaneModel, darts, reverse_dart}
use Rattle.flow_network.specs.Given.{lefts_given}
use Rattle.conditions.specs.declared.conditions.AngleAt.{AngleAt}
use Rattle.conditions.specs.declared.conditions.TurnsAlong.{TurnsAlong}
use Rattle.conditions.specs.Asked.{AsksAngle, AsksTurns}

-- each dart has the angle that is asked for there
pub record AreAngles (p : PlaneModel) (list : List AngleAt) (found : List (Option ℕ)) : Type 0 where
  pub size : length found ≡ darts p
  pub each : (d : ℕ) → d < darts p → (k : ℕ) → (slice_index_or found d None ≡ Some k) ↔ AsksAngle p list d k

-- each lesser dart has the turns that are asked for along its edge, and no other dart has any
pub record AreTurns (p : PlaneModel) (list : List TurnsAlong) (found : List (Option ℤ)) : Type 0 where
  pub size : length found ≡ darts p
  pub lesser : (d : ℕ) → d < darts p → is_lesser_of p.lists d ≡ true → (t : ℤ) → (slice_index_or found d None ≡ Some t) ↔ AsksTurns p list d t
  pub greater : (d : ℕ) → d < darts p → is_lesser_of p.lists d ≡ false → slice_index_or found d None ≡ None

-- turns, if there are any, are at most so many to either side
abbrev pub AreFew : Option ℤ → Type 0
AreFew turns = nat_abs (lefts_given turns) ≤ 2 ^ 15

-- the lesser dart of a dart's edge
abbrev pub lesser_of : PlaneModel → ℕ → ℕ
lesser_of p d = if is_lesser_of p.lists d then d else reverse_dart p d

-- t turns along a dart, as turns along the lesser one of its edge
abbrev pub along_lesser : PlaneModel → ℕ → ℤ → ℤ
along_lesser p d t = if is_lesser_of p.lists d then t else neg_ℤ t

-- a value is put at a place, where no other one was
pub record IsPut {A : Type 0} (place : ℕ) (value : A) (old new : List (Option A)) : Type 0 where
  pub put : new ≡ slice_set old place (Some value)
  pub no_other : (held : A) → slice_index_or old place None ≡ Some held → held ≡ value

-- another one is there
pub record HoldsOther {A : Type 0} (place : ℕ) (value : A) (old : List (Option A)) : Type 0 where
  pub held : A
  pub is_held : slice_index_or old place None ≡ Some held
  pub differs : held ≢ value
