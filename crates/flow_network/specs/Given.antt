-- What is given of a shape: of each dart perhaps the angle at its head, and of each edge perhaps the turns along it. Place d
-- of each list belongs to dart d. The turns of an edge stand at its lesser dart; what stands at the other one is not read.
use Rattle.std.specs.Prelude.{ℕ, ◌-◌, ◌≤◌, ℤ, pos, neg_ℤ, nat_abs, List, [], length, slice_index_or, Option, Some, None, All, if◌then◌else◌, ⊤}
use Rattle.common.specs.Sums.{sum_below}
use Rattle.embedding.specs.Lesser.{is_lesser_of}
use Rattle.faces.specs.Planes.{PlaneModel, reverse_dart}
use Rattle.flow_network.specs.declared.given_shape.TheConstants.{MAX_GIVEN_TURNS}

-- angles in right angles; turns to the left, a negative number being turns to the right
pub record GivenModel : Type 0 where
  pub angles : List (Option ℕ)
  pub turns : List (Option ℤ)

abbrev pub nothing_given : GivenModel
nothing_given = record { angles = []; turns = [] }

-- the angle that is given at the head of dart d; past the end of the list none is
abbrev pub angle_given : GivenModel → ℕ → Option ℕ
angle_given given d = slice_index_or given.angles d None

-- the same turns, met in walking the other way
abbrev pub walked_back : Option ℤ → Option ℤ
walked_back None = None
walked_back (Some t) = Some (neg_ℤ t)

-- the turns that are given along dart d
abbrev pub turns_given : PlaneModel → GivenModel → ℕ → Option ℤ
turns_given p given d =
    if is_lesser_of p.lists d
    then slice_index_or given.turns d None
    else walked_back (slice_index_or given.turns (reverse_dart p d) None)

-- how many right angles beyond the first a given angle has, and how many turns to the left given turns have
abbrev pub beyond_first : Option ℕ → ℕ
beyond_first None = 0
beyond_first (Some k) = k - 1

abbrev pub lefts_given : Option ℤ → ℤ
lefts_given None = pos 0
lefts_given (Some t) = t

-- an angle is 1 to 4 right angles
abbrev pub IsAngle : Option ℕ → Type 0
IsAngle None = ⊤
IsAngle (Some k) = (1 ≤ k) × (k ≤ 4)

-- how many turns all edges of a list have that are given
abbrev pub turns_in_all : List (Option ℤ) → ℕ
turns_in_all turns = sum_below (length turns) (λ d. nat_abs (lefts_given (slice_index_or turns d None)))

-- angles and turns that can be given
pub record CanBeGiven (angles : List (Option ℕ)) (turns : List (Option ℤ)) : Type 0 where
  pub are_angles : All IsAngle angles
  pub few : turns_in_all turns ≤ MAX_GIVEN_TURNS
