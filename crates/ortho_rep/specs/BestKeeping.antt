-- The best outer face among those that are not barred, with what is given kept.
use Rattle.std.specs.Prelude.{◌≡◌, ℕ, ◌<◌, ◌≤◌, Bool, false, List, Option, Some, None, nat_lt, if◌then◌else◌}
use Rattle.faces.specs.Planes.{PlaneModel, darts, with_outer}
use Rattle.flow_network.specs.Marks.{is_marked}
use Rattle.flow_network.specs.Given.{GivenModel}
use Rattle.ortho_rep.specs.declared.turn_strings.Turn.{Turn}
use Rattle.ortho_rep.specs.declared.best.Incumbent.{Incumbent}
use Rattle.ortho_rep.specs.Representation.{Rep, bends_of}
use Rattle.ortho_rep.specs.Keeping.{Keeps, HasNoneKeeping}

-- some representation of p with its outer face keeps what is given and has this number of bends
abbrev pub HasRepKeeping : PlaneModel → GivenModel → ℕ → Type 0
HasRepKeeping p given bends = (a : ℕ → ℕ) × (s : ℕ → List Turn) × (Rep p a s) × (Keeps p given a s) × (bends_of (darts p) s ≡ bends)

-- each representation that keeps what is given has at least this number
abbrev pub NeedsBendsKeeping : PlaneModel → GivenModel → ℕ → Type 0
NeedsBendsKeeping p given bends = (a : ℕ → ℕ) (s : ℕ → List Turn) → Rep p a s → Keeps p given a s → bends ≤ bends_of (darts p) s

-- a face may be the outer one: the list has no mark at its place
abbrev pub IsOpen : List Bool → ℕ → Type 0
IsOpen barred f = is_marked barred f ≡ false

-- the outer face is not barred, and of those that are not it is the one with which the fewest bends are needed to keep
-- what is given, among equals the one with the least number
pub record IsBestKeeping (p : PlaneModel) (given : GivenModel) (barred : List Bool) : Type 0 where
  pub bends : ℕ
  pub open_outer : IsOpen barred p.outer
  pub some : HasRepKeeping p given bends
  -- whichever of these faces is the outer one, at least as many are needed
  pub fewest : (f : ℕ) → f < p.faces → IsOpen barred f → NeedsBendsKeeping (with_outer p f) given bends
  -- one with which as few suffice has a number at least as great
  pub first : (f : ℕ) → f < p.faces → IsOpen barred f → HasRepKeeping (with_outer p f) given bends → p.outer ≤ f

-- with none of these faces outside is there a representation that keeps what is given
abbrev pub HasNoFace : PlaneModel → GivenModel → List Bool → Type 0
HasNoFace p given barred = (f : ℕ) → f < p.faces → IsOpen barred f → HasNoneKeeping (with_outer p f) given

-- the face f is no better than `face`, with which this number of bends is needed
pub record IsNoBetterKeeping (p : PlaneModel) (given : GivenModel) (bends face f : ℕ) : Type 0 where
  pub fewest : NeedsBendsKeeping (with_outer p f) given bends
  pub first : HasRepKeeping (with_outer p f) given bends → face ≤ f

-- a face before face n that is not barred, how many bends are needed with it, and no other one of these is better
pub record IsBestBefore (p : PlaneModel) (given : GivenModel) (barred : List Bool) (n : ℕ) (incumbent : Incumbent) : Type 0 where
  pub before : incumbent.face < n
  pub open_face : IsOpen barred incumbent.face
  pub some : HasRepKeeping (with_outer p incumbent.face) given incumbent.bends
  pub others : (f : ℕ) → f < n → IsOpen barred f → IsNoBetterKeeping p given incumbent.bends incumbent.face f

-- the best face before face n, or there is none
abbrev pub IsTriedBefore : PlaneModel → GivenModel → List Bool → ℕ → Option Incumbent → Type 0
IsTriedBefore p given barred n (Some incumbent) = IsBestBefore p given barred n incumbent
IsTriedBefore p given barred n None = (f : ℕ) → f < n → IsOpen barred f → HasNoneKeeping (with_outer p f) given

-- how many bends are needed with the plane's outer face, or `None` if there is no representation
abbrev pub IsCounted : PlaneModel → GivenModel → Option ℕ → Type 0
IsCounted p given (Some bends) = HasRepKeeping p given bends × NeedsBendsKeeping p given bends
IsCounted p given None = HasNoneKeeping p given

-- the better one of the best face so far and `face`, with which this number of bends is needed, or none will do
abbrev pub better_of : Option Incumbent → ℕ → Option ℕ → Option Incumbent
better_of best face None = best
better_of None face (Some bends) = Some (record { face = face; bends = bends })
better_of (Some incumbent) face (Some bends) = Some (if nat_lt bends incumbent.bends then record { face = face; bends = bends } else incumbent)
