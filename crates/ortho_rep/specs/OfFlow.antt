-- The representation of a flow in a plane's network with what is given: arc d is the corner arc of dart d, and of D darts
-- arc D + d is its crossing arc.
use Rattle.std.specs.Prelude.{ℕ, ◌+◌, ℤ, List, ◌++◌, replicate, Option, Some, None}
use Rattle.faces.specs.Planes.{PlaneModel, darts, reverse_dart}
use Rattle.flow_network.specs.Given.{GivenModel, angle_given, turns_given}
use Rattle.ortho_rep.specs.declared.turn_strings.Turn.{Turn}
use Rattle.ortho_rep.specs.declared.turn_strings.Turn.TheVariants.{Left, Right}
use Rattle.ortho_rep.specs.Keeping.{one_way}

-- l left turns and then r right turns
abbrev pub lefts_then_rights : ℕ → ℕ → List Turn
lefts_then_rights l r = replicate l Left ++ replicate r Right

-- the angle that is given, or else what a corner arc carries and one more
abbrev pub angle_or : Option ℕ → ℕ → ℕ
angle_or None units = units + 1
angle_or (Some k) units = k

abbrev pub angles_of : GivenModel → (ℕ → ℕ) → ℕ → ℕ
angles_of given x d = angle_or (angle_given given d) (x d)

-- the turns that are given, or else as many to the left as the crossing arc of a dart carries units, and as many to the
-- right as that of its reverse does
abbrev pub turns_or : Option ℤ → ℕ → ℕ → List Turn
turns_or None l r = lefts_then_rights l r
turns_or (Some t) l r = one_way t

abbrev pub strings_of : PlaneModel → GivenModel → (ℕ → ℕ) → ℕ → List Turn
strings_of p given x d = turns_or (turns_given p given d) (x (darts p + d)) (x (darts p + reverse_dart p d))
