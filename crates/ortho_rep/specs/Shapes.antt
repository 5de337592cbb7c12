-- What callers see of a `Shape`: the angle and the string of turns of each dart.
use Rattle.std.specs.Prelude.{ℕ, List, [], slice_index, slice_index_or}
use Rattle.ortho_rep.specs.declared.turn_strings.Turn.{Turn}

-- angle d and string d belong to dart d; an angle is counted in right angles
pub record ShapeModel : Type 0 where
  pub angles : List ℕ
  pub strings : List (List Turn)

-- the angle at the head of dart d, between d and the next dart of its face
abbrev pub angle_at : ShapeModel → ℕ → ℕ
angle_at shape d = slice_index shape.angles d

-- the turns along dart d, in walking order
abbrev pub turns_at : ShapeModel → ℕ → List Turn
turns_at shape d = slice_index_or shape.strings d []
