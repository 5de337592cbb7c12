-- The definitions, computed on small planes by hand.
use Rattle.std.proofs.Common.{◌≡◌, [], ◌∷◌, refl}
use Rattle.std.specs.Prelude.{pos, negsuc}
use Rattle.faces.specs.Planes.{PlaneModel, reverse_dart, next, darts}
use Rattle.ortho_rep.specs.declared.turn_strings.Turn.TheVariants.{Left, Right}
use Rattle.ortho_rep.specs.Shapes.{ShapeModel, angle_at, turns_at}
use Rattle.ortho_rep.specs.Turns.{mirrored}
use Rattle.ortho_rep.specs.Representation.{angles_around, turning_around, whole_turn, bends_of}

-- three vertices, each joined to both others; dart 0 lies on the outer face
abbrev triangle : PlaneModel
triangle = record { lists = (2 ∷ 3 ∷ []) ∷ (3 ∷ 1 ∷ []) ∷ (1 ∷ 2 ∷ []) ∷ []; face = 0 ∷ 1 ∷ 0 ∷ 1 ∷ 0 ∷ 1 ∷ []; faces = 2; outer = 0 }

triangle-reverse_dart : reverse_dart triangle 0 ≡ 3
triangle-reverse_dart = refl

triangle-next : next triangle 5 ≡ 3
triangle-next = refl

-- one bend, on the edge from 1 to 3
abbrev one_bend : ShapeModel
one_bend = record { angles = 3 ∷ 1 ∷ 3 ∷ 1 ∷ 3 ∷ 1 ∷ []; strings = [] ∷ (Left ∷ []) ∷ [] ∷ [] ∷ (Right ∷ []) ∷ [] ∷ [] }

one_bend-strings : turns_at one_bend (reverse_dart triangle 1) ≡ mirrored (turns_at one_bend 1)
one_bend-strings = refl

one_bend-around : angles_around triangle (angle_at one_bend) 1 ≡ 4
one_bend-around = refl

one_bend-inner : turning_around triangle (angle_at one_bend) (turns_at one_bend) 1 ≡ pos 4
one_bend-inner = refl

one_bend-outer : turning_around triangle (angle_at one_bend) (turns_at one_bend) 0 ≡ negsuc 3
one_bend-outer = refl

one_bend-bends : bends_of (darts triangle) (turns_at one_bend) ≡ 1
one_bend-bends = refl

-- a bend on each edge
abbrev three_bends : ShapeModel
three_bends = record { angles = 2 ∷ 2 ∷ 2 ∷ 1 ∷ 3 ∷ 2 ∷ []; strings = (Right ∷ []) ∷ (Left ∷ []) ∷ (Right ∷ []) ∷ (Left ∷ []) ∷ (Right ∷ []) ∷ (Left ∷ []) ∷ [] }

three_bends-around : angles_around triangle (angle_at three_bends) 3 ≡ 4
three_bends-around = refl

three_bends-inner : turning_around triangle (angle_at three_bends) (turns_at three_bends) 1 ≡ whole_turn triangle 1
three_bends-inner = refl

three_bends-outer : turning_around triangle (angle_at three_bends) (turns_at three_bends) 0 ≡ whole_turn triangle 0
three_bends-outer = refl

three_bends-bends : bends_of (darts triangle) (turns_at three_bends) ≡ 3
three_bends-bends = refl

-- five vertices in a row, with one face
abbrev path : PlaneModel
path = record { lists = (2 ∷ []) ∷ (1 ∷ 3 ∷ []) ∷ (2 ∷ 4 ∷ []) ∷ (3 ∷ 5 ∷ []) ∷ (4 ∷ []) ∷ []; face = 0 ∷ 0 ∷ 0 ∷ 0 ∷ 0 ∷ 0 ∷ 0 ∷ 0 ∷ []; faces = 1; outer = 0 }

-- three corners to the left, no bend
abbrev rolled : ShapeModel
rolled = record { angles = 1 ∷ 4 ∷ 1 ∷ 3 ∷ 1 ∷ 3 ∷ 4 ∷ 3 ∷ []; strings = [] ∷ [] ∷ [] ∷ [] ∷ [] ∷ [] ∷ [] ∷ [] ∷ [] }

rolled-around : angles_around path (angle_at rolled) 2 ≡ 4
rolled-around = refl

rolled-outer : turning_around path (angle_at rolled) (turns_at rolled) 0 ≡ negsuc 3
rolled-outer = refl

rolled-bends : bends_of (darts path) (turns_at rolled) ≡ 0
rolled-bends = refl
