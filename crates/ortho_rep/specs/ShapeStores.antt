-- What a stored shape stands for, and that its strings are short.
use Rattle.ortho_rep.specs.declared.shape.ShapeStore.{ShapeStore}
use Rattle.ortho_rep.specs.declared.shape.ShapeStore.TheVariants.{OneSided, Lists}
use Rattle.ortho_rep.specs.Shapes.{ShapeModel}
use Rattle.ortho_rep.specs.Repeats.{AreRepeats, shape_in}
use Rattle.ortho_rep.specs.Storage.{HasFewTurns, lists_in}

abbrev pub shape_of : ShapeStore → ShapeModel
shape_of (OneSided darts) = shape_in darts.items
shape_of (Lists angles strings) = record { angles = angles.items; strings = lists_in strings.items }

-- there are at most 4,800 strings, none longer than the store allows
abbrev pub IsShort : ShapeStore → Type 0
IsShort (OneSided darts) = AreRepeats darts.items
IsShort (Lists angles strings) = HasFewTurns strings.items
