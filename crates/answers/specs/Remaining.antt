-- What boxes may show in place of a drawing.
use Rattle.std.specs.Prelude.{⊤}
use Rattle.dissect.specs.Boxes.{BoxesModel}
use Rattle.reports.specs.declared.answer.Cause.{Cause}
use Rattle.reports.specs.declared.answer.Cause.TheVariants.{Wide, OutOfGrid, NotAxis, WrongTurn, Meet}
use Rattle.drawing_laws.specs.Least.{HasNoCoordinates}

-- `Wide` only where no coordinates at all grow along the darts of the boxes, and `OutOfGrid` never
abbrev pub MayShow : BoxesModel → Cause → Type 0
MayShow boxes Wide = HasNoCoordinates boxes
MayShow boxes OutOfGrid = ⊥
MayShow boxes NotAxis = ⊤
MayShow boxes WrongTurn = ⊤
MayShow boxes Meet = ⊤
