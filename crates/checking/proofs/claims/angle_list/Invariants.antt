use Rattle.std.proofs.Common.{◌≡◌, map, take}
use Rattle.serde_json.specs.View.{view}
use Rattle.checking.specs.Values.{natural}
use Rattle.checking.proofs.claims.angle_list.Given as goal

abbrev pub invariant-loop-element : goal.invariant-loop-element
invariant-loop-element l = map view (take l.element-index l.elements) ≡ map natural l.angles.items
