use Rattle.std.proofs.Common.{◌≡◌, map, take}
use Rattle.serde_json.specs.View.{view}
use Rattle.ortho_rep.specs.Storage.{lists_in}
use Rattle.checking.specs.Values.{turns_data}
use Rattle.checking.proofs.claims.turn_lists.Given as goal

abbrev pub invariant-loop-element : goal.invariant-loop-element
invariant-loop-element l = map view (take l.element-index l.elements) ≡ map turns_data (lists_in l.strings.items)
