use Rattle.std.proofs.Common.{◌≡◌, map, take, All}
use Rattle.serde_json.specs.View.{view}
use Rattle.ortho_rep.specs.Storage.{lists_in}
use Rattle.checking.specs.Values.{list_data, IsShort}
use Rattle.checking.proofs.points.corner_lists.Given as goal

abbrev pub invariant-loop-element : goal.invariant-loop-element
invariant-loop-element l = record {
  said : map view (take l.element-index l.elements) ≡ map list_data (lists_in l.lists.items);
  short : All (All IsShort) (lists_in l.lists.items);
}
