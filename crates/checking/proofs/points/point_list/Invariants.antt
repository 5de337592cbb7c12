use Rattle.std.proofs.Common.{◌≡◌, map, take, All}
use Rattle.serde_json.specs.View.{view}
use Rattle.checking.specs.Values.{point_data, IsShort}
use Rattle.checking.proofs.points.point_list.Given as goal

abbrev pub invariant-loop-element : goal.invariant-loop-element
invariant-loop-element l = record {
  said : map view (take l.element-index l.elements) ≡ map point_data l.points.items;
  short : All IsShort l.points.items;
}
