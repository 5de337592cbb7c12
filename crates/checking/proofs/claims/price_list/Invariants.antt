use Rattle.std.proofs.Common.{◌≡◌, map, take, Some, All}
use Rattle.serde_json.specs.View.{view}
use Rattle.checking.specs.Values.{integer_of, IsOf32Bits}
use Rattle.checking.proofs.claims.price_list.Given as goal

abbrev pub invariant-loop-element : goal.invariant-loop-element
invariant-loop-element l = record {
  said : map integer_of (map view (take l.element-index l.elements)) ≡ map Some l.prices.items;
  within : All IsOf32Bits l.prices.items;
}
