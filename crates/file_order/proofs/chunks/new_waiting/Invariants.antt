use Rattle.std.proofs.Common.{◌≡◌, All, length}
use Rattle.file_order.specs.Waits.{IsNothing}
use Rattle.file_order.proofs.chunks.new_waiting.Given as goal

abbrev pub invariant-loop : goal.invariant-loop
invariant-loop l = record {
  count : length l.waiting.items ≡ l.counter;
  empty : All IsNothing l.waiting.items;
}
