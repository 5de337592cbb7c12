use Rattle.std.proofs.Common.{◌≡◌, false, take}
use Rattle.file_order.specs.Concatenated.{concatenated}
use Rattle.file_order.specs.Writing.{GoesOn}
use Rattle.file_order.proofs.chunks.Chunks.put.Given as goal

abbrev pub invariant-loop-chunk : goal.invariant-loop-chunk
invariant-loop-chunk g l = record {
  stands : g.S.Sink.failed l.sink ≡ false;
  goes : GoesOn (g.S.Sink.taken l.initial.sink) l.initial.buffer (g.S.Sink.taken l.sink) l.buffer (concatenated (take l.chunk-index l.chunk-items));
}
