use Rattle.std.proofs.Common.{◌≡◌, ◌≤◌, map, take}
use Rattle.std.specs.List.{count_by}
use Rattle.named_sources.specs.Naming.{is_input}
use Rattle.command_line.proofs.reading.inputs_among.Given as goal

abbrev pub invariant-loop-file : goal.invariant-loop-file
invariant-loop-file l = record {
  few : l.count ≤ l.file-index;
  counted : l.count ≡ count_by is_input (map (λ file. file.now) (take l.file-index l.files));
}
