use Rattle.std.proofs.Common.{◌≤◌, arith}
use Rattle.least_length.specs.Lengths.{total_length}
use Rattle.least_length.proofs.certificate.shortest_are_equally_long.Goals as goal

pub returns : goal.returns
returns c segments wires first second one other =
    let no_more : total_length wires first ≤ total_length wires second = one.least second other.keeps in
    let no_less : total_length wires second ≤ total_length wires first = other.least first one.keeps in
    omega arith
