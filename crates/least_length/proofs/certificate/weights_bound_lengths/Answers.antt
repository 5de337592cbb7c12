use Rattle.least_length.proofs.Weighing.{weights_bound}
use Rattle.least_length.proofs.certificate.weights_bound_lengths.Goals as goal

pub returns : goal.returns
returns c segments wires sights coordinates weights keeps = weights_bound segments wires sights coordinates weights keeps
