use Rattle.least_length.proofs.certificate.shortest_keep_order.Goals as goal

pub returns : goal.returns
returns c segments wires coordinates shortest = shortest.keeps
