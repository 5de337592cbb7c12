use Rattle.std.proofs.Common.{◌<◌, length, arith}
use Rattle.embedding.specs.Walk.{at}
use Rattle.embedding.proofs.Degrees.{degree_few}
use Rattle.embedding.proofs.genus.count_degrees.Goals as goal

pub overflow_add-degrees : goal.overflow_add-degrees
overflow_add-degrees c =
    let face = c.from.result in
    let named : face < length c.loop-face.degrees = omega (arith, c.requires.named c.loop-face.face-index (omega arith), c.loop-face.invariant.size) in
    omega (arith, c.loop-face.invariant.degrees face named, degree_few c.loop-face.face-index (at c.args.faces.now) face)
