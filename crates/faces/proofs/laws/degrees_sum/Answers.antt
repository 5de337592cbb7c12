use Rattle.faces.proofs.Degrees.{degrees_sum}
use Rattle.faces.specs.Planes.{darts, face_at}
use Rattle.faces.proofs.laws.degrees_sum.Goals as goal

pub returns : goal.returns
returns c = λ p is. degrees_sum (darts p) p.faces (face_at p) is.faces.named
