use Rattle.faces.proofs.Sets.{number_is_face, face_has_number}
use Rattle.faces.proofs.laws.faces_are_numbered.Goals as goal

pub returns : goal.returns
returns c = λ n f next face h. (number_is_face n next face f h, face_has_number n next face f h)
