use Rattle.ortho_rep.specs.Shapes.{angle_at, turns_at}
use Rattle.ortho_rep.specs.Prices.{vertex_price, face_price}
use Rattle.ortho_rep.proofs.WeakDuality.{least_by_prices}
use Rattle.faces.proofs.Ends.{plane_ends}
use Rattle.drawing_laws.proofs.StrongDuality.{least_priced}
use Rattle.drawing_laws.proofs.laws.least_is_priced.Goals as goal

pub returns : goal.returns
returns c p shape plane is = (
  λ least. least_priced p shape plane is least,
  λ (t, proof). least_by_prices p (angle_at shape) (turns_at shape) (vertex_price t) (face_price t) (plane_ends p plane) is.rep proof.prove,
)
