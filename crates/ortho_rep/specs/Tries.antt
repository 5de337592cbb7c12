-- What is known of the faces of a plane that were tried as outer faces.
use Rattle.std.specs.Prelude.{◌≡◌, ℕ, ◌<◌, ◌≤◌, List, length, slice_index}
use Rattle.faces.specs.Planes.{PlaneModel, darts, with_outer}
use Rattle.flow_network.specs.FaceNet.{IsFaceNetOf}
use Rattle.ortho_rep.specs.declared.best.Incumbent.{Incumbent}
use Rattle.ortho_rep.specs.declared.best.Moving.{Moving}
use Rattle.ortho_rep.specs.declared.best.Walk.{Walk}
use Rattle.ortho_rep.specs.Best.{HasRep, NeedsBends}

-- the flow that moves stands at the outer face of p
pub record IsMoving (p : PlaneModel) (moving : Moving) : Type 0 where
  pub net : IsFaceNetOf p moving.net
  pub same : moving.warm_start ≡ moving.net.network

-- a face, and how many bends are needed with it as the outer one
pub record IsIncumbent (p : PlaneModel) (incumbent : Incumbent) : Type 0 where
  pub named : incumbent.face < p.faces
  pub some : HasRep (with_outer p incumbent.face) incumbent.bends
  pub needs : NeedsBends (with_outer p incumbent.face) incumbent.bends

-- an incumbent is another one, or better: fewer bends, or as many and a lesser number
pub record IsNoWorse (incumbent other : Incumbent) : Type 0 where
  pub fewer : incumbent.bends ≤ other.bends
  pub first : incumbent.bends ≡ other.bends → incumbent.face ≤ other.face

-- the face f is no better than `face`, with this number of bends: at least as many are needed with it, and if as few
-- suffice it has no lesser number
pub record IsNoBetter (p : PlaneModel) (bends face f : ℕ) : Type 0 where
  pub fewest : NeedsBends (with_outer p f) bends
  pub first : HasRep (with_outer p f) bends → face ≤ f

-- with each face as the outer one at least as many bends are needed as the list has at its place
pub record AreBounds (p : PlaneModel) (bounds : List ℕ) : Type 0 where
  pub each : (f : ℕ) → f < p.faces → NeedsBends (with_outer p f) (slice_index bounds f)

-- a tour has room for each face and each dart
pub record HasRoom (p : PlaneModel) (walk : Walk) : Type 0 where
  pub faces : p.faces ≤ length walk.seen.items
  pub darts : darts p ≤ length walk.tree_darts.items
