-- When a verdict holds of a graph, given by its neighbour lists, and of what is given for it.
use Rattle.std.specs.Prelude.{◌≡◌, ◌≢◌, ℕ, ◌<◌, Bool, true, List, length, ⊤}
use Rattle.embedding.specs.Rules.{FirstBroken}
use Rattle.faces.specs.Planes.{PlaneModel, IsPlane, with_outer}
use Rattle.ortho_rep.specs.Points.{PointsModel}
use Rattle.ortho_rep.specs.Shapes.{ShapeModel, turns_at}
use Rattle.ortho_rep.specs.Representation.{bends_of}
use Rattle.ortho_rep.specs.Best.{HasRep, NeedsBends}
use Rattle.drawing_check.specs.Regions.{HasRegions}
use Rattle.checking.specs.declared.json.LineFault.TheVariants as line
use Rattle.referee.specs.declared.claims.Claims.{Claims}
use Rattle.referee.specs.Claims.{Hold, IsFirstFalse}
use Rattle.referee.specs.declared.judge.Fault.TheVariants as drawn
use Rattle.referee.specs.Drawings.{IsDrawn, IsDrawnBy}
use Rattle.referee.specs.Faults.{IsFirstFailure}
use Rattle.checking.specs.declared.line_content.DrawingInput.{DrawingInput}
use Rattle.checking.specs.declared.line_content.DrawingInput.TheVariants as given
use Rattle.checking.specs.declared.judging.Verdict.{Verdict}
use Rattle.checking.specs.declared.judging.Verdict.TheVariants as verdict

-- where faces are asked for, each region is its face
abbrev pub KeepsFaces : Bool → PlaneModel → PointsModel → Type 0
KeepsFaces faces p points = faces ≡ true → HasRegions p points

-- these are the number of bends, and the fewest possible
pub record HasBendCounts (p : PlaneModel) (shape : ShapeModel) (bends fewest : ℕ) : Type 0 where
  pub bends_are : bends ≡ bends_of (length shape.strings) (turns_at shape)
  pub some : HasRep p fewest
  pub needed : NeedsBends p fewest

-- a verdict on a drawing, whose points draw this orthogonal representation of the plane with its outer face
abbrev pub IsFound : Bool → PlaneModel → PointsModel → ShapeModel → Claims → Verdict → Type 0
IsFound faces p points shape claims verdict.Regions = ¬ KeepsFaces faces p points
IsFound faces p points shape claims (verdict.Claim claim) = KeepsFaces faces p points × IsFirstFalse p shape claims claim
IsFound faces p points shape claims (verdict.Ok bends fewest) = KeepsFaces faces p points × Hold p shape claims × HasBendCounts p shape bends fewest
IsFound faces p points shape claims _ = ⊥

-- the points draw an orthogonal representation of the plane with this outer face, on which this is the verdict
pub record IsFoundOf (faces : Bool) (p : PlaneModel) (points : PointsModel) (claims : Claims) (v : Verdict) : Type 0 where
  pub outer : ℕ
  pub named : outer < p.faces
  pub shape : ShapeModel
  pub drawn : IsDrawnBy (with_outer p outer) points shape
  pub found : IsFound faces (with_outer p outer) points shape claims v

-- the points draw no representation: of the conditions of a drawing the one that the fault names is the first to fail, and
-- at the place that it names
abbrev pub IsVerdictOnDrawing : Bool → PlaneModel → PointsModel → Claims → Verdict → Type 0
IsVerdictOnDrawing faces p points claims (verdict.Drawn fault) =
    (fault ≢ drawn.Memory) × ¬ IsDrawn p points × IsFirstFailure p points fault
IsVerdictOnDrawing faces p points claims verdict.Memory = ⊤
IsVerdictOnDrawing faces p points claims v = IsFoundOf faces p points claims v

-- a verdict on what is given for a plane
abbrev pub IsVerdictOnPlane : Bool → PlaneModel → DrawingInput → Verdict → Type 0
IsVerdictOnPlane faces p (given.Drawing said) v = IsVerdictOnDrawing faces p said.points said.claims v
IsVerdictOnPlane faces p (given.Fault fault) (verdict.Line other) = (other ≡ fault) × (fault ≢ line.Memory)
IsVerdictOnPlane faces p (given.Fault fault) v = (v ≡ verdict.Memory) × (fault ≡ line.Memory)
IsVerdictOnPlane faces p given.Missing v = v ≡ verdict.Missing
IsVerdictOnPlane faces p given.Unread v = v ≡ verdict.Unread

-- the lists break no rule, and this is the verdict on what is given for their plane
pub record IsVerdictOnEmbedding (faces : Bool) (g : List (List ℕ)) (given : DrawingInput) (v : Verdict) : Type 0 where
  pub plane : PlaneModel
  pub lists_are : plane.lists ≡ g
  pub is_plane : IsPlane plane
  pub verdict_is : IsVerdictOnPlane faces plane given v

-- the verdict on a graph with these neighbour lists and what is given for it
abbrev pub IsVerdict : Bool → List (List ℕ) → DrawingInput → Verdict → Type 0
IsVerdict faces g given (verdict.Refused rule) = FirstBroken g rule
IsVerdict faces g given verdict.Memory = ⊤
IsVerdict faces g given v = IsVerdictOnEmbedding faces g given v
