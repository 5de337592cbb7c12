-- Faults of the shape that points have: of the first vertex, of no outer face, of a meeting.
use Rattle.std.proofs.Common.{◌≡◌, ◌≢◌, ◌<◌, ℕ, refl, sym, ap, ◌∙◌, subst, ⊎_elim}
use Rattle.std.specs.Prelude.{pos, negsuc}
use Rattle.std.proofs.lemmas.Bool.{cases_eq}
use Rattle.faces.specs.Planes.{PlaneModel, with_outer}
use Rattle.ortho_rep.specs.Shapes.{ShapeModel, angle_at, turns_at}
use Rattle.ortho_rep.specs.Points.{PointsModel}
use Rattle.ortho_rep.specs.Representation.{IsShape, HasDarts, turning_around}
use Rattle.drawing_check.specs.declared.drawing.CheckFault.{CheckFault}
use Rattle.drawing_check.specs.declared.drawing.CheckFault.TheVariants as check
use Rattle.drawing_check.specs.Paths.{paths}
use Rattle.drawing_check.specs.Draws.{AreInGrid, AreOnAxes, MeetNowhere}
use Rattle.drawing_check.specs.Faults.{IsFirstFault}
use Rattle.referee.specs.declared.judge.Fault.{Fault}
use Rattle.referee.specs.declared.judge.Fault.TheVariants.{Vertices, Edges, Long, VertexOutOfGrid, CornerOutOfGrid, NotAxis, NoTurn, Embedding, Outer, Meet, Memory}
use Rattle.referee.specs.Drawings.{HasBoundedPoints}
use Rattle.referee.specs.Taken.{IsTaken}
use Rattle.referee.specs.Faults.{AreOnGridLines, AreOrdered, TurnsAround, HasNoOuter, MeetSomewhere, IsFirstFailure, IsDisorderFault}
use Rattle.referee.proofs.NoDrawing.{outer_turn, inner_turn, four_is_positive, turns_there}

pub lines_of : {p : PlaneModel} {points : PointsModel} → HasBoundedPoints p points → AreInGrid points → AreOnAxes (paths p points) → AreOnGridLines p points
lines_of whole grid axes = record { whole = whole; grid = grid; axes = axes }

pub first_disorder : (p : PlaneModel) (points : PointsModel) (shape : ShapeModel) (fault : Fault) → AreOnGridLines p points → IsTaken p points shape → IsDisorderFault p shape fault → IsFirstFailure p points fault
first_disorder p points shape (Embedding v) lines taken is = record { lines = lines; shape = shape; taken = taken; first = is }
first_disorder p points shape Vertices lines taken is = absurd is
first_disorder p points shape Edges lines taken is = absurd is
first_disorder p points shape (Long e) lines taken is = absurd is
first_disorder p points shape (VertexOutOfGrid v) lines taken is = absurd is
first_disorder p points shape (CornerOutOfGrid e k) lines taken is = absurd is
first_disorder p points shape (NotAxis e k) lines taken is = absurd is
first_disorder p points shape (NoTurn e k) lines taken is = absurd is
first_disorder p points shape Outer lines taken is = absurd is
first_disorder p points shape Meet lines taken is = absurd is
first_disorder p points shape Memory lines taken is = absurd is

pub first_no_outer : (p : PlaneModel) (points : PointsModel) (shape : ShapeModel) (fault : Fault) → AreOnGridLines p points → IsTaken p points shape → AreOrdered p shape → fault ≡ Outer
    → ((f : ℕ) → f < p.faces → turning_around p (angle_at shape) (turns_at shape) f ≢ negsuc 3) → IsFirstFailure p points fault
first_no_outer p points shape fault lines taken ordered kind none =
    subst (IsFirstFailure p points) (sym kind) (record {
      lines = lines;
      shape = shape;
      taken = taken;
      ordered = ordered;
      none = λ f named turns. none f named (turns f named ∙ outer_turn p f);
    })

-- a face around which the turns are -4 is the only one that may be the outer one
pub no_outer_but : (p : PlaneModel) (points : PointsModel) (shape : ShapeModel) (g : ℕ) → AreOnGridLines p points → IsTaken p points shape → AreOrdered p shape → g < p.faces
    → turning_around p (angle_at shape) (turns_at shape) g ≡ negsuc 3 → ¬ IsShape (with_outer p g) shape → HasNoOuter p points
no_outer_but p points shape g lines taken ordered named turns never = record {
  lines = lines;
  shape = shape;
  taken = taken;
  ordered = ordered;
  none = λ f f_named around.
      ⊎_elim
      (λ same. never (subst (λ (h : ℕ). IsShape (with_outer p h) shape) (sym same) (shape_with f around)))
      (λ other. four_is_positive (sym turns ∙ around g named ∙ inner_turn p f g other))
      (cases_eq g f);
}
  where
    shape_with : (f : ℕ) → TurnsAround p shape f → IsShape (with_outer p f) shape
    shape_with f around = record {
      lengths = record { angles = taken.lengths.angles; strings = taken.lengths.strings };
      rep = record { angles = taken.angles; strings = taken.strings; around = ordered; faces = around };
    }

-- a fault of a drawing whose shape is right is a meeting
meeting_by_fault : (p : PlaneModel) (outer : ℕ) (points : PointsModel) (shape : ShapeModel) (fault : CheckFault) → AreOnGridLines p points → IsTaken p points shape → fault ≢ check.Memory
    → IsFirstFault (with_outer p outer) shape points fault → ¬ MeetNowhere points (paths p points)
meeting_by_fault p outer points shape check.OutOfGrid lines taken some is = absurd (is lines.grid)
meeting_by_fault p outer points shape check.NotAxis lines taken some is = absurd (is.1 lines.axes)
meeting_by_fault p outer points shape check.WrongTurn lines taken some is = absurd (is.2 (turns_there p outer shape points taken.turns))
meeting_by_fault p outer points shape check.Meet lines taken some is = is.3
meeting_by_fault p outer points shape check.Memory lines taken some is = absurd (some refl)

pub meets_by_fault : (p : PlaneModel) (outer : ℕ) (points : PointsModel) (shape : ShapeModel) (fault : CheckFault) → AreOnGridLines p points → IsTaken p points shape → outer < p.faces
    → IsShape (with_outer p outer) shape → fault ≢ check.Memory → IsFirstFault (with_outer p outer) shape points fault → MeetSomewhere p points
meets_by_fault p outer points shape fault lines taken named shape_is some is = record {
  lines = lines;
  outer = outer;
  named = named;
  shape = shape;
  taken = taken;
  shape_is = shape_is;
  met = meeting_by_fault p outer points shape fault lines taken some is;
}
