-- Why points draw no representation of an embedding.
use Rattle.std.proofs.Common.{◌≡◌, ◌≢◌, ◌≤◌, ◌<◌, ℕ, cond, eqb, refl, sym, ap, ◌∙◌, subst, ⊎_elim}
use Rattle.std.specs.Prelude.{ℤ, pos, negsuc}
use Rattle.std.proofs.lemmas.Bool.{cases_eq, eq-eqb, ne_eqb, cond-true, cond-false}
use Rattle.faces.specs.Planes.{PlaneModel, HasEnds, darts, vertices, with_outer}
use Rattle.ortho_rep.specs.Shapes.{ShapeModel, angle_at, turns_at}
use Rattle.ortho_rep.specs.Points.{PointsModel}
use Rattle.ortho_rep.specs.Representation.{Rep, IsShape, HasDarts, angles_around, turning_around, whole_turn}
use Rattle.ortho_rep.proofs.Tries.{ends_turned}
use Rattle.drawing_check.specs.declared.drawing.CheckFault.{CheckFault}
use Rattle.drawing_check.specs.declared.drawing.CheckFault.TheVariants.{OutOfGrid, NotAxis, WrongTurn, Meet, Memory}
use Rattle.drawing_check.specs.Paths.{paths}
use Rattle.drawing_check.specs.Draws.{AreInGrid, AreOnAxes, HasPoints, TurnAsSaid}
use Rattle.drawing_check.specs.Faults.{IsFirstFault}
use Rattle.referee.specs.declared.judge.Fault.{Fault}
use Rattle.referee.specs.declared.judge.Fault.TheVariants as fault
use Rattle.referee.specs.declared.judge.Fault.TheVariants.{Vertices, Edges, Long, VertexOutOfGrid, CornerOutOfGrid, NoTurn, Embedding, Outer}
use Rattle.referee.specs.Drawings.{HasBoundedPoints, IsDrawn}
use Rattle.referee.specs.Faults.{IsDisorderFault}
use Rattle.referee.specs.Taken.{IsTaken}
use Rattle.referee.proofs.OnlyShape.{is_rep}

-- ---- conditions on the points alone

pub none_by_counts : (p : PlaneModel) (points : PointsModel) → ¬ HasBoundedPoints p points → ¬ IsDrawn p points
none_by_counts p points never is =
    let whole = is.drawn.whole in
    let counts : HasPoints p points = record { vertex_count = whole.counted.vertex_count; edge_count = whole.counted.edge_count } in
    never (record { counted = counts; short = whole.short })

pub none_by_grid : (p : PlaneModel) (points : PointsModel) → ¬ AreInGrid points → ¬ IsDrawn p points
none_by_grid p points never is = never is.drawn.draws.grid

pub none_by_axes : (p : PlaneModel) (points : PointsModel) → ¬ AreOnAxes (paths p points) → ¬ IsDrawn p points
none_by_axes p points never is = never is.drawn.draws.axes

turns_back : (p : PlaneModel) (outer : ℕ) (shape : ShapeModel) (points : PointsModel) → TurnAsSaid (with_outer p outer) shape points → TurnAsSaid p shape points
turns_back p outer shape points is = record { edges = is.edges; heads = is.heads }

pub turns_there : (p : PlaneModel) (outer : ℕ) (shape : ShapeModel) (points : PointsModel) → TurnAsSaid p shape points → TurnAsSaid (with_outer p outer) shape points
turns_there p outer shape points is = record { edges = is.edges; heads = is.heads }

pub none_by_turns : (p : PlaneModel) (points : PointsModel) → ((shape : ShapeModel) → ¬ TurnAsSaid p shape points) → ¬ IsDrawn p points
none_by_turns p points never is = never is.shape (turns_back p is.outer is.shape points is.drawn.draws.turns)

-- ---- conditions on the shape that is taken from them

taken_there : (p : PlaneModel) (outer : ℕ) (points : PointsModel) (shape : ShapeModel) → IsTaken p points shape → IsTaken (with_outer p outer) points shape
taken_there p outer points shape is = record {
  lengths = record { angles = is.lengths.angles; strings = is.lengths.strings };
  angles = is.angles;
  strings = is.strings;
  turns = turns_there p outer shape points is.turns;
}

-- where some representation is drawn, the shape is it
taken_is_rep : (p : PlaneModel) (points : PointsModel) (shape : ShapeModel) → HasEnds p → IsTaken p points shape → (is : IsDrawn p points) → Rep (with_outer p is.outer) (angle_at shape) (turns_at shape)
taken_is_rep p points shape ends taken is =
    is_rep (with_outer p is.outer) points shape is.shape (ends_turned p is.outer ends) (taken_there p is.outer points shape taken) is.drawn.shape_is.rep is.drawn.draws.turns

none_by_vertex : (p : PlaneModel) (points : PointsModel) (shape : ShapeModel) (v : ℕ) → HasEnds p → IsTaken p points shape → 1 ≤ v → v ≤ vertices p → angles_around p (angle_at shape) v ≢ 4 → ¬ IsDrawn p points
none_by_vertex p points shape v ends taken from to never is = never ((taken_is_rep p points shape ends taken is).around v from to)

pub none_by_disorder : (p : PlaneModel) (points : PointsModel) (shape : ShapeModel) (fault : Fault) → HasEnds p → IsTaken p points shape → IsDisorderFault p shape fault → ¬ IsDrawn p points
none_by_disorder p points shape (Embedding v) ends taken is = none_by_vertex p points shape v ends taken is.here.0 is.here.1 is.here.2
none_by_disorder p points shape Vertices ends taken is = absurd is
none_by_disorder p points shape Edges ends taken is = absurd is
none_by_disorder p points shape (Long e) ends taken is = absurd is
none_by_disorder p points shape (VertexOutOfGrid v) ends taken is = absurd is
none_by_disorder p points shape (CornerOutOfGrid e k) ends taken is = absurd is
none_by_disorder p points shape (fault.NotAxis e k) ends taken is = absurd is
none_by_disorder p points shape (NoTurn e k) ends taken is = absurd is
none_by_disorder p points shape Outer ends taken is = absurd is
none_by_disorder p points shape fault.Meet ends taken is = absurd is
none_by_disorder p points shape fault.Memory ends taken is = absurd is

pub outer_turn : (p : PlaneModel) (f : ℕ) → whole_turn (with_outer p f) f ≡ negsuc 3
outer_turn p f = cond-true (eqb f f) (negsuc 3) (pos 4) (eq-eqb f f refl)

pub inner_turn : (p : PlaneModel) (f g : ℕ) → g ≢ f → whole_turn (with_outer p f) g ≡ pos 4
inner_turn p f g other = cond-false (eqb g f) (negsuc 3) (pos 4) (ne_eqb g f other)

pub none_by_outer : (p : PlaneModel) (points : PointsModel) (shape : ShapeModel) → HasEnds p → IsTaken p points shape → ((f : ℕ) → f < p.faces → turning_around p (angle_at shape) (turns_at shape) f ≢ negsuc 3) → ¬ IsDrawn p points
none_by_outer p points shape ends taken never is =
    never is.outer is.named ((taken_is_rep p points shape ends taken is).faces is.outer is.named ∙ outer_turn p is.outer)

pub four_is_positive : negsuc 3 ≡ pos 4 → ⊥
four_is_positive same = cc

pub none_by_shape : (p : PlaneModel) (points : PointsModel) (shape : ShapeModel) (g : ℕ) → HasEnds p → IsTaken p points shape → g < p.faces → turning_around p (angle_at shape) (turns_at shape) g ≡ negsuc 3 → ¬ IsShape (with_outer p g) shape → ¬ IsDrawn p points
none_by_shape p points shape g ends taken named turns never is =
    let rep = taken_is_rep p points shape ends taken is in
    ⊎_elim
    (λ same. never (subst (λ (f : ℕ). IsShape (with_outer p f) shape) (sym same)
    (record { lengths = record { angles = taken.lengths.angles; strings = taken.lengths.strings }; rep = rep })))
    (λ other. four_is_positive (sym turns ∙ rep.faces g named ∙ inner_turn p is.outer g other))
    (cases_eq g is.outer)

pub none_by_fault : (p : PlaneModel) (outer : ℕ) (points : PointsModel) (shape : ShapeModel) (fault : CheckFault) → IsTaken p points shape → fault ≢ Memory → IsFirstFault (with_outer p outer) shape points fault → ¬ IsDrawn p points
none_by_fault p outer points shape OutOfGrid taken some is = none_by_grid p points is
none_by_fault p outer points shape NotAxis taken some is = none_by_axes p points is.1
none_by_fault p outer points shape WrongTurn taken some is = absurd (is.2 (turns_there p outer shape points taken.turns))
none_by_fault p outer points shape Meet taken some is = λ drawn. is.3 drawn.drawn.draws.apart
none_by_fault p outer points shape Memory taken some is = absurd (some refl)
