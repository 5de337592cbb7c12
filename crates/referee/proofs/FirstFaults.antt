-- Faults of one path, and that they are the first of all edges.
use Rattle.std.proofs.Common.{◌≡◌, ◌≢◌, ℕ, ◌+◌, ◌<◌, ◌≤◌, ◌⊎◌, true, List, [], All, get_or, length, refl, sym, ap, ◌∙◌, subst, ⊎_elim, inl, inr, arith}
use Rattle.std.proofs.lemmas.Bool.{cases_lt}
use Rattle.std.proofs.lemmas.List.{get_or_past}
use Rattle.geometry.specs.declared.direction.Direction.{Direction}
use Rattle.geometry.specs.declared.direction.Direction.TheVariants.{East, North, West, South}
use Rattle.geometry.specs.Directions.{opposite_of}
use Rattle.faces.specs.Planes.{PlaneModel, darts}
use Rattle.ortho_rep.specs.declared.turn_strings.Turn.{Turn}
use Rattle.ortho_rep.specs.declared.turn_strings.Turn.TheVariants.{Left, Right}
use Rattle.ortho_rep.specs.declared.grid_points.Point.{Point}
use Rattle.ortho_rep.specs.Points.{PointsModel, origin, corners_at}
use Rattle.ortho_rep.specs.Edges.{is_lesser, edge_number}
use Rattle.drawing_check.specs.Paths.{path_along}
use Rattle.drawing_check.specs.Draws.{IsInGrid, AreInGrid, IsOnAxes, IsTurning, turned, direction_of}
use Rattle.referee.specs.declared.judge.Fault.{Fault}
use Rattle.referee.specs.declared.judge.Fault.TheVariants.{Vertices, Edges, Long, VertexOutOfGrid, CornerOutOfGrid, NotAxis, NoTurn, Embedding, Outer, Meet, Memory}
use Rattle.referee.specs.Drawings.{HasBoundedPoints}
use Rattle.referee.specs.Faults.{IsFirst, IsFirstOnEdges, IsOutside, IsCornerOutside, IsSlanted, IsStraight, path_of_edge, AreOnGridLines, IsFirstFailure, IsCornerFault, IsAxisFault, IsTurnFault}
use Rattle.referee.proofs.EdgePaths.{HasDart, dart_of_edge, path_of_lesser}

-- ---- a quarter turn leads neither on nor back

pub on_or_back : (heading onward : Direction) → ((turn : Turn) → onward ≢ turned turn heading) → (onward ≡ heading) ⊎ (onward ≡ opposite_of heading)
on_or_back East East none = inl refl
on_or_back East North none = absurd (none Left refl)
on_or_back East West none = inr refl
on_or_back East South none = absurd (none Right refl)
on_or_back North East none = absurd (none Right refl)
on_or_back North North none = inl refl
on_or_back North West none = absurd (none Left refl)
on_or_back North South none = inr refl
on_or_back West East none = inr refl
on_or_back West North none = absurd (none Right refl)
on_or_back West West none = inl refl
on_or_back West South none = absurd (none Left refl)
on_or_back South East none = absurd (none Left refl)
on_or_back South North none = inr refl
on_or_back South West none = absurd (none Right refl)
on_or_back South South none = inl refl

neither : (turn : Turn) (heading : Direction) → ((turned turn heading ≡ heading) ⊎ (turned turn heading ≡ opposite_of heading)) → ⊥
neither Left East (inl e) = cc
neither Left East (inr e) = cc
neither Left North (inl e) = cc
neither Left North (inr e) = cc
neither Left West (inl e) = cc
neither Left West (inr e) = cc
neither Left South (inl e) = cc
neither Left South (inr e) = cc
neither Right East (inl e) = cc
neither Right East (inr e) = cc
neither Right North (inl e) = cc
neither Right North (inr e) = cc
neither Right West (inl e) = cc
neither Right West (inr e) = cc
neither Right South (inl e) = cc
neither Right South (inr e) = cc

turn_not_straight : (path : List Point) (k : ℕ) (turn : Turn) → direction_of path (k + 1) ≡ turned turn (direction_of path k) → ¬ IsStraight path k
turn_not_straight path k turn is straight =
    neither turn (direction_of path k)
    (subst (λ (d : Direction). (d ≡ direction_of path k) ⊎ (d ≡ opposite_of (direction_of path k))) is straight.1)

pub none_straight : (path : List Point) (turns : List Turn) (n : ℕ)
    → ((k : ℕ) → k < n → direction_of path (k + 1) ≡ turned (get_or turns k Left) (direction_of path k)) → (k : ℕ) → k < n → ¬ IsStraight path k
none_straight path turns n each k lt = turn_not_straight path k (get_or turns k Left) (each k lt)

turning_not_straight : (path : List Point) (turns : List Turn) → IsTurning path turns → (k : ℕ) → ¬ IsStraight path k
turning_not_straight path turns is k straight =
    turn_not_straight path k (get_or turns k Left) (is.each k (omega (arith, is.corners, straight.0))) straight

-- ---- edges before

module _ (p : PlaneModel) (points : PointsModel) (d : ℕ) (inside : d < darts p) where
  none_slanted_before : ((b : ℕ) → b < d → is_lesser p b ≡ true → IsOnAxes (path_along p points b))
      → (e k : ℕ) → e < edge_number p d → ¬ IsSlanted (path_of_edge p points e) k
  none_slanted_before axes e k lt slanted =
      let has = dart_of_edge p points d e (omega (arith, inside)) lt in
      let here = subst (λ (path : List Point). IsSlanted path k) has.path slanted in
      here.1 (axes has.dart has.below has.lesser k here.0)

  none_straight_before : (strings : List (List Turn)) → ((b : ℕ) → b < d → is_lesser p b ≡ true → IsTurning (path_along p points b) (get_or strings b []))
      → (e k : ℕ) → e < edge_number p d → ¬ IsStraight (path_of_edge p points e) k
  none_straight_before strings turning e k lt straight =
      let has = dart_of_edge p points d e (omega (arith, inside)) lt in
      turning_not_straight (path_along p points has.dart) (get_or strings has.dart [])
      (turning has.dart has.below has.lesser) k (subst (λ (path : List Point). IsStraight path k) has.path straight)

  -- the first fault of the path of this dart is the first of all, if there is none on the edges before
  pub first_slanted : (edge : ℕ) (fault : Fault) → edge ≡ edge_number p d → is_lesser p d ≡ true → HasBoundedPoints p points
      → ((b : ℕ) → b < d → is_lesser p b ≡ true → IsOnAxes (path_along p points b)) → IsAxisFault (path_along p points d) edge fault
      → AreInGrid points → IsFirstFailure p points fault
  first_slanted edge (NotAxis e k) number lesser whole before is grid =
      let same : e ≡ edge_number p d = is.0 ∙ number in
      let path : path_along p points d ≡ path_of_edge p points e =
      sym (path_of_lesser p points d inside lesser) ∙ ap (path_of_edge p points) (sym same) in (
        whole,
        grid,
        record {
          first = subst (λ (q : List Point). IsFirst (IsSlanted q) k) path is.1;
          before = λ f j lt. none_slanted_before before f j (omega (arith, lt, same));
        },
      )
  first_slanted edge Vertices number lesser whole before is grid = absurd is
  first_slanted edge Edges number lesser whole before is grid = absurd is
  first_slanted edge (Long e) number lesser whole before is grid = absurd is
  first_slanted edge (VertexOutOfGrid v) number lesser whole before is grid = absurd is
  first_slanted edge (CornerOutOfGrid e k) number lesser whole before is grid = absurd is
  first_slanted edge (NoTurn e k) number lesser whole before is grid = absurd is
  first_slanted edge (Embedding v) number lesser whole before is grid = absurd is
  first_slanted edge Outer number lesser whole before is grid = absurd is
  first_slanted edge Meet number lesser whole before is grid = absurd is
  first_slanted edge Memory number lesser whole before is grid = absurd is

  pub first_straight : (edge : ℕ) (fault : Fault) (strings : List (List Turn)) → edge ≡ edge_number p d → is_lesser p d ≡ true
      → ((b : ℕ) → b < d → is_lesser p b ≡ true → IsTurning (path_along p points b) (get_or strings b []))
      → IsTurnFault (path_along p points d) edge fault → AreOnGridLines p points → IsFirstFailure p points fault
  first_straight edge (NoTurn e k) strings number lesser before is lines =
      let same : e ≡ edge_number p d = is.0 ∙ number in
      let path : path_along p points d ≡ path_of_edge p points e =
      sym (path_of_lesser p points d inside lesser) ∙ ap (path_of_edge p points) (sym same) in (
        lines,
        record {
          first = subst (λ (q : List Point). IsFirst (IsStraight q) k) path is.1;
          before = λ f j lt. none_straight_before strings before f j (omega (arith, lt, same));
        },
      )
  first_straight edge Memory strings number lesser before is lines = absurd is
  first_straight edge Vertices strings number lesser before is lines = absurd is
  first_straight edge Edges strings number lesser before is lines = absurd is
  first_straight edge (Long e) strings number lesser before is lines = absurd is
  first_straight edge (VertexOutOfGrid v) strings number lesser before is lines = absurd is
  first_straight edge (CornerOutOfGrid e k) strings number lesser before is lines = absurd is
  first_straight edge (NotAxis e k) strings number lesser before is lines = absurd is
  first_straight edge (Embedding v) strings number lesser before is lines = absurd is
  first_straight edge Outer strings number lesser before is lines = absurd is
  first_straight edge Meet strings number lesser before is lines = absurd is

-- the first corner outside of these corners is the first of all
pub first_outside : (p : PlaneModel) (points : PointsModel) (edge : ℕ) (fault : Fault) → HasBoundedPoints p points
    → ((e : ℕ) → e < edge → All IsInGrid (corners_at points e)) → IsCornerFault (corners_at points edge) edge fault
    → All IsInGrid points.vertices → IsFirstFailure p points fault
first_outside p points edge (CornerOutOfGrid e k) whole before is vertices =
    let same : e ≡ edge = is.0 in (
      whole,
      vertices,
      record {
        first = subst (λ (n : ℕ). IsFirst (IsOutside (corners_at points n)) k) (sym same) is.1;
        before = λ f j lt outside. inside_or_past (corners_at points f) j (before f (omega (arith, lt, same))) outside;
      },
    )
  where
    inside_or_past : (corners : List Point) (j : ℕ) → All IsInGrid corners → ¬ IsOutside corners j
    inside_or_past corners j all outside =
        ⊎_elim
        (λ lt. outside (all j origin lt))
        (λ ge. outside (subst IsInGrid (sym (get_or_past corners j origin ge)) (omega arith, omega arith)))
        (cases_lt j (length corners))
first_outside p points edge Vertices whole before is vertices = absurd is
first_outside p points edge Edges whole before is vertices = absurd is
first_outside p points edge (Long e) whole before is vertices = absurd is
first_outside p points edge (VertexOutOfGrid v) whole before is vertices = absurd is
first_outside p points edge (NotAxis e k) whole before is vertices = absurd is
first_outside p points edge (NoTurn e k) whole before is vertices = absurd is
first_outside p points edge (Embedding v) whole before is vertices = absurd is
first_outside p points edge Outer whole before is vertices = absurd is
first_outside p points edge Meet whole before is vertices = absurd is
first_outside p points edge Memory whole before is vertices = absurd is
