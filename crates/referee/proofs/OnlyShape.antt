-- Points draw at most one representation: that which is taken from them.
use Rattle.std.proofs.Common.{◌≡◌, ◌≤◌, ◌<◌, ◌+◌, ◌%◌, ℕ, Bool, List, length, get_or, true, refl, sym, ap, ◌∙◌, ⊎_elim, arith}
use Rattle.std.proofs.lemmas.Bool.{cases_lt, lt-ltb}
use Rattle.std.proofs.lemmas.List.{ext_get_or}
use Rattle.geometry.specs.declared.direction.Direction.{Direction}
use Rattle.geometry.specs.declared.direction.Direction.TheVariants.{East, North, West, South}
use Rattle.geometry.specs.Directions.{quarters, left_quarters}
use Rattle.geometry.proofs.Quarters.{quarters_of_lefts}
use Rattle.faces.specs.Planes.{PlaneModel, HasEnds, darts, next, reverse_dart, with_outer}
use Rattle.ortho_rep.specs.declared.turn_strings.Turn.{Turn}
use Rattle.ortho_rep.specs.declared.turn_strings.Turn.TheVariants.{Left, Right}
use Rattle.ortho_rep.specs.declared.grid_points.Point.{Point}
use Rattle.ortho_rep.specs.Turns.{mirrored}
use Rattle.ortho_rep.specs.Shapes.{ShapeModel, angle_at, turns_at}
use Rattle.ortho_rep.specs.Points.{PointsModel}
use Rattle.ortho_rep.specs.Edges.{is_lesser}
use Rattle.ortho_rep.specs.Representation.{Rep, IsShape}
use Rattle.ortho_rep.proofs.SameAtDarts.{rep-alike}
use Rattle.drawing_check.specs.Paths.{path_along}
use Rattle.drawing_check.specs.Draws.{TurnAsSaid, IsTurning, turned, direction_of}
use Rattle.drawing_check.proofs.Routing.{each_lesser}
use Rattle.referee.specs.Taken.{IsTaken}

-- ---- a turn and an angle are determined by the directions

one_turn : (t u : Turn) (d : Direction) → turned t d ≡ turned u d → t ≡ u
one_turn Left Left d same = refl
one_turn Right Right d same = refl
one_turn Left Right East same = cc
one_turn Left Right North same = cc
one_turn Left Right West same = cc
one_turn Left Right South same = cc
one_turn Right Left East same = cc
one_turn Right Left North same = cc
one_turn Right Left West same = cc
one_turn Right Left South same = cc

few_quarters : (d : Direction) → quarters d < 4
few_quarters East = omega arith
few_quarters North = omega arith
few_quarters West = omega arith
few_quarters South = omega arith

one_rest : (q a b : ℕ) → q < 4 → 1 ≤ a → a ≤ 4 → 1 ≤ b → b ≤ 4 → (q + a) % 4 ≡ (q + b) % 4 → a ≡ b
one_rest q a b few a_from a_to b_from b_to same = omega arith

one_angle : (a b : ℕ) (d : Direction) → 1 ≤ a → a ≤ 4 → 1 ≤ b → b ≤ 4 → left_quarters a d ≡ left_quarters b d → a ≡ b
one_angle a b d a_from a_to b_from b_to same =
    one_rest (quarters d) a b (few_quarters d) a_from a_to b_from b_to
    (sym (quarters_of_lefts a d) ∙ ap quarters same ∙ quarters_of_lefts b d)

-- ---- so are the turns of a path

one_string : (path : List Point) (ts us : List Turn) → IsTurning path ts → IsTurning path us → ts ≡ us
one_string path ts us is also =
    let size : length ts ≡ length us = omega (arith, is.corners, also.corners) in
    ext_get_or Left ts us size
    (λ k lt. one_turn (get_or ts k Left) (get_or us k Left) (direction_of path k) (sym (is.each k lt) ∙ also.each k (omega (arith, size, lt))))

lesser_string : (p : PlaneModel) (points : PointsModel) (shape other : ShapeModel) → TurnAsSaid p shape points → TurnAsSaid p other points → (d : ℕ) → d < darts p → is_lesser p d ≡ true → turns_at other d ≡ turns_at shape d
lesser_string p points shape other is also d inside lesser =
    one_string (path_along p points d) (turns_at other d) (turns_at shape d)
    ((each_lesser (λ e. IsTurning (path_along p points e) (turns_at other e)) p).0 also.edges d inside lesser)
    ((each_lesser (λ e. IsTurning (path_along p points e) (turns_at shape e)) p).0 is.edges d inside lesser)

-- ---- and the whole representation

module _ (p : PlaneModel) (points : PointsModel) (shape other : ShapeModel) (ends : HasEnds p) (is : IsTaken p points shape) (rep : Rep p (angle_at other) (turns_at other)) (also : TurnAsSaid p other points) where
  pub same_angle : (d : ℕ) → d < darts p → angle_at shape d ≡ angle_at other d
  same_angle d inside =
      let mine = is.angles d inside in
      let theirs = rep.angles d inside in
      one_angle (angle_at shape d) (angle_at other d) _ mine.0 mine.1 theirs.0 theirs.1
      (sym (is.turns.heads d inside) ∙ also.heads d inside)

  pub same_turns : (d : ℕ) → d < darts p → turns_at shape d ≡ turns_at other d
  same_turns d inside =
      ⊎_elim
      (λ less. sym (lesser_string p points shape other is.turns also d inside (lt-ltb d (reverse_dart p d) less)))
      (λ ge.
      let r : ℕ = reverse_dart p d in
      let r_in : r < darts p = ends.reverse_dart_in_range d inside in
      let back : reverse_dart p r ≡ d = ends.reverse_dart_back d inside in
      let lesser : is_lesser p r ≡ true = lt-ltb r (reverse_dart p r) (below r d (reverse_dart p r) ge (ends.reverse_dart_apart d inside) back) in
      ap (turns_at shape) (sym back) ∙ is.strings r r_in
      ∙ ap mirrored (sym (lesser_string p points shape other is.turns also r r_in lesser))
      ∙ sym (rep.strings r r_in) ∙ ap (turns_at other) back)
      (cases_lt d (reverse_dart p d))
    where
      below : (r d e : ℕ) → r ≤ d → (r ≡ d → ⊥) → e ≡ d → r < e
      below r d e le ne same = omega (arith, le, ne, same)

  pub is_rep : Rep p (angle_at shape) (turns_at shape)
  is_rep = rep-alike p (angle_at other) (angle_at shape) (turns_at other) (turns_at shape) ends same_angle same_turns rep
