-- Paths without corners.
use Rattle.std.proofs.Common.{◌≡◌, ℕ, zero, suc, ◌+◌, ◌<◌, ◌↔◌, Bool, true, List, [], ◌∷◌, ◌++◌, length, sym, ap, ◌∙◌, arith, subst, All, eqb}
use Rattle.std.proofs.lemmas.Bool.{eqb-true, eq-eqb}
use Rattle.std.proofs.lemmas.List.{nil_from_length}
use Rattle.geometry.specs.declared.plane_sweep.Rectangle.{Rectangle}
use Rattle.geometry.specs.declared.direction.Direction.{Direction}
use Rattle.ortho_rep.specs.declared.grid_points.Point.{Point}
use Rattle.ortho_rep.specs.declared.turn_strings.Turn.{Turn}
use Rattle.drawing_check.specs.declared.route.Route.{Route}
use Rattle.drawing_check.specs.Paths.{point_of}
use Rattle.drawing_check.specs.Draws.{IsAxis, IsOnAxes, IsTurning, direction_between, direction_of}
use Rattle.drawing_check.specs.Routes.{path_of}
use Rattle.drawing_check.specs.Shown.{strips}

straight_path : (route : Route) → length route.corners.now ≡ 0 → route.start ∷ route.end ∷ [] ≡ path_of route
straight_path route none = ap (λ (corners : List Point). route.start ∷ (corners ++ route.end ∷ [])) (sym (nil_from_length route.corners.now none))

pub none_all : (P : Point → Type 0) (corners : List Point) → length corners ≡ 0 → All P corners
none_all P corners none = λ k d lt. absurd (omega arith)

-- its one part is parallel to an axis
axes_of_segment : (a b : Point) (t : Bool) → (t ≡ true ↔ IsAxis a b) → t ≡ true ↔ IsOnAxes (a ∷ b ∷ [])
axes_of_segment a b t one = (λ e. each (one.0 e), λ h. one.1 (h 0 (omega arith)))
  where
    each : IsAxis a b → (k : ℕ) → k + 1 < 2 → IsAxis (point_of (a ∷ b ∷ []) k) (point_of (a ∷ b ∷ []) (k + 1))
    each h zero lt = h
    each h (suc k) lt = absurd (omega arith)

-- it has no turns
turning_of_segment : (a b : Point) (turns : List Turn) (t : Bool) → t ≡ eqb (length turns) 0 → t ≡ true ↔ IsTurning (a ∷ b ∷ []) turns
turning_of_segment a b turns t is = (
  λ e. let none : length turns ≡ 0 = eqb-true (length turns) 0 (sym is ∙ e) in record { corners = omega arith; each = λ k lt. absurd (omega arith) },
  λ h. is ∙ eq-eqb (length turns) 0 (let size = h.corners in omega arith),
)

-- ---- of a route

module _ (route : Route) (none : length route.corners.now ≡ 0) where
  pub axes_straight : (t : Bool) → (t ≡ true ↔ IsAxis route.start route.end) → t ≡ true ↔ IsOnAxes (path_of route)
  axes_straight t is = subst (λ (path : List Point). t ≡ true ↔ IsOnAxes path) (straight_path route none) (axes_of_segment route.start route.end t is)

  pub turning_straight : (turns : List Turn) (t : Bool) → t ≡ eqb (length turns) 0 → t ≡ true ↔ IsTurning (path_of route) turns
  turning_straight turns t is = subst (λ (path : List Point). t ≡ true ↔ IsTurning path turns) (straight_path route none) (turning_of_segment route.start route.end turns t is)

  pub added_straight : (old new : List Rectangle) → new ≡ old ++ strips (route.start ∷ route.end ∷ []) → new ≡ old ++ strips (path_of route)
  added_straight old new is = is ∙ ap (λ (path : List Point). old ++ strips path) (straight_path route none)

  pub out_straight : (v : Direction) → v ≡ direction_between route.start route.end → v ≡ direction_of (path_of route) 0
  out_straight v is = is ∙ ap (λ (path : List Point). direction_of path 0) (straight_path route none)

  pub back_straight : (v : Direction) → v ≡ direction_between route.end route.start → v ≡ direction_between route.end (point_of (path_of route) (length route.corners.now))
  back_straight v is = is ∙ ap (λ (n : ℕ). direction_between route.end (point_of (path_of route) n)) (sym none)
