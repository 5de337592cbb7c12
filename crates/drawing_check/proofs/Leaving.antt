-- The directions in which darts leave their tails.
use Rattle.std.proofs.Common.{◌≡◌, ℕ, ◌+◌, ◌-◌, ◌<◌, ◌≤◌, ◌↔◌, Bool, IsTrue, All, true, false, List, [], ◌∷◌, ◌++◌, length, length-append, get_or, reverse, sym, ap, ◌∙◌, subst, ⊎_elim, arith, ltb, suc}
use Rattle.std.proofs.Math.ListN.{set}
use Rattle.std.proofs.Math.Seq.{get_or-append_right}
use Rattle.std.proofs.lemmas.Bool.{both_ways, cases_eq, cases_lt, ltb-true, le-ltb, lt-ltb, cond-true, cond-false}
use Rattle.std.proofs.lemmas.List.{get_or-set_same, get_or-set_other, length-set, get_or-reverse}
use Rattle.geometry.specs.declared.direction.Direction.{Direction}
use Rattle.geometry.specs.declared.direction.Direction.TheVariants.{East}
use Rattle.geometry.specs.Directions.{left_quarters}
use Rattle.faces.specs.Planes.{PlaneModel, HasEnds, darts, reverse_dart, next}
use Rattle.ortho_rep.specs.declared.grid_points.Point.{Point}
use Rattle.ortho_rep.specs.Shapes.{ShapeModel, angle_at, turns_at}
use Rattle.ortho_rep.specs.Points.{PointsModel, origin}
use Rattle.ortho_rep.specs.Edges.{is_lesser, edge_number, lesser_darts}
use Rattle.ortho_rep.proofs.EdgeNumbers.{edge_number-more}
use Rattle.drawing_check.specs.declared.route.Route.{Route}
use Rattle.drawing_check.specs.Paths.{path_along, point_of}
use Rattle.drawing_check.specs.Draws.{direction_between, direction_of, leaving, IsTurning, TurnAsSaid}
use Rattle.drawing_check.specs.Routes.{path_of, direction_at, HeadsTurn}

-- two entries written with what a function gives there: what others hold stays
pub both_written : (old new : List Direction) (gives : ℕ → Direction) (d r : ℕ) (v w : Direction) → d < length old → r < length old → new ≡ set (set old d v) r w → v ≡ gives d → w ≡ gives r → (k : ℕ) → ((k ≡ d → ⊥) → (k ≡ r → ⊥) → direction_at old k ≡ gives k) → direction_at new k ≡ gives k
both_written old new gives d r v w d_in r_in is is_v is_w k other =
    let size : length (set old d v) ≡ length old = length-set old d v in
    ⊎_elim
    (λ at_r. ap (λ (l : List Direction). get_or l k East) is ∙ ap (λ (n : ℕ). get_or (set (set old d v) r w) n East) at_r ∙ get_or-set_same (set old d v) r w East (omega arith) ∙ is_w ∙ ap gives (sym at_r))
    (λ not_r.
    ap (λ (l : List Direction). get_or l k East) is ∙ get_or-set_other (set old d v) r k w East not_r
    ∙ ⊎_elim
    (λ at_d. ap (λ (n : ℕ). get_or (set old d v) n East) at_d ∙ get_or-set_same old d v East d_in ∙ is_v ∙ ap gives (sym at_d))
    (λ not_d. get_or-set_other old d k v East not_d ∙ other not_d not_r)
    (cases_eq k d))
    (cases_eq k r)

pub leaving-lesser : (p : PlaneModel) (points : PointsModel) (d : ℕ) → is_lesser p d ≡ true → leaving p points d ≡ direction_of (path_along p points d) 0
leaving-lesser p points d lesser = ap (λ (path : List Point). direction_of path 0) (cond-true (is_lesser p d) (path_along p points d) (reverse (path_along p points (reverse_dart p d))) lesser)

-- the last two points of a path of n corners
pub point_of-end : (start end : Point) (corners : List Point) → point_of (start ∷ (corners ++ end ∷ [])) (length corners + 1) ≡ end
point_of-end start end corners =
    let up : length corners + 1 ≡ suc (length corners) = omega arith in
    let none : length corners - length corners ≡ 0 = omega arith in
    ap (λ (n : ℕ). point_of (start ∷ (corners ++ end ∷ [])) n) up
    ∙ get_or-append_right corners (end ∷ []) (length corners) origin (omega arith)
    ∙ ap (λ (n : ℕ). get_or (end ∷ []) n origin) none

-- the first direction of a path met the other way
turned_round : (path : List Point) (n : ℕ) → length path ≡ n + 2 → direction_of (reverse path) 0 ≡ direction_between (point_of path (n + 1)) (point_of path n)
turned_round path n size =
    let last : length path - 1 - 0 ≡ n + 1 = omega arith in
    let before : length path - 1 - 1 ≡ n = omega arith in
    ap (λ (q : Point). direction_between q (point_of (reverse path) 1)) (get_or-reverse path 0 origin (omega arith) ∙ ap (λ (i : ℕ). point_of path i) last)
    ∙ ap (λ (q : Point). direction_between (point_of path (n + 1)) q) (get_or-reverse path 1 origin (omega arith) ∙ ap (λ (i : ℕ). point_of path i) before)

pub reverse_dart_is_greater : (p : PlaneModel) (d : ℕ) → HasEnds p → d < darts p → is_lesser p d ≡ true → is_lesser p (reverse_dart p d) ≡ false
reverse_dart_is_greater p d ends inside lesser = turned d (reverse_dart p d) (reverse_dart p (reverse_dart p d)) lesser (ends.reverse_dart_back d inside)
  where
    turned : (a b c : ℕ) → ltb a b ≡ true → c ≡ a → ltb b c ≡ false
    turned a b c less same = le-ltb b c (omega (arith, ltb-true a b less))

pub leaving-reverse_dart : (p : PlaneModel) (points : PointsModel) (d : ℕ) (n : ℕ) → HasEnds p → d < darts p → is_lesser p d ≡ true → length (path_along p points d) ≡ n + 2 → leaving p points (reverse_dart p d) ≡ direction_between (point_of (path_along p points d) (n + 1)) (point_of (path_along p points d) n)
leaving-reverse_dart p points d n ends inside lesser size =
    let path : List Point = path_along p points d in
    ap (λ (q : List Point). direction_of q 0) (cond-false (is_lesser p (reverse_dart p d)) (path_along p points (reverse_dart p d)) (reverse (path_along p points (reverse_dart p (reverse_dart p d)))) (reverse_dart_is_greater p d ends inside lesser))
    ∙ ap (λ (e : ℕ). direction_of (reverse (path_along p points e)) 0) (ends.reverse_dart_back d inside)
    ∙ turned_round path n size

-- ---- a route's ends

pub first_direction : (route : Route) (path : List Point) (q : Point) (v : Direction) → path_of route ≡ path → q ≡ point_of (path_of route) 1 → v ≡ direction_between route.start q → v ≡ direction_of path 0
first_direction route path q v is_path is_q is_v =
    is_v ∙ ap (λ (u : Point). direction_between route.start u) is_q ∙ ap (λ (l : List Point). direction_of l 0) is_path

pub leaves_out : (p : PlaneModel) (points : PointsModel) (d : ℕ) (route : Route) (q : Point) (v : Direction) → is_lesser p d ≡ true → path_of route ≡ path_along p points d → q ≡ point_of (path_of route) 1 → v ≡ direction_between route.start q → v ≡ leaving p points d
leaves_out p points d route q v lesser is_path is_q is_v =
    first_direction route (path_along p points d) q v is_path is_q is_v ∙ sym (leaving-lesser p points d lesser)

pub leaves_back : (p : PlaneModel) (points : PointsModel) (d : ℕ) (route : Route) (q : Point) (v : Direction) → HasEnds p → d < darts p → is_lesser p d ≡ true → path_of route ≡ path_along p points d → q ≡ point_of (path_of route) (length route.corners.now) → v ≡ direction_between route.end q → v ≡ leaving p points (reverse_dart p d)
leaves_back p points d route q v ends inside lesser is_path is_q is_v =
    let n = length route.corners.now in
    let size : length (path_of route) ≡ n + 2 = omega (arith, length-append route.corners.now (route.end ∷ [])) in
    is_v
    ∙ ap (λ (u : Point). direction_between route.end u) is_q
    ∙ ap (λ (u : Point). direction_between u (point_of (path_of route) n)) (sym (point_of-end route.start route.end route.corners.now))
    ∙ ap (λ (l : List Point). direction_between (point_of l (n + 1)) (point_of l n)) is_path
    ∙ sym (leaving-reverse_dart p points d n ends inside lesser (sym (ap length is_path) ∙ size))

-- ---- one dart more

pub number_of_lesser : (p : PlaneModel) (d : ℕ) → is_lesser p d ≡ true → edge_number p (d + 1) ≡ edge_number p d + 1
number_of_lesser p d lesser = edge_number-more p d ∙ ap (λ (n : ℕ). edge_number p d + n) (cond-true (is_lesser p d) 1 0 lesser)

pub number_of_greater : (p : PlaneModel) (d : ℕ) → is_lesser p d ≡ false → edge_number p (d + 1) ≡ edge_number p d
number_of_greater p d greater = edge_number-more p d ∙ ap (λ (n : ℕ). edge_number p d + n) (cond-false (is_lesser p d) 1 0 greater) ∙ omega arith

-- the darts below n that are lesser, and their reverses, have their directions
pub record IsLeaving (p : PlaneModel) (points : PointsModel) (directions : List Direction) (n : ℕ) : Type 0 where
  pub room : darts p ≤ length directions
  pub out : (d : ℕ) → d < n → is_lesser p d ≡ true → direction_at directions d ≡ leaving p points d
  pub back : (d : ℕ) → d < n → is_lesser p d ≡ true → direction_at directions (reverse_dart p d) ≡ leaving p points (reverse_dart p d)

pub leaving_more : (p : PlaneModel) (points : PointsModel) (old new : List Direction) (n i j : ℕ) (v w : Direction) → HasEnds p → IsLeaving p points old n → n < darts p → i ≡ n → j ≡ reverse_dart p n → new ≡ set (set old i v) j w → v ≡ leaving p points n → w ≡ leaving p points (reverse_dart p n) → IsLeaving p points new (n + 1)
leaving_more p points old new n i j v w ends is inside is_i is_j is_new is_v is_w =
    let room = is.room in
    let reverse_dart_in : reverse_dart p n < darts p = ends.reverse_dart_in_range n inside in
    let i_in : i < length old = omega arith in
    let j_in : j < length old = omega arith in
    let v_is : v ≡ leaving p points i = is_v ∙ ap (leaving p points) (sym is_i) in
    let w_is : w ≡ leaving p points j = is_w ∙ ap (leaving p points) (sym is_j) in
    let written = both_written old new (leaving p points) i j v w i_in j_in is_new v_is w_is in
    record {
      room = let size = ap length is_new ∙ length-set (set old i v) j w ∙ length-set old i v in omega arith;
      out = λ d below lesser. written d (λ not_i not_j. is.out d (omega arith) lesser);
      back = λ d below lesser. written (reverse_dart p d) (λ not_i not_j.
          ⊎_elim (λ same. absurd (not_j (ap (reverse_dart p) same ∙ sym is_j))) (λ ne. is.back d (omega arith) lesser) (cases_eq d n));
    }

-- a dart that is not lesser adds nothing
pub leaving_kept : (p : PlaneModel) (points : PointsModel) (directions : List Direction) (n : ℕ) → IsLeaving p points directions n → is_lesser p n ≡ false → IsLeaving p points directions (n + 1)
leaving_kept p points directions n is greater =
    record {
      room = is.room;
      out = λ d below lesser. is.out d (earlier d below lesser) lesser;
      back = λ d below lesser. is.back d (earlier d below lesser) lesser;
    }
  where
    earlier : (d : ℕ) → d < n + 1 → is_lesser p d ≡ true → d < n
    earlier d below lesser = ⊎_elim (λ same. absurd (both_ways (is_lesser p n) greater (subst (λ (e : ℕ). is_lesser p e ≡ true) same lesser))) (λ ne. omega arith) (cases_eq d n)

-- in the end each dart has
pub all_leave : (p : PlaneModel) (points : PointsModel) (directions : List Direction) (n : ℕ) → HasEnds p → IsLeaving p points directions n → darts p ≤ n → (d : ℕ) → d < darts p → direction_at directions d ≡ leaving p points d
all_leave p points directions n ends is all d inside =
    ⊎_elim
    (λ less. is.out d (omega arith) (lt-ltb d (reverse_dart p d) less))
    (λ ge.
    let back = ends.reverse_dart_back d inside in
    let lesser : is_lesser p (reverse_dart p d) ≡ true = lesser_back d (reverse_dart p d) (reverse_dart p (reverse_dart p d)) ge (λ e. ends.reverse_dart_apart d inside e) back in
    subst (λ (e : ℕ). direction_at directions e ≡ leaving p points e) back (is.back (reverse_dart p d) (let inner = ends.reverse_dart_in_range d inside in omega arith) lesser))
    (cases_lt d (reverse_dart p d))
  where
    lesser_back : (a b c : ℕ) → b ≤ a → (b ≡ a → ⊥) → c ≡ a → ltb b c ≡ true
    lesser_back a b c ge ne same = lt-ltb b c (omega arith)

-- what is said of the list of directions is said of the darts
pub turns_as_said : (p : PlaneModel) (shape : ShapeModel) (points : PointsModel) (said turning : Bool) (out : List Direction) → HasEnds p →
    (IsTrue turning ↔ All (λ d. IsTurning (path_along p points d) (turns_at shape d)) (lesser_darts p)) →
    ((d : ℕ) → d < darts p → direction_at out d ≡ leaving p points d) →
    (IsTrue said ↔ (IsTrue turning × HeadsTurn p shape out)) → IsTrue said ↔ TurnAsSaid p shape points
turns_as_said p shape points said turning out ends edges is both = (
  λ h. record {
    edges = edges.0 (both.0 h).0;
    heads = λ d inside.
        sym (is (reverse_dart p d) (ends.reverse_dart_in_range d inside)) ∙ (both.0 h).1 d inside
        ∙ ap (left_quarters (angle_at shape d)) (is (next p d) (ends.next_one.inside d inside));
  },
  λ turns. both.1 (
    edges.1 turns.edges,
    λ d inside.
        is (reverse_dart p d) (ends.reverse_dart_in_range d inside) ∙ turns.heads d inside
        ∙ sym (ap (left_quarters (angle_at shape d)) (is (next p d) (ends.next_one.inside d inside))),
  ),
)
