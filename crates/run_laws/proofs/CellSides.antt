-- Which edges pass the sides of cells round a point.
use Rattle.std.proofs.Common.{◌≡◌, ℕ, zero, suc, ◌+◌, ◌-◌, ◌<◌, ◌≤◌, ◌⊎◌, ◌∙◌, List, [], ◌∷◌, ◌++◌, length, reverse, arith, subst, sym, ap, refl, inl, inr, true, Bool}
use Rattle.std.proofs.lemmas.Bool.{cases_lt, lt-ltb, le-ltb}
use Rattle.std.proofs.lemmas.List.{length-reverse}
use Rattle.geometry.specs.declared.direction.Direction.{Direction}
use Rattle.geometry.specs.declared.direction.Direction.TheVariants.{East, North, West, South}
use Rattle.geometry.specs.Directions.{right_of}
use Rattle.faces.specs.Planes.{PlaneModel, IsPlane, darts, vertices, tail, head, reverse_dart}
use Rattle.faces.proofs.Ends.{plane_ends}
use Rattle.ortho_rep.specs.declared.grid_points.Point.{Point}
use Rattle.ortho_rep.specs.Points.{PointsModel, vertex_point, corners_at}
use Rattle.ortho_rep.specs.Edges.{is_lesser, edge_number}
use Rattle.drawing_check.specs.Walks.{step_from, distance}
use Rattle.drawing_check.specs.Paths.{path_along, paths, dart_path, point_of}
use Rattle.drawing_check.specs.Draws.{IsAxis, AreOnAxes, MeetNowhere, direction_between, leaving}
use Rattle.drawing_check.specs.Regions.{PassesNorth, PassesEast}
use Rattle.drawing_check.proofs.Coverings.{point_is}
use Rattle.drawing_check.proofs.PathParts.{toward_up, toward_down, toward_same}
use Rattle.drawing_check.proofs.Routing.{axes_each}
use Rattle.drawing_check.proofs.Leaving.{leaving-lesser, leaving-reverse_dart, point_of-end}
use Rattle.drawing_laws.proofs.DartPaths.{backwards, lesser_is, greater_is, by_edge}
use Rattle.run_laws.specs.Cells.{IsUndivided}
use Rattle.run_laws.proofs.Places.{Inner, one_place, vertex_off, vertex_one}

-- ---- a part and a side

-- the part from a to b, or back, runs along the side that leads from q in this direction
abbrev pub RunsBy : Direction → Point → Point → Point → Type 0
RunsBy East a b q = (a.y ≡ q.y) × (b.y ≡ q.y) × (((a.x ≤ q.x) × (q.x < b.x)) ⊎ ((b.x ≤ q.x) × (q.x < a.x)))
RunsBy North a b q = (a.x ≡ q.x) × (b.x ≡ q.x) × (((a.y ≤ q.y) × (q.y < b.y)) ⊎ ((b.y ≤ q.y) × (q.y < a.y)))
RunsBy West a b q = (a.y ≡ q.y) × (b.y ≡ q.y) × (((a.x < q.x) × (q.x ≤ b.x)) ⊎ ((b.x < q.x) × (q.x ≤ a.x)))
RunsBy South a b q = (a.x ≡ q.x) × (b.x ≡ q.x) × (((a.y < q.y) × (q.y ≤ b.y)) ⊎ ((b.y < q.y) × (q.y ≤ a.y)))

either_way : {P Q : Type 0} → P ⊎ Q → Q ⊎ P
either_way (inl p) = inr p
either_way (inr q) = inl q

pub runs_swapped : (way : Direction) (a b q : Point) → RunsBy way a b q → RunsBy way b a q
runs_swapped East a b q (one, two, way) = (two, one, either_way way)
runs_swapped North a b q (one, two, way) = (two, one, either_way way)
runs_swapped West a b q (one, two, way) = (two, one, either_way way)
runs_swapped South a b q (one, two, way) = (two, one, either_way way)

-- q lies on the part from a to b, perhaps at an end
abbrev pub LiesOn : Point → Point → Point → Type 0
LiesOn a b q =
    ((a.y ≡ q.y) × (b.y ≡ q.y) × (((a.x ≤ q.x) × (q.x ≤ b.x) × (a.x < b.x)) ⊎ ((b.x ≤ q.x) × (q.x ≤ a.x) × (b.x < a.x))))
    ⊎ ((a.x ≡ q.x) × (b.x ≡ q.x) × (((a.y ≤ q.y) × (q.y ≤ b.y) × (a.y < b.y)) ⊎ ((b.y ≤ q.y) × (q.y ≤ a.y) × (b.y < a.y))))

runs_on : (way : Direction) (a b q : Point) → RunsBy way a b q → LiesOn a b q
runs_on East a b q (one, two, inl is) = inl (one, two, inl (is.0, omega (arith, is.1), omega (arith, is.0, is.1)))
runs_on East a b q (one, two, inr is) = inl (one, two, inr (is.0, omega (arith, is.1), omega (arith, is.0, is.1)))
runs_on North a b q (one, two, inl is) = inr (one, two, inl (is.0, omega (arith, is.1), omega (arith, is.0, is.1)))
runs_on North a b q (one, two, inr is) = inr (one, two, inr (is.0, omega (arith, is.1), omega (arith, is.0, is.1)))
runs_on West a b q (one, two, inl is) = inl (one, two, inl (omega (arith, is.0), is.1, omega (arith, is.0, is.1)))
runs_on West a b q (one, two, inr is) = inl (one, two, inr (omega (arith, is.0), is.1, omega (arith, is.0, is.1)))
runs_on South a b q (one, two, inl is) = inr (one, two, inl (omega (arith, is.0), is.1, omega (arith, is.0, is.1)))
runs_on South a b q (one, two, inr is) = inr (one, two, inr (omega (arith, is.0), is.1, omega (arith, is.0, is.1)))

pub end_on : (a b : Point) → IsAxis a b → LiesOn a b b
end_on a b (inl (line, off)) = inr (
  line,
  refl,
  elim (cases_lt a.y b.y) [
    | inl up ↦ inl (omega (arith, up), omega arith, up)
    | inr down ↦ inr (omega arith, down, omega (arith, down, off))
  ],
)
end_on a b (inr (off, line)) = inl (
  line,
  refl,
  elim (cases_lt a.x b.x) [
    | inl up ↦ inl (omega (arith, up), omega arith, up)
    | inr down ↦ inr (omega arith, down, omega (arith, down, off))
  ],
)

-- as many steps as the distance lead there
on_way : (a b q : Point) → LiesOn a b q → step_from a b (distance a q) ≡ q
on_way a b q (inl (one, two, inl is)) =
    point_is (step_from a b (distance a q)) q (omega (arith, toward_up a.x b.x (distance a q) is.2, one, is.0)) (omega (arith, toward_same a.y b.y (distance a q) (one ∙ sym two), one))
on_way a b q (inl (one, two, inr is)) =
    point_is (step_from a b (distance a q)) q (omega (arith, toward_down a.x b.x (distance a q) is.2, one, is.1)) (omega (arith, toward_same a.y b.y (distance a q) (one ∙ sym two), one))
on_way a b q (inr (one, two, inl is)) =
    point_is (step_from a b (distance a q)) q (omega (arith, toward_same a.x b.x (distance a q) (one ∙ sym two), one)) (omega (arith, toward_up a.y b.y (distance a q) is.2, one, is.0))
on_way a b q (inr (one, two, inr is)) =
    point_is (step_from a b (distance a q)) q (omega (arith, toward_same a.x b.x (distance a q) (one ∙ sym two), one)) (omega (arith, toward_down a.y b.y (distance a q) is.2, one, is.1))

no_further : (a b q : Point) → LiesOn a b q → distance a q ≤ distance a b
no_further a b q (inl (one, two, inl is)) = omega (arith, one, two, is.0, is.1)
no_further a b q (inl (one, two, inr is)) = omega (arith, one, two, is.0, is.1)
no_further a b q (inr (one, two, inl is)) = omega (arith, one, two, is.0, is.1)
no_further a b q (inr (one, two, inr is)) = omega (arith, one, two, is.0, is.1)

-- at an end, or between
at_first : (a b q : Point) → LiesOn a b q → (q ≡ a) ⊎ (1 ≤ distance a q)
at_first a b q on =
    elim (cases_lt 0 (distance a q)) [
      | inl more ↦ inr (omega (arith, more))
      | inr none ↦ inl (point_is q a (omega (arith, none)) (omega (arith, none)))
    ]

at_last : (a b q : Point) → LiesOn a b q → (q ≡ b) ⊎ (distance a q < distance a b)
at_last a b q on =
    elim (cases_lt (distance a q) (distance a b)) [
      | inl less ↦ inr less
      | inr more ↦ inl (whole more on)
    ]
  where
    whole : distance a b ≤ distance a q → LiesOn a b q → q ≡ b
    whole more (inl (one, two, inl is)) = point_is q b (omega (arith, more, one, two, is.0, is.1)) (omega (arith, two))
    whole more (inl (one, two, inr is)) = point_is q b (omega (arith, more, one, two, is.0, is.1)) (omega (arith, two))
    whole more (inr (one, two, inl is)) = point_is q b (omega (arith, two)) (omega (arith, more, one, two, is.0, is.1))
    whole more (inr (one, two, inr is)) = point_is q b (omega (arith, two)) (omega (arith, more, one, two, is.0, is.1))

-- in a path: at the beginning of the part, or between the ends of the path, or at its end
pub where_on : (path : List Point) (k : ℕ) (q : Point) → suc k < length path → LiesOn (point_of path k) (point_of path (suc k)) q
    → (q ≡ point_of path k) ⊎ (Inner path k q ⊎ ((q ≡ point_of path (suc k)) × (suc (suc k) ≡ length path)))
where_on path k q inside on =
    let a : Point = point_of path k in
    let b : Point = point_of path (suc k) in
    elim (at_first a b q on) [
      | inl first ↦ inl first
      | inr some ↦ inr (elim (cases_lt (suc (suc k)) (length path)) [
        | inl more ↦ inl record { inside = inside; steps = distance a q; some = some; most = no_further a b q on; short = inl more; at = on_way a b q on }
        | inr last ↦ elim (at_last a b q on) [
          | inl end ↦ inr (end, omega (arith, inside, last))
          | inr less ↦ inl record { inside = inside; steps = distance a q; some = some; most = no_further a b q on; short = inr less; at = on_way a b q on }
        ]
      ])
    ]

-- a corner lies on the part before it
pub corner_inner : (path : List Point) (k : ℕ) → suc (suc k) < length path → IsAxis (point_of path k) (point_of path (suc k)) → Inner path k (point_of path (suc k))
corner_inner path k inside axis =
    let a : Point = point_of path k in
    let b : Point = point_of path (suc k) in
    let on = end_on a b axis in
    record { inside = omega (arith, inside); steps = distance a b; some = far a b axis; most = omega arith; short = inl inside; at = on_way a b b on }
  where
    far : (a b : Point) → IsAxis a b → 1 ≤ distance a b
    far a b (inl (line, off)) = omega (arith, off)
    far a b (inr (off, line)) = omega (arith, off)

-- what runs along the side from its beginning leaves that in the direction of the side
pub leaves_by : (way : Direction) (a b : Point) → RunsBy way a b a → direction_between a b ≡ way
leaves_by East a b (one, two, inl is) = rw (lt-ltb a.x b.x is.1) refl
leaves_by East a b (one, two, inr is) = absurd (omega (arith, is.1))
leaves_by North a b (one, two, inl is) =
    rw (le-ltb a.x b.x (omega (arith, two)), le-ltb b.x a.x (omega (arith, two)), lt-ltb a.y b.y is.1) refl
leaves_by North a b (one, two, inr is) = absurd (omega (arith, is.1))
leaves_by West a b (one, two, inl is) = absurd (omega (arith, is.0))
leaves_by West a b (one, two, inr is) = rw (le-ltb a.x b.x (omega (arith, is.0)), lt-ltb b.x a.x is.0) refl
leaves_by South a b (one, two, inl is) = absurd (omega (arith, is.0))
leaves_by South a b (one, two, inr is) =
    rw (le-ltb a.x b.x (omega (arith, two)), le-ltb b.x a.x (omega (arith, two)), le-ltb a.y b.y (omega (arith, is.0))) refl

-- ---- sides and edges

abbrev PathBy : Direction → List Point → Point → Type 0
PathBy way path q = (k : ℕ) × (suc k < length path) × RunsBy way (point_of path k) (point_of path (suc k)) q

back_by : (way : Direction) (path : List Point) (q : Point) → PathBy way (reverse path) q → PathBy way path q
back_by way path q (k, inside, runs) =
    let within : suc k < length path = omega (arith, inside, length-reverse path) in
    let m : ℕ = length path - 1 - suc k in
    let one : point_of (reverse path) k ≡ point_of path (suc m) =
    backwards path k (omega (arith, within)) ∙ ap (λ (c : ℕ). point_of path c) (let e : length path - 1 - k ≡ suc m = omega (arith, within) in e) in
    let two : point_of (reverse path) (suc k) ≡ point_of path m = backwards path (suc k) within in (
      m,
      omega (arith, within),
      runs_swapped way (point_of path (suc m)) (point_of path m) q
          (subst (λ (c : Point). RunsBy way c (point_of path m) q) one (subst (λ (c : Point). RunsBy way (point_of (reverse path) k) c q) two runs)),
    )

module _ (p : PlaneModel) (points : PointsModel) where
  -- an edge passes the side
  abbrev pub EdgeBy : Direction → Point → Type 0
  EdgeBy way q = (e : ℕ) × (e < darts p) × (is_lesser p e ≡ true) × PathBy way (path_along p points e) q

  -- none does
  abbrev pub IsFree : Direction → Point → Type 0
  IsFree East q = (d : ℕ) → PassesEast p points d (q.x + 1) q.y → ⊥
  IsFree North q = (d : ℕ) → PassesNorth p points d q.x (q.y + 1) → ⊥
  IsFree West q = (d : ℕ) → PassesEast p points d q.x q.y → ⊥
  IsFree South q = (d : ℕ) → PassesNorth p points d q.x q.y → ⊥

  -- the cell on the left of the side
  abbrev pub corner : (ℕ → ℕ → Bool) → Point → Direction → Bool
  corner s q East = s (q.x + 1) (q.y + 1)
  corner s q North = s q.x (q.y + 1)
  corner s q West = s q.x q.y
  corner s q South = s (q.x + 1) q.y

  pub across : (s : ℕ → ℕ → Bool) → IsUndivided p points s → (way : Direction) (q : Point) → IsFree way q → corner s q (right_of way) ≡ corner s q way
  across s is East q free = is.above (q.x + 1) q.y free
  across s is North q free = sym (is.beside q.x (q.y + 1) free)
  across s is West q free = sym (is.above q.x q.y free)
  across s is South q free = is.beside q.x q.y free

  module _ (plane : IsPlane p) where
    edge_of : (way : Direction) (q : Point) (d : ℕ) → d < darts p → PathBy way (dart_path p points d) q → EdgeBy way q
    edge_of way q d d_in by =
        elim (by_edge p plane d d_in) [
          | inl lesser ↦ (d, d_in, lesser, subst (λ (path : List Point). PathBy way path q) (lesser_is p points d lesser) by)
          | inr (greater, lesser) ↦ (
            reverse_dart p d,
            (plane_ends p plane).reverse_dart_in_range d d_in,
            lesser,
            back_by way (path_along p points (reverse_dart p d)) q (subst (λ (path : List Point). PathBy way path q) (greater_is p points d greater) by),
          )
        ]

    path_by : (way : Direction) (path : List Point) (q : Point) (k : ℕ) → k + 1 < length path → RunsBy way (point_of path k) (point_of path (k + 1)) q → PathBy way path q
    path_by way path q k inside runs =
        let at : k + 1 ≡ suc k = omega arith in
        (k, omega (arith, inside), subst (λ (m : ℕ). RunsBy way (point_of path k) (point_of path m) q) at runs)

    pub none_free : (way : Direction) (q : Point) → (EdgeBy way q → ⊥) → IsFree way q
    none_free East q none = λ d passes. let (k, d_in, goes) = passes in
        none (edge_of East q d d_in (path_by East (dart_path p points d) q k goes.0 (goes.1, goes.2, inl (omega (arith, goes.3), omega (arith, goes.4)))))
    none_free North q none = λ d passes. let (k, d_in, goes) = passes in
        none (edge_of North q d d_in (path_by North (dart_path p points d) q k goes.0 (goes.1, goes.2, inl (omega (arith, goes.3), omega (arith, goes.4)))))
    none_free West q none = λ d passes. let (k, d_in, goes) = passes in
        none (edge_of West q d d_in (path_by West (dart_path p points d) q k goes.0 (goes.1, goes.2, inl (goes.3, goes.4))))
    none_free South q none = λ d passes. let (k, d_in, goes) = passes in
        none (edge_of South q d d_in (path_by South (dart_path p points d) q k goes.0 (goes.1, goes.2, inl (goes.3, goes.4))))

    module _ (axes : AreOnAxes (paths p points)) (apart : MeetNowhere points (paths p points)) (whole : length points.vertices ≡ vertices p) where
      pub part_axis : (e k : ℕ) → e < darts p → is_lesser p e ≡ true → suc k < length (path_along p points e)
          → IsAxis (point_of (path_along p points e) k) (point_of (path_along p points e) (suc k))
      part_axis e k e_in lesser inside =
          let at : k + 1 ≡ suc k = omega arith in
          subst (λ (m : ℕ). IsAxis (point_of (path_along p points e) k) (point_of (path_along p points e) m)) at
          ((axes_each p points).0 axes e e_in lesser k (omega (arith, inside)))

      pub last_point : (e k : ℕ) → suc (suc k) ≡ length (path_along p points e) → point_of (path_along p points e) (suc k) ≡ vertex_point points (head p e)
      last_point e k size =
          let corners : List Point = corners_at points (edge_number p e) in
          let long : length (path_along p points e) ≡ length corners + 2 = path_size (vertex_point points (tail p e)) corners (vertex_point points (head p e)) in
          let at : suc k ≡ length corners + 1 = omega (arith, size, long) in
          ap (λ (m : ℕ). point_of (path_along p points e) m) at ∙ point_of-end (vertex_point points (tail p e)) (vertex_point points (head p e)) corners
        where
          path_size : (a : Point) (qs : List Point) (b : Point) → length (a ∷ (qs ++ b ∷ [])) ≡ length qs + 2
          path_size a [] b = refl
          path_size a (c ∷ cs) b = omega (arith, path_size c cs b)

      -- what passes a side at a point between the ends of a path is a part of this path
      pub own_sides : (way : Direction) (d k : ℕ) (q : Point) → d < darts p → is_lesser p d ≡ true → Inner (path_along p points d) k q → EdgeBy way q
          → RunsBy way (point_of (path_along p points d) k) (point_of (path_along p points d) (suc k)) q
          ⊎ ((q ≡ point_of (path_along p points d) (suc k)) × RunsBy way (point_of (path_along p points d) (suc k)) (point_of (path_along p points d) (suc (suc k))) q)
      own_sides way d k q d_in lesser inner (e, e_in, lesser', (l, inside, runs)) =
          let path : List Point = path_along p points e in
          let ends = plane_ends p plane in
          elim (where_on path l q inside (runs_on way (point_of path l) (point_of path (suc l)) q runs)) [
            | inl first ↦ begun l inside runs first
            | inr (inl here) ↦
                let both = one_place p points apart d e k l q d_in e_in lesser lesser' inner here in
                inl (subst (λ (m : ℕ). RunsBy way (point_of (path_along p points d) m) (point_of (path_along p points d) (suc m)) q) (sym both.1)
                (subst (λ (c : ℕ). RunsBy way (point_of (path_along p points c) l) (point_of (path_along p points c) (suc l)) q) (sym both.0) runs))
            | inr (inr last) ↦
                absurd (vertex_off p points apart whole (head p e) d k (ends.head_from e e_in) (ends.head_to e e_in) d_in lesser
                (subst (λ (c : Point). Inner (path_along p points d) k c) (last.0 ∙ last_point e l last.1) inner))
          ]
        where
          begun : (m : ℕ) → suc m < length (path_along p points e) → RunsBy way (point_of (path_along p points e) m) (point_of (path_along p points e) (suc m)) q
              → q ≡ point_of (path_along p points e) m
              → RunsBy way (point_of (path_along p points d) k) (point_of (path_along p points d) (suc k)) q
              ⊎ ((q ≡ point_of (path_along p points d) (suc k)) × RunsBy way (point_of (path_along p points d) (suc k)) (point_of (path_along p points d) (suc (suc k))) q)
          begun zero within by first =
              let ends = plane_ends p plane in
              absurd (vertex_off p points apart whole (tail p e) d k (ends.tail_from e e_in) (ends.tail_to e e_in) d_in lesser
              (subst (λ (c : Point). Inner (path_along p points d) k c) first inner))
          begun (suc m) within by first =
              let there = corner_inner (path_along p points e) m within (part_axis e m e_in lesser' (omega (arith, within))) in
              let both = one_place p points apart d e k m q d_in e_in lesser lesser' inner
              (subst (λ (c : Point). Inner (path_along p points e) m c) (sym first) there) in
              inr (subst (λ (i : ℕ). (q ≡ point_of (path_along p points d) (suc i)) × RunsBy way (point_of (path_along p points d) (suc i)) (point_of (path_along p points d) (suc (suc i))) q) (sym both.1)
              (subst (λ (c : ℕ). (q ≡ point_of (path_along p points c) (suc m)) × RunsBy way (point_of (path_along p points c) (suc m)) (point_of (path_along p points c) (suc (suc m))) q) (sym both.0)
              (first, by)))

      -- and at a vertex a dart that leaves it in this direction
      pub vertex_sides : (way : Direction) (v : ℕ) → 1 ≤ v → v ≤ vertices p → EdgeBy way (vertex_point points v)
          → (x : ℕ) × (x < darts p) × (tail p x ≡ v) × (leaving p points x ≡ way)
      vertex_sides way v from to (e, e_in, lesser, (l, inside, runs)) =
          let path : List Point = path_along p points e in
          let q : Point = vertex_point points v in
          let ends = plane_ends p plane in
          elim (where_on path l q inside (runs_on way (point_of path l) (point_of path (suc l)) q runs)) [
            | inl first ↦ begun l inside runs first
            | inr (inl here) ↦ absurd (vertex_off p points apart whole v e l from to e_in lesser here)
            | inr (inr last) ↦
                let at : head p e ≡ v =
                vertex_one p points apart whole (head p e) v (ends.head_from e e_in) (ends.head_to e e_in) from to (sym (last.0 ∙ last_point e l last.1)) in
                let plus : suc l ≡ l + 1 = omega arith in
                let turned : leaving p points (reverse_dart p e) ≡ direction_between (point_of path (suc l)) (point_of path l) =
                leaving-reverse_dart p points e l ends e_in lesser (omega (arith, last.1)) ∙ ap (λ (m : ℕ). direction_between (point_of path m) (point_of path l)) (sym plus) in (
                  reverse_dart p e,
                  ends.reverse_dart_in_range e e_in,
                  ends.reverse_dart_tail e e_in ∙ at,
                  turned ∙ leaves_by way (point_of path (suc l)) (point_of path l)
                      (runs_swapped way (point_of path l) (point_of path (suc l)) (point_of path (suc l))
                      (subst (λ (c : Point). RunsBy way (point_of path l) (point_of path (suc l)) c) last.0 runs)),
                )
          ]
        where
          begun : (m : ℕ) → suc m < length (path_along p points e) → RunsBy way (point_of (path_along p points e) m) (point_of (path_along p points e) (suc m)) (vertex_point points v)
              → vertex_point points v ≡ point_of (path_along p points e) m
              → (x : ℕ) × (x < darts p) × (tail p x ≡ v) × (leaving p points x ≡ way)
          begun zero within by first =
              let ends = plane_ends p plane in
              let path : List Point = path_along p points e in
              let one : 0 + 1 ≡ suc zero = omega arith in (
                e,
                e_in,
                vertex_one p points apart whole (tail p e) v (ends.tail_from e e_in) (ends.tail_to e e_in) from to (sym first),
                leaving-lesser p points e lesser
                    ∙ leaves_by way (point_of path 0) (point_of path 1) (subst (λ (c : Point). RunsBy way (point_of path 0) (point_of path 1) c) first by),
              )
          begun (suc m) within by first =
              absurd (vertex_off p points apart whole v e m from to e_in lesser
              (subst (λ (c : Point). Inner (path_along p points e) m c) (sym first)
              (corner_inner (path_along p points e) m within (part_axis e m e_in lesser (omega (arith, within))))))
