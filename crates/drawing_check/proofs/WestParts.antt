-- The westmost upright part is the first one in its rows, and tells whether the regions are the faces.
use Rattle.std.proofs.Common.{◌≡◌, ◌≤◌, ◌<◌, ◌⊎◌, ◌↔◌, ℕ, zero, suc, ◌+◌, Bool, true, false, cond, eqb, ltb, List, [], ◌∷◌, ◌++◌, length, reverse, Option, Some, None, refl, sym, ap, ◌∙◌, subst, inl, inr, arith}
use Rattle.std.proofs.lemmas.Bool.{cases_lt, cases_eq, cases_Bool, cond-true, cond-false, lt-ltb, le-ltb, eq-eqb, ne_eqb}
use Rattle.faces.specs.Planes.{PlaneModel, IsPlane, HasEnds, darts, vertices, reverse_dart, face_at}
use Rattle.faces.proofs.Ends.{plane_ends}
use Rattle.ortho_rep.specs.Shapes.{ShapeModel}
use Rattle.ortho_rep.specs.Representation.{IsShape}
use Rattle.ortho_rep.specs.declared.grid_points.Point.{Point}
use Rattle.ortho_rep.specs.Points.{PointsModel}
use Rattle.ortho_rep.specs.Edges.{is_lesser}
use Rattle.drawing_check.specs.Paths.{path_along, dart_path, point_of}
use Rattle.drawing_check.specs.Draws.{Draws}
use Rattle.drawing_check.specs.Regions.{PassesNorth, HasRegions}
use Rattle.drawing_check.proofs.Pieces.{GoesAt, BackAt, back_in_reverse, goes_in_reverse}
use Rattle.drawing_check.proofs.Leaving.{reverse_dart_is_greater}
use Rattle.drawing_check.specs.declared.face_regions.Upright.{Upright}
use Rattle.drawing_check.specs.Outside.{IsWestmost, IsLevel}
use Rattle.drawing_check.specs.Westmost.{further_west, west_with_part, west_with_path, west_with_edge, westmost_below, face_on_west}
use Rattle.drawing_check.proofs.Drawn.{back_is_lesser, path_axes}
use Rattle.drawing_check.proofs.Passing.{path_of_lesser, path_of_greater}
use Rattle.drawing_check.proofs.ByOneDart.{regions_by_westmost, regions_of_level}

-- there is a part on this line or to the west of it
abbrev IsAtMost : Option Upright → ℕ → Type 0
IsAtMost None x = ⊥
IsAtMost (Some part) x = part.line ≤ x

-- part k of a path lies on line x
record IsUpright (path : List Point) (k x : ℕ) : Type 0 where
  pub inside : k + 1 < length path
  pub from : (point_of path k).x ≡ x
  pub to : (point_of path (k + 1)).x ≡ x

-- it is the part between two points, with the face on its west
pub record IsBetween (left right : ℕ) (a b : Point) (part : Upright) : Type 0 where
  pub from : a.x ≡ part.line
  pub to : b.x ≡ part.line
  pub face : part.face ≡ cond (ltb a.y b.y) left right

-- ---- one part more

further_keeps : (west : Option Upright) (part : Upright) (x : ℕ) → IsAtMost west x → IsAtMost (further_west west part) x
further_keeps None part x h = absurd h
further_keeps (Some west) part x h =
    elim (cases_lt part.line west.line) [
      | inl less ↦ subst (λ (b : Bool). IsAtMost (cond b (Some part) (Some west)) x) (sym (lt-ltb part.line west.line less)) (omega (arith, less, h))
      | inr more ↦ subst (λ (b : Bool). IsAtMost (cond b (Some part) (Some west)) x) (sym (le-ltb part.line west.line more)) h
    ]

further_has : (west : Option Upright) (part : Upright) → IsAtMost (further_west west part) part.line
further_has None part = omega arith
further_has (Some west) part =
    elim (cases_lt part.line west.line) [
      | inl less ↦ subst (λ (b : Bool). IsAtMost (cond b (Some part) (Some west)) part.line) (sym (lt-ltb part.line west.line less)) (omega arith)
      | inr more ↦ subst (λ (b : Bool). IsAtMost (cond b (Some part) (Some west)) part.line) (sym (le-ltb part.line west.line more)) more
    ]

further_from : (west : Option Upright) (part found : Upright) → further_west west part ≡ Some found → (west ≡ Some found) ⊎ (part ≡ found)
further_from None part found e = inr (cc)
further_from (Some west) part found e =
    elim (cases_lt part.line west.line) [
      | inl less ↦ let f : Some part ≡ Some found = sym (cond-true (ltb part.line west.line) (Some part) (Some west) (lt-ltb part.line west.line less)) ∙ e in inr (cc)
      | inr more ↦ inl (sym (cond-false (ltb part.line west.line) (Some part) (Some west) (le-ltb part.line west.line more)) ∙ e)
    ]

module _ (left right : ℕ) where
  abbrev this : Point → Point → Upright
  this a b = record { line = a.x; face = cond (ltb a.y b.y) left right }

  part_keeps : (west : Option Upright) (a b : Point) (x : ℕ) → IsAtMost west x → IsAtMost (west_with_part left right west a b) x
  part_keeps west a b x h =
      elim (cases_eq a.x b.x) [
        | inl same ↦ subst (λ (t : Bool). IsAtMost (cond t (further_west west (this a b)) west) x) (sym (eq-eqb a.x b.x same)) (further_keeps west (this a b) x h)
        | inr off ↦ subst (λ (t : Bool). IsAtMost (cond t (further_west west (this a b)) west) x) (sym (ne_eqb a.x b.x off)) h
      ]

  part_has : (west : Option Upright) (a b : Point) (x : ℕ) → a.x ≡ x → b.x ≡ x → IsAtMost (west_with_part left right west a b) x
  part_has west a b x from to =
      subst (λ (t : Bool). IsAtMost (cond t (further_west west (this a b)) west) x) (sym (eq-eqb a.x b.x (from ∙ sym to)))
      (subst (IsAtMost (further_west west (this a b))) from (further_has west (this a b)))

  part_from : (west : Option Upright) (a b : Point) (found : Upright) → west_with_part left right west a b ≡ Some found → (west ≡ Some found) ⊎ IsBetween left right a b found
  part_from west a b found e =
      elim (cases_eq a.x b.x) [
        | inl same ↦ elim (further_from west (this a b) found (sym (cond-true (eqb a.x b.x) (further_west west (this a b)) west (eq-eqb a.x b.x same)) ∙ e)) [
          | inl before ↦ inl before
          | inr is ↦ inr (record { from = ap (λ (u : Upright). u.line) is; to = sym same ∙ ap (λ (u : Upright). u.line) is; face = sym (ap (λ (u : Upright). u.face) is) })
        ]
        | inr off ↦ inl (sym (cond-false (eqb a.x b.x) (further_west west (this a b)) west (ne_eqb a.x b.x off)) ∙ e)
      ]

  -- ---- a path more

  path_keeps : (west : Option Upright) (path : List Point) (x : ℕ) → IsAtMost west x → IsAtMost (west_with_path left right west path) x
  path_keeps west [] x h = h
  path_keeps west (a ∷ []) x h = h
  path_keeps west (a ∷ b ∷ rest) x h = path_keeps (west_with_part left right west a b) (b ∷ rest) x (part_keeps west a b x h)

  path_has : (west : Option Upright) (path : List Point) (k x : ℕ) → IsUpright path k x → IsAtMost (west_with_path left right west path) x
  path_has west [] k x up = absurd (omega (arith, up.inside))
  path_has west (a ∷ []) k x up = absurd (omega (arith, up.inside))
  path_has west (a ∷ b ∷ rest) zero x up = path_keeps (west_with_part left right west a b) (b ∷ rest) x (part_has west a b x up.from up.to)
  path_has west (a ∷ b ∷ rest) (suc k) x up =
      let e : suc k + 1 ≡ suc (k + 1) = omega arith in
      path_has (west_with_part left right west a b) (b ∷ rest) k x
      (record { inside = omega (arith, up.inside); from = up.from; to = subst (λ (n : ℕ). (point_of (a ∷ b ∷ rest) n).x ≡ x) e up.to })

  -- the part of a path that it is
  pub record IsPartOf (path : List Point) (found : Upright) : Type 0 where
    pub k : ℕ
    pub inside : k + 1 < length path
    pub between : IsBetween left right (point_of path k) (point_of path (k + 1)) found

  path_from : (west : Option Upright) (path : List Point) (found : Upright) → west_with_path left right west path ≡ Some found → (west ≡ Some found) ⊎ IsPartOf path found
  path_from west [] found e = inl e
  path_from west (a ∷ []) found e = inl e
  path_from west (a ∷ b ∷ rest) found e =
      elim (path_from (west_with_part left right west a b) (b ∷ rest) found e) [
        | inl before ↦ elim (part_from west a b found before) [
          | inl earlier ↦ inl earlier
          | inr here ↦ inr (record { k = 0; inside = omega arith; between = here })
        ]
        | inr later ↦
            let up : suc (later.k + 1) ≡ suc later.k + 1 = omega arith in
            inr (record {
              k = suc later.k;
              inside = omega (arith, later.inside);
              between = subst (λ (n : ℕ). IsBetween left right (point_of (b ∷ rest) later.k) (point_of (a ∷ b ∷ rest) n) found) up later.between;
            })
      ]

-- ---- all edges

below_has : (p : PlaneModel) (points : PointsModel) (n d k x : ℕ) → d < n → is_lesser p d ≡ true → IsUpright (path_along p points d) k x
    → IsAtMost (westmost_below p points n) x
below_has p points zero d k x d_in less up = absurd (omega (arith, d_in))
below_has p points (suc n) d k x d_in less up =
    let before : Option Upright = westmost_below p points n in
    let then : Option Upright = west_with_edge p points before n in
    elim (cases_eq d n) [
      | inl last ↦
          let less' : is_lesser p n ≡ true = subst (λ (c : ℕ). is_lesser p c ≡ true) last less in
          subst (λ (t : Bool). IsAtMost (cond t then before) x) (sym less')
          (path_has (face_at p n) (face_at p (reverse_dart p n)) before (path_along p points n) k x (subst (λ (c : ℕ). IsUpright (path_along p points c) k x) last up))
      | inr off ↦
          let earlier : IsAtMost before x = below_has p points n d k x (omega (arith, d_in, off)) less up in
          elim (cases_Bool (is_lesser p n)) [
            | inl less' ↦ subst (λ (t : Bool). IsAtMost (cond t then before) x) (sym less')
                (path_keeps (face_at p n) (face_at p (reverse_dart p n)) before (path_along p points n) x earlier)
            | inr greater ↦ subst (λ (t : Bool). IsAtMost (cond t then before) x) (sym greater) earlier
          ]
    ]

-- the edge of which it is a part
record IsPartOfEdge (p : PlaneModel) (points : PointsModel) (n : ℕ) (found : Upright) : Type 0 where
  pub d : ℕ
  pub below : d < n
  pub less : is_lesser p d ≡ true
  pub part : IsPartOf (face_at p d) (face_at p (reverse_dart p d)) (path_along p points d) found

below_from : (p : PlaneModel) (points : PointsModel) (n : ℕ) (found : Upright) → westmost_below p points n ≡ Some found → IsPartOfEdge p points n found
below_from p points zero found e = absurd (cc)
below_from p points (suc n) found e =
    let before : Option Upright = westmost_below p points n in
    let then : Option Upright = west_with_edge p points before n in
    elim (cases_Bool (is_lesser p n)) [
      | inl less ↦ elim (path_from (face_at p n) (face_at p (reverse_dart p n)) before (path_along p points n) found (sym (cond-true (is_lesser p n) then before less) ∙ e)) [
        | inl earlier ↦ more n (below_from p points n found earlier)
        | inr here ↦ record { d = n; below = omega arith; less = less; part = here }
      ]
      | inr greater ↦ more n (below_from p points n found (sym (cond-false (is_lesser p n) then before greater) ∙ e))
    ]
  where
    more : (n : ℕ) → IsPartOfEdge p points n found → IsPartOfEdge p points (suc n) found
    more n is = let below = is.below in record { d = is.d; below = omega arith; less = is.less; part = is.part }

pub westmost_more : (p : PlaneModel) (points : PointsModel) (d : ℕ) → is_lesser p d ≡ true → westmost_below p points (d + 1) ≡ west_with_edge p points (westmost_below p points d) d
westmost_more p points d less =
    let up : d + 1 ≡ suc d = omega arith in
    ap (westmost_below p points) up ∙ cond-true (is_lesser p d) (west_with_edge p points (westmost_below p points d) d) (westmost_below p points d) less

pub westmost_kept : (p : PlaneModel) (points : PointsModel) (d : ℕ) → is_lesser p d ≡ false → westmost_below p points (d + 1) ≡ westmost_below p points d
westmost_kept p points d greater =
    let up : d + 1 ≡ suc d = omega arith in
    ap (westmost_below p points) up ∙ cond-false (is_lesser p d) (west_with_edge p points (westmost_below p points d) d) (westmost_below p points d) greater

-- what is found along the lesser dart of an edge
pub edge_is : (p : PlaneModel) (points : PointsModel) (west result : Option Upright) (d r left right : ℕ) (path : List Point)
    → r ≡ reverse_dart p d → left ≡ face_at p d → right ≡ face_at p r → path ≡ path_along p points d
    → result ≡ west_with_path left right west path → result ≡ west_with_edge p points west d
edge_is p points west result d r left right path is_r is_left is_right is_path found =
    found
    ∙ ap (λ (k : ℕ). west_with_path k right west path) is_left
    ∙ ap (λ (k : ℕ). west_with_path (face_at p d) k west path) (is_right ∙ ap (face_at p) is_r)
    ∙ ap (west_with_path (face_at p d) (face_at p (reverse_dart p d)) west) is_path

-- ---- in a drawing

abbrev column : Point → ℕ
column q = q.x

abbrev row : Point → ℕ
row q = q.y

module _ (p : PlaneModel) (shape : ShapeModel) (points : PointsModel) (plane : IsPlane p) (is : IsShape p shape) (whole : length points.vertices ≡ vertices p)
    (draws : Draws p shape points) where
  ends : HasEnds p
  ends = plane_ends p plane

  abbrev west : Option Upright
  west = westmost_below p points (darts p)

  -- what passes north there has a part on or east of the westmost one's line
  passing_part : (e x y : ℕ) → PassesNorth p points e x y → IsAtMost (westmost_below p points (darts p)) x
  passing_part e x y passed =
      let e_in = passed.1 in
      let g : GoesAt column row (dart_path p points e) passed.0 x y =
      record { inside = passed.2.0; goes = record { start = passed.2.1; end = passed.2.2; from = passed.2.3; to = passed.2.4 } } in
      elim (cases_Bool (is_lesser p e)) [
        | inl less ↦
            let h = subst (λ (path : List Point). GoesAt column row path passed.0 x y) (path_of_lesser p points e less) g in
            below_has p points (darts p) e passed.0 x e_in less (record { inside = h.inside; from = h.goes.start; to = h.goes.end })
        | inr greater ↦
            let r : ℕ = reverse_dart p e in
            let back = back_in_reverse column row (path_along p points r) passed.0 x y
            (subst (λ (path : List Point). GoesAt column row path passed.0 x y) (path_of_greater p points e greater) g) in
            below_has p points (darts p) r back.0 x (ends.reverse_dart_in_range e e_in) (back_is_lesser p shape points plane is whole draws e e_in greater)
            (record { inside = back.1.inside; from = back.1.goes.end; to = back.1.goes.start })
      ]

  is_level : westmost_below p points (darts p) ≡ None → IsLevel p points
  is_level none e x y passed = subst (λ (o : Option Upright). IsAtMost o x) none (passing_part e x y passed)

  is_westmost : (found : Upright) (y : ℕ) → westmost_below p points (darts p) ≡ Some found → IsWestmost p points found.line y
  is_westmost found y some x' less e passed =
      let bound : found.line ≤ x' = subst (λ (o : Option Upright). IsAtMost o x') some (passing_part e x' y passed) in
      omega (arith, less, bound)

  -- the dart that goes north along it
  record GoesBy (found : Upright) : Type 0 where
    pub d : ℕ
    pub y : ℕ
    pub passes : PassesNorth p points d found.line y
    pub face : face_at p d ≡ found.face

  by_part : (found : Upright) → IsPartOfEdge p points (darts p) found → GoesBy found
  by_part found e =
      let d : ℕ = e.d in
      let d_in : d < darts p = e.below in
      let less = e.less in
      let path : List Point = path_along p points d in
      let k : ℕ = e.part.k in
      let a : Point = point_of path k in
      let b : Point = point_of path (k + 1) in
      let between = e.part.between in
      let inside = e.part.inside in
      let r : ℕ = reverse_dart p d in
      elim (cases_lt a.y b.y) [
        | inl up ↦ record {
          d = d;
          y = b.y;
          passes = passes d found.line b.y d_in
              (subst (λ (l : List Point). (j : ℕ) × GoesAt column row l j found.line b.y) (sym (path_of_lesser p points d less))
              (k, record { inside = inside; goes = record { start = between.from; end = between.to; from = up; to = omega arith } }));
          face = sym (between.face ∙ cond-true (ltb a.y b.y) (face_at p d) (face_at p r) (lt-ltb a.y b.y up));
        }
        | inr down ↦
            let axis = path_axes p shape points plane is whole draws d d_in less k inside in
            let lower : b.y < a.y = elim axis [ inl upright ↦ omega (arith, upright.1, down) | inr level ↦ absurd (level.0 (between.from ∙ sym between.to)) ] in
            let back : BackAt column row path k found.line a.y =
            record { inside = inside; goes = record { start = between.to; end = between.from; from = lower; to = omega arith } } in
            let r_in = ends.reverse_dart_in_range d d_in in
            let is_path : dart_path p points r ≡ reverse path =
            path_of_greater p points r (reverse_dart_is_greater p d ends d_in less) ∙ ap (λ (c : ℕ). reverse (path_along p points c)) (ends.reverse_dart_back d d_in) in
            record {
              d = r;
              y = a.y;
              passes = passes r found.line a.y r_in
                  (subst (λ (l : List Point). (j : ℕ) × GoesAt column row l j found.line a.y) (sym is_path) (goes_in_reverse column row path k found.line a.y back));
              face = sym (between.face ∙ cond-false (ltb a.y b.y) (face_at p d) (face_at p r) (le-ltb a.y b.y down));
            }
      ]
    where
      passes : (d x y : ℕ) → d < darts p → (k : ℕ) × GoesAt column row (dart_path p points d) k x y → PassesNorth p points d x y
      passes d x y d_in g = (g.0, d_in, (g.1.inside, g.1.goes.start, g.1.goes.end, g.1.goes.from, g.1.goes.to))

  pub regions_by_face : HasRegions p points ↔ (face_on_west (westmost_below p points (darts p)) (face_at p 0) ≡ p.outer)
  regions_by_face = by_west (westmost_below p points (darts p)) refl
    where
      by_west : (o : Option Upright) → westmost_below p points (darts p) ≡ o → HasRegions p points ↔ (face_on_west o (face_at p 0) ≡ p.outer)
      by_west None none = regions_of_level p shape points plane is whole draws 0 ends.some_darts (is_level none)
      by_west (Some found) some =
          let by = by_part found (below_from p points (darts p) found some) in
          let told = regions_by_westmost p shape points plane is whole draws by.d found.line by.y by.passes (is_westmost found by.y some) in
          (λ regions. sym by.face ∙ told.0 regions, λ outer. told.1 (by.face ∙ outer))
