-- The parts of all edges are the sides that darts pass.
use Rattle.std.proofs.Common.{◌≡◌, ℕ, ◌<◌, true, false, List, [], ◌∷◌, reverse, refl, sym, ap, ◌∙◌, subst, ⊎_elim, arith, ltb}
use Rattle.std.specs.List.{Contains, flat_map}
use Rattle.std.proofs.lemmas.Bool.{cases_Bool, cond-true, cond-false, lt-ltb, ltb-false}
use Rattle.std.proofs.lemmas.List.Elements.{Contains-append_left, Contains-append_right, Contains-append_cases, All-contains}
use Rattle.faces.specs.Planes.{PlaneModel, HasEnds, darts, reverse_dart, face_at}
use Rattle.ortho_rep.specs.declared.grid_points.Point.{Point}
use Rattle.ortho_rep.specs.Points.{PointsModel}
use Rattle.ortho_rep.specs.Edges.{is_lesser, lesser_darts}
use Rattle.drawing_check.specs.Paths.{path_along, dart_path}
use Rattle.drawing_check.specs.Regions.{PassesNorth, PassesEast}
use Rattle.drawing_check.specs.Parts.{Part, passes, pieces, upright_parts, level_parts}
use Rattle.drawing_check.proofs.Routing.{lesser_in, lesser_inside, each_lesser}
use Rattle.drawing_check.proofs.Leaving.{reverse_dart_is_greater}
use Rattle.drawing_check.proofs.PassingParts.{contains_head, contains_tail, contains_cases, contains_none}
use Rattle.drawing_check.proofs.Pieces.{GoesAt, between, Found, path_found, path_found_back, path_told, back_in_reverse, goes_in_reverse}

-- ---- lists of lists

pub contains_flat : {X Y : Type 0} (f : X → List Y) (x : X) (y : Y) (xs : List X) → Contains xs x → Contains (f x) y → Contains (flat_map f xs) y
contains_flat f x y [] h in_x = contains_none x h
contains_flat {X} {Y} f x y (z ∷ zs) h in_x =
    ⊎_elim
    (λ e. Contains-append_left (f z) (flat_map f zs) y (subst (λ (w : X). Contains (f w) y) (sym e) in_x))
    (λ behind. Contains-append_right (f z) (flat_map f zs) y (contains_flat f x y zs behind in_x))
    (contains_cases z x zs h)

pub flat_contains : {X Y : Type 0} (f : X → List Y) (y : Y) (xs : List X) → Contains (flat_map f xs) y → (x : X) × Contains xs x × Contains (f x) y
flat_contains f y [] h = contains_none y h
flat_contains f y (x ∷ xs) h =
    ⊎_elim
    (λ here. (x, contains_head x xs, here))
    (λ behind. let more = flat_contains f y xs behind in (more.0, contains_tail x more.0 xs more.1, more.2))
    (Contains-append_cases (f x) (flat_map f xs) y h)

-- ---- lesser darts

lesser_is_inside : (p : PlaneModel) (d : ℕ) → Contains (lesser_darts p) d → d < darts p
lesser_is_inside p d h = All-contains (λ e. e < darts p) (lesser_darts p) d (lesser_inside p) h

lesser_is_lesser : (p : PlaneModel) (d : ℕ) → Contains (lesser_darts p) d → is_lesser p d ≡ true
lesser_is_lesser p d h = All-contains (λ e. is_lesser p e ≡ true) (lesser_darts p) d ((each_lesser (λ e. is_lesser p e ≡ true) p).1 (λ e lt less. less)) h

path_of_lesser : (p : PlaneModel) (points : PointsModel) (d : ℕ) → is_lesser p d ≡ true → dart_path p points d ≡ path_along p points d
path_of_lesser p points d less = cond-true (is_lesser p d) (path_along p points d) (reverse (path_along p points (reverse_dart p d))) less

path_of_greater : (p : PlaneModel) (points : PointsModel) (d : ℕ) → is_lesser p d ≡ false → dart_path p points d ≡ reverse (path_along p points (reverse_dart p d))
path_of_greater p points d greater = cond-false (is_lesser p d) (path_along p points d) (reverse (path_along p points (reverse_dart p d))) greater

path_of_reverse : (p : PlaneModel) (points : PointsModel) (d : ℕ) → HasEnds p → d < darts p → is_lesser p d ≡ true → dart_path p points (reverse_dart p d) ≡ reverse (path_along p points d)
path_of_reverse p points d ends inside less =
    path_of_greater p points (reverse_dart p d) (reverse_dart_is_greater p d ends inside less)
    ∙ ap (λ (e : ℕ). reverse (path_along p points e)) (ends.reverse_dart_back d inside)

reverse_is_lesser : (p : PlaneModel) (d : ℕ) → HasEnds p → d < darts p → is_lesser p d ≡ false → is_lesser p (reverse_dart p d) ≡ true
reverse_is_lesser p d ends inside greater = turned d (reverse_dart p d) (reverse_dart p (reverse_dart p d)) greater (λ e. ends.reverse_dart_apart d inside e) (ends.reverse_dart_back d inside)
  where
    turned : (a b c : ℕ) → ltb a b ≡ false → (b ≡ a → ⊥) → c ≡ a → ltb b c ≡ true
    turned a b c above apart same = let le = ltb-false a b above in lt-ltb b c (omega arith)

-- ---- darts

-- dart d passes place c of line l
pub record Passed (line across : Point → ℕ) (p : PlaneModel) (points : PointsModel) (d l c : ℕ) : Type 0 where
  pub k : ℕ
  pub inside : d < darts p
  pub goes : GoesAt line across (dart_path p points d) k l c

-- the parts of all edges along one axis, where of a dart one face is before and the other behind
abbrev pub all_parts : (Point → ℕ) → (Point → ℕ) → (ℕ → ℕ) → (ℕ → ℕ) → PlaneModel → PointsModel → List Part
all_parts line across before behind p points =
    flat_map (λ d. pieces (between line across (before d) (behind d)) (path_along p points d)) (lesser_darts p)

-- each part that passes tells of a dart, and of each dart that passes a part tells
pub record TellsOf (Passes : ℕ → ℕ → ℕ → Type 0) (before behind : ℕ → ℕ) (parts : List Part) : Type 0 where
  pub each : (s : Part) → Contains parts s → (l c : ℕ) → passes s l c ≡ true → (d : ℕ) × Passes d l c × (s.before ≡ before d) × (s.behind ≡ behind d)
  pub all : (d l c : ℕ) → Passes d l c → Found parts l c (before d) (behind d)

-- the two darts of an edge have the two faces exchanged
pub record AreExchanged (p : PlaneModel) (before behind : ℕ → ℕ) : Type 0 where
  pub before_is : (d : ℕ) → d < darts p → before (reverse_dart p d) ≡ behind d
  pub behind_is : (d : ℕ) → d < darts p → behind (reverse_dart p d) ≡ before d

pub parts_tell : (line across : Point → ℕ) (before behind : ℕ → ℕ) (p : PlaneModel) (points : PointsModel) → HasEnds p → AreExchanged p before behind
    → TellsOf (Passed line across p points) before behind (all_parts line across before behind p points)
parts_tell line across before behind p points ends exchanged = record { each = each; all = all }
  where
    each : (s : Part) → Contains (all_parts line across before behind p points) s → (l c : ℕ) → passes s l c ≡ true → (d : ℕ) × Passed line across p points d l c × (s.before ≡ before d) × (s.behind ≡ behind d)
    each s among l c here =
        let found = flat_contains (λ (d : ℕ). pieces (between line across (before d) (behind d)) (path_along p points d)) s (lesser_darts p) among in
        let d : ℕ = found.0 in
        let inside = lesser_is_inside p d found.1 in
        let less = lesser_is_lesser p d found.1 in
        ⊎_elim
        (λ told. (
          d,
          record { k = told.k; inside = inside; goes = subst (λ (path : List Point). GoesAt line across path told.k l c) (sym (path_of_lesser p points d less)) told.goes },
          told.is_before,
          told.is_behind,
        ))
        (λ told.
        let back = goes_in_reverse line across (path_along p points d) told.k l c told.goes in (
          reverse_dart p d,
          record { k = back.0; inside = ends.reverse_dart_in_range d inside; goes = subst (λ (path : List Point). GoesAt line across path back.0 l c) (sym (path_of_reverse p points d ends inside less)) back.1 },
          told.is_before ∙ sym (exchanged.before_is d inside),
          told.is_behind ∙ sym (exchanged.behind_is d inside),
        ))
        (path_told line across (before d) (behind d) (path_along p points d) l c s found.2 here)

    found_in : (d l c x y : ℕ) → d < darts p → is_lesser p d ≡ true → Found (pieces (between line across (before d) (behind d)) (path_along p points d)) l c x y → Found (all_parts line across before behind p points) l c x y
    found_in d l c x y inside less f = record {
      part = f.part;
      among = contains_flat (λ (e : ℕ). pieces (between line across (before e) (behind e)) (path_along p points e)) d f.part (lesser_darts p) (lesser_in (is_lesser p) (darts p) d inside less) f.among;
      here = f.here;
      is_before = f.is_before;
      is_behind = f.is_behind;
    }

    all : (d l c : ℕ) → Passed line across p points d l c → Found (all_parts line across before behind p points) l c (before d) (behind d)
    all d l c passed =
        ⊎_elim
        (λ less. found_in d l c (before d) (behind d) passed.inside less
        (path_found line across (before d) (behind d) (path_along p points d) passed.k l c
        (subst (λ (path : List Point). GoesAt line across path passed.k l c) (path_of_lesser p points d less) passed.goes)))
        (λ greater.
        let e : ℕ = reverse_dart p d in
        let back = back_in_reverse line across (path_along p points e) passed.k l c
        (subst (λ (path : List Point). GoesAt line across path passed.k l c) (path_of_greater p points d greater) passed.goes) in
        let f = path_found_back line across (before e) (behind e) (path_along p points e) back.0 l c back.1 in
        found_in e l c (before d) (behind d) (ends.reverse_dart_in_range d passed.inside) (reverse_is_lesser p d ends passed.inside greater) (record {
          part = f.part;
          among = f.among;
          here = f.here;
          is_before = f.is_before ∙ exchanged.behind_is d passed.inside;
          is_behind = f.is_behind ∙ exchanged.before_is d passed.inside;
        }))
        (cases_Bool (is_lesser p d))

-- ---- the two axes

faces_exchanged : (p : PlaneModel) → HasEnds p → AreExchanged p (face_at p) (λ d. face_at p (reverse_dart p d))
faces_exchanged p ends = record {
  before_is = λ d inside. refl;
  behind_is = λ d inside. ap (face_at p) (ends.reverse_dart_back d inside);
}

faces_exchanged_back : (p : PlaneModel) → HasEnds p → AreExchanged p (λ d. face_at p (reverse_dart p d)) (face_at p)
faces_exchanged_back p ends = record {
  before_is = λ d inside. ap (face_at p) (ends.reverse_dart_back d inside);
  behind_is = λ d inside. refl;
}

pub uprights_tell : (p : PlaneModel) (points : PointsModel) → HasEnds p → TellsOf (PassesNorth p points) (face_at p) (λ d. face_at p (reverse_dart p d)) (flat_map (upright_parts p points) (lesser_darts p))
uprights_tell p points ends =
    let tells = parts_tell (λ q. q.x) (λ q. q.y) (face_at p) (λ d. face_at p (reverse_dart p d)) p points ends (faces_exchanged p ends) in
    record {
      each = λ s among l c here.
          let t = tells.each s among l c here in (
            t.0,
            (t.1.k, t.1.inside, (t.1.goes.inside, t.1.goes.goes.start, t.1.goes.goes.end, t.1.goes.goes.from, t.1.goes.goes.to)),
            t.2,
            t.3,
          );
      all = λ d l c passed. tells.all d l c (record {
        k = passed.0;
        inside = passed.1;
        goes = record { inside = passed.2.0; goes = record { start = passed.2.1; end = passed.2.2; from = passed.2.3; to = passed.2.4 } };
      });
    }

pub levels_tell : (p : PlaneModel) (points : PointsModel) → HasEnds p → TellsOf (λ d y x. PassesEast p points d x y) (λ d. face_at p (reverse_dart p d)) (face_at p) (flat_map (level_parts p points) (lesser_darts p))
levels_tell p points ends =
    let tells = parts_tell (λ q. q.y) (λ q. q.x) (λ d. face_at p (reverse_dart p d)) (face_at p) p points ends (faces_exchanged_back p ends) in
    record {
      each = λ s among l c here.
          let t = tells.each s among l c here in (
            t.0,
            (t.1.k, t.1.inside, (t.1.goes.inside, t.1.goes.goes.start, t.1.goes.goes.end, t.1.goes.goes.from, t.1.goes.goes.to)),
            t.2,
            t.3,
          );
      all = λ d l c passed. tells.all d l c (record {
        k = passed.0;
        inside = passed.1;
        goes = record { inside = passed.2.0; goes = record { start = passed.2.1; end = passed.2.2; from = passed.2.3; to = passed.2.4 } };
      });
    }
