-- The strips of a path list the points between its ends.
use Rattle.std.proofs.Common.{◌≡◌, ℕ, ◌+◌, ◌-◌, ◌<◌, ◌≤◌, ◌⊎◌, Bool, true, false, List, [], ◌∷◌, ◌++◌, map, get_or, refl, sym, ap, ◌∙◌, subst, ⊎_elim, inl, inr, arith, All, AllPairs, ◌↔◌, append_assoc, eqb, suc, cond}
use Rattle.std.specs.List.{flat_map}
use Rattle.std.proofs.lemmas.Bool.{cases_lt, cases_Bool, eqb-true, eq-eqb, and_parts, and_from, both_ways, cond-true, cond-false}
use Rattle.std.proofs.lemmas.List.{append-nil}
use Rattle.std.proofs.lemmas.List.Concat.{flat_map-append}
use Rattle.std.proofs.lemmas.List.Elements.{All-append, All-cons, All-tail, All-head, All-nil}
use Rattle.geometry.specs.declared.plane_sweep.Rectangle.{Rectangle}
use Rattle.geometry.specs.Rectangles.{Covers, IsNonempty, AreApart}
use Rattle.ortho_rep.specs.declared.grid_points.Point.{Point}
use Rattle.drawing_check.specs.Walks.{step_from, distance, walk, interior, AreDistinct}
use Rattle.drawing_check.specs.Paths.{point_of}
use Rattle.drawing_check.specs.Draws.{IsAxis, IsOnAxes, AreOnAxes}
use Rattle.drawing_check.specs.Shown.{rectangle_between, same_point, strips, Enumerates, Shows}
use Rattle.drawing_check.proofs.Coverings.{point_is, shows_append, no_repeat_from_apart, apart_from_no_repeat}
use Rattle.drawing_check.proofs.PathParts.{toward_up, toward_down, toward_same, segment_lists}

-- where b lies from a: above, below, right or left
ways : (a b : Point) → IsAxis a b → (((a.x ≡ b.x) × (a.y < b.y)) ⊎ ((a.x ≡ b.x) × (b.y < a.y))) ⊎ (((a.y ≡ b.y) × (a.x < b.x)) ⊎ ((a.y ≡ b.y) × (b.x < a.x)))
ways a b axis =
    ⊎_elim
    (λ vertical. inl (⊎_elim (λ up. inl (vertical.0, up)) (λ ge. inr (vertical.0, omega (arith, vertical.1))) (cases_lt a.y b.y)))
    (λ level. inr (⊎_elim (λ up. inl (level.1, up)) (λ ge. inr (level.1, omega (arith, level.0))) (cases_lt a.x b.x)))
    axis

steps_some : (a b : Point) → IsAxis a b → 1 ≤ distance a b
steps_some a b axis = ⊎_elim (λ h. omega (arith, h.1)) (λ h. omega (arith, h.0)) axis

-- all steps lead to the end
all_steps : (a b : Point) → IsAxis a b → step_from a b (distance a b) ≡ b
all_steps a b axis =
    let s = distance a b in
    ⊎_elim
    (λ h. ⊎_elim
    (λ w. point_is (step_from a b s) b (toward_same a.x b.x s w.0 ∙ w.0) (toward_up a.y b.y s w.1 ∙ omega (arith, w.0, w.1)))
    (λ w. point_is (step_from a b s) b (toward_same a.x b.x s w.0 ∙ w.0) (toward_down a.y b.y s w.1 ∙ omega (arith, w.0, w.1)))
    h)
    (λ h. ⊎_elim
    (λ w. point_is (step_from a b s) b (toward_up a.x b.x s w.1 ∙ omega (arith, w.0, w.1)) (toward_same a.y b.y s w.0 ∙ w.0))
    (λ w. point_is (step_from a b s) b (toward_down a.x b.x s w.1 ∙ omega (arith, w.0, w.1)) (toward_same a.y b.y s w.0 ∙ w.0))
    h)
    (ways a b axis)

-- all steps but one lead to one step before the end
step_back : (a b : Point) → IsAxis a b → step_from a b (distance a b - 1) ≡ step_from b a 1
step_back a b axis =
    let s = distance a b - 1 in
    ⊎_elim
    (λ h. ⊎_elim
    (λ w. point_is (step_from a b s) (step_from b a 1) (toward_same a.x b.x s w.0 ∙ w.0 ∙ sym (toward_same b.x a.x 1 (sym w.0))) (toward_up a.y b.y s w.1 ∙ (omega (arith, w.0, w.1)) ∙ sym (toward_down b.y a.y 1 w.1)))
    (λ w. point_is (step_from a b s) (step_from b a 1) (toward_same a.x b.x s w.0 ∙ w.0 ∙ sym (toward_same b.x a.x 1 (sym w.0))) (toward_down a.y b.y s w.1 ∙ (omega (arith, w.0, w.1)) ∙ sym (toward_up b.y a.y 1 w.1)))
    h)
    (λ h. ⊎_elim
    (λ w. point_is (step_from a b s) (step_from b a 1) (toward_up a.x b.x s w.1 ∙ (omega (arith, w.0, w.1)) ∙ sym (toward_down b.x a.x 1 w.1)) (toward_same a.y b.y s w.0 ∙ w.0 ∙ sym (toward_same b.y a.y 1 (sym w.0))))
    (λ w. point_is (step_from a b s) (step_from b a 1) (toward_down a.x b.x s w.1 ∙ (omega (arith, w.0, w.1)) ∙ sym (toward_up b.x a.x 1 w.1)) (toward_same a.y b.y s w.0 ∙ w.0 ∙ sym (toward_same b.y a.y 1 (sym w.0))))
    h)
    (ways a b axis)

pub same_point-true : (p q : Point) → same_point p q ≡ true → p ≡ q
same_point-true p q h =
    let parts = and_parts (eqb p.x q.x) (eqb p.y q.y) h in
    point_is p q (eqb-true p.x q.x parts.0) (eqb-true p.y q.y parts.1)

pub same_point-from : (p q : Point) → p ≡ q → same_point p q ≡ true
same_point-from p q e =
    and_from (eqb p.x q.x) (eqb p.y q.y) (eq-eqb p.x q.x (ap (λ (r : Point). r.x) e)) (eq-eqb p.y q.y (ap (λ (r : Point). r.y) e))

-- one step is the whole way where the first step is the end
one_step : (a b : Point) → IsAxis a b → step_from a b 1 ≡ b → distance a b ≡ 1
one_step a b axis e =
    let ex = ap (λ (r : Point). r.x) e in
    let ey = ap (λ (r : Point). r.y) e in
    ⊎_elim
    (λ h. ⊎_elim
    (λ w. omega (arith, w.0, w.1, ey, toward_up a.y b.y 1 w.1))
    (λ w. omega (arith, w.0, w.1, ey, toward_down a.y b.y 1 w.1))
    h)
    (λ h. ⊎_elim
    (λ w. omega (arith, w.0, w.1, ex, toward_up a.x b.x 1 w.1))
    (λ w. omega (arith, w.0, w.1, ex, toward_down a.x b.x 1 w.1))
    h)
    (ways a b axis)

more_steps : (a b : Point) → IsAxis a b → same_point (step_from a b 1) b ≡ false → 1 ≤ distance a b - 1
more_steps a b axis no_end =
    ⊎_elim
    (λ few. absurd (both_ways (same_point (step_from a b 1) b) no_end
    (same_point-from (step_from a b 1) b (let one : distance a b ≡ 1 = let some = steps_some a b axis in omega arith in subst (λ (n : ℕ). step_from a b n ≡ b) one (all_steps a b axis)))))
    (λ many. omega arith)
    (cases_lt (distance a b) 2)

-- ---- a path

-- what holds of a path's parts holds of those after the first
axes_rest : (a : Point) (path : List Point) → IsOnAxes (a ∷ path) → IsOnAxes path
axes_rest a path h k lt =
    let e : suc k + 1 ≡ suc (k + 1) = omega arith in
    subst (λ (n : ℕ). IsAxis (point_of path k) (point_of (a ∷ path) n)) e (h (suc k) (omega arith))

pub shows_strips : (path : List Point) → IsOnAxes path → Shows (strips path) (interior path)
shows_strips [] h = refl
shows_strips (a ∷ []) h = refl
shows_strips (a ∷ b ∷ []) h = last (h 0 (omega arith)) (cases_Bool (same_point (step_from a b 1) b))
  where
    last : IsAxis a b → (same_point (step_from a b 1) b ≡ true) ⊎ (same_point (step_from a b 1) b ≡ false) → Shows (strips (a ∷ b ∷ [])) (interior (a ∷ b ∷ []))
    last axis (inl end) =
        let one = one_step a b axis (same_point-true (step_from a b 1) b end) in
        rw end (rw one refl)
    last axis (inr more) =
        rw more (
          walk a b (distance a b - 1),
          [],
          sym (append-nil (walk a b (distance a b - 1))),
          subst (λ (p : Point). Enumerates (rectangle_between (step_from a b 1) p) (walk a b (distance a b - 1))) (step_back a b axis) (segment_lists a b (distance a b - 1) axis (more_steps a b axis more) (omega arith)),
          refl,
        )
shows_strips (a ∷ b ∷ c ∷ rest) h =
    let axis = h 0 (omega arith) in (
      walk a b (distance a b),
      interior (b ∷ c ∷ rest),
      refl,
      subst (λ (p : Point). Enumerates (rectangle_between (step_from a b 1) p) (walk a b (distance a b))) (all_steps a b axis) (segment_lists a b (distance a b) axis (steps_some a b axis) (omega arith)),
      shows_strips (b ∷ c ∷ rest) (axes_rest a (b ∷ c ∷ rest) h),
    )

pub shows_paths : (ps : List (List Point)) → AreOnAxes ps → Shows (flat_map strips ps) (flat_map interior ps)
shows_paths [] h = refl
shows_paths (path ∷ ps) h =
    shows_append (strips path) (flat_map strips ps) (interior path) (flat_map interior ps) (shows_strips path (All-head IsOnAxes path ps h)) (shows_paths ps (All-tail IsOnAxes path ps h))

-- a vertex is a rectangle of one point
point_lists : (p : Point) → Enumerates (rectangle_between p p) (p ∷ [])
point_lists p = record {
  once = λ i j d lt within. absurd (omega arith);
  covered = λ q. (
    λ h. let zeroth : h.0 ≡ 0 = omega (arith, h.1) in let one : p ≡ q = subst (λ (n : ℕ). get_or (p ∷ []) n q ≡ q) zeroth h.2 in subst (λ (r : Point). Covers (rectangle_between p p) r.x r.y) one (omega arith, omega arith, omega arith, omega arith),
    λ in_p. (0, omega arith, point_is p q (omega (arith, in_p.0, in_p.1)) (omega (arith, in_p.2, in_p.3))),
  );
}

pub shows_points : (ps : List Point) → Shows (map (λ p. rectangle_between p p) ps) ps
shows_points [] = refl
shows_points (p ∷ ps) = (p ∷ [], ps, refl, point_lists p, shows_points ps)

-- ---- each is a rectangle

rectangle_filled : (a b : Point) → IsNonempty (rectangle_between a b)
rectangle_filled a b = (omega arith, omega arith)

points_filled : (ps : List Point) → All IsNonempty (map (λ p. rectangle_between p p) ps)
points_filled [] = All-nil IsNonempty
points_filled (p ∷ ps) = All-cons IsNonempty (rectangle_between p p) (map (λ q. rectangle_between q q) ps) (rectangle_filled p p) (points_filled ps)

strips_filled : (path : List Point) → All IsNonempty (strips path)
strips_filled [] = All-nil IsNonempty
strips_filled (a ∷ []) = All-nil IsNonempty
strips_filled (a ∷ b ∷ []) = last (same_point (step_from a b 1) b)
  where
    last : (t : Bool) → All IsNonempty (cond t [] (rectangle_between (step_from a b 1) (step_from b a 1) ∷ []))
    last true = All-nil IsNonempty
    last false = All-cons IsNonempty (rectangle_between (step_from a b 1) (step_from b a 1)) [] (rectangle_filled (step_from a b 1) (step_from b a 1)) (All-nil IsNonempty)
strips_filled (a ∷ b ∷ c ∷ rest) =
    All-cons IsNonempty (rectangle_between (step_from a b 1) b) (strips (b ∷ c ∷ rest)) (rectangle_filled (step_from a b 1) b) (strips_filled (b ∷ c ∷ rest))

paths_filled : (ps : List (List Point)) → All IsNonempty (flat_map strips ps)
paths_filled [] = All-nil IsNonempty
paths_filled (path ∷ ps) = All-append IsNonempty (strips path) (flat_map strips ps) (strips_filled path) (paths_filled ps)

-- each rectangle of the vertices and the paths is one
pub listed_filled : (vertices : List Point) (ps : List (List Point)) (rs : List Rectangle) → rs ≡ map (λ p. rectangle_between p p) vertices ++ flat_map strips ps → All IsNonempty rs
listed_filled vertices ps rs is = rw is (All-append IsNonempty (map (λ p. rectangle_between p p) vertices) (flat_map strips ps) (points_filled vertices) (paths_filled ps))

-- ---- one part more

pub strips-more : (a b e : Point) (l : List Point) → strips (a ∷ b ∷ (l ++ e ∷ [])) ≡ rectangle_between (step_from a b 1) b ∷ strips (b ∷ (l ++ e ∷ []))
strips-more a b e [] = refl
strips-more a b e (c ∷ l) = refl

-- the strip of the next part
pub add_strip : (old new target : List Rectangle) (value : Rectangle) (from c e : Point) (l rest : List Point) → old ++ strips (from ∷ (l ++ e ∷ [])) ≡ target → l ≡ c ∷ rest → value ≡ rectangle_between (step_from from c 1) c → new ≡ old ++ value ∷ [] → new ++ strips (c ∷ (rest ++ e ∷ [])) ≡ target
add_strip old new target value from c e l rest done is_l is_value is_new =
    let behind : List Rectangle = strips (c ∷ (rest ++ e ∷ [])) in
    ap (λ (n : List Rectangle). n ++ behind) is_new
    ∙ append_assoc old (value ∷ []) behind
    ∙ ap (λ (v : Rectangle). old ++ v ∷ behind) is_value
    ∙ ap (λ (s : List Rectangle). old ++ s) (sym (strips-more from c e rest))
    ∙ ap (λ (m : List Point). old ++ strips (from ∷ (m ++ e ∷ []))) (sym is_l)
    ∙ done

-- a last part of one step has none
pub no_last_strip : (old target : List Rectangle) (from e : Point) (l : List Point) → old ++ strips (from ∷ (l ++ e ∷ [])) ≡ target → l ≡ [] → same_point (step_from from e 1) e ≡ true → old ≡ target
no_last_strip old target from e l done is_l end =
    let none : strips (from ∷ e ∷ []) ≡ [] = cond-true (same_point (step_from from e 1) e) [] (rectangle_between (step_from from e 1) (step_from e from 1) ∷ []) end in
    sym (append-nil old) ∙ ap (λ (s : List Rectangle). old ++ s) (sym none) ∙ ap (λ (m : List Point). old ++ strips (from ∷ (m ++ e ∷ []))) (sym is_l) ∙ done

-- any other last part has one without its end
pub last_strip : (old new target : List Rectangle) (value : Rectangle) (from e : Point) (l : List Point) → old ++ strips (from ∷ (l ++ e ∷ [])) ≡ target → l ≡ [] → same_point (step_from from e 1) e ≡ false → value ≡ rectangle_between (step_from from e 1) (step_from e from 1) → new ≡ old ++ value ∷ [] → new ≡ target
last_strip old new target value from e l done is_l more is_value is_new =
    let one : strips (from ∷ e ∷ []) ≡ rectangle_between (step_from from e 1) (step_from e from 1) ∷ [] = cond-false (same_point (step_from from e 1) e) [] (rectangle_between (step_from from e 1) (step_from e from 1) ∷ []) more in
    is_new ∙ ap (λ (v : Rectangle). old ++ v ∷ []) is_value ∙ ap (λ (s : List Rectangle). old ++ s) (sym one) ∙ ap (λ (m : List Point). old ++ strips (from ∷ (m ++ e ∷ []))) (sym is_l) ∙ done

-- the rectangles of one more path
pub paths_step : (base old new : List Rectangle) (ps : List (List Point)) (path : List Point) → old ≡ base ++ flat_map strips ps → new ≡ old ++ strips path → new ≡ base ++ flat_map strips (ps ++ path ∷ [])
paths_step base old new ps path done is_new =
    is_new
    ∙ ap (λ (rs : List Rectangle). rs ++ strips path) done
    ∙ append_assoc base (flat_map strips ps) (strips path)
    ∙ ap (λ (s : List Rectangle). base ++ s)
    (ap (λ (s : List Rectangle). flat_map strips ps ++ s) (sym (append-nil (strips path))) ∙ sym (flat_map-append strips ps (path ∷ [])))

-- the rectangles of all vertices and all paths are apart exactly where no point is met twice
pub apart_is_no_repeat : (vertices : List Point) (ps : List (List Point)) (rs : List Rectangle) → AreOnAxes ps → rs ≡ map (λ p. rectangle_between p p) vertices ++ flat_map strips ps → AllPairs AreApart rs ↔ AreDistinct (vertices ++ flat_map interior ps)
apart_is_no_repeat vertices ps rs axes is =
    let shown = shows_append (map (λ p. rectangle_between p p) vertices) (flat_map strips ps) vertices (flat_map interior ps) (shows_points vertices) (shows_paths ps axes) in
    let all : Shows rs (vertices ++ flat_map interior ps) = subst (λ (l : List Rectangle). Shows l (vertices ++ flat_map interior ps)) (sym is) shown in
    (no_repeat_from_apart rs (vertices ++ flat_map interior ps) all, apart_from_no_repeat rs (vertices ++ flat_map interior ps) all)
