-- An angle for each dart: the given one, and for the first free angle of a vertex what its given ones leave of four right angles.
use Rattle.std.proofs.Common.{◌≡◌, ◌≤◌, ◌<◌, ℕ, zero, suc, ◌+◌, ◌-◌, ◌*◌, cond, eqb, Bool, true, false, not, ◌&&◌, ◌||◌, refl, sym, ◌∙◌, ap, subst, inl, inr, arith}
use Rattle.std.specs.Prelude.{Option, Some, None}
use Rattle.std.proofs.lemmas.Bool.{cases_Bool, both_ways, false_from_ne_true, eq-eqb, eqb-true, cond-true, cond-false}
use Rattle.common.specs.Sums.{sum_below}
use Rattle.common.proofs.Sums.{sum_below-same, sum_below-add, sum_below-times, sum_below-none, sum_below-constant}
use Rattle.faces.specs.Planes.{PlaneModel, IsPlane, darts, vertices, head, face_at}
use Rattle.faces.proofs.Ends.{plane_ends}
use Rattle.flow_network.specs.Given.{GivenModel, IsAngle, angle_given, beyond_first}
use Rattle.flow_network.specs.FaceNet.{vertex_degree, beyond_at_vertex}
use Rattle.flow_network.proofs.GivenParts.{all_at_vertices}
use Rattle.run_laws.specs.Points.{right_angles, given_around, IsGivenAngle}
use Rattle.run_laws.proofs.Halves.{any_below, any_from, any_some}
use Rattle.run_laws.proofs.Weights.{AnglesModel, IsEven}

abbrev pub lacks : Option ℕ → Bool
lacks None = true
lacks (Some k) = false

-- dart d arrives at vertex v, and no angle is given there
abbrev pub is_free : PlaneModel → GivenModel → ℕ → ℕ → Bool
is_free p given v d = eqb (head p d) v && lacks (angle_given given d)

abbrev pub free_angles : PlaneModel → GivenModel → ℕ → ℕ
free_angles p given v = sum_below (darts p) (λ d. cond (is_free p given v d) 1 0)

abbrev pub angle_or : Option ℕ → ℕ → ℕ
angle_or None k = k
angle_or (Some a) k = a

-- what is left of a vertex for the free angle of dart d
abbrev pub left_for : PlaneModel → GivenModel → ℕ → ℕ
left_for p given d = cond (any_below d (is_free p given (head p d))) 0 (4 - given_around p given (head p d))

abbrev pub angle_of : PlaneModel → GivenModel → ℕ → ℕ
angle_of p given d = angle_or (angle_given given d) (left_for p given d)

-- what is needed of each vertex: with one right angle at each free angle there are at most four, and just four where none is free
pub record HaveRoom (p : PlaneModel) (given : GivenModel) : Type 0 where
  pub range : (d : ℕ) → d < darts p → IsAngle (angle_given given d)
  pub room : (k : ℕ) → k < vertices p → given_around p given (k + 1) + free_angles p given (k + 1) ≤ 4
  pub whole : (k : ℕ) → k < vertices p → ((d : ℕ) → d < darts p → head p d ≡ k + 1 → IsGivenAngle given d) → given_around p given (k + 1) ≡ 4

-- a sum over the darts that arrive at a vertex
abbrev pub at_vertex : PlaneModel → ℕ → (ℕ → ℕ) → ℕ
at_vertex p v x = sum_below (darts p) (λ d. cond (eqb (head p d) v) (x d) 0)

-- the given angles of a vertex, weighed
abbrev pub given_weighed : PlaneModel → GivenModel → (ℕ → ℕ) → ℕ → ℕ
given_weighed p given w v = at_vertex p v (λ d. right_angles (angle_given given d) * w d)

-- the first number of a set, weighed
first_weighed : (n c b : ℕ) (t : ℕ → Bool) (w : ℕ → ℕ) → ((d : ℕ) → d < n → t d ≡ true → w d ≡ b) → sum_below n (λ d. cond (t d && not (any_below d t)) (c * w d) 0) ≡ cond (any_below n t) (c * b) 0
first_weighed zero c b t w same = refl
first_weighed (suc n) c b t w same =
    next (any_below n t) (t n) (sum_below n (λ d. cond (t d && not (any_below d t)) (c * w d) 0)) (c * w n) (c * b)
    (first_weighed n c b t w (λ d l on. same d (omega arith) on)) (λ on. ap (λ (x : ℕ). c * x) (same n (omega arith) on))
  where
    plus_none : (s v : ℕ) → s ≡ v → s + 0 ≡ v
    plus_none s v is = omega arith

    only : (s u v : ℕ) → s ≡ 0 → u ≡ v → s + u ≡ v
    only s u v none is = omega arith

    next : (x y : Bool) (s u v : ℕ) → s ≡ cond x v 0 → (y ≡ true → u ≡ v) → s + cond (y && not x) u 0 ≡ cond (x || y) v 0
    next true true s u v is last = plus_none s v is
    next true false s u v is last = plus_none s v is
    next false true s u v is last = only s u v is (last refl)
    next false false s u v is last = plus_none s 0 is

-- one right angle and those beyond, weighed: the given angles, and the free ones once
beyond_parts : (p : PlaneModel) (given : GivenModel) (v : ℕ) (w : ℕ → ℕ) → ((d : ℕ) → d < darts p → IsAngle (angle_given given d))
    → at_vertex p v (λ d. (1 + beyond_first (angle_given given d)) * w d) ≡ given_weighed p given w v + sum_below (darts p) (λ d. cond (is_free p given v d) (w d) 0)
beyond_parts p given v w range =
    sum_below-same (darts p) (λ d. cond (eqb (head p d) v) ((1 + beyond_first (angle_given given d)) * w d) 0)
    (λ d. cond (eqb (head p d) v) (right_angles (angle_given given d) * w d) 0 + cond (is_free p given v d) (w d) 0)
    (λ d l. one (eqb (head p d) v) (angle_given given d) (w d) (range d l))
    ∙ sum_below-add (darts p) (λ d. cond (eqb (head p d) v) (right_angles (angle_given given d) * w d) 0) (λ d. cond (is_free p given v d) (w d) 0)
  where
    free : (n : ℕ) → (1 + 0) * n ≡ 0 * n + n
    free n = omega arith

    plus_none : (x : ℕ) → x ≡ x + 0
    plus_none x = omega arith

    known : (k n : ℕ) → 1 ≤ k → (1 + (k - 1)) * n ≡ k * n + 0
    known k n some = let same : 1 + (k - 1) ≡ k = omega arith in ap (λ (x : ℕ). x * n) same ∙ plus_none (k * n)

    one : (a : Bool) (g : Option ℕ) (n : ℕ) → IsAngle g → cond a ((1 + beyond_first g) * n) 0 ≡ cond a (right_angles g * n) 0 + cond (a && lacks g) n 0
    one true None n is = free n
    one true (Some k) n is = known k n is.0
    one false g n is = refl

-- the angles, weighed: the given ones, and what is left at the first free one
angle_parts : (p : PlaneModel) (given : GivenModel) (v : ℕ) (w : ℕ → ℕ)
    → at_vertex p v (λ d. angle_of p given d * w d) ≡ given_weighed p given w v
    + sum_below (darts p) (λ d. cond (is_free p given v d && not (any_below d (is_free p given v))) ((4 - given_around p given v) * w d) 0)
angle_parts p given v w =
    sum_below-same (darts p) (λ d. cond (eqb (head p d) v) (angle_of p given d * w d) 0)
    (λ d. cond (eqb (head p d) v) (right_angles (angle_given given d) * w d) 0 + cond (is_free p given v d && not (any_below d (is_free p given v))) ((4 - given_around p given v) * w d) 0)
    (λ d l. one (eqb (head p d) v) (angle_given given d) (any_below d (is_free p given v)) (left_for p given d) (4 - given_around p given v) (w d)
    (λ at. ap (λ (u : ℕ). cond (any_below d (is_free p given u)) 0 (4 - given_around p given u)) (eqb-true (head p d) v at)))
    ∙ sum_below-add (darts p) (λ d. cond (eqb (head p d) v) (right_angles (angle_given given d) * w d) 0)
    (λ d. cond (is_free p given v d && not (any_below d (is_free p given v))) ((4 - given_around p given v) * w d) 0)
  where
    plus_none : (x : ℕ) → x ≡ x + 0
    plus_none x = omega arith

    twice : (x n : ℕ) → x ≡ x + 0
    twice x n = omega arith

    before : (x n : ℕ) → x ≡ 0 * n + x
    before x n = omega arith

    one : (a : Bool) (g : Option ℕ) (m : Bool) (r c n : ℕ) → (a ≡ true → r ≡ cond m 0 c) → cond a (angle_or g r * n) 0 ≡ cond a (right_angles g * n) 0 + cond ((a && lacks g) && not m) (c * n) 0
    one true None true r c n is = ap (λ (x : ℕ). x * n) (is refl) ∙ twice (0 * n) n
    one true None false r c n is = ap (λ (x : ℕ). x * n) (is refl) ∙ before (c * n) n
    one true (Some k) m r c n is = plus_none (k * n)
    one false g m r c n is = refl

-- free angles that weigh the same
free_weighed : (p : PlaneModel) (given : GivenModel) (v b : ℕ) (w : ℕ → ℕ) → ((d : ℕ) → d < darts p → is_free p given v d ≡ true → w d ≡ b)
    → sum_below (darts p) (λ d. cond (is_free p given v d) (w d) 0) ≡ b * free_angles p given v
free_weighed p given v b w same =
    sum_below-same (darts p) (λ d. cond (is_free p given v d) (w d) 0) (λ d. b * cond (is_free p given v d) 1 0) (λ d l. one (is_free p given v d) (w d) b (same d l))
    ∙ sum_below-times (darts p) b (λ d. cond (is_free p given v d) 1 0)
  where
    once : (b : ℕ) → b ≡ b * 1
    once b = omega arith

    none : (b : ℕ) → 0 ≡ b * 0
    none b = omega arith

    one : (a : Bool) (n b : ℕ) → (a ≡ true → n ≡ b) → cond a n 0 ≡ b * cond a 1 0
    one true n b is = is refl ∙ once b
    one false n b is = none b

given_once : (p : PlaneModel) (given : GivenModel) (v : ℕ) → given_weighed p given (λ _. 1) v ≡ given_around p given v
given_once p given v =
    sum_below-same (darts p) (λ d. cond (eqb (head p d) v) (right_angles (angle_given given d) * 1) 0) (λ d. cond (eqb (head p d) v) (right_angles (angle_given given d)) 0)
    (λ d l. ap (λ (n : ℕ). cond (eqb (head p d) v) n 0) (once (right_angles (angle_given given d))))
  where
    once : (n : ℕ) → n * 1 ≡ n
    once n = omega arith

-- the darts of a vertex and its angles beyond the first are its given angles and the free ones
pub arrivals_parts : (p : PlaneModel) (given : GivenModel) (v : ℕ) → ((d : ℕ) → d < darts p → IsAngle (angle_given given d))
    → vertex_degree p v + beyond_at_vertex p given v ≡ given_around p given v + free_angles p given v
arrivals_parts p given v range =
    sym (sum_below-add (darts p) (λ d. cond (eqb (head p d) v) 1 0) (λ d. cond (eqb (head p d) v) (beyond_first (angle_given given d)) 0))
    ∙ sum_below-same (darts p) (λ d. cond (eqb (head p d) v) 1 0 + cond (eqb (head p d) v) (beyond_first (angle_given given d)) 0) (λ d. cond (eqb (head p d) v) ((1 + beyond_first (angle_given given d)) * 1) 0)
    (λ d l. one (eqb (head p d) v) (beyond_first (angle_given given d)))
    ∙ beyond_parts p given v (λ _. 1) range
    ∙ ap (λ (n : ℕ). n + free_angles p given v) (given_once p given v)
  where
    one : (a : Bool) (n : ℕ) → cond a 1 0 + cond a n 0 ≡ cond a ((1 + n) * 1) 0
    one true n = omega arith
    one false n = refl

-- no angle is free
all_given : (p : PlaneModel) (given : GivenModel) (v : ℕ) → any_below (darts p) (is_free p given v) ≡ false → (d : ℕ) → d < darts p → head p d ≡ v → IsGivenAngle given d
all_given p given v none d below at = known (angle_given given d) refl
  where
    at_v : (a : Bool) → a ≡ true → (a && true) ≡ true
    at_v true on = refl
    at_v false on = on

    at_is : (x y : ℕ) → x ≡ y → eqb x y ≡ true
    at_is x y same = eq-eqb x y same

    here : (g : Option ℕ) → g ≡ None → (eqb (head p d) v && lacks g) ≡ true
    here g is = subst (λ (o : Option ℕ). (eqb (head p d) v && lacks o) ≡ true) (sym is) (at_v (eqb (head p d) v) (at_is (head p d) v at))

    known : (g : Option ℕ) → angle_given given d ≡ g → IsGivenAngle given d
    known None is = absurd (both_ways (any_below (darts p) (is_free p given v)) none (any_from (darts p) d (is_free p given v) below (here (angle_given given d) is)))
    known (Some k) is = (k, is)

-- the angles of a vertex are four right angles
pub four_around : (p : PlaneModel) (given : GivenModel) → HaveRoom p given → (k : ℕ) → k < vertices p → at_vertex p (k + 1) (λ d. angle_of p given d * 1) ≡ 4
four_around p given have k below =
    elim (cases_Bool (any_below (darts p) (is_free p given (k + 1)))) [
      | inl some ↦ close_some (at_vertex p (k + 1) (λ d. angle_of p given d * 1)) (given_weighed p given (λ _. 1) (k + 1)) (given_around p given (k + 1)) (free_angles p given (k + 1))
          (sum_below (darts p) (λ d. cond (is_free p given (k + 1) d && not (any_below d (is_free p given (k + 1)))) ((4 - given_around p given (k + 1)) * 1) 0))
          (angle_parts p given (k + 1) (λ _. 1)) (given_once p given (k + 1))
          (first_weighed (darts p) (4 - given_around p given (k + 1)) 1 (is_free p given (k + 1)) (λ _. 1) (λ d l on. refl)
          ∙ cond-true {A = ℕ} (any_below (darts p) (is_free p given (k + 1))) ((4 - given_around p given (k + 1)) * 1) 0 some)
          (have.room k below)
      | inr none ↦ close_none (at_vertex p (k + 1) (λ d. angle_of p given d * 1)) (given_weighed p given (λ _. 1) (k + 1)) (given_around p given (k + 1))
          (sum_below (darts p) (λ d. cond (is_free p given (k + 1) d && not (any_below d (is_free p given (k + 1)))) ((4 - given_around p given (k + 1)) * 1) 0))
          (angle_parts p given (k + 1) (λ _. 1)) (given_once p given (k + 1))
          (first_weighed (darts p) (4 - given_around p given (k + 1)) 1 (is_free p given (k + 1)) (λ _. 1) (λ d l on. refl)
          ∙ cond-false {A = ℕ} (any_below (darts p) (is_free p given (k + 1))) ((4 - given_around p given (k + 1)) * 1) 0 none)
          (have.whole k below (all_given p given (k + 1) none))
    ]
  where
    close_some : (s g a f r : ℕ) → s ≡ g + r → g ≡ a → r ≡ (4 - a) * 1 → a + f ≤ 4 → s ≡ 4
    close_some s g a f r e1 e2 e3 e4 = omega arith

    close_none : (s g a r : ℕ) → s ≡ g + r → g ≡ a → r ≡ 0 → a ≡ 4 → s ≡ 4
    close_none s g a r e1 e2 e3 e4 = omega arith

abbrev pub angles_model : PlaneModel → GivenModel → AnglesModel
angles_model p given = record { darts = darts p; faces = p.faces; outer = p.outer; face = face_at p; angle = angle_of p given }

pub angles_all : (p : PlaneModel) (given : GivenModel) → IsPlane p → HaveRoom p given → sum_below (darts p) (λ d. angle_of p given d * 1) ≡ vertices p * 4
angles_all p given plane have =
    let ends = plane_ends p plane in
    sym (all_at_vertices p (λ d. angle_of p given d * 1) ends)
    ∙ sum_below-same (vertices p) (λ k. at_vertex p (k + 1) (λ d. angle_of p given d * 1)) (λ _. 4) (four_around p given have)
    ∙ sum_below-constant (vertices p) 4

-- all faces once are even, by Euler's formula
pub even_one : (p : PlaneModel) (given : GivenModel) → IsPlane p → HaveRoom p given → IsEven (angles_model p given) (λ _. 1)
even_one p given plane have =
    close (vertices p) p.faces (darts p) (sum_below p.faces (λ _. 1)) (sum_below (darts p) (λ d. angle_of p given d * 1)) (sum_below (darts p) (λ _. 1))
    (sum_below-constant p.faces 1) (angles_all p given plane have) (sum_below-constant (darts p) 1) plane.euler
  where
    close : (v f d sf sa sd : ℕ) → sf ≡ f * 1 → sa ≡ v * 4 → sd ≡ d * 1 → 2 * (v + f) ≡ d + 4 → 4 * sf + sa ≡ 8 * 1 + 2 * sd
    close v f d sf sa sd e1 e2 e3 e4 = omega arith

-- a vertex of a cut has no more to turn than its angles in the faces of the cut have beyond the first
pub vertex_less : (p : PlaneModel) (given : GivenModel) → HaveRoom p given → (s : ℕ → Bool) (m b : Bool) (k : ℕ) → k < vertices p
    → ((d : ℕ) → d < darts p → is_free p given (k + 1) d ≡ true → s d ≡ b) → ((d : ℕ) → d < darts p → is_free p given (k + 1) d ≡ true → m ≡ true → b ≡ true)
    → at_vertex p (k + 1) (λ d. (1 + beyond_first (angle_given given d)) * cond (s d) 1 0) + cond m 4 0
    ≤ at_vertex p (k + 1) (λ d. angle_of p given d * cond (s d) 1 0) + cond m (vertex_degree p (k + 1) + beyond_at_vertex p given (k + 1)) 0
vertex_less p given have s m b k below alike inside =
    let like : (d : ℕ) → d < darts p → is_free p given (k + 1) d ≡ true → cond {A = ℕ} (s d) 1 0 ≡ cond b 1 0 = λ d l on. ap (λ (t : Bool). cond t 1 0) (alike d l on) in
    let first = first_weighed (darts p) (4 - given_around p given (k + 1)) (cond b 1 0) (is_free p given (k + 1)) (λ d. cond (s d) 1 0) like in
    elim (cases_Bool (any_below (darts p) (is_free p given (k + 1)))) [
      | inl some ↦
          let found = any_some (darts p) (is_free p given (k + 1)) some in
          close_some m b (at_vertex p (k + 1) (λ d. (1 + beyond_first (angle_given given d)) * cond (s d) 1 0)) (at_vertex p (k + 1) (λ d. angle_of p given d * cond (s d) 1 0))
          (given_weighed p given (λ d. cond (s d) 1 0) (k + 1)) (given_around p given (k + 1)) (free_angles p given (k + 1)) (vertex_degree p (k + 1) + beyond_at_vertex p given (k + 1))
          (sum_below (darts p) (λ d. cond (is_free p given (k + 1) d) (cond (s d) 1 0) 0))
          (sum_below (darts p) (λ d. cond (is_free p given (k + 1) d && not (any_below d (is_free p given (k + 1)))) ((4 - given_around p given (k + 1)) * cond (s d) 1 0) 0))
          (inside found.0 found.1 found.2)
          (beyond_parts p given (k + 1) (λ d. cond (s d) 1 0) have.range) (free_weighed p given (k + 1) (cond b 1 0) (λ d. cond (s d) 1 0) like)
          (angle_parts p given (k + 1) (λ d. cond (s d) 1 0))
          (first ∙ cond-true {A = ℕ} (any_below (darts p) (is_free p given (k + 1))) ((4 - given_around p given (k + 1)) * cond b 1 0) 0 some)
          (arrivals_parts p given (k + 1) have.range) (have.room k below)
      | inr none ↦
          close_none m (at_vertex p (k + 1) (λ d. (1 + beyond_first (angle_given given d)) * cond (s d) 1 0)) (at_vertex p (k + 1) (λ d. angle_of p given d * cond (s d) 1 0))
          (given_weighed p given (λ d. cond (s d) 1 0) (k + 1)) (given_around p given (k + 1)) (free_angles p given (k + 1)) (vertex_degree p (k + 1) + beyond_at_vertex p given (k + 1))
          (sum_below (darts p) (λ d. cond (is_free p given (k + 1) d) (cond (s d) 1 0) 0))
          (sum_below (darts p) (λ d. cond (is_free p given (k + 1) d && not (any_below d (is_free p given (k + 1)))) ((4 - given_around p given (k + 1)) * cond (s d) 1 0) 0))
          (beyond_parts p given (k + 1) (λ d. cond (s d) 1 0) have.range)
          (sum_below-none (darts p) (λ d. cond (is_free p given (k + 1) d) (cond (s d) 1 0) 0) (λ d l. cond-false {A = ℕ} (is_free p given (k + 1) d) (cond (s d) 1 0) 0 (not_free d l none)))
          (angle_parts p given (k + 1) (λ d. cond (s d) 1 0))
          (first ∙ cond-false {A = ℕ} (any_below (darts p) (is_free p given (k + 1))) ((4 - given_around p given (k + 1)) * cond b 1 0) 0 none)
          (arrivals_parts p given (k + 1) have.range) (have.whole k below (all_given p given (k + 1) none))
    ]
  where
    not_free : (d : ℕ) → d < darts p → any_below (darts p) (is_free p given (k + 1)) ≡ false → is_free p given (k + 1) d ≡ false
    not_free d l none = false_from_ne_true (is_free p given (k + 1) d) (λ on. both_ways (any_below (darts p) (is_free p given (k + 1))) none (any_from (darts p) d (is_free p given (k + 1)) l on))

    full : (l r g a f t x y : ℕ) → l ≡ g + x → x ≡ 1 * f → r ≡ g + y → y ≡ (4 - a) * 1 → t ≡ a + f → a + f ≤ 4 → l + 4 ≤ r + t
    full l r g a f t x y e1 e2 e3 e4 e5 e6 = omega arith

    part : (l r g a f t x y : ℕ) → l ≡ g + x → x ≡ 1 * f → r ≡ g + y → y ≡ (4 - a) * 1 → t ≡ a + f → a + f ≤ 4 → l + 0 ≤ r + 0
    part l r g a f t x y e1 e2 e3 e4 e5 e6 = omega arith

    empty : (l r g a f x y : ℕ) → l ≡ g + x → x ≡ 0 * f → r ≡ g + y → y ≡ (4 - a) * 0 → l + 0 ≤ r + 0
    empty l r g a f x y e1 e2 e3 e4 = omega arith

    close_some : (m b : Bool) (l r g a f t x y : ℕ) → (m ≡ true → b ≡ true) → l ≡ g + x → x ≡ cond b 1 0 * f → r ≡ g + y → y ≡ (4 - a) * cond b 1 0 → t ≡ a + f → a + f ≤ 4 → l + cond m 4 0 ≤ r + cond m t 0
    close_some true true l r g a f t x y goes e1 e2 e3 e4 e5 e6 = full l r g a f t x y e1 e2 e3 e4 e5 e6
    close_some true false l r g a f t x y goes e1 e2 e3 e4 e5 e6 = absurd (both_ways false refl (goes refl))
    close_some false true l r g a f t x y goes e1 e2 e3 e4 e5 e6 = part l r g a f t x y e1 e2 e3 e4 e5 e6
    close_some false false l r g a f t x y goes e1 e2 e3 e4 e5 e6 = empty l r g a f x y e1 e2 e3 e4

    close_none : (m : Bool) (l r g a f t x y : ℕ) → l ≡ g + x → x ≡ 0 → r ≡ g + y → y ≡ 0 → t ≡ a + f → a ≡ 4 → l + cond m 4 0 ≤ r + cond m t 0
    close_none true l r g a f t x y e1 e2 e3 e4 e5 e6 = omega arith
    close_none false l r g a f t x y e1 e2 e3 e4 e5 e6 = omega arith
