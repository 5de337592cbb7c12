-- Each face has two darts at least, so none has more than twice as many as there are vertices, less two.
use Rattle.std.proofs.Common.{◌≡◌, ◌≢◌, ℕ, ◌+◌, ◌*◌, ◌<◌, ◌≤◌, ◌==◌, Bool, true, false, cond, eqb, ◌∙◌, sym, ap, arith, refl}
use Rattle.std.proofs.lemmas.Bool.{eq-eqb, ne_eqb, cond-true, cond-false}
use Rattle.common.specs.Sums.{sum_below}
use Rattle.common.proofs.Sums.{sum_below-changed, sum_below-member, sum_below-le, sum_below-constant}
use Rattle.embedding.proofs.Rotation.{one_dart}
use Rattle.faces.specs.Planes.{PlaneModel, IsPlane, darts, vertices, next, tail, head, reverse_dart, face_at, degree}
use Rattle.faces.proofs.Ends.{plane_ends, seven_rules}
use Rattle.faces.proofs.Degrees.{degrees_sum}

-- a dart is not its own next, since it would be its own reverse
next_apart : (p : PlaneModel) → IsPlane p → (d : ℕ) → d < darts p → next p d ≢ d
next_apart p plane d b same =
    let ends = plane_ends p plane in
    let r = reverse_dart p d in
    let r_in = ends.reverse_dart_in_range d b in
    let loops : tail p d ≡ head p d = ap (tail p) (sym same) ∙ ends.next_tail d b in
    ends.reverse_dart_apart d b
    (one_dart p.lists (seven_rules p.lists plane.rules) r d r_in b (ends.reverse_dart_tail d b ∙ sym loops) (ends.reverse_dart_head d b ∙ loops))

-- two members of a sum
two_members : (n a b : ℕ) (f : ℕ → ℕ) → a < n → b < n → a ≢ b → f a + f b ≤ sum_below n f
two_members n a b f a_in b_in apart =
    let g : ℕ → ℕ = λ i. cond (eqb a i) 0 (f i) in
    let changed : sum_below n f + g a ≡ sum_below n g + f a =
    sum_below-changed n a f g a_in (λ i _ other. sym (cond-false {A = ℕ} (eqb a i) 0 (f i) (ne_eqb a i (λ e. other (sym e))))) in
    let none : g a ≡ 0 = cond-true {A = ℕ} (eqb a a) 0 (f a) (eq-eqb a a refl) in
    let there : g b ≡ f b = cond-false {A = ℕ} (eqb a b) 0 (f b) (ne_eqb a b apart) in
    omega (arith, changed, none, there, sum_below-member n b g b_in)

pub degree_some : (p : PlaneModel) → IsPlane p → (f : ℕ) → f < p.faces → 2 ≤ degree p f
degree_some p plane f b =
    let ends = plane_ends p plane in
    let (d, d_in, here) = plane.faces.used f b in
    let after_in : next p d < darts p = ends.next_one.inside d d_in in
    let there : face_at p (next p d) ≡ f = plane.faces.closed d d_in ∙ here in
    let each : ℕ → ℕ = λ e. cond (face_at p e == f) 1 0 in
    omega (
      arith,
      two_members (darts p) d (next p d) each d_in after_in (λ e. next_apart p plane d d_in (sym e)),
      cond-true {A = ℕ} (eqb (face_at p d) f) 1 0 (eq-eqb (face_at p d) f here),
      cond-true {A = ℕ} (eqb (face_at p (next p d)) f) 1 0 (eq-eqb (face_at p (next p d)) f there),
    )

-- the other faces have two each, and by Euler's formula no more is left for this one
pub degree_at_most : (p : PlaneModel) → IsPlane p → (f : ℕ) → f < p.faces → degree p f + 2 ≤ 2 * vertices p
degree_at_most p plane f b =
    let ends = plane_ends p plane in
    let m = p.faces in
    let g : ℕ → ℕ = λ k. cond (eqb f k) 2 (degree p k) in
    let changed : sum_below m (degree p) + g f ≡ sum_below m g + degree p f =
    sum_below-changed m f (degree p) g b (λ k _ other. sym (cond-false {A = ℕ} (eqb f k) 2 (degree p k) (ne_eqb f k (λ e. other (sym e))))) in
    let two : g f ≡ 2 = cond-true {A = ℕ} (eqb f f) 2 (degree p f) (eq-eqb f f refl) in
    let each : sum_below m (λ _. 2) ≤ sum_below m g = sum_below-le m (λ _. 2) g (λ k l. some p plane f k l) in
    omega (arith, changed, two, each, sum_below-constant m 2, degrees_sum (darts p) m (face_at p) ends.face_named, plane.euler)
  where
    two_or : (c : Bool) (n : ℕ) → 2 ≤ n → 2 ≤ cond c 2 n
    two_or true n h = omega arith
    two_or false n h = h

    some : (p : PlaneModel) → IsPlane p → (f k : ℕ) → k < p.faces → 2 ≤ cond (eqb f k) 2 (degree p k)
    some p plane f k l = two_or (eqb f k) (degree p k) (degree_some p plane k l)
