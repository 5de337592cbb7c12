-- Weights of faces. With so many right angles at each angle, a weight is even if the faces, each as often as its weight, have
-- nothing to turn together. Sums of even weights are even.
use Rattle.std.proofs.Common.{◌≡◌, ◌<◌, ℕ, zero, suc, ◌+◌, ◌*◌, refl, sym, ◌∙◌, ap, subst, arith}
use Rattle.std.proofs.Math.Nat.{mul-add}
use Rattle.common.specs.Sums.{sum_below}
use Rattle.common.proofs.Sums.{sum_below-same, sum_below-add, sum_below-none}

-- faces of darts, the outer face, and the angle at the head of each dart in right angles
pub record AnglesModel : Type 0 where
  pub darts : ℕ
  pub faces : ℕ
  pub outer : ℕ
  pub face : ℕ → ℕ
  pub angle : ℕ → ℕ

-- a dart turns by two right angles less its angle, an inner face by four, the outer face by four the other way
abbrev pub supplied : AnglesModel → (ℕ → ℕ) → ℕ
supplied x w = 4 * sum_below x.faces w + sum_below x.darts (λ d. x.angle d * w (x.face d))

abbrev pub used : AnglesModel → (ℕ → ℕ) → ℕ
used x w = 8 * w x.outer + 2 * sum_below x.darts (λ d. w (x.face d))

abbrev pub IsEven : AnglesModel → (ℕ → ℕ) → Type 0
IsEven x w = supplied x w ≡ used x w

supplied_add : (x : AnglesModel) (w u : ℕ → ℕ) → supplied x (λ f. w f + u f) ≡ supplied x w + supplied x u
supplied_add x w u =
    let parted : sum_below x.darts (λ d. x.angle d * (w (x.face d) + u (x.face d))) ≡ sum_below x.darts (λ d. x.angle d * w (x.face d) + x.angle d * u (x.face d)) =
    sum_below-same x.darts (λ d. x.angle d * (w (x.face d) + u (x.face d))) (λ d. x.angle d * w (x.face d) + x.angle d * u (x.face d)) (λ d l. mul-add (x.angle d) (w (x.face d)) (u (x.face d))) in
    close (sum_below x.faces (λ f. w f + u f)) (sum_below x.faces w) (sum_below x.faces u) (sum_below x.darts (λ d. x.angle d * (w (x.face d) + u (x.face d))))
    (sum_below x.darts (λ d. x.angle d * w (x.face d))) (sum_below x.darts (λ d. x.angle d * u (x.face d)))
    (sum_below-add x.faces w u) (parted ∙ sum_below-add x.darts (λ d. x.angle d * w (x.face d)) (λ d. x.angle d * u (x.face d)))
  where
    close : (fs f1 f2 ds d1 d2 : ℕ) → fs ≡ f1 + f2 → ds ≡ d1 + d2 → 4 * fs + ds ≡ (4 * f1 + d1) + (4 * f2 + d2)
    close fs f1 f2 ds d1 d2 e1 e2 = omega arith

used_add : (x : AnglesModel) (w u : ℕ → ℕ) → used x (λ f. w f + u f) ≡ used x w + used x u
used_add x w u =
    close (w x.outer) (u x.outer) (sum_below x.darts (λ d. w (x.face d) + u (x.face d))) (sum_below x.darts (λ d. w (x.face d))) (sum_below x.darts (λ d. u (x.face d)))
    (sum_below-add x.darts (λ d. w (x.face d)) (λ d. u (x.face d)))
  where
    close : (a b ds d1 d2 : ℕ) → ds ≡ d1 + d2 → 8 * (a + b) + 2 * ds ≡ (8 * a + 2 * d1) + (8 * b + 2 * d2)
    close a b ds d1 d2 e = omega arith

pub even_add : (x : AnglesModel) (w u : ℕ → ℕ) → IsEven x w → IsEven x u → IsEven x (λ f. w f + u f)
even_add x w u one two =
    close (supplied x (λ f. w f + u f)) (supplied x w) (supplied x u) (used x (λ f. w f + u f)) (used x w) (used x u) (supplied_add x w u) (used_add x w u) one two
  where
    close : (s s1 s2 r r1 r2 : ℕ) → s ≡ s1 + s2 → r ≡ r1 + r2 → s1 ≡ r1 → s2 ≡ r2 → s ≡ r
    close s s1 s2 r r1 r2 e1 e2 e3 e4 = omega arith

-- and the rest of an even sum is even
pub even_rest : (x : AnglesModel) (w u : ℕ → ℕ) → IsEven x (λ f. w f + u f) → IsEven x u → IsEven x w
even_rest x w u both two =
    close (supplied x (λ f. w f + u f)) (supplied x w) (supplied x u) (used x (λ f. w f + u f)) (used x w) (used x u) (supplied_add x w u) (used_add x w u) both two
  where
    close : (s s1 s2 r r1 r2 : ℕ) → s ≡ s1 + s2 → r ≡ r1 + r2 → s ≡ r → s2 ≡ r2 → s1 ≡ r1
    close s s1 s2 r r1 r2 e1 e2 e3 e4 = omega arith

pub even_none : (x : AnglesModel) → IsEven x (λ _. 0)
even_none x =
    close (sum_below x.faces (λ _. 0)) (sum_below x.darts (λ d. x.angle d * 0)) (sum_below x.darts (λ _. 0))
    (sum_below-none x.faces (λ _. 0) (λ _ _. refl)) (sum_below-none x.darts (λ d. x.angle d * 0) (λ d l. omega arith)) (sum_below-none x.darts (λ _. 0) (λ _ _. refl))
  where
    close : (f d e : ℕ) → f ≡ 0 → d ≡ 0 → e ≡ 0 → 4 * f + d ≡ 8 * 0 + 2 * e
    close f d e one two three = omega arith

pub even_sum : (x : AnglesModel) (k : ℕ) (u : ℕ → ℕ → ℕ) → ((i : ℕ) → i < k → IsEven x (u i)) → IsEven x (λ f. sum_below k (λ i. u i f))
even_sum x zero u each = even_none x
even_sum x (suc k) u each = even_add x (λ f. sum_below k (λ i. u i f)) (u k) (even_sum x k u (λ i l. each i (omega arith))) (each k (omega arith))

pub even_constant : (x : AnglesModel) (k : ℕ) → IsEven x (λ _. 1) → IsEven x (λ _. k)
even_constant x zero one = even_none x
even_constant x (suc k) one = subst (λ (n : ℕ). IsEven x (λ _. n)) (next k) (even_add x (λ _. k) (λ _. 1) (even_constant x k one) one)
  where
    next : (k : ℕ) → k + 1 ≡ suc k
    next k = omega arith

pub even_same : (x : AnglesModel) (w u : ℕ → ℕ) → x.outer < x.faces → ((d : ℕ) → d < x.darts → x.face d < x.faces) → ((f : ℕ) → f < x.faces → w f ≡ u f) → IsEven x w → IsEven x u
even_same x w u outer named same even =
    close (sum_below x.faces w) (sum_below x.faces u) (sum_below x.darts (λ d. x.angle d * w (x.face d))) (sum_below x.darts (λ d. x.angle d * u (x.face d)))
    (w x.outer) (u x.outer) (sum_below x.darts (λ d. w (x.face d))) (sum_below x.darts (λ d. u (x.face d)))
    (sum_below-same x.faces w u same)
    (sum_below-same x.darts (λ d. x.angle d * w (x.face d)) (λ d. x.angle d * u (x.face d)) (λ d l. ap (λ (n : ℕ). x.angle d * n) (same (x.face d) (named d l))))
    (same x.outer outer)
    (sum_below-same x.darts (λ d. w (x.face d)) (λ d. u (x.face d)) (λ d l. same (x.face d) (named d l))) even
  where
    close : (f1 f2 a1 a2 o1 o2 d1 d2 : ℕ) → f1 ≡ f2 → a1 ≡ a2 → o1 ≡ o2 → d1 ≡ d2 → 4 * f1 + a1 ≡ 8 * o1 + 2 * d1 → 4 * f2 + a2 ≡ 8 * o2 + 2 * d2
    close f1 f2 a1 a2 o1 o2 d1 d2 e1 e2 e3 e4 e = omega arith

-- a set of faces that makes a constant weight together with even ones is even
pub even_by_steps : (x : AnglesModel) → x.outer < x.faces → ((d : ℕ) → d < x.darts → x.face d < x.faces) → IsEven x (λ _. 1)
    → (frames : ℕ) (u : ℕ → ℕ → ℕ) → ((i : ℕ) → i < frames → IsEven x (u i)) → (w : ℕ → ℕ) (k : ℕ) → ((f : ℕ) → f < x.faces → w f + sum_below frames (λ i. u i f) ≡ k) → IsEven x w
even_by_steps x outer named one frames u each w k constant =
    even_rest x w (λ f. sum_below frames (λ i. u i f))
    (even_same x (λ _. k) (λ f. w f + sum_below frames (λ i. u i f)) outer named (λ f l. sym (constant f l)) (even_constant x k one))
    (even_sum x frames u each)
