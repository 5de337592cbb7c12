-- Darts that are walked in steps of length 1 along the axes, and where these steps meet.
use Rattle.std.proofs.Common.{◌≡◌, ◌≢◌, ◌<◌, ℕ, suc, ◌+◌, ◌-◌, Bool, true, sym, ap, ◌∙◌, subst, arith}
use Rattle.embedding.specs.Darts.{IsOneToOne}
use Rattle.geometry.specs.declared.direction.Direction.{Direction}
use Rattle.geometry.specs.Directions.{opposite_of, left_of, left_quarters}
use Rattle.drawing_check.proofs.Weights.{IsStep, step_start}

-- darts with their steps: the points x d 0, .. of dart d, and the direction of step i from point i on
pub record Ways : Type 0 where
  pub darts : ℕ
  pub reverse_dart : ℕ → ℕ
  pub next : ℕ → ℕ
  pub face : ℕ → ℕ
  pub steps : ℕ → ℕ
  pub x : ℕ → ℕ → ℕ
  pub y : ℕ → ℕ → ℕ
  pub way : ℕ → ℕ → Direction

-- a step leaves a point in a direction
pub record Leaves (w : Ways) (px py : ℕ) (q : Direction) : Type 0 where
  pub d : ℕ
  pub i : ℕ
  pub dart_in : d < w.darts
  pub step_in : i < w.steps d
  pub at_x : w.x d i ≡ px
  pub at_y : w.y d i ≡ py
  pub goes : w.way d i ≡ q

-- no step leaves a point on the left of the way that arrives with direction a and goes on with direction b
pub record IsFree (w : Ways) (a b : Direction) (px py : ℕ) : Type 0 where
  pub quarters : ℕ
  pub from : left_of a ≡ left_quarters quarters b
  pub free : (j : ℕ) → j < quarters → Leaves w px py (left_quarters (suc j) b) → ⊥

pub record AreWays (w : Ways) : Type 0 where
  pub some : (d : ℕ) → d < w.darts → 0 < w.steps d
  pub back_in : (d : ℕ) → d < w.darts → w.reverse_dart d < w.darts
  pub back_back : (d : ℕ) → d < w.darts → w.reverse_dart (w.reverse_dart d) ≡ d
  pub back_apart : (d : ℕ) → d < w.darts → w.reverse_dart d ≢ d
  pub next_one : IsOneToOne w.darts w.next
  pub stays : (d : ℕ) → d < w.darts → w.face (w.next d) ≡ w.face d
  pub connected : (s : ℕ → Bool) → ((d : ℕ) → d < w.darts → s d ≡ true → s (w.next d) ≡ true)
      → ((d : ℕ) → d < w.darts → s d ≡ true → s (w.reverse_dart d) ≡ true) → (d e : ℕ) → d < w.darts → e < w.darts → s d ≡ true → s e ≡ true
  pub back_steps : (d : ℕ) → d < w.darts → w.steps (w.reverse_dart d) ≡ w.steps d
  pub back_x : (d i j : ℕ) → d < w.darts → i + j ≡ w.steps d → w.x (w.reverse_dart d) i ≡ w.x d j
  pub back_y : (d i j : ℕ) → d < w.darts → i + j ≡ w.steps d → w.y (w.reverse_dart d) i ≡ w.y d j
  pub goes : (d i : ℕ) → d < w.darts → i < w.steps d → IsStep (w.way d i) (w.x d i) (w.y d i) (w.x d (i + 1)) (w.y d (i + 1))
  pub back_way : (d i j : ℕ) → d < w.darts → i + j + 1 ≡ w.steps d → w.way (w.reverse_dart d) i ≡ opposite_of (w.way d j)
  pub next_x : (d : ℕ) → d < w.darts → w.x (w.next d) 0 ≡ w.x d (w.steps d)
  pub next_y : (d : ℕ) → d < w.darts → w.y (w.next d) 0 ≡ w.y d (w.steps d)
  -- at a point no two steps leave in one direction
  pub one : (d i e j : ℕ) → d < w.darts → i < w.steps d → e < w.darts → j < w.steps e
      → w.x d i ≡ w.x e j → w.y d i ≡ w.y e j → w.way d i ≡ w.way e j → (d ≡ e) × (i ≡ j)
  pub free_inside : (d i : ℕ) → d < w.darts → i + 1 < w.steps d → IsFree w (w.way d i) (w.way d (i + 1)) (w.x d (i + 1)) (w.y d (i + 1))
  pub free_at : (d i : ℕ) → d < w.darts → i + 1 ≡ w.steps d → IsFree w (w.way d i) (w.way (w.next d) 0) (w.x d (i + 1)) (w.y d (i + 1))

module _ (w : Ways) (are : AreWays w) where
  -- a step and one that ends where it ends, with its direction
  pub same_end : (d i e k : ℕ) → d < w.darts → i < w.steps d → e < w.darts → k < w.steps e → w.way e k ≡ w.way d i
      → w.x e (k + 1) ≡ w.x d (i + 1) → w.y e (k + 1) ≡ w.y d (i + 1) → (e ≡ d) × (k ≡ i)
  same_end d i e k d_in i_in e_in k_in same ex ey =
      let starts = step_start (w.way d i) (w.x e k) (w.y e k) (w.x e (k + 1)) (w.y e (k + 1)) (w.x d i) (w.y d i) (w.x d (i + 1)) (w.y d (i + 1))
      (subst (λ (q : Direction). IsStep q (w.x e k) (w.y e k) (w.x e (k + 1)) (w.y e (k + 1))) same (are.goes e k e_in k_in))
      (are.goes d i d_in i_in) ex ey in
      are.one e k d i e_in k_in d_in i_in starts.0 starts.1 same

  -- a step and one that starts where it ends, in the opposite direction
  pub turned_end : (d i j e k : ℕ) → d < w.darts → i + j + 1 ≡ w.steps d → e < w.darts → k < w.steps e → w.way e k ≡ opposite_of (w.way d i)
      → w.x e k ≡ w.x d (i + 1) → w.y e k ≡ w.y d (i + 1) → (e ≡ w.reverse_dart d) × (k ≡ j)
  turned_end d i j e k d_in sum e_in k_in turned ex ey =
      let size = are.back_steps d d_in in
      are.one e k (w.reverse_dart d) j e_in k_in (are.back_in d d_in) (omega (arith, size, sum))
      (ex ∙ sym (are.back_x d j (i + 1) d_in (omega (arith, sum))))
      (ey ∙ sym (are.back_y d j (i + 1) d_in (omega (arith, sum))))
      (turned ∙ sym (are.back_way d j i d_in (omega (arith, sum))))

  -- where a step ends one leaves the other way
  pub turned : (d i : ℕ) (q : Direction) → d < w.darts → i < w.steps d → w.way d i ≡ q → Leaves w (w.x d (i + 1)) (w.y d (i + 1)) (opposite_of q)
  turned d i q d_in i_in is =
      let size = are.back_steps d d_in in
      let j : ℕ = w.steps d - 1 - i in
      record {
        d = w.reverse_dart d;
        i = j;
        dart_in = are.back_in d d_in;
        step_in = omega (arith, size, i_in);
        at_x = are.back_x d j (i + 1) d_in (omega (arith, i_in));
        at_y = are.back_y d j (i + 1) d_in (omega (arith, i_in));
        goes = are.back_way d j i d_in (omega (arith, i_in)) ∙ ap opposite_of is;
      }
