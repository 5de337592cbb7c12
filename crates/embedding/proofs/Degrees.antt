-- The degrees of all faces sum to the number of darts, and each is at most that.
use Rattle.std.proofs.Common.{◌≡◌, ℕ, ◌<◌, ◌≤◌, ◌==◌, Bool, true, false, cond, arith}
use Rattle.common.specs.Sums.{sum_below}
use Rattle.common.proofs.Sums.{exchanged-ones, sum_below-le, sum_below-constant}
use Rattle.embedding.specs.Faces.{degree_in}

pub degrees_sum : (n f : ℕ) (face : ℕ → ℕ) → ((d : ℕ) → d < n → face d < f) → sum_below f (λ k. degree_in n face k) ≡ n
degrees_sum n f face named = exchanged-ones n f face named

pub degree_few : (n : ℕ) (face : ℕ → ℕ) (k : ℕ) → degree_in n face k ≤ n
degree_few n face k =
    omega (arith, sum_below-le n (λ d. cond (face d == k) 1 0) (λ _. 1) (λ d h. one (face d == k)), sum_below-constant n 1)
  where
    one : (b : Bool) → cond b 1 0 ≤ 1
    one true = omega arith
    one false = omega arith
