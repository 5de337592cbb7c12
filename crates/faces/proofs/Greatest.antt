-- The greatest of the faces that were looked at.
use Rattle.std.proofs.Common.{◌≡◌, ℕ, ◌+◌, ◌<◌, ◌≤◌, sym, subst, arith}
use Rattle.faces.specs.Faces.{degree_in}
use Rattle.faces.specs.Greatest.{IsFirstGreatest}

-- of the faces below `end` the greatest is `best`, and has `most` darts
pub record IsBest (n : ℕ) (face : ℕ → ℕ) (end best most : ℕ) : Type 0 where
  pub greatest : IsFirstGreatest n face end best
  pub is : most ≡ degree_in n face best

pub best_first : (n : ℕ) (face : ℕ → ℕ) (most : ℕ) → most ≡ degree_in n face 0 → IsBest n face 1 0 most
best_first n face most is =
    record {
      greatest = record {
        named = omega arith;
        most = λ k b. let zero : k ≡ 0 = omega (arith, b) in subst (λ (j : ℕ). degree_in n face j ≤ degree_in n face 0) (sym zero) (omega arith);
        first = λ k b. absurd (omega (arith, b));
      };
      is = is;
    }
