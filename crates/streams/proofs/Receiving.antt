-- Records that are received with the number of the first of them.
use Rattle.std.proofs.Common.{◌≡◌, ℕ, List, length, subst}

-- the first one has the number of those before
pub received_from : {V : Type 0} (received : ℕ → List (List ℕ) → V → V → Type 0) (first : ℕ) (earlier records : List (List ℕ)) (x y : V)
    → first ≡ length earlier → received first records x y → received (length earlier) records x y
received_from received first earlier records x y is was = subst (λ n. received n records x y) is was
