use Rattle.std.proofs.Common.{◌≡◌, ℕ, Bool, true}
use Rattle.embedding.specs.Rows.{HasBit, IsClosedUnderRows}
use Rattle.embedding.proofs.adjacency.reaches_all.Given as goal

-- what is reached, and what of it waits for its row to be read, is in each set that the rows keep
abbrev pub invariant-loop : goal.invariant-loop
invariant-loop l =
    (s : ℕ → Bool) → s 1 ≡ true → IsClosedUnderRows l.rows s
    → ((v : ℕ) → HasBit l.reached v → s v ≡ true) × ((v : ℕ) → HasBit l.waiting v → s v ≡ true)
