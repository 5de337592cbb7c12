use Rattle.std.proofs.Common.{◌≡◌, ◌<◌, ℕ, ◌-◌, length, get_or}
use Rattle.ortho_rep.specs.declared.turn_strings.Turn.TheVariants.{Left}
use Rattle.ortho_rep.specs.Turns.{opposite}
use Rattle.ortho_rep.proofs.turn_strings.mirrors.Given as goal

abbrev pub invariant-loop-i : goal.invariant-loop-i
invariant-loop-i l =
    (k : ℕ) → k < l.i → get_or l.reverse (length l.reverse - 1 - k) Left ≡ opposite (get_or l.turns k Left)
