-- Strings read backwards.
use Rattle.std.proofs.Common.{◌≡◌, ◌≢◌, ◌+◌, ◌*◌, ◌-◌, ◌≤◌, List, ◌∷◌, length, get_or, ◌∙◌, arith, sym, ap, refl}
use Rattle.ortho_rep.specs.declared.turn_strings.Turn.{Turn}
use Rattle.ortho_rep.specs.declared.turn_strings.Turn.TheVariants.{Left, Right}
use Rattle.ortho_rep.specs.Turns.{opposite, mirrored, lefts, rights}
use Rattle.ortho_rep.proofs.TurnCounts.{lefts-add-rights, lefts-mirrored, lefts-cons, rights-cons}
use Rattle.ortho_rep.proofs.Mirrors.{length-mirrored, get_or-mirrored, mirrored-from}
use Rattle.dissect.specs.Steps.{angle_of}

twice : (turn : Turn) → opposite (opposite turn) ≡ turn
twice Left = refl
twice Right = refl

-- read backwards twice, a string is as it was
pub mirrored-mirrored : (turns : List Turn) → mirrored (mirrored turns) ≡ turns
mirrored-mirrored turns =
    let same : length (mirrored turns) ≡ length turns = length-mirrored turns in
    sym (mirrored-from (mirrored turns) turns same
    (λ k l. sym (ap opposite (get_or-mirrored turns k (omega (arith, same)))
    ∙ twice (get_or turns (length turns - 1 - k) Left))))

pub rights-mirrored : (turns : List Turn) → rights (mirrored turns) ≡ lefts turns
rights-mirrored turns =
    omega (arith, lefts-add-rights turns, lefts-add-rights (mirrored turns), lefts-mirrored turns, length-mirrored turns)

-- what a first turn adds: its angle is 1 where it is a left, 3 where it is a right
pub turn_counts : (turn : Turn) (turns : List Turn) →
    (2 * lefts (turn ∷ turns) + angle_of turn ≡ 2 * lefts turns + 3)
    × (2 * rights (turn ∷ turns) + 1 ≡ 2 * rights turns + angle_of turn)
    × (1 ≤ angle_of turn) × (angle_of turn ≤ 3) × (angle_of turn ≢ 2)
turn_counts Left turns = (
  omega (arith, lefts-cons Left turns),
  omega (arith, rights-cons Left turns),
  omega arith,
  omega arith,
  λ h. omega (arith, h),
)
turn_counts Right turns = (
  omega (arith, lefts-cons Right turns),
  omega (arith, rights-cons Right turns),
  omega arith,
  omega arith,
  λ h. omega (arith, h),
)
