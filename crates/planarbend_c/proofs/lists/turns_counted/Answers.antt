use Rattle.std.proofs.Common.{◌≡◌, ◌∙◌, ◌-◌, ℕ, ap, arith, length}
use Rattle.ortho_rep.specs.Turns.{lefts, rights}
use Rattle.ortho_rep.proofs.TurnCounts.{lefts-add-rights}
use Rattle.planarbend_c.specs.Found.{both_turns}
use Rattle.planarbend_c.proofs.lists.turns_counted.Goals as goal

pub returns : goal.returns
returns c =
    let turns = c.args.turns.now in
    let left = c.count_lefts-left.ensures.count in
    let right : length turns - lefts turns ≡ rights turns = omega (arith, lefts-add-rights turns) in
    ap (λ (n : ℕ). both_turns n (length turns - n)) left ∙ ap (both_turns (lefts turns)) right
