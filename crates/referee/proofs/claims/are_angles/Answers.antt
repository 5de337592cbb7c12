use Rattle.std.proofs.Common.{◌≡◌, ℕ, List, length, refl, arith}
use Rattle.std.proofs.lemmas.Grind.{same_number_lists}
use Rattle.referee.proofs.claims.are_angles.Goals as goal

pub returns : goal.returns
returns c =
    let mine : List ℕ = c.args.angles.now in
    let theirs : List ℕ = c.args.shape.now.angles in
    let size : length mine ≡ length theirs = omega arith in
    (λ _. same_number_lists mine theirs size (λ k lt. c.loop-dart.invariant k (omega (arith, lt))), λ _. refl)
