use Rattle.std.proofs.Common.{◌≡◌, ℕ, get_or, map, arith, sym, inl, inr, ◌∙◌}
use Rattle.std.proofs.lemmas.List.{get_or-map, length-map}
use Rattle.dissect.proofs.Climbing.{climb_either}
use Rattle.dissect.proofs.refinement.peak.Goals as goal
use Rattle.dissect.proofs.refinement.peak.Goals.{then-reach-lt2, else-reach-lt2}

pub corners-preserved : goal.corners-preserved
corners-preserved c =
    let A = c.args.angle.now in
    let xs = c.args.ring.now in
    let at = c.corners.at in
    let x_is : c.from.result ≡ get_or (map (λ a. get_or A a 0) xs) at 0 =
    c.from.ensures ∙ sym (get_or-map (λ (a : ℕ). get_or A a 0) xs at 0 0 c.corners-test.true) in
    climb_either (map (λ a. get_or A a 0) xs) at c.corners.best c.corners.behind c.from.result _ _
    (omega (arith, length-map xs (λ (a : ℕ). get_or A a 0), c.corners-test.true)) x_is
    (omega (arith, c.from.ensures, c.requires.small at 0 c.corners-test.true)) c.corners.invariant
    (elim c.if-reach-lt2.branch [
      | then-reach-lt2 w ↦ inl (omega (arith, w.if-reach-lt2.true), w.best-is, w.behind-is)
      | else-reach-lt2 w ↦ inr (omega (arith, w.if-reach-lt2.false), w.best-is, w.behind-is)
    ])
