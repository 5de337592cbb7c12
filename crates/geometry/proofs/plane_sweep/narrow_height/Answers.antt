use Rattle.std.proofs.Common.{◌≡◌, ◌≤◌, ℕ, ◌+◌, ◌<◌, ⊎_elim, subst, arith}
use Rattle.std.specs.Int.Bits.{bit_or}
use Rattle.std.proofs.lemmas.Bool.{cases_eq}
use Rattle.std.proofs.lemmas.Nat.{le_or_l, le_or_r}
use Rattle.geometry.proofs.Holdings.{at}
use Rattle.geometry.proofs.plane_sweep.narrow_height.Goals as goal

-- what is at most the first is at most both joined, and so is the next one
or_more : (f : ℕ → ℕ) (i old : ℕ) → ((m : ℕ) → m < i → f m ≤ old) → (m : ℕ) → m < i + 1 → f m ≤ bit_or old (f i)
or_more f i old before m lt =
    ⊎_elim
    (λ same. subst (λ (k : ℕ). f k ≤ bit_or old (f i)) (let e : i ≡ m = omega (arith, same) in e) (le_or_r old (f i)))
    (λ ne. let earlier = before m (omega arith) in omega (arith, le_or_l old (f i)))
    (cases_eq m i)

pub loop-rectangle-preserved : goal.loop-rectangle-preserved
loop-rectangle-preserved c = record {
  right = or_more (λ k. (at c.args.rectangles.now k).right) c.loop-rectangle.rectangle-index c.loop-rectangle.right c.loop-rectangle.invariant.right;
  top = or_more (λ k. (at c.args.rectangles.now k).top) c.loop-rectangle.rectangle-index c.loop-rectangle.top c.loop-rectangle.invariant.top;
}
