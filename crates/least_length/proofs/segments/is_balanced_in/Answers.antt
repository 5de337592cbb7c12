use Rattle.std.proofs.Common.{◌≡◌, ◌<◌, ◌∙◌, ℕ, length, sym, arith}
use Rattle.std.specs.Prelude.{slice_index}
use Rattle.least_length.specs.Weights.{down_at, up_at}
use Rattle.least_length.proofs.segments.is_balanced_in.Goals as goal

pub returns : goal.returns
returns c =
    let up : (r : ℕ) → r < length c.args.up.now → slice_index c.add_sights.new.up r ≡ up_at c.args.wires.now c.args.sights.now r =
    λ r b. omega (arith, c.add_wires.ensures.up r (omega arith), c.add_sights.ensures.up r (omega arith)) in
    let down : (r : ℕ) → r < length c.args.up.now → slice_index c.add_sights.new.down r ≡ down_at c.args.wires.now c.args.sights.now r =
    λ r b. omega (arith, c.add_wires.ensures.down r (omega arith), c.add_sights.ensures.down r (omega arith)) in
    (λ same r b. sym (up r b) ∙ c.are_same.ensures.0 same r (omega arith) ∙ down r b, λ even. c.are_same.ensures.1 (λ r b. up r (omega arith) ∙ even r (omega arith) ∙ sym (down r (omega arith))))
