use Rattle.std.proofs.Common.{ℕ, List, subst, rules}
use Rattle.least_length.specs.Lengths.{coordinates_in, KeepsOrder}
use Rattle.least_length.proofs.least.write_if_shorter.Goals as goal

pub returns-clause-keeps : goal.returns-clause-keeps
returns-clause-keeps c _ =
    subst (λ (xs : List ℕ). KeepsOrder c.args.segments.now (coordinates_in xs)) c.as_slice.ensures.value (c.in_ok-is_order_kept.ensures.0 (search rules))
