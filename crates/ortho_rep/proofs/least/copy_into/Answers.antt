use Rattle.std.proofs.Common.{◌≡◌, ◌++◌, ◌∙◌, List, ap}
use Rattle.std.specs.Prelude.{ℤ}
use Rattle.ortho_rep.proofs.least.copy_into.Goals as goal

pub returns : goal.returns
returns c = ◌∙◌ {A = List ℤ} c.in_ok-extend_from_slice.ensures.items (ap (λ (xs : List ℤ). xs ++ c.args.numbers.now) c.in_ok-copy.ensures.items)
