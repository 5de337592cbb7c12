use Rattle.dissect.proofs.Backwards.{path_distinct, path_short, path_unique}
use Rattle.dissect.proofs.laws.paths_are_unique.Goals as goal

pub returns : goal.returns
returns c w end first rest darts_fit path = (
  path_distinct w end first rest darts_fit path,
  path_short w end first rest darts_fit path,
  λ other others path'.
      let one = path_unique w end first other rest others darts_fit path path' in
      (one.first, one.rests),
)
