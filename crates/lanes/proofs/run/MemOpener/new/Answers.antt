use Rattle.std.proofs.Common.{arith}
use Rattle.lanes.proofs.MemFiles.{opened_in, unopened_in}
use Rattle.lanes.proofs.run.MemOpener.new.Goals as goal

pub returns-clause-opens : goal.returns-clause-opens
returns-clause-opens c = λ k below. opened_in c.args.files.items k (omega (arith, below, c.args.files.ok.0))

pub returns-clause-others : goal.returns-clause-others
returns-clause-others c = λ k past. unopened_in c.args.files.items k (omega (arith, past, c.args.files.ok.0))
