use Rattle.std.proofs.lemmas.Result.{IfOk-weaker}
use Rattle.streams.proofs.Pieces.{found_known, found_unknown}
use Rattle.collector.proofs.frames_run.run_frames.Goals as goal

pub returns-clause-known : goal.returns-clause-known
returns-clause-known g c = IfOk-weaker c.scoped.result _ _ (λ found is. found_known _ _ _ _ is) c.scoped.ensures.1.0

pub returns-clause-unknown : goal.returns-clause-unknown
returns-clause-unknown g c = IfOk-weaker c.scoped.result _ _ (λ found is. found_unknown _ _ _ _ is) c.scoped.ensures.1.0
