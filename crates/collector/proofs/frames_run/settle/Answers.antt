use Rattle.std.proofs.Common.{◌∙◌}
use Rattle.collector.proofs.Messages.{all_told, found_some, found_same}
use Rattle.collector.proofs.frames_run.settle.Goals as goal

pub unwrap-requires : goal.unwrap-requires
unwrap-requires g c = let told = c.requires.told in found_some _ _ (all_told _ told.0 _ told.1 _ _ _ c.requires.all c.settle.ensures.settled.1 told.2).1

pub returns : goal.returns
returns g c = λ records mark told.
    let both = all_told _ records _ mark _ _ _ c.requires.all c.settle.ensures.settled.1 told in
    (c.new.ensures.records ∙ both.0, c.new.ensures.mark ∙ found_same _ _ _ c.unwrap.ensures both.1)
