use Rattle.conditions.proofs.Excluded.{none_where_shown}
use Rattle.conditions.proofs.cuts.cut_shows_none.Goals as goal

pub returns : goal.returns
returns c p given vertices faces = none_where_shown p given vertices faces
