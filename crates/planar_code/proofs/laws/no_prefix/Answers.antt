use Rattle.planar_code.proofs.Records.{no_record-front}
use Rattle.planar_code.proofs.laws.no_prefix.Goals as goal

pub returns : goal.returns
returns c = no_record-front
