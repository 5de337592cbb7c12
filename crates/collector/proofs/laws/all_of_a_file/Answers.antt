use Rattle.collector.proofs.PickedFiles.{all_of_a_file}
use Rattle.collector.proofs.laws.all_of_a_file.Goals as goal

pub returns : goal.returns
returns c = all_of_a_file
