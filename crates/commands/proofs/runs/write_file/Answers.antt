use Rattle.commands.proofs.FlawTexts.{both_added}
use Rattle.commands.proofs.runs.write_file.Goals as goal

pub returns-clause-added : goal.returns-clause-added
returns-clause-added g c = both_added c.write_memory.result _ _ _ _ _ c.in_ok-write_incomplete.ensures.added c.write_memory.ensures.added
