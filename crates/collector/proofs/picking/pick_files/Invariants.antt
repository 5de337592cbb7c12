use Rattle.collector.proofs.picking.pick_files.Given as goal

abbrev pub ghosts-pick_known : goal.ghosts-pick_known
ghosts-pick_known g a = record { meaning = g.O.Opener.meaning a.run.now.opener.now }
