use Rattle.collector.proofs.counting.count_files.Given as goal

abbrev pub ghosts-count_known : goal.ghosts-count_known
ghosts-count_known g a = record { meaning = g.O.Opener.meaning a.run.now.opener.now }
