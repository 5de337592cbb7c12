use Rattle.commands.proofs.layout.write_text.Given as goal

abbrev pub ghosts-write_files : goal.ghosts-write_files
ghosts-write_files g a = record { meaning = g.O.Opener.meaning a.run.now.opener.now }
