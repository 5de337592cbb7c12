-- Which record an entry is about.
use Rattle.lanes.specs.Notes.{About}
use Rattle.reports.specs.declared.answer.Entry.{Entry}

abbrev pub about_of : Entry → About
about_of entry = record { file = entry.file; ordinal = entry.ordinal; bytes = entry.rec; choice = entry.choice }
