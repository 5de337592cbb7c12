-- The output formats of a batch.
use Rattle.std.specs.Prelude.{ℕ, List}
use Rattle.reports.specs.Books.{BookModel}
use Rattle.reports.specs.Report.{report_text}
use Rattle.reports.specs.Json.{json_text}
use Rattle.streams.specs.declared.frames.Form.{Form}
use Rattle.streams.specs.declared.frames.Form.TheVariants.{Report, Json}

-- the text of these books in a format
abbrev pub text_in : Form → List BookModel → List ℕ
text_in Report books = report_text books
text_in Json books = json_text books
