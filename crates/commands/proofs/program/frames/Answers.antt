use Rattle.std.proofs.Common.{◌≡◌, ℕ, Bool, List, Option, rules, inr}
use Rattle.streams.specs.declared.frames.Mark.{Mark}
use Rattle.streams.specs.Marks.{IsMarked}
use Rattle.streams.specs.Reading.{IsFoundIn}
use Rattle.streams.proofs.Pieces.{found_known}
use Rattle.commands.proofs.ReportBegun.{on_err}
use Rattle.commands.proofs.program.frames.Goals as goal

-- what two sources found that fail alike
marked_alike : (bytes : List ℕ) (fails also : Bool) (records : List (List ℕ)) (mark : Mark) → fails ≡ also → IsMarked bytes fails records mark → IsMarked bytes also records mark
marked_alike bytes fails also records mark same marked = rw same at marked

pub returns-clause-written : goal.returns-clause-written
returns-clause-written g c =
    let is = c.in_ok-mark.ensures.written in
    record {
      found = record { records = is.records; mark = c.in_ok-mark.mark };
      bytes = is.found.bytes;
      fails = is.found.fails;
      marked = is.found.marked;
      known = λ bytes known.
          let tells = c.in_ok-source.ensures.known bytes known in
          marked_alike bytes _ _ _ _ tells.1 (found_known _ _ _ _ is.found bytes tells.0);
      text = is.text;
      written = search rules;
      complete = search rules;
      other = search rules;
    }

pub returns-in_err-mark-clause-begun : goal.returns-in_err-mark-clause-begun
returns-in_err-mark-clause-begun g c =
    let is = c.in_err-mark.ensures.begun in
    on_err c.from_residual-in_err-mark.result (inr (record {
      found = record { records = is.records; mark = is.mark };
      bytes = is.found.bytes;
      fails = is.found.fails;
      marked = is.found.marked;
      known = λ bytes known.
          let tells = c.in_ok-source.ensures.known bytes known in
          marked_alike bytes _ _ _ _ tells.1 (found_known _ _ _ _ is.found bytes tells.0);
      text = is.text;
    }))
