use Rattle.std.proofs.Common.{◌++◌, ap, ◌∙◌, append-nil}
use Rattle.ruled_lanes.specs.LinkEnds.{given}
use Rattle.lanes.specs.Notes.{notes, notes_of_items}
use Rattle.lanes.specs.declared.message.Message.TheVariants.{End}
use Rattle.lanes.specs.Accepting.{AcceptsAll}
use Rattle.lanes.proofs.Passing.{notes-after}
use Rattle.lanes.proofs.Telling.{keeps_as}
use Rattle.lanes.proofs.run.Shared.read_drawn.Goals as goal

pub read_file-requires-clause-accepted : goal.read_file-requires-clause-accepted
unfolding AcceptsAll
read_file-requires-clause-accepted g c κs within = λ place bytes placed. c.requires.accepts.records c.args.file place bytes placed

pub end-known-requires : goal.end-known-requires
unfolding AcceptsAll
end-known-requires g c =
    let keeps = c.in_ok-end.ensures.kept in
    c.requires.accepts.marks c.args.file _ _ (record { records = keeps.records; counted = keeps.counted; found = keeps.found })

pub returns-clause-told : goal.returns-clause-told
returns-clause-told g c =
    let about = g.L.Framed.Numbered.about in
    let told = notes about (given c.args.gives.now.giver) in
    record {
      count = c.in_ok-end.end.count;
      mark = c.in_ok-end.end.mark;
      kept = _;
      keeps = keeps_as _ _ _ _ _ _ _ _ _ (ap (λ l. told ++ notes_of_items about l) c.requires.none ∙ append-nil told) c.in_ok-give_collected.ensures.told c.in_ok-end.ensures.kept;
      ended = notes-after about _ _ (End c.args.file c.in_ok-end.end.mark c.end-known.result) c.in_ok-give.ensures.ok;
    }
