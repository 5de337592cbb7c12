use Rattle.std.proofs.Common.{List, OnOk, arith, subst}
use Rattle.lanes.specs.Notes.{Note}
use Rattle.lanes.specs.Drafts.{AreDrafts}
use Rattle.lanes.specs.Files.{AreToldWhole}
use Rattle.reports.specs.Abouts.{about_of}
use Rattle.collector.proofs.Books.{drawn_books}
use Rattle.collector.proofs.run.run_batch.Goals as goal

pub books_of-requires-clause-ready : goal.books_of-requires-clause-ready
books_of-requires-clause-ready g c =
    let meaning = g.O.Opener.meaning c.args.opener.now in
    let ran = c.run_lanes-drafts in
    let told = subst (λ r. OnOk r ((ns : List Note) × AreDrafts about_of 0 ns ran.result.files.items × AreToldWhole c.args.choice meaning c.args.files ns)) c.in-Ok-ran.is ran.ensures.told in (
      c.args.choice,
      meaning,
      c.into_ready.ensures.ready c.args.choice meaning told.0 told.1
          (λ file below. told.2 file (omega (arith, below, ran.ensures.stays, c.in-Ok.ensures.count))),
    )

pub returns-in-Ok-books_of-clause-drawn : goal.returns-in-Ok-books_of-clause-drawn
returns-in-Ok-books_of-clause-drawn g c =
    let meaning = g.O.Opener.meaning c.args.opener.now in
    let ran = c.run_lanes-drafts in
    let told = subst (λ r. OnOk r ((ns : List Note) × AreDrafts about_of 0 ns ran.result.files.items × AreToldWhole c.args.choice meaning c.args.files ns)) c.in-Ok-ran.is ran.ensures.told in
    let ready = c.into_ready.ensures.ready c.args.choice meaning told.0 told.1
    (λ file below. told.2 file (omega (arith, below, ran.ensures.stays, c.in-Ok.ensures.count))) in
    drawn_books c.args.choice meaning 0 c.in-Ok-books_of.batch (c.in-Ok-books_of.ensures.books c.args.choice meaning ready)
