use Rattle.std.proofs.Common.{ap, sym, subst, ◌∙◌}
use Rattle.streams.specs.Reading.{IsFoundIn}
use Rattle.collector.specs.ReadMessage.{GivesBack}
use Rattle.streams.proofs.Pieces.{found_as}
use Rattle.collector.proofs.frames_run.fn.run_frames.scope.Goals as goal

pub spawn_with-requires-clause-keeps : goal.spawn_with-requires-clause-keeps
spawn_with-requires-clause-keeps g c κs within = λ result kept.
    subst (λ giver. GivesBack (g.T.Tap.to_come c.of.result.value) (g.T.Tap.fails c.of.result.value) giver result) (sym c.of-2.ensures)
    (subst (λ source. GivesBack (g.T.Tap.to_come source) (g.T.Tap.fails source) c.captures.giver result) (sym c.of.ensures) kept)

pub returns-in-Some : goal.returns-in-Some
returns-in-Some g c =
    let told = c.in-Some.ensures.1 in
    let all = c.settle.ensures told.0 told.1 told.2 in
    let source = ap (λ p. p.source.value) c.in-Ok.ensures.ok ∙ c.of.ensures in (
      found_as _ _ _ told.0 _ told.1 all.0 all.1
          (subst (λ source. IsFoundIn (g.T.Tap.to_come source) (g.T.Tap.fails source) told.0 told.1) source told.3),
      tt,
    )
