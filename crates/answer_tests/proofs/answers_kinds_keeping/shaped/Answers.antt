use Rattle.std.proofs.Common.{subst}
use Rattle.common.specs.declared.parameters.Choice.TheVariants.{First}
use Rattle.planar_code.specs.Stream.{lists_of}
use Rattle.answers.specs.Steps.{IsShaped}
use Rattle.answer_tests.proofs.answers_kinds_keeping.shaped.Goals as goal

pub returns : goal.returns
returns g c =
    let lists = lists_of c.expect-rec.result in
    (subst (IsShaped First lists) c.expect.ensures (c.shape-made.ensures.shaped lists c.embed-plane.ensures)).least
