use Rattle.planar_code.specs.Stream.{lists_of}
use Rattle.answers.proofs.DrawnAnswers.{answer_drawn}
use Rattle.answers.proofs.stages.answer.Goals as goal

pub invariant_of-result : goal.invariant_of-result
invariant_of-result c = record { answers = ∣ c.answer_with.ensures.answers c.args.choice (lists_of c.args.rec) (c.shape-shaped_plane.ensures.shaped (lists_of c.args.rec) c.embed-plane.ensures) ∣₁ }

pub returns-clause-answered : goal.returns-clause-answered
returns-clause-answered c = c.answer_with.ensures.answers c.args.choice (lists_of c.args.rec) (c.shape-shaped_plane.ensures.shaped (lists_of c.args.rec) c.embed-plane.ensures)

pub returns-clause-drawn : goal.returns-clause-drawn
returns-clause-drawn c =
    answer_drawn c.args.choice (lists_of c.args.rec) _ (c.answer_with.ensures.answers c.args.choice (lists_of c.args.rec) (c.shape-shaped_plane.ensures.shaped (lists_of c.args.rec) c.embed-plane.ensures))

pub returns-clause-memory : goal.returns-clause-memory
returns-clause-memory c = c.answer_with.ensures.memory c.args.choice (lists_of c.args.rec) (c.shape-shaped_plane.ensures.shaped (lists_of c.args.rec) c.embed-plane.ensures)
