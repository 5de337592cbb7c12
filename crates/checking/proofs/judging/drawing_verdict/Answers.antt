use Rattle.checking.proofs.Judged.{on_settled}
use Rattle.checking.proofs.judging.drawing_verdict.Goals as goal

pub returns : goal.returns
returns c =
    rw c.unwrap_or.ensures (on_settled _ _ _ _ _ _ _ _ _ c.in-Ok.ensures.same_points c.judge_in.ensures.same_plane c.outer-outer.ensures.value c.outer-outer.ensures.named c.in-Ok.ensures.drawn
    c.claims_verdict.ensures)
