use Rattle.std.proofs.Common.{◌<◌, length, subst, sym}
use Rattle.std.proofs.lemmas.List.{get_or_read}
use Rattle.min_cost_flow.specs.Flow.{SolvedModel}
use Rattle.min_cost_flow.proofs.solution.Solved.flow.Goals as goal

pub returns : goal.returns
returns c =
    let inside = subst (λ (s : SolvedModel). c.args.arc < length s.flow) (sym c.self.view_is) c.requires in
    rw (← c.self.view_is) (get_or_read c.self.inside.flow.items c.args.arc _ inside c.index.ensures 0)
