use Rattle.std.proofs.Common.{rules, ◌<◌, ◌∙◌, length, subst, sym}
use Rattle.std.proofs.lemmas.Int.{to_z-of_z}
use Rattle.std.proofs.lemmas.List.{get_or_read}
use Rattle.std.specs.Prelude.{pos}
use mir.Syntax.{w32}
use mir.Val.{SFits}
use Rattle.min_cost_flow.specs.Flow.{SolvedModel}
use Rattle.min_cost_flow.proofs.solution.Solved.potential.Goals as goal

pub returns : goal.returns
returns c =
    let fits : SFits w32 c.index.result.now = search rules in
    let inside = subst (λ (s : SolvedModel). c.args.node < length s.potential) (sym c.self.view_is) c.requires in
    rw (← c.self.view_is) (to_z-of_z w32 c.index.result.now fits ∙ get_or_read c.self.inside.potential.items c.args.node _ inside c.index.ensures (pos 0))
