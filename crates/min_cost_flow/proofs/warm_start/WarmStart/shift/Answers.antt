use Rattle.std.proofs.Common.{ap, ◌∙◌}
use Rattle.min_cost_flow.specs.Networks.{NetworkModel, shifted}
use Rattle.min_cost_flow.proofs.warm_start.WarmStart.shift.Goals as goal

pub resume-requires : goal.resume-requires
resume-requires c = record {
  all_sent = c.self.invariant;
  from = rw c.self.view_is c.requires.from;
  to = rw c.self.view_is c.requires.to;
  few = c.requires.few;
  in_range = rw c.self.view_is c.requires.in_range;
}

pub invariant_of-result : goal.invariant_of-result
invariant_of-result c = c.resume.ensures.answer.all_sent c.if-not-resume.false

pub returns : goal.returns
returns c = record {
  net = c.resume.ensures.network ∙ ap (λ (n : NetworkModel). shifted n c.args.from c.args.to c.args.amount) c.self.view_is;
  no_flow = tt;
}
