use Rattle.std.proofs.Common.{◌≡◌, Some, sym, ◌∙◌, subst, rules, arith}
use Rattle.std.proofs.lemmas.List.Elements.{All-pop, All-weaker}
use Rattle.crossbeam_channel.specs.Claims.{view, IsSeatAt}
use Rattle.crossbeam_channel.specs.Ends.{sends_on, receives_on}
use Rattle.ruled_lanes.proofs.Fans.{merges}
use Rattle.ruled_lanes.proofs.Settling.{none_merged, one_merged, all_merged}
use Rattle.ruled_lanes.proofs.fan_channel.Gatherer.settle.Goals as goal

pub absorb-requires-clause-rule : goal.absorb-requires-clause-rule
absorb-requires-clause-rule g c = merges _ _ _ _

pub absorb-requires-in-Some-pop-clause-rule : goal.absorb-requires-in-Some-pop-clause-rule
absorb-requires-in-Some-pop-clause-rule g c = merges _ _ _ _

pub absorb-requires-in-Some-pop-clause-channel : goal.absorb-requires-in-Some-pop-clause-channel
absorb-requires-in-Some-pop-clause-channel g c =
    let giver = c.in-Some-pop.giver in
    let here = c.in-Some.field-0.sender in
    let split = All-pop (λ g. sends_on here ≡ sends_on g.sender) c.loop-giver.givers.items c.pop-in-loop-giver.new.self.items (Some giver) c.in-Some-pop.ensures.items c.loop-giver.invariant.rest in
    (c.loop-giver.invariant.seated, subst (λ x. IsSeatAt x giver.pass) (sym split.1) giver.seated)

pub loop-giver-init : goal.loop-giver-init
loop-giver-init g c =
    let last = c.in-Some.field-0 in
    let fan = receives_on c.args.self.receiver in
    let split = All-pop (λ g. fan ≡ sends_on g.sender) c.args.givers.items c.pop.new.self.items (Some last) c.in-Some.ensures.items c.requires.fan in record {
      seated = search rules;
      rest = All-weaker (λ g. fan ≡ sends_on g.sender) (λ g. sends_on last.sender ≡ sends_on g.sender) (λ g e. sym split.1 ∙ e) c.pop.new.self.items split.0;
      merged = one_merged _ _ c.args.givers.items _ last (view c.args.self.pass) _ c.in-Some.ensures.items c.absorb.ensures.rule (none_merged _ _ _ c.args.self.role);
    }

pub loop-giver-preserved : goal.loop-giver-preserved
loop-giver-preserved g c =
    let giver = c.in-Some-pop.giver in
    let here = c.in-Some.field-0.sender in
    let split = All-pop (λ g. sends_on here ≡ sends_on g.sender) c.loop-giver.givers.items c.pop-in-loop-giver.new.self.items (Some giver) c.in-Some-pop.ensures.items c.loop-giver.invariant.rest in record {
      seated = search rules;
      rest = split.0;
      merged = one_merged _ _ c.loop-giver.givers.items _ giver (view c.loop-giver.pass) _ c.in-Some-pop.ensures.items c.absorb-in-Some-pop.ensures.rule c.loop-giver.invariant.merged;
    }

pub returns : goal.returns
returns g c =
    let learnt = c.learn.ensures.learnt in
    record { settled = all_merged _ learnt.0 _ c.loop-giver.givers.items _ (omega (arith, c.in_default-pop.ensures.cases)) c.loop-giver.invariant.merged learnt.1 }
