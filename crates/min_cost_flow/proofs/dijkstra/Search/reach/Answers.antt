use Rattle.std.proofs.Common.{rules, ◌≡◌, ◌<◌, ◌⊎◌, inl, inr, arith}
use Rattle.std.specs.Prelude.{pos, ◌-ℤ◌, ◌<ℤ◌}
use mir.Syntax.{w32}
use mir.Val.{SFits}
use Rattle.min_cost_flow.specs.Search.{nodes_of, potential_of, excess_of}
use Rattle.min_cost_flow.proofs.Signs.{is_less, label_fits, label_passed, passed_is}
use Rattle.min_cost_flow.proofs.Searching.{potential_near, potential_within, away_is, offer_within, end_in, offered}
use Rattle.min_cost_flow.proofs.dijkstra.Search.reach.Goals as goal

pub distance-away-requires-clause-label : goal.distance-away-requires-clause-label
distance-away-requires-clause-label c =
    let w = offer_within c.args.input c.args.self.now c.args.step c.requires.candidate in
    label_passed _ _ c.args.step.label (label_fits _ w) w

pub distance-away-requires-clause-potential : goal.distance-away-requires-clause-potential
distance-away-requires-clause-potential c = potential_within c.args.input c.args.step.end c.requires.candidate.search.input (end_in c.args.input c.args.self.now c.args.step c.requires.candidate)

pub returns-then-input-step-lt0-clause-relaxed : goal.returns-then-input-step-lt0-clause-relaxed
returns-then-input-step-lt0-clause-relaxed c =
    let fe : SFits w32 (excess_of c.args.input c.args.step.end) = search rules in
    let fd : SFits w32 c.distance-away.result = search rules in
    let o = c.requires.candidate in
    let g = c.args.input in
    let v = c.args.step.end in
    let b : v < nodes_of g = end_in g c.args.self.now c.args.step o in
    let wants : excess_of g v <ℤ pos 0 = is_less _ _ fe c.if-input-step-lt0.true in
    let away : c.distance-away.result ≡ c.args.step.label -ℤ potential_of g v = away_is _ _ _ (offer_within g c.args.self.now c.args.step o) (potential_near g v o.search.input b) c.distance-away.ensures in
    let a = c.take_if_nearer.ensures in
    let either : ((c.take_if_nearer.new.self.bound ≡ c.args.self.now.bound) × (c.take_if_nearer.new.self.found ≡ c.args.self.now.found)) ⊎ ((c.take_if_nearer.new.self.bound ≡ c.distance-away.result) × (c.take_if_nearer.new.self.found ≡ c.args.step.number)) = elim a.either [ inl h ↦ inl h | inr h ↦ inr (passed_is _ _ fd h.0, h.1) ] in
    offered g c.args.self.now c.take_if_nearer.new.self c.args.step c.distance-away.result o wants away a.same a.bound either

pub offset_bounds-input-step-2 : goal.offset_bounds-input-step-2
offset_bounds-input-step-2 c =
    let small = c.requires.candidate.search.input.graph.nodes in
    let b = end_in c.args.input c.args.self.now c.args.step c.requires.candidate in omega arith

pub bounds-input-step-2 : goal.bounds-input-step-2
bounds-input-step-2 c = omega (arith, end_in c.args.input c.args.self.now c.args.step c.requires.candidate, c.requires.candidate.search.input.excesses)
