use Rattle.std.proofs.Common.{rules, ◌≡◌, ◌<◌, arith}
use Rattle.std.specs.Prelude.{◌-ℤ◌}
use mir.Syntax.{w32}
use mir.Val.{SFits}
use Rattle.min_cost_flow.specs.Search.{nodes_of, potential_of}
use Rattle.min_cost_flow.proofs.Signs.{same_from_bits, label_fits, label_passed}
use Rattle.min_cost_flow.proofs.Searching.{IsListed, potential_near, potential_within, away_is, offer_within, end_in, room_remaining, node_labelled, node_labelled_behind, listed}
use Rattle.min_cost_flow.proofs.dijkstra.Search.label_node.Goals as goal

pub set_label-requires-clause-room : goal.set_label-requires-clause-room
set_label-requires-clause-room c = room_remaining c.args.input c.args.self.now c.args.step.end c.requires.candidate.search (end_in c.args.input c.args.self.now c.args.step c.requires.candidate)

pub distance-requires-clause-label : goal.distance-requires-clause-label
distance-requires-clause-label c =
    let w = offer_within c.args.input c.args.self.now c.args.step c.requires.candidate in
    label_passed _ _ c.args.step.label (label_fits _ w) w

pub distance-requires-clause-potential : goal.distance-requires-clause-potential
distance-requires-clause-potential c = potential_within c.args.input c.args.step.end c.requires.candidate.search.input (end_in c.args.input c.args.self.now c.args.step c.requires.candidate)

pub advance-requires : goal.advance-requires
advance-requires c =
    let o = c.requires.candidate in
    let w : IsListed c.args.input c.set_label.new.self c.args.step.end = listed c.args.input c.args.self.now c.set_label.new.self c.args.step o c.requires.nonnegative c.set_label.ensures.has_label in
    record {
      few = omega (arith, w.size, o.search.input.graph.nodes);
      node = omega (arith, w.size, end_in c.args.input c.args.self.now c.args.step o);
      from = omega (arith, w.size, w.inside, w.few);
      order = w.ordered;
      other = omega (arith, w.size, w.other);
      at = w.at;
      listed = w.back;
    }

pub returns-then-distance-self-clause-relaxed : goal.returns-then-distance-self-clause-relaxed
returns-then-distance-self-clause-relaxed c =
    let fd : SFits w32 c.distance.result = search rules in
    let fl : SFits w32 c.set_label.new.self.radius = search rules in
    let o = c.requires.candidate in
    let g = c.args.input in
    let b : c.args.step.end < nodes_of g = end_in g c.args.self.now c.args.step o in
    let away : c.distance.result ≡ c.args.step.label -ℤ potential_of g c.args.step.end = away_is _ _ _ (offer_within g c.args.self.now c.args.step o) (potential_near g c.args.step.end o.search.input b) c.distance.ensures in
    let same : c.distance.result ≡ c.set_label.new.self.radius = same_from_bits _ _ fd fl c.if-distance-self.true in
    let a = c.advance.ensures in
    node_labelled g c.args.self.now c.set_label.new.self c.advance.new.self c.args.step c.distance.result o c.requires.nonnegative c.set_label.ensures.has_label away same a.swapped a.same a.ordered

pub returns-then-distance-self-clause-label : goal.returns-then-distance-self-clause-label
returns-then-distance-self-clause-label c = rw (c.advance.ensures.same.label c.args.step.end) c.set_label.ensures.has_label.label.here

pub returns-else-distance-self-clause-relaxed : goal.returns-else-distance-self-clause-relaxed
returns-else-distance-self-clause-relaxed c = node_labelled_behind c.args.input c.args.self.now c.set_label.new.self c.args.step c.requires.candidate c.requires.nonnegative c.set_label.ensures.has_label
