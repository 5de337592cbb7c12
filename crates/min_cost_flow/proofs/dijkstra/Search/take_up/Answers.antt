use Rattle.std.proofs.Common.{rules, ◌≡◌, ◌<◌, ◌≤◌, ℕ, arith, ap, refl, ◌∙◌}
use Rattle.std.proofs.Math.Path.{fun_ext}
use Rattle.std.specs.Prelude.{◌-ℤ◌, ◌≤ℤ◌}
use mir.Syntax.{w32}
use mir.Val.{SFits, of_z}
use Rattle.min_cost_flow.specs.Search.{labels, orders, places, potential_of}
use Rattle.min_cost_flow.proofs.Signs.{same_from_bits}
use Rattle.min_cost_flow.proofs.Reaching.{swapped, nearest_kept, at_radius}
use Rattle.min_cost_flow.proofs.Searching.{IsMember, member, label_fits_at, label_within, potential_near, potential_within, away_is}
use Rattle.min_cost_flow.proofs.dijkstra.Search.take_up.Goals as goal

pub distance-requires-clause-label : goal.distance-requires-clause-label
distance-requires-clause-label c =
    let s = c.args.self.now in
    let g = c.args.input in
    let w : ℕ = orders s c.args.j in
    let h = c.requires.waiting.search in
    let m : IsMember g s c.args.j w = member g s c.args.j w h c.requires.waiting.inside refl in
    label_within g s w h m.node m.labelled

pub distance-requires-clause-potential : goal.distance-requires-clause-potential
distance-requires-clause-potential c =
    let s = c.args.self.now in
    let g = c.args.input in
    let w : ℕ = orders s c.args.j in
    let h = c.requires.waiting.search in
    let m : IsMember g s c.args.j w = member g s c.args.j w h c.requires.waiting.inside refl in
    potential_within g w h.input m.node

pub advance-requires : goal.advance-requires
advance-requires c =
    let s = c.args.self.now in
    let g = c.args.input in
    let w : ℕ = orders s c.args.j in
    let h = c.requires.waiting.search in
    let m : IsMember g s c.args.j w = member g s c.args.j w h c.requires.waiting.inside refl in
    let r = h.reached in
    let t : s.ordered < s.reached = omega (arith, c.requires.waiting.behind, c.requires.waiting.inside) in
    record {
      few = omega (arith, h.size, h.input.graph.nodes);
      node = omega (arith, h.size, m.node);
      from = omega (arith, h.size, m.place, c.requires.waiting.inside, r.counts);
      order = omega (arith, m.place, c.requires.waiting.behind);
      other = omega (arith, h.size, r.node s.ordered t);
      at = r.at s.ordered t;
      listed = ap (orders s) m.place ∙ m.number;
    }

pub returns-then-distance-self-clause-ordered : goal.returns-then-distance-self-clause-ordered
returns-then-distance-self-clause-ordered c =
    let fd : SFits w32 c.distance.result = search rules in
    let fl : SFits w32 c.args.self.now.radius = search rules in
    let s = c.args.self.now in
    let g = c.args.input in
    let w : ℕ = orders s c.args.j in
    let h = c.requires.waiting.search in
    let m : IsMember g s c.args.j w = member g s c.args.j w h c.requires.waiting.inside refl in
    let away : c.distance.result ≡ labels s w -ℤ potential_of g w = away_is _ _ _ (label_fits_at g s w h m.node m.labelled) (potential_near g w h.input m.node) c.distance.ensures in
    let same : c.distance.result ≡ s.radius = same_from_bits _ _ fd fl c.if-distance-self.true in
    let near : (labels s w -ℤ potential_of g w) ≤ℤ s.radius = at_radius (labels s w) (potential_of g w) (labels s w) c.distance.result s.radius refl away same in
    let a = c.advance.ensures in
    let k = a.same in
    let low : s.ordered ≤ places s w = omega (arith, m.place, c.requires.waiting.behind) in
    let (moved, kept) = swapped _ _ _ _ _ _ _ _ _ _ _ _ _ _ _ w (places s w) h.reached m.node m.labelled refl low near a.swapped in
    record {
      search = record {
        input = h.input;
        size = k.size ∙ h.size;
        reached = rw (fun_ext k.label, fun_ext k.predecessor, k.scanned, a.ordered, k.reached, k.radius) moved;
        nearest = rw (fun_ext k.label, k.scanned, k.radius, k.bound, k.found) (nearest_kept _ _ _ _ _ _ _ _ _ _ _ _ _ _ h.nearest h.nearest.above kept);
      };
      list = k.list;
      kept = rw (fun_ext k.label) kept;
      label = k.label;
      scanned = k.scanned;
      reached = k.reached;
      bound = k.bound;
    }

pub returns-then-distance-self-clause-behind : goal.returns-then-distance-self-clause-behind
returns-then-distance-self-clause-behind c i d =
    let s = c.args.self.now in
    let g = c.args.input in
    let w : ℕ = orders s c.args.j in
    let h = c.requires.waiting.search in
    let m : IsMember g s c.args.j w = member g s c.args.j w h c.requires.waiting.inside refl in
    c.advance.ensures.swapped.rest i (λ t. omega (arith, c.requires.waiting.behind)) (λ t. omega (arith, m.place))

pub returns-else-distance-self-clause-more : goal.returns-else-distance-self-clause-more
returns-else-distance-self-clause-more c at =
    let s = c.args.self.now in
    let g = c.args.input in
    let w : ℕ = orders s c.args.j in
    let h = c.requires.waiting.search in
    let m : IsMember g s c.args.j w = member g s c.args.j w h c.requires.waiting.inside refl in
    let away : c.distance.result ≡ labels s w -ℤ potential_of g w = away_is _ _ _ (label_fits_at g s w h m.node m.labelled) (potential_near g w h.input m.node) c.distance.ensures in
    absurd (c.if-distance-self.false (ap (of_z w32) (away ∙ at)))
