use Rattle.std.proofs.Common.{◌<◌, ◌≤◌, ◌+◌, ℕ, arith, refl, subst, ◌∙◌}
use Rattle.std.specs.Prelude.{length}
use Rattle.min_cost_flow.specs.declared.residual_network.TheConstants.{MAX_RESIDUAL_ARCS}
use Rattle.min_cost_flow.specs.Search.{nodes_of, arcs_of, labels, orders, places, AreLowered, IsScanning}
use Rattle.min_cost_flow.proofs.Reaching.{headed, headed_nearest, kept_same, kept_then, same_z, under_radius}
use Rattle.min_cost_flow.proofs.Searching.{scanning, next_in, are_scanned, looked_none, next_starts, looked_below, looked_less, looked_all, serves_all, looked_next}
use Rattle.min_cost_flow.proofs.dijkstra.Search.scan.Goals as goal

pub arcs-init : goal.arcs-init
arcs-init c =
    let h = c.requires.search in
    let s = c.args.self.now in
    let g = c.args.input in
    let u : ℕ = orders s s.scanned in
    let b : u < nodes_of g = next_in g s u h c.requires.more refl in
    record {
      relaxed = record {
        search = record {
          input = h.input;
          size = h.size;
          reached = headed _ _ _ _ _ _ _ _ _ _ _ _ _ h.reached c.requires.more;
          nearest = headed_nearest _ _ _ _ _ _ _ _ _ _ _ h.nearest;
        };
        list = refl;
        kept = kept_same _ _ _ _;
        scanned = refl;
        radius = refl;
        bound = same_z s.bound;
      };
      looked = looked_none g _ u _ (h.input.linked.begins u b);
    }

pub look-arc-requires : goal.look-arc-requires
look-arc-requires c =
    let g = c.args.input in
    let i = c.arcs.invariant in
    let few : length (arcs_of g) ≤ MAX_RESIDUAL_ARCS = c.requires.search.input.graph.few in
    record {
      number = (next_starts _ _ _ _ _ i.looked c.arcs-test.true).inside;
      few = omega (arith, looked_below _ _ _ _ _ i.looked);
    }

pub relax-requires : goal.relax-requires
relax-requires c =
    let s = c.args.self.now in
    let g = c.args.input in
    let u : ℕ = orders s s.scanned in
    let i = c.arcs.invariant in
    let r = i.relaxed in
    record {
      scanning = scanning g s c.arcs.self u c.requires.search c.requires.more refl r.search r.kept r.scanned r.radius;
      number = next_starts _ _ _ _ _ i.looked c.arcs-test.true;
      end = c.look-arc.ensures.end;
      cost = c.look-arc.ensures.cost;
    }

pub arcs-smaller : goal.arcs-smaller
arcs-smaller c = omega (arith, looked_less _ _ _ _ _ c.arcs.invariant.looked c.arcs-test.true, c.look-arc.ensures.tick)

pub arcs-preserved : goal.arcs-preserved
arcs-preserved c =
    let h = c.requires.search in
    let s = c.args.self.now in
    let g = c.args.input in
    let u : ℕ = orders s s.scanned in
    let i = c.arcs.invariant in
    let r = i.relaxed in
    let t = c.arcs.self in
    let n : IsScanning g t u = scanning g s t u h c.requires.more refl r.search r.kept r.scanned r.radius in
    let new = c.relax.new.self in
    let k = c.relax.ensures.relaxed in
    let step : AreLowered (nodes_of g) (s.scanned + 1) (labels t) (places t) (labels new) (places new) = subst (λ (m : ℕ). AreLowered (nodes_of g) m (labels t) (places t) (labels new) (places new)) r.scanned k.kept in
    record {
      relaxed = record {
        search = k.search;
        list = k.list ∙ r.list;
        kept = kept_then _ _ _ _ _ _ _ _ r.kept step;
        scanned = k.scanned ∙ r.scanned;
        radius = k.radius ∙ r.radius;
        bound = under_radius _ _ _ k.bound r.bound;
      };
      looked = rw c.look-arc.ensures.tick (looked_next g t new u c.arcs.number _ c.arcs.here n k i.looked c.arcs-test.true c.look-arc.ensures.next c.relax.ensures.serves);
    }

pub returns-clause-served : goal.returns-clause-served
returns-clause-served c =
    let h = c.requires.search in
    let s = c.args.self.now in
    let g = c.args.input in
    let u : ℕ = orders s s.scanned in
    let i = c.arcs.invariant in
    let r = i.relaxed in
    are_scanned g s c.arcs.self u h c.requires.more refl c.requires.served r.search r.kept r.scanned r.bound (serves_all _ _ _ _ _ i.looked c.arcs-test.false)

pub overflow_add-looks : goal.overflow_add-looks
overflow_add-looks c =
    let few : length (arcs_of c.args.input) ≤ MAX_RESIDUAL_ARCS = c.requires.search.input.graph.few in
    omega (arith, looked_below _ _ _ _ _ c.arcs.invariant.looked, c.requires.few)

pub returns-clause-looks : goal.returns-clause-looks
returns-clause-looks c = omega (arith, looked_all _ _ _ _ _ c.arcs.invariant.looked c.arcs-test.false)
