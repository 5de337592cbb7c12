use Rattle.std.proofs.Common.{rules, ◌≡◌, arith, ap, subst}
use Rattle.std.proofs.lemmas.Int.{to_z-of_z}
use Rattle.std.specs.Prelude.{ℤ, ◌-ℤ◌, ◌≤ℤ◌, ◌<ℤ◌}
use mir.Syntax.{w32}
use mir.Val.{SFits, of_z}
use Rattle.min_cost_flow.specs.Search.{labels, orders, potential_of}
use Rattle.min_cost_flow.proofs.Signs.{same_from_bits}
use Rattle.min_cost_flow.proofs.Reaching.{remaining_at_radius, remaining_behind, strictly}
use Rattle.min_cost_flow.proofs.dijkstra.Search.find_next.Goals as goal

pub returns-then-self-clause-remaining : goal.returns-then-self-clause-remaining
returns-then-self-clause-remaining c _ =
    let fl : SFits w32 c.args.self.now.radius = search rules in
    let fc : SFits w32 c.args.self.now.bound = search rules in
    remaining_at_radius _ _ _ _ _ _ _ _ _ _ _ _ _ _ c.requires.search.reached (same_from_bits _ _ fl fc c.if-self.true)

pub returns-then-nearest-self-clause-remaining : goal.returns-then-nearest-self-clause-remaining
returns-then-nearest-self-clause-remaining c _ =
    let fn : SFits w32 c.least_distance-nearest.result = search rules in
    let fc : SFits w32 c.args.self.now.bound = search rules in
    let s = c.args.self.now in
    let same : c.least_distance-nearest.result ≡ s.bound = same_from_bits _ _ fn fc c.if-nearest-self.true in
    remaining_behind _ _ _ _ _ _ _ _ _ _ _ _ _ _ c.requires.search.reached c.if-self-2.false (λ j a b. subst (λ (z : ℤ). z ≤ℤ (labels s (orders s j) -ℤ potential_of c.args.input (orders s j))) same (c.least_distance-nearest.ensures.least j a b))

pub raise_radius-requires-clause-radius : goal.raise_radius-requires-clause-radius
raise_radius-requires-clause-radius c =
    let fn : SFits w32 c.least_distance-nearest.result = search rules in
    let e = c.least_distance-nearest.ensures in
    let less : c.least_distance-nearest.result <ℤ c.args.self.now.bound = strictly _ _ e.bound (λ t. c.if-nearest-self.false (ap (of_z w32) t)) in
    rw (to_z-of_z w32 c.least_distance-nearest.result fn) (record {
      done = omega (arith, c.requires.search.reached.counts, c.if-self-2.false);
      rises = e.radius;
      bound = e.bound;
      least = e.least;
      some = e.some less;
    })
