use Rattle.std.proofs.Common.{rules, ◌≡◌, ◌≤◌, ◌⊎◌, ℕ, arith, refl, inl, inr, subst, sym}
use Rattle.std.proofs.lemmas.Int.{to_z-of_z}
use Rattle.std.specs.Prelude.{ℤ, ◌-ℤ◌, ◌≤ℤ◌}
use mir.Syntax.{w32}
use mir.Val.{SFits, to_z}
use Rattle.min_cost_flow.specs.Search.{labels, orders, potential_of}
use Rattle.min_cost_flow.proofs.Signs.{lesser_either, passed_is, passed_under}
use Rattle.min_cost_flow.proofs.Reaching.{least_more, at_place, under_radius}
use Rattle.min_cost_flow.proofs.Searching.{IsMember, member, label_fits_at, label_within, potential_near, potential_within, away_is}
use Rattle.min_cost_flow.proofs.dijkstra.Search.least_distance.Goals as goal

pub distance-away-requires-clause-label : goal.distance-away-requires-clause-label
distance-away-requires-clause-label c =
    let s = c.args.self.now in
    let g = c.args.input in
    let w : ℕ = orders s c.loop-j.j in
    let h = c.requires.search in
    let m : IsMember g s c.loop-j.j w = member g s c.loop-j.j w h (omega arith) refl in
    label_within g s w h m.node m.labelled

pub distance-away-requires-clause-potential : goal.distance-away-requires-clause-potential
distance-away-requires-clause-potential c =
    let s = c.args.self.now in
    let g = c.args.input in
    let w : ℕ = orders s c.loop-j.j in
    let h = c.requires.search in
    let m : IsMember g s c.loop-j.j w = member g s c.loop-j.j w h (omega arith) refl in
    potential_within g w h.input m.node

pub loop-j-preserved : goal.loop-j-preserved
loop-j-preserved c =
    let fr : SFits w32 c.min-least.result = search rules in
    let fd : SFits w32 c.distance-away.result = search rules in
    let s = c.args.self.now in
    let g = c.args.input in
    let w : ℕ = orders s c.loop-j.j in
    let h = c.requires.search in
    let m : IsMember g s c.loop-j.j w = member g s c.loop-j.j w h (omega arith) refl in
    let away : c.distance-away.result ≡ labels s w -ℤ potential_of g w = away_is _ _ _ (label_fits_at g s w h m.node m.labelled) (potential_near g w h.input m.node) c.distance-away.ensures in
    let r = h.reached in
    let i = c.loop-j.invariant in
    let j = c.loop-j.j in
    let ja : s.ordered ≤ j = omega arith in
    let a = c.min-least.ensures in
    let first : c.min-least.result ≤ℤ (to_z w32 c.loop-j.least-bits) = a.self_bound in
    let second : c.min-least.result ≤ℤ c.distance-away.result = passed_under _ _ fd a.other_bound in
    let either : (c.min-least.result ≡ (to_z w32 c.loop-j.least-bits)) ⊎ (c.min-least.result ≡ c.distance-away.result) = elim (lesser_either _ _ _ a.value) [ inl h ↦ inl h | inr h ↦ inr (passed_is _ _ fd h) ] in
    let high : s.radius ≤ℤ c.distance-away.result = subst (λ (z : ℤ). s.radius ≤ℤ z) (sym away) (r.here w m.node m.labelled (at_place r.counts.0 ja m.place)) in
    let more = least_more (labels s) (potential_of g) (orders s) s.ordered j s.bound (to_z w32 c.loop-j.least-bits) c.distance-away.result c.min-least.result away first second either ja i.least i.some in
    rw (to_z-of_z w32 c.min-least.result fr) (record {
      bound = under_radius _ _ _ first i.bound;
      radius = elim either [ inl h ↦ subst (λ (z : ℤ). s.radius ≤ℤ z) (sym h) i.radius | inr h ↦ subst (λ (z : ℤ). s.radius ≤ℤ z) (sym h) high ];
      least = more.0;
      some = more.1;
    })

pub returns-clause-least : goal.returns-clause-least
returns-clause-least c = λ j a b. c.loop-j.invariant.least j a (omega (arith, c.loop-j.auto.j-end))
