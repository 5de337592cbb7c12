use Rattle.std.proofs.Common.{rules, ◌≡◌, ◌≤◌, ◌+◌, ℕ, arith, refl, inl, inr, ap, subst, sym, ◌∙◌}
use Rattle.std.proofs.lemmas.Bool.{cases_eq}
use Rattle.std.proofs.lemmas.Int.{to_z-of_z}
use Rattle.std.proofs.Math.Path.{fun_ext}
use Rattle.std.specs.Prelude.{◌-ℤ◌}
use mir.Syntax.{w32}
use mir.Val.{SFits}
use Rattle.min_cost_flow.specs.Search.{nodes_of, AreLowered, labels, orders, places, potential_of}
use Rattle.min_cost_flow.proofs.Reaching.{climbed, kept_same, kept_then, nearest_kept}
use Rattle.min_cost_flow.proofs.dijkstra.Search.raise_radius.Goals as goal

pub loop-j-init : goal.loop-j-init
loop-j-init c =
    let f : SFits w32 c.args.radius = search rules in
    let h = c.requires.search in
    let n = c.requires.radius in
    rw (to_z-of_z w32 c.args.radius f) (record {
      ordered = record {
        search = record {
          input = h.input;
          size = h.size;
          reached = climbed _ _ _ _ _ _ _ _ _ _ _ _ _ c.args.radius h.reached n.done n.rises n.least;
          nearest = nearest_kept _ _ _ _ _ _ _ _ _ _ _ c.args.radius _ _ h.nearest n.bound (kept_same _ _ _ _);
        };
        list = refl;
        kept = kept_same _ _ _ _;
        label = λ v. refl;
        scanned = refl;
        reached = refl;
        bound = refl;
      };
      radius = refl;
      few = omega arith;
      behind = λ i e. refl;
      more = inr n.some;
    })

pub take_up-requires : goal.take_up-requires
take_up-requires c =
    let i = c.loop-j.invariant in
    record { waiting = record { search = i.ordered.search; behind = i.few; inside = omega (arith, i.ordered.reached) } }

pub loop-j-preserved : goal.loop-j-preserved
loop-j-preserved c =
    let i = c.loop-j.invariant in
    let o = i.ordered in
    let e = c.take_up.ensures in
    let k = e.ordered in
    let s = c.args.self.now in
    let t = c.loop-j.self in
    let new = c.take_up.new.self in
    let n = nodes_of c.args.input in
    let heads : t.scanned ≡ s.scanned = o.scanned in
    let step = subst (λ (h : ℕ). AreLowered n h (labels t) (places t) (labels new) (places new)) heads k.kept in
    let start : t.scanned ≤ t.ordered = o.search.reached.counts.0 in
    let low : t.ordered ≤ new.ordered = e.few.0 in
    let eh : new.scanned ≡ t.scanned = k.scanned in
    let ec : new.reached ≡ t.reached = k.reached in
    record {
      ordered = record {
        search = k.search;
        list = k.list ∙ o.list;
        kept = kept_then _ _ _ _ _ _ _ _ o.kept step;
        label = λ v. k.label v ∙ o.label v;
        scanned = k.scanned ∙ o.scanned;
        reached = k.reached ∙ o.reached;
        bound = k.bound ∙ o.bound;
      };
      radius = e.radius ∙ i.radius;
      few = omega (arith, e.few, i.few);
      behind = λ m d. e.behind m (omega arith) ∙ i.behind m (omega arith);
      more = elim i.more [
        | inl h ↦ inl (omega arith)
        | inr w ↦ let (m, a, b, d) = w in elim (cases_eq m c.loop-j.j) [
          | inl q ↦
              let here : orders t c.loop-j.j ≡ orders s m = i.behind c.loop-j.j (omega arith) ∙ ap (orders s) (sym q) in
              let at : labels t (orders t c.loop-j.j) -ℤ potential_of c.args.input (orders t c.loop-j.j) ≡ t.radius = rw (fun_ext o.label) (ap (λ (v : ℕ). labels s v -ℤ potential_of c.args.input v) here ∙ sym d) in
              let up : new.ordered ≡ t.ordered + 1 = e.more at in
              inl (omega arith)
          | inr ne ↦ inr (m, omega arith, omega arith, e.radius ∙ d)
        ]
      ];
    }

pub returns-clause-more : goal.returns-clause-more
returns-clause-more c =
    let i = c.loop-j.invariant in
    elim i.more [ inl h ↦ h | inr w ↦ let (k, a, b, d) = w in absurd (omega (arith, i.ordered.reached)) ]
