use Rattle.std.proofs.Common.{◌≡◌, ◌*◌, ℕ, ℤ, List, length, ap, refl, ◌∙◌, subst, arith}
use Rattle.std.specs.Prelude.{pos, ◌+ℤ◌, ◌≤ℤ◌}
use Rattle.std.specs.Vec.{with_items}
use Rattle.std.proofs.lemmas.List.{with_items_is}
use Rattle.min_cost_flow.specs.Networks.{node_count, moved, shifted}
use Rattle.min_cost_flow.proofs.Moving.{length-moved}
use Rattle.min_cost_flow.specs.Flow.{at_nodes}
use Rattle.min_cost_flow.proofs.Moved.{others_none, sized_moved, ready_moved, low_bounds}
use Rattle.min_cost_flow.proofs.solver.Solver.resume.Goals as goal

pub solve-requires : goal.solve-requires
solve-requires c =
    rw c.shift.ensures (sized_moved c.args.network.now c.args.self.now c.args.self.now c.args.from c.args.to c.args.amount c.requires.all_sent.ready c.requires.in_range refl refl refl refl)

pub rebase-requires : goal.rebase-requires
rebase-requires c =
    let r = c.requires.all_sent.ready in
    let m = c.deref_mut.ensures.value in
    record {
      node = rw m (omega (arith, r.potentials, c.requires.to));
      small = rw m (omega (arith, r.potentials, r.network.small));
      low = rw m (λ v b. low_bounds (node_count c.args.network.now) (at_nodes c.args.self.now.nodes.potential.items v) (r.network.small).0 (r.round.low v (omega (arith, r.potentials))));
    }

pub move_units-requires : goal.move_units-requires
move_units-requires c =
    let r = c.requires.all_sent.ready in
    let m = c.deref_mut-2.ensures.value in
    record {
      from = rw m (omega (arith, r.excesses, c.requires.from));
      to = rw m (omega (arith, r.excesses, c.requires.to));
      few = c.requires.few;
      low = rw m (λ v b. (r.round.in_range v (omega (arith, r.excesses))).0);
      high = rw m (λ v b. (r.round.in_range v (omega (arith, r.excesses))).1);
    }

pub resend-requires : goal.resend-requires
resend-requires c =
    let net = c.args.network.now in
    let l = c.args.self.now in
    let st = c.requires.all_sent in
    let r = st.ready in
    let p' = c.rebase.new.potential in
    let es = c.move_units.new.units in
    let long : length (moved net.supplies c.args.from c.args.to c.args.amount) ≡ node_count net = length-moved net.supplies c.args.from c.args.to c.args.amount in
    let d = c.deref_mut.ensures.value in
    let size : length c.deref_mut.result.now ≡ node_count net = ap (length {A = ℤ}) d ∙ r.potentials in
    let pot_is : (with_items l.nodes.potential p').items ≡ p' = with_items_is l.nodes.potential p' (omega arith) in
    let excess_is : (with_items l.nodes.excess es).items ≡ es = with_items_is l.nodes.excess es (omega arith) in
    let value : es ≡ moved l.nodes.excess.items c.args.from c.args.to c.args.amount = c.move_units.ensures ∙ ap (λ (xs : List ℤ). moved xs c.args.from c.args.to c.args.amount) c.deref_mut-2.ensures.value in
    let base = rw d at c.rebase.ensures.moved in
    let low = c.rebase.ensures.low c.if-not-rebase.false in
    let little = rw c.deref.ensures.value at (c.can_carry_more.ensures c.if-not-can_carry_more.false) in
    let wide : length (with_items l.nodes.excess es).items ≡ node_count net = ap (length {A = ℤ}) (excess_is ∙ value) ∙ length-moved l.nodes.excess.items c.args.from c.args.to c.args.amount ∙ r.excesses in
    record {
      ready = (
        shifted net c.args.from c.args.to c.args.amount,
        ready_moved net l _ _ c.args.from c.args.to c.args.amount st c.requires.in_range c.requires.from c.requires.to c.requires.few
            (λ v b. rw pot_is (base v (omega (arith, size))))
            (λ v b. rw pot_is (subst (λ (m : ℕ). (pos 0 ≤ℤ (at_nodes p' v +ℤ pos (2 * m))) × (at_nodes p' v ≤ℤ pos (2 * m))) size (low v (omega (arith, size)))))
            (λ i b. little i (omega (arith, r.residual.capacities_size)))
            (rw pot_is (omega (arith, size, r.potentials))) (excess_is ∙ value),
      );
      root = omega (arith, wide, c.requires.from);
      others = λ v b ne. rw (excess_is, value) (others_none l.nodes.excess.items (node_count net) c.args.from c.args.to c.args.amount v r.excesses st.sent c.requires.from c.requires.to (omega (arith, wide)) ne);
    }

pub returns : goal.returns
returns c =
    let net = c.args.network.now in
    let l = c.args.self.now in
    let st = c.requires.all_sent in
    let r = st.ready in
    let p' = c.rebase.new.potential in
    let es = c.move_units.new.units in
    let long : length (moved net.supplies c.args.from c.args.to c.args.amount) ≡ node_count net = length-moved net.supplies c.args.from c.args.to c.args.amount in
    let d = c.deref_mut.ensures.value in
    let size : length c.deref_mut.result.now ≡ node_count net = ap (length {A = ℤ}) d ∙ r.potentials in
    let pot_is : (with_items l.nodes.potential p').items ≡ p' = with_items_is l.nodes.potential p' (omega arith) in
    let excess_is : (with_items l.nodes.excess es).items ≡ es = with_items_is l.nodes.excess es (omega arith) in
    let value : es ≡ moved l.nodes.excess.items c.args.from c.args.to c.args.amount = c.move_units.ensures ∙ ap (λ (xs : List ℤ). moved xs c.args.from c.args.to c.args.amount) c.deref_mut-2.ensures.value in
    let base = rw d at c.rebase.ensures.moved in
    let low = c.rebase.ensures.low c.if-not-rebase.false in
    let little = rw c.deref.ensures.value at (c.can_carry_more.ensures c.if-not-can_carry_more.false) in
    record {
      network = c.shift.ensures;
      answer = rw c.shift.ensures (c.resend.ensures (shifted net c.args.from c.args.to c.args.amount) (ready_moved net l _ _ c.args.from c.args.to c.args.amount st c.requires.in_range c.requires.from c.requires.to c.requires.few
          (λ v b. rw pot_is (base v (omega (arith, size))))
          (λ v b. rw pot_is (subst (λ (m : ℕ). (pos 0 ≤ℤ (at_nodes p' v +ℤ pos (2 * m))) × (at_nodes p' v ≤ℤ pos (2 * m))) size (low v (omega (arith, size)))))
          (λ i b. little i (omega (arith, r.residual.capacities_size)))
          (rw pot_is (omega (arith, size, r.potentials))) (excess_is ∙ value)));
    }
