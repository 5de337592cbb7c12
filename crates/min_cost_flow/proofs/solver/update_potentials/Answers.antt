use Rattle.std.proofs.Common.{arith, sym, ◌∙◌}
use Rattle.std.specs.Prelude.{◌-ℤ◌}
use Rattle.min_cost_flow.specs.Flow.{at_nodes}
use Rattle.min_cost_flow.specs.Search.{IsPut, IsWithinFar, labels, orders}
use Rattle.min_cost_flow.proofs.Signs.{fits_within, label_fits, label_passed, passed_within}
use Rattle.min_cost_flow.proofs.Solving.{put_label, moved_more}
use Rattle.min_cost_flow.proofs.solver.update_potentials.Goals as goal

pub write_potential-requires : goal.write_potential-requires
write_potential-requires c =
    let s = c.args.search.now in
    let r = c.requires in
    let within : IsWithinFar (labels s (orders s c.loop-j.j)) = r.labels c.loop-j.j (omega arith) in
    record {
      node = omega (arith, c.loop-j.invariant.size, r.are_scanned c.loop-j.j (omega arith));
      small = omega (arith, r.small, r.are_scanned c.loop-j.j (omega arith));
      label = label_passed _ _ _ (label_fits _ within) within;
      bound = passed_within _ _ s.bound (fits_within _ r.bound) r.bound;
    }

pub loop-j-preserved : goal.loop-j-preserved
loop-j-preserved c =
    let i = c.loop-j.invariant in
    let s = c.args.search.now in
    let j = c.loop-j.j in
    let old = c.loop-j.potential in
    let new = c.write_potential.new.potential in
    let put : IsPut (at_nodes old) (at_nodes new) (orders s j) (labels s (orders s j) -ℤ s.bound) = put_label (at_nodes old) (at_nodes new) (orders s j) (labels s (orders s j)) s.bound (c.requires.labels j (omega arith)) c.requires.bound c.write_potential.ensures in
    record {
      moved = moved_more (at_nodes old) (at_nodes old) (at_nodes new) (labels s) (orders s) j s.bound put i.moved;
      others = λ w h. put.others w (λ t. h j (omega arith) (sym t)) ∙ i.others w (λ k d. h k (omega arith));
      size = omega (arith, i.size);
    }
