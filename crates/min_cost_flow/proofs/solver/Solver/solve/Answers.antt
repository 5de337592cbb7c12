use Rattle.std.proofs.Common.{◌≡◌, ◌<◌, ℕ, arith, sym, subst, inl, inr}
use Rattle.std.specs.Prelude.{pos, ◌≤ℤ◌}
use Rattle.std.proofs.lemmas.Bool.{cases_lt}
use Rattle.min_cost_flow.specs.Networks.{node_count}
use Rattle.min_cost_flow.specs.SolverState.{excess_at}
use Rattle.min_cost_flow.proofs.Comparisons.{not_true, not_false}
use Rattle.min_cost_flow.proofs.Rounds.{done_at, no_flow_wanting, nothing_remaining}
use Rattle.min_cost_flow.proofs.Existence.{nothing_wanting}
use Rattle.min_cost_flow.proofs.OverfullSets.{overfull_has_no_flow}
use Rattle.min_cost_flow.proofs.solver.Solver.solve.Goals as goal

pub loop-root-init : goal.loop-root-init
loop-root-init c = record {
  between_searches = c.initialise.ensures;
  done = λ v b. absurd (omega arith);
}

pub send_all_from-requires : goal.send_all_from-requires
send_all_from-requires c =
    let i = c.loop-root.invariant in
    record {
      between_searches = (c.args.network.now, i.between_searches);
      root = omega (arith, i.between_searches.ready.excesses, c.initialise.ensures.ready.excesses);
    }

pub loop-root-preserved : goal.loop-root-preserved
loop-root-preserved c =
    let i = c.loop-root.invariant in
    let e = c.send_all_from.ensures.sent c.if-not-send_all_from.false c.args.network.now i.between_searches in
    record {
      between_searches = e.between_searches;
      done = λ v b. elim (cases_lt v c.loop-root.root) [
        | inl d ↦ e.done v (omega (arith, c.initialise.ensures.ready.excesses)) (i.done v d)
        | inr d ↦ let t : v ≡ c.loop-root.root = omega arith in subst (λ (u : ℕ). excess_at c.send_all_from.new.self u ≤ℤ pos 0) (sym t) e.here
      ];
    }

pub returns-then-not-send_all_from : goal.returns-then-not-send_all_from
returns-then-not-send_all_from c = record {
  done = λ h. cc;
  answer = record {
    all_sent = λ h. cc;
    no_flow = λ _.
        let b = c.loop-root.invariant.between_searches in
        overfull_has_no_flow c.args.network.now _ b.ready.network.ends (c.send_all_from.ensures.stopped c.if-not-send_all_from.true c.args.network.now b).overfull;
  };
  visits = (c.send_all_from.ensures.stopped c.if-not-send_all_from.true c.args.network.now c.loop-root.invariant.between_searches).labels;
  overfull = λ _ _. (c.send_all_from.ensures.stopped c.if-not-send_all_from.true c.args.network.now c.loop-root.invariant.between_searches).overfull;
}

pub returns : goal.returns
returns c =
    let i = c.loop-root.invariant in
    let r = i.between_searches.ready in
    let net = c.args.network.now in
    let es = c.loop-root.self.nodes.excess.items in
    let all : (v : ℕ) → v < node_count net → excess_at c.loop-root.self v ≤ℤ pos 0 = λ v b. i.done v (omega (arith, c.initialise.ensures.ready.excesses)) in
    let d = c.deref.ensures.value in
    record {
      done = λ e. let over = rw d at (c.has_deficit.ensures.none (not_true _ e)) in done_at net _ _ _ _ _ r.round i.between_searches.work all (λ v b. over v (omega (arith, r.excesses)));
      answer = record {
        all_sent = λ e. let over = rw d at (c.has_deficit.ensures.none (not_true _ e)) in record { ready = r; sent = λ v b. nothing_remaining _ (all v b) (over v (omega (arith, r.excesses))) };
        no_flow = λ e. let (u, b, under) = rw d at (c.has_deficit.ensures.some (not_false _ e)) in no_flow_wanting net _ (excess_at c.loop-root.self) u r.network.ends r.round.leaves all (omega (arith, r.excesses)) under;
      };
      visits = r.labels;
      overfull = λ e flat. let (u, b, under) = rw d at (c.has_deficit.ensures.some (not_false _ e)) in absurd (nothing_wanting net _ (excess_at c.loop-root.self) u r.network.ends flat r.round.leaves all (omega (arith, r.excesses)) under);
    }
