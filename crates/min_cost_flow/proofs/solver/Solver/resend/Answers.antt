use Rattle.std.proofs.Common.{rules, refl, ◌≡◌, ◌<◌, ℕ, arith, subst, length}
use Rattle.std.specs.Prelude.{ℤ, pos, ◌≤ℤ◌, ◌<ℤ◌}
use Rattle.std.proofs.lemmas.List.{get_or_read}
use mir.Syntax.{w32}
use mir.Val.{SFits}
use Rattle.min_cost_flow.specs.Networks.{node_count}
use Rattle.min_cost_flow.specs.SolverState.{excess_at}
use Rattle.min_cost_flow.proofs.Comparisons.{is_more, is_no_more, not_true, not_false}
use Rattle.min_cost_flow.proofs.Rounds.{no_flow_wanting, nothing_remaining}
use Rattle.min_cost_flow.proofs.Moved.{over_none}
use Rattle.min_cost_flow.proofs.OverfullSets.{overfull_has_no_flow}
use Rattle.min_cost_flow.proofs.solver.Solver.resend.Goals as goal

pub units-init : goal.units-init
units-init c = record { size = refl; ready = λ net r. r; others = c.requires.others }

pub augment_once-requires : goal.augment_once-requires
augment_once-requires c =
    let f : SFits w32 c.index.result.now = search rules in
    let i = c.units.invariant in
    let es = c.units.self.nodes.excess.items in
    let net = c.requires.ready.0 in
    let b : c.args.root < length es = omega (arith, i.size, c.requires.root) in
    let at : c.index.result.now ≡ excess_at c.units.self c.args.root = get_or_read es c.args.root c.index.result.now b c.index.ensures (pos 0) in
    record {
      ready = (net, (i.ready net c.requires.ready.1));
      root = b;
      remaining = subst (λ (z : ℤ). pos 0 <ℤ z) at (is_more _ _ f c.units-test.true);
      few = omega arith;
    }

pub units-smaller : goal.units-smaller
units-smaller c =
    let net = c.requires.ready.0 in
    let r = c.units.invariant.ready net c.requires.ready.1 in
    let a = c.augment_once.ensures.augmented c.if-not-augment_once.false net (r) in
    rw (a.ready.excesses, r.excesses) a.less.less

pub units-preserved : goal.units-preserved
units-preserved c =
    let i = c.units.invariant in
    let yes = c.if-not-augment_once.false in
    let net = c.requires.ready.0 in
    let r = i.ready net c.requires.ready.1 in
    let a = c.augment_once.ensures.augmented yes net (r) in
    record {
      size = omega (arith, i.size, r.excesses, a.ready.excesses);
      ready = λ net' h. (c.augment_once.ensures.augmented yes net' ((i.ready net' h))).ready;
      others = λ v b ne. a.less.done v (omega (arith, a.ready.excesses)) (i.others v (omega (arith, a.ready.excesses, r.excesses)) ne);
    }

pub returns-then-not-augment_once : goal.returns-then-not-augment_once
returns-then-not-augment_once c net h = record { all_sent = λ e. cc; no_flow = λ _. let r = c.units.invariant.ready net h in overfull_has_no_flow net _ r.network.ends (c.augment_once.ensures.stopped c.if-not-augment_once.true net r).overfull }

pub returns : goal.returns
returns c net h =
    let f : SFits w32 c.index.result.now = search rules in
    let i = c.units.invariant in
    let r = i.ready net h in
    let es = c.units.self.nodes.excess.items in
    let d = c.deref.ensures.value in
    let at : c.index.result.now ≡ excess_at c.units.self c.args.root = get_or_read es c.args.root c.index.result.now (omega (arith, i.size, c.requires.root)) c.index.ensures (pos 0) in
    let all : (v : ℕ) → v < node_count net → excess_at c.units.self v ≤ℤ pos 0 = λ v b. over_none es (length es) c.args.root i.others (subst (λ (z : ℤ). z ≤ℤ pos 0) at (is_no_more _ _ f c.units-test.false)) v (omega (arith, r.excesses)) in
    record {
      all_sent = λ e. let over = rw d at (c.has_deficit.ensures.none (not_true _ e)) in record { ready = r; sent = λ v b. nothing_remaining _ (all v b) (over v (omega (arith, r.excesses))) };
      no_flow = λ e. let (u, b, under) = rw d at (c.has_deficit.ensures.some (not_false _ e)) in no_flow_wanting _ _ (excess_at c.units.self) u r.network.ends r.round.leaves all (omega (arith, r.excesses)) under;
    }
