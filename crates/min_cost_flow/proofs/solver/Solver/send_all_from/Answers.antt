use Rattle.std.proofs.Common.{rules, ◌≡◌, ◌<◌, refl, arith, subst, length}
use Rattle.std.specs.Prelude.{ℤ, pos, ◌≤ℤ◌, ◌<ℤ◌}
use Rattle.std.proofs.lemmas.List.{get_or_read}
use mir.Syntax.{w32}
use mir.Val.{SFits}
use Rattle.min_cost_flow.specs.SolverState.{excess_at}
use Rattle.min_cost_flow.proofs.Comparisons.{is_more, is_no_more}
use Rattle.min_cost_flow.proofs.Rounds.{looks_most, work_more}
use Rattle.min_cost_flow.proofs.solver.Solver.send_all_from.Goals as goal

pub units-init : goal.units-init
units-init c = record { size = refl; between_searches = λ net u. u; done = λ net u v b h. h }

pub augment_once-requires : goal.augment_once-requires
augment_once-requires c =
    let f : SFits w32 c.index.result.now = search rules in
    let i = c.units.invariant in
    let net = c.requires.between_searches.0 in
    let u = i.between_searches net c.requires.between_searches.1 in
    let most = looks_most _ _ _ _ _ u.ready.network u.work in
    let b : c.args.root < length c.units.self.nodes.excess.items = omega (arith, i.size, c.requires.root) in
    let at : c.index.result.now ≡ excess_at c.units.self c.args.root = get_or_read c.units.self.nodes.excess.items c.args.root c.index.result.now b c.index.ensures (pos 0) in
    record {
      ready = (net, u.ready);
      root = b;
      remaining = subst (λ (z : ℤ). pos 0 <ℤ z) at (is_more _ _ f c.units-test.true);
      few = omega (arith, most.1);
    }

pub overflow_add-self : goal.overflow_add-self
overflow_add-self c =
    let u = c.units.invariant.between_searches c.requires.between_searches.0 c.requires.between_searches.1 in
    omega (arith, (looks_most _ _ _ _ _ u.ready.network u.work).0, c.augment_once.ensures.searches)

pub units-smaller : goal.units-smaller
units-smaller c =
    let net = c.requires.between_searches.0 in
    let r = (c.units.invariant.between_searches net c.requires.between_searches.1).ready in
    let a = c.augment_once.ensures.augmented c.if-not-augment_once.false net r in
    rw (a.ready.excesses, r.excesses) a.less.less

pub units-preserved : goal.units-preserved
units-preserved c =
    let i = c.units.invariant in
    let yes = c.if-not-augment_once.false in
    let e = c.augment_once.ensures in
    let net = c.requires.between_searches.0 in
    let r = (i.between_searches net c.requires.between_searches.1).ready in
    let a = e.augmented yes net r in
    record {
      size = omega (arith, i.size, r.excesses, a.ready.excesses);
      between_searches = λ net' h.
          let u = i.between_searches net' h in
          let b = e.augmented yes net' u.ready in
          record {
            ready = b.ready;
            work = rw e.searches (work_more _ _ _ _ _ _ _ _ u.work b.less b.carrying (omega (arith, e.looks, u.ready.residual.filled.arc_size)));
          };
      done = λ net' h v b over. (e.augmented yes net' (i.between_searches net' h).ready).less.done v b (i.done net' h v b over);
    }

pub returns-then-not-augment_once : goal.returns-then-not-augment_once
returns-then-not-augment_once c = record {
  sent = λ h. cc;
  stopped = λ _ net u. c.augment_once.ensures.stopped c.if-not-augment_once.true net (c.units.invariant.between_searches net u).ready;
}

pub returns : goal.returns
returns c =
    let f : SFits w32 c.index.result.now = search rules in
    let i = c.units.invariant in
    let at : c.index.result.now ≡ excess_at c.units.self c.args.root = get_or_read c.units.self.nodes.excess.items c.args.root c.index.result.now (omega (arith, i.size, c.requires.root)) c.index.ensures (pos 0) in
    record {
      sent = λ _ net u. record {
        between_searches = i.between_searches net u;
        here = subst (λ (z : ℤ). z ≤ℤ pos 0) at (is_no_more _ _ f c.units-test.false);
        done = i.done net u;
      };
      stopped = λ h. cc;
    }
