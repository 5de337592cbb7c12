-- Each exit is fed as the steps say, and the other clauses follow from that.
use Rattle.std.proofs.Common.{rules, ◌≡◌, ◌++◌, option_to_list, append-nil, sym, ap, subst, ◌∙◌, arith, Ok, Err}
use Rattle.std.proofs.lemmas.Bool.{eqb-true}
use Rattle.std.proofs.lemmas.List.{take_rest}
use Rattle.planar_code.specs.Step.{FramerSteps, HasRead}
use Rattle.planar_code.specs.FramerState.{Feeds}
use Rattle.planar_code.specs.Framer.{framer_state_at}
use Rattle.planar_code.proofs.Feeding.{open-feeds, fault-feeds, memory-feeds, few-feeds}
use Rattle.planar_code.proofs.Reading.{has_read-none, has_read-more, feeds-failed, fed-ok, fed-err, fed-memory}
use Rattle.planar_code.proofs.framer.Framer.feed.Goals as goal
use Rattle.planar_code.proofs.framer.Framer.feed.Goals.{In-Failed, in-Some+else-is_err, in-None}

fed-in-Failed : (c : In-Failed) → Feeds c.args.self.now c.args.piece.now c.args.out.now.items c.args.out.now.items c.args.self.now (Err c.in-Failed.fault)
fed-in-Failed c =
    let f = c.self.inside in
    let state = sym (ap (λ s. framer_state_at s f.records f.current) c.in-Failed.is) ∙ c.self.view_is in
    subst (λ p. Feeds p c.args.piece.now c.args.out.now.items c.args.out.now.items p (Err c.in-Failed.fault)) state
    (feeds-failed c.in-Failed.fault c.args.piece.now c.args.out.now.items)

pub returns-in-Failed-clause-feeds : goal.returns-in-Failed-clause-feeds
returns-in-Failed-clause-feeds c = fed-in-Failed c

pub returns-in-Failed-clause-ok_where_more_may_come : goal.returns-in-Failed-clause-ok_where_more_may_come
returns-in-Failed-clause-ok_where_more_may_come c = open-feeds c.args.self.now c.args.self.now c.args.piece.now c.args.out.now.items c.args.out.now.items (Err c.in-Failed.fault) (fed-in-Failed c)

pub returns-in-Failed-clause-fault_of_ending : goal.returns-in-Failed-clause-fault_of_ending
returns-in-Failed-clause-fault_of_ending c = fault-feeds c.args.self.now c.args.self.now c.args.piece.now c.args.out.now.items c.args.out.now.items (Err c.in-Failed.fault) (fed-in-Failed c)

pub returns-in-Failed-clause-memory : goal.returns-in-Failed-clause-memory
returns-in-Failed-clause-memory c = memory-feeds c.args.self.now c.args.self.now c.args.piece.now c.args.out.now.items c.args.out.now.items (Err c.in-Failed.fault) (fed-in-Failed c)

pub returns-in-Failed-clause-few : goal.returns-in-Failed-clause-few
returns-in-Failed-clause-few c = few-feeds c.args.self.now c.args.self.now c.args.piece.now c.args.out.now.items c.args.out.now.items (Err c.in-Failed.fault) (fed-in-Failed c)

pub loop-text-init : goal.loop-text-init
loop-text-init c = has_read-none c.args.self.now c.args.piece.now c.args.out.now.items (search rules)

pub returns-in-Err-clause-feeds : goal.returns-in-Err-clause-feeds
returns-in-Err-clause-feeds c = fed-err _ _ _ _ _ _ c.loop-text.invariant c.step.new.self c.in-Err.fault c.in-Err.ensures

pub returns-in-Err-clause-ok_where_more_may_come : goal.returns-in-Err-clause-ok_where_more_may_come
returns-in-Err-clause-ok_where_more_may_come c = open-feeds _ _ _ _ _ _ (fed-err _ _ _ _ _ _ c.loop-text.invariant c.step.new.self c.in-Err.fault c.in-Err.ensures)

pub returns-in-Err-clause-fault_of_ending : goal.returns-in-Err-clause-fault_of_ending
returns-in-Err-clause-fault_of_ending c = fault-feeds _ _ _ _ _ _ (fed-err _ _ _ _ _ _ c.loop-text.invariant c.step.new.self c.in-Err.fault c.in-Err.ensures)

pub returns-in-Err-clause-memory : goal.returns-in-Err-clause-memory
returns-in-Err-clause-memory c = memory-feeds _ _ _ _ _ _ (fed-err _ _ _ _ _ _ c.loop-text.invariant c.step.new.self c.in-Err.fault c.in-Err.ensures)

pub returns-in-Err-clause-few : goal.returns-in-Err-clause-few
returns-in-Err-clause-few c = few-feeds _ _ _ _ _ _ (fed-err _ _ _ _ _ _ c.loop-text.invariant c.step.new.self c.in-Err.fault c.in-Err.ensures)

pub returns-then-is_err-clause-feeds : goal.returns-then-is_err-clause-feeds
returns-then-is_err-clause-feeds c =
    let step = subst (λ o. FramerSteps c.loop-text.self c.loop-text.text.now c.step.new.self (Ok (c.in-Ok.step.0, o))) c.in-Some.is c.in-Ok.ensures in
    let same : c.push.new.self.items ≡ c.loop-text.out.items = rw c.if-is_err.ensures.negation at c.push.ensures.items in
    fed-memory _ _ _ _ _ _ c.loop-text.invariant c.step.new.self c.in-Ok.step.0 c.in-Some.record c.push.new.self.items step same

pub returns-then-is_err-clause-ok_where_more_may_come : goal.returns-then-is_err-clause-ok_where_more_may_come
returns-then-is_err-clause-ok_where_more_may_come c =
    let step = subst (λ o. FramerSteps c.loop-text.self c.loop-text.text.now c.step.new.self (Ok (c.in-Ok.step.0, o))) c.in-Some.is c.in-Ok.ensures in
    let same : c.push.new.self.items ≡ c.loop-text.out.items = rw c.if-is_err.ensures.negation at c.push.ensures.items in
    open-feeds _ _ _ _ _ _ (fed-memory _ _ _ _ _ _ c.loop-text.invariant c.step.new.self c.in-Ok.step.0 c.in-Some.record c.push.new.self.items step same)

pub returns-then-is_err-clause-fault_of_ending : goal.returns-then-is_err-clause-fault_of_ending
returns-then-is_err-clause-fault_of_ending c =
    let step = subst (λ o. FramerSteps c.loop-text.self c.loop-text.text.now c.step.new.self (Ok (c.in-Ok.step.0, o))) c.in-Some.is c.in-Ok.ensures in
    let same : c.push.new.self.items ≡ c.loop-text.out.items = rw c.if-is_err.ensures.negation at c.push.ensures.items in
    fault-feeds _ _ _ _ _ _ (fed-memory _ _ _ _ _ _ c.loop-text.invariant c.step.new.self c.in-Ok.step.0 c.in-Some.record c.push.new.self.items step same)

pub returns-then-is_err-clause-memory : goal.returns-then-is_err-clause-memory
returns-then-is_err-clause-memory c =
    let step = subst (λ o. FramerSteps c.loop-text.self c.loop-text.text.now c.step.new.self (Ok (c.in-Ok.step.0, o))) c.in-Some.is c.in-Ok.ensures in
    let same : c.push.new.self.items ≡ c.loop-text.out.items = rw c.if-is_err.ensures.negation at c.push.ensures.items in
    memory-feeds _ _ _ _ _ _ (fed-memory _ _ _ _ _ _ c.loop-text.invariant c.step.new.self c.in-Ok.step.0 c.in-Some.record c.push.new.self.items step same)

pub returns-then-is_err-clause-few : goal.returns-then-is_err-clause-few
returns-then-is_err-clause-few c =
    let step = subst (λ o. FramerSteps c.loop-text.self c.loop-text.text.now c.step.new.self (Ok (c.in-Ok.step.0, o))) c.in-Some.is c.in-Ok.ensures in
    let same : c.push.new.self.items ≡ c.loop-text.out.items = rw c.if-is_err.ensures.negation at c.push.ensures.items in
    few-feeds _ _ _ _ _ _ (fed-memory _ _ _ _ _ _ c.loop-text.invariant c.step.new.self c.in-Ok.step.0 c.in-Some.record c.push.new.self.items step same)

pub loop-text-preserved : goal.loop-text-preserved
loop-text-preserved c =
    let appended : c.match-next.out.items ≡ c.loop-text.out.items ++ option_to_list c.in-Ok.step.1
    = elim c.match-next.branch [
      | in-Some+else-is_err w ↦ rw (w.out-is, w.in-Some.is) (rw w.if-is_err.ensures.negation at w.push.ensures.items)
      | in-None w ↦ rw (w.out-is, w.in-None.is) (sym (append-nil c.loop-text.out.items))
    ] in
    subst (λ z. HasRead c.args.self.now c.args.piece.now z c.args.out.now.items c.match-next.out.items c.step.new.self) (sym (take_rest c.loop-text.text.now c.in-Ok.step.0))
    (has_read-more c.args.self.now c.loop-text.self c.args.piece.now c.loop-text.text.now c.args.out.now.items c.loop-text.out.items c.loop-text.invariant c.step.new.self c.in-Ok.step.0 c.in-Ok.step.1 c.match-next.out.items c.in-Ok.ensures appended)

pub returns-clause-feeds : goal.returns-clause-feeds
returns-clause-feeds c = fed-ok _ _ _ _ _ _ c.loop-text.invariant tt (omega (arith, eqb-true _ _ (sym c.loop-text-test.ensures)))

pub returns-clause-ok_where_more_may_come : goal.returns-clause-ok_where_more_may_come
returns-clause-ok_where_more_may_come c = open-feeds _ _ _ _ _ _ (fed-ok _ _ _ _ _ _ c.loop-text.invariant tt (omega (arith, eqb-true _ _ (sym c.loop-text-test.ensures))))

pub returns-clause-fault_of_ending : goal.returns-clause-fault_of_ending
returns-clause-fault_of_ending c = fault-feeds _ _ _ _ _ _ (fed-ok _ _ _ _ _ _ c.loop-text.invariant tt (omega (arith, eqb-true _ _ (sym c.loop-text-test.ensures))))

pub returns-clause-memory : goal.returns-clause-memory
returns-clause-memory c = memory-feeds _ _ _ _ _ _ (fed-ok _ _ _ _ _ _ c.loop-text.invariant tt (omega (arith, eqb-true _ _ (sym c.loop-text-test.ensures))))

pub returns-clause-few : goal.returns-clause-few
returns-clause-few c = few-feeds _ _ _ _ _ _ (fed-ok _ _ _ _ _ _ c.loop-text.invariant tt (omega (arith, eqb-true _ _ (sym c.loop-text-test.ensures))))
