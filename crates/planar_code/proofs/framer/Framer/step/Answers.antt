-- Each exit is one lemma on places.
use Rattle.std.proofs.Common.{◌+◌, ◌≤◌, length, Ok, Err, None, Some, sym, subst, arith}
use Rattle.planar_code.specs.declared.TheConstants.{MAX_RECORDS}
use Rattle.planar_code.specs.declared.framer.Phase.TheVariants as phase
use Rattle.planar_code.specs.declared.partial_record.FeedFault.TheVariants as fault
use Rattle.planar_code.specs.FramerState.{After}
use Rattle.planar_code.specs.Framer.{framer_state_at, IsBefore}
use Rattle.planar_code.specs.Scan.{TakesFrom}
use Rattle.planar_code.specs.Step.{FramerSteps}
use Rattle.planar_code.proofs.Stepping.{step-early, step-with_header, step-many, step-whole, step-more, step-fault, at-records, at-header}
use Rattle.planar_code.proofs.framer.Framer.step.Goals as goal
use Rattle.planar_code.proofs.framer.Framer.step.Goals.{then-passed-eq15, else-passed-eq15}

pub returns-then-self-eq-MAX_RECORDS : goal.returns-then-self-eq-MAX_RECORDS
returns-then-self-eq-MAX_RECORDS c =
    let f = c.self.inside in
    at-records f.phase f.records f.records f.current f.current c.args.text.now c.args.self.now (Err fault.Many) c.in-Records.is c.self.view_is
    (step-many f.records f.current c.args.text.now (After f.records f.current) c.if-self-eq-MAX_RECORDS.true c.requires.some)

pub returns-after-passed-eq15 : goal.returns-after-passed-eq15
returns-after-passed-eq15 c =
    let f = c.self.inside in
    let before : IsBefore (phase.Header c.in-Header.passed) f.records f.current
    = subst (λ s. IsBefore s f.records f.current) c.in-Header.is c.self.invariant in
    elim c.if-passed-eq15.branch [
      | then-passed-eq15 w ↦
          subst (λ s. FramerSteps c.args.self.now c.args.text.now (framer_state_at s f.records f.current) (Ok (1, None))) (sym w.self-is)
          (at-header f.phase c.in-Header.passed f.records f.current c.args.text.now c.args.self.now (framer_state_at phase.Records f.records f.current) (Ok (1, None)) c.in-Header.is c.self.view_is
          (step-with_header c.in-Header.passed f.records f.current c.args.text.now before c.requires.some w.if-passed-eq15.true c.if-text-passed.false))
      | else-passed-eq15 w ↦
          subst (λ s. FramerSteps c.args.self.now c.args.text.now (framer_state_at s f.records f.current) (Ok (1, None))) (sym w.self-is)
          (at-header f.phase c.in-Header.passed f.records f.current c.args.text.now c.args.self.now (framer_state_at (phase.Header (c.in-Header.passed + 1)) f.records f.current) (Ok (1, None)) c.in-Header.is c.self.view_is
          (step-early c.in-Header.passed f.records f.current c.args.text.now before c.requires.some w.if-passed-eq15.false c.if-text-passed.false))
    ]

pub returns-in-Ok-Some : goal.returns-in-Ok-Some
returns-in-Ok-Some c =
    let f = c.self.inside in
    let few : f.records ≤ MAX_RECORDS = subst (λ s. IsBefore s f.records f.current) c.in-Records.is c.self.invariant in
    at-records f.phase f.records (f.records + 1) f.current c.read.new.self c.args.text.now c.args.self.now (Ok (c.in-Ok-Some.end, Some c.in-Ok-Some.record)) c.in-Records.is c.self.view_is
    (step-whole f.records f.current c.args.text.now _ c.in-Ok-Some.record c.in-Ok-Some.end (omega (arith, c.if-self-eq-MAX_RECORDS.false))
    (subst (λ o. TakesFrom f.current c.args.text.now c.read.new.self (Ok o)) c.in-Ok-Some.field-0-is c.in-Ok-Some.ensures))

pub returns-in-Ok-None : goal.returns-in-Ok-None
returns-in-Ok-None c =
    let f = c.self.inside in
    let few : f.records ≤ MAX_RECORDS = subst (λ s. IsBefore s f.records f.current) c.in-Records.is c.self.invariant in
    at-records f.phase f.records f.records f.current c.read.new.self c.args.text.now c.args.self.now (Ok (length c.args.text.now, None)) c.in-Records.is c.self.view_is
    (step-more f.records f.current c.args.text.now _ (omega (arith, c.if-self-eq-MAX_RECORDS.false)) c.requires.some
    (subst (λ o. TakesFrom f.current c.args.text.now c.read.new.self (Ok o)) c.in-Ok-None.field-0-is c.in-Ok-None.ensures))

pub returns-in-Err : goal.returns-in-Err
returns-in-Err c =
    let f = c.self.inside in
    let few : f.records ≤ MAX_RECORDS = subst (λ s. IsBefore s f.records f.current) c.in-Records.is c.self.invariant in
    at-records f.phase f.records f.records f.current c.read.new.self c.args.text.now c.args.self.now (Err c.in-Err.fault) c.in-Records.is c.self.view_is
    (step-fault f.records f.current c.args.text.now c.read.new.self (After f.records c.read.new.self) c.in-Err.fault (omega (arith, c.if-self-eq-MAX_RECORDS.false)) c.in-Err.ensures)
