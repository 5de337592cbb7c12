use Rattle.std.proofs.Common.{◌+◌, sym, subst, arith}
use Rattle.compact.specs.declared.axis.Relaxation.{Relaxation}
use Rattle.compact.specs.declared.axis.Relaxation.TheVariants.{Satisfied, Raised, Wide}
use Rattle.compact.proofs.Relaxing.{IsRelaxedUpTo, goes_on, ends_up, no_constraint}
use Rattle.compact.proofs.axis.relax_all.Goals as goal
use Rattle.compact.proofs.axis.relax_all.Goals.{in-Satisfied, in-Raised}

pub returns-in-Wide-clause-relaxed : goal.returns-in-Wide-clause-relaxed
returns-in-Wide-clause-relaxed c =
    (goes_on c.args.constraints.now c.loop-constraint.constraint-index no_constraint c.args.coordinates.now c.loop-constraint.coordinates c.relax.new.coordinates c.loop-constraint.found Wide c.loop-constraint-test.true c.requires.inside c.loop-constraint.invariant c.in-Wide.ensures.relaxed c.in-Wide.ensures.length).1

pub returns-in-Wide-clause-low : goal.returns-in-Wide-clause-low
returns-in-Wide-clause-low c =
    (goes_on c.args.constraints.now c.loop-constraint.constraint-index no_constraint c.args.coordinates.now c.loop-constraint.coordinates c.relax.new.coordinates c.loop-constraint.found Wide c.loop-constraint-test.true c.requires.inside c.loop-constraint.invariant c.in-Wide.ensures.relaxed c.in-Wide.ensures.length).0

pub loop-constraint-preserved : goal.loop-constraint-preserved
loop-constraint-preserved c =
    elim c.match-relax.branch [
      | in-Satisfied w ↦ subst (λ (found : Relaxation). IsRelaxedUpTo c.args.constraints.now (c.loop-constraint.constraint-index + 1) c.args.coordinates.now c.relax.new.coordinates found) (sym w.found-is)
          (goes_on c.args.constraints.now c.loop-constraint.constraint-index no_constraint c.args.coordinates.now c.loop-constraint.coordinates c.relax.new.coordinates c.loop-constraint.found Satisfied c.loop-constraint-test.true c.requires.inside c.loop-constraint.invariant w.in-Satisfied.ensures.relaxed w.in-Satisfied.ensures.length)
      | in-Raised w ↦ subst (λ (found : Relaxation). IsRelaxedUpTo c.args.constraints.now (c.loop-constraint.constraint-index + 1) c.args.coordinates.now c.relax.new.coordinates found) (sym w.found-is)
          (goes_on c.args.constraints.now c.loop-constraint.constraint-index no_constraint c.args.coordinates.now c.loop-constraint.coordinates c.relax.new.coordinates c.loop-constraint.found Raised c.loop-constraint-test.true c.requires.inside c.loop-constraint.invariant w.in-Raised.ensures.relaxed w.in-Raised.ensures.length)
    ]

pub returns-clause-relaxed : goal.returns-clause-relaxed
returns-clause-relaxed c = ends_up c.args.constraints.now c.loop-constraint.constraint-index c.args.coordinates.now c.loop-constraint.coordinates c.loop-constraint.found (omega (arith, c.loop-constraint-test.false)) c.loop-constraint.invariant
