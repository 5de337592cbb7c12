use Rattle.commands.proofs.FaultStatus.{ends_else}
use Rattle.std.proofs.Common.{rules, subst, vec_len}
use Rattle.commands.specs.Statuses.{IsRefusable}
use Rattle.commands.proofs.Refusing.{is_misuse, not_done, pick_refused_for, refused_for}
use Rattle.commands.proofs.program.perform.Goals as goal
use Rattle.commands.proofs.program.perform.Goals.{in-Frames, in-Layout, in-Check, in-Pick, in-Count}

pub returns-in-Err-clause-done : goal.returns-in-Err-clause-done
returns-in-Err-clause-done g c = λ either. absurd (ends_else _ _ c.end_by.ensures.refused c.end_by.ensures.failed either)

pub returns-in-Err-clause-begun : goal.returns-in-Err-clause-begun
returns-in-Err-clause-begun g c = λ one. elim c.match-request.branch [
  | in-Frames w ↦ search rules
  | in-Layout w ↦ search rules
  | in-Check w ↦ search rules
  | in-Pick w ↦ search rules
  | in-Count w ↦ search rules
]

pub returns-in-Ok-clause-too_much : goal.returns-in-Ok-clause-too_much
returns-in-Ok-clause-too_much g c = λ refusable.
    let terminal = g.C.Console.has_terminal c.args.console.now in elim c.match-request.branch [
      | in-Frames w ↦ search rules
      | in-Layout w ↦ not_done c.in-Ok.status c.match-request.outcome w.layout-outcome.result c.in-Ok.is w.outcome-is (
          refused_for (vec_len w.in-Layout.asked.run.names) w.in-Layout.asked.run.lanes w.layout-outcome.result (subst (IsRefusable terminal) w.in-Layout.is refusable)
          w.layout-outcome.ensures.too_many w.layout-outcome.ensures.bad_lanes)
      | in-Check w ↦ search rules
      | in-Pick w ↦ not_done c.in-Ok.status c.match-request.outcome w.pick-outcome.result c.in-Ok.is w.outcome-is (
          pick_refused_for terminal (vec_len w.in-Pick.asked.run.names) w.in-Pick.asked.run.lanes w.pick-outcome.result (subst (IsRefusable terminal) w.in-Pick.is refusable)
          w.pick-outcome.ensures.for_terminal w.pick-outcome.ensures.too_many w.pick-outcome.ensures.bad_lanes)
      | in-Count w ↦ not_done c.in-Ok.status c.match-request.outcome w.count-outcome.result c.in-Ok.is w.outcome-is (
          refused_for (vec_len w.in-Count.asked.run.names) w.in-Count.asked.run.lanes w.count-outcome.result (subst (IsRefusable terminal) w.in-Count.is refusable)
          w.count-outcome.ensures.too_many w.count-outcome.ensures.bad_lanes)
    ]

pub returns-in-Err-clause-too_much : goal.returns-in-Err-clause-too_much
returns-in-Err-clause-too_much g c = λ refusable.
    let terminal = g.C.Console.has_terminal c.args.console.now in c.end_by.ensures.refused (elim c.match-request.branch [
      | in-Frames w ↦ search rules
      | in-Layout w ↦ is_misuse c.in-Err.fault c.match-request.outcome w.layout-outcome.result c.in-Err.is w.outcome-is (
          refused_for (vec_len w.in-Layout.asked.run.names) w.in-Layout.asked.run.lanes w.layout-outcome.result (subst (IsRefusable terminal) w.in-Layout.is refusable)
          w.layout-outcome.ensures.too_many w.layout-outcome.ensures.bad_lanes)
      | in-Check w ↦ search rules
      | in-Pick w ↦ is_misuse c.in-Err.fault c.match-request.outcome w.pick-outcome.result c.in-Err.is w.outcome-is (
          pick_refused_for terminal (vec_len w.in-Pick.asked.run.names) w.in-Pick.asked.run.lanes w.pick-outcome.result (subst (IsRefusable terminal) w.in-Pick.is refusable)
          w.pick-outcome.ensures.for_terminal w.pick-outcome.ensures.too_many w.pick-outcome.ensures.bad_lanes)
      | in-Count w ↦ is_misuse c.in-Err.fault c.match-request.outcome w.count-outcome.result c.in-Err.is w.outcome-is (
          refused_for (vec_len w.in-Count.asked.run.names) w.in-Count.asked.run.lanes w.count-outcome.result (subst (IsRefusable terminal) w.in-Count.is refusable)
          w.count-outcome.ensures.too_many w.count-outcome.ensures.bad_lanes)
    ])
