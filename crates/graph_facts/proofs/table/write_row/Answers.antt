use Rattle.std.proofs.Common.{◌≡◌, ◌++◌, ◌∙◌, [], Err, ap, append-nil, false, true, if◌then◌else◌, rules, subst, sym}
use Rattle.std.proofs.lemmas.Result.{err_from_is_err_and}
use Rattle.streams.specs.declared.output.WriteFault.{WriteFault}
use Rattle.streams.specs.Sink.{IsInTransit}
use Rattle.streams.proofs.Sinks.{room_fails, line_waits}
use Rattle.graph_facts.specs.Tables.{asks_any, columns_text}
use Rattle.graph_facts.proofs.table.write_row.Goals as goal

pub returns-then-not-is_any : goal.returns-then-not-is_any
returns-then-not-is_any g c =
    let none : asks_any c.args.columns.now ≡ false = search rules in (
      c.requires,
      λ start text way.
          subst (IsInTransit start (g.S.Sink.taken c.args.sink.now) c.args.lines.now)
          (sym (append-nil text) ∙ ap (λ b. text ++ (if b then columns_text c.args.columns.now (c.args.combination.now, c.args.number) else [])) (sym none)) way,
    )

pub returns-in_err-make_room : goal.returns-in_err-make_room
returns-in_err-make_room g c =
    let p = err_from_is_err_and c.from_residual.result c.from_residual.ensures.1 in
    let is : c.from_residual.result ≡ Err c.in_err-make_room.field-0.0 =
    subst (λ (e : WriteFault). c.from_residual.result ≡ Err e) p.2 p.1 in
    room_fails _ _ _ _ _ _ _ _ c.in_err-make_room.ensures.writes is

pub returns : goal.returns
returns g c =
    let any : asks_any c.args.columns.now ≡ true = search rules in
    line_waits _ _ _ _ _ _ _ _ _ c.in_ok-make_room.ensures.writes
    (c.push_row.ensures ∙ ap (λ b. c.make_room.new.self ++ (if b then columns_text c.args.columns.now (c.args.combination.now, c.args.number) else [])) (sym any))
