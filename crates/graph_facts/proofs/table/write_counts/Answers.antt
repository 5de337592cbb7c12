use Rattle.std.proofs.Common.{◌≡◌, ◌++◌, ℕ, List, [], ◌∷◌, Err, subst, sym, ◌∙◌, append-nil}
use Rattle.std.specs.List.{flat_map}
use Rattle.std.proofs.lemmas.Result.{err_from_is_err_and}
use Rattle.streams.specs.declared.output.WriteFault.{WriteFault}
use Rattle.streams.specs.Sink.{IsInTransit}
use Rattle.streams.proofs.Sinks.{added_none, line_fails, flushed_whole}
use Rattle.graph_facts.specs.declared.table.Combination.{Combination}
use Rattle.graph_facts.specs.Tables.{row_text, table_text, total_text}
use Rattle.graph_facts.proofs.TableParts.{rows_next, lines_next, text_at, text_end}
use Rattle.graph_facts.proofs.table.write_counts.Goals as goal

pub loop-combination-init : goal.loop-combination-init
loop-combination-init g c = record {
  whole = c.requires;
  in_transit = (
    [],
    sym c.rows.ensures ∙ sym c.iter-combination-items.ensures.rest ∙ sym c.into_iter-combination-iterator.ensures.into_iter_gives,
    record { sent = []; split = sym c.new-lines.ensures; added = added_none _ },
  );
}

pub loop-combination-preserved : goal.loop-combination-preserved
loop-combination-preserved g c =
    let before = c.loop-combination.invariant.in_transit in
    let row : Combination × ℕ = (c.in-Some.combination.now, c.in-Some.number.now) in
    let step : c.loop-combination.combination-iterator ≡ row ∷ c.next.new.self = c.in-Some.ensures.steps in
    record {
      whole = c.in_ok-write_row.ensures.0;
      in_transit = (
        before.0 ++ row ∷ [],
        rows_next c.args.counts.now.rows before.0 c.loop-combination.combination-iterator c.next.new.self row before.1 step,
        subst (λ (text : List ℕ). IsInTransit (g.S.Sink.taken c.args.sink.now) (g.S.Sink.taken c.write_row.new.sink) c.write_row.new.lines text)
            (lines_next c.columns-columns.result before.0 row)
            (c.in_ok-write_row.ensures.1 _ _ before.2),
      );
    }

pub returns-in_err-write_row : goal.returns-in_err-write_row
returns-in_err-write_row g c =
    let p = err_from_is_err_and c.from_residual.result c.from_residual.ensures.1 in
    let is : c.from_residual.result ≡ Err c.in_err-write_row.field-0.0 =
    subst (λ (e : WriteFault). c.from_residual.result ≡ Err e) p.2 p.1 in
    let before = c.loop-combination.invariant.in_transit in
    let row : Combination × ℕ = (c.in-Some.combination.now, c.in-Some.number.now) in
    let step : c.loop-combination.combination-iterator ≡ row ∷ c.next.new.self = c.in-Some.ensures.steps in
    let columns = c.columns-columns.result in
    line_fails _ _ _ _ c.write_row.new.lines _ (flat_map (row_text columns) before.0) (row_text columns row)
    (flat_map (row_text columns) c.next.new.self ++ total_text c.args.counts.now.total) (table_text c.args.counts.now) _ _
    before.2 c.in_err-write_row.ensures
    (text_at columns c.args.counts.now c.columns-columns.ensures before.0 c.loop-combination.combination-iterator c.next.new.self row before.1 step) is

pub returns-in_err-write_total : goal.returns-in_err-write_total
returns-in_err-write_total g c =
    let p = err_from_is_err_and c.from_residual-in_err-write_total.result c.from_residual-in_err-write_total.ensures.1 in
    let is : c.from_residual-in_err-write_total.result ≡ Err c.in_err-write_total.field-0.0 =
    subst (λ (e : WriteFault). c.from_residual-in_err-write_total.result ≡ Err e) p.2 p.1 in
    let before = c.loop-combination.invariant.in_transit in
    let columns = c.columns-columns.result in
    let none : c.loop-combination.combination-iterator ≡ [] = c.in-None.ensures.steps.0 in
    line_fails _ _ _ _ c.write_total.new.lines _ (flat_map (row_text columns) before.0) (total_text c.total.result)
    [] (table_text c.args.counts.now) _ _
    before.2 c.in_err-write_total.ensures
    (text_end columns c.args.counts.now c.columns-columns.ensures before.0 c.loop-combination.combination-iterator c.total.result before.1 none c.total.ensures ∙ sym (append-nil _)) is

pub returns : goal.returns
returns g c =
    let before = c.loop-combination.invariant.in_transit in
    let columns = c.columns-columns.result in
    let none : c.loop-combination.combination-iterator ≡ [] = c.in-None.ensures.steps.0 in
    flushed_whole _ _ _ _ _ (table_text c.args.counts.now) _
    (subst (λ (text : List ℕ). IsInTransit (g.S.Sink.taken c.args.sink.now) (g.S.Sink.taken c.write_total.new.sink) c.write_total.new.lines text)
    (sym (text_end columns c.args.counts.now c.columns-columns.ensures before.0 c.loop-combination.combination-iterator c.total.result before.1 none c.total.ensures))
    (c.in_ok-write_total.ensures.1 _ _ before.2))
    c.flush.ensures.writes
