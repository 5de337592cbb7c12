use Rattle.std.proofs.Common.{◌≡◌, ◌<◌, ◌-◌, ◌^◌, ◌++◌, Option, None, Some, length, rules, false, true, subst, sym}
use Rattle.std.specs.Prelude.{filter, option_to_list}
use Rattle.graph_facts.specs.declared.selection.Facts.{Facts}
use Rattle.graph_facts.specs.Conditions.{chooses}
use Rattle.graph_facts.specs.Tables.{IsTable}
use Rattle.collector.proofs.CountedGraphs.{table_none, table_other, table_more}
use Rattle.collector.proofs.counting.count_chosen.Goals as goal

pub returns-in_default-clause-table : goal.returns-in_default-clause-table
returns-in_default-clause-table c = λ graphs is.
    let none : c.args.facts.now ≡ None = search rules in
    subst (λ (f : Option Facts). IsTable (graphs ++ filter (chooses c.args.selection.now) (option_to_list f)) c.args.counts.now) (sym none)
    (table_none c.args.selection.now graphs c.args.counts.now is)

pub returns-then-not-chooses-clause-table : goal.returns-then-not-chooses-clause-table
returns-then-not-chooses-clause-table c = λ graphs is.
    let some : c.args.facts.now ≡ Some c.in-Some.facts = search rules in
    let not_chosen : chooses c.args.selection.now c.in-Some.facts ≡ false = search rules in
    subst (λ (f : Option Facts). IsTable (graphs ++ filter (chooses c.args.selection.now) (option_to_list f)) c.args.counts.now) (sym some)
    (table_other c.args.selection.now c.in-Some.facts graphs c.args.counts.now not_chosen is)

pub returns-in-Ok-clause-table : goal.returns-in-Ok-clause-table
returns-in-Ok-clause-table c = λ graphs is.
    let some : c.args.facts.now ≡ Some c.in-Some.facts = search rules in
    let chosen : chooses c.args.selection.now c.in-Some.facts ≡ true = search rules in
    let few : length graphs < 2 ^ 64 - 1 = search rules in
    subst (λ (f : Option Facts). IsTable (graphs ++ filter (chooses c.args.selection.now) (option_to_list f)) c.add.new.self) (sym some)
    (table_more c.args.selection.now c.in-Some.facts graphs c.add.new.self chosen (c.in-Ok.ensures.table graphs is few))
