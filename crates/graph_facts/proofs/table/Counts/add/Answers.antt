use Rattle.std.proofs.Common.{◌≡◌, ◌+◌, ◌^◌, ◌-◌, min, ℕ, ap, ◌∙◌, subst, sym}
use Rattle.graph_facts.specs.Combinations.{combination_of}
use Rattle.graph_facts.specs.Tables.{TableModel, IsTable, number_at}
use Rattle.graph_facts.proofs.Adding.{table_of, added_at}
use Rattle.graph_facts.proofs.table.Counts.add.Goals as goal

pub returns-clause-table : goal.returns-clause-table
returns-clause-table c = λ graphs table few.
    let inside = c.self.inside in
    let view : c.args.self.now ≡ table_of inside.columns inside.rows inside.total = sym c.self.view_is in
    let k = c.combination_of-combination.result in
    let before : IsTable graphs (table_of inside.columns inside.rows inside.total) = subst (λ (t : TableModel). IsTable graphs t) view table in
    let key_is : k ≡ combination_of inside.columns c.args.facts.now =
    c.combination_of-combination.ensures in
    let number_is : c.saturating_add-number.result ≡ min (number_at inside.rows.entries k + 1) (2 ^ 64 - 1) =
    c.saturating_add-number.ensures ∙ ap (λ (n : ℕ). min (n + 1) (2 ^ 64 - 1)) (c.number_of.ensures ∙ ap (λ (t : TableModel). number_at t.rows k) view) in
    added_at inside.columns inside.rows c.insert.new.self inside.total c.saturating_add-number.result c.saturating_add-self-inside.result graphs c.args.facts.now k
    before few key_is number_is (λ q. c.in_ok-insert.ensures.updates.0 q) c.insert.ensures.ordered c.saturating_add-self-inside.ensures
