use Rattle.std.proofs.Common.{◌≡◌, ◌++◌, codes, decimal, ◌∙◌, append_assoc}
use Rattle.graph_facts.specs.Tables.{column_text, number_text, rule_text}
use Rattle.graph_facts.proofs.table.push_row.Goals as goal

pub returns : goal.returns
returns c =
    let columns = c.args.columns.now in
    let row = c.args.combination.now in
    let whole : c.push-2.new.self
    ≡ (((((((c.args.lines.now ++ column_text columns.vertices (codes "n=") (number_text row.vertices))
    ++ column_text columns.edges (codes "m=") (number_text row.edges))
    ++ column_text columns.faces (codes "f=") (number_text row.faces))
    ++ column_text columns.bends (codes "bends=") (number_text row.bends))
    ++ column_text columns.rule (codes "rule=") (rule_text row.rule))
    ++ codes "graphs=") ++ decimal c.args.number) ++ codes "\n" =
    cc (c.push_column.ensures.text, c.push_column-2.ensures.text, c.push_column-3.ensures.text, c.push_column-4.ensures.text, c.push_rule.ensures.text, c.push.ensures, c.push_number.ensures.text, c.push-2.ensures) in
    whole ∙ simp append_assoc
