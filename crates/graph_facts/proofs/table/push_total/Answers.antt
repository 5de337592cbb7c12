use Rattle.std.proofs.Common.{◌≡◌, ◌++◌, codes, decimal, ◌∙◌, append_assoc}
use Rattle.graph_facts.proofs.table.push_total.Goals as goal

pub returns : goal.returns
returns c =
    let whole : c.push-2.new.self ≡ ((c.args.lines.now ++ codes "total graphs=") ++ decimal c.args.total) ++ codes "\n" = cc in
    whole ∙ simp append_assoc
