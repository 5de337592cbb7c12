use Rattle.std.proofs.Common.{Some, lit<, refl, rules}
use Rattle.std.proofs.lemmas.Iterator.Consumers.{fold_from_yields_List}
use Rattle.std.proofs.lemmas.Iterator.Splits.{YieldsList-from_str_split}
use Rattle.graph_facts.specs.Words.{no_columns, with_column}
use Rattle.graph_facts.proofs.table.Columns.parse.Goals as goal

pub returns : goal.returns
returns c =
    fold_from_yields_List _ with_column (Some no_columns) c.fold.result c.fold.ensures.ran
    (YieldsList-from_str_split 44 c.args.text.now (lit< tt) c.split.ensures.text c.split.ensures.has_more c.split.ensures.pattern)
    (λ a x b q called. search rules)
