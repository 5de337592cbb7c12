use Rattle.std.proofs.Common.{ℕ, List, ◌∙◌, subst}
use Rattle.std.specs.Prelude.{OnOk}
use Rattle.embedding.specs.Rules.{KeepsBefore}
use Rattle.embedding.proofs.graphs.Graph.read_within.Goals as goal

pub returns-clause-rules : goal.returns-clause-rules
returns-clause-rules g c =
    subst (λ (l : List (List ℕ)). OnOk c.of.result (KeepsBefore l 8)) (c.new-lists.ensures ∙ c.write_lists-count.ensures.lists) c.of.ensures.rules
