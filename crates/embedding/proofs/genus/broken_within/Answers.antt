use Rattle.std.proofs.Common.{ℕ, List, ◌∙◌, subst}
use Rattle.std.specs.Prelude.{MatchOption}
use Rattle.embedding.specs.Rules.{FirstBroken, KeepsBefore}
use Rattle.embedding.proofs.genus.broken_within.Goals as goal

pub returns : goal.returns
returns g c =
    subst (λ (l : List (List ℕ)). MatchOption c.broken_by_lists.result (KeepsBefore l 9) (λ rule. FirstBroken l rule)) (c.new-lists.ensures ∙ c.write_lists-count.ensures.lists) c.broken_by_lists.ensures
