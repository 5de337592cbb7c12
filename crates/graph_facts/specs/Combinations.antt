-- Combinations of what graphs have in the columns of a table, and their order.
use Rattle.std.specs.Prelude.{ℕ, Bool, if◌then◌else◌, Option, None, Some, option_map}
use Rattle.std.specs.Cmp.{IsTotalOrder, on_total, then_total, nat_cmp_total}
use Rattle.std.specs.Cmp.Lexicographic.{options_total}
use Rattle.std.specs.declared.cmp.Ordering.{Ordering}
use Rattle.std.specs.Option.{option_cmp}
use Rattle.std.specs.Ordering.{nat_cmp, on, then_cmp, eq_by_cmp}
use Rattle.embedding.specs.Rules.{rule_number}
use Rattle.graph_facts.specs.declared.selection.Facts.{Facts}
use Rattle.graph_facts.specs.declared.table.Columns.{Columns}
use Rattle.graph_facts.specs.declared.table.Combination.{Combination}

-- what a graph has in a column, if the column is asked for
abbrev pub if_asked : {A : Type 0} → Bool → Option A → Option A
if_asked asked value = if asked then value else None

-- what a graph has in the columns
abbrev pub combination_of : Columns → Facts → Combination
combination_of columns facts = record {
  vertices = if_asked columns.vertices (Some facts.vertices);
  edges = if_asked columns.edges facts.edges;
  faces = if_asked columns.faces facts.faces;
  bends = if_asked columns.bends facts.bends;
  rule = if_asked columns.rule facts.rule;
}

-- the place of the rule in the order in which rules are tried
abbrev pub rule_place : Combination → Option ℕ
rule_place c = option_map rule_number c.rule

-- the order of a number that combinations may have; a combination without it comes first
abbrev pub by_number : (Combination → Option ℕ) → Combination → Combination → Ordering
by_number number = on number (option_cmp nat_cmp)

-- Combinations are ordered by vertices, then edges, faces, bends, and the first broken rule in the order in which rules
-- are tried.
abbrev pub compare : Combination → Combination → Ordering
compare =
    then_cmp
    (then_cmp
    (then_cmp
    (then_cmp (by_number (λ c. c.vertices)) (by_number (λ c. c.edges)))
    (by_number (λ c. c.faces)))
    (by_number (λ c. c.bends)))
    (by_number rule_place)

-- the combinations are the same: neither comes before the other
abbrev pub is_same : Combination → Combination → Bool
is_same c d = eq_by_cmp compare c d

-- ---- that it is an order

by_number_total : (number : Combination → Option ℕ) → IsTotalOrder (by_number number)
by_number_total number = on_total number (options_total nat_cmp_total)

pub compare_total : IsTotalOrder compare
compare_total =
    then_total
    (then_total
    (then_total
    (then_total (by_number_total (λ c. c.vertices)) (by_number_total (λ c. c.edges)))
    (by_number_total (λ c. c.faces)))
    (by_number_total (λ c. c.bends)))
    (by_number_total rule_place)
