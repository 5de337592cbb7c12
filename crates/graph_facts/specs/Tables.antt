-- The table of how many graphs have each combination, and its text.
use Rattle.std.specs.Prelude.{◌≡◌, ◌<◌, ◌||◌, ℕ, Bool, List, [], ◌++◌, length, if◌then◌else◌, Option, None, Some, unwrap_or, codes, decimal, count_by}
use Rattle.std.specs.List.{flat_map}
use Rattle.std.specs.List.Sorted.{IsStrictlySortedBy}
use Rattle.std.specs.Map.{keys_of, lookup}
use Rattle.embedding.specs.declared.breaks.Rule.{Rule}
use Rattle.embedding.specs.Words as rules
use Rattle.graph_facts.specs.declared.selection.Facts.{Facts}
use Rattle.graph_facts.specs.declared.table.Columns.{Columns}
use Rattle.graph_facts.specs.declared.table.Combination.{Combination}
use Rattle.graph_facts.specs.Combinations.{combination_of, compare, is_same}

-- the model of a table: its columns, a row for each combination with its number of graphs, and the number of all graphs
pub record TableModel : Type 0 where
  pub columns : Columns
  pub rows : List (Combination × ℕ)
  pub total : ℕ

-- the number of graphs in the row of a combination; 0 if it has no row
abbrev pub number_at : List (Combination × ℕ) → Combination → ℕ
number_at rows c = unwrap_or (lookup (is_same c) rows) 0

-- how many of the graphs with these facts have the combination
abbrev pub number_with : Columns → List Facts → Combination → ℕ
number_with columns graphs c = count_by (λ facts. is_same c (combination_of columns facts)) graphs

-- the table of the graphs with these facts
pub record IsTable (graphs : List Facts) (table : TableModel) : Type 0 where
  -- each combination has at most one row, and the rows ascend
  pub ascending : IsStrictlySortedBy compare (keys_of table.rows)
  -- the number of each combination is right
  pub numbers : (c : Combination) → number_at table.rows c ≡ number_with table.columns graphs c
  -- no row has the number 0
  pub occurs : (c : Combination) → 0 < unwrap_or (lookup (is_same c) table.rows) 1
  pub total : table.total ≡ length graphs

-- ---- its text

-- a number; '-' if there is none
abbrev pub number_text : Option ℕ → List ℕ
number_text None = codes "-"
number_text (Some n) = decimal n

-- the word of the rule; 'none' if no rule is broken
abbrev pub rule_text : Option Rule → List ℕ
rule_text None = codes "none"
rule_text (Some rule) = rules.word_of rule

-- a column with this name and value, and a space after it, if the column is asked for
abbrev pub column_text : Bool → List ℕ → List ℕ → List ℕ
column_text asked name value = if asked then name ++ (value ++ codes " ") else []

-- some column is asked for
abbrev pub asks_any : Columns → Bool
asks_any columns = columns.vertices || (columns.edges || (columns.faces || (columns.bends || columns.rule)))

-- the columns that are asked for, and the number of graphs
abbrev pub columns_text : Columns → Combination × ℕ → List ℕ
columns_text columns row =
    column_text columns.vertices (codes "n=") (number_text row.0.vertices)
    ++ column_text columns.edges (codes "m=") (number_text row.0.edges)
    ++ column_text columns.faces (codes "f=") (number_text row.0.faces)
    ++ column_text columns.bends (codes "bends=") (number_text row.0.bends)
    ++ column_text columns.rule (codes "rule=") (rule_text row.0.rule)
    ++ codes "graphs=" ++ decimal row.1 ++ codes "\n"

-- the line of a combination; there is none if no column is asked for
abbrev pub row_text : Columns → Combination × ℕ → List ℕ
row_text columns row = if asks_any columns then columns_text columns row else []

-- the last line: the number of all graphs
abbrev pub total_text : ℕ → List ℕ
total_text total = codes "total graphs=" ++ decimal total ++ codes "\n"

-- a line for each row, and the last line
abbrev pub table_text : TableModel → List ℕ
table_text table = flat_map (row_text table.columns) table.rows ++ total_text table.total
