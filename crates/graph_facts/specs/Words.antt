-- The texts of conditions on the first broken rule, and of columns.
use Rattle.std.specs.Prelude.{◌≡◌, ◌⊎◌, ◌==◌, ℕ, All, Bool, count_by, true, false, if◌then◌else◌, List, Option, None, Some, codes, bytes_eq, fold}
use Rattle.std.specs.List.{slice_split}
use Rattle.embedding.specs.Words.{word_of}
use Rattle.graph_facts.specs.declared.selection.RuleCondition.{RuleCondition}
use Rattle.graph_facts.specs.declared.selection.RuleCondition.TheVariants.{BreaksNone, BreaksFirst}
use Rattle.graph_facts.specs.declared.table.Columns.{Columns}

-- the text of a condition on the first broken rule: 'none', or the word of a rule
abbrev pub IsRuleText : List ℕ → RuleCondition → Type 0
IsRuleText text BreaksNone = text ≡ codes "none"
IsRuleText text (BreaksFirst rule) = text ≡ word_of rule

-- no columns
abbrev pub no_columns : Columns
no_columns = record { vertices = false; edges = false; faces = false; bends = false; rule = false }

-- one more column, unless it is there
abbrev pub if_new : Bool → Columns → Option Columns
if_new asked columns = if asked then None else Some columns

-- the columns with one more, that with this name; none if it is one of them, or if no column has this name
abbrev pub with_name : Columns → List ℕ → Option Columns
with_name c name =
    if bytes_eq name (codes "n") then
    if_new c.vertices (record { vertices = true; edges = c.edges; faces = c.faces; bends = c.bends; rule = c.rule })
    else if bytes_eq name (codes "m") then
    if_new c.edges (record { vertices = c.vertices; edges = true; faces = c.faces; bends = c.bends; rule = c.rule })
    else if bytes_eq name (codes "f") then
    if_new c.faces (record { vertices = c.vertices; edges = c.edges; faces = true; bends = c.bends; rule = c.rule })
    else if bytes_eq name (codes "bends") then
    if_new c.bends (record { vertices = c.vertices; edges = c.edges; faces = c.faces; bends = true; rule = c.rule })
    else if bytes_eq name (codes "rule") then
    if_new c.rule (record { vertices = c.vertices; edges = c.edges; faces = c.faces; bends = c.bends; rule = true })
    else None

abbrev pub with_column : Option Columns → List ℕ → Option Columns
with_column None name = None
with_column (Some columns) name = with_name columns name

-- the names that a text lists, with commas between them
abbrev pub listed : List ℕ → List (List ℕ)
listed text = slice_split (λ byte. byte == 44) text

-- the columns whose names a text lists; none if a name is that of no column, or is listed twice
abbrev pub columns_in : List ℕ → Option Columns
columns_in text = fold with_column (Some no_columns) (listed text)

-- ---- what such a text says

-- the name of a column
abbrev pub IsColumnName : List ℕ → Type 0
IsColumnName name = (name ≡ codes "n") ⊎ ((name ≡ codes "m") ⊎ ((name ≡ codes "f") ⊎ ((name ≡ codes "bends") ⊎ (name ≡ codes "rule"))))

-- how many of the names are this one
abbrev pub times_listed : List ℕ → List (List ℕ) → ℕ
times_listed name names = count_by (λ each. bytes_eq each name) names

-- the name is listed once if its column is asked for, and otherwise not
abbrev pub IsListedIf : Bool → List ℕ → List (List ℕ) → Type 0
IsListedIf asked name names = times_listed name names ≡ (if asked then 1 else 0)

-- the names are those of the columns that are asked for, each once and in any order
pub record AreNamesOf (columns : Columns) (names : List (List ℕ)) : Type 0 where
  pub each : All IsColumnName names
  pub vertices : IsListedIf columns.vertices (codes "n") names
  pub edges : IsListedIf columns.edges (codes "m") names
  pub faces : IsListedIf columns.faces (codes "f") names
  pub bends : IsListedIf columns.bends (codes "bends") names
  pub rule : IsListedIf columns.rule (codes "rule") names
