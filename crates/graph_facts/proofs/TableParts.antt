-- The text of a table in parts.
use Rattle.std.proofs.Common.{◌≡◌, ℕ, List, [], ◌∷◌, ◌++◌, sym, ap, ◌∙◌, append_assoc, append-nil}
use Rattle.std.specs.List.{flat_map}
use Rattle.std.proofs.lemmas.List.Concat.{flat_map-append}
use Rattle.graph_facts.specs.declared.table.Columns.{Columns}
use Rattle.graph_facts.specs.declared.table.Combination.{Combination}
use Rattle.graph_facts.specs.Tables.{TableModel, row_text, table_text, total_text}

-- one more row
pub rows_next : (rows done rest next : List (Combination × ℕ)) (row : Combination × ℕ) → rows ≡ done ++ rest → rest ≡ row ∷ next → rows ≡ (done ++ row ∷ []) ++ next
rows_next rows done rest next row parted step = parted ∙ ap (λ (l : List (Combination × ℕ)). done ++ l) step ∙ sym (append_assoc done (row ∷ []) next)

-- its line after those of the rows before it
pub lines_next : (columns : Columns) (done : List (Combination × ℕ)) (row : Combination × ℕ)
    → flat_map (row_text columns) done ++ row_text columns row ≡ flat_map (row_text columns) (done ++ row ∷ [])
lines_next columns done row =
    sym (flat_map-append (row_text columns) done (row ∷ []) ∙ ap (λ (l : List ℕ). flat_map (row_text columns) done ++ l) (append-nil (row_text columns row)))

module _ (columns : Columns) (table : TableModel) (same : columns ≡ table.columns) where
  by_columns : table_text table ≡ flat_map (row_text columns) table.rows ++ total_text table.total
  by_columns = ap (λ (cs : Columns). flat_map (row_text cs) table.rows ++ total_text table.total) (sym same)

  -- the lines of some rows, that of the next one, and what follows
  pub text_at : (done rest next : List (Combination × ℕ)) (row : Combination × ℕ) → table.rows ≡ done ++ rest → rest ≡ row ∷ next
      → table_text table ≡ (flat_map (row_text columns) done ++ row_text columns row) ++ (flat_map (row_text columns) next ++ total_text table.total)
  text_at done rest next row parted step =
      let f = row_text columns in
      let rows : flat_map f table.rows ≡ (flat_map f done ++ f row) ++ flat_map f next =
      ap (flat_map f) (rows_next table.rows done rest next row parted step) ∙ flat_map-append f (done ++ row ∷ []) next
      ∙ ap (λ (l : List ℕ). l ++ flat_map f next) (sym (lines_next columns done row)) in
      by_columns ∙ ap (λ (l : List ℕ). l ++ total_text table.total) rows ∙ append_assoc (flat_map f done ++ f row) (flat_map f next) (total_text table.total)

  -- the lines of all rows, and the last line
  pub text_end : (done rest : List (Combination × ℕ)) (total : ℕ) → table.rows ≡ done ++ rest → rest ≡ [] → total ≡ table.total
      → table_text table ≡ flat_map (row_text columns) done ++ total_text total
  text_end done rest total parted none total_is =
      let rows : table.rows ≡ done = parted ∙ ap (λ (l : List (Combination × ℕ)). done ++ l) none ∙ append-nil done in
      by_columns ∙ ap (λ (rs : List (Combination × ℕ)). flat_map (row_text columns) rs ++ total_text table.total) rows
      ∙ ap (λ (n : ℕ). flat_map (row_text columns) done ++ total_text n) (sym total_is)
