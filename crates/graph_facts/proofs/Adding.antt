-- One more graph in a table.
use Rattle.std.proofs.Common.{◌≡◌, ℕ, ◌+◌, ◌-◌, ◌^◌, ◌<◌, min, Bool, true, false, cond, List, [], ◌∷◌, ◌++◌, length, Option, Some, unwrap_or, BTreeMap, sym, refl, ap, ◌∙◌, subst, arith, count_by, length-append}
use Rattle.std.specs.BTreeMap.{IsOrdered, get}
use Rattle.std.specs.Cmp.{eq_by_cmp_equiv}
use Rattle.std.proofs.lemmas.List.Sums.{sum_by_push, count_by-le-length}
use Rattle.graph_facts.specs.declared.selection.Facts.{Facts}
use Rattle.graph_facts.specs.declared.table.Columns.{Columns}
use Rattle.graph_facts.specs.declared.table.Combination.{Combination}
use Rattle.graph_facts.specs.Combinations.{combination_of, compare, compare_total, is_same}
use Rattle.graph_facts.specs.Tables.{TableModel, IsTable, number_at, number_with}

-- a table with these rows
abbrev pub table_of : Columns → BTreeMap Combination ℕ → ℕ → TableModel
table_of columns rows total = record { columns = columns; rows = rows.entries; total = total }

-- the tests by two combinations that are the same are one test
same_tests : (c d : Combination) → is_same c d ≡ true → is_same c ≡ is_same d
same_tests c d same = λ i x. (eq_by_cmp_equiv compare_total).congr c d x same i

-- one more graph counts once for its own combination, and not for another one
number_more : (columns : Columns) (graphs : List Facts) (facts : Facts) (c : Combination)
    → number_with columns (graphs ++ facts ∷ []) c ≡ number_with columns graphs c + cond (is_same c (combination_of columns facts)) 1 0
number_more columns graphs facts c = sum_by_push (λ (f : Facts). cond (is_same c (combination_of columns f)) 1 0) graphs facts

module _ (columns : Columns) (old new : BTreeMap Combination ℕ) (total number sum : ℕ) (graphs : List Facts) (facts : Facts)
    (before : IsTable graphs (table_of columns old total)) (few : length graphs < 2 ^ 64 - 1)
    (number_is : number ≡ min (number_at old.entries (combination_of columns facts) + 1) (2 ^ 64 - 1))
    (updated : (q : Combination) → get compare new q ≡ cond (is_same (combination_of columns facts) q) (Some number) (get compare old q)) where
  -- it is not cut off
  exact : number ≡ number_with columns graphs (combination_of columns facts) + 1
  exact =
      let at = before.numbers (combination_of columns facts) in
      let bound = count_by-le-length (λ (f : Facts). is_same (combination_of columns facts) (combination_of columns f)) graphs in
      omega (arith, at, bound, number_is, few)

  new_number : (c : Combination) (b : Bool) → is_same (combination_of columns facts) c ≡ b
      → unwrap_or (cond b (Some number) (get compare old c)) 0 ≡ number_with columns graphs c + cond b 1 0
  new_number c true same =
      exact ∙ ap (λ (test : Combination → Bool). count_by (λ (f : Facts). test (combination_of columns f)) graphs + 1) (same_tests (combination_of columns facts) c same)
  new_number c false differs = let at = before.numbers c in omega (arith, at)

  new_occurs : (c : Combination) (b : Bool) → 0 < unwrap_or (cond b (Some number) (get compare old c)) 1
  new_occurs c true = omega (arith, exact)
  new_occurs c false = before.occurs c

  pub added : IsOrdered compare new → sum ≡ min (total + 1) (2 ^ 64 - 1) → IsTable (graphs ++ facts ∷ []) (table_of columns new sum)
  added ordered sum_is = record {
    ascending = ordered;
    numbers = λ c.
        let turned = (eq_by_cmp_equiv compare_total).symm (combination_of columns facts) c in
        ap (λ (o : Option ℕ). unwrap_or o 0) (updated c) ∙ new_number c (is_same (combination_of columns facts) c) refl
        ∙ ap (λ (b : Bool). number_with columns graphs c + cond b 1 0) turned ∙ sym (number_more columns graphs facts c);
    occurs = λ c. subst (λ (o : Option ℕ). 0 < unwrap_or o 1) (sym (updated c)) (new_occurs c (is_same (combination_of columns facts) c));
    total = let longer = length-append graphs (facts ∷ []) in let was = before.total in omega (arith, longer, was, sum_is, few);
  }

-- the same, where the key is called otherwise
pub added_at : (columns : Columns) (old new : BTreeMap Combination ℕ) (total number sum : ℕ) (graphs : List Facts) (facts : Facts) (k : Combination)
    → IsTable graphs (table_of columns old total) → length graphs < 2 ^ 64 - 1
    → k ≡ combination_of columns facts
    → number ≡ min (number_at old.entries k + 1) (2 ^ 64 - 1)
    → ((q : Combination) → get compare new q ≡ cond (is_same k q) (Some number) (get compare old q))
    → IsOrdered compare new → sum ≡ min (total + 1) (2 ^ 64 - 1) → IsTable (graphs ++ facts ∷ []) (table_of columns new sum)
added_at columns old new total number sum graphs facts k before few key_is number_is updated ordered sum_is =
    added columns old new total number sum graphs facts before few
    (subst (λ (key : Combination). number ≡ min (number_at old.entries key + 1) (2 ^ 64 - 1)) key_is number_is)
    (subst (λ (key : Combination). (q : Combination) → get compare new q ≡ cond (is_same key q) (Some number) (get compare old q)) key_is updated)
    ordered sum_is
