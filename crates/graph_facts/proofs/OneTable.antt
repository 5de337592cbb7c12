-- Graphs have one table in given columns, in whatever order they come.
use Rattle.std.proofs.Common.{◌≡◌, ℕ, ◌<◌, ◌==◌, Bool, true, false, cond, List, [], ◌∷◌, Option, None, Some, unwrap_or, option_map, sym, refl, ap, ◌∙◌, subst, arith}
use Rattle.std.specs.declared.cmp.Ordering.{Ordering}
use Rattle.std.specs.declared.cmp.Ordering.TheVariants.{Less, Equal, Greater}
use Rattle.std.specs.Cmp.{eq_by_cmp_equiv}
use Rattle.std.specs.Option.{option_cmp}
use Rattle.std.specs.Ordering.{is_eq, nat_cmp, ordering_reverse, ordering_then}
use Rattle.std.specs.List.Sorted.{IsPermutation, IsStrictlySortedBy}
use Rattle.std.specs.Map.{keys_of, lookup}
use Rattle.std.proofs.lemmas.List.Sorted.{sum_by-IsPermutation, length_permutation}
use Rattle.std.proofs.lemmas.Map.{lookup-none}
use Rattle.std.proofs.lemmas.Map.Entries.{lookup_head, lookup_tail, none_past_head, none_below_head}
use Rattle.std.proofs.lemmas.Map.Keys.{IsDistinct-from_sorted, sorted_tail}
use Rattle.std.proofs.lemmas.Map.Lookups.{exact_unsigned}
use Rattle.embedding.specs.declared.breaks.Rule.{Rule}
use Rattle.embedding.specs.declared.breaks.Rule.TheVariants as rule
use Rattle.embedding.specs.Rules.{rule_number}
use Rattle.graph_facts.specs.declared.selection.Facts.{Facts}
use Rattle.graph_facts.specs.declared.table.Columns.{Columns}
use Rattle.graph_facts.specs.declared.table.Combination.{Combination}
use Rattle.graph_facts.specs.Combinations.{combination_of, compare, compare_total, is_same, rule_place}
use Rattle.graph_facts.specs.Tables.{IsTable, TableModel, number_with}

-- ---- the same combination

then_equal : (a b : Ordering) → ordering_then a b ≡ Equal → (a ≡ Equal) × (b ≡ Equal)
then_equal Less b h = absurd (cc)
then_equal Equal b h = (refl, h)
then_equal Greater b h = absurd (cc)

number_equal : (p q : Option ℕ) → option_cmp nat_cmp p q ≡ Equal → p ≡ q
number_equal None None h = refl
number_equal None (Some y) h = absurd (cc)
number_equal (Some x) None h = absurd (cc)
number_equal (Some x) (Some y) h = ap Some (exact_unsigned x y h)

-- the rule at a place
rule_at : Option ℕ → Option Rule
rule_at None = None
rule_at (Some n) =
    cond (n == 1) (Some rule.Range) (cond (n == 2) (Some rule.Loop) (cond (n == 3) (Some rule.Multi) (cond (n == 4) (Some rule.Asymmetric)
    (cond (n == 5) (Some rule.Edgeless) (cond (n == 6) (Some rule.Degree) (cond (n == 7) (Some rule.Disconnected) (Some rule.Genus)))))))

rule_back : (r : Option Rule) → rule_at (option_map rule_number r) ≡ r
unfolding rule_at
rule_back None = refl
rule_back (Some rule.Range) = refl
rule_back (Some rule.Loop) = refl
rule_back (Some rule.Multi) = refl
rule_back (Some rule.Asymmetric) = refl
rule_back (Some rule.Edgeless) = refl
rule_back (Some rule.Degree) = refl
rule_back (Some rule.Disconnected) = refl
rule_back (Some rule.Genus) = refl

compare_equal : (c d : Combination) → compare c d ≡ Equal → c ≡ d
compare_equal c d h =
    let by_rule = then_equal _ _ h in
    let by_bends = then_equal _ _ by_rule.0 in
    let by_faces = then_equal _ _ by_bends.0 in
    let by_edges = then_equal _ _ by_faces.0 in
    let vertices : c.vertices ≡ d.vertices = number_equal c.vertices d.vertices by_edges.0 in
    let edges : c.edges ≡ d.edges = number_equal c.edges d.edges by_edges.1 in
    let faces : c.faces ≡ d.faces = number_equal c.faces d.faces by_faces.1 in
    let bends : c.bends ≡ d.bends = number_equal c.bends d.bends by_bends.1 in
    let place : rule_place c ≡ rule_place d = number_equal (rule_place c) (rule_place d) by_rule.1 in
    let rule : c.rule ≡ d.rule = sym (rule_back c.rule) ∙ ap rule_at place ∙ rule_back d.rule in
    λ i. record { vertices = vertices i; edges = edges i; faces = faces i; bends = bends i; rule = rule i }

is_equal : (o : Ordering) → is_eq o ≡ true → o ≡ Equal
is_equal Less h = absurd (cc)
is_equal Equal h = refl
is_equal Greater h = absurd (cc)

pub same_is_equal : (c d : Combination) → is_same c d ≡ true → c ≡ d
same_is_equal c d h = compare_equal c d (is_equal (compare c d) h)

-- ---- rows with the same numbers

laws-refl : (c : Combination) → is_same c c ≡ true
laws-refl c = (eq_by_cmp_equiv compare_total).refl c

-- what no key passes is not found
below_none : (c : Combination) (e : Combination × ℕ) (es : List (Combination × ℕ)) → IsStrictlySortedBy compare (keys_of (e ∷ es)) → compare c e.0 ≡ Less → lookup (is_same c) (e ∷ es) ≡ None
below_none c e es sorted less = lookup-none (is_same c) (e ∷ es) (none_below_head compare_total c e es sorted less)

past_none : (c : Combination) (e : Combination × ℕ) (es : List (Combination × ℕ)) → IsStrictlySortedBy compare (keys_of (e ∷ es)) → is_same c e.0 ≡ true → lookup (is_same c) es ≡ None
past_none c e es sorted same =
    lookup-none (is_same c) es (none_past_head (eq_by_cmp_equiv compare_total) c e es (IsDistinct-from_sorted compare (keys_of (e ∷ es)) sorted) same)

same_rows : (rows others : List (Combination × ℕ)) → IsStrictlySortedBy compare (keys_of rows) → IsStrictlySortedBy compare (keys_of others)
    → ((c : Combination) → lookup (is_same c) rows ≡ lookup (is_same c) others) → rows ≡ others
same_rows [] [] p q same = refl
same_rows [] (e ∷ es) p q same = let h : None ≡ Some e.1 = same e.0 ∙ lookup_head (is_same e.0) e es (laws-refl e.0) in absurd (cc)
same_rows (d ∷ ds) [] p q same = let h : None ≡ Some d.1 = sym (same d.0) ∙ lookup_head (is_same d.0) d ds (laws-refl d.0) in absurd (cc)
same_rows (d ∷ ds) (e ∷ es) p q same =
    by_order (λ tails. same_rows ds es (sorted_tail compare d.0 (keys_of ds) p) (sorted_tail compare e.0 (keys_of es) q) tails) (compare d.0 e.0) refl
  where
    tail_same : d.0 ≡ e.0 → (c : Combination) (b : Bool) → is_same c d.0 ≡ b → lookup (is_same c) ds ≡ lookup (is_same c) es
    tail_same key c true passes = past_none c d ds p passes ∙ sym (past_none c e es q (subst (λ (k : Combination). is_same c k ≡ true) key passes))
    tail_same key c false differs =
        sym (lookup_tail (is_same c) d ds differs) ∙ same c ∙ lookup_tail (is_same c) e es (subst (λ (k : Combination). is_same c k ≡ false) key differs)

    by_order : (((c : Combination) → lookup (is_same c) ds ≡ lookup (is_same c) es) → ds ≡ es) → (o : Ordering) → compare d.0 e.0 ≡ o → d ∷ ds ≡ e ∷ es
    by_order next Less h =
        let found : Some d.1 ≡ None = sym (lookup_head (is_same d.0) d ds (laws-refl d.0)) ∙ same d.0 ∙ below_none d.0 e es q h in absurd (cc)
    by_order next Greater h =
        let less : compare e.0 d.0 ≡ Less = compare_total.antisymm e.0 d.0 ∙ ap ordering_reverse h in
        let found : Some e.1 ≡ None = sym (lookup_head (is_same e.0) e es (laws-refl e.0)) ∙ sym (same e.0) ∙ below_none e.0 d ds p less in absurd (cc)
    by_order next Equal h =
        let key : d.0 ≡ e.0 = compare_equal d.0 e.0 h in
        let found : Some d.1 ≡ Some e.1 = sym (lookup_head (is_same d.0) d ds (laws-refl d.0)) ∙ same d.0 ∙ lookup_head (is_same d.0) e es (ap is_eq h) in
        let number : d.1 ≡ e.1 = cc in
        let rest : ds ≡ es = next (λ c. tail_same key c (is_same c d.0) refl) in
        λ i. (key i, number i) ∷ rest i

-- ---- tables

same_numbers : (a b : Option ℕ) → unwrap_or a 0 ≡ unwrap_or b 0 → 0 < unwrap_or a 1 → 0 < unwrap_or b 1 → a ≡ b
same_numbers None None e p q = refl
same_numbers None (Some n) e p q = absurd (omega arith)
same_numbers (Some m) None e p q = absurd (omega arith)
same_numbers (Some m) (Some n) e p q = ap Some e

pub one_table : (graphs : List Facts) (table other : TableModel) → IsTable graphs table → IsTable graphs other → table.columns ≡ other.columns → table ≡ other
one_table graphs table other t u columns =
    let looks : (c : Combination) → lookup (is_same c) table.rows ≡ lookup (is_same c) other.rows = λ c.
    same_numbers (lookup (is_same c) table.rows) (lookup (is_same c) other.rows)
    (t.numbers c ∙ ap (λ (cs : Columns). number_with cs graphs c) columns ∙ sym (u.numbers c)) (t.occurs c) (u.occurs c) in
    let rows : table.rows ≡ other.rows = same_rows table.rows other.rows t.ascending u.ascending looks in
    let total : table.total ≡ other.total = t.total ∙ sym u.total in
    λ i. record { columns = columns i; rows = rows i; total = total i }

pub order_is_free : (graphs others : List Facts) (table : TableModel) → IsPermutation graphs others → IsTable graphs table → IsTable others table
order_is_free graphs others table moved t = record {
  ascending = t.ascending;
  numbers = λ c. t.numbers c ∙ sym (sum_by-IsPermutation (λ (f : Facts). cond (is_same c (combination_of table.columns f)) 1 0) graphs others moved);
  occurs = t.occurs;
  total = t.total ∙ sym (length_permutation graphs others moved);
}
