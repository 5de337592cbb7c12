-- What is counted of the same bytes under the same choice is one table.
use Rattle.std.proofs.Common.{◌≡◌, ◌≢◌, ◌+◌, ◌<◌, ℕ, suc, Bool, List, [], ◌∷◌, ◌++◌, length, map, All, Option, None, Some, refl, sym, ap, ap₂, subst, ◌∙◌, arith}
use Rattle.std.specs.Prelude.{filter, option_to_list}
use Rattle.std.specs.List.{flat_map}
use Rattle.std.proofs.Math.Logic.{∥∥₁_elim, ∥∥₁_map}
use Rattle.std.proofs.Props.{props}
use Rattle.std.proofs.lemmas.Grind.{merely}
use Rattle.planar_code.specs.Stream.{lists_of}
use Rattle.streams.specs.Marks.{IsMarked}
use Rattle.common.specs.declared.parameters.Choice.{Choice}
use Rattle.lanes.specs.Notes.{numbered}
use Rattle.lanes.specs.Opening.{Meaning, fails_of}
use Rattle.collector.proofs.ToldEnds.{both}
use Rattle.graph_facts.specs.declared.selection.Selection.{Selection}
use Rattle.graph_facts.specs.declared.selection.Facts.{Facts}
use Rattle.collector.specs.FactBooks.{FactEntry, FactBook, IsFactBook, AreFactBooks, AreAllFactBooks, about_of}
use Rattle.graph_facts.specs.Conditions.{chooses}
use Rattle.graph_facts.specs.Facts.{AreFacts}
use Rattle.collector.specs.Picked.{chosen_of, chosen_of_book, chosen_in}
use Rattle.graph_facts.specs.Tables.{IsTable, TableModel, table_text}
use Rattle.graph_facts.proofs.OneTable.{one_table}
use Rattle.run_laws.specs.Picks.{HasAllFacts}
use Rattle.run_laws.specs.Reports.{AreKnownAlike, AreAllKnownAlike}
use Rattle.run_laws.proofs.Booking.{same_marked}
use Rattle.run_laws.proofs.OnePick.{book_marked, facts_as, one_known}

same_facts : (s : Selection) (choice : Choice) (bytes : List ℕ) (facts other : Option Facts) → facts ≢ None → other ≢ None
    → ∥ AreFacts choice (lists_of bytes) facts ∥₁ → ∥ AreFacts choice (lists_of bytes) other ∥₁
    → ∥ filter (chooses s) (option_to_list facts) ≡ filter (chooses s) (option_to_list other) ∥₁
same_facts s choice bytes facts other has has' one two =
    ∥∥₁_map (both one two) (λ known. ap (λ (f : Option Facts). filter (chooses s) (option_to_list f)) (one_known choice (lists_of bytes) facts other has has' known.0 known.1))

same_chosen : (s : Selection) (choice : Choice) (file other_file ordinal : ℕ) (records : List (List ℕ)) (entries others : List FactEntry)
    → map about_of entries ≡ numbered choice file ordinal records → map about_of others ≡ numbered choice other_file ordinal records
    → All (λ entry. entry.facts ≢ None) entries → All (λ entry. entry.facts ≢ None) others → ∥ flat_map (chosen_of s) entries ≡ flat_map (chosen_of s) others ∥₁
same_chosen s choice file other_file ordinal records [] [] is is' has has' = merely refl
same_chosen s choice file other_file ordinal [] (entry ∷ entries) others is is' has has' = absurd (let none : ⊥ = cc in none)
same_chosen s choice file other_file ordinal [] entries (other ∷ others) is is' has has' = absurd (let none : ⊥ = cc in none)
same_chosen s choice file other_file ordinal (bytes ∷ records) [] (other ∷ others) is is' has has' = absurd (let none : ⊥ = cc in none)
same_chosen s choice file other_file ordinal (bytes ∷ records) (entry ∷ entries) [] is is' has has' = absurd (let none : ⊥ = cc in none)
same_chosen s choice file other_file ordinal (bytes ∷ records) (entry ∷ entries) (other ∷ others) is is' has has' =
    let here : entry.about ≡ record { file = file; ordinal = ordinal; bytes = bytes; choice = choice } = cc in
    let rest : map about_of entries ≡ numbered choice file (ordinal + 1) records = cc in
    let here' : other.about ≡ record { file = other_file; ordinal = ordinal; bytes = bytes; choice = choice } = cc in
    let rest' : map about_of others ≡ numbered choice other_file (ordinal + 1) records = cc in
    ∥∥₁_map (both
    (same_facts s choice bytes entry.facts other.facts (has 0 entry (omega arith)) (has' 0 other (omega arith)) (facts_as choice file ordinal bytes entry here) (facts_as choice other_file ordinal bytes other here'))
    (same_chosen s choice file other_file (ordinal + 1) records entries others rest rest' (λ k d inside. has (suc k) d (omega (arith, inside))) (λ k d inside. has' (suc k) d (omega (arith, inside)))))
    (λ known. ap₂ (λ (first : List Facts) (more : List Facts). first ++ more) known.0 known.1)

same_book : (s : Selection) (choice : Choice) (meaning other_meaning : Meaning) (file other_file : ℕ) (book other : FactBook)
    → IsFactBook choice meaning file book → IsFactBook choice other_meaning other_file other → AreKnownAlike meaning other_meaning → HasAllFacts book → HasAllFacts other
    → ∥ chosen_of_book s book ≡ chosen_of_book s other ∥₁
same_book s choice meaning other_meaning file other_file book other one two tell has has' =
    let marked : IsMarked tell.bytes (fails_of meaning) one.whole.records book.mark = book_marked choice meaning file book tell.bytes tell.known one in
    let marked' : IsMarked tell.bytes (fails_of meaning) two.whole.records other.mark =
    subst (λ (f : Bool). IsMarked tell.bytes f two.whole.records other.mark) (sym tell.fails) (book_marked choice other_meaning other_file other tell.bytes tell.known_too two) in
    let same = same_marked tell.bytes (fails_of meaning) one.whole.records two.whole.records book.mark other.mark marked marked' has.mark has'.mark in
    same_chosen s choice file other_file 0 one.whole.records book.entries other.entries one.whole.each
    (two.whole.each ∙ ap (numbered choice other_file 0) (sym same.0)) has.facts has'.facts

same_books : (s : Selection) (choice : Choice) (meaning other_meaning : ℕ → Meaning) (first : ℕ) (books others : List FactBook)
    → AreFactBooks choice meaning first books → AreFactBooks choice other_meaning first others → length books ≡ length others
    → ((k : ℕ) → k < length books → AreKnownAlike (meaning (first + k)) (other_meaning (first + k)))
    → All HasAllFacts books → All HasAllFacts others → ∥ chosen_in s books ≡ chosen_in s others ∥₁
same_books s choice meaning other_meaning first [] [] are are' count tell has has' = merely refl
same_books s choice meaning other_meaning first [] (other ∷ others) are are' count tell has has' = absurd (omega (arith, count))
same_books s choice meaning other_meaning first (book ∷ books) [] are are' count tell has has' = absurd (omega (arith, count))
same_books s choice meaning other_meaning first (book ∷ books) (other ∷ others) are are' count tell has has' =
    let here : first + 0 ≡ first = omega arith in
    ∥∥₁_map (both
    (same_book s choice (meaning first) (other_meaning first) first first book other are.0 are'.0
    (subst (λ (n : ℕ). AreKnownAlike (meaning n) (other_meaning n)) here (tell 0 (omega arith))) (has 0 book (omega arith)) (has' 0 other (omega arith)))
    (same_books s choice meaning other_meaning (first + 1) books others are.1 are'.1 (omega (arith, count))
    (λ k inside.
    let there : first + suc k ≡ first + 1 + k = omega arith in
    subst (λ (n : ℕ). AreKnownAlike (meaning n) (other_meaning n)) there (tell (suc k) (omega (arith, inside))))
    (λ k d inside. has (suc k) d (omega (arith, inside))) (λ k d inside. has' (suc k) d (omega (arith, inside)))))
    (λ known. ap₂ (λ (first : List Facts) (more : List Facts). first ++ more) known.0 known.1)

pub one_counted_text : (s : Selection) (choice : Choice) (meaning other_meaning : ℕ → Meaning) (files : ℕ) (books others : List FactBook) (table other : TableModel)
    → AreAllFactBooks choice meaning files books → AreAllFactBooks choice other_meaning files others → AreAllKnownAlike files meaning other_meaning
    → All HasAllFacts books → All HasAllFacts others
    → IsTable (chosen_in s books) table → IsTable (chosen_in s others) other → table.columns ≡ other.columns → table_text table ≡ table_text other
one_counted_text s choice meaning other_meaning files books others table other one two tell has has' is is' columns =
    let same = same_books s choice meaning other_meaning 0 books others one.each two.each (one.count ∙ sym two.count)
    (λ k inside. let there : k ≡ 0 + k = omega arith in subst (λ (n : ℕ). AreKnownAlike (meaning n) (other_meaning n)) there (tell k (omega (arith, inside, one.count)))) has has' in
    ∥∥₁_elim same (hlevel props) (λ e. ap table_text (one_table (chosen_in s others) table other (subst (λ (l : List Facts). IsTable l table) e is) is' columns))
