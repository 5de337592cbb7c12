-- What is picked of the same bytes under the same choice is one text.
use Rattle.std.proofs.Common.{◌≡◌, ◌≢◌, ◌/◌, ◌+◌, ◌<◌, ℕ, suc, Bool, List, [], ◌∷◌, ◌++◌, length, map, All, Option, None, Some, inl, inr, if◌then◌else◌, refl, sym, ap, ap₂, subst, ◌∙◌, arith}
use Rattle.std.specs.List.{flat_map}
use Rattle.std.proofs.Math.Logic.{∥∥₁_elim}
use Rattle.std.proofs.Props.{props}
use Rattle.planar_code.specs.declared.TheConstants.{HEADER}
use Rattle.planar_code.specs.Stream.{lists_of}
use Rattle.streams.specs.Marks.{IsMarked}
use Rattle.streams.specs.declared.frames.Mark.{Mark}
use Rattle.embedding.specs.declared.breaks.Rule.{Rule}
use Rattle.embedding.specs.Rules.{KeepsBefore}
use Rattle.common.specs.declared.parameters.Choice.{Choice}
use Rattle.lanes.specs.Notes.{About, numbered}
use Rattle.lanes.specs.Opening.{Meaning, known_of, fails_of}
use Rattle.faces.specs.Planes.{PlaneModel, vertices, darts}
use Rattle.ortho_rep.specs.Representation.{IsShape, IsLeast}
use Rattle.graph_facts.specs.declared.selection.Selection.{Selection}
use Rattle.graph_facts.specs.declared.selection.Facts.{Facts}
use Rattle.collector.specs.FactBooks.{FactEntry, FactBook, IsFactBook, AreFactBooks, AreAllFactBooks, about_of}
use Rattle.graph_facts.specs.Conditions.{is_chosen}
use Rattle.graph_facts.specs.Facts.{AreFacts, AreLaidFacts, AreRefusedFacts, laid_facts, refused_facts}
use Rattle.collector.specs.Picked.{picked_of, picked_in, picked_of_book, picked_text}
use Rattle.run_laws.specs.Picks.{HasAllFacts}
use Rattle.run_laws.specs.Reports.{AreKnownAlike, AreAllKnownAlike}
use Rattle.run_laws.proofs.Booking.{marked_as_known, same_marked}
use Rattle.run_laws.proofs.Planes.{none_broken, one_rule, same_bends, same_plane}

-- ---- one graph

one_laid : (choice : Choice) (g : List (List ℕ)) (facts other : Facts) → AreLaidFacts choice g facts → AreLaidFacts choice g other → facts ≡ other
one_laid choice g facts other one two =
    let p : one.plane ≡ two.plane = same_plane choice one.plane two.plane (one.lists ∙ sym two.lists) one.rules two.rules one.chosen two.chosen in
    let shape_is : IsShape one.plane two.shape = subst (λ q. IsShape q two.shape) (sym p) two.shape_is in
    let least : IsLeast one.plane two.shape = subst (λ q. IsLeast q two.shape) (sym p) two.least in
    let bends = same_bends one.plane one.shape two.shape one.shape_is shape_is one.least least in
    let same : laid_facts one.plane one.shape ≡ laid_facts one.plane two.shape =
    λ i. record { vertices = vertices one.plane; edges = Some (darts one.plane / 2); faces = Some one.plane.faces; bends = Some (bends i); rule = None } in
    one.same ∙ same ∙ ap (λ (q : PlaneModel). laid_facts q two.shape) p ∙ sym two.same

never_both : (choice : Choice) (g : List (List ℕ)) (facts other : Facts) → AreLaidFacts choice g facts → AreRefusedFacts g other → ⊥
never_both choice g facts other laid refused = none_broken g refused.rule (subst (λ (lists : List (List ℕ)). KeepsBefore lists 9) laid.lists laid.rules.rules) refused.broken

pub one_facts : (choice : Choice) (g : List (List ℕ)) (facts other : Facts) → AreFacts choice g (Some facts) → AreFacts choice g (Some other) → facts ≡ other
one_facts choice g facts other (inl one) (inl two) = one_laid choice g facts other one two
one_facts choice g facts other (inl one) (inr two) = absurd (never_both choice g facts other one two)
one_facts choice g facts other (inr one) (inl two) = absurd (never_both choice g other facts two one)
one_facts choice g facts other (inr one) (inr two) = one.same ∙ ap (refused_facts g) (one_rule g one.rule two.rule one.broken two.broken) ∙ sym two.same

pub one_known : (choice : Choice) (g : List (List ℕ)) (facts other : Option Facts) → facts ≢ None → other ≢ None → AreFacts choice g facts → AreFacts choice g other → facts ≡ other
one_known choice g None other has has' one two = absurd (has refl)
one_known choice g (Some facts) None has has' one two = absurd (has' refl)
one_known choice g (Some facts) (Some other) has has' one two = ap Some (one_facts choice g facts other one two)

-- ---- one file

-- what is picked of an entry about this record
picked_as : (s : Selection) (choice : Choice) (file ordinal : ℕ) (bytes : List ℕ) (entry : FactEntry) → entry.about ≡ record { file = file; ordinal = ordinal; bytes = bytes; choice = choice }
    → picked_of s entry ≡ (if is_chosen s entry.facts then bytes else [])
picked_as s choice file ordinal bytes entry is = ap (λ (a : About). if is_chosen s entry.facts then a.bytes else []) is

pub facts_as : (choice : Choice) (file ordinal : ℕ) (bytes : List ℕ) (entry : FactEntry) → entry.about ≡ record { file = file; ordinal = ordinal; bytes = bytes; choice = choice }
    → ∥ AreFacts choice (lists_of bytes) entry.facts ∥₁
facts_as choice file ordinal bytes entry is = subst (λ (a : About). ∥ AreFacts a.choice (lists_of a.bytes) entry.facts ∥₁) is entry.right

same_picked : (s : Selection) (choice : Choice) (bytes : List ℕ) (facts other : Option Facts) → facts ≢ None → other ≢ None
    → ∥ AreFacts choice (lists_of bytes) facts ∥₁ → ∥ AreFacts choice (lists_of bytes) other ∥₁ → (if is_chosen s facts then bytes else []) ≡ (if is_chosen s other then bytes else [])
same_picked s choice bytes facts other has has' one two =
    ∥∥₁_elim one (hlevel props) (λ a. ∥∥₁_elim two (hlevel props) (λ b. ap (λ f. if is_chosen s f then bytes else []) (one_known choice (lists_of bytes) facts other has has' a b)))

same_entries : (s : Selection) (choice : Choice) (file other_file ordinal : ℕ) (records : List (List ℕ)) (entries others : List FactEntry)
    → map about_of entries ≡ numbered choice file ordinal records → map about_of others ≡ numbered choice other_file ordinal records
    → All (λ entry. entry.facts ≢ None) entries → All (λ entry. entry.facts ≢ None) others → picked_in s entries ≡ picked_in s others
same_entries s choice file other_file ordinal records [] [] is is' has has' = refl
same_entries s choice file other_file ordinal [] (entry ∷ entries) others is is' has has' = absurd (let none : ⊥ = cc in none)
same_entries s choice file other_file ordinal [] entries (other ∷ others) is is' has has' = absurd (let none : ⊥ = cc in none)
same_entries s choice file other_file ordinal (bytes ∷ records) [] (other ∷ others) is is' has has' = absurd (let none : ⊥ = cc in none)
same_entries s choice file other_file ordinal (bytes ∷ records) (entry ∷ entries) [] is is' has has' = absurd (let none : ⊥ = cc in none)
same_entries s choice file other_file ordinal (bytes ∷ records) (entry ∷ entries) (other ∷ others) is is' has has' =
    let here : entry.about ≡ record { file = file; ordinal = ordinal; bytes = bytes; choice = choice } = cc in
    let rest : map about_of entries ≡ numbered choice file (ordinal + 1) records = cc in
    let here' : other.about ≡ record { file = other_file; ordinal = ordinal; bytes = bytes; choice = choice } = cc in
    let rest' : map about_of others ≡ numbered choice other_file (ordinal + 1) records = cc in
    ap₂ (λ (first : List ℕ) (more : List ℕ). first ++ more)
    (picked_as s choice file ordinal bytes entry here
    ∙ same_picked s choice bytes entry.facts other.facts (has 0 entry (omega arith)) (has' 0 other (omega arith)) (facts_as choice file ordinal bytes entry here) (facts_as choice other_file ordinal bytes other here')
    ∙ sym (picked_as s choice other_file ordinal bytes other here'))
    (same_entries s choice file other_file (ordinal + 1) records entries others rest rest' (λ k d inside. has (suc k) d (omega (arith, inside))) (λ k d inside. has' (suc k) d (omega (arith, inside))))

pub book_marked : (choice : Choice) (meaning : Meaning) (file : ℕ) (book : FactBook) (bytes : List ℕ) → known_of meaning ≡ Some bytes
    → (is : IsFactBook choice meaning file book) → IsMarked bytes (fails_of meaning) is.whole.records book.mark
book_marked choice meaning file book bytes known is =
    let found = is.whole.found in
    marked_as_known (known_of meaning) (fails_of meaning) bytes is.whole.records book.mark found.bytes found.fails known found.gave found.marked

same_book : (s : Selection) (choice : Choice) (meaning other_meaning : Meaning) (file other_file : ℕ) (book other : FactBook)
    → IsFactBook choice meaning file book → IsFactBook choice other_meaning other_file other → AreKnownAlike meaning other_meaning → HasAllFacts book → HasAllFacts other
    → picked_of_book s book ≡ picked_of_book s other
same_book s choice meaning other_meaning file other_file book other one two tell has has' =
    let marked : IsMarked tell.bytes (fails_of meaning) one.whole.records book.mark = book_marked choice meaning file book tell.bytes tell.known one in
    let marked' : IsMarked tell.bytes (fails_of meaning) two.whole.records other.mark =
    subst (λ (f : Bool). IsMarked tell.bytes f two.whole.records other.mark) (sym tell.fails) (book_marked choice other_meaning other_file other tell.bytes tell.known_too two) in
    let same = same_marked tell.bytes (fails_of meaning) one.whole.records two.whole.records book.mark other.mark marked marked' has.mark has'.mark in
    same_entries s choice file other_file 0 one.whole.records book.entries other.entries one.whole.each
    (two.whole.each ∙ ap (numbered choice other_file 0) (sym same.0)) has.facts has'.facts

-- ---- all files

same_books : (s : Selection) (choice : Choice) (meaning other_meaning : ℕ → Meaning) (first : ℕ) (books others : List FactBook)
    → AreFactBooks choice meaning first books → AreFactBooks choice other_meaning first others → length books ≡ length others
    → ((k : ℕ) → k < length books → AreKnownAlike (meaning (first + k)) (other_meaning (first + k)))
    → All HasAllFacts books → All HasAllFacts others → flat_map (picked_of_book s) books ≡ flat_map (picked_of_book s) others
same_books s choice meaning other_meaning first [] [] are are' count tell has has' = refl
same_books s choice meaning other_meaning first [] (other ∷ others) are are' count tell has has' = absurd (omega (arith, count))
same_books s choice meaning other_meaning first (book ∷ books) [] are are' count tell has has' = absurd (omega (arith, count))
same_books s choice meaning other_meaning first (book ∷ books) (other ∷ others) are are' count tell has has' =
    let here : first + 0 ≡ first = omega arith in
    ap₂ (λ (text : List ℕ) (rest : List ℕ). text ++ rest)
    (same_book s choice (meaning first) (other_meaning first) first first book other are.0 are'.0
    (subst (λ (n : ℕ). AreKnownAlike (meaning n) (other_meaning n)) here (tell 0 (omega arith))) (has 0 book (omega arith)) (has' 0 other (omega arith)))
    (same_books s choice meaning other_meaning (first + 1) books others are.1 are'.1 (omega (arith, count))
    (λ k inside.
    let there : first + suc k ≡ first + 1 + k = omega arith in
    subst (λ (n : ℕ). AreKnownAlike (meaning n) (other_meaning n)) there (tell (suc k) (omega (arith, inside))))
    (λ k d inside. has (suc k) d (omega (arith, inside))) (λ k d inside. has' (suc k) d (omega (arith, inside))))

pub one_picked_text : (s : Selection) (choice : Choice) (meaning other_meaning : ℕ → Meaning) (files : ℕ) (books others : List FactBook)
    → AreAllFactBooks choice meaning files books → AreAllFactBooks choice other_meaning files others → AreAllKnownAlike files meaning other_meaning
    → All HasAllFacts books → All HasAllFacts others → picked_text s books ≡ picked_text s others
one_picked_text s choice meaning other_meaning files books others one two tell has has' =
    ap (λ l. HEADER ++ l) (same_books s choice meaning other_meaning 0 books others one.each two.each (one.count ∙ sym two.count)
    (λ k inside. let there : k ≡ 0 + k = omega arith in subst (λ (n : ℕ). AreKnownAlike (meaning n) (other_meaning n)) there (tell k (omega (arith, inside, one.count)))) has has')
