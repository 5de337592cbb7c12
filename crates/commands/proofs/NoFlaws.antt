-- A book is flawless exactly if nothing is lacking in it.
use Rattle.std.proofs.Common.{◌≡◌, ◌≢◌, ◌+◌, ◌↔◌, ℕ, Bool, cond, List, [], ◌∷◌, Option, None, Some, All, is_none, refl, sym, ◌∙◌, arith}
use Rattle.std.specs.Prelude.{count_by}
use Rattle.std.proofs.lemmas.List.Elements.{All-nil, All-cons, All-head, All-tail}
use Rattle.std.proofs.lemmas.List.Sums.{sum_by-cons}
use Rattle.graph_facts.specs.declared.selection.Facts.{Facts}
use Rattle.collector.specs.FactBooks.{FactBook, FactEntry, IsFlawless, IsFlawlessFacts, flaws_of, unanswered}

some_facts : (facts : Option Facts) (n : ℕ) → cond (is_none facts) 1 0 + n ≡ 0 → facts ≢ None
some_facts None n is = absurd (omega (arith, is))
some_facts (Some facts) n is = λ none. (cc)

no_more : (b : Bool) (n : ℕ) → cond b 1 0 + n ≡ 0 → n ≡ 0
no_more b n is = omega (arith, is)

none_more : (facts : Option Facts) (n : ℕ) → facts ≢ None → n ≡ 0 → cond (is_none facts) 1 0 + n ≡ 0
none_more None n some is = absurd (some refl)
none_more (Some facts) n some is = omega (arith, is)

one_more : (entry : FactEntry) (entries : List FactEntry) → unanswered (entry ∷ entries) ≡ cond (is_none entry.facts) 1 0 + unanswered entries
one_more entry entries = sum_by-cons (λ (e : FactEntry). cond (is_none e.facts) 1 0) entry entries

abbrev HasFacts : FactEntry → Type 0
HasFacts entry = entry.facts ≢ None

all_answered : (entries : List FactEntry) → unanswered entries ≡ 0 → All HasFacts entries
all_answered [] is = All-nil HasFacts
all_answered (entry ∷ entries) is =
    All-cons HasFacts entry entries (some_facts entry.facts (unanswered entries) (sym (one_more entry entries) ∙ is))
    (all_answered entries (no_more (is_none entry.facts) (unanswered entries) (sym (one_more entry entries) ∙ is)))

none_unanswered : (entries : List FactEntry) → All HasFacts entries → unanswered entries ≡ 0
none_unanswered [] all = refl
none_unanswered (entry ∷ entries) all =
    one_more entry entries ∙ none_more entry.facts (unanswered entries) (All-head HasFacts entry entries all) (none_unanswered entries (All-tail HasFacts entry entries all))

pub flawless_flaws : (book : FactBook) → IsFlawlessFacts book ↔ IsFlawless (flaws_of book)
flawless_flaws book = (
  (λ flawless. (flawless.complete, none_unanswered book.entries flawless.answered)),
  (λ none. record { complete = none.0; answered = all_answered book.entries none.1 }),
)
