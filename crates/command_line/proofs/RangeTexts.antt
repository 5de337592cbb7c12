-- A text names one range at most.
use Rattle.std.proofs.Common.{◌≡◌, ◌∙◌, ◌⊎◌, inl, inr, ℕ, Bool, true, false, List, [], Bor, Option, None, Some, IfNone, option_map, unwrap_or, refl, ap, sym, subst, true≢false, arith}
use Rattle.graph_facts.specs.declared.selection.Range.{Range}
use Rattle.graph_facts.specs.declared.selection.RangeFault.{RangeFault}
use Rattle.graph_facts.specs.declared.selection.RangeFault.TheVariants.{Malformed, Empty}
use Rattle.graph_facts.specs.Ranges.{IsNumber, IsEnd, NamesEnds, IsRangeText, IsRangeFault, is_up_to, has_numbers}
use Rattle.command_line.specs.Requests.{IsRangeOf}

no_number : (n : ℕ) → IsNumber [] n → ⊥
no_number n is = omega (arith, is.0.0.0)

same_end : (text : List ℕ) (a b : Option ℕ) → IsEnd text a → IsEnd text b → a ≡ b
same_end text None None is also = refl
same_end text None (Some n) is also = absurd (no_number n (subst (λ t. IsNumber t n) is also))
same_end text (Some n) None is also = absurd (no_number n (subst (λ t. IsNumber t n) also is))
same_end text (Some n) (Some m) is also = ap Some (is.1 ∙ sym also.1)

numbered : (r s : Range) → r.from ≡ s.from → r.to ≡ s.to → has_numbers r ≡ has_numbers s
numbered r s from to = ap (λ (t : Option ℕ). is_up_to t r.from) to ∙ ap (is_up_to s.to) from

same_numbers : (text : List ℕ) (r s : Range) → NamesEnds text r → NamesEnds text s → has_numbers r ≡ has_numbers s
same_numbers text r s (inl one) (inl other) =
    let from = one.1.from.1 ∙ sym other.1.from.1 in
    numbered r s from (one.1.to ∙ ap Some from ∙ sym other.1.to)
same_numbers text r s (inl one) (inr two) = absurd (one.0 two.0)
same_numbers text r s (inr two) (inl one) = absurd (one.0 two.0)
same_numbers text r s (inr two) (inr other) =
    numbered r s
    (two.1.from ∙ ap (λ (o : Option ℕ). unwrap_or o 0) (same_end _ two.1.low other.1.low two.1.before_is other.1.before_is) ∙ sym other.1.from)
    (same_end _ r.to s.to two.1.after_is other.1.after_is)

-- a text that is refused names no range
pub no_range : (text : List ℕ) (fault : RangeFault) (range : Range) → IsRangeFault text fault → IsRangeText text range → ⊥
no_range text Malformed range why is = why range is.ends
no_range text Empty range why is =
    true≢false (sym is.ordered ∙ same_numbers text range why.range is.ends why.ends ∙ why.empty)

none_named : (text : List ℕ) (fault : RangeFault) (range : Option Range) → IsRangeFault text fault → IsRangeOf (Some text) range → ⊥
none_named text fault None why is = is
none_named text fault (Some range) why is = no_range text fault range why is

-- nor does an argument with this text, if there is one
pub no_range_of : (given : Option (Bor (List ℕ))) (text : Bor (List ℕ)) (fault : RangeFault) → given ≡ Some text → IsRangeFault text.now fault
    → (range : Option Range) → IsRangeOf (option_map (λ t. t.now) given) range → ⊥
no_range_of given text fault is why range names =
    none_named text.now fault range why (subst (λ (g : Option (Bor (List ℕ))). IsRangeOf (option_map (λ t. t.now) g) range) is names)

-- what holds without a value
pub if_none : {A P : Type 0} (answer : Option A) → P → IfNone answer P
if_none None holds = holds
if_none (Some value) holds = tt

-- there is no value
pub not_there : {A : Type 0} (value : A) (answer : Option A) → None ≡ answer → answer ≡ Some value → ⊥
not_there value answer none some = cc
