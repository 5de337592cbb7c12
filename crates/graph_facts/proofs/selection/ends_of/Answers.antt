use Rattle.std.proofs.Common.{◌≡◌, inl, inr, ℕ, List, Option, None, Some, IfNone, sym, subst, rules}
use Rattle.std.specs.List.{before_first, after_first}
use Rattle.graph_facts.specs.declared.selection.Range.{Range}
use Rattle.graph_facts.specs.Ranges.{AreTwoEnds, HasColon, NamesEnds, is_colon}
use Rattle.graph_facts.proofs.selection.ends_of.Goals as goal

-- texts at both sides of the first colon that are no two ends: the whole text names none
parted_none : (text low high : List ℕ) (r : Option Range) → (low ≡ before_first is_colon text) × (high ≡ after_first is_colon text) × HasColon text
    → IfNone r ((range : Range) → ¬ AreTwoEnds low high range) → IfNone r ((range : Range) → ¬ NamesEnds text range)
parted_none text low high (Some found) parted none = tt
parted_none text low high None parted none = λ range names. elim names [
  | inl one ↦ one.0 parted.2
  | inr two ↦ none range (subst (λ (l : List ℕ). AreTwoEnds l high range) (sym parted.0) (subst (λ (h : List ℕ). AreTwoEnds (before_first is_colon text) h range) (sym parted.1) two.1))
]

pub returns-in-Some-clause-none : goal.returns-in-Some-clause-none
returns-in-Some-clause-none c =
    let parted : (c.in-Some.low.now ≡ before_first is_colon c.args.text.now) × (c.in-Some.high.now ≡ after_first is_colon c.args.text.now) × HasColon c.args.text.now = search rules in
    parted_none c.args.text.now c.in-Some.low.now c.in-Some.high.now c.two_ends.result parted c.two_ends.ensures.none
