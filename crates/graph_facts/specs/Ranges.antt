-- Ranges of numbers, and their texts: A:B, A:, :B and A.
use Rattle.std.specs.Prelude.{◌≡◌, ◌≢◌, ◌<◌, ◌⊎◌, ◌==◌, ◌&&◌, nat_le, ℕ, Bool, true, false, List, [], length, Option, None, Some, Ok, unwrap_or, ⊤}
use Rattle.std.specs.List.{position_or_len, before_first, after_first}
use Rattle.std.specs.Str.Parse.{ParsesUnsigned}
use Rattle.graph_facts.specs.declared.selection.Range.{Range}
use Rattle.graph_facts.specs.declared.selection.RangeFault.{RangeFault}
use Rattle.graph_facts.specs.declared.selection.RangeFault.TheVariants.{Malformed, Empty}

-- the number is at most the limit, if there is one
abbrev pub is_up_to : Option ℕ → ℕ → Bool
is_up_to None n = true
is_up_to (Some limit) n = nat_le n limit

-- the number is in the range: neither below its first number nor above its last one, if it has a last one
abbrev pub in_range : Range → ℕ → Bool
in_range range n = nat_le range.from n && is_up_to range.to n

-- the range has a number: its last number, if there is one, is not below its first one
abbrev pub has_numbers : Range → Bool
has_numbers range = is_up_to range.to range.from

abbrev pub is_colon : ℕ → Bool
is_colon byte = byte == 58

-- the text has a colon
abbrev pub HasColon : List ℕ → Type 0
HasColon text = position_or_len is_colon text < length text

-- the text is this number, in decimal and below 2^32; it may begin with a plus sign
abbrev pub IsNumber : List ℕ → ℕ → Type 0
IsNumber text n = ParsesUnsigned {E = ⊤} 32 10 text (Ok n)

-- the text of an end of a range: a number, or nothing if the range has no such end
abbrev pub IsEnd : List ℕ → Option ℕ → Type 0
IsEnd text None = text ≡ []
IsEnd text (Some n) = IsNumber text n

-- the text A: the range of this number alone
pub record IsOneNumber (text : List ℕ) (range : Range) : Type 0 where
  pub from : IsNumber text range.from
  pub to : range.to ≡ Some range.from

-- the texts of the two ends of a range, of which one may be missing; without the first, the range begins with 0
pub record AreTwoEnds (before after : List ℕ) (range : Range) : Type 0 where
  pub low : Option ℕ
  pub before_is : IsEnd before low
  pub from : range.from ≡ unwrap_or low 0
  pub after_is : IsEnd after range.to
  pub some : (low ≢ None) ⊎ (range.to ≢ None)

-- the text names the ends of the range, which may be in the wrong order: A, or A:B, A: or :B, parted at the first colon
abbrev pub NamesEnds : List ℕ → Range → Type 0
NamesEnds text range =
    (¬ HasColon text × IsOneNumber text range)
    ⊎ (HasColon text × AreTwoEnds (before_first is_colon text) (after_first is_colon text) range)

-- the text is that of the range, which has a number
pub record IsRangeText (text : List ℕ) (range : Range) : Type 0 where
  pub ends : NamesEnds text range
  pub ordered : has_numbers range ≡ true

-- the ends are in the wrong order
pub record IsEmptyRangeText (text : List ℕ) : Type 0 where
  pub range : Range
  pub ends : NamesEnds text range
  pub empty : has_numbers range ≡ false

-- why a text is no range
abbrev pub IsRangeFault : List ℕ → RangeFault → Type 0
IsRangeFault text Malformed = (range : Range) → NamesEnds text range → ⊥
IsRangeFault text Empty = IsEmptyRangeText text
