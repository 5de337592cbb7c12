-- What has come of a file of which it is known what it means is a beginning of its book.
use Rattle.std.proofs.Common.{◌≡◌, ℕ, ◌+◌, Bool, List, [], ◌∷◌, ◌++◌, Option, None, Some, length, drop, refl, sym, ap, subst, ◌∙◌, arith, append_assoc, append-nil, length-append}
use Rattle.std.proofs.lemmas.Grind.{merely}
use Rattle.std.proofs.lemmas.List.Prefix.{front_rest}
use Rattle.std.proofs.Math.Logic.{∥∥₁_map, ∥∥₁_elim, ∥∥₁_prop}
use Rattle.planar_code.specs.declared.partial_record.Ending.{Ending}
use Rattle.planar_code.specs.declared.partial_record.Ending.TheVariants as ending
use Rattle.planar_code.specs.Split.{IsSplit}
use Rattle.streams.specs.declared.frames.Mark.{Mark}
use Rattle.streams.specs.declared.frames.Mark.TheVariants.{Ended, Io}
use Rattle.streams.specs.Marks.{IsMarked, IsBeginningOf}
use Rattle.streams.specs.Reading.{IsFoundIn}
use Rattle.streams.specs.Placing.{IsAt, IsPlaced, EachAt}
pub use Rattle.collector.specs.Came.{mark_or_memory}

-- one more of records in a row
pub each_push : (fits : ℕ → List ℕ → Type 0) (first : ℕ) (records : List (List ℕ)) (bytes : List ℕ) → EachAt fits first records → fits (first + length records) bytes
    → EachAt fits first (records ++ bytes ∷ [])
each_push fits first [] bytes each last = (let same : first + 0 ≡ first = omega arith in subst (λ n. fits n bytes) same last, tt)
each_push fits first (b ∷ records) bytes each last =
    let same : first + length (b ∷ records) ≡ first + 1 + length records = omega arith in
    (each.0, each_push fits (first + 1) records bytes each.1 (subst (λ n. fits n bytes) same last))

pub both : {A B : Type 0} → ∥ A ∥₁ → ∥ B ∥₁ → ∥ A × B ∥₁
both a b = ∥∥₁_elim a ∥∥₁_prop (λ x. ∥∥₁_map b (λ y. (x, y)))

-- what each merely does, all merely do
each_merely : (fits : ℕ → List ℕ → Type 0) (first : ℕ) (records : List (List ℕ)) → EachAt (λ place bytes. ∥ fits place bytes ∥₁) first records → ∥ EachAt fits first records ∥₁
each_merely fits first [] each = merely tt
each_merely fits first (bytes ∷ records) each = both each.0 (each_merely fits (first + 1) records each.1)

-- records at places in a row, the first after a front
in_row : (all front rest : List (List ℕ)) (first : ℕ) (records : List (List ℕ)) → all ≡ front ++ rest → length front ≡ first → EachAt (IsAt all) first records → IsBeginningOf records rest
in_row all front rest first [] parts count each = (rest, refl)
in_row all front rest first (bytes ∷ records) parts count each =
    let at = each.0 in
    let next : rest ≡ bytes ∷ at.rest =
    sym (front_rest all front rest parts) ∙ ap (λ n. drop n all) (count ∙ sym at.before) ∙ front_rest all at.front (bytes ∷ at.rest) at.parts in
    let later = in_row all (front ++ bytes ∷ []) at.rest (first + 1) records (parts ∙ ap (λ l. front ++ l) next ∙ sym (append_assoc front (bytes ∷ []) at.rest))
    (omega (arith, count, length-append front (bytes ∷ []))) each.1 in
    (later.0, next ∙ ap (λ l. bytes ∷ l) later.1)

each_placed : (told : List ℕ) (all : List (List ℕ)) (end : Ending) → IsSplit told all end → (first : ℕ) (records : List (List ℕ)) → EachAt (IsPlaced (Some told)) first records
    → EachAt (IsAt all) first records
each_placed told all end split first [] each = tt
each_placed told all end split first (bytes ∷ records) each = (each.0 all end split, each_placed told all end split (first + 1) records each.1)

-- records that have their places are the first ones
placed_first : (told : List ℕ) (records : List (List ℕ)) → EachAt (IsPlaced (Some told)) 0 records → (all : List (List ℕ)) (end : Ending) → IsSplit told all end → IsBeginningOf records all
placed_first told records each all end split = in_row all [] all 0 records refl refl (each_placed told all end split 0 records each)

none_left : (rest : List (List ℕ)) → length rest ≡ 0 → rest ≡ []
none_left [] none = refl
none_left (x ∷ rest) none = absurd (let never : ⊥ = omega (arith, none) in never)

-- where there are as many, they are all
as_many : (told : List ℕ) (records all : List (List ℕ)) (end : Ending) → EachAt (IsPlaced (Some told)) 0 records → IsSplit told all end → length all ≡ length records → all ≡ records
as_many told records all end each split count =
    let first = placed_first told records each all end split in
    first.1 ∙ ap (λ l. records ++ l) (none_left first.0 (omega (arith, count, ap length first.1, length-append records first.0))) ∙ append-nil records

-- where the end of the records with this mark is known
marked_as : (told : List ℕ) (fails : Bool) (records others : List (List ℕ)) (mark : Mark) → EachAt (IsPlaced (Some told)) 0 records → length others ≡ length records
    → IsMarked told fails others mark → IsMarked told fails records mark
marked_as told fails records others Io each count m =
    let same = as_many told records others m.1.0 each m.1.1 count in (m.0, (m.1.0, subst (λ rs. IsSplit told rs m.1.0) same m.1.1))
marked_as told fails records others (Ended ending.Complete) each count m = (m.0, subst (λ rs. IsSplit told rs ending.Complete) (as_many told records others ending.Complete each m.1 count) m.1)
marked_as told fails records others (Ended ending.Truncated) each count m = (m.0, subst (λ rs. IsSplit told rs ending.Truncated) (as_many told records others ending.Truncated each m.1 count) m.1)
marked_as told fails records others (Ended ending.Header) each count m = (m.0, subst (λ rs. IsSplit told rs ending.Header) (as_many told records others ending.Header each m.1 count) m.1)
marked_as told fails records others (Ended ending.Large) each count m = (m.0, subst (λ rs. IsSplit told rs ending.Large) (as_many told records others ending.Large each m.1 count) m.1)
marked_as told fails records others (Ended ending.Oversize) each count m = (m.0, subst (λ rs. IsSplit told rs ending.Oversize) (as_many told records others ending.Oversize each m.1 count) m.1)
marked_as told fails records others (Ended ending.Many) each count m = (m.0, subst (λ rs. IsSplit told rs ending.Many) (as_many told records others ending.Many each m.1 count) m.1)
marked_as told fails records others (Ended ending.Memory) each count m = placed_first told records each

-- of a source that told its bytes
found_known : (told : List ℕ) (fails : Bool) (records : List (List ℕ)) (mark : Mark) → EachAt (IsPlaced (Some told)) 0 records
    → (others : List (List ℕ)) → length others ≡ length records → IsFoundIn (Some told) fails others mark → IsFoundIn (Some told) fails records mark
found_known told fails records mark each others count f = record {
  bytes = f.bytes;
  fails = f.fails;
  gave = f.gave;
  marked = marked_as f.bytes f.fails records others mark (subst (λ t. EachAt (IsPlaced (Some t)) 0 records) f.gave.0 each) count f.marked;
}

-- a file that has not ended ends with `Memory`
found_wanting : (told : List ℕ) (fails : Bool) (records : List (List ℕ)) → EachAt (IsPlaced (Some told)) 0 records → IsFoundIn (Some told) fails records (Ended ending.Memory)
found_wanting told fails records each = record { bytes = told; fails = fails; gave = (refl, refl); marked = placed_first told records each }

-- its records so far, with its mark or `Memory`
pub found_closed : (told : List ℕ) (fails : Bool) (records : List (List ℕ)) (count : ℕ) (was : Option Mark) → count ≡ length records
    → EachAt (λ place bytes. ∥ IsPlaced (Some told) place bytes ∥₁) 0 records
    → ((mark : Mark) → was ≡ Some mark → ∥ ((others : List (List ℕ)) × (length others ≡ count) × IsFoundIn (Some told) fails others mark) ∥₁)
    → ∥ IsFoundIn (Some told) fails records (mark_or_memory was) ∥₁
found_closed told fails records count None same placed ends = ∥∥₁_map (each_merely (IsPlaced (Some told)) 0 records placed) (λ each. found_wanting told fails records each)
found_closed told fails records count (Some mark) same placed ends =
    ∥∥₁_map (both (each_merely (IsPlaced (Some told)) 0 records placed) (ends mark refl))
    (λ known. found_known told fails records mark known.0 known.1.0 (known.1.1 ∙ same) known.1.2)
