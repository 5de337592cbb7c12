-- The records and the mark of known bytes are one.
use Rattle.std.proofs.Common.{◌≡◌, ◌≢◌, ℕ, Bool, List, [], Option, None, Some, unwrap_or, refl, sym, ap, subst, ◌∙◌}
use Rattle.planar_code.specs.declared.partial_record.Ending.{Ending}
use Rattle.planar_code.specs.declared.partial_record.Ending.TheVariants as ending
use Rattle.planar_code.specs.Split.{IsSplit}
use Rattle.planar_code.proofs.Splits.{split_same}
use Rattle.streams.specs.declared.frames.Mark.{Mark}
use Rattle.streams.specs.declared.frames.Mark.TheVariants.{Ended, Io}
use Rattle.streams.specs.Marks.{IsMarked, IsInterrupted}
use Rattle.streams.specs.Reading.{IsKnownOf}
use Rattle.common.specs.declared.parameters.Choice.{Choice}
use Rattle.lanes.specs.Opening.{Meaning, known_of, fails_of}
use Rattle.reports.specs.Books.{BookModel, IsBook}

-- a mark that does not say that memory ran out
split_by : (bytes : List ℕ) (fails : Bool) (records : List (List ℕ)) (end : Ending) → Ended end ≢ Ended ending.Memory
    → IsMarked bytes fails records (Ended end) → (IsInterrupted bytes fails → ⊥) × IsSplit bytes records end
split_by bytes fails records ending.Complete has is = is
split_by bytes fails records ending.Truncated has is = is
split_by bytes fails records ending.Header has is = is
split_by bytes fails records ending.Large has is = is
split_by bytes fails records ending.Oversize has is = is
split_by bytes fails records ending.Many has is = is
split_by bytes fails records ending.Memory has is = absurd (has refl)

pub same_marked : (bytes : List ℕ) (fails : Bool) (records others : List (List ℕ)) (mark other : Mark)
    → IsMarked bytes fails records mark → IsMarked bytes fails others other
    → mark ≢ Ended ending.Memory → other ≢ Ended ending.Memory → (records ≡ others) × (mark ≡ other)
same_marked bytes fails records others Io Io is is' has has' =
    let one = is.1 in
    let two = is'.1 in
    ((split_same bytes records others one.0 two.0 one.1 two.1).0, refl)
same_marked bytes fails records others Io (Ended end) is is' has has' = absurd ((split_by bytes fails others end has' is').0 is.0)
same_marked bytes fails records others (Ended end) Io is is' has has' = absurd ((split_by bytes fails records end has is).0 is'.0)
same_marked bytes fails records others (Ended end) (Ended end') is is' has has' =
    let same = split_same bytes records others end end' (split_by bytes fails records end has is).1 (split_by bytes fails others end' has' is').1 in
    (same.0, ap Ended same.1)

-- what is found in a file with these known bytes is marked by them
pub marked_as_known : (known : Option (List ℕ)) (known_fails : Bool) (all : List ℕ) (records : List (List ℕ)) (mark : Mark) (bytes : List ℕ) (fails : Bool)
    → known ≡ Some all → IsKnownOf known known_fails bytes fails → IsMarked bytes fails records mark → IsMarked all known_fails records mark
marked_as_known None known_fails all records mark bytes fails e gave marked = absurd (let never : ⊥ = cc e in never)
marked_as_known (Some known) known_fails all records mark bytes fails e gave marked =
    let read : bytes ≡ all = sym gave.0 ∙ ap (λ (o : Option (List ℕ)). unwrap_or o []) e in
    subst (λ (b : List ℕ). IsMarked b known_fails records mark) read
    (subst (λ (f : Bool). IsMarked bytes f records mark) (sym gave.1) marked)

pub book_marked : (choice : Choice) (meaning : Meaning) (file : ℕ) (book : BookModel) (bytes : List ℕ) → known_of meaning ≡ Some bytes
    → (is : IsBook choice meaning file book) → IsMarked bytes (fails_of meaning) is.whole.records book.mark
book_marked choice meaning file book bytes known is =
    let found = is.whole.found in
    marked_as_known (known_of meaning) (fails_of meaning) bytes is.whole.records book.mark found.bytes found.fails known found.gave found.marked
