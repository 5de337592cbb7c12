-- Records that were read of a source stand at their places in its known bytes.
use Rattle.std.proofs.Common.{◌≡◌, ℕ, ◌+◌, Bool, List, [], ◌∷◌, ◌++◌, Option, None, Some, Result, Ok, Err, length, refl, sym, ap, subst, ◌∙◌, append_assoc, append-nil, length-append, arith}
use Rattle.std.specs.Prelude.{⊤}
use Rattle.planar_code.specs.declared.partial_record.Ending.{Ending}
use Rattle.planar_code.specs.declared.partial_record.Ending.TheVariants as ending
use Rattle.planar_code.specs.Split.{IsSplit}
use Rattle.planar_code.specs.FramerState.{FramerState}
use Rattle.planar_code.proofs.Splits.{split_same}
use Rattle.streams.specs.declared.frames.Mark.{Mark}
use Rattle.streams.specs.declared.frames.Mark.TheVariants.{Ended, Io}
use Rattle.planar_code.specs.declared.partial_record.FeedFault.{FeedFault}
use Rattle.streams.specs.Marks.{IsMarked, IsBeginningOf}
use Rattle.streams.specs.Reading.{IsFoundIn, IsBeingRead}
use Rattle.streams.specs.Placing.{IsAt, IsPlaced, EachAt, ArePlaced}
use Rattle.streams.proofs.Marks.{beginning_stands}
use Rattle.streams.proofs.Pieces.{LeadsTo, told_so_far}

-- the records are the first of those of a source's known bytes
abbrev pub AreFirst : Option (List ℕ) → List (List ℕ) → Type 0
AreFirst None records = ⊤
AreFirst (Some known) records = (all : List (List ℕ)) (end : Ending) → IsSplit known all end → IsBeginningOf records all

placed_unknown : (first : ℕ) (records : List (List ℕ)) → ArePlaced None first records
placed_unknown first [] = tt
placed_unknown first (bytes ∷ records) = (tt, placed_unknown (first + 1) records)

placed_known : (known : List ℕ) (found records : List (List ℕ)) → AreFirst (Some known) (found ++ records) → ArePlaced (Some known) (length found) records
placed_known known found [] first = tt
placed_known known found (bytes ∷ records) first =
    let more : AreFirst (Some known) ((found ++ bytes ∷ []) ++ records) =
    λ all end split. let f = first all end split in (f.0, f.1 ∙ ap (λ l. l ++ f.0) (sym (append_assoc found (bytes ∷ []) records))) in (
      λ all end split. let f = first all end split in
          record { front = found; rest = records ++ f.0; parts = f.1 ∙ append_assoc found (bytes ∷ records) f.0; before = refl },
      subst (λ n. ArePlaced (Some known) n records) (length-append found (bytes ∷ [])) (placed_known known (found ++ bytes ∷ []) records more),
    )

-- the last of them stand after the others
pub placed_after : (known : Option (List ℕ)) (found records : List (List ℕ)) → AreFirst known (found ++ records) → ArePlaced known (length found) records
placed_after None found records first = placed_unknown (length found) records
placed_after (Some known) found records first = placed_known known found records first

pub placed_from : (known : Option (List ℕ)) (found records : List (List ℕ)) (place : ℕ) → place ≡ length found → AreFirst known (found ++ records) → ArePlaced known place records
placed_from known found records place is first = subst (λ n. ArePlaced known n records) (sym is) (placed_after known found records first)

same_first : (bytes : List ℕ) (records all : List (List ℕ)) (end other : Ending) → IsSplit bytes records other → IsSplit bytes all end → IsBeginningOf records all
same_first bytes records all end other mine split = ([], (split_same bytes all records end other split mine).0 ∙ sym (append-nil records))

-- the records that come with a mark
pub marked_first : (bytes : List ℕ) (fails : Bool) (records : List (List ℕ)) (mark : Mark) → IsMarked bytes fails records mark
    → (all : List (List ℕ)) (end : Ending) → IsSplit bytes all end → IsBeginningOf records all
marked_first bytes fails records Io m all end split = same_first bytes records all end m.1.0 m.1.1 split
marked_first bytes fails records (Ended ending.Complete) m all end split = same_first bytes records all end ending.Complete m.1 split
marked_first bytes fails records (Ended ending.Truncated) m all end split = same_first bytes records all end ending.Truncated m.1 split
marked_first bytes fails records (Ended ending.Header) m all end split = same_first bytes records all end ending.Header m.1 split
marked_first bytes fails records (Ended ending.Large) m all end split = same_first bytes records all end ending.Large m.1 split
marked_first bytes fails records (Ended ending.Oversize) m all end split = same_first bytes records all end ending.Oversize m.1 split
marked_first bytes fails records (Ended ending.Many) m all end split = same_first bytes records all end ending.Many m.1 split
marked_first bytes fails records (Ended ending.Memory) m all end split = m all end split

pub first_found : (known : Option (List ℕ)) (fails : Bool) (records : List (List ℕ)) (mark : Mark) → IsFoundIn known fails records mark → AreFirst known records
first_found None fails records mark f = tt
first_found (Some known) fails records mark f = λ all end split.
    marked_first f.bytes f.fails records mark f.marked all end (subst (λ t. IsSplit t all end) f.gave.0 split)

first_read : (known : Option (List ℕ)) (known_fails : Bool) (rounds : ℕ) (to_come : Option (List ℕ)) (fails : Bool) (records : List (List ℕ)) (state : FramerState)
    → IsBeingRead known known_fails rounds to_come fails records state → AreFirst known records
first_read None known_fails rounds to_come fails records state r = tt
first_read (Some known) known_fails rounds None fails records state r = absurd r.took
first_read (Some known) known_fails rounds (Some left) fails records state r = λ all end split.
    beginning_stands r.read left records state r.stands all end (subst (λ t. IsSplit t all end) r.took split)

-- the records that one more read led to
pub first_step : (known : Option (List ℕ)) (known_fails : Bool) (rounds : ℕ) (to_come : Option (List ℕ)) (fails : Bool) (records : List (List ℕ)) (state : FramerState) (led : Result Unit FeedFault)
    → LeadsTo known known_fails rounds to_come fails records state led → AreFirst known records
first_step known known_fails rounds to_come fails records state (Ok _) leads = first_read known known_fails (rounds + 1) to_come fails records state leads
first_step known known_fails rounds to_come fails records state (Err fault) leads = first_found known known_fails records (Ended _) leads

-- the records so far are found, if memory then runs out
pub found_so_far : (known : Option (List ℕ)) (known_fails : Bool) (rounds : ℕ) (to_come : Option (List ℕ)) (fails : Bool) (records : List (List ℕ)) (state : FramerState) (led : Result Unit FeedFault)
    → LeadsTo known known_fails rounds to_come fails records state led → IsFoundIn known known_fails records (Ended ending.Memory)
found_so_far known known_fails rounds to_come fails records state (Ok _) leads =
    let more = told_so_far known to_come known_fails leads.read leads.took in
    record {
      bytes = leads.read ++ more.0;
      fails = more.1;
      gave = more.2;
      marked = λ all end split. beginning_stands leads.read more.0 records state leads.stands all end split;
    }
found_so_far known known_fails rounds to_come fails records state (Err fault) leads = record {
  bytes = leads.bytes;
  fails = leads.fails;
  gave = leads.gave;
  marked = marked_first leads.bytes leads.fails records (Ended _) leads.marked;
}

-- of records in a row, the one after the first ones
pub each_at : (fits : ℕ → List ℕ → Type 0) (first : ℕ) (before : List (List ℕ)) (bytes : List ℕ) (rest : List (List ℕ)) → EachAt fits first (before ++ bytes ∷ rest)
    → fits (first + length before) bytes
each_at fits first [] bytes rest each = subst (λ n. fits n bytes) (omega arith) each.0
each_at fits first (b ∷ before) bytes rest each = subst (λ n. fits n bytes) (omega arith) (each_at fits (first + 1) before bytes rest each.1)

-- what fits in one way fits in another
pub each_as : (fits others : ℕ → List ℕ → Type 0) → ((place : ℕ) (bytes : List ℕ) → fits place bytes → others place bytes)
    → (first : ℕ) (records : List (List ℕ)) → EachAt fits first records → EachAt others first records
each_as fits others to first [] each = tt
each_as fits others to first (bytes ∷ records) each = (to first bytes each.0, each_as fits others to (first + 1) records each.1)
