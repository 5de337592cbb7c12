-- Any records, as many as a file may have, are those of some bytes that end as a file of as many may.
use Rattle.std.proofs.Common.{◌≡◌, ◌≢◌, ℕ, ◌+◌, ◌<◌, ◌≤◌, Bool, false, true, List, [], ◌∷◌, ◌++◌, Option, None, Some, inl, inr, length, All, replicate, refl, sym, ap, subst, ◌∙◌, arith, append_assoc, append-nil, length-append}
use Rattle.std.specs.Prelude.{⊤}
use Rattle.std.proofs.Math.Logic.{∥∥₁_map}
use Rattle.std.proofs.lemmas.Bool.{false≢true}
use Rattle.std.proofs.lemmas.Grind.{merely}
use Rattle.std.proofs.lemmas.List.{length-replicate}
use Rattle.std.proofs.lemmas.List.Elements.{All-head, All-tail, All-nil, All-replicate}
use Rattle.planar_code.specs.declared.TheConstants.{HEADER, MAX_RECORDS}
use Rattle.planar_code.specs.declared.partial_record.Ending.{Ending}
use Rattle.planar_code.specs.declared.partial_record.Ending.TheVariants as ending
use Rattle.planar_code.specs.declared.partial_record.FeedFault.{FeedFault}
use Rattle.planar_code.specs.declared.partial_record.FeedFault.TheVariants as fault
use Rattle.planar_code.specs.Stream.{IsEntry, IsList, IsRecord, lists_of}
use Rattle.planar_code.specs.Split.{IsSplit, ending_of}
use Rattle.planar_code.specs.Started.{IsStarted}
use Rattle.planar_code.specs.FramerState.{After, Failed, StandsAt, Goes}
use Rattle.planar_code.proofs.Started.{started-first, started-unfinished, started-oversize}
use Rattle.planar_code.proofs.LeadsTo.{goes_more, goes_whole, fails_many, fails_large, fails_oversize, standing-header}
use Rattle.streams.specs.declared.frames.Mark.{Mark}
use Rattle.streams.specs.declared.frames.Mark.TheVariants.{Ended, Io}
use Rattle.streams.specs.Marks.{IsMarked}
use Rattle.streams.specs.Reading.{IsFoundIn}
use Rattle.streams.proofs.Marks.{split_stands, open_stands, beginning_stands}
use Rattle.streams.proofs.Pieces.{marked_split}
use Rattle.answers.specs.Spelt.{IsSpelt}
use Rattle.lanes.specs.Opening.{Silent, IsFoundAt, IsEndAt}
use Rattle.collector.proofs.ToldEnds.{mark_or_memory}

-- some file of `count` records, at most 1,000,000, has this mark
abbrev pub MayEnd : Mark → ℕ → Type 0
MayEnd Io count = ⊤
MayEnd (Ended ending.Complete) count = ⊤
MayEnd (Ended ending.Truncated) count = count ≢ MAX_RECORDS
MayEnd (Ended ending.Header) count = count ≡ 0
MayEnd (Ended ending.Large) count = count ≢ MAX_RECORDS
MayEnd (Ended ending.Oversize) count = count ≢ MAX_RECORDS
MayEnd (Ended ending.Memory) count = ⊤
MayEnd (Ended ending.Many) count = count ≡ MAX_RECORDS

may_split : (bytes : List ℕ) (records : List (List ℕ)) (end : Ending) → IsSplit bytes records end → MayEnd (Ended end) (length records)
may_split bytes records ending.Complete split = tt
may_split bytes records ending.Memory split = tt
may_split bytes records ending.Header (inl h) = ap (λ (rs : List (List ℕ)). length rs) h.none
may_split bytes records ending.Header (inr h) = absurd h.ends
may_split bytes records ending.Truncated (inl h) = absurd (let e = h.ends in let none : ⊥ = cc in none)
may_split bytes records ending.Truncated (inr h) = h.ends.2
may_split bytes records ending.Large (inl h) = absurd (let e = h.ends in let none : ⊥ = cc in none)
may_split bytes records ending.Large (inr h) = h.ends.1
may_split bytes records ending.Oversize (inl h) = absurd (let e = h.ends in let none : ⊥ = cc in none)
may_split bytes records ending.Oversize (inr h) = h.ends.3
may_split bytes records ending.Many (inl h) = absurd (let e = h.ends in let none : ⊥ = cc in none)
may_split bytes records ending.Many (inr h) = h.ends.1

-- a mark that some bytes have with these records
may_marked : (bytes : List ℕ) (fails : Bool) (records : List (List ℕ)) (mark : Mark) → IsMarked bytes fails records mark → MayEnd mark (length records)
may_marked bytes fails records Io m = tt
may_marked bytes fails records (Ended ending.Complete) m = tt
may_marked bytes fails records (Ended ending.Memory) m = tt
may_marked bytes fails records (Ended ending.Header) m = may_split bytes records ending.Header m.1
may_marked bytes fails records (Ended ending.Truncated) m = may_split bytes records ending.Truncated m.1
may_marked bytes fails records (Ended ending.Large) m = may_split bytes records ending.Large m.1
may_marked bytes fails records (Ended ending.Oversize) m = may_split bytes records ending.Oversize m.1
may_marked bytes fails records (Ended ending.Many) m = may_split bytes records ending.Many m.1

pub record_spelt : (bytes : List ℕ) → IsSpelt bytes → IsRecord bytes
record_spelt bytes s = record { lists = lists_of bytes; spelt = s.spelt; each = s.each; some = s.some; few = s.few }

-- a stream of these records after others
stands_after : (stream : List ℕ) (before records : List (List ℕ)) → All IsRecord records → length before + length records ≤ MAX_RECORDS → StandsAt stream before (After (length before) [])
    → (whole : List ℕ) × StandsAt whole (before ++ records) (After (length (before ++ records)) [])
stands_after stream before [] all few s = (stream, subst (λ rs. StandsAt stream rs (After (length rs) [])) (sym (append-nil before)) s)
stands_after stream before (r ∷ records) all few s =
    let room : length before < MAX_RECORDS = omega (arith, few) in
    let step = goes_whole (length before) [] r r room refl (All-head IsRecord r records all) stream before s in
    let count : length before + 1 ≡ length (before ++ r ∷ []) = omega (arith, length-append before (r ∷ [])) in
    let rest = stands_after (stream ++ r) (before ++ r ∷ []) records (All-tail IsRecord r records all) (omega (arith, few, count))
    (subst (λ n. StandsAt (stream ++ r) (before ++ r ∷ []) (After n [])) count step) in
    (rest.0, subst (λ rs. StandsAt rest.0 rs (After (length rs) [])) (append_assoc before (r ∷ []) records) rest.1)

-- a source that told nothing may have given any bytes
found_split : (bytes : List ℕ) (records : List (List ℕ)) (end : Ending) → IsSplit bytes records end → IsFoundIn None false records (Ended end)
found_split bytes records end split = record { bytes = bytes; fails = false; gave = tt; marked = marked_split bytes false records end (λ short. false≢true short.0) split }

-- one that goes on to a fault
found_fault : (stream more : List ℕ) (records : List (List ℕ)) (count : ℕ) (f : FeedFault) → StandsAt stream records (After count []) → Goes (After count []) more [] (Failed f)
    → IsFoundIn None false records (Ended (ending_of f))
found_fault stream more records count f s goes =
    let failed : StandsAt (stream ++ more) (records ++ []) (Failed f) = goes stream records s in
    subst (λ rs. IsFoundIn None false rs (Ended (ending_of f))) (append-nil records) (found_split ((stream ++ more) ++ []) (records ++ []) (ending_of f) (failed []))

-- a list that is too long
long_list : List ℕ
long_list = 1 ∷ replicate 254 1

long_started : IsStarted long_list 1 254
unfolding long_list
long_started = record {
  lists = [];
  current = replicate 254 1;
  spelt = refl;
  each = All-nil IsList;
  current_each = All-replicate IsEntry 254 1 (omega arith, omega arith);
  counted = length-replicate {A = ℕ} 254 1;
  short = omega arith;
  some = omega arith;
  few = omega arith;
}

found_header : IsFoundIn None false [] (Ended ending.Header)
found_header = found_split [] [] ending.Header (inl (record { header = λ body e. cc; none = refl; ends = refl }))

-- the mark that these records have in some file
found_at : (stream : List ℕ) (records : List (List ℕ)) (mark : Mark) → StandsAt stream records (After (length records) []) → MayEnd mark (length records) → IsFoundIn None false records mark
found_at stream records Io s may = record {
  bytes = stream;
  fails = true;
  gave = tt;
  marked = ((refl, open_stands stream records (After (length records) []) s (λ f e. cc)), split_stands stream records (After (length records) []) s);
}
found_at stream records (Ended ending.Complete) s may =
    found_split stream records ending.Complete (inr (record { body = s.body; rest = []; with_header = s.with_header; divided = s.divided; ends = refl }))
found_at stream records (Ended ending.Truncated) s may =
    let n = length records in
    let t : StandsAt (stream ++ 1 ∷ []) (records ++ []) (After n (1 ∷ [])) =
    goes_more n [] (1 ∷ []) may (started-unfinished (1 ∷ []) 1 0 (started-first 1 (omega arith) (omega arith))) stream records s in
    subst (λ rs. IsFoundIn None false rs (Ended ending.Truncated)) (append-nil records)
    (found_split (stream ++ 1 ∷ []) (records ++ []) ending.Truncated (inr (record {
      body = t.body;
      rest = 1 ∷ [];
      with_header = t.with_header;
      divided = t.divided;
      ends = (t.partial_record, (λ e. cc), λ full. may (sym t.counted ∙ full));
    })))
found_at stream [] (Ended ending.Header) s may = found_header
found_at stream (r ∷ records) (Ended ending.Header) s may = absurd (let none : ⊥ = omega (arith, may) in none)
found_at stream records (Ended ending.Large) s may =
    found_fault stream (0 ∷ []) records (length records) fault.Large s (fails_large (length records) [] (0 ∷ []) may ([], refl))
found_at stream records (Ended ending.Oversize) s may =
    found_fault stream (long_list ++ 1 ∷ []) records (length records) fault.Oversize s
    (fails_oversize (length records) [] (long_list ++ 1 ∷ []) may (started-oversize long_list 1 254 1 [] long_started (omega arith, omega arith) refl))
found_at stream records (Ended ending.Memory) s may = record {
  bytes = stream;
  fails = false;
  gave = tt;
  marked = λ all end split. beginning_stands stream [] records (After (length records) []) s all end (subst (λ t. IsSplit t all end) (sym (append-nil stream)) split);
}
found_at stream records (Ended ending.Many) s may =
    found_fault stream (0 ∷ []) records (length records) fault.Many s (fails_many (length records) [] (0 ∷ []) may (λ e. cc))

pub found_any : (records : List (List ℕ)) (mark : Mark) → All IsRecord records → length records ≤ MAX_RECORDS → MayEnd mark (length records) → IsFoundIn None false records mark
found_any records mark all few may =
    let stands = stands_after HEADER [] records all (omega (arith, few)) standing-header in
    found_at stands.0 records mark stands.1 may

-- records of a file of which nothing is known, with its mark or `Memory`
pub found_unknown : (records : List (List ℕ)) (count : ℕ) (was : Option Mark) → All IsRecord records → length records ≤ MAX_RECORDS → count ≡ length records
    → ((mark : Mark) → was ≡ Some mark → ∥ IsEndAt Silent count mark ∥₁) → ∥ IsFoundAt Silent records (mark_or_memory was) ∥₁
found_unknown records count None all few same ends = merely (found_any records (Ended ending.Memory) all few tt)
found_unknown records count (Some mark) all few same ends = ∥∥₁_map (ends mark refl) (λ known.
    let f = known.found in
    found_any records mark all few (subst (MayEnd mark) (known.counted ∙ same) (may_marked f.bytes f.fails known.records mark f.marked)))
