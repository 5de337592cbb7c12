-- What one more piece of a source leads to.
use Rattle.std.proofs.Common.{◌≡◌, ◌≢◌, ℕ, ◌+◌, ◌<◌, Bool, true, false, List, [], ◌∷◌, ◌++◌, Option, None, Some, Result, Ok, Err, inl, inr, length, refl, sym, ap, subst, ◌∙◌, append_assoc, append-nil, length-append, arith}
use Rattle.std.specs.Io.KnownBytes.{Consumes}
use Rattle.planar_code.specs.declared.TheConstants.{HEADER}
use Rattle.planar_code.specs.declared.partial_record.Ending.{Ending}
use Rattle.planar_code.specs.declared.partial_record.Ending.TheVariants as ending
use Rattle.planar_code.specs.declared.partial_record.FeedFault.{FeedFault}
use Rattle.planar_code.specs.declared.partial_record.FeedFault.TheVariants as fault
use Rattle.planar_code.specs.Split.{IsSplit, ending_of}
use Rattle.planar_code.specs.FramerState.{FramerState, Early, Failed, StandsAt, Goes, LosesRecord, Feeds}
use Rattle.planar_code.proofs.Splits.{split_same}
use Rattle.streams.specs.declared.frames.Mark.{Mark}
use Rattle.streams.specs.declared.frames.Mark.TheVariants as mark
use Rattle.streams.specs.Tap.{IsAtItsEnd, IsAtItsFailure}
use Rattle.streams.specs.Marks.{IsMarked, IsInterrupted}
use Rattle.streams.specs.Reading.{IsKnownOf, IsFoundIn, IsBeingRead}
use Rattle.streams.proofs.Marks.{split_stands, open_stands, failed_not_open, beginning_stands}

-- nothing was given
consumed_none : (a : Option (List ℕ)) → Consumes a a []
consumed_none None = tt
consumed_none (Some x) = refl

-- one piece and then another
consumed_both : (a b c : Option (List ℕ)) (xs ys : List ℕ) → Consumes a b xs → Consumes b c ys → Consumes a c (xs ++ ys)
consumed_both None b c xs ys p q = tt
consumed_both (Some x) None c xs ys p q = absurd p
consumed_both (Some x) (Some y) None xs ys p q = absurd q
consumed_both (Some x) (Some y) (Some z) xs ys p q = p ∙ ap (λ l. xs ++ l) q ∙ sym (append_assoc xs ys z)

-- the bytes that were read are all, where the source fails
told_at_failure : (known to_come : Option (List ℕ)) (known_fails fails : Bool) (read : List ℕ) → Consumes known to_come read → fails ≡ known_fails
    → IsAtItsFailure to_come fails → IsKnownOf known known_fails read true
told_at_failure None to_come known_fails fails read took same at = tt
told_at_failure (Some xs) None known_fails fails read took same at = absurd took
told_at_failure (Some xs) (Some ys) known_fails fails read took same at =
    (took ∙ ap (λ l. read ++ l) at.0 ∙ append-nil read, sym same ∙ at.1)

-- the same where it ends
told_at_end : (known to_come : Option (List ℕ)) (known_fails fails : Bool) (read : List ℕ) → Consumes known to_come read → fails ≡ known_fails
    → IsAtItsEnd to_come fails → IsKnownOf known known_fails read false
told_at_end None to_come known_fails fails read took same at = tt
told_at_end (Some xs) None known_fails fails read took same at = absurd took
told_at_end (Some xs) (Some ys) known_fails fails read took same at =
    (took ∙ ap (λ l. read ++ l) at.0 ∙ append-nil read, sym same ∙ at.1)

-- where reading stops, some bytes may be left; where the source's bytes are known, they are all of them
pub told_so_far : (known to_come : Option (List ℕ)) (known_fails : Bool) (read : List ℕ) → Consumes known to_come read
    → (left : List ℕ) × (fails : Bool) × IsKnownOf known known_fails (read ++ left) fails
told_so_far None to_come known_fails read took = ([], false, tt)
told_so_far (Some xs) None known_fails read took = absurd took
told_so_far (Some xs) (Some ys) known_fails read took = (ys, known_fails, (took, refl))

-- a split, where the source is not cut short, gives the records and the mark
pub marked_split : (bytes : List ℕ) (fails : Bool) (records : List (List ℕ)) (end : Ending) → (IsInterrupted bytes fails → ⊥) → IsSplit bytes records end
    → IsMarked bytes fails records (mark.Ended end)
marked_split bytes fails records ending.Complete whole split = (whole, split)
marked_split bytes fails records ending.Truncated whole split = (whole, split)
marked_split bytes fails records ending.Header whole split = (whole, split)
marked_split bytes fails records ending.Large whole split = (whole, split)
marked_split bytes fails records ending.Oversize whole split = (whole, split)
marked_split bytes fails records ending.Many whole split = (whole, split)
marked_split bytes fails records ending.Memory whole split = λ all end other. ([], (split_same bytes all records end _ other split).0 ∙ sym (append-nil records))

-- the source failed
pub found_failed : (known to_come : Option (List ℕ)) (known_fails fails : Bool) (rounds : ℕ) (records : List (List ℕ)) (state : FramerState)
    → IsBeingRead known known_fails rounds to_come fails records state → IsAtItsFailure to_come fails → IsFoundIn known known_fails records mark.Io
found_failed known to_come known_fails fails rounds records state r at = record {
  bytes = r.read;
  fails = true;
  gave = told_at_failure known to_come known_fails fails r.read r.took r.same at;
  marked = ((refl, open_stands r.read records state r.stands r.running), split_stands r.read records state r.stands);
}

-- the framer took the piece
read_more : (known before after : Option (List ℕ)) (known_fails fails now_fails : Bool) (rounds : ℕ) (earlier old new : List (List ℕ)) (state now_state : FramerState) (piece : List ℕ) (u : Unit {0})
    → 0 < length piece → IsBeingRead known known_fails rounds before fails (earlier ++ old) state → Consumes before after piece → now_fails ≡ fails
    → Feeds state piece old new now_state (Ok u) → IsBeingRead known known_fails (rounds + 1) after now_fails (earlier ++ new) now_state
read_more known before after known_fails fails now_fails rounds earlier old new state now_state piece u some r took same f = record {
  read = r.read ++ piece;
  took = consumed_both known before after r.read piece r.took took;
  same = same ∙ r.same;
  stands = subst (λ rs. StandsAt (r.read ++ piece) rs now_state) (append_assoc earlier old f.added ∙ ap (λ rs. earlier ++ rs) (sym f.appended))
      (f.reads.1 r.read (earlier ++ old) r.stands);
  running = f.reads.0;
  went = let w = r.went in omega (arith, length-append r.read piece);
}

-- a fault of the bytes, however they go on
found_faulted : (known before after : Option (List ℕ)) (known_fails fails : Bool) (rounds : ℕ) (earlier old new : List (List ℕ)) (state : FramerState) (piece : List ℕ) (f : FeedFault)
    → IsBeingRead known known_fails rounds before fails (earlier ++ old) state → Consumes before after piece
    → (added : List (List ℕ)) → new ≡ old ++ added → Goes state piece added (Failed f)
    → IsFoundIn known known_fails (earlier ++ new) (mark.Ended (ending_of f))
found_faulted known before after known_fails fails rounds earlier old new state piece f r took added appended goes =
    let records : (earlier ++ old) ++ added ≡ earlier ++ new = append_assoc earlier old added ∙ ap (λ rs. earlier ++ rs) (sym appended) in
    let stands : StandsAt (r.read ++ piece) (earlier ++ new) (Failed f) =
    subst (λ rs. StandsAt (r.read ++ piece) rs (Failed f)) records (goes r.read (earlier ++ old) r.stands) in
    let so_far = told_so_far known after known_fails (r.read ++ piece) (consumed_both known before after r.read piece r.took took) in
    record {
      bytes = (r.read ++ piece) ++ so_far.0;
      fails = so_far.1;
      gave = so_far.2;
      marked = marked_split _ so_far.1 _ (ending_of f) (λ cut. failed_not_open (r.read ++ piece) so_far.0 (earlier ++ new) f stands cut.1) (stands so_far.0);
    }

-- memory runs out for one more record
found_wanting : (known before after : Option (List ℕ)) (known_fails fails : Bool) (rounds : ℕ) (earlier old new : List (List ℕ)) (state : FramerState) (piece : List ℕ)
    → IsBeingRead known known_fails rounds before fails (earlier ++ old) state → Consumes before after piece
    → (added : List (List ℕ)) → new ≡ old ++ added → LosesRecord state piece added
    → IsFoundIn known known_fails (earlier ++ new) (mark.Ended ending.Memory)
found_wanting known before after known_fails fails rounds earlier old new state piece r took added appended loses =
    let so_far = told_so_far known after known_fails (r.read ++ piece) (consumed_both known before after r.read piece r.took took) in
    let stands = loses.goes r.read (earlier ++ old) r.stands in
    let bytes : (r.read ++ piece) ++ so_far.0 ≡ (r.read ++ loses.front) ++ (loses.back ++ so_far.0) =
    ap (λ l. (r.read ++ l) ++ so_far.0) loses.parts ∙ ap (λ l. l ++ so_far.0) (sym (append_assoc r.read loses.front loses.back)) ∙ append_assoc (r.read ++ loses.front) loses.back so_far.0 in
    record {
      bytes = (r.read ++ piece) ++ so_far.0;
      fails = so_far.1;
      gave = so_far.2;
      marked = λ all end split.
          let b = beginning_stands (r.read ++ loses.front) (loses.back ++ so_far.0) _ loses.next stands all end (subst (λ t. IsSplit t all end) bytes split) in
          let regrouped : ((earlier ++ old) ++ (added ++ loses.lost ∷ [])) ++ b.0 ≡ (earlier ++ (old ++ added)) ++ (loses.lost ∷ b.0) = simp append_assoc in
          (loses.lost ∷ b.0, b.1 ∙ regrouped ∙ ap (λ rs. (earlier ++ rs) ++ (loses.lost ∷ b.0)) (sym appended));
    }

-- the framer read no further
found_stopped : (known before after : Option (List ℕ)) (known_fails fails : Bool) (rounds : ℕ) (earlier old new : List (List ℕ)) (state now_state : FramerState) (piece : List ℕ) (f : FeedFault)
    → IsBeingRead known known_fails rounds before fails (earlier ++ old) state → Consumes before after piece
    → Feeds state piece old new now_state (Err f) → IsFoundIn known known_fails (earlier ++ new) (mark.Ended (ending_of f))
found_stopped known before after known_fails fails rounds earlier old new state now_state piece fault.Memory r took feeds =
    elim feeds.reads.1 [
      | inl failed ↦ absurd (r.running fault.Memory failed.0)
      | inr loses ↦ found_wanting known before after known_fails fails rounds earlier old new state piece r took feeds.added feeds.appended loses
    ]
found_stopped known before after known_fails fails rounds earlier old new state now_state piece fault.Header r took feeds =
    found_faulted known before after known_fails fails rounds earlier old new state piece fault.Header r took feeds.added feeds.appended (subst (Goes state piece feeds.added) feeds.reads.0 feeds.reads.1)
found_stopped known before after known_fails fails rounds earlier old new state now_state piece fault.Large r took feeds =
    found_faulted known before after known_fails fails rounds earlier old new state piece fault.Large r took feeds.added feeds.appended (subst (Goes state piece feeds.added) feeds.reads.0 feeds.reads.1)
found_stopped known before after known_fails fails rounds earlier old new state now_state piece fault.Oversize r took feeds =
    found_faulted known before after known_fails fails rounds earlier old new state piece fault.Oversize r took feeds.added feeds.appended (subst (Goes state piece feeds.added) feeds.reads.0 feeds.reads.1)
found_stopped known before after known_fails fails rounds earlier old new state now_state piece fault.Many r took feeds =
    found_faulted known before after known_fails fails rounds earlier old new state piece fault.Many r took feeds.added feeds.appended (subst (Goes state piece feeds.added) feeds.reads.0 feeds.reads.1)

-- no new records yet
nothing_new : (known to_come : Option (List ℕ)) (known_fails fails : Bool) (rounds : ℕ) (records new : List (List ℕ)) (state : FramerState) → new ≡ []
    → IsBeingRead known known_fails rounds to_come fails records state → IsBeingRead known known_fails rounds to_come fails (records ++ new) state
nothing_new known to_come known_fails fails rounds records new state none r =
    subst (λ rs. IsBeingRead known known_fails rounds to_come fails rs state) (sym (ap (λ l. records ++ l) none ∙ append-nil records)) r

-- what one more piece leads to: there may be more, or the framer has stopped
abbrev pub LeadsTo : Option (List ℕ) → Bool → ℕ → Option (List ℕ) → Bool → List (List ℕ) → FramerState → Result Unit FeedFault → Type 0
LeadsTo known known_fails rounds to_come fails records state (Ok _) = IsBeingRead known known_fails (rounds + 1) to_come fails records state
LeadsTo known known_fails rounds to_come fails records state (Err fault) = IsFoundIn known known_fails records (mark.Ended (ending_of fault))

-- the framer was fed the piece
pub fed_piece : (known before after : Option (List ℕ)) (known_fails fails now_fails : Bool) (rounds : ℕ) (earlier old new : List (List ℕ)) (state now_state : FramerState) (piece : List ℕ) (result : Result Unit FeedFault)
    → old ≡ [] → 0 < length piece → IsBeingRead known known_fails rounds before fails earlier state → Consumes before after piece → now_fails ≡ fails
    → Feeds state piece old new now_state result → LeadsTo known known_fails rounds after now_fails (earlier ++ new) now_state result
fed_piece known before after known_fails fails now_fails rounds earlier old new state now_state piece (Ok u) none some r took same feeds =
    read_more known before after known_fails fails now_fails rounds earlier old new state now_state piece u some (nothing_new known before known_fails fails rounds earlier old state none r) took same feeds
fed_piece known before after known_fails fails now_fails rounds earlier old new state now_state piece (Err fault) none some r took same feeds =
    found_stopped known before after known_fails fails rounds earlier old new state now_state piece fault (nothing_new known before known_fails fails rounds earlier old state none r) took feeds

-- no framer was to be had
pub found_nothing : (known : Option (List ℕ)) (known_fails : Bool) (records : List (List ℕ)) → records ≡ [] → IsFoundIn known known_fails records (mark.Ended ending.Memory)
found_nothing known known_fails records none =
    let so_far = told_so_far known known known_fails [] (consumed_none known) in
    record {
      bytes = so_far.0;
      fails = so_far.1;
      gave = so_far.2;
      marked = λ all end split. (all, ap (λ rs. rs ++ all) (sym none));
    }

-- the source ended, and the framer's ending is the source's
pub found_ended : (known to_come : Option (List ℕ)) (known_fails fails : Bool) (rounds : ℕ) (records : List (List ℕ)) (state : FramerState) (end : Ending)
    → IsBeingRead known known_fails rounds to_come fails records state → IsAtItsEnd to_come fails
    → ((stream : List ℕ) (rs : List (List ℕ)) → StandsAt stream rs state → IsSplit stream rs end) → IsFoundIn known known_fails records (mark.Ended end)
found_ended known to_come known_fails fails rounds records state end r at finish = record {
  bytes = r.read;
  fails = false;
  gave = told_at_end known to_come known_fails fails r.read r.took r.same at;
  marked = marked_split r.read false records end (λ cut. let never : false ≡ true = cut.0 in (cc)) (finish r.read records r.stands);
}

-- before the first read
pub nothing_read : (known : Option (List ℕ)) (known_fails : Bool) (records : List (List ℕ)) (state : FramerState) → records ≡ [] → state ≡ Early []
    → IsBeingRead known known_fails 0 known known_fails records state
nothing_read known known_fails records state none is =
    let some : HEADER ≢ [] = λ e. cc in
    let stands : StandsAt [] records (Early []) = record { none = none; same = refl; missing = HEADER; more = some; whole = refl } in
    record {
      read = [];
      took = consumed_none known;
      same = refl;
      stands = subst (StandsAt [] records) (sym is) stands;
      running = λ f e. let both : Early [] ≡ Failed f = sym is ∙ e in cc;
      went = omega arith;
    }

-- a source whose bytes are known gave these
pub found_known : (known : Option (List ℕ)) (known_fails : Bool) (records : List (List ℕ)) (found : Mark) → IsFoundIn known known_fails records found
    → (bytes : List ℕ) → known ≡ Some bytes → IsMarked bytes known_fails records found
found_known known known_fails records found f bytes is =
    let gave : IsKnownOf (Some bytes) known_fails f.bytes f.fails = subst (λ (t : Option (List ℕ)). IsKnownOf t known_fails f.bytes f.fails) is f.gave in
    subst (λ b. IsMarked b known_fails records found) (sym gave.0) (subst (λ b. IsMarked f.bytes b records found) (sym gave.1) f.marked)

-- any source gave some bytes
pub found_unknown : (known : Option (List ℕ)) (known_fails : Bool) (records : List (List ℕ)) (found : Mark) → IsFoundIn known known_fails records found
    → (bytes : List ℕ) × ((fails : Bool) × IsMarked bytes fails records found)
found_unknown known known_fails records found f = (f.bytes, (f.fails, f.marked))

-- the same records and the same mark
pub found_as : (known : Option (List ℕ)) (fails : Bool) (records others : List (List ℕ)) (mark other : Mark) → records ≡ others → mark ≡ other → IsFoundIn known fails others other → IsFoundIn known fails records mark
found_as known fails records others mark other same is found = subst (λ rs. IsFoundIn known fails rs mark) (sym same) (subst (λ m. IsFoundIn known fails others m) (sym is) found)
