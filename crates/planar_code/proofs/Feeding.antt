-- What a framer's state says of its stream: how the stream splits, and whether it is open.
use Rattle.std.proofs.Common.{◌≡◌, ◌≢◌, ℕ, ◌+◌, ◌≤◌, List, [], ◌∷◌, ◌++◌, inl, inr, length, refl, sym, ap, subst, ◌∙◌, arith, append_assoc, append-nil, length-append, Result, Ok, Err, IsOk, ◌↔◌}
use Rattle.std.specs.List.{concat}
use Rattle.std.proofs.lemmas.Bool.{false≢true}
use Rattle.planar_code.specs.declared.TheConstants.{HEADER, MAX_RECORDS}
use Rattle.planar_code.specs.declared.partial_record.Ending.{Ending}
use Rattle.planar_code.specs.declared.partial_record.Ending.TheVariants as ending
use Rattle.planar_code.specs.declared.partial_record.FeedFault.{FeedFault}
use Rattle.planar_code.specs.declared.partial_record.FeedFault.TheVariants as fault
use Rattle.planar_code.specs.Split.{IsSplit, MayGoOn, ending_of}
use Rattle.planar_code.specs.FramerState.{FramerState, Early, After, Failed, StandsAt, HasNotFailed, LosesRecord, Reads, Feeds, HasMore, beyond}
use Rattle.planar_code.proofs.Records.{nothing_after}
use Rattle.planar_code.proofs.Divisions.{front_of-divided}
use Rattle.planar_code.proofs.Splits.{split_same, body_same}
use Rattle.planar_code.proofs.LeadsTo.{standing-header}

-- a beginning of the header is no whole header
pub split-early : (stream : List ℕ) (records : List (List ℕ)) (front : List ℕ) → StandsAt stream records (Early front) → IsSplit stream records ending.Header
split-early stream records front s = inl (record {
  header = λ body e.
      let long = sym (append_assoc HEADER body s.missing) ∙ ap (λ z. z ++ s.missing) (sym e ∙ s.same) ∙ s.whole in
      s.more (nothing_after body s.missing (let tails : body ++ s.missing ≡ [] = cc in sym tails));
  none = s.none;
  ends = refl;
})

-- with no bytes of a record after the last, the stream is complete
pub split-complete : (stream : List ℕ) (records : List (List ℕ)) (count : ℕ) (rest : List ℕ) → rest ≡ [] → StandsAt stream records (After count rest) → IsSplit stream records ending.Complete
split-complete stream records count rest none s = inr (record { body = s.body; rest = rest; with_header = s.with_header; divided = s.divided; ends = none })

-- with some, it has not ended
pub split-truncated : (stream : List ℕ) (records : List (List ℕ)) (count : ℕ) (rest : List ℕ) → rest ≢ [] → StandsAt stream records (After count rest) → IsSplit stream records ending.Truncated
split-truncated stream records count rest some s = inr (record {
  body = s.body;
  rest = rest;
  with_header = s.with_header;
  divided = s.divided;
  ends = (s.partial_record, some, λ full. some (s.full (sym s.counted ∙ full)));
})

-- after a fault, it ends as the fault says
pub split-failed : (stream : List ℕ) (records : List (List ℕ)) (f : FeedFault) → StandsAt stream records (Failed f) → IsSplit stream records (ending_of f)
split-failed stream records f s = subst (λ z. IsSplit z records (ending_of f)) (append-nil stream) (s [])

-- where a framer runs, its stream is open
pub open-running : (p : FramerState) (stream : List ℕ) (records : List (List ℕ)) → HasNotFailed p → StandsAt stream records p → MayGoOn stream
open-running (Early front) stream records running s = inl (s.missing, ap (λ z. z ++ s.missing) s.same ∙ s.whole)
open-running (After count []) stream records running s = inr (inl (records, split-complete stream records count [] refl s))
open-running (After count (x ∷ rest)) stream records running s = inr (inr (records, split-truncated stream records count (x ∷ rest) (λ e. (cc)) s))
open-running (Failed f) stream records running s = absurd (running f refl)

-- the header alone is complete
split-header : IsSplit HEADER [] ending.Complete
split-header = split-complete HEADER [] 0 [] refl standing-header

-- no fault stands for an ending that is open
complete≢fault : (f : FeedFault) → ending_of f ≢ ending.Complete
complete≢fault fault.Header e = cc
complete≢fault fault.Large e = cc
complete≢fault fault.Oversize e = cc
complete≢fault fault.Memory e = cc
complete≢fault fault.Many e = cc

truncated≢fault : (f : FeedFault) → ending_of f ≢ ending.Truncated
truncated≢fault fault.Header e = cc
truncated≢fault fault.Large e = cc
truncated≢fault fault.Oversize e = cc
truncated≢fault fault.Memory e = cc
truncated≢fault fault.Many e = cc

-- where it has failed, its stream is not open
pub failed-closed : (f : FeedFault) (stream : List ℕ) (records : List (List ℕ)) → StandsAt stream records (Failed f) → MayGoOn stream → ⊥
failed-closed f stream records s (inl front) =
    complete≢fault f (split_same HEADER records [] (ending_of f) ending.Complete (subst (λ z. IsSplit z records (ending_of f)) front.1 (s front.0)) split-header).1
failed-closed f stream records s (inr (inl h)) =
    complete≢fault f (split_same stream records h.0 (ending_of f) ending.Complete (split-failed stream records f s) h.1).1
failed-closed f stream records s (inr (inr h)) =
    truncated≢fault f (split_same stream records h.0 (ending_of f) ending.Truncated (split-failed stream records f s) h.1).1

-- no stream has more than 1,000,000 records
pub length-split : (stream : List ℕ) (records : List (List ℕ)) (end : Ending) → IsSplit stream records end → length records ≤ MAX_RECORDS
length-split stream records end (inl h) = omega (arith, ap length h.none)
length-split stream records end (inr h) = h.divided.few

pub length-standing : (p : FramerState) (stream : List ℕ) (records : List (List ℕ)) → StandsAt stream records p → length records ≤ MAX_RECORDS
length-standing (Early front) stream records s = omega (arith, ap length s.none)
length-standing (After count rest) stream records s = s.divided.few
length-standing (Failed f) stream records s = length-split stream records (ending_of f) (split-failed stream records f s)

-- the records so far begin those of the stream, however it goes on
pub standing-front : (p : FramerState) (stream : List ℕ) (records : List (List ℕ)) → StandsAt stream records p → (more : List ℕ) (all : List (List ℕ)) (end : Ending) → IsSplit (stream ++ more) all end → (later : List (List ℕ)) × (all ≡ records ++ later)
standing-front (Early front) stream records s more all end split = (all, ap (λ z. z ++ all) (sym s.none))
standing-front (After count rest) stream records s more all end (inl h) =
    absurd (h.header (s.body ++ more) (ap (λ z. z ++ more) s.with_header ∙ append_assoc HEADER s.body more))
standing-front (After count rest) stream records s more all end (inr h) =
    let body : h.body ≡ s.body ++ more
    = body_same h.body (s.body ++ more) (sym h.with_header ∙ ap (λ z. z ++ more) s.with_header ∙ append_assoc HEADER s.body more) in
    front_of-divided h.body all h.rest h.divided records (rest ++ more) (body ∙ ap (λ z. z ++ more) s.divided.concatenated ∙ append_assoc (concat records) rest more) s.divided.each s.divided.few
standing-front (Failed f) stream records s more all end split =
    ([], (split_same (stream ++ more) all records end (ending_of f) split (s more)).0 ∙ sym (append-nil records))

-- what was lost is a record of the stream
pub more-lost : (old : FramerState) (piece : List ℕ) (added : List (List ℕ)) → LosesRecord old piece added → (stream : List ℕ) (records : List (List ℕ)) → StandsAt stream records old → HasMore (stream ++ piece) (records ++ added)
more-lost old piece added h stream records s more all end split =
    let bytes : (stream ++ piece) ++ more ≡ (stream ++ h.front) ++ (h.back ++ more)
    = ap (λ z. (stream ++ z) ++ more) h.parts ∙ ap (λ z. z ++ more) (sym (append_assoc stream h.front h.back)) ∙ append_assoc (stream ++ h.front) h.back more in
    let front = standing-front h.next (stream ++ h.front) (records ++ (added ++ h.lost ∷ [])) (h.goes stream records s) (h.back ++ more) all end (subst (λ z. IsSplit z all end) bytes split) in
    (h.lost ∷ front.0, (λ e. (cc)), front.1 ∙ ap (λ z. z ++ front.0) (sym (append_assoc records added (h.lost ∷ []))) ∙ append_assoc (records ++ added) (h.lost ∷ []) front.0)

-- the added records
beyond-append : (before added : List (List ℕ)) → beyond before (before ++ added) ≡ added
beyond-append [] added = refl
beyond-append (b ∷ before) added = beyond-append before added

module _ (old new : FramerState) (piece : List ℕ) (before after : List (List ℕ)) where
  beyond-added : (result : Result Unit FeedFault) (h : Feeds old piece before after new result) → beyond before after ≡ h.added
  beyond-added result h = ap (beyond before) h.appended ∙ beyond-append before h.added

  module _ (added : List (List ℕ)) (stream : List ℕ) (records : List (List ℕ)) (s : StandsAt stream records old) where
    -- a framer that fails now stands at its fault
    stands-failed : (f : FeedFault) → f ≢ fault.Memory → Reads old piece added new (Err f) → StandsAt (stream ++ piece) (records ++ added) (Failed f)
    stands-failed fault.Header other r = subst (StandsAt (stream ++ piece) (records ++ added)) r.0 (r.1 stream records s)
    stands-failed fault.Large other r = subst (StandsAt (stream ++ piece) (records ++ added)) r.0 (r.1 stream records s)
    stands-failed fault.Oversize other r = subst (StandsAt (stream ++ piece) (records ++ added)) r.0 (r.1 stream records s)
    stands-failed fault.Memory other r = absurd (other refl)
    stands-failed fault.Many other r = subst (StandsAt (stream ++ piece) (records ++ added)) r.0 (r.1 stream records s)

  -- a framer answers Ok exactly where the bytes so far are open
  pub open-feeds : (result : Result Unit FeedFault) → Feeds old piece before after new result → (stream : List ℕ) (records : List (List ℕ)) → StandsAt stream records old → result ≢ Err fault.Memory → IsOk result ↔ MayGoOn (stream ++ piece)
  open-feeds (Ok u) h stream records s other =
      ((λ ok. open-running new (stream ++ piece) (records ++ h.added) h.reads.0 (h.reads.1 stream records s)), (λ may_go_on. refl))
  open-feeds (Err f) h stream records s other =
      ((λ ok. absurd (false≢true ok)), (λ may_go_on. absurd (failed-closed f (stream ++ piece) (records ++ h.added) (stands-failed h.added stream records s f (λ e. other (ap Err e)) h.reads) may_go_on)))

  -- a fault is that of the ending of the bytes so far
  pub fault-feeds : (result : Result Unit FeedFault) → Feeds old piece before after new result → (stream : List ℕ) (records : List (List ℕ)) (f : FeedFault) → StandsAt stream records old → result ≡ Err f → f ≢ fault.Memory → IsSplit (stream ++ piece) (records ++ beyond before after) (ending_of f)
  fault-feeds result h stream records f s e other =
      subst (λ z. IsSplit (stream ++ piece) (records ++ z) (ending_of f)) (sym (beyond-added result h))
      (split-failed (stream ++ piece) (records ++ h.added) f (stands-failed h.added stream records s f other (subst (Reads old piece h.added new) e h.reads)))

  -- where memory was wanted, it was for a record of the stream
  pub memory-feeds : (result : Result Unit FeedFault) → Feeds old piece before after new result → (stream : List ℕ) (records : List (List ℕ)) → StandsAt stream records old → result ≡ Err fault.Memory → old ≢ Failed fault.Memory → HasMore (stream ++ piece) (records ++ beyond before after)
  memory-feeds result h stream records s e fresh =
      subst (λ z. HasMore (stream ++ piece) (records ++ z)) (sym (beyond-added result h))
      (lost (subst (Reads old piece h.added new) e h.reads))
    where
      lost : Reads old piece h.added new (Err fault.Memory) → HasMore (stream ++ piece) (records ++ h.added)
      lost (_, inl again) = absurd (fresh again.0)
      lost (_, inr h') = more-lost old piece h.added h' stream records s

  -- there are at most 1,000,000 records
  pub few-feeds : (result : Result Unit FeedFault) → Feeds old piece before after new result → (stream : List ℕ) (records : List (List ℕ)) → StandsAt stream records old → length records + length after ≤ MAX_RECORDS + length before
  few-feeds result h stream records s =
      omega (arith, ap length h.appended, length-append before h.added, length-append records h.added, few result h.reads)
    where
      lost-few : LosesRecord old piece h.added → length (records ++ h.added) ≤ MAX_RECORDS
      lost-few l =
          omega (arith, length-standing l.next (stream ++ l.front) (records ++ (h.added ++ l.lost ∷ [])) (l.goes stream records s), length-append records (h.added ++ l.lost ∷ []), length-append h.added (l.lost ∷ []), length-append records h.added)

      few : (r : Result Unit FeedFault) → Reads old piece h.added new r → length (records ++ h.added) ≤ MAX_RECORDS
      few (Ok u) r = length-standing new (stream ++ piece) (records ++ h.added) (r.1 stream records s)
      few (Err fault.Header) r = length-standing new (stream ++ piece) (records ++ h.added) (r.1 stream records s)
      few (Err fault.Large) r = length-standing new (stream ++ piece) (records ++ h.added) (r.1 stream records s)
      few (Err fault.Oversize) r = length-standing new (stream ++ piece) (records ++ h.added) (r.1 stream records s)
      few (Err fault.Memory) (_, inl again) = omega (arith, length-standing old stream records s, ap length again.1, length-append records h.added)
      few (Err fault.Memory) (_, inr l) = lost-few l
      few (Err fault.Many) r = length-standing new (stream ++ piece) (records ++ h.added) (r.1 stream records s)

  -- a framer that found memory stands where the stream has led to
  pub stands-feeds : (result : Result Unit FeedFault) → Feeds old piece before after new result → (stream : List ℕ) → StandsAt stream before old → result ≢ Err fault.Memory → StandsAt (stream ++ piece) after new
  stands-feeds (Ok u) h stream s other = subst (λ z. StandsAt (stream ++ piece) z new) (sym h.appended) (h.reads.1 stream before s)
  stands-feeds (Err fault.Header) h stream s other = subst (λ z. StandsAt (stream ++ piece) z new) (sym h.appended) (h.reads.1 stream before s)
  stands-feeds (Err fault.Large) h stream s other = subst (λ z. StandsAt (stream ++ piece) z new) (sym h.appended) (h.reads.1 stream before s)
  stands-feeds (Err fault.Oversize) h stream s other = subst (λ z. StandsAt (stream ++ piece) z new) (sym h.appended) (h.reads.1 stream before s)
  stands-feeds (Err fault.Memory) h stream s other = absurd (other refl)
  stands-feeds (Err fault.Many) h stream s other = subst (λ z. StandsAt (stream ++ piece) z new) (sym h.appended) (h.reads.1 stream before s)
