-- What a framer's state says of the marks of a source.
use Rattle.std.proofs.Common.{◌≡◌, ◌≢◌, ◌⊎◌, ℕ, List, [], ◌∷◌, ◌++◌, inl, inr, length, refl, sym, ap, subst, ◌∙◌, append_assoc, append-nil}
use Rattle.planar_code.specs.declared.TheConstants.{HEADER}
use Rattle.planar_code.specs.declared.partial_record.Ending.{Ending}
use Rattle.planar_code.specs.declared.partial_record.Ending.TheVariants as ending
use Rattle.planar_code.specs.declared.partial_record.FeedFault.{FeedFault}
use Rattle.planar_code.specs.declared.partial_record.FeedFault.TheVariants as fault
use Rattle.planar_code.specs.Split.{IsSplit, IsHeaderless, MayGoOn, EndsAs, ending_of}
use Rattle.planar_code.specs.FramerState.{FramerState, Early, After, Failed, StandsAt, StandsEarly, StandsAfter, HasNotFailed}
use Rattle.planar_code.proofs.Records.{nothing_after}
use Rattle.planar_code.proofs.Divisions.{front_of-divided}
use Rattle.planar_code.proofs.Splits.{split_same, body_same}
use Rattle.streams.specs.Marks.{IsBeginningOf}

-- a beginning of the header is not a header and more
early_headerless : (text : List ℕ) (records : List (List ℕ)) (front : List ℕ) → StandsEarly text records front → IsHeaderless text records ending.Header
early_headerless text records front s = record {
  header = λ body e.
      let both : (HEADER ++ body) ++ s.missing ≡ HEADER = ap (λ l. l ++ s.missing) (sym e ∙ s.same) ∙ s.whole in
      let none : body ++ s.missing ≡ [] = body_same (body ++ s.missing) [] (sym (append_assoc HEADER body s.missing) ∙ both ∙ sym (append-nil HEADER)) in
      s.more (nothing_after body s.missing (sym none));
  none = s.none;
  ends = refl;
}

-- after whole records a stream ends complete, or in the next one
after_ends : (text : List ℕ) (records : List (List ℕ)) (count : ℕ) (rest : List ℕ) → StandsAfter text records count rest
    → IsSplit text records ending.Complete ⊎ IsSplit text records ending.Truncated
after_ends text records count [] s = inl (inr (record { body = s.body; rest = []; with_header = s.with_header; divided = s.divided; ends = refl }))
after_ends text records count (x ∷ rest) s =
    let some : (x ∷ rest) ≢ [] = λ e. cc in
    inr (inr (record {
      body = s.body;
      rest = x ∷ rest;
      with_header = s.with_header;
      divided = s.divided;
      ends = (s.partial_record, some, λ full. some (s.full (sym s.counted ∙ full)));
    }))

-- the stream so far has the records that it led to
pub split_stands : (text : List ℕ) (records : List (List ℕ)) (state : FramerState) → StandsAt text records state → (end : Ending) × IsSplit text records end
split_stands text records (Early front) s = (ending.Header, inl (early_headerless text records front s))
split_stands text records (After count rest) s =
    elim (after_ends text records count rest s) [ inl h ↦ (ending.Complete, h) | inr h ↦ (ending.Truncated, h) ]
split_stands text records (Failed f) s = (ending_of f, subst (λ t. IsSplit t records (ending_of f)) (append-nil text) (s []))

-- where the framer has not failed, more bytes may come
pub open_stands : (text : List ℕ) (records : List (List ℕ)) (state : FramerState) → StandsAt text records state → HasNotFailed state → MayGoOn text
open_stands text records (Early front) s running = inl (s.missing, ap (λ l. l ++ s.missing) s.same ∙ s.whole)
open_stands text records (After count rest) s running =
    elim (after_ends text records count rest s) [ inl h ↦ inr (inl (records, h)) | inr h ↦ inr (inr (records, h)) ]
open_stands text records (Failed f) s running = absurd (running f refl)

-- no fault is an ending after which more bytes may come
not_complete : (f : FeedFault) → ending_of f ≡ ending.Complete → ⊥
not_complete fault.Header e = cc
not_complete fault.Large e = cc
not_complete fault.Oversize e = cc
not_complete fault.Memory e = cc
not_complete fault.Many e = cc

not_truncated : (f : FeedFault) → ending_of f ≡ ending.Truncated → ⊥
not_truncated fault.Header e = cc
not_truncated fault.Large e = cc
not_truncated fault.Oversize e = cc
not_truncated fault.Memory e = cc
not_truncated fault.Many e = cc

-- nothing after the header is no fault
not_empty : (count : ℕ) (f : FeedFault) → EndsAs count [] (ending_of f) → ⊥
not_empty count fault.Header e = e
not_empty count fault.Large e = let h = e.0.1 in (cc)
not_empty count fault.Oversize e = e.2 refl
not_empty count fault.Memory e = e
not_empty count fault.Many e = e.0 refl

-- the header itself ends in no fault
not_header : (records : List (List ℕ)) (f : FeedFault) → IsSplit HEADER records (ending_of f) → ⊥
not_header records f (inl h) = h.header [] (sym (append-nil HEADER))
not_header records f (inr h) =
    let none : h.body ≡ [] = body_same h.body [] (sym h.with_header ∙ sym (append-nil HEADER)) in
    let rest : h.rest ≡ [] = nothing_after _ h.rest (sym none ∙ h.divided.concatenated) in
    not_empty (length records) f (subst (λ r. EndsAs (length records) r (ending_of f)) rest h.ends)

-- after a fault no more bytes may come
pub failed_not_open : (text more : List ℕ) (records : List (List ℕ)) (f : FeedFault) → StandsAt text records (Failed f) → MayGoOn (text ++ more) → ⊥
failed_not_open text more records f s (inl (rest, e)) =
    not_header records f (subst (λ t. IsSplit t records (ending_of f)) (sym (append_assoc text more rest) ∙ e) (s (more ++ rest)))
failed_not_open text more records f s (inr (inl (others, h))) = not_complete f (split_same (text ++ more) records others _ _ (s more) h).1
failed_not_open text more records f s (inr (inr (others, h))) = not_truncated f (split_same (text ++ more) records others _ _ (s more) h).1

-- however a stream goes on, its records begin with those that it led to
pub beginning_stands : (text more : List ℕ) (records : List (List ℕ)) (state : FramerState) → StandsAt text records state
    → (all : List (List ℕ)) (end : Ending) → IsSplit (text ++ more) all end → IsBeginningOf records all
beginning_stands text more records (Early front) s all end split = (all, ap (λ l. l ++ all) (sym s.none))
beginning_stands text more records (After count rest) s all end (inl h) =
    absurd (h.header (s.body ++ more) (ap (λ l. l ++ more) s.with_header ∙ append_assoc HEADER s.body more))
beginning_stands text more records (After count rest) s all end (inr h) =
    let body : h.body ≡ s.body ++ more = body_same h.body (s.body ++ more) (sym h.with_header ∙ ap (λ l. l ++ more) s.with_header ∙ append_assoc HEADER s.body more) in
    front_of-divided h.body all h.rest h.divided records (rest ++ more) (body ∙ ap (λ l. l ++ more) s.divided.concatenated ∙ append_assoc _ rest more) s.divided.each s.divided.few
beginning_stands text more records (Failed f) s all end split =
    ([], (split_same (text ++ more) all records _ _ split (s more)).0 ∙ sym (append-nil records))
