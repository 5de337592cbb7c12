-- How a framer's steps make up a piece.
use Rattle.std.proofs.Common.{◌≡◌, ℕ, List, [], ◌∷◌, ◌++◌, inl, inr, length, take, drop, refl, sym, ap, subst, ◌∙◌, arith, append_assoc, append-nil, Option, Some, option_to_list, Ok, Err}
use Rattle.std.proofs.lemmas.List.{take-append-drop}
use Rattle.planar_code.specs.declared.partial_record.FeedFault.{FeedFault}
use Rattle.planar_code.specs.declared.partial_record.FeedFault.TheVariants as fault
use Rattle.planar_code.specs.FramerState.{FramerState, Failed, Goes, HasNotFailed, LosesRecord, Feeds}
use Rattle.planar_code.specs.Step.{FramerSteps, HasRead}
use Rattle.planar_code.proofs.LeadsTo.{goes_on, goes_nowhere, goes_failed}

-- no step yet
pub has_read-none : (p : FramerState) (piece : List ℕ) (before : List (List ℕ)) → HasNotFailed p → HasRead p piece piece before before p
has_read-none p piece before running = record {
  taken = [];
  added = [];
  parts = refl;
  appended = sym (append-nil before);
  running = running;
  goes = goes_nowhere p;
}

module _ (old mid : FramerState) (piece text : List ℕ) (before after : List (List ℕ)) (h : HasRead old piece text before after mid) where
  -- the piece, where the next step takes a beginning of the text
  parts-more : (front back : List ℕ) → text ≡ front ++ back → piece ≡ (h.taken ++ front) ++ back
  parts-more front back e = h.parts ∙ ap (λ z. h.taken ++ z) e ∙ sym (append_assoc h.taken front back)

  -- one step more
  pub has_read-more : (new : FramerState) (n : ℕ) (next : Option (List ℕ)) (later : List (List ℕ)) → FramerSteps mid text new (Ok (n, next)) → later ≡ after ++ option_to_list next → HasRead old piece (drop n text) before later new
  has_read-more new n next later s e = record {
    taken = h.taken ++ take n text;
    added = h.added ++ option_to_list next;
    parts = parts-more (take n text) (drop n text) (sym (take-append-drop n text));
    appended = e ∙ ap (λ z. z ++ option_to_list next) h.appended ∙ append_assoc before h.added (option_to_list next);
    running = s.2;
    goes = goes_on old mid new h.taken (take n text) h.added (option_to_list next) h.goes s.3;
  }

  -- nothing is left
  pub fed-ok : (u : Unit {0}) → length text ≡ 0 → Feeds old piece before after mid (Ok u)
  fed-ok u none = record {
    added = h.added;
    appended = h.appended;
    reads = (h.running, subst (λ z. Goes old z h.added mid) (sym (h.parts ∙ ap (λ z. h.taken ++ z) (empty text none) ∙ append-nil h.taken)) h.goes);
  }
    where
      empty : (xs : List ℕ) → length xs ≡ 0 → xs ≡ []
      empty [] e = refl
      empty (x ∷ xs) e = absurd (omega arith)

  -- a fault of the text is one of the piece
  goes-fault : (f : FeedFault) → Goes mid text [] (Failed f) → Goes old piece h.added (Failed f)
  goes-fault f g =
      subst (λ z. Goes old z h.added (Failed f)) (sym h.parts)
      (subst (λ z. Goes old (h.taken ++ text) z (Failed f)) (append-nil h.added) (goes_on old mid (Failed f) h.taken text h.added [] h.goes g))

  -- a lost record of a beginning of the text is one of the piece
  loses-more : (front back : List ℕ) (lost : List ℕ) (next : FramerState) → text ≡ front ++ back → Goes mid front (lost ∷ []) next → LosesRecord old piece h.added
  loses-more front back lost next e g = record {
    front = h.taken ++ front;
    back = back;
    parts = parts-more front back e;
    lost = lost;
    next = next;
    goes = goes_on old mid next h.taken front h.added (lost ∷ []) h.goes g;
  }

  -- the next step has a fault, which the framer keeps
  pub fed-err : (next : FramerState) (f : FeedFault) → FramerSteps mid text next (Err f) → Feeds old piece before after (Failed f) (Err f)
  fed-err next fault.Header s = record { added = h.added; appended = h.appended; reads = (refl, goes-fault fault.Header s) }
  fed-err next fault.Large s = record { added = h.added; appended = h.appended; reads = (refl, goes-fault fault.Large s) }
  fed-err next fault.Oversize s = record { added = h.added; appended = h.appended; reads = (refl, goes-fault fault.Oversize s) }
  fed-err next fault.Memory s = record { added = h.added; appended = h.appended; reads = (refl, inr (loses-more s.front s.back s.lost s.next s.parts s.goes)) }
  fed-err next fault.Many s = record { added = h.added; appended = h.appended; reads = (refl, goes-fault fault.Many s) }

  -- the list had no room for the next record
  pub fed-memory : (next : FramerState) (n : ℕ) (lost : List ℕ) (later : List (List ℕ)) → FramerSteps mid text next (Ok (n, Some lost)) → later ≡ after → Feeds old piece before later (Failed fault.Memory) (Err fault.Memory)
  fed-memory next n lost later s e = record {
    added = h.added;
    appended = e ∙ h.appended;
    reads = (refl, inr (loses-more (take n text) (drop n text) lost next (sym (take-append-drop n text)) s.3));
  }

-- a framer that has failed repeats its fault
pub feeds-failed : (f : FeedFault) (piece : List ℕ) (before : List (List ℕ)) → Feeds (Failed f) piece before before (Failed f) (Err f)
feeds-failed fault.Header piece before = record { added = []; appended = sym (append-nil before); reads = (refl, goes_failed fault.Header piece) }
feeds-failed fault.Large piece before = record { added = []; appended = sym (append-nil before); reads = (refl, goes_failed fault.Large piece) }
feeds-failed fault.Oversize piece before = record { added = []; appended = sym (append-nil before); reads = (refl, goes_failed fault.Oversize piece) }
feeds-failed fault.Memory piece before = record { added = []; appended = sym (append-nil before); reads = (refl, inl (refl, refl)) }
feeds-failed fault.Many piece before = record { added = []; appended = sym (append-nil before); reads = (refl, goes_failed fault.Many piece) }
