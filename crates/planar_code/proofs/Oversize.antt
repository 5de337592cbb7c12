-- What is oversize holds 255 entries in a row.
use Rattle.std.proofs.Common.{◌≡◌, ℕ, ◌+◌, ◌-◌, ◌<◌, List, [], ◌∷◌, ◌++◌, inl, inr, length, All, refl, sym, ap, subst, ◌∙◌, arith, append_assoc, append-nil, length-append}
use Rattle.std.specs.List.{flat_map, concat}
use Rattle.std.proofs.lemmas.Bool.{cases_eq}
use Rattle.std.proofs.lemmas.List.Elements.{All-head, All-tail, All-push}
use Rattle.planar_code.specs.declared.TheConstants.{HEADER}
use Rattle.planar_code.specs.declared.partial_record.Ending.TheVariants as ending
use Rattle.planar_code.specs.Stream.{IsEntry, IsRecord, IsUnfinished, NoRecordFirst, HasLongList, ended}
use Rattle.planar_code.specs.Split.{IsSplit}
use Rattle.planar_code.specs.Started.{IsStarted}
use Rattle.planar_code.proofs.Divisions.{stuck-divided}
use Rattle.planar_code.proofs.Started.{started-first, started-entry, started-end, started-whole, started-unfinished}

-- one byte moves from the text to the bytes before it
moved : (before : List ℕ) (x : ℕ) (text : List ℕ) → before ++ (x ∷ text) ≡ (before ++ x ∷ []) ++ text
moved before x text = sym (append_assoc before (x ∷ []) text)

-- what comes after the beginning of a record, where it comes to no record
long_list-started : (text before : List ℕ) (remaining entries : ℕ) → IsStarted before remaining entries → All (λ x. x < 256) text → NoRecordFirst (before ++ text) → (IsUnfinished (before ++ text) → ⊥) → HasLongList (before ++ text)
long_list-started [] before remaining entries s bytes none cut =
    absurd (cut (subst IsUnfinished (sym (append-nil before)) (started-unfinished before remaining entries s)))
long_list-started (x ∷ text) before remaining entries s bytes none cut =
    let byte = All-head (λ x. x < 256) x text bytes in
    let later = All-tail (λ x. x < 256) x text bytes in
    let none' = subst NoRecordFirst (moved before x text) none in
    let cut' : IsUnfinished ((before ++ x ∷ []) ++ text) → ⊥ = λ u. cut (subst IsUnfinished (sym (moved before x text)) u) in
    let some = s.some in
    let short = s.short in
    elim (cases_eq x 0) [
      | inl z ↦ elim (cases_eq remaining 1) [
        | inl last ↦ absurd (none' (before ++ x ∷ []) text (subst (λ y. IsRecord (before ++ y ∷ [])) (sym z) (started-whole before remaining entries s last)) refl)
        | inr more ↦ subst HasLongList (sym (moved before x text))
            (long_list-started text (before ++ x ∷ []) (remaining - 1) 0 (subst (λ y. IsStarted (before ++ y ∷ []) (remaining - 1) 0) (sym z) (started-end before remaining entries s (omega (arith, more)))) later none' cut')
      ]
      | inr nonzero ↦ elim (cases_eq entries 254) [
        | inl full ↦ record {
          front = (length s.lists + remaining) ∷ flat_map ended s.lists;
          entries = s.current ++ x ∷ [];
          back = text;
          parts = ap (λ z. z ++ (x ∷ text)) s.spelt
              ∙ ap (λ z. (length s.lists + remaining) ∷ z) (append_assoc (flat_map ended s.lists) s.current (x ∷ text) ∙ ap (λ z. flat_map ended s.lists ++ z) (moved s.current x text));
          each = All-push IsEntry s.current x s.current_each (omega (arith, nonzero), byte);
          long = let counted = s.counted in omega (arith, length-append s.current (x ∷ []));
        }
        | inr room ↦ subst HasLongList (sym (moved before x text))
            (long_list-started text (before ++ x ∷ []) remaining (entries + 1) (started-entry before remaining entries x s (omega (arith, nonzero), byte) (omega (arith, room))) later none' cut')
      ]
    ]

-- more bytes before a long list
long_list-after : (before bytes : List ℕ) → HasLongList bytes → HasLongList (before ++ bytes)
long_list-after before bytes h = record {
  front = before ++ h.front;
  entries = h.entries;
  back = h.back;
  parts = ap (λ z. before ++ z) h.parts ∙ sym (append_assoc before h.front (h.entries ++ h.back));
  each = h.each;
  long = h.long;
}

-- the end of some bytes is bytes
bytes-after : (before text : List ℕ) → All (λ x. x < 256) (before ++ text) → All (λ x. x < 256) text
bytes-after [] text each = each
bytes-after (x ∷ before) text each = bytes-after before text (All-tail (λ x. x < 256) x (before ++ text) each)

-- a stream that ends oversize has a list of 255 entries in a row
pub long_list-oversize : (stream : List ℕ) (records : List (List ℕ)) → All (λ x. x < 256) stream → IsSplit stream records ending.Oversize → HasLongList stream
long_list-oversize stream records bytes (inl h) = absurd (let e = h.ends in (cc))
long_list-oversize stream records bytes (inr h) = go h.rest refl
  where
    whole : stream ≡ (HEADER ++ concat records) ++ h.rest
    whole = h.with_header ∙ ap (λ z. HEADER ++ z) h.divided.concatenated ∙ sym (append_assoc HEADER (concat records) h.rest)

    stops : NoRecordFirst h.rest
    stops = elim (stuck-divided h.body records h.rest h.divided) [ inl full ↦ absurd (h.ends.3 full) | inr none ↦ none ]

    go : (rest : List ℕ) → h.rest ≡ rest → HasLongList stream
    go [] e = absurd (h.ends.2 e)
    go (x ∷ text) e = elim (cases_eq x 0) [
      | inl z ↦ absurd (h.ends.1 (text, e ∙ ap (λ y. y ∷ text) z))
      | inr nonzero ↦
          let each = subst (All (λ x. x < 256)) e (bytes-after (HEADER ++ concat records) h.rest (subst (All (λ x. x < 256)) whole bytes)) in
          let s = started-first x (omega (arith, nonzero)) (All-head (λ x. x < 256) x text each) in
          let long = long_list-started text (x ∷ []) x 0 s (All-tail (λ x. x < 256) x text each) (subst NoRecordFirst e stops) (λ u. h.ends.0 (subst IsUnfinished (sym e) u)) in
          subst HasLongList (sym (whole ∙ ap (λ z. (HEADER ++ concat records) ++ z) e)) (long_list-after (HEADER ++ concat records) (x ∷ text) long)
    ]
