-- The plain splitter goes list by list and record by record.
use Rattle.std.proofs.Common.{◌≡◌, ◌≢◌, ℕ, ◌+◌, ◌-◌, ◌<◌, ◌≤◌, List, [], ◌∷◌, ◌++◌, inl, inr, length, take, drop, get_or, sym, ap, subst, ◌∙◌, arith, append_assoc, append-nil, length-append}
use Rattle.std.specs.List.{concat}
use Rattle.std.proofs.lemmas.List.{take-append-drop, take_rest, length-drop}
use Rattle.std.proofs.Math.Seq.{take-add}
use Rattle.std.proofs.lemmas.List.Elements.{All-push}
use Rattle.planar_code.specs.declared.TheConstants.{MAX_RECORDS}
use Rattle.planar_code.specs.declared.partial_record.Ending.{Ending}
use Rattle.planar_code.specs.declared.partial_record.Ending.TheVariants as ending
use Rattle.planar_code.specs.declared.record.End.TheVariants as end
use Rattle.planar_code.specs.Stream.{IsRecord, IsUnfinished}
use Rattle.planar_code.specs.Split.{EndsAs}
use Rattle.planar_code.specs.Started.{IsStarted, IsOversize}
use Rattle.planar_code.specs.Plain.{EndsList, SplitsBody, HasSplit}
use Rattle.planar_code.proofs.Records.{no_record-unfinished}
use Rattle.planar_code.proofs.Divisions.{IsStuck, concat-push, divided_from}
use Rattle.planar_code.proofs.Scanning.{zero_first, empty-length}
use Rattle.planar_code.proofs.LeadsTo.{unfinished-none, no_record-zero, no_record-oversize}

-- records that cannot be continued, and what they end in
splits-body : (body : List ℕ) (records : List (List ℕ)) (rest : List ℕ) (e : Ending) → HasSplit body records rest → IsStuck (length records) rest → EndsAs (length records) rest e → SplitsBody body records e
splits-body body records rest e h stuck ends = record { rest = rest; divided = divided_from body records rest h.concatenated h.each h.few stuck; ends = ends }

-- some bytes are left
some-remaining : (rest : List ℕ) → 0 < length rest → rest ≢ []
some-remaining rest some e = omega (arith, ap length e)

module _ (body : List ℕ) (records : List (List ℕ)) (rest : List ℕ) (h : HasSplit body records rest) where
  pub split-complete : rest ≡ [] → SplitsBody body records ending.Complete
  split-complete none = splits-body body records rest ending.Complete h (inr (no_record-unfinished rest (subst IsUnfinished (sym none) unfinished-none))) none

  pub split-many : 0 < length rest → length records ≡ MAX_RECORDS → SplitsBody body records ending.Many
  split-many some full = splits-body body records rest ending.Many h (inl full) (some-remaining rest some, full)

  pub split-large : 0 < length rest → length records ≢ MAX_RECORDS → get_or rest 0 0 ≡ 0 → SplitsBody body records ending.Large
  split-large some room z =
      let first = zero_first rest some z in
      splits-body body records rest ending.Large h (inr (no_record-zero rest first)) (first, room)

  pub split-truncated : 0 < length rest → length records ≢ MAX_RECORDS → IsUnfinished rest → SplitsBody body records ending.Truncated
  split-truncated some room u = splits-body body records rest ending.Truncated h (inr (no_record-unfinished rest u)) (u, some-remaining rest some, room)

  pub split-oversize : length records ≢ MAX_RECORDS → IsOversize rest → SplitsBody body records ending.Oversize
  split-oversize room o =
      splits-body body records rest ending.Oversize h (inr (no_record-oversize rest o))
      ((λ u. o.never u.missing (rest ++ u.missing) [] u.whole (sym (append-nil (rest ++ u.missing)))), o.nonzero, o.some, room)

  -- one record more
  pub has_split-more : (n : ℕ) (later : List (List ℕ)) → length records ≢ MAX_RECORDS → IsRecord (take n rest) → later ≡ records ++ take n rest ∷ [] → HasSplit body later (drop n rest)
  has_split-more n later room r e =
      let few = h.few in
      let counted = length-append records (take n rest ∷ []) in
      subst (λ z. HasSplit body z (drop n rest)) (sym e) (record {
        concatenated = h.concatenated ∙ ap (λ z. concat records ++ z) (sym (take-append-drop n rest)) ∙ sym (append_assoc (concat records) (take n rest) (drop n rest)) ∙ ap (λ z. z ++ drop n rest) (sym (concat-push records (take n rest)));
        each = All-push IsRecord records (take n rest) h.each r;
        few = omega (arith, room);
      })

-- the list after the first bytes of a record ends there
pub ends-next : (bytes : List ℕ) (at remaining n : ℕ) → at ≤ length bytes → EndsList (take at bytes) remaining (take (length bytes - at) (drop at bytes)) (end.After n) → (at + n ≤ length bytes) × (1 < remaining → IsStarted (take (at + n) bytes) (remaining - 1) 0) × (remaining ≡ 1 → IsRecord (take (at + n) bytes))
ends-next bytes at remaining n within h =
    let e = subst (λ z. EndsList (take at bytes) remaining z (end.After n)) (take_rest bytes at) h in (
      omega (arith, e.1, length-drop at bytes),
      (λ more. subst (λ z. IsStarted z (remaining - 1) 0) (sym (take-add at n bytes)) (e.2 more)),
      (λ last. subst IsRecord (sym (take-add at n bytes)) (e.3 last)),
    )

-- no bytes are left
pub none-remaining : (rest : List ℕ) → length rest ≡ 0 → rest ≡ []
none-remaining rest e = empty-length rest e
