-- Whether all is whole so far, after one entry or one mark more.
use Rattle.std.proofs.Common.{◌≡◌, ◌≢◌, ◌↔◌, ℕ, ◌+◌, ◌<◌, Bool, true, false, List, [], ◌∷◌, ◌++◌, length, All, None, Some, inl, inr, refl, sym, subst, ◌∙◌, arith, length-append}
use Rattle.std.proofs.lemmas.Bool.{cases_eq, false≢true}
use Rattle.std.proofs.lemmas.List.{get_or_append_left, get_or-append-add}
use Rattle.std.proofs.lemmas.List.Elements.{All-push}
use Rattle.planar_code.specs.declared.partial_record.Ending.{Ending}
use Rattle.streams.specs.declared.frames.Mark.{Mark}
use Rattle.reports.specs.declared.answer.Answer.{Answer}
use Rattle.reports.specs.declared.answer.Entry.{Entry}
use Rattle.collector.specs.Came.{Came, HasEntryMore, HasMarkMore, IsFlawlessSoFar}

abbrev pub IsAnswered : Entry → Type 0
IsAnswered entry = entry.answer ≢ Answer.NoMemory

module _ {A : Type 0} (P : A → Type 0) where
  -- all of a longer list, and its last
  pub all_front : (xs : List A) (x : A) → All P (xs ++ x ∷ []) → All P xs
  all_front xs x all = λ k d below. subst P (get_or_append_left xs (x ∷ []) d k below) (all k d (omega (arith, below, length-append xs (x ∷ []))))

  pub all_last : (xs : List A) (x : A) → All P (xs ++ x ∷ []) → P x
  all_last xs x all =
      let at : length xs + 0 < length (xs ++ x ∷ []) = omega (arith, length-append xs (x ∷ [])) in
      subst P (get_or-append-add xs (x ∷ []) 0 x) (all (length xs + 0) x at)

-- where all but one file are as before
all_but : (files file : ℕ) (came next : ℕ → Came) → ((other : ℕ) → other ≢ file → next other ≡ came other) → IsFlawlessSoFar (next file)
    → ((k : ℕ) → k < files → IsFlawlessSoFar (came k)) → (k : ℕ) → k < files → IsFlawlessSoFar (next k)
all_but files file came next others here were k below =
    elim (cases_eq k file) [
      | inl same ↦ subst (λ j. IsFlawlessSoFar (next j)) (sym same) here
      | inr apart ↦ subst IsFlawlessSoFar (sym (others k apart)) (were k below)
    ]

pub flawless_item : (files file : ℕ) (entry : Entry) (came next : ℕ → Came) (flawless : Bool) → file < files → entry.answer ≢ Answer.NoMemory → HasEntryMore file entry came next
    → ((flawless ≡ true) ↔ ((k : ℕ) → k < files → IsFlawlessSoFar (came k))) → ((flawless ≡ true) ↔ ((k : ℕ) → k < files → IsFlawlessSoFar (next k)))
flawless_item files file entry came next flawless below has more was = (
  λ is. all_but files file came next more.others
      (let here = was.0 is file below in
      subst IsFlawlessSoFar (sym more.here) (record { answered = All-push IsAnswered (came file).entries entry here.answered has; complete = here.complete }))
      (was.0 is),
  λ all. was.1 (all_but files file next came (λ other apart. sym (more.others other apart))
      (let here : IsFlawlessSoFar (record { entries = (came file).entries ++ entry ∷ []; mark = (came file).mark }) = subst IsFlawlessSoFar more.here (all file below) in
      record { answered = all_front IsAnswered (came file).entries entry here.answered; complete = here.complete })
      all),
)

pub whole_lacking : (files file : ℕ) (entry : Entry) (came next : ℕ → Came) → file < files → entry.answer ≡ Answer.NoMemory → HasEntryMore file entry came next
    → ((false ≡ true) ↔ ((k : ℕ) → k < files → IsFlawlessSoFar (next k)))
whole_lacking files file entry came next below lacks more = (
  λ is. absurd (false≢true is),
  λ all.
      let here : IsFlawlessSoFar (record { entries = (came file).entries ++ entry ∷ []; mark = (came file).mark }) = subst IsFlawlessSoFar more.here (all file below) in
      absurd (all_last IsAnswered (came file).entries entry here.answered lacks),
)

pub flawless_end : (files file : ℕ) (mark : Mark) (came next : ℕ → Came) (flawless now : Bool) → file < files → (came file).mark ≡ None
    → ((now ≡ true) ↔ ((flawless ≡ true) × (mark ≡ Mark.Ended Ending.Complete))) → HasMarkMore file mark came next
    → ((flawless ≡ true) ↔ ((k : ℕ) → k < files → IsFlawlessSoFar (came k))) → ((now ≡ true) ↔ ((k : ℕ) → k < files → IsFlawlessSoFar (next k)))
flawless_end files file mark came next flawless now below unmarked says more was = (
  λ is.
      let both = says.0 is in
      all_but files file came next more.others
      (subst IsFlawlessSoFar (sym more.here) (record {
        answered = (was.0 both.0 file below).answered;
        complete = λ other e. let same : mark ≡ other = cc in sym same ∙ both.1;
      }))
      (was.0 both.0),
  λ all.
      let here : IsFlawlessSoFar (record { entries = (came file).entries; mark = Some mark }) = subst IsFlawlessSoFar more.here (all file below) in
      says.1 (
        was.1 (all_but files file next came (λ other apart. sym (more.others other apart))
            (record { answered = here.answered; complete = λ other e. let none : ⊥ = cc in absurd none })
            all),
        here.complete mark refl,
      ),
)
