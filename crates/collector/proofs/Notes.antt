-- What one note more tells of the files of a run.
use Rattle.std.proofs.Common.{◌≡◌, ◌==◌, ℕ, ◌<◌, cond, true, List, [], ◌∷◌, ◌++◌, Option, None, Some, inl, inr, refl, sym, ap, subst, ◌∙◌}
use Rattle.std.proofs.lemmas.Bool.{eq-eqb, ne_eqb, cases_eq}
use Rattle.std.proofs.lemmas.List.{map-append}
use Rattle.std.proofs.lemmas.List.Elements.{filter-append}
use Rattle.streams.specs.declared.frames.Mark.{Mark}
use Rattle.lanes.specs.Notes.{About, Note, is_of, of_file, Item, End, Stop}
use Rattle.lanes.specs.Drafts.{abouts, mark_after}
use Rattle.reports.specs.declared.answer.Entry.{Entry}
use Rattle.reports.specs.Abouts.{about_of}
use Rattle.collector.specs.Came.{Came, HasEntryMore, HasMarkMore, IsToldByNotes}
use Rattle.collector.specs.Stops.{told_same}

-- one more record, one more mark
abouts-item : (ns : List Note) (about : About) → abouts (ns ++ Item about ∷ []) ≡ abouts ns ++ about ∷ []
abouts-item [] about = refl
abouts-item (Item a ∷ ns) about = ap (λ l. a ∷ l) (abouts-item ns about)
abouts-item (End f m ∷ ns) about = abouts-item ns about
abouts-item (Stop ∷ ns) about = abouts-item ns about

pub abouts-end : (ns : List Note) (file : ℕ) (mark : Mark) → abouts (ns ++ End file mark ∷ []) ≡ abouts ns
abouts-end [] file mark = refl
abouts-end (Item a ∷ ns) file mark = ap (λ l. a ∷ l) (abouts-end ns file mark)
abouts-end (End f m ∷ ns) file mark = abouts-end ns file mark
abouts-end (Stop ∷ ns) file mark = abouts-end ns file mark

mark-item : (was : Option Mark) (ns : List Note) (about : About) → mark_after was (ns ++ Item about ∷ []) ≡ mark_after was ns
mark-item was [] about = refl
mark-item was (Item a ∷ ns) about = mark-item was ns about
mark-item was (End f m ∷ ns) about = mark-item (Some m) ns about
mark-item was (Stop ∷ ns) about = mark-item was ns about

pub mark-end : (was : Option Mark) (ns : List Note) (file : ℕ) (mark : Mark) → mark_after was (ns ++ End file mark ∷ []) ≡ Some mark
mark-end was [] file mark = refl
mark-end was (Item a ∷ ns) file mark = mark-end was ns file mark
mark-end was (End f m ∷ ns) file mark = mark-end (Some m) ns file mark
mark-end was (Stop ∷ ns) file mark = mark-end was ns file mark

-- a note that is of the file, and one that is not
of_file-mine : (file : ℕ) (ns : List Note) (n : Note) → is_of file n ≡ true → of_file file (ns ++ n ∷ []) ≡ of_file file ns ++ n ∷ []
of_file-mine file ns n is = filter-append (is_of file) ns (n ∷ []) ∙ ap (λ b. of_file file ns ++ cond b (n ∷ []) []) is

told_item : (file : ℕ) (ns : List Note) (came : Came) (entry : Entry) → entry.file ≡ file → IsToldByNotes file ns came
    → IsToldByNotes file (ns ++ Item (about_of entry) ∷ []) (record { entries = came.entries ++ entry ∷ []; mark = came.mark })
told_item file ns came entry of_it was =
    let mine = of_file-mine file ns (Item (about_of entry)) (eq-eqb entry.file file of_it) in
    record {
      entries = map-append about_of came.entries (entry ∷ []) ∙ ap (λ l. l ++ about_of entry ∷ []) was.entries
          ∙ sym (abouts-item (of_file file ns) (about_of entry)) ∙ ap abouts (sym mine);
      mark = was.mark ∙ sym (mark-item None (of_file file ns) (about_of entry)) ∙ ap (mark_after None) (sym mine);
    }

told_end : (file : ℕ) (ns : List Note) (came : Came) (mark : Mark) → IsToldByNotes file ns came
    → IsToldByNotes file (ns ++ End file mark ∷ []) (record { entries = came.entries; mark = Some mark })
told_end file ns came mark was =
    let mine = of_file-mine file ns (End file mark) (eq-eqb file file refl) in
    record {
      entries = was.entries ∙ sym (abouts-end (of_file file ns) file mark) ∙ ap abouts (sym mine);
      mark = sym (mark-end None (of_file file ns) file mark) ∙ ap (mark_after None) (sym mine);
    }

-- what has come with one entry more of a file, and with its mark
abbrev pub entry_more : ℕ → Entry → (ℕ → Came) → ℕ → Came
entry_more file entry came k = cond (k == file) (record { entries = (came file).entries ++ entry ∷ []; mark = (came file).mark }) (came k)

pub has_entry_more : (file : ℕ) (entry : Entry) (came : ℕ → Came) → HasEntryMore file entry came (entry_more file entry came)
has_entry_more file entry came = record {
  here = ap (λ b. cond b (record { entries = (came file).entries ++ entry ∷ []; mark = (came file).mark }) (came file)) (eq-eqb file file refl);
  others = λ other apart. ap (λ b. cond b (record { entries = (came file).entries ++ entry ∷ []; mark = (came file).mark }) (came other)) (ne_eqb other file apart);
}

abbrev pub ended_now : ℕ → Mark → (ℕ → Came) → ℕ → Came
ended_now file mark came k = cond (k == file) (record { entries = (came file).entries; mark = Some mark }) (came k)

pub has_mark_more : (file : ℕ) (mark : Mark) (came : ℕ → Came) → HasMarkMore file mark came (ended_now file mark came)
has_mark_more file mark came = record {
  here = ap (λ b. cond b (record { entries = (came file).entries; mark = Some mark }) (came file)) (eq-eqb file file refl);
  others = λ other apart. ap (λ b. cond b (record { entries = (came file).entries; mark = Some mark }) (came other)) (ne_eqb other file apart);
}

-- what the notes tell of all files
pub all_told_item : (files : ℕ) (ns : List Note) (file : ℕ) (entry : Entry) (came next : ℕ → Came) → entry.file ≡ file → HasEntryMore file entry came next
    → ((k : ℕ) → k < files → IsToldByNotes k ns (came k)) → (k : ℕ) → k < files → IsToldByNotes k (ns ++ Item (about_of entry) ∷ []) (next k)
all_told_item files ns file entry came next of_it more told k below =
    elim (cases_eq k file) [
      | inl same ↦
          let was : IsToldByNotes file ns (came file) = subst (λ j. IsToldByNotes j ns (came j)) same (told k below) in
          let now : IsToldByNotes file (ns ++ Item (about_of entry) ∷ []) (next file) =
          subst (IsToldByNotes file (ns ++ Item (about_of entry) ∷ [])) (sym more.here) (told_item file ns (came file) entry of_it was) in
          subst (λ j. IsToldByNotes j (ns ++ Item (about_of entry) ∷ []) (next j)) (sym same) now
      | inr apart ↦
          subst (IsToldByNotes k (ns ++ Item (about_of entry) ∷ [])) (sym (more.others k apart))
          (told_same k ns (Item (about_of entry)) (came k) (ne_eqb entry.file k (λ e. apart (sym e ∙ of_it))) (told k below))
    ]

pub all_told_end : (files : ℕ) (ns : List Note) (file : ℕ) (mark : Mark) (came next : ℕ → Came) → HasMarkMore file mark came next
    → ((k : ℕ) → k < files → IsToldByNotes k ns (came k)) → (k : ℕ) → k < files → IsToldByNotes k (ns ++ End file mark ∷ []) (next k)
all_told_end files ns file mark came next more told k below =
    elim (cases_eq k file) [
      | inl same ↦
          let was : IsToldByNotes file ns (came file) = subst (λ j. IsToldByNotes j ns (came j)) same (told k below) in
          let now : IsToldByNotes file (ns ++ End file mark ∷ []) (next file) =
          subst (IsToldByNotes file (ns ++ End file mark ∷ [])) (sym more.here) (told_end file ns (came file) mark was) in
          subst (λ j. IsToldByNotes j (ns ++ End file mark ∷ []) (next j)) (sym same) now
      | inr apart ↦
          subst (IsToldByNotes k (ns ++ End file mark ∷ [])) (sym (more.others k apart))
          (told_same k ns (End file mark) (came k) (ne_eqb file k (λ e. apart (sym e))) (told k below))
    ]
