-- Drafts with one note more.
use Rattle.std.proofs.Common.{◌≡◌, ℕ, zero, suc, ◌+◌, ◌<◌, ◌≤◌, cond, true, false, List, [], ◌∷◌, ◌++◌, map, length, Option, None, Some, set, get_or, refl, sym, ap, subst, ◌∙◌, arith, append-nil}
use Rattle.std.proofs.lemmas.Bool.{eq-eqb, ne_eqb}
use Rattle.std.proofs.lemmas.List.{map-append}
use Rattle.std.proofs.lemmas.List.Elements.{filter-append}
use Rattle.streams.specs.declared.frames.Mark.{Mark}
use Rattle.lanes.specs.declared.gathering.Draft.{Draft}
use Rattle.lanes.specs.Notes.{About, Note, is_of, of_file, Item, End, Stop}
use Rattle.lanes.specs.Drafts.{abouts, mark_after, IsDraft, AreDrafts}

-- one more record, one more mark
abouts-item : (ns : List Note) (about : About) → abouts (ns ++ Item about ∷ []) ≡ abouts ns ++ about ∷ []
abouts-item [] about = refl
abouts-item (Item a ∷ ns) about = ap (λ l. a ∷ l) (abouts-item ns about)
abouts-item (End f m ∷ ns) about = abouts-item ns about
abouts-item (Stop ∷ ns) about = abouts-item ns about

abouts-end : (ns : List Note) (file : ℕ) (mark : Mark) → abouts (ns ++ End file mark ∷ []) ≡ abouts ns
abouts-end [] file mark = refl
abouts-end (Item a ∷ ns) file mark = ap (λ l. a ∷ l) (abouts-end ns file mark)
abouts-end (End f m ∷ ns) file mark = abouts-end ns file mark
abouts-end (Stop ∷ ns) file mark = abouts-end ns file mark

mark-item : (was : Option Mark) (ns : List Note) (about : About) → mark_after was (ns ++ Item about ∷ []) ≡ mark_after was ns
mark-item was [] about = refl
mark-item was (Item a ∷ ns) about = mark-item was ns about
mark-item was (End f m ∷ ns) about = mark-item (Some m) ns about
mark-item was (Stop ∷ ns) about = mark-item was ns about

mark-end : (was : Option Mark) (ns : List Note) (file : ℕ) (mark : Mark) → mark_after was (ns ++ End file mark ∷ []) ≡ Some mark
mark-end was [] file mark = refl
mark-end was (Item a ∷ ns) file mark = mark-end was ns file mark
mark-end was (End f m ∷ ns) file mark = mark-end (Some m) ns file mark
mark-end was (Stop ∷ ns) file mark = mark-end was ns file mark

-- a note that is of the file, and one that is not
of_file-mine : (file : ℕ) (ns : List Note) (n : Note) → is_of file n ≡ true → of_file file (ns ++ n ∷ []) ≡ of_file file ns ++ n ∷ []
of_file-mine file ns n is = filter-append (is_of file) ns (n ∷ []) ∙ ap (λ b. of_file file ns ++ cond b (n ∷ []) []) is

of_file-other : (file : ℕ) (ns : List Note) (n : Note) → is_of file n ≡ false → of_file file (ns ++ n ∷ []) ≡ of_file file ns
of_file-other file ns n is = filter-append (is_of file) ns (n ∷ []) ∙ ap (λ b. of_file file ns ++ cond b (n ∷ []) []) is ∙ append-nil (of_file file ns)

module _ {E : Type 0} where
  draft_other : (about : E → About) (file : ℕ) (ns : List Note) (n : Note) (draft : Draft E) → is_of file n ≡ false → IsDraft about file ns draft → IsDraft about file (ns ++ n ∷ []) draft
  draft_other about file ns n draft is was =
      let same = sym (of_file-other file ns n is) in
      record { entries = was.entries ∙ ap abouts same; mark = was.mark ∙ ap (mark_after None) same }

  draft_item : (about : E → About) (file : ℕ) (ns : List Note) (draft after : Draft E) (entry : E) → (about entry).file ≡ file
      → after.entries.items ≡ draft.entries.items ++ entry ∷ [] → after.mark ≡ draft.mark → IsDraft about file ns draft → IsDraft about file (ns ++ Item (about entry) ∷ []) after
  draft_item about file ns draft after entry of_it more same was =
      let mine = of_file-mine file ns (Item (about entry)) (eq-eqb (about entry).file file of_it) in
      record {
        entries = ap (map about) more ∙ map-append about draft.entries.items (entry ∷ []) ∙ ap (λ l. l ++ about entry ∷ []) was.entries
            ∙ sym (abouts-item (of_file file ns) (about entry)) ∙ ap abouts (sym mine);
        mark = same ∙ was.mark ∙ sym (mark-item None (of_file file ns) (about entry)) ∙ ap (mark_after None) (sym mine);
      }

  draft_end : (about : E → About) (file : ℕ) (ns : List Note) (draft after : Draft E) (mark : Mark)
      → after.entries.items ≡ draft.entries.items → after.mark ≡ Some mark → IsDraft about file ns draft → IsDraft about file (ns ++ End file mark ∷ []) after
  draft_end about file ns draft after mark same is was =
      let mine = of_file-mine file ns (End file mark) (eq-eqb file file refl) in
      record {
        entries = ap (map about) same ∙ was.entries ∙ sym (abouts-end (of_file file ns) file mark) ∙ ap abouts (sym mine);
        mark = is ∙ sym (mark-end None (of_file file ns) file mark) ∙ ap (mark_after None) (sym mine);
      }

  -- a note of no draft's file
  pub drafts_other : (about : E → About) (first : ℕ) (ns : List Note) (n : Note) (drafts : List (Draft E))
      → ((file : ℕ) → first ≤ file → file < first + length drafts → is_of file n ≡ false)
      → AreDrafts about first ns drafts → AreDrafts about first (ns ++ n ∷ []) drafts
  drafts_other about first ns n [] apart were = tt
  drafts_other about first ns n (draft ∷ drafts) apart (was, were) = (
    draft_other about first ns n draft (apart first (omega arith) (omega arith)) was,
    drafts_other about (first + 1) ns n drafts (λ file from to. apart file (omega (arith, from)) (omega (arith, to))) were,
  )

  -- a record of the draft at a place, and a mark
  pub drafts_item : (about : E → About) (first : ℕ) (ns : List Note) (drafts : List (Draft E)) (place : ℕ) (before after : Draft E) (entry : E)
      → place < length drafts → (about entry).file ≡ first + place → before ≡ get_or drafts place before
      → after.entries.items ≡ before.entries.items ++ entry ∷ [] → after.mark ≡ before.mark
      → AreDrafts about first ns drafts → AreDrafts about first (ns ++ Item (about entry) ∷ []) (set drafts place after)
  drafts_item about first ns [] place before after entry in_range of_it at more same were = absurd (omega (arith, in_range))
  drafts_item about first ns (draft ∷ drafts) zero before after entry in_range of_it at more same (was, were) = (
    draft_item about first ns draft after entry (omega (arith, of_it)) (more ∙ ap (λ d. d.entries.items ++ entry ∷ []) at) (same ∙ ap (λ d. d.mark) at) was,
    drafts_other about (first + 1) ns (Item (about entry)) drafts (λ file from to. ne_eqb (about entry).file file (λ e. absurd (omega (arith, from, e, of_it)))) were,
  )
  drafts_item about first ns (draft ∷ drafts) (suc place) before after entry in_range of_it at more same (was, were) = (
    draft_other about first ns (Item (about entry)) draft (ne_eqb (about entry).file first (λ e. absurd (omega (arith, e, of_it)))) was,
    drafts_item about (first + 1) ns drafts place before after entry (omega (arith, in_range)) (omega (arith, of_it)) at more same were,
  )

  pub drafts_end : (about : E → About) (first : ℕ) (ns : List Note) (drafts : List (Draft E)) (place file : ℕ) (before after : Draft E) (mark : Mark)
      → place < length drafts → file ≡ first + place → before ≡ get_or drafts place before
      → after.entries.items ≡ before.entries.items → after.mark ≡ Some mark
      → AreDrafts about first ns drafts → AreDrafts about first (ns ++ End file mark ∷ []) (set drafts place after)
  drafts_end about first ns [] place file before after mark in_range of_it at same is were = absurd (omega (arith, in_range))
  drafts_end about first ns (draft ∷ drafts) zero file before after mark in_range of_it at same is (was, were) = (
    (let e : first ≡ file = omega (arith, of_it) in
        subst (λ f. IsDraft about first (ns ++ End f mark ∷ []) after) e (draft_end about first ns draft after mark (same ∙ ap (λ d. d.entries.items) at) is was)),
    drafts_other about (first + 1) ns (End file mark) drafts (λ other from to. ne_eqb file other (λ e. absurd (omega (arith, from, e, of_it)))) were,
  )
  drafts_end about first ns (draft ∷ drafts) (suc place) file before after mark in_range of_it at same is (was, were) = (
    draft_other about first ns (End file mark) draft (ne_eqb file first (λ e. absurd (omega (arith, e, of_it)))) was,
    drafts_end about (first + 1) ns drafts place file before after mark (omega (arith, in_range)) (omega (arith, of_it)) at same is were,
  )

  -- a draft of nothing
  empty_draft : (about : E → About) (file : ℕ) (draft : Draft E) → draft.entries.items ≡ [] → draft.mark ≡ None → IsDraft about file [] draft
  empty_draft about file draft none unmarked = record { entries = ap (map about) none; mark = unmarked }

  pub empty_more : (about : E → About) (first : ℕ) (drafts : List (Draft E)) (draft : Draft E) → draft.entries.items ≡ [] → draft.mark ≡ None
      → AreDrafts about first [] drafts → AreDrafts about first [] (drafts ++ draft ∷ [])
  empty_more about first [] draft none unmarked were = (empty_draft about first draft none unmarked, tt)
  empty_more about first (d ∷ drafts) draft none unmarked (was, were) = (was, empty_more about (first + 1) drafts draft none unmarked were)
