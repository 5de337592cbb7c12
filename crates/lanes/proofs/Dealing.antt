-- Whoever took the stop took all that was told, and drafts of all that is told of their files are ready.
use Rattle.std.proofs.Common.{◌≡◌, ℕ, ◌+◌, ◌<◌, List, [], ◌∷◌, ◌++◌, map, length, Option, None, Some, refl, sym, ap, subst, ◌∙◌, arith, append-nil, append_assoc, length-append}
use Rattle.ruled_lanes.specs.LinkEnds.{Settles}
use Rattle.streams.specs.declared.frames.Mark.{Mark}
use Rattle.common.specs.declared.parameters.Choice.{Choice}
use Rattle.lanes.specs.declared.message.Message.{Message}
use Rattle.lanes.specs.declared.gathering.Draft.{Draft}
use Rattle.lanes.specs.Notes.{About, Note, notes, numbered, GoOn, IsStopped, Item, End, Stop}
use Rattle.lanes.specs.Opening.{Meaning}
use Rattle.lanes.specs.Stages.{IsHandedOn}
use Rattle.lanes.specs.Drafts.{abouts, mark_after, IsDraft, AreDrafts}
use Rattle.lanes.specs.Files.{HasFile, HasDrawn, TellsDrawn, IsWholeDraft, AreReady}
use Rattle.lanes.specs.Fans.{HasStop}
use Rattle.lanes.proofs.Passing.{notes-append}

-- a message's kind as a number
abbrev kind : Note → ℕ
kind (Item _) = 0
kind (End _ _) = 1
kind Stop = 2

abbrev first_of : List Note → Note
first_of [] = Stop
first_of (n ∷ ns) = n

abbrev rest_of : List Note → List Note
rest_of [] = []
rest_of (n ∷ ns) = ns

-- where one stop is the last note, nothing follows any stop
ends_there : (front rest last : List Note) → GoOn last → front ++ Stop ∷ rest ≡ last ++ Stop ∷ [] → rest ≡ []
ends_there [] rest [] on same = ap rest_of same
ends_there [] rest (Item a ∷ last) on same = absurd (omega (arith, ap (λ l. kind (first_of l)) same))
ends_there [] rest (End f m ∷ last) on same = absurd (omega (arith, ap (λ l. kind (first_of l)) same))
ends_there front rest (Stop ∷ last) on same = absurd on
ends_there (n ∷ front) rest [] on same = absurd (omega (arith, ap length same, length-append front (Stop ∷ rest)))
ends_there (n ∷ front) rest (Item a ∷ last) on same = ends_there front rest last on (ap rest_of same)
ends_there (n ∷ front) rest (End f m ∷ last) on same = ends_there front rest last on (ap rest_of same)

none_after : (xs ys : List Note) → xs ++ ys ≡ [] → ys ≡ []
none_after [] ys none = none
none_after (x ∷ xs) ys none = absurd (omega (arith, ap length none))

-- whoever took the stop took all that was given
pub stop_last : (mine held theirs : List Note) → mine ++ held ≡ theirs → HasStop mine → IsStopped theirs → mine ≡ theirs
stop_last mine held theirs settled (front, rest, is) (front', is', on') =
    let same : front ++ Stop ∷ (rest ++ held) ≡ front' ++ Stop ∷ [] =
    sym (append_assoc front (Stop ∷ rest) held) ∙ ap (λ l. l ++ held) (sym is) ∙ settled ∙ is' in
    let none : held ≡ [] = none_after rest held (ends_there front (rest ++ held) front' on' same) in
    sym (append-nil mine) ∙ ap (λ l. mine ++ l) (sym none) ∙ settled

pub stopped_has : (ns : List Note) → IsStopped ns → HasStop ns
stopped_has ns (front, is, on) = (front, [], is)

module _ {A M : Type 0} where
  -- over a link
  pub link_passed : (about : A → About) (taken given : List (Message A M)) → Settles taken given → IsStopped (notes about taken) → IsStopped (notes about given)
      → notes about taken ≡ notes about given
  link_passed about taken given (held, settled) stopped stopped' =
      stop_last (notes about taken) (notes about held) (notes about given) (sym (notes-append about taken held) ∙ ap (notes about) settled) (stopped_has (notes about taken) stopped) stopped'

  -- what is told stays told
  pub tells_same : (about : A → About) (choice : Choice) (meaning : ℕ → Meaning) (drawn : List ℕ) (gave : List (Message A M)) (ns : List Note) → notes about gave ≡ ns
      → IsStopped ns → HasDrawn choice meaning drawn ns → TellsDrawn about choice meaning drawn gave
  tells_same about choice meaning drawn gave ns same stopped told = record {
    stopped = subst IsStopped (sym same) stopped;
    told = subst (HasDrawn choice meaning drawn) (sym same) told;
  }

module _ {A B M : Type 0} where
  -- over a link and the stage after it
  pub stage_tells : (about : A → About) (next_about : B → About) (choice : Choice) (meaning : ℕ → Meaning) (drawn : List ℕ) (given taken : List (Message A M)) (gave : List (Message B M))
      → Settles taken given → IsHandedOn about next_about taken gave → TellsDrawn about choice meaning drawn given → TellsDrawn next_about choice meaning drawn gave
  stage_tells about next_about choice meaning drawn given taken gave settled passed tells =
      tells_same next_about choice meaning drawn gave (notes about given)
      (passed.same ∙ link_passed about taken given settled passed.stopped tells.stopped) tells.stopped tells.told

-- the records and the mark of a file's notes
abouts-items : (xs : List About) (file : ℕ) (mark : Mark) → abouts (map Item xs ++ End file mark ∷ []) ≡ xs
abouts-items [] file mark = refl
abouts-items (x ∷ xs) file mark = ap (λ l. x ∷ l) (abouts-items xs file mark)

mark-items : (was : Option Mark) (xs : List About) (file : ℕ) (mark : Mark) → mark_after was (map Item xs ++ End file mark ∷ []) ≡ Some mark
mark-items was [] file mark = refl
mark-items was (x ∷ xs) file mark = mark-items was xs file mark

module _ {E : Type 0} where
  -- a draft of all that is told of its file is ready
  draft_ready : (about : E → About) (choice : Choice) (meaning : Meaning) (file : ℕ) (ns : List Note) (draft : Draft E) → IsDraft about file ns draft → HasFile choice meaning file ns → IsWholeDraft about choice meaning file draft
  draft_ready about choice meaning file ns draft is has = record {
    mark = has.mark;
    marked = is.mark ∙ ap (mark_after None) has.told ∙ mark-items None (numbered choice file 0 has.records) file has.mark;
    whole = record {
      records = has.records;
      each = is.entries ∙ ap abouts has.told ∙ abouts-items (numbered choice file 0 has.records) file has.mark;
      found = has.found;
    };
  }

  pub drafts_ready : (about : E → About) (choice : Choice) (meaning : ℕ → Meaning) (first : ℕ) (ns : List Note) (drafts : List (Draft E)) → AreDrafts about first ns drafts
      → ((file : ℕ) → file < first + length drafts → HasFile choice (meaning file) file ns) → AreReady about choice meaning first drafts
  drafts_ready about choice meaning first ns [] are has = tt
  drafts_ready about choice meaning first ns (draft ∷ drafts) (is, are) has = (
    draft_ready about choice (meaning first) first ns draft is (has first (omega arith)),
    drafts_ready about choice meaning (first + 1) ns drafts are (λ file below. has file (omega (arith, below))),
  )
