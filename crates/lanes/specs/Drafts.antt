-- What has arrived of the files so far.
use Rattle.std.specs.Prelude.{◌≡◌, ℕ, ◌+◌, List, [], ◌∷◌, map, Option, None, Some, ⊤}
use Rattle.streams.specs.declared.frames.Mark.{Mark}
use Rattle.common.specs.declared.parameters.Choice.{Choice}
use Rattle.lanes.specs.declared.gathering.Draft.{Draft}
use Rattle.lanes.specs.Notes.{About, Note, of_file, numbered, Item, End}
use Rattle.lanes.specs.Opening.{Meaning, IsFoundAt}

-- the records that notes are about, in order
abbrev pub abouts : List Note → List About
abouts [] = []
abouts (Item about ∷ ns) = about ∷ abouts ns
abouts (_ ∷ ns) = abouts ns

-- the last mark among notes, or this one if they have none
abbrev pub mark_after : Option Mark → List Note → Option Mark
mark_after mark [] = mark
mark_after mark (End file later ∷ ns) = mark_after (Some later) ns
mark_after mark (_ ∷ ns) = mark_after mark ns

module _ {E : Type 0} where
  -- the draft has what the notes say of the file
  pub record IsDraft (about : E → About) (file : ℕ) (ns : List Note) (draft : Draft E) : Type 0 where
    pub entries : map about draft.entries.items ≡ abouts (of_file file ns)
    pub mark : draft.mark ≡ mark_after None (of_file file ns)

  -- the drafts are those of consecutive files, the first of which has this number
  abbrev pub AreDrafts : (E → About) → ℕ → List Note → List (Draft E) → Type 0
  AreDrafts about file ns [] = ⊤
  AreDrafts about file ns (draft ∷ drafts) = IsDraft about file ns draft × AreDrafts about (file + 1) ns drafts

  -- the entries are about the records of the file under this choice, in order, and these and the mark are what it means
  pub record IsWhole (about : E → About) (choice : Choice) (meaning : Meaning) (file : ℕ) (entries : List E) (mark : Mark) : Type 0 where
    pub records : List (List ℕ)
    pub each : map about entries ≡ numbered choice file 0 records
    pub found : IsFoundAt meaning records mark
