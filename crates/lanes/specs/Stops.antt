-- A stop says nothing about any file.
use Rattle.std.proofs.Common.{◌≡◌, ℕ, ◌+◌, cond, List, [], ◌∷◌, ◌++◌, None, refl, sym, ap, ◌∙◌}
use Rattle.lanes.specs.declared.gathering.Draft.{Draft}
use Rattle.lanes.specs.Notes.{About, Note, is_of, of_file, Stop}
use Rattle.lanes.specs.Drafts.{abouts, mark_after, AreDrafts}

pub of_file_stop : (file : ℕ) (ns : List Note) → of_file file (ns ++ Stop ∷ []) ≡ of_file file ns
of_file_stop file [] = refl
of_file_stop file (n ∷ ns) = ap (λ l. cond (is_of file n) (n ∷ l) l) (of_file_stop file ns)

pub drafts_stop : {E : Type 0} (about : E → About) (first : ℕ) (ns : List Note) (drafts : List (Draft E)) → AreDrafts about first ns drafts → AreDrafts about first (ns ++ Stop ∷ []) drafts
drafts_stop about first ns [] are = tt
drafts_stop about first ns (draft ∷ drafts) (is, are) =
    let same = sym (of_file_stop first ns) in
    (record { entries = is.entries ∙ ap abouts same; mark = is.mark ∙ ap (mark_after None) same }, drafts_stop about (first + 1) ns drafts are)
