-- A note about no file of the run says nothing about its files, nor does a stop.
use Rattle.std.proofs.Common.{◌≡◌, ℕ, Bool, cond, false, List, [], ◌∷◌, ◌++◌, Option, None, refl, sym, ap, ◌∙◌, append-nil}
use Rattle.std.proofs.lemmas.List.Elements.{filter-append}
use Rattle.common.specs.declared.parameters.Choice.{Choice}
use Rattle.lanes.specs.Notes.{Note, is_of, of_file, Stop}
use Rattle.lanes.specs.Opening.{Meaning}
use Rattle.lanes.specs.Drafts.{abouts, mark_after}
use Rattle.streams.specs.declared.frames.Form.{Form}
use Rattle.file_order.specs.declared.chunks.Waiting.{Waiting}
use Rattle.collector.specs.Came.{Came, IsToldByNotes}
use Rattle.collector.specs.Holding.{HoldsNotes}

of_file-other : (file : ℕ) (ns : List Note) (n : Note) → is_of file n ≡ false → of_file file (ns ++ n ∷ []) ≡ of_file file ns
of_file-other file ns n is = filter-append (is_of file) ns (n ∷ []) ∙ ap (λ b. of_file file ns ++ cond b (n ∷ []) []) is ∙ append-nil (of_file file ns)

-- a note of another file or of none
pub told_same : (file : ℕ) (ns : List Note) (n : Note) (came : Came) → is_of file n ≡ false → IsToldByNotes file ns came → IsToldByNotes file (ns ++ n ∷ []) came
told_same file ns n came other was =
    let same = sym (of_file-other file ns n other) in
    record { entries = was.entries ∙ ap abouts same; mark = was.mark ∙ ap (mark_after None) same }

pub held_stop : (choice : Choice) (meaning : ℕ → Meaning) (form : Form) (start now : Option (List ℕ)) (buffer : List ℕ) (current : ℕ) (waiting : List Waiting) (flawless : Bool) (ns : List Note)
    → HoldsNotes choice meaning form start now buffer current waiting flawless ns → HoldsNotes choice meaning form start now buffer current waiting flawless (ns ++ Stop ∷ [])
held_stop choice meaning form start now buffer current waiting flawless ns held = record {
  came = held.came;
  told = λ k below. told_same k ns Stop (held.came k) refl (held.told k below);
  ordered = held.ordered;
  written = held.written;
  unended = held.unended;
  all_flawless = held.all_flawless;
}
