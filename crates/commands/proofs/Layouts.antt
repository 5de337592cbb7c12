-- A layout of the files that a request names.
use Rattle.std.proofs.Common.{◌≡◌, ◌≢◌, ◌⊎◌, ℕ, Bool, false, List, Option, inl, inr}
use Rattle.common.specs.declared.parameters.Choice.{Choice}
use Rattle.lanes.specs.Opening.{Meaning}
use Rattle.streams.specs.declared.frames.Form.{Form}
use Rattle.collector.specs.Whole.{IsAllWritten}
use Rattle.commands.specs.Statuses.{IsTextOfBooks}

either_else : (status : ℕ) → (status ≡ 0) ⊎ (status ≡ 3) → status ≢ 0 → status ≡ 3
either_else status (inl is) never = absurd (never is)
either_else status (inr is) never = is

-- what a run leaves in a sink that has not failed
pub laid_out : (choice : Choice) (meaning : ℕ → Meaning) (form : Form) (files : ℕ) (old new : Option (List ℕ)) (failed : Bool) (status : ℕ)
    → IsAllWritten choice meaning form files old new status → failed ≡ false → (status ≡ 0) ⊎ (status ≡ 3) → IsTextOfBooks choice form meaning files old new failed status
laid_out choice meaning form files old new failed status is stands other = record {
  books = is.books;
  of_files = is.of_files;
  text = is.text;
  written = stands;
  flawless = (is.flawless.1, is.flawless.0);
  other = either_else status other;
}
