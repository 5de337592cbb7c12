-- The bytes that a writing call leaves in a sink.
use Rattle.std.specs.Prelude.{◌≡◌, ℕ, Bool, true, false, List, ◌++◌, Option, Result, Ok, Err}
use Rattle.std.specs.Io.KnownBytes.{Appends}
use Rattle.streams.specs.declared.output.WriteFault.{WriteFault}
use Rattle.streams.specs.declared.output.WriteFault.TheVariants.{Write, Memory}

-- a prefix of the text was added
abbrev pub AppendsPrefix : Option (List ℕ) → Option (List ℕ) → List ℕ → Type 0
AppendsPrefix old new text = (front : List ℕ) × (rest : List ℕ) × (text ≡ front ++ rest) × Appends old new front

-- Ok: the whole text was added, and the sink has not failed. `Write`: a prefix of it, and the sink has failed. Nothing
-- is allocated.
abbrev pub Writes : {A : Type 0} → Option (List ℕ) → Option (List ℕ) → Bool → List ℕ → Result A WriteFault → Type 0
Writes old new failed text (Ok _) = (failed ≡ false) × Appends old new text
Writes old new failed text (Err Write) = (failed ≡ true) × AppendsPrefix old new text
Writes old new failed text (Err Memory) = ⊥

-- From `start` on, a prefix of the text was added to the sink, and the rest of it is buffered: the text is in transit.
pub record IsInTransit (start now : Option (List ℕ)) (waiting text : List ℕ) : Type 0 where
  pub sent : List ℕ
  pub split : text ≡ sent ++ waiting
  pub added : Appends start now sent

-- Whatever text was in transit, it is now in transit followed by `more`. `Write`: a prefix of it was added, and the
-- sink has failed.
abbrev pub StaysInTransit : {A : Type 0} → Option (List ℕ) → List ℕ → Option (List ℕ) → List ℕ → Bool → List ℕ → Result A WriteFault → Type 0
StaysInTransit old waited new waits failed more (Ok _) =
    (failed ≡ false) × ((start : Option (List ℕ)) (text : List ℕ) → IsInTransit start old waited text → IsInTransit start new waits (text ++ more))
StaysInTransit old waited new waits failed more (Err Write) =
    (failed ≡ true) × ((start : Option (List ℕ)) (text : List ℕ) → IsInTransit start old waited text → AppendsPrefix start new (text ++ more))
StaysInTransit old waited new waits failed more (Err Memory) = ⊥
