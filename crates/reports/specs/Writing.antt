-- The text that a writing call that allocates leaves in a sink.
use Rattle.std.specs.Prelude.{◌≡◌, ℕ, Bool, true, false, List, ◌++◌, Option, Result, Ok, Err}
use Rattle.std.specs.Io.KnownBytes.{Appends}
use Rattle.streams.specs.declared.output.WriteFault.{WriteFault}
use Rattle.streams.specs.declared.output.WriteFault.TheVariants.{Write, Memory}
use Rattle.streams.specs.Sink.{AppendsPrefix, IsInTransit}

-- Ok: the whole text was added, and the sink has not failed. `Write`: a prefix of it was added, and the sink has
-- failed. `Memory`: a prefix of it was added, and the sink has not failed.
abbrev pub WritesOrLacks : {A : Type 0} → Option (List ℕ) → Option (List ℕ) → Bool → List ℕ → Result A WriteFault → Type 0
WritesOrLacks old new failed text (Ok _) = (failed ≡ false) × Appends old new text
WritesOrLacks old new failed text (Err Write) = (failed ≡ true) × AppendsPrefix old new text
WritesOrLacks old new failed text (Err Memory) = (failed ≡ false) × AppendsPrefix old new text

-- Whatever text was in transit, it is now in transit followed by `more`. After an error a prefix of it was added, and
-- the sink has failed exactly if the error is `Write`.
abbrev pub StaysOrLacks : {A : Type 0} → Option (List ℕ) → List ℕ → Option (List ℕ) → List ℕ → Bool → List ℕ → Result A WriteFault → Type 0
StaysOrLacks old waited new waits failed more (Ok _) =
    (failed ≡ false) × ((start : Option (List ℕ)) (text : List ℕ) → IsInTransit start old waited text → IsInTransit start new waits (text ++ more))
StaysOrLacks old waited new waits failed more (Err Write) =
    (failed ≡ true) × ((start : Option (List ℕ)) (text : List ℕ) → IsInTransit start old waited text → AppendsPrefix start new (text ++ more))
StaysOrLacks old waited new waits failed more (Err Memory) =
    (failed ≡ false) × ((start : Option (List ℕ)) (text : List ℕ) → IsInTransit start old waited text → AppendsPrefix start new (text ++ more))
