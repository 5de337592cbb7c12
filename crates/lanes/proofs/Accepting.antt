-- Records that a file's reader may be handed.
use Rattle.std.proofs.Common.{◌≡◌, ℕ, ◌+◌, List, ◌∷◌, ◌++◌, Option, Ok, length, sym, ap, ◌∙◌, subst}
use Rattle.std.specs.Prelude.{Bool}
use Rattle.streams.specs.Placing.{IsPlaced, EachAt}
use Rattle.streams.proofs.Placed.{each_at}
use Rattle.lanes.specs.Opening.{Meaning, Silent, Unopened, Opened, Opens, IsPlacedAt}

-- the next one of those that are left
pub accepts_next : (accepts : ℕ → List ℕ → Type 0) (first ordinal : ℕ) (all yielded left rest : List (List ℕ)) (bytes : List ℕ) → EachAt accepts first all → all ≡ yielded ++ left
    → left ≡ bytes ∷ rest → ordinal ≡ first + length yielded → accepts ordinal bytes
accepts_next accepts first ordinal all yielded left rest bytes each parts next is =
    subst (λ n. accepts n bytes) (sym is) (each_at accepts first yielded bytes rest (subst (EachAt accepts first) (parts ∙ ap (λ l. yielded ++ l) next) each))

-- what stands in the source that was opened stands in the file
pub placed_opened : {S : Type 0} (to_come : S → Option (List ℕ)) (fails : S → Bool) (meaning : Meaning) (source : S) (place : ℕ) (bytes : List ℕ)
    → Opens to_come fails meaning (Ok source) → IsPlaced (to_come source) place bytes → IsPlacedAt meaning place bytes
placed_opened to_come fails Silent source place bytes opens placed = tt
placed_opened to_come fails Unopened source place bytes opens placed = absurd opens
placed_opened to_come fails (Opened told failing) source place bytes opens placed = subst (λ t. IsPlaced t place bytes) opens.0 placed
