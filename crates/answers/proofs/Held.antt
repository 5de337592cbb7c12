-- What holds of a plane holds of the same plane in a holder.
use Rattle.std.proofs.Common.{◌≡◌, ℕ, List, Ok, Err, inl, inr, sym, subst}
use Rattle.std.specs.Prelude.{Result}
use Rattle.std.proofs.lemmas.Bool.{false≢true}
use Rattle.common.specs.declared.parameters.Choice.{Choice}
use Rattle.embedding.specs.Rules.{KeepsBefore}
use Rattle.embedding.specs.declared.breaks.ReadFault.{ReadFault}
use Rattle.embedding.specs.declared.breaks.ReadFault.TheVariants.{Memory}
use Rattle.faces.specs.Planes.{PlaneModel, IsPlane}
use Rattle.answers.specs.declared.shaped_plane.ShapedPlane.{ShapedPlane}
use Rattle.answers.specs.Held.{IsHeld}
use Rattle.answers.specs.Steps.{IsRefused, IsEmbedded, IsShaped}

-- a traced plane breaks no rule, so without it there was no memory
pub no_memory : (g : List (List ℕ)) (plane : PlaneModel) (fault : ReadFault) → fault ≡ Memory → plane.lists ≡ g → IsPlane plane → IsRefused g fault
no_memory g plane fault memory lists rules = subst (IsRefused g) (sym memory) (subst (λ (l : List (List ℕ)). KeepsBefore l 9) lists rules.rules)

pub embedded_held : (g : List (List ℕ)) (plane held : Result PlaneModel ReadFault) → IsHeld plane held → IsEmbedded g plane → IsEmbedded g held
embedded_held g plane (Ok h) same embedded = subst (IsEmbedded g) same embedded
embedded_held g plane (Err fault) (inl same) embedded = subst (IsEmbedded g) same embedded
embedded_held g (Ok plane) (Err fault) (inr (memory, ok)) embedded =
    no_memory g plane fault memory embedded.lists embedded.rules
embedded_held g (Err other) (Err fault) (inr (memory, ok)) embedded = absurd (false≢true ok)

pub shaped_held : (choice : Choice) (g : List (List ℕ)) (plane held : Result ShapedPlane ReadFault) → IsHeld plane held → IsShaped choice g plane → IsShaped choice g held
shaped_held choice g plane (Ok h) same shaped = subst (IsShaped choice g) same shaped
shaped_held choice g plane (Err fault) (inl same) shaped = subst (IsShaped choice g) same shaped
shaped_held choice g (Ok plane) (Err fault) (inr (memory, ok)) shaped =
    no_memory g plane.plane fault memory shaped.lists shaped.rules
shaped_held choice g (Err other) (Err fault) (inr (memory, ok)) shaped = absurd (false≢true ok)
