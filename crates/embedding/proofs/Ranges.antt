-- Lists of which no entry is greater than the number of vertices.
use Rattle.std.proofs.Common.{◌≡◌, ◌⊎◌, ℕ, ◌+◌, ◌<◌, ◌≤◌, List, [], length, get_or, sym, subst, inl, inr, arith}
use Rattle.std.specs.List.{All}
use Rattle.std.proofs.lemmas.Bool.{cases_lt}
use Rattle.std.proofs.lemmas.List.{get_or_default}
use Rattle.embedding.specs.Lists.{list_of}
use Rattle.embedding.specs.declared.breaks.Rule.TheVariants.{Range}
use Rattle.embedding.specs.Rules.{Breaks}
use Rattle.embedding.proofs.EachList.{list_of-add}

-- the entries of each vertex's list are vertices
pub in_range : (g : List (List ℕ)) → (Breaks g Range → ⊥) → (u i : ℕ) → i < length (list_of g u) → get_or (list_of g u) i 0 ≤ length g
in_range g keeps u i inside =
    elim (cases_lt (length g) (get_or (list_of g u) i 0)) [
      | inl above ↦ absurd (keeps (u, (i, get_or (list_of g u) i 0, inside, get_or_default (list_of g u) i (get_or (list_of g u) i 0) 0 inside, above)))
      | inr within ↦ within
    ]

-- and so is each entry of such a list below a bound that the number of vertices is below
pub all_in_range : (g : List (List ℕ)) → (Breaks g Range → ⊥) → (bound u : ℕ) → length g < bound → All (λ v. v < bound) (list_of g u)
all_in_range g keeps bound u few k d inside =
    subst (λ (v : ℕ). v < bound) (get_or_default (list_of g u) k 0 d inside) (omega (arith, in_range g keeps u k inside))

-- the same of the list at a place
pub all_at_in_range : (g : List (List ℕ)) → (Breaks g Range → ⊥) → (bound place : ℕ) → length g < bound → All (λ v. v < bound) (get_or g place [])
all_at_in_range g keeps bound place few =
    subst (λ (l : List ℕ). All (λ v. v < bound) l) (list_of-add g place) (all_in_range g keeps bound (place + 1) few)
