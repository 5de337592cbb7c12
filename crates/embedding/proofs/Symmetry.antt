-- The pairs of all lists, and whether each stands in both orders.
use Rattle.std.proofs.Common.{◌≡◌, ◌↔◌, ◌⊎◌, ℕ, suc, ◌+◌, ◌<◌, ◌≤◌, List, [], length, get_or, sym, ap, ◌∙◌, subst, inl, arith}
use Rattle.std.specs.List.{Any, Contains}
use Rattle.std.proofs.lemmas.List.{get_or_default}
use Rattle.embedding.specs.Lists.{list_of}
use Rattle.embedding.specs.Pairs.{HasPair}
use Rattle.embedding.specs.declared.breaks.Rule.TheVariants.{Range, Asymmetric}
use Rattle.embedding.specs.Rules.{Breaks}
use Rattle.embedding.proofs.EachList.{list_of-add}
use Rattle.embedding.proofs.Ranges.{in_range}
use Rattle.embedding.proofs.Rotation.{list_of-place}

-- the pairs are the old ones and those of the vertex and the first n entries
pub record AddsPairs (old : List ℕ) (vertex : ℕ) (list : List ℕ) (n : ℕ) (words : List ℕ) : Type 0 where
  pub from : (a b : ℕ) → a < 256 → b < 256 → HasPair words a b → HasPair old a b ⊎ ((a ≡ vertex) × ((i : ℕ) × (i < n) × (get_or list i 0 ≡ b)))
  pub kept : (a b : ℕ) → a < 256 → b < 256 → HasPair old a b → HasPair words a b
  pub added : (b i : ℕ) → b < 256 → i < n → get_or list i 0 ≡ b → HasPair words vertex b

pub adds_none : (old : List ℕ) (vertex : ℕ) (list : List ℕ) → AddsPairs old vertex list 0 old
adds_none old vertex list =
    record {
      from = λ a b _ _ h. inl h;
      kept = λ a b _ _ h. h;
      added = λ b i _ before _. absurd (omega arith);
    }

-- the pairs are those of the first n lists
abbrev pub HasLists : List (List ℕ) → ℕ → List ℕ → Type 0
HasLists g n words =
    (a b : ℕ) → a < 256 → b < 256 → (HasPair words a b ↔ ((a ≤ n) × Contains (list_of g a) b))

-- the entries of the list at a place are vertices
in_range_at : (g : List (List ℕ)) → (Breaks g Range → ⊥) → (k i : ℕ) → i < length (get_or g k []) → get_or (get_or g k []) i 0 ≤ length g
in_range_at g range k i inside =
    subst (λ (l : List ℕ). i < length l → get_or l i 0 ≤ length g) (list_of-add g k) (in_range g range (k + 1) i) inside

-- an entry that lacks its pair breaks the rule
pub lacks_breaks : (g : List (List ℕ)) (words : List ℕ) (k : ℕ) → (Breaks g Range → ⊥) → length g < 256 → k < length g → HasLists g (length g) words → Any (λ v. HasPair words v (k + 1) → ⊥) (get_or g k []) → Breaks g Asymmetric
lacks_breaks g words k range few below has (i, v, inside, entry, lacks) =
    (k + 1, subst (λ (l : List ℕ). Any (λ v. Contains (list_of g v) (k + 1) → ⊥) l) (sym (list_of-add g k)) (i, v, inside, entry, missing))
  where
    missing : Contains (list_of g v) (k + 1) → ⊥
    missing there =
        let small : v < 256 =
        omega (arith, in_range_at g range k i inside, get_or_default (get_or g k []) i 0 v inside, entry) in
        let place = list_of-place g v there.0 there.1 in
        lacks ((has v (k + 1) small (omega arith)).1 (omega (arith, place.1, place.2), there))

pub lacks_none : (g : List (List ℕ)) (words : List ℕ) → (Breaks g Range → ⊥) → length g < 256 → HasLists g (length g) words → ((k : ℕ) → k < length g → Any (λ v. HasPair words v (k + 1) → ⊥) (get_or g k []) → ⊥) → Breaks g Asymmetric → ⊥
lacks_none g words range few has none (u, (i, v, inside, entry, missing)) =
    let (k, vertex, below) = list_of-place g u i inside in
    at k below vertex
  where
    at : (k : ℕ) → k < length g → u ≡ suc k → ⊥
    at k below vertex =
        let same : list_of g u ≡ get_or g k [] = ap (list_of g) vertex in
        let in-k : i < length (get_or g k []) = subst (λ (l : List ℕ). i < length l) same inside in
        let is : get_or (get_or g k []) i v ≡ v = subst (λ (l : List ℕ). get_or l i v ≡ v) same entry in
        let small : v < 256 =
        omega (arith, in_range_at g range k i in-k, get_or_default (get_or g k []) i 0 v in-k, is) in
        none k below (i, v, in-k, is, λ h. missing (subst (λ (n : ℕ). Contains (list_of g v) n) (omega arith) ((has v (k + 1) small (omega arith)).0 h).1))

-- where each vertex is in the list of each of its own entries, the rule is kept
pub returns_none : (g : List (List ℕ)) (n : ℕ) → length g ≤ n → ((k : ℕ) → k < n → Any (λ v. Contains (list_of g v) (k + 1) → ⊥) (list_of g (k + 1)) → ⊥) → Breaks g Asymmetric → ⊥
returns_none g n all none (u, any) =
    let (k, vertex, below) = list_of-place g u any.0 any.2 in
    none k (omega arith) (subst (λ (w : ℕ). Any (λ v. Contains (list_of g v) w → ⊥) (list_of g w)) (omega arith) any)
