-- The rules that neighbour lists may break, and the first one that they break.
use Rattle.std.specs.Prelude.{◌≡◌, ◌≢◌, ℕ, ◌+◌, ◌*◌, ◌<◌, ◌≤◌, Bool, true, false, List, [], length, slice_index, Any, All, Contains}
use Rattle.embedding.specs.declared.breaks.Rule.{Rule}
use Rattle.embedding.specs.declared.breaks.Rule.TheVariants.{Range, Loop, Multi, Asymmetric, Edgeless, Degree, Disconnected, Genus}
use Rattle.embedding.specs.Lists.{list_of}
use Rattle.embedding.specs.Darts.{dart_count, next_of}
use Rattle.embedding.specs.Faces.{HasFaces}

-- the set s of vertices holds with each vertex all its neighbours
abbrev pub IsClosed : List (List ℕ) → (ℕ → Bool) → Type 0
IsClosed g s = (u : ℕ) → s u ≡ true → All (λ v. s v ≡ true) (list_of g u)

-- the list has one entry at two places
abbrev pub NamesTwice : List ℕ → Type 0
NamesTwice list = (i j : ℕ) × (i < j) × (j < length list) × (slice_index list i ≡ slice_index list j)

abbrev pub Breaks : List (List ℕ) → Rule → Type 0
-- some entry is greater than the number of vertices
Breaks g Range = (u : ℕ) × Any (λ v. length g < v) (list_of g u)
-- some vertex stands in its own list
Breaks g Loop = (u : ℕ) × Contains (list_of g u) u
-- some list names a neighbour twice
Breaks g Multi = (u : ℕ) × NamesTwice (list_of g u)
-- some v stands in the list of u, and u does not stand in the list of v
Breaks g Asymmetric = (u : ℕ) × Any (λ v. ¬ Contains (list_of g v) u) (list_of g u)
-- all lists are empty
Breaks g Edgeless = (u : ℕ) → list_of g u ≡ []
-- some list has more than 4 entries
Breaks g Degree = (u : ℕ) × (4 < length (list_of g u))
-- some set of vertices closed under adjacency holds vertex 1 and is not all
Breaks g Disconnected =
    (s : ℕ → Bool) × (s 1 ≡ true) × IsClosed g s
    × ((u : ℕ) × (1 ≤ u) × (u ≤ length g) × (s u ≡ false))
-- vertices and faces are not the edges and two more: both sides doubled, since an edge is two darts
Breaks g Genus =
    (face : ℕ → ℕ) × (f : ℕ) × HasFaces (dart_count g) (next_of g) face f
    × (2 * (length g + f) ≢ dart_count g + 4)

-- the rules are numbered from 1, in the order in which they are tried
abbrev pub rule_number : Rule → ℕ
rule_number Range = 1
rule_number Loop = 2
rule_number Multi = 3
rule_number Asymmetric = 4
rule_number Edgeless = 5
rule_number Degree = 6
rule_number Disconnected = 7
rule_number Genus = 8

-- no rule with a number below k is broken
abbrev pub KeepsBefore : List (List ℕ) → ℕ → Type 0
KeepsBefore g k = (q : Rule) → rule_number q < k → ¬ Breaks g q

-- the rule is broken, and none before it
abbrev pub FirstBroken : List (List ℕ) → Rule → Type 0
FirstBroken g r = Breaks g r × KeepsBefore g (rule_number r)
