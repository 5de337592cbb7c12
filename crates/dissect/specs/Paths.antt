-- The darts that an edge of the plane is made of, in walking order, and the turns between them.
use Rattle.std.specs.Prelude.{◌≡◌, ℕ, ◌+◌, ◌-◌, ◌%◌, ◌<◌, ◌≤◌, ◌==◌, ◌⊎◌, Bool, true, List, [], ◌∷◌, if◌then◌else◌}
use Rattle.dissect.specs.DartMaps.{DartMap, no_dart}
use Rattle.dissect.specs.Faces.{last_of, Below, In}

-- each dart of the list has its predecessor before it, the first one a, and sets out where that arrives
abbrev pub Follows : DartMap → ℕ → List ℕ → Type 0
Follows w a [] = Unit {0}
Follows w a (b ∷ bs) = (w.before b ≡ a) × (w.head (w.reverse_dart b) ≡ w.head a) × Follows w b bs

-- first, and after it the rest, are all darts of the edge that ends with the dart `end`
pub record IsPath (w : DartMap) (end first : ℕ) (rest : List ℕ) : Type 0 where
  pub first_in : first < w.darts
  pub rest_in : Below w.darts rest
  pub start : w.before first ≡ no_dart
  pub follows : Follows w first rest
  pub ends : last_of first rest ≡ end

-- the dart a is a part of the edge that ends with the dart d: it stands on the path that does
pub record IsPart (w : DartMap) (d a : ℕ) : Type 0 where
  pub first : ℕ
  pub rest : List ℕ
  pub path : IsPath w d first rest
  pub on : In a (first ∷ rest)

-- the quarters to the left by which the walk turns from the dart a to the dart b: b sets out opposite to its reverse
abbrev pub turn_to : DartMap → ℕ → ℕ → ℕ
turn_to w a b = (w.direction (w.reverse_dart b) + 6 - w.direction a) % 4

-- the turns along a path, straight places left out: 1 for a quarter to the left, 3 for one to the right
abbrev pub path_quarters : DartMap → ℕ → List ℕ → List ℕ
path_quarters w a [] = []
path_quarters w a (b ∷ bs) = if turn_to w a b == 0 then path_quarters w b bs else turn_to w a b ∷ path_quarters w b bs

-- the vertices at which a path turns, in order
abbrev pub turning_vertices : DartMap → ℕ → List ℕ → List ℕ
turning_vertices w a [] = []
turning_vertices w a (b ∷ bs) = if turn_to w a b == 0 then turning_vertices w b bs else w.head a ∷ turning_vertices w b bs

-- the edge that ends with the dart `end`, and the other way with `reverse_dart`, sets out with the reverse of that, and
-- turns by these quarters
pub record HasPath (w : DartMap) (end reverse_dart : ℕ) (quarters : List ℕ) : Type 0 where
  pub first : ℕ
  pub rest : List ℕ
  pub path : IsPath w end first rest
  pub back : w.reverse_dart first ≡ reverse_dart
  pub turns : path_quarters w first rest ≡ quarters

-- the first n darts of the map end the edges of the plane: each has its path, and none of them stands before another dart
pub record HasPaths (w : DartMap) (n : ℕ) (reverse_dart : ℕ → ℕ) (quarters : ℕ → List ℕ) : Type 0 where
  pub few : n ≤ w.darts
  pub paths : (d : ℕ) → d < n → HasPath w d (reverse_dart d) (quarters d)
  pub ends : (a : ℕ) → a < w.darts → (w.before a ≡ no_dart) ⊎ ((n ≤ w.before a) × (w.before a < w.darts))

-- any two darts are connected: a set of darts closed under "next" and "reverse" that holds one dart holds them all
abbrev pub IsConnected : DartMap → Type 0
IsConnected w = (s : ℕ → Bool) → ((a : ℕ) → a < w.darts → s a ≡ true → s (w.next a) ≡ true)
    → ((a : ℕ) → a < w.darts → s a ≡ true → s (w.reverse_dart a) ≡ true)
    → (a b : ℕ) → a < w.darts → b < w.darts → s a ≡ true → s b ≡ true
