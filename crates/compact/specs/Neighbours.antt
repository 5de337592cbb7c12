-- Steps from vertex to vertex along one direction, and coordinates that are raised along them.
use Rattle.std.specs.Prelude.{◌≡◌, ℕ, ◌+◌, ◌*◌, ◌<◌, ◌≤◌, List, slice_index}
use Rattle.dissect.specs.DartMaps.{DartMap}
use Rattle.compact.specs.Monotone.{tail}

-- the neighbours in direction d, in a list with four entries for each vertex
abbrev pub neighbour : List ℕ → ℕ → ℕ → ℕ
neighbour around d v = slice_index around (4 * v + d)

-- each entry below n is the vertex that a dart of its direction comes to from its vertex
abbrev pub AreNeighbours : DartMap → List ℕ → ℕ → Type 0
AreNeighbours w around n = (v d : ℕ) → v < n → d < 4 → neighbour around d v < n
    → (a : ℕ) × (a < w.darts) × (w.direction a ≡ d) × (tail w a ≡ v) × (w.head a ≡ neighbour around d v)

-- the head of each of the first darts is the neighbour of its tail in its direction
abbrev pub HasNeighbours : DartMap → List ℕ → ℕ → Type 0
HasNeighbours w around darts = (a : ℕ) → a < darts → neighbour around (w.direction a) (tail w a) ≡ w.head a

-- the coordinates y grow by 1 or more along each arc to a neighbour
abbrev pub Grow : (ℕ → ℕ) → ℕ → (ℕ → ℕ) → Type 0
Grow next n y = (v : ℕ) → v < n → next v < n → y v + 1 ≤ y (next v)

-- the coordinates y stay the same along each arc to a neighbour
abbrev pub StayEqual : (ℕ → ℕ) → ℕ → (ℕ → ℕ) → Type 0
StayEqual next n y = (v : ℕ) → v < n → next v < n → y (next v) ≡ y v

-- the first n coordinates are nowhere above y
abbrev pub AreUnder : ℕ → List ℕ → (ℕ → ℕ) → Type 0
AreUnder n xs y = (v : ℕ) → v < n → slice_index xs v ≤ y v

-- coordinates nowhere above any that grow along the arcs ahead, and stay the same along those to the left, stay so
abbrev pub StayUnder : ℕ → (ℕ → ℕ) → (ℕ → ℕ) → List ℕ → List ℕ → Type 0
StayUnder n ahead left old new =
    (y : ℕ → ℕ) → Grow ahead n y → StayEqual left n y → AreUnder n old y → AreUnder n new y
