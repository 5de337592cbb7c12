-- Walks round the faces of a map.
use Rattle.std.specs.Prelude.{◌≡◌, ◌≢◌, ◌⊎◌, ℕ, ◌<◌, ◌≤◌, ◌==◌, List, [], ◌∷◌, ◌++◌, Bool, true, false, slice_index_or, if◌then◌else◌, zero, suc}
use Rattle.dissect.specs.Faces.{In}
use Rattle.dissect.specs.DartMaps.{DartMap}

-- the dart that k steps by "next" lead to
abbrev pub steps : DartMap → ℕ → ℕ → ℕ
steps w zero a = a
steps w (suc k) a = steps w k (w.next a)

-- the darts of these steps, the first step first
abbrev pub darts_walked : DartMap → ℕ → ℕ → List ℕ
darts_walked w a zero = []
darts_walked w a (suc k) = w.next a ∷ darts_walked w (w.next a) k

-- those of the darts at whose heads the walk turns
abbrev pub turning : DartMap → List ℕ → List ℕ
turning w [] = []
turning w (a ∷ rest) = if w.angle a == 2 then turning w rest else (a ∷ turning w rest)

-- the walk from a is back at a after `places` steps, and not before
pub record HasPeriod (w : DartMap) (a places : ℕ) : Type 0 where
  pub some : 1 ≤ places
  pub most : places ≤ w.darts
  pub back : steps w places a ≡ a
  pub first : (j : ℕ) → 1 ≤ j → j < places → steps w j a ≢ a

-- the dart is flagged
abbrev pub IsFlagged : List Bool → ℕ → Type 0
IsFlagged flags a = slice_index_or flags a false ≡ true

-- the walk from `start` once round its face has flagged its darts and listed the corners among them
pub record IsWalked (w : DartMap) (start : ℕ) (before after : List Bool) (others listed : List ℕ) : Type 0 where
  pub places : ℕ
  pub period : HasPeriod w start places
  pub corners : listed ≡ others ++ turning w (darts_walked w start places)
  pub kept : (a : ℕ) → IsFlagged before a → IsFlagged after a
  pub passed : (a : ℕ) → In a (darts_walked w start places) → IsFlagged after a
  pub only : (a : ℕ) → IsFlagged after a → IsFlagged before a ⊎ In a (darts_walked w start places)
