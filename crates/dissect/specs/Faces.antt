-- Faces of a map, given by their corners: the darts at whose heads the walk round the face turns.
use Rattle.std.specs.Prelude.{◌≡◌, ◌≢◌, ℕ, ◌+◌, ◌*◌, ◌<◌, ◌⊎◌, List, [], ◌∷◌, ◌++◌, length, map, take, drop, zero, suc}
use Rattle.dissect.specs.DartMaps.{DartMap}
use Rattle.dissect.specs.Turning.{total}

-- the walk turns at the head of the dart
abbrev pub IsCorner : DartMap → ℕ → Type 0
IsCorner w a = w.angle a ≢ 2

-- from the dart a the walk goes straight through k darts, and the one after them is the corner c
abbrev pub StretchesIn : DartMap → ℕ → ℕ → ℕ → Type 0
StretchesIn w zero a c = (w.next a ≡ c) × IsCorner w c
StretchesIn w (suc k) a c = (w.angle (w.next a) ≡ 2) × StretchesIn w k (w.next a) c

-- the next corner after the dart a is c
pub record Stretches (w : DartMap) (a c : ℕ) : Type 0 where
  pub places : ℕ
  pub stretch : StretchesIn w places a c

-- from a the walk turns at each dart of the list, in order, and nowhere else up to the last of them
abbrev pub Trail : DartMap → ℕ → List ℕ → Type 0
Trail w a [] = Unit {0}
Trail w a (c ∷ cs) = Stretches w a c × Trail w c cs

-- the last of a list, and `a` where it is empty
abbrev pub last_of : ℕ → List ℕ → ℕ
last_of a [] = a
last_of a (c ∷ cs) = last_of c cs

-- the corners of one face, in walking order
abbrev pub Ring : DartMap → List ℕ → Type 0
Ring w [] = ⊥
Ring w (c ∷ cs) = Trail w (last_of c cs) (c ∷ cs)

-- the dart is on the list
abbrev pub In : ℕ → List ℕ → Type 0
In a [] = ⊥
In a (b ∷ bs) = (a ≡ b) ⊎ In a bs

-- a face with four corners, each of the same angle, and c one of them
pub record HasFourCorners (w : DartMap) (angle c : ℕ) : Type 0 where
  pub second : ℕ
  pub third : ℕ
  pub fourth : ℕ
  pub to_second : Stretches w c second
  pub to_third : Stretches w second third
  pub to_fourth : Stretches w third fourth
  pub back : Stretches w fourth c
  pub angle_first : w.angle c ≡ angle
  pub angle_second : w.angle second ≡ angle
  pub angle_third : w.angle third ≡ angle
  pub angle_fourth : w.angle fourth ≡ angle

-- the corner a is one of four right turns of one face, and so is o
pub record IsOutside (w : DartMap) (o a : ℕ) : Type 0 where
  pub four : HasFourCorners w 3 a
  pub holds : In o (a ∷ four.second ∷ four.third ∷ four.fourth ∷ [])

-- each dart of the map comes to a corner
abbrev pub ReachesCorners : DartMap → Type 0
ReachesCorners w = (a : ℕ) → a < w.darts → (c : ℕ) × Stretches w a c

-- no dart is on the list twice
abbrev pub Distinct : List ℕ → Type 0
Distinct [] = Unit {0}
Distinct (b ∷ bs) = (In b bs → ⊥) × Distinct bs

-- each of the list is below n
abbrev pub Below : ℕ → List ℕ → Type 0
Below n [] = Unit {0}
Below n (b ∷ bs) = (b < n) × Below n bs

-- the lists, one after another
abbrev pub concatenated : List (List ℕ) → List ℕ
concatenated [] = []
concatenated (r ∷ rs) = r ++ concatenated rs

-- along these corners the walk turns once round to the left
abbrev pub TurnsOnce : DartMap → List ℕ → Type 0
TurnsOnce w r = total (map w.angle r) + 4 ≡ 2 * length r

-- each list has the corners of one face, round which the walk turns once to the left
abbrev pub AreRings : DartMap → List (List ℕ) → Type 0
AreRings w [] = Unit {0}
AreRings w (r ∷ rs) = (Ring w r × TurnsOnce w r) × AreRings w rs

-- the faces that wait to be cut: each corner of the map is of one of them, or of a box, or of the outside of the
-- rectangle, of which o is a corner
pub record AreWaiting (w : DartMap) (o : ℕ) (faces : List (List ℕ)) : Type 0 where
  pub rings : AreRings w faces
  pub distinct : Distinct (concatenated faces)
  pub below : Below w.darts (concatenated faces)
  pub inside : o < w.darts
  pub outside : HasFourCorners w 3 o
  pub placed : (a : ℕ) → a < w.darts → IsCorner w a → In a (concatenated faces) ⊎ (HasFourCorners w 1 a ⊎ IsOutside w o a)

-- the list divided into pieces of these lengths
abbrev pub slices_of : List ℕ → List ℕ → List (List ℕ)
slices_of xs [] = []
slices_of xs (n ∷ ns) = take n xs ∷ slices_of (drop n xs) ns
