-- One face while it is cut: corners that were read stand on a stack, top first, and the others wait.
use Rattle.std.specs.Prelude.{◌≡◌, ℕ, zero, suc, ◌+◌, ◌*◌, ◌%◌, ◌<◌, ◌≤◌, List, [], ◌∷◌, length, map, slice_index, drop, All}
use Rattle.dissect.specs.DartMaps.{DartMap, IsSound, IsCutUp, reflex_turns}
use Rattle.dissect.specs.Faces.{AreWaiting}
use Rattle.dissect.specs.Turning.{total, Rising, Hopeful, HasNoHook}

-- the stack, from its bottom up, and then the rest
abbrev pub down : List ℕ → List ℕ → List ℕ
down [] rest = rest
down (c ∷ st) rest = down st (c ∷ rest)

-- the first of the places, the last first
abbrev pub tops : List ℕ → ℕ → List ℕ
tops xs zero = []
tops xs (suc h) = slice_index xs h ∷ tops xs h

-- the face with the corners `face` of the map w0 is being cut: the map is w by now, the corners on the stack and
-- the rest are those of the face
pub record IsFaceCutting (w0 : DartMap) (face : List ℕ) (w : DartMap) (st rest : List ℕ) : Type 0 where
  pub sound : IsSound w
  pub cut_up : IsCutUp w0 w
  pub waiting : (o : ℕ) (rs : List (List ℕ)) → AreWaiting w0 o (face ∷ rs) → AreWaiting w o (down st rest ∷ rs)
  pub hopeful : Hopeful (total (map w.angle rest)) (length rest) (map w.angle st)
  pub rising : Rising (map w.angle rest)

-- the edge of the dart after c lies straight across from the corner at the head of d, which turns right
pub record CanCut (w : DartMap) (d c : ℕ) : Type 0 where
  pub d_in : d < w.darts
  pub c_in : c < w.darts
  pub right : 2 < w.angle d
  pub faces : (w.direction (w.next c) + w.angle d) % 4 ≡ w.direction d

-- what a cut needs of room for darts
abbrev pub HasRoom : DartMap → ℕ → Type 0
HasRoom w room = w.darts + 4 * reflex_turns w ≤ room

-- the uppermost corners of the stack are a left on a left on a right
abbrev pub IsHookOn : DartMap → List ℕ → Type 0
IsHookOn w [] = ⊥
IsHookOn w (c ∷ []) = ⊥
IsHookOn w (c ∷ c1 ∷ []) = ⊥
IsHookOn w (c ∷ c1 ∷ d ∷ st) = (w.angle c ≡ 1) × (w.angle c1 ≡ 1) × (2 < w.angle d)

-- the cutting of a face whose corners stand in a list of places: those below h are the stack, which is hookless, and
-- those from `read` on the rest; there is room for `room` darts, and for `now` of them by now
pub record IsReading (w0 : DartMap) (face : List ℕ) (room : ℕ) (w : DartMap) (xs : List ℕ) (h read now : ℕ) : Type 0 where
  pub face_cutting : IsFaceCutting w0 face w (tops xs h) (drop read xs)
  pub low : h ≤ read
  pub inside : read ≤ length xs
  pub hookless : HasNoHook 0 (map w.angle (tops xs h))
  pub space : HasRoom w room
  pub kept : now ≡ room
  pub darts : All (λ a. a < now) xs
