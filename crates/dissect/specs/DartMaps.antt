-- A planar map (combinatorial map): darts and vertices, with edges in four directions, before it is cut into boxes.
-- Darts and vertices are numbered from 0, directions 0 to 3 by quarter turns to the left from east.
use Rattle.std.specs.Prelude.{◌≡◌, ◌≢◌, ℕ, ◌+◌, ◌-◌, ◌%◌, ◌<◌, ◌≤◌, ◌==◌, if◌then◌else◌}
use Rattle.common.specs.Sums.{sum_below}
use Rattle.dissect.specs.declared.table.TheConstants.{NO_DART}

pub record DartMap : Type 0 where
  -- how many darts and vertices there are
  pub darts : ℕ
  pub vertices : ℕ
  -- the next and the previous dart of the face on the left
  pub next : ℕ → ℕ
  pub prev : ℕ → ℕ
  -- the dart along the same edge the other way
  pub reverse_dart : ℕ → ℕ
  -- the vertex that the dart goes to, and the direction in which it arrives there
  pub head : ℕ → ℕ
  pub direction : ℕ → ℕ
  -- the angle at its head, between it and the next dart, in right angles
  pub angle : ℕ → ℕ
  -- the dart before it on the same edge of the plane, side of a rectangle or chord, or `no_dart`
  pub before : ℕ → ℕ

-- the value for a missing dart
abbrev pub no_dart : ℕ
no_dart = NO_DART

-- "next" and "prev" undo each other, and "reverse" itself, without leaving the darts
pub record IsTied (w : DartMap) : Type 0 where
  pub next_in : (a : ℕ) → a < w.darts → w.next a < w.darts
  pub prev_in : (a : ℕ) → a < w.darts → w.prev a < w.darts
  pub next_back : (a : ℕ) → a < w.darts → w.prev (w.next a) ≡ a
  pub prev_back : (a : ℕ) → a < w.darts → w.next (w.prev a) ≡ a
  pub reverse_dart_in : (a : ℕ) → a < w.darts → w.reverse_dart a < w.darts
  pub reverse_dart_back : (a : ℕ) → a < w.darts → w.reverse_dart (w.reverse_dart a) ≡ a
  pub reverse_dart_apart : (a : ℕ) → a < w.darts → w.reverse_dart a ≢ a

-- the sum of the angles at a vertex
abbrev pub around : DartMap → ℕ → ℕ
around w u = sum_below w.darts (λ a. if w.head a == u then w.angle a else 0)

-- the darts meet at vertices, where angles and directions fit and go once round
pub record IsMeeting (w : DartMap) : Type 0 where
  pub head_in : (a : ℕ) → a < w.darts → w.head a < w.vertices
  pub meets : (a : ℕ) → a < w.darts → w.head (w.reverse_dart (w.next a)) ≡ w.head a
  pub quarter : (a : ℕ) → a < w.darts → w.direction a < 4
  -- the dart that arrives next clockwise has turned by the angle
  pub turns : (a : ℕ) → a < w.darts → (w.direction (w.reverse_dart (w.next a)) + w.angle a) % 4 ≡ w.direction a
  pub some : (a : ℕ) → a < w.darts → 1 ≤ w.angle a
  pub most : (a : ℕ) → a < w.darts → w.angle a ≤ 4
  pub whole : (u : ℕ) → u < w.vertices → around w u ≡ 4

-- each edge is straight: its two darts arrive in opposite directions
abbrev pub IsStraight : DartMap → Type 0
IsStraight w = (a : ℕ) → a < w.darts → w.direction (w.reverse_dart a) ≡ (w.direction a + 2) % 4

-- The edge of the dart e is subdivided by a new vertex, w.vertices. The new dart w.darts leads there before
-- e, and w.darts + 1 before e's reverse; e and its reverse keep their heads and angles. The walk along e
-- arrives at the new vertex in the direction `way`, and there the angles are `left_angle` and 4 less that.
pub record IsSubdivided (w : DartMap) (e way left_angle : ℕ) (new : DartMap) : Type 0 where
  pub darts : new.darts ≡ w.darts + 2
  pub vertices : new.vertices ≡ w.vertices + 1
  pub next_before : new.next (w.prev e) ≡ w.darts
  pub next_first : new.next w.darts ≡ e
  pub next_back : new.next (w.prev (w.reverse_dart e)) ≡ w.darts + 1
  pub next_second : new.next (w.darts + 1) ≡ w.reverse_dart e
  pub next_other : (a : ℕ) → a < w.darts → a ≢ w.prev e → a ≢ w.prev (w.reverse_dart e) → new.next a ≡ w.next a
  pub prev_first : new.prev w.darts ≡ w.prev e
  pub prev_e : new.prev e ≡ w.darts
  pub prev_second : new.prev (w.darts + 1) ≡ w.prev (w.reverse_dart e)
  pub prev_reverse_dart : new.prev (w.reverse_dart e) ≡ w.darts + 1
  pub prev_other : (a : ℕ) → a < w.darts → a ≢ e → a ≢ w.reverse_dart e → new.prev a ≡ w.prev a
  pub reverse_dart_e : new.reverse_dart e ≡ w.darts + 1
  pub reverse_dart_second : new.reverse_dart (w.darts + 1) ≡ e
  pub reverse_dart_reverse_dart : new.reverse_dart (w.reverse_dart e) ≡ w.darts
  pub reverse_dart_first : new.reverse_dart w.darts ≡ w.reverse_dart e
  pub reverse_dart_other : (a : ℕ) → a < w.darts → a ≢ e → a ≢ w.reverse_dart e → new.reverse_dart a ≡ w.reverse_dart a
  pub head_old : (a : ℕ) → a < w.darts → new.head a ≡ w.head a
  pub head_first : new.head w.darts ≡ w.vertices
  pub head_second : new.head (w.darts + 1) ≡ w.vertices
  pub direction_old : (a : ℕ) → a < w.darts → new.direction a ≡ w.direction a
  pub direction_first : new.direction w.darts ≡ way
  pub direction_second : new.direction (w.darts + 1) ≡ (way + 4 - left_angle) % 4
  pub angle_old : (a : ℕ) → a < w.darts → new.angle a ≡ w.angle a
  pub angle_first : new.angle w.darts ≡ left_angle
  pub angle_second : new.angle (w.darts + 1) ≡ 4 - left_angle
  pub before_e : new.before e ≡ w.darts
  pub before_first : new.before w.darts ≡ w.before e
  pub before_reverse_dart : new.before (w.reverse_dart e) ≡ w.darts + 1
  pub before_second : new.before (w.darts + 1) ≡ w.before (w.reverse_dart e)
  pub before_other : (a : ℕ) → a < w.darts → a ≢ e → a ≢ w.reverse_dart e → new.before a ≡ w.before a

-- A new edge connects the angle at the head of d with the angle at the head of f: the new dart w.darts goes on
-- from d in the direction `way`, and w.darts + 1 comes back from f. Each angle gives up one right angle,
-- which the new edge then has on its left.
pub record IsChord (w : DartMap) (d f way : ℕ) (new : DartMap) : Type 0 where
  pub darts : new.darts ≡ w.darts + 2
  pub vertices : new.vertices ≡ w.vertices
  pub next_d : new.next d ≡ w.darts
  pub next_there : new.next w.darts ≡ w.next f
  pub next_f : new.next f ≡ w.darts + 1
  pub next_back : new.next (w.darts + 1) ≡ w.next d
  pub next_other : (a : ℕ) → a < w.darts → a ≢ d → a ≢ f → new.next a ≡ w.next a
  pub prev_there : new.prev w.darts ≡ d
  pub prev_after_f : new.prev (w.next f) ≡ w.darts
  pub prev_back : new.prev (w.darts + 1) ≡ f
  pub prev_after_d : new.prev (w.next d) ≡ w.darts + 1
  pub prev_other : (a : ℕ) → a < w.darts → a ≢ w.next f → a ≢ w.next d → new.prev a ≡ w.prev a
  pub reverse_dart_there : new.reverse_dart w.darts ≡ w.darts + 1
  pub reverse_dart_back : new.reverse_dart (w.darts + 1) ≡ w.darts
  pub reverse_dart_old : (a : ℕ) → a < w.darts → new.reverse_dart a ≡ w.reverse_dart a
  pub head_old : (a : ℕ) → a < w.darts → new.head a ≡ w.head a
  pub head_there : new.head w.darts ≡ w.head f
  pub head_back : new.head (w.darts + 1) ≡ w.head d
  pub direction_old : (a : ℕ) → a < w.darts → new.direction a ≡ w.direction a
  pub direction_there : new.direction w.darts ≡ way
  pub direction_back : new.direction (w.darts + 1) ≡ (way + 2) % 4
  pub angle_d : new.angle d + 1 ≡ w.angle d
  pub angle_f : new.angle f + 1 ≡ w.angle f
  pub angle_there : new.angle w.darts ≡ 1
  pub angle_back : new.angle (w.darts + 1) ≡ 1
  pub angle_other : (a : ℕ) → a < w.darts → a ≢ d → a ≢ f → new.angle a ≡ w.angle a
  pub before_there : new.before w.darts ≡ no_dart
  pub before_back : new.before (w.darts + 1) ≡ no_dart
  pub before_old : (a : ℕ) → a < w.darts → new.before a ≡ w.before a

-- the chord leaves angles of more than one right angle, in directions that fit
pub record HasChordAngles (w : DartMap) (d f way : ℕ) : Type 0 where
  pub d_in : d < w.darts
  pub f_in : f < w.darts
  pub apart : d ≢ f
  pub direction_quarter : way < 4
  pub from_d : (way + 1 + w.angle d) % 4 ≡ w.direction d
  pub to_f : (way + w.angle f) % 4 ≡ (w.direction f + 1) % 4
  pub divides_d : 1 < w.angle d
  pub divides_f : 1 < w.angle f

-- a map whose edges are straight
pub record IsSound (w : DartMap) : Type 0 where
  pub tied : IsTied w
  pub meeting : IsMeeting w
  pub straight : IsStraight w

-- One cut: the edge of the dart e is subdivided without a turn, and a chord connects the angle at the head of d, which
-- is a right turn or two, with the new vertex on e.
pub record IsCut (w : DartMap) (d e way : ℕ) (new : DartMap) : Type 0 where
  pub middle : DartMap
  pub e_in : e < w.darts
  pub d_in : d < w.darts
  pub right : 2 < w.angle d
  pub subdivide : IsSubdivided w e (w.direction e) 2 middle
  pub fits : HasChordAngles middle d w.darts way
  pub chord : IsChord middle d w.darts way new

-- the darts d and e are of one face: what does not change round any face is the same at both
abbrev pub AreOfOneFace : DartMap → ℕ → ℕ → Type 0
AreOfOneFace w d e = (g : ℕ → ℕ) → ((a : ℕ) → a < w.darts → g (w.next a) ≡ g a) → g e ≡ g d

-- cuts, one after another, each across one face
pub data IsCutUp (w : DartMap) : DartMap → Type 0 where
  same : IsCutUp w w
  further : (mid new : DartMap) (d e way : ℕ) → IsCutUp w mid → IsCut mid d e way new → AreOfOneFace mid d e → IsCutUp w new

-- the right turns of a map: how far its angles go beyond straight
abbrev pub reflex_turns : DartMap → ℕ
reflex_turns w = sum_below w.darts (λ a. w.angle a - 2)
