-- The points along a path: it turns at its corners, and goes straight between them.
use Rattle.std.proofs.Common.{◌≡◌, ◌≢◌, ℕ, zero, suc, ◌+◌, ◌%◌, ◌<◌, ◌∙◌, List, [], ◌∷◌, ◌++◌, map, length, get_or, drop, slice_index_or, arith, subst, sym, ap, refl, inl, inr, eqb}
use Rattle.std.proofs.lemmas.Bool.{cases_eq, eq-eqb, ne_eqb, cond-true, cond-false, lt-ltb, le-ltb}
use Rattle.geometry.specs.declared.direction.Direction.{Direction}
use Rattle.geometry.specs.declared.direction.Direction.TheVariants.{East, North, West, South}
use Rattle.ortho_rep.specs.declared.grid_points.Point.{Point}
use Rattle.ortho_rep.specs.declared.turn_strings.Turn.{Turn}
use Rattle.ortho_rep.specs.declared.turn_strings.Turn.TheVariants.{Left, Right}
use Rattle.dissect.specs.DartMaps.{DartMap, IsSound}
use Rattle.dissect.specs.Faces.{Below, last_of}
use Rattle.dissect.specs.Paths.{Follows, turn_to, path_quarters, turning_vertices}
use Rattle.dissect.proofs.StraightPaths.{straight_on, turned_on}
use Rattle.dissect.specs.Steps.{angle_of}
use Rattle.dissect.specs.Monotone.{IsMonotone, point_at}
use Rattle.drawing_check.specs.Paths.{point_of}
use Rattle.drawing_check.specs.Draws.{IsAxis, IsOnAxes, IsTurning, direction_between, direction_of, turned}
use Rattle.drawing_laws.proofs.Sides.{Goes, goes_on, goes_leads, dart_goes}

-- the points from the vertex u on: straight to the first corner after the dart a, to the others and to the end
abbrev pub line : DartMap → (ℕ → ℕ) → (ℕ → ℕ) → ℕ → ℕ → List ℕ → List Point
line w x y u a rest = point_at x y u ∷ (map (point_at x y) (turning_vertices w a rest) ++ point_at x y (w.head (last_of a rest)) ∷ [])

pub line_straight : (w : DartMap) (x y : ℕ → ℕ) (u a b : ℕ) (bs : List ℕ) → turn_to w a b ≡ 0 → line w x y u a (b ∷ bs) ≡ line w x y u b bs
line_straight w x y u a b bs none =
    ap (λ (places : List ℕ). point_at x y u ∷ (map (point_at x y) places ++ point_at x y (w.head (last_of b bs)) ∷ []))
    (cond-true {A = List ℕ} (eqb (turn_to w a b) 0) (turning_vertices w b bs) (w.head a ∷ turning_vertices w b bs) (eq-eqb (turn_to w a b) 0 none))

pub line_turn : (w : DartMap) (x y : ℕ → ℕ) (u a b : ℕ) (bs : List ℕ) → turn_to w a b ≢ 0 → line w x y u a (b ∷ bs) ≡ point_at x y u ∷ line w x y (w.head a) b bs
line_turn w x y u a b bs some =
    ap (λ (places : List ℕ). point_at x y u ∷ (map (point_at x y) places ++ point_at x y (w.head (last_of b bs)) ∷ []))
    (cond-false {A = List ℕ} (eqb (turn_to w a b) 0) (turning_vertices w b bs) (w.head a ∷ turning_vertices w b bs) (ne_eqb (turn_to w a b) 0 some))

bends_straight : (w : DartMap) (a b : ℕ) (bs : List ℕ) → turn_to w a b ≡ 0 → path_quarters w a (b ∷ bs) ≡ path_quarters w b bs
bends_straight w a b bs none =
    cond-true {A = List ℕ} (eqb (turn_to w a b) 0) (path_quarters w b bs) (turn_to w a b ∷ path_quarters w b bs) (eq-eqb (turn_to w a b) 0 none)

bends_turn : (w : DartMap) (a b : ℕ) (bs : List ℕ) → turn_to w a b ≢ 0 → path_quarters w a (b ∷ bs) ≡ turn_to w a b ∷ path_quarters w b bs
bends_turn w a b bs some =
    cond-false {A = List ℕ} (eqb (turn_to w a b) 0) (path_quarters w b bs) (turn_to w a b ∷ path_quarters w b bs) (ne_eqb (turn_to w a b) 0 some)

-- ---- directions by their numbers

abbrev pub way_of : ℕ → Direction
way_of zero = East
way_of (suc zero) = North
way_of (suc (suc zero)) = West
way_of (suc (suc (suc k))) = South

pub goes_axis : (k : ℕ) (x y : ℕ → ℕ) (u v : ℕ) → Goes k x y u v → IsAxis (point_at x y u) (point_at x y v)
goes_axis zero x y u v goes = inr ((λ e. omega (arith, e, goes.0)), goes.1)
goes_axis (suc zero) x y u v goes = inl (goes.1, (λ e. omega (arith, e, goes.0)))
goes_axis (suc (suc zero)) x y u v goes = inr ((λ e. omega (arith, e, goes.0)), goes.1)
goes_axis (suc (suc (suc k))) x y u v goes = inl (goes.1, (λ e. omega (arith, e, goes.0)))

pub goes_way : (k : ℕ) (x y : ℕ → ℕ) (u v : ℕ) → Goes k x y u v → direction_between (point_at x y u) (point_at x y v) ≡ way_of k
goes_way zero x y u v goes = rw (lt-ltb (x u) (x v) goes.0) refl
goes_way (suc zero) x y u v goes =
    rw (le-ltb (x u) (x v) (omega (arith, goes.1)), le-ltb (x v) (x u) (omega (arith, goes.1)), lt-ltb (y u) (y v) goes.0) refl
goes_way (suc (suc zero)) x y u v goes = rw (le-ltb (x u) (x v) (omega (arith, goes.0)), lt-ltb (x v) (x u) goes.0) refl
goes_way (suc (suc (suc k))) x y u v goes =
    rw (le-ltb (x u) (x v) (omega (arith, goes.1)), le-ltb (x v) (x u) (omega (arith, goes.1)), le-ltb (y u) (y v) (omega (arith, goes.0))) refl

-- and back
pub goes_back : (k : ℕ) (x y : ℕ → ℕ) (u v : ℕ) → k < 4 → Goes k x y u v → Goes ((k + 2) % 4) x y v u
goes_back zero x y u v few goes = (goes.0, sym goes.1)
goes_back (suc zero) x y u v few goes = (goes.0, sym goes.1)
goes_back (suc (suc zero)) x y u v few goes = (goes.0, sym goes.1)
goes_back (suc (suc (suc zero))) x y u v few goes = (goes.0, sym goes.1)
goes_back (suc (suc (suc (suc k)))) x y u v few goes = absurd (omega (arith, few))

way_turned : (k m : ℕ) (turn : Turn) → k < 4 → m ≡ (k + angle_of turn) % 4 → way_of m ≡ turned turn (way_of k)
way_turned k m turn few is = ap way_of is ∙ by_turn turn k few
  where
    by_turn : (turn : Turn) (k : ℕ) → k < 4 → way_of ((k + angle_of turn) % 4) ≡ turned turn (way_of k)
    by_turn Left zero few = refl
    by_turn Left (suc zero) few = refl
    by_turn Left (suc (suc zero)) few = refl
    by_turn Left (suc (suc (suc zero))) few = refl
    by_turn Left (suc (suc (suc (suc k)))) few = absurd (omega (arith, few))
    by_turn Right zero few = refl
    by_turn Right (suc zero) few = refl
    by_turn Right (suc (suc zero)) few = refl
    by_turn Right (suc (suc (suc zero))) few = refl
    by_turn Right (suc (suc (suc (suc k)))) few = absurd (omega (arith, few))

-- ---- one point more in front

axes_more : (a b : Point) (rest : List Point) → IsAxis a b → IsOnAxes (b ∷ rest) → IsOnAxes (a ∷ b ∷ rest)
axes_more a b rest first behind zero within = first
axes_more a b rest first behind (suc k) within =
    let e : suc (k + 1) ≡ suc k + 1 = omega arith in
    subst (λ (n : ℕ). IsAxis (point_of (b ∷ rest) k) (point_of (a ∷ b ∷ rest) n)) e (behind k (omega (arith, within)))

direction_more : (q : Point) (path : List Point) (k : ℕ) → direction_of (q ∷ path) (k + 1) ≡ direction_of path k
direction_more q path k =
    let one : k + 1 ≡ suc k = omega arith in
    let two : k + 1 + 1 ≡ suc (k + 1) = omega arith in
    ap (λ (n : ℕ). direction_between (point_of (q ∷ path) n) (point_of (q ∷ path) (k + 1 + 1))) one
    ∙ ap (λ (n : ℕ). direction_between (point_of path k) (point_of (q ∷ path) n)) two

turning_more : (q : Point) (path : List Point) (turn : Turn) (turns : List Turn) → direction_of path 0 ≡ turned turn (direction_of (q ∷ path) 0)
    → IsTurning path turns → IsTurning (q ∷ path) (turn ∷ turns)
turning_more q path turn turns first behind = record {
  corners = omega (arith, behind.corners);
  each = by_place;
}
  where
    by_place : (k : ℕ) → k < length (turn ∷ turns) → direction_of (q ∷ path) (k + 1) ≡ turned (slice_index_or (turn ∷ turns) k Left) (direction_of (q ∷ path) k)
    by_place zero within = direction_more q path 0 ∙ first
    by_place (suc k) within =
        let e : k + 1 ≡ suc k = omega arith in
        direction_more q path (suc k)
        ∙ ap (direction_of path) (sym e)
        ∙ behind.each k (omega (arith, within))
        ∙ ap (turned (slice_index_or turns k Left)) (sym (direction_more q path k) ∙ ap (direction_of (q ∷ path)) e)

-- ---- the path

module _ (w : DartMap) (sound : IsSound w) (x y : ℕ → ℕ) (monotone : IsMonotone w x y) where
  -- a straight place is passed
  pub on_straight : (u a b : ℕ) → a < w.darts → b < w.darts → w.head (w.reverse_dart b) ≡ w.head a → turn_to w a b ≡ 0
      → Goes (w.direction a) x y u (w.head a) → (w.direction b ≡ w.direction a) × Goes (w.direction b) x y u (w.head b)
  on_straight u a b a_in b_in from none goes =
      let q = sound.meeting.quarter in
      let way = straight_on w a b sound.straight (q a a_in) (q b b_in) b_in none in
      let k : ℕ = w.direction b in (
        way,
        goes_on k x y u (w.head a) (w.head b) (subst (λ (d : ℕ). Goes d x y u (w.head a)) (sym way) goes)
            (goes_leads k x y (w.head a) (w.head b) (subst (λ (v : ℕ). Goes k x y v (w.head b)) from (dart_goes w sound x y monotone k b b_in refl))),
      )

  -- after a turn the next dart goes on from there
  pub on_turn : (a b : ℕ) → b < w.darts → w.head (w.reverse_dart b) ≡ w.head a → Goes (w.direction b) x y (w.head a) (w.head b)
  on_turn a b b_in from = subst (λ (v : ℕ). Goes (w.direction b) x y v (w.head b)) from (dart_goes w sound x y monotone (w.direction b) b b_in refl)

  pub line_axes : (u a : ℕ) (rest : List ℕ) → a < w.darts → Below w.darts rest → Follows w a rest → Goes (w.direction a) x y u (w.head a)
      → IsOnAxes (line w x y u a rest)
  line_axes u a [] a_in below follows goes = one
    where
      one : (k : ℕ) → k + 1 < 2 → IsAxis (point_of (point_at x y u ∷ point_at x y (w.head a) ∷ []) k) (point_of (point_at x y u ∷ point_at x y (w.head a) ∷ []) (k + 1))
      one zero within = goes_axis (w.direction a) x y u (w.head a) goes
      one (suc k) within = absurd (omega (arith, within))
  line_axes u a (b ∷ bs) a_in below follows goes =
      elim (cases_eq (turn_to w a b) 0) [
        | inl none ↦
            subst IsOnAxes (sym (line_straight w x y u a b bs none))
            (line_axes u b bs below.0 below.1 follows.2 (on_straight u a b a_in below.0 follows.1 none goes).1)
        | inr some ↦
            subst IsOnAxes (sym (line_turn w x y u a b bs some))
            (axes_more (point_at x y u) (point_at x y (w.head a)) (map (point_at x y) (turning_vertices w b bs) ++ point_at x y (w.head (last_of b bs)) ∷ [])
            (goes_axis (w.direction a) x y u (w.head a) goes)
            (line_axes (w.head a) b bs below.0 below.1 follows.2 (on_turn a b below.0 follows.1)))
      ]

  -- the first segment has the direction of the first dart
  pub line_way : (u a : ℕ) (rest : List ℕ) → a < w.darts → Below w.darts rest → Follows w a rest → Goes (w.direction a) x y u (w.head a)
      → direction_of (line w x y u a rest) 0 ≡ way_of (w.direction a)
  line_way u a [] a_in below follows goes = goes_way (w.direction a) x y u (w.head a) goes
  line_way u a (b ∷ bs) a_in below follows goes =
      elim (cases_eq (turn_to w a b) 0) [
        | inl none ↦
            let (way, on) = on_straight u a b a_in below.0 follows.1 none goes in
            ap (λ (path : List Point). direction_of path 0) (line_straight w x y u a b bs none)
            ∙ line_way u b bs below.0 below.1 follows.2 on ∙ ap way_of way
        | inr some ↦
            ap (λ (path : List Point). direction_of path 0) (line_turn w x y u a b bs some)
            ∙ goes_way (w.direction a) x y u (w.head a) goes
      ]

  -- the last one, walked back, has the direction opposite to that of the last dart
  pub line_back : (n u a : ℕ) (rest : List ℕ) → a < w.darts → Below w.darts rest → Follows w a rest → Goes (w.direction a) x y u (w.head a)
      → length (line w x y u a rest) ≡ n + 2
      → direction_between (point_of (line w x y u a rest) (n + 1)) (point_of (line w x y u a rest) n) ≡ way_of ((w.direction (last_of a rest) + 2) % 4)
  line_back n u a [] a_in below follows goes size =
      let none : n ≡ 0 = omega (arith, size) in
      ap (λ (k : ℕ). direction_between (point_of (line w x y u a []) (k + 1)) (point_of (line w x y u a []) k)) none
      ∙ goes_way ((w.direction a + 2) % 4) x y (w.head a) u (goes_back (w.direction a) x y u (w.head a) (sound.meeting.quarter a a_in) goes)
  line_back n u a (b ∷ bs) a_in below follows goes size =
      elim (cases_eq (turn_to w a b) 0) [
        | inl none ↦
            let same = line_straight w x y u a b bs none in
            ap (λ (path : List Point). direction_between (point_of path (n + 1)) (point_of path n)) same
            ∙ line_back n u b bs below.0 below.1 follows.2 (on_straight u a b a_in below.0 follows.1 none goes).1 (sym (ap length same) ∙ size)
        | inr some ↦
            behind n size (line_turn w x y u a b bs some)
            (λ m rest. line_back m (w.head a) b bs below.0 below.1 follows.2 (on_turn a b below.0 follows.1) rest)
      ]
    where
      behind : (n : ℕ) → length (line w x y u a (b ∷ bs)) ≡ n + 2 → line w x y u a (b ∷ bs) ≡ point_at x y u ∷ line w x y (w.head a) b bs
          → ((m : ℕ) → length (line w x y (w.head a) b bs) ≡ m + 2
          → direction_between (point_of (line w x y (w.head a) b bs) (m + 1)) (point_of (line w x y (w.head a) b bs) m) ≡ way_of ((w.direction (last_of b bs) + 2) % 4))
          → direction_between (point_of (line w x y u a (b ∷ bs)) (n + 1)) (point_of (line w x y u a (b ∷ bs)) n) ≡ way_of ((w.direction (last_of b bs) + 2) % 4)
      behind zero size same later =
          let long : length (point_at x y u ∷ line w x y (w.head a) b bs) ≡ 2 = sym (ap length same) ∙ size in
          absurd (short (map (point_at x y) (turning_vertices w b bs)) (point_at x y (w.head (last_of b bs))) long)
        where
          short : (ps : List Point) (e : Point) → suc (suc (length (ps ++ e ∷ []))) ≡ 2 → ⊥
          short [] e size = omega (arith, size)
          short (p ∷ ps) e size = omega (arith, size)
      behind (suc m) size same later =
          let path : List Point = line w x y (w.head a) b bs in
          let more : suc m + 1 ≡ suc (m + 1) = omega arith in
          let rest : length path ≡ m + 2 = omega (arith, sym (ap length same) ∙ size) in
          ap (λ (p : List Point). direction_between (point_of p (suc m + 1)) (point_of p (suc m))) same
          ∙ ap (λ (k : ℕ). direction_between (point_of (point_at x y u ∷ path) k) (point_of path m)) more
          ∙ later m rest

  -- the path turns as its bends say
  pub line_turning : (u a : ℕ) (rest : List ℕ) (turns : List Turn) → a < w.darts → Below w.darts rest → Follows w a rest
      → Goes (w.direction a) x y u (w.head a) → path_quarters w a rest ≡ map angle_of turns → IsTurning (line w x y u a rest) turns
  line_turning u a [] [] a_in below follows goes is = record { corners = refl; each = λ k within. absurd (omega (arith, within)) }
  line_turning u a [] (turn ∷ turns) a_in below follows goes is = absurd (omega (arith, ap length is))
  line_turning u a (b ∷ bs) turns a_in below follows goes is =
      elim (cases_eq (turn_to w a b) 0) [
        | inl none ↦
            subst (λ (path : List Point). IsTurning path turns) (sym (line_straight w x y u a b bs none))
            (line_turning u b bs turns below.0 below.1 follows.2 (on_straight u a b a_in below.0 follows.1 none goes).1
            (sym (bends_straight w a b bs none) ∙ is))
        | inr some ↦
            by_turns turns some (sym (bends_turn w a b bs some) ∙ is)
            (λ rest same. line_turning (w.head a) b bs rest below.0 below.1 follows.2 (on_turn a b below.0 follows.1) same)
      ]
    where
      by_turns : (turns : List Turn) → turn_to w a b ≢ 0 → turn_to w a b ∷ path_quarters w b bs ≡ map angle_of turns
          → ((rest : List Turn) → path_quarters w b bs ≡ map angle_of rest → IsTurning (line w x y (w.head a) b bs) rest)
          → IsTurning (line w x y u a (b ∷ bs)) turns
      by_turns [] some is later = absurd (omega (arith, ap length is))
      by_turns (turn ∷ turns) some is later =
          let q = sound.meeting.quarter in
          let first : turn_to w a b ≡ angle_of turn = ap (λ (xs : List ℕ). get_or xs 0 0) is in
          let behind : path_quarters w b bs ≡ map angle_of turns = ap (λ (xs : List ℕ). drop 1 xs) is in
          let on = on_turn a b below.0 follows.1 in
          let path : List Point = line w x y (w.head a) b bs in
          let way : w.direction b ≡ (w.direction a + angle_of turn) % 4 =
          turned_on w a b sound.straight (q a a_in) (q b below.0) below.0 ∙ ap (λ (t : ℕ). (w.direction a + t) % 4) first in
          subst (λ (path : List Point). IsTurning path (turn ∷ turns)) (sym (line_turn w x y u a b bs some))
          (turning_more (point_at x y u) path turn turns
          (line_way (w.head a) b bs below.0 below.1 follows.2 on
          ∙ way_turned (w.direction a) (w.direction b) turn (q a a_in) way
          ∙ ap (turned turn) (sym (goes_way (w.direction a) x y u (w.head a) goes)))
          (later turns behind))
