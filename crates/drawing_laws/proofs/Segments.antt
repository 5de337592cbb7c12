-- Which parts of an edge's line run along a unit side, and which darts of its path do.
use Rattle.std.proofs.Common.{◌≡◌, ℕ, zero, suc, ◌+◌, ◌<◌, ◌≤◌, ◌⊎◌, ◌∙◌, List, [], ◌∷◌, length, arith, subst, sym, refl, inl, inr}
use Rattle.std.proofs.lemmas.Bool.{cases_eq, cases_lt}
use Rattle.ortho_rep.specs.declared.grid_points.Point.{Point}
use Rattle.dissect.specs.DartMaps.{DartMap, IsSound}
use Rattle.dissect.specs.Faces.{Below, In}
use Rattle.dissect.specs.Paths.{Follows, turn_to}
use Rattle.dissect.specs.Monotone.{IsMonotone, tail, point_at}
use Rattle.drawing_check.specs.Paths.{point_of}
use Rattle.drawing_laws.proofs.Sides.{Goes, Leads, leads_same, goes_leads}
use Rattle.drawing_laws.proofs.Lines.{line, line_straight, line_turn, on_straight, on_turn}

-- from a to b the way has the direction k and runs along a side of cell (i, j), which is named by its upper right corner: the lower
-- or the left one if it is that of a neighbour
abbrev pub Runs : ℕ → Point → Point → ℕ → ℕ → Type 0
Runs zero a b i j = (a.y ≡ j) × (b.y ≡ j) × (a.x < i) × (i ≤ b.x)
Runs (suc zero) a b i j = (a.x ≡ i) × (b.x ≡ i) × (a.y < j) × (j ≤ b.y)
Runs (suc (suc zero)) a b i j = (a.y ≡ j) × (b.y ≡ j) × (b.x < i) × (i ≤ a.x)
Runs (suc (suc (suc k))) a b i j = (a.x ≡ i) × (b.x ≡ i) × (b.y < j) × (j ≤ a.y)

-- what goes in one direction runs in no other
pub goes_runs : (m k : ℕ) (x y : ℕ → ℕ) (u v i j : ℕ) → m < 4 → k < 4 → Goes m x y u v → Runs k (point_at x y u) (point_at x y v) i j → m ≡ k
goes_runs zero zero x y u v i j m_few k_few goes runs = refl
goes_runs zero (suc zero) x y u v i j m_few k_few goes runs = absurd (omega (arith, goes.1, runs.2, runs.3))
goes_runs zero (suc (suc zero)) x y u v i j m_few k_few goes runs = absurd (omega (arith, goes.0, runs.2, runs.3))
goes_runs zero (suc (suc (suc k))) x y u v i j m_few k_few goes runs = absurd (omega (arith, goes.1, runs.2, runs.3))
goes_runs (suc zero) zero x y u v i j m_few k_few goes runs = absurd (omega (arith, goes.1, runs.2, runs.3))
goes_runs (suc zero) (suc zero) x y u v i j m_few k_few goes runs = refl
goes_runs (suc zero) (suc (suc zero)) x y u v i j m_few k_few goes runs = absurd (omega (arith, goes.1, runs.2, runs.3))
goes_runs (suc zero) (suc (suc (suc k))) x y u v i j m_few k_few goes runs = absurd (omega (arith, goes.0, runs.2, runs.3))
goes_runs (suc (suc zero)) zero x y u v i j m_few k_few goes runs = absurd (omega (arith, goes.0, runs.2, runs.3))
goes_runs (suc (suc zero)) (suc zero) x y u v i j m_few k_few goes runs = absurd (omega (arith, goes.1, runs.2, runs.3))
goes_runs (suc (suc zero)) (suc (suc zero)) x y u v i j m_few k_few goes runs = refl
goes_runs (suc (suc zero)) (suc (suc (suc k))) x y u v i j m_few k_few goes runs = absurd (omega (arith, goes.1, runs.2, runs.3))
goes_runs (suc (suc (suc m))) zero x y u v i j m_few k_few goes runs = absurd (omega (arith, goes.1, runs.2, runs.3))
goes_runs (suc (suc (suc m))) (suc zero) x y u v i j m_few k_few goes runs = absurd (omega (arith, goes.0, runs.2, runs.3))
goes_runs (suc (suc (suc m))) (suc (suc zero)) x y u v i j m_few k_few goes runs = absurd (omega (arith, goes.1, runs.2, runs.3))
goes_runs (suc (suc (suc m))) (suc (suc (suc k))) x y u v i j m_few k_few goes runs = omega (arith, m_few, k_few)

-- a way through a middle vertex runs along the side in one of its parts
runs_split : (k : ℕ) (x y : ℕ → ℕ) (u m v i j : ℕ) → Goes k x y u m → Runs k (point_at x y u) (point_at x y v) i j →
    Runs k (point_at x y u) (point_at x y m) i j ⊎ Runs k (point_at x y m) (point_at x y v) i j
runs_split zero x y u m v i j goes (from, to, low, high) =
    elim (cases_lt (x m) i) [ inl less ↦ inr (omega (arith, goes.1, from), to, less, high) | inr more ↦ inl (from, omega (arith, goes.1, from), low, more) ]
runs_split (suc zero) x y u m v i j goes (from, to, low, high) =
    elim (cases_lt (y m) j) [ inl less ↦ inr (omega (arith, goes.1, from), to, less, high) | inr more ↦ inl (from, omega (arith, goes.1, from), low, more) ]
runs_split (suc (suc zero)) x y u m v i j goes (from, to, low, high) =
    elim (cases_lt (x m) i) [ inl less ↦ inl (from, omega (arith, goes.1, from), less, high) | inr more ↦ inr (omega (arith, goes.1, from), to, low, more) ]
runs_split (suc (suc (suc k))) x y u m v i j goes (from, to, low, high) =
    elim (cases_lt (y m) j) [ inl less ↦ inl (from, omega (arith, goes.1, from), less, high) | inr more ↦ inr (omega (arith, goes.1, from), to, low, more) ]

-- what a part runs along, the way does
runs_wide : (k : ℕ) (x y : ℕ → ℕ) (s u v e i j : ℕ) → Leads k x y s u → Leads k x y v e → Runs k (point_at x y u) (point_at x y v) i j →
    Runs k (point_at x y s) (point_at x y e) i j
runs_wide zero x y s u v e i j one two (from, to, low, high) =
    (omega (arith, one.1, from), omega (arith, two.1, to), omega (arith, one.0, low), omega (arith, two.0, high))
runs_wide (suc zero) x y s u v e i j one two (from, to, low, high) =
    (omega (arith, one.1, from), omega (arith, two.1, to), omega (arith, one.0, low), omega (arith, two.0, high))
runs_wide (suc (suc zero)) x y s u v e i j one two (from, to, low, high) =
    (omega (arith, one.1, from), omega (arith, two.1, to), omega (arith, two.0, low), omega (arith, one.0, high))
runs_wide (suc (suc (suc k))) x y s u v e i j one two (from, to, low, high) =
    (omega (arith, one.1, from), omega (arith, two.1, to), omega (arith, two.0, low), omega (arith, one.0, high))

-- the other way the same
pub runs_back : (k : ℕ) (a b : Point) (i j : ℕ) → k < 2 → Runs (k + 2) a b i j → Runs k b a i j
runs_back zero a b i j few (from, to, low, high) = (to, from, low, high)
runs_back (suc zero) a b i j few (from, to, low, high) = (to, from, low, high)
runs_back (suc (suc k)) a b i j few runs = absurd (omega (arith, few))

pub runs_turned : (k : ℕ) (a b : Point) (i j : ℕ) → k < 2 → Runs k a b i j → Runs (k + 2) b a i j
runs_turned zero a b i j few (from, to, low, high) = (to, from, low, high)
runs_turned (suc zero) a b i j few (from, to, low, high) = (to, from, low, high)
runs_turned (suc (suc k)) a b i j few runs = absurd (omega (arith, few))

-- the dart runs along the side in this direction
abbrev pub DartRuns : DartMap → (ℕ → ℕ) → (ℕ → ℕ) → ℕ → ℕ → ℕ → ℕ → Type 0
DartRuns w x y k z i j = Runs k (point_at x y (tail w z)) (point_at x y (w.head z)) i j

-- so does a part of the path
abbrev pub PathRuns : List Point → ℕ → ℕ → ℕ → Type 0
PathRuns path k i j = (n : ℕ) × (n + 1 < length path) × Runs k (point_of path n) (point_of path (n + 1)) i j

runs_later : (q : Point) (path : List Point) (k i j : ℕ) → PathRuns path k i j → PathRuns (q ∷ path) k i j
runs_later q path k i j (n, inside, runs) =
    let e : suc (n + 1) ≡ suc n + 1 = omega arith in
    (suc n, omega (arith, inside), subst (λ (m : ℕ). Runs k (point_of path n) (point_of (q ∷ path) m) i j) e runs)

module _ (w : DartMap) (sound : IsSound w) (x y : ℕ → ℕ) (monotone : IsMonotone w x y) where
  -- a part of the line runs along the side where its first stretch does, or one of the darts after it does
  pub line_runs : (k u a : ℕ) (rest : List ℕ) (i j n : ℕ) → k < 4 → a < w.darts → Below w.darts rest → Follows w a rest → Goes (w.direction a) x y u (w.head a) →
      n + 1 < length (line w x y u a rest) → Runs k (point_of (line w x y u a rest) n) (point_of (line w x y u a rest) (n + 1)) i j →
      Runs k (point_at x y u) (point_at x y (w.head a)) i j ⊎ ((z : ℕ) × In z rest × DartRuns w x y k z i j)
  line_runs k u a [] i j zero few a_in below follows goes inside runs = inl runs
  line_runs k u a [] i j (suc n) few a_in below follows goes inside runs = absurd (omega (arith, inside))
  line_runs k u a (b ∷ bs) i j n few a_in below follows goes inside runs =
      elim (cases_eq (turn_to w a b) 0) [
        | inl none ↦
            let same = line_straight w x y u a b bs none in
            let on = on_straight w sound x y monotone u a b a_in below.0 follows.1 none goes in
            elim (line_runs k u b bs i j n few below.0 below.1 follows.2 on.1 (subst (λ (path : List Point). n + 1 < length path) same inside)
            (subst (λ (path : List Point). Runs k (point_of path n) (point_of path (n + 1)) i j) same runs)) [
              | inl long ↦
                  let way : w.direction b ≡ k = goes_runs (w.direction b) k x y u (w.head b) i j (sound.meeting.quarter b below.0) few on.1 long in
                  elim (runs_split k x y u (w.head a) (w.head b) i j (subst (λ (d : ℕ). Goes d x y u (w.head a)) (sym on.0 ∙ way) goes) long) [
                    | inl first ↦ inl first
                    | inr second ↦ inr (b, inl refl, subst (λ (v : ℕ). Runs k (point_at x y v) (point_at x y (w.head b)) i j) (sym follows.1) second)
                  ]
              | inr (z, later, dart) ↦ inr (z, inr later, dart)
            ]
        | inr some ↦ turned n inside runs (line_turn w x y u a b bs some)
            (λ m within at. line_runs k (w.head a) b bs i j m few below.0 below.1 follows.2 (on_turn w sound x y monotone a b below.0 follows.1) within at)
      ]
    where
      turned : (n : ℕ) → n + 1 < length (line w x y u a (b ∷ bs)) →
          Runs k (point_of (line w x y u a (b ∷ bs)) n) (point_of (line w x y u a (b ∷ bs)) (n + 1)) i j →
          line w x y u a (b ∷ bs) ≡ point_at x y u ∷ line w x y (w.head a) b bs →
          ((m : ℕ) → m + 1 < length (line w x y (w.head a) b bs) →
          Runs k (point_of (line w x y (w.head a) b bs) m) (point_of (line w x y (w.head a) b bs) (m + 1)) i j →
          Runs k (point_at x y (w.head a)) (point_at x y (w.head b)) i j ⊎ ((z : ℕ) × In z bs × DartRuns w x y k z i j)) →
          Runs k (point_at x y u) (point_at x y (w.head a)) i j ⊎ ((z : ℕ) × In z (b ∷ bs) × DartRuns w x y k z i j)
      turned zero inside runs same on = inl (subst (λ (path : List Point). Runs k (point_of path 0) (point_of path 1) i j) same runs)
      turned (suc n) inside runs same on =
          let path : List Point = line w x y (w.head a) b bs in
          let e : suc n + 1 ≡ suc (n + 1) = omega arith in
          let here : Runs k (point_of path n) (point_of (point_at x y u ∷ path) (suc n + 1)) i j =
          subst (λ (p : List Point). Runs k (point_of p (suc n)) (point_of p (suc n + 1)) i j) same runs in
          let within : suc n + 1 < length (point_at x y u ∷ path) = subst (λ (p : List Point). suc n + 1 < length p) same inside in
          elim (on n (omega (arith, within))
          (subst (λ (m : ℕ). Runs k (point_of path n) (point_of (point_at x y u ∷ path) m) i j) e here)) [
            | inl first ↦ inr (b, inl refl, subst (λ (v : ℕ). Runs k (point_at x y v) (point_at x y (w.head b)) i j) (sym follows.1) first)
            | inr (z, later, dart) ↦ inr (z, inr later, dart)
          ]

  -- where the first stretch runs along the side, a part of the line does
  pub first_runs : (k u a : ℕ) (rest : List ℕ) (i j : ℕ) → k < 4 → a < w.darts → Below w.darts rest → Follows w a rest → Goes (w.direction a) x y u (w.head a) →
      Runs k (point_at x y u) (point_at x y (w.head a)) i j → PathRuns (line w x y u a rest) k i j
  first_runs k u a [] i j few a_in below follows goes runs = (0, omega arith, runs)
  first_runs k u a (b ∷ bs) i j few a_in below follows goes runs =
      elim (cases_eq (turn_to w a b) 0) [
        | inl none ↦
            let on = on_straight w sound x y monotone u a b a_in below.0 follows.1 none goes in
            let way : w.direction b ≡ k = on.0 ∙ goes_runs (w.direction a) k x y u (w.head a) i j (sound.meeting.quarter a a_in) few goes runs in
            let more : Goes k x y (w.head a) (w.head b) =
            subst (λ (d : ℕ). Goes d x y (w.head a) (w.head b)) way (on_turn w sound x y monotone a b below.0 follows.1) in
            subst (λ (path : List Point). PathRuns path k i j) (sym (line_straight w x y u a b bs none))
            (first_runs k u b bs i j few below.0 below.1 follows.2 on.1
            (runs_wide k x y u u (w.head a) (w.head b) i j (leads_same k x y u) (goes_leads k x y (w.head a) (w.head b) more) runs))
        | inr some ↦
            let turned : PathRuns (point_at x y u ∷ line w x y (w.head a) b bs) k i j = (0, omega arith, runs) in
            subst (λ (path : List Point). PathRuns path k i j) (sym (line_turn w x y u a b bs some)) turned
      ]

  -- where a later dart does, too
  pub later_runs : (k u a : ℕ) (rest : List ℕ) (z i j : ℕ) → k < 4 → a < w.darts → Below w.darts rest → Follows w a rest → Goes (w.direction a) x y u (w.head a) →
      In z rest → DartRuns w x y k z i j → PathRuns (line w x y u a rest) k i j
  later_runs k u a [] z i j few a_in below follows goes here runs = absurd here
  later_runs k u a (b ∷ bs) z i j few a_in below follows goes here runs =
      elim (cases_eq (turn_to w a b) 0) [
        | inl none ↦
            let on = on_straight w sound x y monotone u a b a_in below.0 follows.1 none goes in
            subst (λ (path : List Point). PathRuns path k i j) (sym (line_straight w x y u a b bs none))
            (elim here [
              | inl at ↦
                  let dart : Runs k (point_at x y (w.head a)) (point_at x y (w.head b)) i j = at_b at in
                  let way : w.direction b ≡ k =
                  goes_runs (w.direction b) k x y (w.head a) (w.head b) i j (sound.meeting.quarter b below.0) few (on_turn w sound x y monotone a b below.0 follows.1) dart in
                  first_runs k u b bs i j few below.0 below.1 follows.2 on.1
                  (runs_wide k x y u (w.head a) (w.head b) (w.head b) i j
                  (goes_leads k x y u (w.head a) (subst (λ (d : ℕ). Goes d x y u (w.head a)) (sym on.0 ∙ way) goes)) (leads_same k x y (w.head b)) dart)
              | inr later ↦ later_runs k u b bs z i j few below.0 below.1 follows.2 on.1 later runs
            ])
        | inr some ↦
            subst (λ (path : List Point). PathRuns path k i j) (sym (line_turn w x y u a b bs some))
            (runs_later (point_at x y u) (line w x y (w.head a) b bs) k i j
            (elim here [
              | inl at ↦ first_runs k (w.head a) b bs i j few below.0 below.1 follows.2 (on_turn w sound x y monotone a b below.0 follows.1) (at_b at)
              | inr later ↦
                  later_runs k (w.head a) b bs z i j few below.0 below.1 follows.2 (on_turn w sound x y monotone a b below.0 follows.1) later runs
            ]))
      ]
    where
      at_b : z ≡ b → Runs k (point_at x y (w.head a)) (point_at x y (w.head b)) i j
      at_b at =
          let dart : DartRuns w x y k b i j = subst (λ (c : ℕ). DartRuns w x y k c i j) at runs in
          subst (λ (v : ℕ). Runs k (point_at x y v) (point_at x y (w.head b)) i j) follows.1 dart
