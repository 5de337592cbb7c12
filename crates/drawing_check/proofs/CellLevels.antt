-- Where the levels are right on the left of each step, each cell has a face, and the faces are a map of the regions.
use Rattle.std.proofs.Common.{◌≡◌, ◌<◌, ◌⊎◌, ℕ, zero, suc, ◌+◌, ◌-◌, eqb, refl, sym, ap, ◌∙◌, subst, inl, inr, arith}
use Rattle.std.specs.Prelude.{ℤ, pos, ◌+ℤ◌, ◌-ℤ◌}
use Rattle.std.proofs.lemmas.Bool.{cases_eq, eq-eqb, ne_eqb}
use Rattle.std.proofs.lemmas.Int.{ints}
use Rattle.geometry.specs.declared.direction.Direction.{Direction}
use Rattle.geometry.specs.declared.direction.Direction.TheVariants.{East, North, West, South}
use Rattle.geometry.specs.Directions.{opposite_of}
use Rattle.drawing_check.proofs.Weights.{bit, IsStep}
use Rattle.drawing_check.proofs.Ways.{Ways, Leaves, AreWays}
use Rattle.drawing_check.proofs.Levels.{level, left_level, norths, easts, level-east, level-north, level-west, level-south, north_free, east_free, all_right}

-- step i of dart d goes in a direction and ends at a point
pub record Ends (w : Ways) (q : Direction) (d i px py : ℕ) : Type 0 where
  pub dart_in : d < w.darts
  pub step_in : i < w.steps d
  pub goes : w.way d i ≡ q
  pub at_x : w.x d (i + 1) ≡ px
  pub at_y : w.y d (i + 1) ≡ py

-- a map of the regions, told by steps
pub record IsStepMap (w : Ways) (outer : ℕ) (r : ℕ → ℕ → ℕ) : Type 0 where
  pub north : (d i x y : ℕ) → Ends w North d i x y → (r x y ≡ w.face d) × (r (x + 1) y ≡ w.face (w.reverse_dart d))
  pub east : (d i x y : ℕ) → Ends w East d i x y → (r x (y + 1) ≡ w.face d) × (r x y ≡ w.face (w.reverse_dart d))
  pub beside : (x y : ℕ) → ((d i : ℕ) → Ends w North d i x y → ⊥) → r x y ≡ r (x + 1) y
  pub above : (x y : ℕ) → ((d i : ℕ) → Ends w East d i x y → ⊥) → r x y ≡ r x (y + 1)
  pub west : (y : ℕ) → r 0 y ≡ outer
  pub south : (x : ℕ) → r x 0 ≡ outer

one_face : (a c : ℕ) → ((f : ℕ) → bit (eqb a f) ≡ bit (eqb c f)) → a ≡ c
one_face a c same =
    elim (cases_eq a c) [
      | inl e ↦ e
      | inr ne ↦
          let here : bit (eqb a c) ≡ bit (eqb c c) = same c in
          let none : bit (eqb a c) ≡ pos 0 = ap bit (ne_eqb a c ne) in
          let one : bit (eqb c c) ≡ pos 1 = ap bit (eq-eqb c c refl) in
          absurd (omega (arith, ints))
    ]

find : (n : ℕ) (P Q : ℕ → Type 0) → ((i : ℕ) → i < n → P i ⊎ Q i) → ((i : ℕ) × (i < n) × P i) ⊎ ((i : ℕ) → i < n → Q i)
find zero P Q each = inr (λ i less. absurd (omega arith))
find (suc n) P Q each =
    elim (each n (omega arith)) [
      | inl here ↦ inl (n, omega arith, here)
      | inr not_here ↦ elim (find n P Q (λ i less. each i (omega arith))) [
        | inl found ↦ inl (found.0, omega (arith, found.1), found.2)
        | inr none ↦ inr (λ i less. elim (cases_eq i n) [ inl e ↦ subst Q (sym e) not_here | inr ne ↦ none i (omega arith) ])
      ]
    ]

module _ (w : Ways) (are : AreWays w) (outer : ℕ) where
  -- what leaves a point comes to it the other way round
  comes : (x y : ℕ) (q : Direction) → Leaves w x y q → (d : ℕ) × (i : ℕ) × Ends w (opposite_of q) d i x y
  comes x y q l =
      let d : ℕ = l.d in
      let i : ℕ = l.i in
      let d_in = l.dart_in in
      let i_in = l.step_in in
      let size = are.back_steps d d_in in
      let j : ℕ = w.steps d - 1 - i in (
        w.reverse_dart d,
        j,
        record {
          dart_in = are.back_in d d_in;
          step_in = omega (arith, size, i_in);
          goes = are.back_way d j i d_in (omega (arith, i_in)) ∙ ap opposite_of l.goes;
          at_x = are.back_x d (j + 1) i d_in (omega (arith, i_in)) ∙ l.at_x;
          at_y = are.back_y d (j + 1) i d_in (omega (arith, i_in)) ∙ l.at_y;
        },
      )

  abbrev HasFace : ℕ → ℕ → ℕ → Type 0
  HasFace x y c = (f : ℕ) → level w outer f x y ≡ bit (eqb c f)

  same_level : (a b c : ℤ) → a ≡ b -ℤ c → c ≡ pos 0 → a ≡ b
  same_level a b c e none = omega (arith, ints)

  same_level' : (a b c : ℤ) → a ≡ b +ℤ c → c ≡ pos 0 → a ≡ b
  same_level' a b c e none = omega (arith, ints)

  no_north : (f x y : ℕ) → ((d i : ℕ) → Ends w North d i x y → ⊥) → level w outer f (x + 1) y ≡ level w outer f x y
  no_north f x y none =
      same_level (level w outer f (x + 1) y) (level w outer f x y) (norths w f x y) (level-east w outer f x y)
      (north_free w are outer f x y (λ l. let c = comes x y South l in none c.0 c.1 c.2))

  no_east : (f x y : ℕ) → ((d i : ℕ) → Ends w East d i x y → ⊥) → level w outer f x (y + 1) ≡ level w outer f x y
  no_east f x y none =
      same_level' (level w outer f x (y + 1)) (level w outer f x y) (easts w f x y) (level-north w are outer f x y)
      (east_free w are outer f x y (λ l. let c = comes x y West l in none c.0 c.1 c.2))

  -- a row in which nothing goes north, from the west
  pub open_row : (f x y : ℕ) → ((x' : ℕ) → x' < x → (d i : ℕ) → Ends w North d i x' y → ⊥) → level w outer f x y ≡ bit (eqb outer f)
  open_row f zero y none = level-west w outer f y
  open_row f (suc x) y none =
      let up : x + 1 ≡ suc x = omega arith in
      ap (λ (k : ℕ). level w outer f k y) (sym up) ∙ no_north f x y (none x (omega arith)) ∙ open_row f x y (λ x' less. none x' (omega arith))

  abbrev AllRight : Type 0
  AllRight = (f d i : ℕ) → d < w.darts → i < w.steps d → left_level w outer f (w.x d i) (w.y d i) (w.way d i) ≡ bit (eqb (w.face d) f)

  -- what leaves a point has its face on the left
  leaving_face : AllRight → (d i x y : ℕ) (q : Direction) → d < w.darts → i < w.steps d → w.x d i ≡ x → w.y d i ≡ y → w.way d i ≡ q
      → (f : ℕ) → left_level w outer f x y q ≡ bit (eqb (w.face d) f)
  leaving_face right d i x y q d_in i_in ex ey eq f =
      ap (λ (k : ℕ). left_level w outer f k y q) (sym ex)
      ∙ ap (λ (k : ℕ). left_level w outer f (w.x d i) k q) (sym ey)
      ∙ ap (λ (b : Direction). left_level w outer f (w.x d i) (w.y d i) b) (sym eq)
      ∙ right f d i d_in i_in

  north_left : AllRight → (d i x y : ℕ) → Ends w North d i x y → HasFace x y (w.face d)
  north_left right d i x y e f =
      let step : IsStep North (w.x d i) (w.y d i) (w.x d (i + 1)) (w.y d (i + 1)) =
      subst (λ (q : Direction). IsStep q (w.x d i) (w.y d i) (w.x d (i + 1)) (w.y d (i + 1))) e.goes (are.goes d i e.dart_in e.step_in) in
      ap (λ (k : ℕ). level w outer f x k) (sym e.at_y ∙ step.1)
      ∙ leaving_face right d i x (w.y d i) North e.dart_in e.step_in (sym step.0 ∙ e.at_x) refl e.goes f

  north_right : AllRight → (d i x y : ℕ) → Ends w North d i x y → HasFace (x + 1) y (w.face (w.reverse_dart d))
  north_right right d i x y e f =
      let d_in = e.dart_in in
      let i_in = e.step_in in
      let size = are.back_steps d d_in in
      let j : ℕ = w.steps d - 1 - i in
      leaving_face right (w.reverse_dart d) j x y South (are.back_in d d_in) (omega (arith, size, i_in))
      (are.back_x d j (i + 1) d_in (omega (arith, i_in)) ∙ e.at_x) (are.back_y d j (i + 1) d_in (omega (arith, i_in)) ∙ e.at_y)
      (are.back_way d j i d_in (omega (arith, i_in)) ∙ ap opposite_of e.goes) f

  east_left : AllRight → (d i x y : ℕ) → Ends w East d i x y → HasFace x (y + 1) (w.face d)
  east_left right d i x y e f =
      let step : IsStep East (w.x d i) (w.y d i) (w.x d (i + 1)) (w.y d (i + 1)) =
      subst (λ (q : Direction). IsStep q (w.x d i) (w.y d i) (w.x d (i + 1)) (w.y d (i + 1))) e.goes (are.goes d i e.dart_in e.step_in) in
      ap (λ (k : ℕ). level w outer f k (y + 1)) (sym e.at_x ∙ step.0)
      ∙ leaving_face right d i (w.x d i) y East e.dart_in e.step_in refl (sym step.1 ∙ e.at_y) e.goes f

  east_right : AllRight → (d i x y : ℕ) → Ends w East d i x y → HasFace x y (w.face (w.reverse_dart d))
  east_right right d i x y e f =
      let d_in = e.dart_in in
      let i_in = e.step_in in
      let size = are.back_steps d d_in in
      let j : ℕ = w.steps d - 1 - i in
      leaving_face right (w.reverse_dart d) j x y West (are.back_in d d_in) (omega (arith, size, i_in))
      (are.back_x d j (i + 1) d_in (omega (arith, i_in)) ∙ e.at_x) (are.back_y d j (i + 1) d_in (omega (arith, i_in)) ∙ e.at_y)
      (are.back_way d j i d_in (omega (arith, i_in)) ∙ ap opposite_of e.goes) f

  -- something goes north there, or nothing
  abbrev North_at : ℕ → ℕ → Type 0
  North_at x y = (d : ℕ) × (i : ℕ) × Ends w North d i x y

  north_or_none : (x y : ℕ) → North_at x y ⊎ ((d i : ℕ) → Ends w North d i x y → ⊥)
  north_or_none x y =
      elim (find w.darts (λ d. (i : ℕ) × (i < w.steps d) × North_at x y) (λ d. (i : ℕ) → i < w.steps d → Ends w North d i x y → ⊥)
      (λ d d_in. find (w.steps d) (λ i. North_at x y) (λ i. Ends w North d i x y → ⊥) (λ i i_in. here d i d_in i_in))) [
        | inl found ↦ inl found.2.2
        | inr none ↦ inr (λ d i e. none d e.dart_in i e.step_in e)
      ]
    where
      here : (d i : ℕ) → d < w.darts → i < w.steps d → North_at x y ⊎ (Ends w North d i x y → ⊥)
      here d i d_in i_in = by_way (w.way d i) refl
        where
          other : (q : Direction) → w.way d i ≡ q → (q ≡ North → ⊥) → Ends w North d i x y → ⊥
          other q is off e = off (sym is ∙ e.goes)

          by_way : (q : Direction) → w.way d i ≡ q → North_at x y ⊎ (Ends w North d i x y → ⊥)
          by_way East is = inr (other East is (λ e. absurd (cc)))
          by_way West is = inr (other West is (λ e. absurd (cc)))
          by_way South is = inr (other South is (λ e. absurd (cc)))
          by_way North is =
              elim (cases_eq (w.x d (i + 1)) x) [
                | inr off ↦ inr (λ e. off e.at_x)
                | inl ex ↦ elim (cases_eq (w.y d (i + 1)) y) [
                  | inr off ↦ inr (λ e. off e.at_y)
                  | inl ey ↦ inl (d, i, record { dart_in = d_in; step_in = i_in; goes = is; at_x = ex; at_y = ey })
                ]
              ]

  cell_face : AllRight → (x y : ℕ) → (c : ℕ) × HasFace x y c
  cell_face right zero y = (outer, λ f. level-west w outer f y)
  cell_face right (suc x) y =
      let up : x + 1 ≡ suc x = omega arith in
      elim (north_or_none x y) [
        | inl found ↦ (
          w.face (w.reverse_dart found.0),
          λ f. ap (λ (k : ℕ). level w outer f k y) (sym up) ∙ north_right right found.0 found.1 x y found.2 f,
        )
        | inr none ↦
            let before = cell_face right x y in
            (before.0, λ f. ap (λ (k : ℕ). level w outer f k y) (sym up) ∙ no_north f x y none ∙ before.1 f)
      ]

  told : (right : AllRight) (x y c : ℕ) → HasFace x y c → (cell_face right x y).0 ≡ c
  told right x y c has = one_face (cell_face right x y).0 c (λ f. sym ((cell_face right x y).1 f) ∙ has f)

  step_map : (right : AllRight) → IsStepMap w outer (λ x y. (cell_face right x y).0)
  step_map right = record {
    north = λ d i x y e. (told right x y (w.face d) (north_left right d i x y e), told right (x + 1) y (w.face (w.reverse_dart d)) (north_right right d i x y e));
    east = λ d i x y e. (told right x (y + 1) (w.face d) (east_left right d i x y e), told right x y (w.face (w.reverse_dart d)) (east_right right d i x y e));
    beside = λ x y none. told right x y (cell_face right (x + 1) y).0 (λ f. sym (no_north f x y none) ∙ (cell_face right (x + 1) y).1 f);
    above = λ x y none. told right x y (cell_face right x (y + 1)).0 (λ f. sym (no_east f x y none) ∙ (cell_face right x (y + 1)).1 f);
    west = λ y. told right 0 y outer (λ f. level-west w outer f y);
    south = λ x. told right x 0 outer (λ f. level-south w outer f x);
  }

  -- one step with the outer face on its left and nothing to the west
  pub map_from_north : (d i x y : ℕ) → Ends w North d i x y → ((x' : ℕ) → x' < x → (e k : ℕ) → Ends w North e k x' y → ⊥) → w.face d ≡ outer
      → (r : ℕ → ℕ → ℕ) × IsStepMap w outer r
  map_from_north d i x y ends none is =
      let step : IsStep North (w.x d i) (w.y d i) (w.x d (i + 1)) (w.y d (i + 1)) =
      subst (λ (q : Direction). IsStep q (w.x d i) (w.y d i) (w.x d (i + 1)) (w.y d (i + 1))) ends.goes (are.goes d i ends.dart_in ends.step_in) in
      let right : AllRight = λ f e k e_in k_in.
      all_right w are outer f d i ends.dart_in ends.step_in
      (ap (left_level w outer f (w.x d i) (w.y d i)) ends.goes
      ∙ ap (λ (j : ℕ). level w outer f (w.x d i) j) (sym step.1 ∙ ends.at_y)
      ∙ ap (λ (j : ℕ). level w outer f j y) (sym step.0 ∙ ends.at_x)
      ∙ open_row f x y none ∙ ap (λ (j : ℕ). bit (eqb j f)) (sym is)) e k e_in k_in in
      (λ u v. (cell_face right u v).0, step_map right)

  -- no step goes north at all
  pub map_from_level : (d : ℕ) → d < w.darts → ((x y e k : ℕ) → Ends w North e k x y → ⊥) → w.face d ≡ outer → (r : ℕ → ℕ → ℕ) × IsStepMap w outer r
  map_from_level d d_in none is =
      let flat : (f x y : ℕ) → level w outer f x y ≡ bit (eqb outer f) = λ f x y. open_row f x y (λ x' less e k. none x' y e k) in
      let right : AllRight = λ f e k e_in k_in.
      all_right w are outer f d 0 d_in (are.some d d_in) (each f (flat f) (w.x d 0) (w.y d 0) (w.way d 0) ∙ ap (λ (j : ℕ). bit (eqb j f)) (sym is)) e k e_in k_in in
      (λ u v. (cell_face right u v).0, step_map right)
    where
      each : (f : ℕ) → ((x y : ℕ) → level w outer f x y ≡ bit (eqb outer f)) → (x y : ℕ) (q : Direction) → left_level w outer f x y q ≡ bit (eqb outer f)
      each f flat x y East = flat (x + 1) (y + 1)
      each f flat x y North = flat x (y + 1)
      each f flat x y West = flat x y
      each f flat x y South = flat (x + 1) y
