-- To which faces and vertices a unit can move where the prices leave no slack.
use Rattle.std.proofs.Common.{◌≡◌, ◌≤◌, ◌<◌, ◌⊎◌, ℕ, zero, suc, ◌+◌, Bool, true, false, not, ◌&&◌, cond, eqb, ltb, inl, inr, refl, sym, ap, ◌∙◌, subst, arith}
use Rattle.std.proofs.lemmas.Bool.{cases_eq, eq-eqb, eqb-true, lt-ltb, ltb-true, cond-true, cond-false, and_from, and_parts, both_ways, not_from_false, not-true, true_from_ne_false}
use Rattle.common.specs.Sums.{sum_below}
use Rattle.common.proofs.Sums.{sum_below-lt}
use Rattle.flow_network.proofs.VertexDegrees.{search_below}
use Rattle.faces.specs.Planes.{PlaneModel, HasEnds, darts, vertices, reverse_dart, face_at}
use Rattle.drawing_laws.proofs.Moving.{corner_at, across_at, with_one, with-here, with-other, with-kept, Moved, starts, weaker, widen, narrow, bend, straighten}

-- how many nodes there are
abbrev pub nodes : PlaneModel → ℕ
nodes p = p.faces + (vertices p + 1)

-- a unit can move at a dart
pub record IsClosed (p : PlaneModel) (a l y : ℕ → ℕ) (k : ℕ) (reached : ℕ → Bool) : Type 0 where
  pub wide : (d : ℕ) → d < darts p → a d < 4 → y (face_at p d) ≡ y (corner_at p d) → reached (face_at p d) ≡ true → reached (corner_at p d) ≡ true
  pub narrow : (d : ℕ) → d < darts p → 1 < a d → y (face_at p d) ≡ y (corner_at p d) → reached (corner_at p d) ≡ true → reached (face_at p d) ≡ true
  pub bent : (d : ℕ) → d < darts p → y (across_at p d) ≡ y (face_at p d) + 1 → reached (across_at p d) ≡ true → reached (face_at p d) ≡ true
  pub straight : (d : ℕ) → d < darts p → d < k → 0 < l d → y (across_at p d) ≡ y (face_at p d) + 1 → reached (face_at p d) ≡ true → reached (across_at p d) ≡ true

-- a node more, to which a unit has moved
pub record IsFurther (p : PlaneModel) (a l y : ℕ → ℕ) (k : ℕ) (reached : ℕ → Bool) : Type 0 where
  pub node : ℕ
  pub inside : node < nodes p
  pub new : reached node ≡ false
  pub moved : Moved p a l y k (with_one reached node) node

-- at some dart that may be taken there is a way out of the set, or at none
way_out : (n : ℕ) (may : ℕ → Bool) (from to : ℕ → ℕ) (reached : ℕ → Bool)
    → ((d : ℕ) × (d < n) × (may d ≡ true) × (reached (from d) ≡ true) × (reached (to d) ≡ false))
    ⊎ ((d : ℕ) → d < n → may d ≡ true → reached (from d) ≡ true → reached (to d) ≡ true)
way_out n may from to reached =
    elim (search_below n (λ d. may d && (reached (from d) && not (reached (to d))))) [
      | inl found ↦
          let d = found.0 in
          let first = and_parts (may d) (reached (from d) && not (reached (to d))) found.2 in
          let second = and_parts (reached (from d)) (not (reached (to d))) first.1 in
          inl (d, found.1, first.0, second.0, not-true (reached (to d)) second.1)
      | inr none ↦ inr (λ d b can here.
          true_from_ne_false (reached (to d)) (λ there.
          both_ways (may d && (reached (from d) && not (reached (to d)))) (none d b)
          (and_from _ _ can (and_from _ _ here (not_from_false (reached (to d)) there)))))
    ]

-- the darts at which a unit can move
abbrev level : PlaneModel → (ℕ → ℕ) → ℕ → Bool
level p y d = eqb (y (face_at p d)) (y (corner_at p d))

abbrev rises : PlaneModel → (ℕ → ℕ) → ℕ → Bool
rises p y d = eqb (y (across_at p d)) (y (face_at p d) + 1)

abbrev can_widen : PlaneModel → (ℕ → ℕ) → (ℕ → ℕ) → ℕ → Bool
can_widen p a y d = ltb (a d) 4 && level p y d

abbrev can_narrow : PlaneModel → (ℕ → ℕ) → (ℕ → ℕ) → ℕ → Bool
can_narrow p a y d = ltb 1 (a d) && level p y d

abbrev can_straighten : PlaneModel → (ℕ → ℕ) → (ℕ → ℕ) → ℕ → ℕ → Bool
can_straighten p l y k d = ltb d k && (ltb 0 (l d) && rises p y d)

-- the set goes on, or is closed
further : (p : PlaneModel) (a l y : ℕ → ℕ) (k : ℕ) (reached : ℕ → Bool) → HasEnds p → ((x : ℕ) → reached x ≡ true → Moved p a l y k reached x)
    → IsFurther p a l y k reached ⊎ IsClosed p a l y k reached
further p a l y k reached ends moved =
    let n : ℕ = darts p in
    elim (way_out n (can_widen p a y) (face_at p) (corner_at p) reached) [
      | inl (d, b, may, from, to) ↦
          let both = and_parts (ltb (a d) 4) (level p y d) may in
          inl (record { node = corner_at p d; inside = omega (arith, ends.head_to d b); new = to; moved = widen p a l y k reached d ends b (ltb-true (a d) 4 both.0) (eqb-true (y (face_at p d)) (y (corner_at p d)) both.1) from to (moved (face_at p d) from) })
      | inr wide ↦ elim (way_out n (can_narrow p a y) (corner_at p) (face_at p) reached) [
        | inl (d, b, may, from, to) ↦
            let both = and_parts (ltb 1 (a d)) (level p y d) may in
            inl (record { node = face_at p d; inside = omega (arith, ends.face_named d b); new = to; moved = narrow p a l y k reached d ends b (ltb-true 1 (a d) both.0) (eqb-true (y (face_at p d)) (y (corner_at p d)) both.1) from to (moved (corner_at p d) from) })
        | inr thin ↦ elim (way_out n (rises p y) (across_at p) (face_at p) reached) [
          | inl (d, b, may, from, to) ↦
              inl (record { node = face_at p d; inside = omega (arith, ends.face_named d b); new = to; moved = bend p a l y k reached d ends b (eqb-true (y (across_at p d)) (y (face_at p d) + 1) may) from to (moved (across_at p d) from) })
          | inr bent ↦ elim (way_out n (can_straighten p l y k) (face_at p) (across_at p) reached) [
            | inl (d, b, may, from, to) ↦
                let both = and_parts (ltb d k) (ltb 0 (l d) && rises p y d) may in
                let rest = and_parts (ltb 0 (l d)) (rises p y d) both.1 in
                inl (record {
                  node = across_at p d;
                  inside = omega (arith, ends.face_named (reverse_dart p d) (ends.reverse_dart_in_range d b));
                  new = to;
                  moved = straighten p a l y k reached d ends b (ltb-true d k both.0) (ltb-true 0 (l d) rest.0) (eqb-true (y (across_at p d)) (y (face_at p d) + 1) rest.1) from to (moved (face_at p d) from);
                })
            | inr straight ↦ inr (record {
              wide = λ d b room same. wide d b (and_from (ltb (a d) 4) (level p y d) (lt-ltb (a d) 4 room) (eq-eqb (y (face_at p d)) (y (corner_at p d)) same));
              narrow = λ d b some same. thin d b (and_from (ltb 1 (a d)) (level p y d) (lt-ltb 1 (a d) some) (eq-eqb (y (face_at p d)) (y (corner_at p d)) same));
              bent = λ d b up. bent d b (eq-eqb (y (across_at p d)) (y (face_at p d) + 1) up);
              straight = λ d b before some up. straight d b
                  (and_from (ltb d k) (ltb 0 (l d) && rises p y d) (lt-ltb d k before) (and_from (ltb 0 (l d)) (rises p y d) (lt-ltb 0 (l d) some) (eq-eqb (y (across_at p d)) (y (face_at p d) + 1) up)));
            })
          ]
        ]
      ]
    ]

-- how many nodes are not reached
abbrev unreached : PlaneModel → (ℕ → Bool) → ℕ
unreached p reached = sum_below (nodes p) (λ x. cond (reached x) 0 1)

fewer : (p : PlaneModel) (reached : ℕ → Bool) (w : ℕ) → w < nodes p → reached w ≡ false → unreached p (with_one reached w) < unreached p reached
fewer p reached w inside new =
    sum_below-lt (nodes p) w (λ x. cond (with_one reached w x) 0 1) (λ x. cond (reached x) 0 1) inside (λ x b. no_more x)
    (omega (arith, cond-true {A = ℕ} (with_one reached w w) 0 1 (with-here reached w), cond-false {A = ℕ} (reached w) 0 1 new))
  where
    no_more : (x : ℕ) → cond (with_one reached w x) 0 1 ≤ cond (reached x) 0 1
    no_more x =
        elim (cases_eq x w) [
          | inl e ↦ omega (arith, cond-true {A = ℕ} (with_one reached w x) 0 1 (ap (with_one reached w) e ∙ with-here reached w))
          | inr ne ↦ omega (arith, ap {B = ℕ} (λ (c : Bool). cond c 0 1) (with-other reached w x ne))
        ]

-- a closed set of nodes with the face across dart k, to each of which a unit can move
pub record IsReach (p : PlaneModel) (a l y : ℕ → ℕ) (k : ℕ) : Type 0 where
  pub reached : ℕ → Bool
  pub start : reached (across_at p k) ≡ true
  pub closed : IsClosed p a l y k reached
  pub moved : (x : ℕ) → reached x ≡ true → Moved p a l y k reached x

go_on : (p : PlaneModel) (a l y : ℕ → ℕ) (k : ℕ) → HasEnds p → (fuel : ℕ) (reached : ℕ → Bool) → reached (across_at p k) ≡ true → ((x : ℕ) → reached x ≡ true → Moved p a l y k reached x) → unreached p reached < fuel
    → IsReach p a l y k
go_on p a l y k ends zero reached start moved left = absurd (omega arith)
go_on p a l y k ends (suc fuel) reached start moved left =
    elim (further p a l y k reached ends moved) [
      | inr closed ↦ record { reached = reached; start = start; closed = closed; moved = moved }
      | inl more ↦
          let w = more.node in
          go_on p a l y k ends fuel (with_one reached w) (with-kept reached w (across_at p k) start) (each more) (omega (arith, left, fewer p reached w more.inside more.new))
    ]
  where
    each : (more : IsFurther p a l y k reached) (x : ℕ) → with_one reached more.node x ≡ true → Moved p a l y k (with_one reached more.node) x
    each more x h =
        elim (cases_eq x more.node) [
          | inl e ↦ subst (λ (u : ℕ). Moved p a l y k (with_one reached more.node) u) (sym e) more.moved
          | inr ne ↦ weaker p a l y k reached more.node x (moved x (sym (with-other reached more.node x ne) ∙ h))
        ]

pub reach : (p : PlaneModel) (a l y : ℕ → ℕ) (k : ℕ) → HasEnds p → k < darts p → ((d : ℕ) → d < darts p → (1 ≤ a d) × (a d ≤ 4)) → IsReach p a l y k
reach p a l y k ends inside sizes =
    let first : ℕ → Bool = λ x. eqb x (across_at p k) in
    go_on p a l y k ends (unreached p first + 1) first (eq-eqb (across_at p k) (across_at p k) refl)
    (λ x h. subst (λ (u : ℕ). Moved p a l y k first u) (sym (eqb-true x (across_at p k) h)) (starts p a l y k first ends inside sizes)) (omega arith)
