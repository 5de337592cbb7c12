-- Sums over the darts of a plane by a tree on its vertices and one on its faces: each node but the root counts once.
use Rattle.std.proofs.Common.{◌≡◌, ◌≢◌, ◌≤◌, ◌<◌, ◌⊎◌, ℕ, ◌+◌, ◌*◌, Bool, true, false, cond, eqb, inl, inr, refl, sym, ap, ◌∙◌, subst, arith}
use Rattle.std.proofs.lemmas.Bool.{cases_eq, cases_Bool, eq-eqb, ne_eqb, cond-true, cond-false, or_cases}
use Rattle.std.proofs.Math.Nat.{mul-add, mul-le-mul_left}
use Rattle.common.specs.Sums.{sum_below}
use Rattle.common.proofs.Sums.{sum_below-same, sum_below-add, sum_below-le, sum_below-none, sum_below-one, sum_below-turned, exchanged}
use Rattle.dissect.proofs.Trees.{Connections, IsTree}
use Rattle.dissect.proofs.Peeling.{IsPaired}
use Rattle.dissect.proofs.TreeCounts.{is_up, in_tree, ups, up_from}

-- ---- one tree

-- of the darts that end at a node at most one leads up to it, and none to the root
one_up : (j : Connections) (g rank parent base : ℕ → ℕ) → IsTree j g rank parent base → (v : ℕ) → v < j.nodes
    → sum_below j.darts (λ d. cond (eqb (j.to d) v) (ups j parent d) 0) + cond (eqb j.root v) 1 0 ≤ 1
one_up j g rank parent base tree v l =
    elim (cases_eq j.root v) [
      | inl e ↦
          let none : sum_below j.darts (λ d. cond (eqb (j.to d) v) (ups j parent d) 0) ≡ 0 =
          sum_below-none j.darts (λ d. cond (eqb (j.to d) v) (ups j parent d) 0) (λ d b. at_root e d) in
          omega (arith, none, cond-true {A = ℕ} (eqb j.root v) 1 0 (eq-eqb j.root v e))
      | inr ne ↦
          let other : v ≢ j.root = λ q. ne (sym q) in
          let most : sum_below j.darts (λ d. cond (eqb (j.to d) v) (ups j parent d) 0) ≤ sum_below j.darts (λ d. cond (eqb (parent v) d) 1 0) =
          sum_below-le j.darts (λ d. cond (eqb (j.to d) v) (ups j parent d) 0) (λ d. cond (eqb (parent v) d) 1 0) (λ d b. here d) in
          omega (arith, most, sum_below-one j.darts (parent v) (λ _. 1) (tree.leads v l other).inside, cond-false {A = ℕ} (eqb j.root v) 1 0 (ne_eqb j.root v ne))
    ]
  where
    -- a dart that leads up to its end
    up_or_not : (d : ℕ) → (ups j parent d ≡ 0) ⊎ ((ups j parent d ≡ 1) × (j.to d ≢ j.root) × (parent (j.to d) ≡ d))
    up_or_not d =
        elim (cases_Bool (is_up j parent d)) [
          | inl on ↦ let up = up_from j parent d on in inr (cond-true {A = ℕ} (is_up j parent d) 1 0 on, up.node, up.parent_is)
          | inr off ↦ inl (cond-false {A = ℕ} (is_up j parent d) 1 0 off)
        ]

    at_root : j.root ≡ v → (d : ℕ) → cond (eqb (j.to d) v) (ups j parent d) 0 ≡ 0
    at_root e d =
        elim (cases_eq (j.to d) v) [
          | inr away ↦ cond-false {A = ℕ} (eqb (j.to d) v) (ups j parent d) 0 (ne_eqb (j.to d) v away)
          | inl to ↦
              let none : ups j parent d ≡ 0 = elim (up_or_not d) [ inl none ↦ none | inr up ↦ absurd (up.1 (to ∙ sym e)) ] in
              cond-true {A = ℕ} (eqb (j.to d) v) (ups j parent d) 0 (eq-eqb (j.to d) v to) ∙ none
        ]

    here : (d : ℕ) → cond (eqb (j.to d) v) (ups j parent d) 0 ≤ cond (eqb (parent v) d) 1 0
    here d =
        elim (cases_eq (j.to d) v) [
          | inr away ↦ omega (arith, cond-false {A = ℕ} (eqb (j.to d) v) (ups j parent d) 0 (ne_eqb (j.to d) v away))
          | inl to ↦
              let is : cond (eqb (j.to d) v) (ups j parent d) 0 ≡ ups j parent d = cond-true {A = ℕ} (eqb (j.to d) v) (ups j parent d) 0 (eq-eqb (j.to d) v to) in
              elim (up_or_not d) [
                | inl none ↦ omega (arith, is, none)
                | inr up ↦ omega (arith, is, up.0, cond-true {A = ℕ} (eqb (parent v) d) 1 0 (eq-eqb (parent v) d (sym (ap parent to) ∙ up.2)))
              ]
        ]

-- what the ends of the darts that lead up weigh, and the root, is no more than all nodes weigh
pub by_nodes : (j : Connections) (reverse_dart g rank parent base : ℕ → ℕ) → IsPaired j reverse_dart → IsTree j g rank parent base → j.root < j.nodes → (x : ℕ → ℕ)
    → sum_below j.darts (λ d. x (j.to d) * ups j parent d) + x j.root ≤ sum_below j.nodes x
by_nodes j reverse_dart g rank parent base paired tree root x =
    let count : ℕ → ℕ = λ v. sum_below j.darts (λ d. cond (eqb (j.to d) v) (ups j parent d) 0) in
    let all : sum_below j.nodes (λ v. x v * count v) ≡ sum_below j.darts (λ d. x (j.to d) * ups j parent d) = exchanged j.darts j.nodes j.to (ups j parent) x paired.node in
    let each : sum_below j.nodes (λ v. x v * count v + cond (eqb j.root v) (x v) 0) ≤ sum_below j.nodes x =
    sum_below-le j.nodes (λ v. x v * count v + cond (eqb j.root v) (x v) 0) x (λ v l. once (x v) (count v) (eqb j.root v) (one_up j g rank parent base tree v l)) in
    omega (arith, all, each, sum_below-add j.nodes (λ v. x v * count v) (λ v. cond (eqb j.root v) (x v) 0), sum_below-one j.nodes j.root x root)
  where
    once : (z c : ℕ) (b : Bool) → c + cond b 1 0 ≤ 1 → z * c + cond b z 0 ≤ z
    once z c true h = let none : c ≡ 0 = omega arith in rw none (omega arith)
    once z c false h = omega (arith, mul-le-mul_left z h)

-- ---- two trees

-- one for a dart that leads up in the one tree, and one for the other
abbrev both : Connections → Connections → (ℕ → ℕ) → (ℕ → ℕ) → ℕ → ℕ
both j k parent parent' d = ups j parent d + ups k parent' d

-- where each dart is of one of two trees, a sum over all darts that weigh as their reverses is at most twice that over
-- the darts that lead up
pub by_trees : (j k : Connections) (reverse_dart parent parent' : ℕ → ℕ) → IsPaired j reverse_dart
    → ((d : ℕ) → d < j.darts → (in_tree j reverse_dart parent d ≡ true) ⊎ (in_tree k reverse_dart parent' d ≡ true))
    → (w : ℕ → ℕ) → ((d : ℕ) → d < j.darts → w (reverse_dart d) ≡ w d)
    → sum_below j.darts w ≤ 2 * (sum_below j.darts (λ d. w d * ups j parent d) + sum_below j.darts (λ d. w d * ups k parent' d))
by_trees j k reverse_dart parent parent' paired each w same =
    let n : ℕ = j.darts in
    let b : ℕ → ℕ = both j k parent parent' in
    let most : sum_below n w ≤ sum_below n (λ d. w d * b d + w (reverse_dart d) * b (reverse_dart d)) =
    sum_below-le n w (λ d. w d * b d + w (reverse_dart d) * b (reverse_dart d)) (λ d l. enough (w d) (w (reverse_dart d)) (b d) (b (reverse_dart d)) (same d l) (some d l)) in
    let parts = sum_below-add n (λ d. w d * b d) (λ d. w (reverse_dart d) * b (reverse_dart d)) in
    let turned : sum_below n (λ d. w (reverse_dart d) * b (reverse_dart d)) ≡ sum_below n (λ d. w d * b d) =
    sum_below-turned n reverse_dart (λ d. w d * b d) paired.inside paired.back in
    let apart : sum_below n (λ d. w d * b d) ≡ sum_below n (λ d. w d * ups j parent d) + sum_below n (λ d. w d * ups k parent' d) =
    sum_below-same n (λ d. w d * b d) (λ d. w d * ups j parent d + w d * ups k parent' d) (λ d l. mul-add (w d) (ups j parent d) (ups k parent' d))
    ∙ sum_below-add n (λ d. w d * ups j parent d) (λ d. w d * ups k parent' d) in
    omega (arith, most, parts, turned, apart)
  where
    enough : (x z c e : ℕ) → z ≡ x → 1 ≤ c + e → x ≤ x * c + z * e
    enough x z c e q h = subst (λ (t : ℕ). x ≤ x * c + t * e) (sym q) (omega (arith, mul-le-mul_left x h))

    up_one : (h : Connections) (parent : ℕ → ℕ) (d : ℕ) → is_up h parent d ≡ true → ups h parent d ≡ 1
    up_one h parent d on = cond-true {A = ℕ} (is_up h parent d) 1 0 on

    some : (d : ℕ) → d < j.darts → 1 ≤ both j k parent parent' d + both j k parent parent' (reverse_dart d)
    some d l =
        elim (each d l) [
          | inl on ↦ elim (or_cases (is_up j parent d) (is_up j parent (reverse_dart d)) on) [
            | inl up ↦ omega (arith, up_one j parent d up)
            | inr up ↦ omega (arith, up_one j parent (reverse_dart d) up)
          ]
          | inr on ↦ elim (or_cases (is_up k parent' d) (is_up k parent' (reverse_dart d)) on) [
            | inl up ↦ omega (arith, up_one k parent' d up)
            | inr up ↦ omega (arith, up_one k parent' (reverse_dart d) up)
          ]
        ]

-- what each dart that leads up weighs at most
pub up_le : (j : Connections) (parent : ℕ → ℕ) (w x : ℕ → ℕ) → ((d : ℕ) → d < j.darts → is_up j parent d ≡ true → w d ≤ x (j.to d))
    → sum_below j.darts (λ d. w d * ups j parent d) ≤ sum_below j.darts (λ d. x (j.to d) * ups j parent d)
up_le j parent w x each =
    sum_below-le j.darts (λ d. w d * ups j parent d) (λ d. x (j.to d) * ups j parent d) (λ d l. one (w d) (x (j.to d)) (is_up j parent d) (each d l))
  where
    one : (a b : ℕ) (c : Bool) → (c ≡ true → a ≤ b) → a * cond c 1 0 ≤ b * cond c 1 0
    one a b true h = omega (arith, h refl)
    one a b false h = omega arith
