-- How many darts a tree has, and that a tree on the vertices and one on the faces are all darts of a plane.
use Rattle.std.proofs.Common.{◌≡◌, ◌≢◌, ◌≤◌, ◌<◌, ℕ, ◌+◌, ◌*◌, ◌⊎◌, Bool, true, false, not, ◌&&◌, ◌||◌, cond, eqb, refl, sym, ap, ◌∙◌, subst, inl, inr, arith}
use Rattle.std.proofs.lemmas.Bool.{cases_eq, cases_Bool, eq-eqb, ne_eqb, eqb-true, eqb-false, cond-true, cond-false, and_from, and_parts, both_ways, not_from_false, not-true, or_left, or_right, or_cases}
use Rattle.common.specs.Sums.{sum_below}
use Rattle.common.proofs.Sums.{sum_below-same, sum_below-add, sum_below-le, sum_below-lt, sum_below-one, sum_below-constant, sum_below-member, sum_below-turned, exchanged}
use Rattle.dissect.proofs.Trees.{Connections, IsTree}
use Rattle.dissect.proofs.Peeling.{IsUp, IsPaired}

-- whether a dart is the one by which the tree leads to its end
abbrev pub is_up : Connections → (ℕ → ℕ) → ℕ → Bool
is_up j parent d = not (eqb (j.to d) j.root) && eqb (parent (j.to d)) d

-- whether a dart or its reverse is
abbrev pub in_tree : Connections → (ℕ → ℕ) → (ℕ → ℕ) → ℕ → Bool
in_tree j reverse_dart parent d = is_up j parent d || is_up j parent (reverse_dart d)

pub up_from : (j : Connections) (parent : ℕ → ℕ) (d : ℕ) → is_up j parent d ≡ true → IsUp j parent d
up_from j parent d h =
    let both = and_parts (not (eqb (j.to d) j.root)) (eqb (parent (j.to d)) d) h in
    record { node = eqb-false (j.to d) j.root (not-true (eqb (j.to d) j.root) both.0); parent_is = eqb-true (parent (j.to d)) d both.1 }

up_to : (j : Connections) (parent : ℕ → ℕ) (d : ℕ) → IsUp j parent d → is_up j parent d ≡ true
up_to j parent d up =
    and_from (not (eqb (j.to d) j.root)) (eqb (parent (j.to d)) d) (not_from_false (eqb (j.to d) j.root) (ne_eqb (j.to d) j.root up.node)) (eq-eqb (parent (j.to d)) d up.parent_is)

-- a dart of the tree leads up, or its reverse does
pub tree_from : (j : Connections) (reverse_dart parent : ℕ → ℕ) (d : ℕ) → in_tree j reverse_dart parent d ≡ true → IsUp j parent d ⊎ IsUp j parent (reverse_dart d)
tree_from j reverse_dart parent d h =
    elim (or_cases (is_up j parent d) (is_up j parent (reverse_dart d)) h) [
      | inl up ↦ inl (up_from j parent d up)
      | inr up ↦ inr (up_from j parent (reverse_dart d) up)
    ]

-- the dart that leads to a node other than the root does
parent_up : (j : Connections) (g rank parent base : ℕ → ℕ) → IsTree j g rank parent base → (v : ℕ) → v < j.nodes → v ≢ j.root → is_up j parent (parent v) ≡ true
parent_up j g rank parent base tree v l ne =
    let leads = tree.leads v l ne in
    up_to j parent (parent v) (record { node = λ e. ne (sym leads.to ∙ e); parent_is = ap parent leads.to })

-- one for a dart that leads up
abbrev pub ups : Connections → (ℕ → ℕ) → ℕ → ℕ
ups j parent d = cond (is_up j parent d) 1 0

-- one such dart for each node other than the root
pub enough : (j : Connections) (reverse_dart g rank parent base : ℕ → ℕ) → IsPaired j reverse_dart → IsTree j g rank parent base → j.root < j.nodes
    → j.nodes ≤ sum_below j.darts (ups j parent) + 1
enough j reverse_dart g rank parent base paired tree root =
    let n : ℕ = j.darts in
    let m : ℕ = j.nodes in
    let by_node : sum_below m (λ v. 1 * sum_below n (λ d. cond (eqb (j.to d) v) (ups j parent d) 0)) ≡ sum_below n (λ d. 1 * ups j parent d) =
    exchanged n m j.to (ups j parent) (λ _. 1) paired.node in
    let plain : sum_below n (λ d. 1 * ups j parent d) ≡ sum_below n (ups j parent) =
    sum_below-same n (λ d. 1 * ups j parent d) (ups j parent) (λ d b. omega arith) in
    let some : sum_below m (λ v. cond (eqb j.root v) 0 1) ≤ sum_below m (λ v. 1 * sum_below n (λ d. cond (eqb (j.to d) v) (ups j parent d) 0)) =
    sum_below-le m (λ v. cond (eqb j.root v) 0 1) (λ v. 1 * sum_below n (λ d. cond (eqb (j.to d) v) (ups j parent d) 0)) (λ v b. one v b (cases_eq j.root v)) in
    let rooted : sum_below m (λ v. cond (eqb j.root v) 1 0) ≡ 1 = sum_below-one m j.root (λ _. 1) root in
    let all : sum_below m (λ v. cond (eqb j.root v) 0 1 + cond (eqb j.root v) 1 0) ≡ m * 1 =
    sum_below-same m (λ v. cond (eqb j.root v) 0 1 + cond (eqb j.root v) 1 0) (λ _. 1) (λ v b. each (eqb j.root v)) ∙ sum_below-constant m 1 in
    omega (arith, sum_below-add m (λ v. cond (eqb j.root v) 0 1) (λ v. cond (eqb j.root v) 1 0))
  where
    each : (b : Bool) → cond b 0 1 + cond b 1 0 ≡ 1
    each true = refl
    each false = refl

    one : (v : ℕ) → v < j.nodes → (j.root ≡ v) ⊎ (j.root ≢ v) → cond (eqb j.root v) 0 1 ≤ 1 * sum_below j.darts (λ d. cond (eqb (j.to d) v) (ups j parent d) 0)
    one v l (inl e) = omega (arith, cond-true {A = ℕ} (eqb j.root v) 0 1 (eq-eqb j.root v e))
    one v l (inr ne) =
        let other : v ≢ j.root = λ e. ne (sym e) in
        let leads = tree.leads v l other in
        let member = sum_below-member j.darts (parent v) (λ d. cond (eqb (j.to d) v) (ups j parent d) 0) leads.inside in
        omega (
          arith,
          member,
          cond-true {A = ℕ} (eqb (j.to (parent v)) v) (ups j parent (parent v)) 0 (eq-eqb (j.to (parent v)) v leads.to),
          cond-true {A = ℕ} (is_up j parent (parent v)) 1 0 (parent_up j g rank parent base tree v l other),
          cond-false {A = ℕ} (eqb j.root v) 0 1 (ne_eqb j.root v ne),
        )

-- a dart and its reverse do not both lead up
not_both : (j : Connections) (reverse_dart g rank parent base : ℕ → ℕ) → IsPaired j reverse_dart → IsTree j g rank parent base → (d : ℕ) → d < j.darts
    → is_up j parent d ≡ true → is_up j parent (reverse_dart d) ≡ true → ⊥
not_both j reverse_dart g rank parent base paired tree d l one two =
    let up = up_from j parent d one in
    let back = up_from j parent (reverse_dart d) two in
    let m_in = paired.inside d l in
    let from : j.from (parent (j.to d)) ≡ j.to (reverse_dart d) = ap j.from up.parent_is ∙ paired.from d l in
    let from_back : j.from (parent (j.to (reverse_dart d))) ≡ j.to d = ap j.from back.parent_is ∙ paired.from (reverse_dart d) m_in ∙ ap j.to (paired.back d l) in
    let rises = (tree.leads (j.to d) (paired.node d l) up.node).lower in
    let rises_back = (tree.leads (j.to (reverse_dart d)) (paired.node (reverse_dart d) m_in) back.node).lower in
    omega (arith, rises, rises_back, ap rank from, ap rank from_back)

-- of two tests that do not both pass at most one passes
apart : (a b : Bool) → (a ≡ true → b ≡ true → ⊥) → cond a 1 0 + cond b 1 0 ≤ 1
apart true true h = absurd (h refl refl)
apart true false h = omega arith
apart false true h = omega arith
apart false false h = omega arith

at_most_one : (a b c d : ℕ) → a + b ≤ 1 → c + d ≤ 1 → a + c ≤ 1 → a + d ≤ 1 → b + c ≤ 1 → b + d ≤ 1 → a + b + c + d ≤ 1
at_most_one a b c d h1 h2 h3 h4 h5 h6 = omega arith

-- what n darts have of two trees on `j` and `k`, where none of the second is of the first, and there are nodes for all:
-- each dart is of one of them
pub spanned : (j k : Connections) (reverse_dart g rank parent base g' rank' parent' base' : ℕ → ℕ) → j.darts ≡ k.darts
    → IsPaired j reverse_dart → IsTree j g rank parent base → j.root < j.nodes
    → IsPaired k reverse_dart → IsTree k g' rank' parent' base' → k.root < k.nodes
    → ((d : ℕ) → k.allowed d ≡ true → in_tree j reverse_dart parent d ≡ false)
    → j.darts + 4 ≤ 2 * (j.nodes + k.nodes)
    → (d : ℕ) → d < j.darts → (in_tree j reverse_dart parent d ≡ true) ⊎ (in_tree k reverse_dart parent' d ≡ true)
spanned j k reverse_dart g rank parent base g' rank' parent' base' same paired tree root paired' tree' root' off many d l =
    elim (cases_Bool (in_tree j reverse_dart parent d)) [
      | inl here ↦ inl here
      | inr away ↦ elim (cases_Bool (in_tree k reverse_dart parent' d)) [
        | inl here ↦ inr here
        | inr none ↦ absurd (short away none)
      ]
    ]
  where
    n : ℕ
    n = j.darts

    inside' : (e : ℕ) → e < j.darts → e < k.darts
    inside' e h = omega arith

    u : ℕ → ℕ
    u = ups j parent

    u' : ℕ → ℕ
    u' = ups k parent'

    -- a dart that leads up in the second tree, or its reverse, is not of the first
    not_first : (e : ℕ) → e < j.darts → is_up k parent' e ≡ true → in_tree j reverse_dart parent e ≡ false
    not_first e h up =
        let is = up_from k parent' e up in
        let leads = tree'.leads (k.to e) (paired'.node e (inside' e h)) is.node in
        off e (subst (λ (x : ℕ). k.allowed x ≡ true) is.parent_is leads.allowed)

    not_up : (e : ℕ) → e < j.darts → is_up k parent' e ≡ true → (is_up j parent e ≡ true → ⊥) × (is_up j parent (reverse_dart e) ≡ true → ⊥)
    not_up e h up = (
      λ one. both_ways (in_tree j reverse_dart parent e) (not_first e h up) (or_left (is_up j parent e) (is_up j parent (reverse_dart e)) one),
      λ two. both_ways (in_tree j reverse_dart parent e) (not_first e h up) (or_right (is_up j parent e) (is_up j parent (reverse_dart e)) two),
    )

    most : (e : ℕ) → e < j.darts → ups j parent e + ups j parent (reverse_dart e) + ups k parent' e + ups k parent' (reverse_dart e) ≤ 1
    most e h =
        let m_in = paired.inside e h in
        at_most_one (ups j parent e) (ups j parent (reverse_dart e)) (ups k parent' e) (ups k parent' (reverse_dart e))
        (apart (is_up j parent e) (is_up j parent (reverse_dart e)) (not_both j reverse_dart g rank parent base paired tree e h))
        (apart (is_up k parent' e) (is_up k parent' (reverse_dart e)) (not_both k reverse_dart g' rank' parent' base' paired' tree' e (inside' e h)))
        (apart (is_up j parent e) (is_up k parent' e) (λ one two. (not_up e h two).0 one))
        (apart (is_up j parent e) (is_up k parent' (reverse_dart e)) (λ one two. (not_up (reverse_dart e) m_in two).1 (subst (λ (x : ℕ). is_up j parent x ≡ true) (sym (paired.back e h)) one)))
        (apart (is_up j parent (reverse_dart e)) (is_up k parent' e) (λ one two. (not_up e h two).1 one))
        (apart (is_up j parent (reverse_dart e)) (is_up k parent' (reverse_dart e)) (λ one two. (not_up (reverse_dart e) m_in two).0 one))

    no_up : (a b : Bool) → (a || b) ≡ false → cond a 1 0 + cond b 1 0 ≡ 0
    no_up true b h = absurd (both_ways true h refl)
    no_up false true h = absurd (both_ways true h refl)
    no_up false false h = refl

    short : in_tree j reverse_dart parent d ≡ false → in_tree k reverse_dart parent' d ≡ false → ⊥
    short away none =
        let all : ℕ → ℕ = λ e. ups j parent e + ups j parent (reverse_dart e) + ups k parent' e + ups k parent' (reverse_dart e) in
        let nothing : all d < 1 =
        omega (arith, no_up (is_up j parent d) (is_up j parent (reverse_dart d)) away, no_up (is_up k parent' d) (is_up k parent' (reverse_dart d)) none) in
        let less : sum_below j.darts all < sum_below j.darts (λ _. 1) = sum_below-lt j.darts d all (λ _. 1) l most nothing in
        let first = sum_below-add j.darts (λ e. ups j parent e + ups j parent (reverse_dart e) + ups k parent' e) (λ e. ups k parent' (reverse_dart e)) in
        let second = sum_below-add j.darts (λ e. ups j parent e + ups j parent (reverse_dart e)) (ups k parent') in
        let third = sum_below-add j.darts (ups j parent) (λ e. ups j parent (reverse_dart e)) in
        let turned : sum_below j.darts (λ e. ups j parent (reverse_dart e)) ≡ sum_below j.darts (ups j parent) =
        sum_below-turned j.darts reverse_dart (ups j parent) paired.inside paired.back in
        let turned' : sum_below j.darts (λ e. ups k parent' (reverse_dart e)) ≡ sum_below j.darts (ups k parent') =
        sum_below-turned j.darts reverse_dart (ups k parent') paired.inside paired.back in
        let one = enough j reverse_dart g rank parent base paired tree root in
        let two : k.nodes ≤ sum_below j.darts (ups k parent') + 1 =
        subst (λ (x : ℕ). k.nodes ≤ sum_below x (ups k parent') + 1) (sym same) (enough k reverse_dart g' rank' parent' base' paired' tree' root') in
        omega (arith, less, sum_below-constant j.darts 1, first, second, third, turned, turned', one, two)
