-- What is 0 off a tree, and sums to a multiple of four at each node, is 0.
use Rattle.std.proofs.Common.{◌≡◌, ◌≢◌, ◌≤◌, ◌<◌, ℕ, zero, suc, ◌+◌, ◌%◌, ◌⊎◌, Bool, cond, eqb, sym, ap, ◌∙◌, subst, inl, inr, arith}
use Rattle.std.proofs.lemmas.Bool.{cases_eq, eq-eqb, ne_eqb, cond-true, cond-false}
use Rattle.common.specs.Sums.{sum_below}
use Rattle.common.proofs.Sums.{sum_below-same, sum_below-one, sum_below-member}
use Rattle.dissect.proofs.Reordered.{sum_at}
use Rattle.dissect.proofs.Trees.{Connections, IsTree}

-- the dart is the one by which the tree leads to its end
pub record IsUp (j : Connections) (parent : ℕ → ℕ) (d : ℕ) : Type 0 where
  pub node : j.to d ≢ j.root
  pub parent_is : parent (j.to d) ≡ d

-- each dart has a reverse, the same edge the other way
pub record IsPaired (j : Connections) (reverse_dart : ℕ → ℕ) : Type 0 where
  pub inside : (d : ℕ) → d < j.darts → reverse_dart d < j.darts
  pub back : (d : ℕ) → d < j.darts → reverse_dart (reverse_dart d) ≡ d
  pub from : (d : ℕ) → d < j.darts → j.from d ≡ j.to (reverse_dart d)
  pub node : (d : ℕ) → d < j.darts → j.to d < j.nodes

-- what passes along each dart, up to multiples of four
pub record IsBalanced (j : Connections) (reverse_dart parent off : ℕ → ℕ) : Type 0 where
  pub small : (d : ℕ) → d < j.darts → off d < 4
  pub pairs : (d : ℕ) → d < j.darts → (off d + off (reverse_dart d)) % 4 ≡ 0
  pub round : (v : ℕ) → v < j.nodes → sum_at j.darts j.to v off % 4 ≡ 0
  pub only : (d : ℕ) → d < j.darts → (off d ≡ 0) ⊎ (IsUp j parent d ⊎ IsUp j parent (reverse_dart d))

-- where nothing passes along the reverse, nothing does along the dart
none_back : (j : Connections) (reverse_dart parent off : ℕ → ℕ) → IsBalanced j reverse_dart parent off → (d : ℕ) → d < j.darts → off (reverse_dart d) ≡ 0 → off d ≡ 0
none_back j reverse_dart parent off is d l e = omega (arith, is.small d l, is.pairs d l)

-- nothing passes along the darts that lead to nodes of rank more than `high` less k
peeled : (j : Connections) (reverse_dart g rank parent base off : ℕ → ℕ) → IsPaired j reverse_dart → IsTree j g rank parent base → IsBalanced j reverse_dart parent off
    → (high k : ℕ) → ((v : ℕ) → v < j.nodes → rank v ≤ high)
    → (v : ℕ) → v < j.nodes → v ≢ j.root → high < rank v + k → off (parent v) ≡ 0
peeled j reverse_dart g rank parent base off paired tree is high zero most v l ne past = absurd (omega (arith, most v l))
peeled j reverse_dart g rank parent base off paired tree is high (suc k) most v l ne past =
    let leads = tree.leads v l ne in
    let one : sum_at j.darts j.to v off ≡ off (parent v) =
    sum_below-same j.darts (λ d. cond (eqb (j.to d) v) (off d) 0) (λ d. cond (eqb (parent v) d) (off d) 0)
    (alone (λ w w_in up higher. peeled j reverse_dart g rank parent base off paired tree is high k most w w_in up (omega arith)))
    ∙ sum_below-one j.darts (parent v) off leads.inside in
    omega (arith, one, is.round v l, is.small (parent v) leads.inside)
  where
    -- another dart that ends here leads back up to a node of greater rank, or is off the tree
    other : ((w : ℕ) → w < j.nodes → w ≢ j.root → rank v < rank w → off (parent w) ≡ 0) → (d : ℕ) → d < j.darts → j.to d ≡ v → parent v ≢ d → off d ≡ 0
    other above d h to not_parent =
        elim (is.only d h) [
          | inl none ↦ none
          | inr (inl up) ↦ absurd (not_parent (ap parent (sym to) ∙ up.parent_is))
          | inr (inr up) ↦
              let w : ℕ = j.to (reverse_dart d) in
              let w_in : w < j.nodes = paired.node (reverse_dart d) (paired.inside d h) in
              let leads = tree.leads w w_in up.node in
              let from : j.from (parent w) ≡ v =
              ap j.from up.parent_is ∙ paired.from (reverse_dart d) (paired.inside d h) ∙ ap j.to (paired.back d h) ∙ to in
              let higher : rank v < rank w = subst (λ (u : ℕ). rank u < rank w) from leads.lower in
              let none : off (parent w) ≡ 0 = above w w_in up.node higher in
              none_back j reverse_dart parent off is d h (ap off (sym up.parent_is) ∙ none)
        ]

    alone : ((w : ℕ) → w < j.nodes → w ≢ j.root → rank v < rank w → off (parent w) ≡ 0) → (d : ℕ) → d < j.darts → cond (eqb (j.to d) v) (off d) 0 ≡ cond (eqb (parent v) d) (off d) 0
    alone above d h =
        let leads = tree.leads v l ne in
        elim (cases_eq (parent v) d) [
          | inl e ↦
              ap (λ (b : Bool). cond b (off d) 0) (eq-eqb (j.to d) v (ap j.to (sym e) ∙ leads.to) ∙ sym (eq-eqb (parent v) d e))
          | inr not_parent ↦ elim (cases_eq (j.to d) v) [
            | inl to ↦
                cond-true {A = ℕ} (eqb (j.to d) v) (off d) 0 (eq-eqb (j.to d) v to) ∙ other above d h to not_parent
                ∙ sym (cond-false {A = ℕ} (eqb (parent v) d) (off d) 0 (ne_eqb (parent v) d not_parent))
            | inr away ↦
                ap (λ (b : Bool). cond b (off d) 0) (ne_eqb (j.to d) v away ∙ sym (ne_eqb (parent v) d not_parent))
          ]
        ]

-- nothing passes at all
pub nothing : (j : Connections) (reverse_dart g rank parent base off : ℕ → ℕ) → IsPaired j reverse_dart → IsTree j g rank parent base → IsBalanced j reverse_dart parent off
    → (d : ℕ) → d < j.darts → off d ≡ 0
nothing j reverse_dart g rank parent base off paired tree is d l =
    elim (is.only d l) [
      | inl none ↦ none
      | inr (inl up) ↦ ap off (sym up.parent_is) ∙ by_rank (j.to d) (paired.node d l) up.node
      | inr (inr up) ↦
          none_back j reverse_dart parent off is d l
          (ap off (sym up.parent_is) ∙ by_rank (j.to (reverse_dart d)) (paired.node (reverse_dart d) (paired.inside d l)) up.node)
    ]
  where
    by_rank : (v : ℕ) → v < j.nodes → v ≢ j.root → off (parent v) ≡ 0
    by_rank v h ne =
        let high : ℕ = sum_below j.nodes rank in
        peeled j reverse_dart g rank parent base off paired tree is high (high + 1) (λ u b. sum_below-member j.nodes u rank b) v h ne (omega arith)
