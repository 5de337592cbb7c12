-- Trees of nodes that are connected by darts: each node but the root has one dart that leads to it from a node of lower rank.
use Rattle.std.proofs.Common.{◌≡◌, ◌≢◌, ◌≤◌, ◌<◌, ℕ, zero, suc, ◌+◌, ◌%◌, ◌⊎◌, Bool, true, false, not, ◌&&◌, cond, eqb, refl, sym, ap, ◌∙◌, subst, inl, inr, arith}
use Rattle.std.proofs.lemmas.Bool.{cases_eq, eq-eqb, ne_eqb, eqb-true, cond-true, cond-false, and_from, and_parts, both_ways, not_from_false, not-true, true_from_ne_false}
use Rattle.common.specs.Sums.{sum_below}
use Rattle.common.proofs.Sums.{sum_below-lt}
use Rattle.flow_network.proofs.VertexDegrees.{search_below}

-- n darts, each from the node `from d` to the node `to d`; the allowed ones may be taken
pub record Connections : Type 0 where
  pub darts : ℕ
  pub nodes : ℕ
  pub from : ℕ → ℕ
  pub to : ℕ → ℕ
  pub allowed : ℕ → Bool
  pub root : ℕ

-- the dart leads to the node v from a node of lower rank
pub record LeadsTo (j : Connections) (rank : ℕ → ℕ) (v d : ℕ) : Type 0 where
  pub inside : d < j.darts
  pub allowed : j.allowed d ≡ true
  pub to : j.to d ≡ v
  pub lower : rank (j.from d) < rank v

-- a tree on all nodes, and a value of each node that goes up by g along the tree's darts, up to multiples of four
pub record IsTree (j : Connections) (g : ℕ → ℕ) (rank parent base : ℕ → ℕ) : Type 0 where
  pub leads : (v : ℕ) → v < j.nodes → v ≢ j.root → LeadsTo j rank v (parent v)
  pub along : (v : ℕ) → v < j.nodes → v ≢ j.root → base v % 4 ≡ (base (j.from (parent v)) + g (parent v)) % 4

-- the same for the nodes that are reached, which are led to from such nodes
pub record IsGrown (j : Connections) (g : ℕ → ℕ) (reached : ℕ → Bool) (rank parent base : ℕ → ℕ) : Type 0 where
  pub root : reached j.root ≡ true
  pub leads : (v : ℕ) → reached v ≡ true → v ≢ j.root → LeadsTo j rank v (parent v)
  pub behind : (v : ℕ) → reached v ≡ true → v ≢ j.root → reached (j.from (parent v)) ≡ true
  pub along : (v : ℕ) → reached v ≡ true → v ≢ j.root → base v % 4 ≡ (base (j.from (parent v)) + g (parent v)) % 4

-- a function with another value at one place
abbrev pub put : (ℕ → ℕ) → ℕ → ℕ → ℕ → ℕ
put f v x u = cond (eqb u v) x (f u)

put-here : (f : ℕ → ℕ) (v x : ℕ) → put f v x v ≡ x
put-here f v x = cond-true {A = ℕ} (eqb v v) x (f v) (eq-eqb v v refl)

put-other : (f : ℕ → ℕ) (v x u : ℕ) → u ≢ v → put f v x u ≡ f u
put-other f v x u ne = cond-false {A = ℕ} (eqb u v) x (f u) (ne_eqb u v ne)

-- the set with one number more
abbrev pub with_one : (ℕ → Bool) → ℕ → ℕ → Bool
with_one s v u = cond (eqb u v) true (s u)

with-here : (s : ℕ → Bool) (v : ℕ) → with_one s v v ≡ true
with-here s v = cond-true {A = Bool} (eqb v v) true (s v) (eq-eqb v v refl)

with-other : (s : ℕ → Bool) (v u : ℕ) → u ≢ v → with_one s v u ≡ s u
with-other s v u ne = cond-false {A = Bool} (eqb u v) true (s u) (ne_eqb u v ne)

with-kept : (s : ℕ → Bool) (v u : ℕ) → s u ≡ true → with_one s v u ≡ true
with-kept s v u h = elim (cases_eq u v) [
  | inl e ↦ ap (with_one s v) e ∙ with-here s v
  | inr ne ↦ with-other s v u ne ∙ h
]

-- how many nodes are not reached
abbrev pub unreached : Connections → (ℕ → Bool) → ℕ
unreached j reached = sum_below j.nodes (λ v. cond (reached v) 0 1)

-- a dart from a reached node to one that is not
pub record IsBorder (j : Connections) (reached : ℕ → Bool) (d : ℕ) : Type 0 where
  pub inside : d < j.darts
  pub allowed : j.allowed d ≡ true
  pub from : reached (j.from d) ≡ true
  pub to : reached (j.to d) ≡ false
  pub node : j.to d < j.nodes

-- what is reached was there before, and is another node
old_one : (j : Connections) (reached : ℕ → Bool) (d : ℕ) → IsBorder j reached d → (u : ℕ) → reached u ≡ true → u ≢ j.to d
old_one j reached d b u h e = both_ways (reached (j.to d)) b.to (ap reached (sym e) ∙ h)

-- what a node that is reached has stays, where the end of a dart of the border gets another value
kept : (j : Connections) (reached : ℕ → Bool) (d : ℕ) → IsBorder j reached d → (f : ℕ → ℕ) (x u : ℕ) → reached u ≡ true → put f (j.to d) x u ≡ f u
kept j reached d b f x u h = put-other f (j.to d) x u (old_one j reached d b u h)

was_reached : (reached : ℕ → Bool) (w v : ℕ) → with_one reached w v ≡ true → v ≢ w → reached v ≡ true
was_reached reached w v h ne = sym (with-other reached w v ne) ∙ h

-- the border's dart leads to its end
leads_new : (j : Connections) (reached : ℕ → Bool) (rank : ℕ → ℕ) (d : ℕ) → IsBorder j reached d
    → LeadsTo j (put rank (j.to d) (rank (j.from d) + 1)) (j.to d) d
leads_new j reached rank d b =
    let here = put-here rank (j.to d) (rank (j.from d) + 1) in
    let there = kept j reached d b rank (rank (j.from d) + 1) (j.from d) b.from in
    record { inside = b.inside; allowed = b.allowed; to = refl; lower = omega (arith, here, there) }

-- and what led to a node still does
leads_old : (j : Connections) (reached : ℕ → Bool) (rank : ℕ → ℕ) (d : ℕ) → IsBorder j reached d → (v e : ℕ) → reached v ≡ true → reached (j.from e) ≡ true → LeadsTo j rank v e
    → LeadsTo j (put rank (j.to d) (rank (j.from d) + 1)) v e
leads_old j reached rank d b v e h k l =
    let here = kept j reached d b rank (rank (j.from d) + 1) v h in
    let there = kept j reached d b rank (rank (j.from d) + 1) (j.from e) k in
    record { inside = l.inside; allowed = l.allowed; to = l.to; lower = omega (arith, here, there, l.lower) }

-- one node more is reached
grow : (j : Connections) (g : ℕ → ℕ) (reached : ℕ → Bool) (rank parent base : ℕ → ℕ) (d : ℕ) → IsGrown j g reached rank parent base → IsBorder j reached d
    → IsGrown j g (with_one reached (j.to d)) (put rank (j.to d) (rank (j.from d) + 1)) (put parent (j.to d) d) (put base (j.to d) (base (j.from d) + g d))
grow j g reached rank parent base d is b =
    let w : ℕ = j.to d in
    let reached' : ℕ → Bool = with_one reached w in
    let rank' : ℕ → ℕ = put rank w (rank (j.from d) + 1) in
    let parent' : ℕ → ℕ = put parent w d in
    let base' : ℕ → ℕ = put base w (base (j.from d) + g d) in
    let new_parent : parent' w ≡ d = put-here parent w d in
    let old_parent : (v : ℕ) → v ≢ w → parent' v ≡ parent v = put-other parent w d in
    record {
      root = with-kept reached w j.root is.root;
      leads = λ v h ne. elim (cases_eq v w) [
        | inl e ↦ subst (λ (u : ℕ). LeadsTo j rank' u (parent' u)) (sym e) (subst (λ (x : ℕ). LeadsTo j rank' w x) (sym new_parent) (leads_new j reached rank d b))
        | inr other ↦
            let old = was_reached reached w v h other in
            subst (λ (x : ℕ). LeadsTo j rank' v x) (sym (old_parent v other))
            (leads_old j reached rank d b v (parent v) old (is.behind v old ne) (is.leads v old ne))
      ];
      behind = λ v h ne. elim (cases_eq v w) [
        | inl e ↦ with-kept reached w (j.from (parent' v)) (ap (λ (u : ℕ). reached (j.from (parent' u))) e ∙ ap (λ (x : ℕ). reached (j.from x)) new_parent ∙ b.from)
        | inr other ↦ with-kept reached w (j.from (parent' v)) (ap (λ (x : ℕ). reached (j.from x)) (old_parent v other) ∙ is.behind v (was_reached reached w v h other) ne)
      ];
      along = λ v h ne. elim (cases_eq v w) [
        | inl e ↦
            let value : base' w ≡ base (j.from d) + g d = put-here base w (base (j.from d) + g d) in
            let start : base' (j.from d) ≡ base (j.from d) = kept j reached d b base (base (j.from d) + g d) (j.from d) b.from in
            let new : base' w % 4 ≡ (base' (j.from d) + g d) % 4 = omega arith in
            subst (λ (u : ℕ). base' u % 4 ≡ (base' (j.from (parent' u)) + g (parent' u)) % 4) (sym e)
            (subst (λ (x : ℕ). base' w % 4 ≡ (base' (j.from x) + g x) % 4) (sym new_parent) new)
        | inr other ↦
            let old = was_reached reached w v h other in
            let value : base' v ≡ base v = kept j reached d b base (base (j.from d) + g d) v old in
            let start : base' (j.from (parent v)) ≡ base (j.from (parent v)) = kept j reached d b base (base (j.from d) + g d) (j.from (parent v)) (is.behind v old ne) in
            let was : base v % 4 ≡ (base (j.from (parent v)) + g (parent v)) % 4 = is.along v old ne in
            let new : base' v % 4 ≡ (base' (j.from (parent v)) + g (parent v)) % 4 = omega arith in
            subst (λ (x : ℕ). base' v % 4 ≡ (base' (j.from x) + g x) % 4) (sym (old_parent v other)) new
      ];
    }

fewer : (j : Connections) (reached : ℕ → Bool) (d : ℕ) → IsBorder j reached d → unreached j (with_one reached (j.to d)) < unreached j reached
fewer j reached d b =
    sum_below-lt j.nodes (j.to d) (λ v. cond (with_one reached (j.to d) v) 0 1) (λ v. cond (reached v) 0 1) b.node
    (λ v h. no_more v (cases_eq v (j.to d)))
    (omega (arith, cond-true {A = ℕ} (with_one reached (j.to d) (j.to d)) 0 1 (with-here reached (j.to d)), cond-false {A = ℕ} (reached (j.to d)) 0 1 b.to))
  where
    none : (x : Bool) (y : ℕ) → x ≡ true → cond x 0 1 ≤ y
    none x y e = omega (arith, cond-true {A = ℕ} x 0 1 e)

    no_more : (v : ℕ) → (v ≡ j.to d) ⊎ (v ≢ j.to d) → cond (with_one reached (j.to d) v) 0 1 ≤ cond (reached v) 0 1
    no_more v (inl e) = none (with_one reached (j.to d) v) (cond (reached v) 0 1) (ap (with_one reached (j.to d)) e ∙ with-here reached (j.to d))
    no_more v (inr ne) = omega (arith, ap {B = ℕ} (λ (x : Bool). cond x 0 1) (with-other reached (j.to d) v ne))

-- each set of nodes that holds the root and, with the start of an allowed dart, its end, holds every node
abbrev pub Connects : Connections → Type 0
Connects j = (s : ℕ → Bool) → s j.root ≡ true
    → ((d : ℕ) → d < j.darts → j.allowed d ≡ true → s (j.from d) ≡ true → s (j.to d) ≡ true)
    → (v : ℕ) → v < j.nodes → s v ≡ true

-- a tree on all nodes, with the ranks, the parents and the values
abbrev pub Tree : Connections → (ℕ → ℕ) → Type 0
Tree j g = (rank parent base : ℕ → ℕ) × IsTree j g rank parent base

-- a dart of the border, or none
border : (j : Connections) → ((d : ℕ) → d < j.darts → j.to d < j.nodes) → (reached : ℕ → Bool)
    → ((d : ℕ) × IsBorder j reached d) ⊎ ((d : ℕ) → d < j.darts → j.allowed d ≡ true → reached (j.from d) ≡ true → reached (j.to d) ≡ true)
border j ends reached =
    elim (search_below j.darts (λ d. j.allowed d && (reached (j.from d) && not (reached (j.to d))))) [
      | inl found ↦
          let d = found.0 in
          let first = and_parts (j.allowed d) (reached (j.from d) && not (reached (j.to d))) found.2 in
          let second = and_parts (reached (j.from d)) (not (reached (j.to d))) first.1 in
          inl (d, record { inside = found.1; allowed = first.0; from = second.0; to = not-true (reached (j.to d)) second.1; node = ends d found.1 })
      | inr none ↦ inr (λ d l allowed from.
          true_from_ne_false (reached (j.to d)) (λ to.
          both_ways (j.allowed d && (reached (j.from d) && not (reached (j.to d)))) (none d l)
          (and_from _ _ allowed (and_from _ _ from (not_from_false (reached (j.to d)) to)))))
    ]

build : (j : Connections) (g : ℕ → ℕ) → ((d : ℕ) → d < j.darts → j.to d < j.nodes) → Connects j
    → (k : ℕ) (reached : ℕ → Bool) (rank parent base : ℕ → ℕ) → IsGrown j g reached rank parent base → unreached j reached < k → Tree j g
build j g ends connects zero reached rank parent base is left = absurd (omega arith)
build j g ends connects (suc k) reached rank parent base is left =
    elim (border j ends reached) [
      | inl found ↦
          let d = found.0 in
          build j g ends connects k (with_one reached (j.to d)) (put rank (j.to d) (rank (j.from d) + 1)) (put parent (j.to d) d) (put base (j.to d) (base (j.from d) + g d))
          (grow j g reached rank parent base d is found.1) (omega (arith, fewer j reached d found.1))
      | inr closed ↦
          let all = connects reached is.root closed in
          (rank, parent, base, record { leads = λ v l. is.leads v (all v l); along = λ v l. is.along v (all v l) })
    ]

-- where the darts connect all nodes there is such a tree
pub tree : (j : Connections) (g : ℕ → ℕ) → ((d : ℕ) → d < j.darts → j.to d < j.nodes) → Connects j → Tree j g
tree j g ends connects =
    build j g ends connects (unreached j (λ v. eqb v j.root) + 1) (λ v. eqb v j.root) (λ _. 0) (λ _. 0) (λ _. 0)
    (record {
      root = eq-eqb j.root j.root refl;
      leads = λ v h ne. absurd (ne (eqb-true v j.root h));
      behind = λ v h ne. absurd (ne (eqb-true v j.root h));
      along = λ v h ne. absurd (ne (eqb-true v j.root h));
    })
    (omega arith)
