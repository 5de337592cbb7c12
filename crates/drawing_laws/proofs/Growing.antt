-- Nodes that are reached along darts from a root, by a tree.
use Rattle.std.proofs.Common.{◌≡◌, ◌≢◌, ◌≤◌, ◌<◌, ℕ, zero, suc, ◌+◌, ◌*◌, ◌⊎◌, Bool, true, false, not, ◌&&◌, cond, eqb, refl, sym, ap, ◌∙◌, subst, inl, inr, arith}
use Rattle.std.proofs.lemmas.Bool.{cases_eq, cases_Bool, eq-eqb, ne_eqb, eqb-true, eqb-false, cond-true, cond-false, and_from, and_parts, both_ways, not_from_false, not-true, true_from_ne_false}
use Rattle.common.specs.Sums.{sum_below}
use Rattle.common.proofs.Sums.{sum_below-same, sum_below-add, sum_below-le, sum_below-lt, sum_below-one, sum_below-member, sum_below-changed, exchanged}
use Rattle.flow_network.proofs.VertexDegrees.{search_below}
use Rattle.dissect.proofs.Reordered.{sum_at}
use Rattle.dissect.proofs.Trees.{Connections, LeadsTo, IsBorder, put, with_one, unreached}
use Rattle.dissect.proofs.Peeling.{IsPaired}

pub put-here : (f : ℕ → ℕ) (v x : ℕ) → put f v x v ≡ x
put-here f v x = cond-true {A = ℕ} (eqb v v) x (f v) (eq-eqb v v refl)

pub put-other : (f : ℕ → ℕ) (v x u : ℕ) → u ≢ v → put f v x u ≡ f u
put-other f v x u ne = cond-false {A = ℕ} (eqb u v) x (f u) (ne_eqb u v ne)

with-here : (s : ℕ → Bool) (v : ℕ) → with_one s v v ≡ true
with-here s v = cond-true {A = Bool} (eqb v v) true (s v) (eq-eqb v v refl)

with-other : (s : ℕ → Bool) (v u : ℕ) → u ≢ v → with_one s v u ≡ s u
with-other s v u ne = cond-false {A = Bool} (eqb u v) true (s u) (ne_eqb u v ne)

with-kept : (s : ℕ → Bool) (v u : ℕ) → s u ≡ true → with_one s v u ≡ true
with-kept s v u h = elim (cases_eq u v) [
  | inl e ↦ ap (with_one s v) e ∙ with-here s v
  | inr ne ↦ with-other s v u ne ∙ h
]

-- the nodes that are reached, each but the root by a dart from one of lower rank
pub record IsGrown (j : Connections) (reached : ℕ → Bool) (rank parent : ℕ → ℕ) : Type 0 where
  pub root : reached j.root ≡ true
  pub leads : (v : ℕ) → reached v ≡ true → v ≢ j.root → LeadsTo j rank v (parent v)
  pub behind : (v : ℕ) → reached v ≡ true → v ≢ j.root → reached (j.from (parent v)) ≡ true

-- all nodes that can be reached
pub record Growth (j : Connections) : Type 0 where
  pub reached : ℕ → Bool
  pub rank : ℕ → ℕ
  pub parent : ℕ → ℕ
  pub grown : IsGrown j reached rank parent
  pub closed : (d : ℕ) → d < j.darts → j.allowed d ≡ true → reached (j.from d) ≡ true → reached (j.to d) ≡ true

old_one : (j : Connections) (reached : ℕ → Bool) (d : ℕ) → IsBorder j reached d → (u : ℕ) → reached u ≡ true → u ≢ j.to d
old_one j reached d b u h e = both_ways (reached (j.to d)) b.to (ap reached (sym e) ∙ h)

kept : (j : Connections) (reached : ℕ → Bool) (d : ℕ) → IsBorder j reached d → (f : ℕ → ℕ) (x u : ℕ) → reached u ≡ true → put f (j.to d) x u ≡ f u
kept j reached d b f x u h = put-other f (j.to d) x u (old_one j reached d b u h)

was_reached : (reached : ℕ → Bool) (w v : ℕ) → with_one reached w v ≡ true → v ≢ w → reached v ≡ true
was_reached reached w v h ne = sym (with-other reached w v ne) ∙ h

leads_new : (j : Connections) (reached : ℕ → Bool) (rank : ℕ → ℕ) (d : ℕ) → IsBorder j reached d
    → LeadsTo j (put rank (j.to d) (rank (j.from d) + 1)) (j.to d) d
leads_new j reached rank d b =
    let here = put-here rank (j.to d) (rank (j.from d) + 1) in
    let there = kept j reached d b rank (rank (j.from d) + 1) (j.from d) b.from in
    record { inside = b.inside; allowed = b.allowed; to = refl; lower = omega (arith, here, there) }

leads_old : (j : Connections) (reached : ℕ → Bool) (rank : ℕ → ℕ) (d : ℕ) → IsBorder j reached d → (v e : ℕ) → reached v ≡ true → reached (j.from e) ≡ true → LeadsTo j rank v e
    → LeadsTo j (put rank (j.to d) (rank (j.from d) + 1)) v e
leads_old j reached rank d b v e h k l =
    let here = kept j reached d b rank (rank (j.from d) + 1) v h in
    let there = kept j reached d b rank (rank (j.from d) + 1) (j.from e) k in
    record { inside = l.inside; allowed = l.allowed; to = l.to; lower = omega (arith, here, there, l.lower) }

-- one node more is reached
grow : (j : Connections) (reached : ℕ → Bool) (rank parent : ℕ → ℕ) (d : ℕ) → IsGrown j reached rank parent → IsBorder j reached d
    → IsGrown j (with_one reached (j.to d)) (put rank (j.to d) (rank (j.from d) + 1)) (put parent (j.to d) d)
grow j reached rank parent d is b =
    let w : ℕ = j.to d in
    let reached' : ℕ → Bool = with_one reached w in
    let rank' : ℕ → ℕ = put rank w (rank (j.from d) + 1) in
    let parent' : ℕ → ℕ = put parent w d in
    let new_parent : parent' w ≡ d = put-here parent w d in
    let old_parent : (v : ℕ) → v ≢ w → parent' v ≡ parent v = put-other parent w d in
    record {
      root = with-kept reached w j.root is.root;
      leads = λ v h ne. elim (cases_eq v w) [
        | inl e ↦ subst (λ (u : ℕ). LeadsTo j rank' u (parent' u)) (sym e) (subst (λ (x : ℕ). LeadsTo j rank' w x) (sym new_parent) (leads_new j reached rank d b))
        | inr other ↦
            let old = was_reached reached w v h other in
            subst (λ (x : ℕ). LeadsTo j rank' v x) (sym (old_parent v other))
            (leads_old j reached rank d b v (parent v) old (is.behind v old ne) (is.leads v old ne))
      ];
      behind = λ v h ne. elim (cases_eq v w) [
        | inl e ↦ with-kept reached w (j.from (parent' v)) (ap (λ (u : ℕ). reached (j.from (parent' u))) e ∙ ap (λ (x : ℕ). reached (j.from x)) new_parent ∙ b.from)
        | inr other ↦ with-kept reached w (j.from (parent' v)) (ap (λ (x : ℕ). reached (j.from x)) (old_parent v other) ∙ is.behind v (was_reached reached w v h other) ne)
      ];
    }

fewer : (j : Connections) (reached : ℕ → Bool) (d : ℕ) → IsBorder j reached d → unreached j (with_one reached (j.to d)) < unreached j reached
fewer j reached d b =
    sum_below-lt j.nodes (j.to d) (λ v. cond (with_one reached (j.to d) v) 0 1) (λ v. cond (reached v) 0 1) b.node
    (λ v h. no_more v (cases_eq v (j.to d)))
    (omega (arith, cond-true {A = ℕ} (with_one reached (j.to d) (j.to d)) 0 1 (with-here reached (j.to d)), cond-false {A = ℕ} (reached (j.to d)) 0 1 b.to))
  where
    none : (x : Bool) (y : ℕ) → x ≡ true → cond x 0 1 ≤ y
    none x y e = omega (arith, cond-true {A = ℕ} x 0 1 e)

    no_more : (v : ℕ) → (v ≡ j.to d) ⊎ (v ≢ j.to d) → cond (with_one reached (j.to d) v) 0 1 ≤ cond (reached v) 0 1
    no_more v (inl e) = none (with_one reached (j.to d) v) (cond (reached v) 0 1) (ap (with_one reached (j.to d)) e ∙ with-here reached (j.to d))
    no_more v (inr ne) = omega (arith, ap {B = ℕ} (λ (x : Bool). cond x 0 1) (with-other reached (j.to d) v ne))

border : (j : Connections) → ((d : ℕ) → d < j.darts → j.to d < j.nodes) → (reached : ℕ → Bool)
    → ((d : ℕ) × IsBorder j reached d) ⊎ ((d : ℕ) → d < j.darts → j.allowed d ≡ true → reached (j.from d) ≡ true → reached (j.to d) ≡ true)
border j ends reached =
    elim (search_below j.darts (λ d. j.allowed d && (reached (j.from d) && not (reached (j.to d))))) [
      | inl found ↦
          let d = found.0 in
          let first = and_parts (j.allowed d) (reached (j.from d) && not (reached (j.to d))) found.2 in
          let second = and_parts (reached (j.from d)) (not (reached (j.to d))) first.1 in
          inl (d, record { inside = found.1; allowed = first.0; from = second.0; to = not-true (reached (j.to d)) second.1; node = ends d found.1 })
      | inr none ↦ inr (λ d l allowed from.
          true_from_ne_false (reached (j.to d)) (λ to.
          both_ways (j.allowed d && (reached (j.from d) && not (reached (j.to d)))) (none d l)
          (and_from _ _ allowed (and_from _ _ from (not_from_false (reached (j.to d)) to)))))
    ]

build : (j : Connections) → ((d : ℕ) → d < j.darts → j.to d < j.nodes)
    → (k : ℕ) (reached : ℕ → Bool) (rank parent : ℕ → ℕ) → IsGrown j reached rank parent → unreached j reached < k → Growth j
build j ends zero reached rank parent is left = absurd (omega arith)
build j ends (suc k) reached rank parent is left =
    elim (border j ends reached) [
      | inl found ↦
          let d = found.0 in
          build j ends k (with_one reached (j.to d)) (put rank (j.to d) (rank (j.from d) + 1)) (put parent (j.to d) d)
          (grow j reached rank parent d is found.1) (omega (arith, fewer j reached d found.1))
      | inr closed ↦ record { reached = reached; rank = rank; parent = parent; grown = is; closed = closed }
    ]

-- all nodes that the allowed darts lead to from the root
pub growth : (j : Connections) → ((d : ℕ) → d < j.darts → j.to d < j.nodes) → Growth j
growth j ends =
    build j ends (unreached j (λ v. eqb v j.root) + 1) (λ v. eqb v j.root) (λ _. 0) (λ _. 0)
    (record {
      root = eq-eqb j.root j.root refl;
      leads = λ v h ne. absurd (ne (eqb-true v j.root h));
      behind = λ v h ne. absurd (ne (eqb-true v j.root h));
    })
    (omega arith)

-- whether the dart is the one by which its end is reached
abbrev pub is_up : (j : Connections) → Growth j → ℕ → Bool
is_up j g d = g.reached (j.to d) && (not (eqb (j.to d) j.root) && eqb (g.parent (j.to d)) d)

pub record Up (j : Connections) (g : Growth j) (d : ℕ) : Type 0 where
  pub reached : g.reached (j.to d) ≡ true
  pub node : j.to d ≢ j.root
  pub parent_is : g.parent (j.to d) ≡ d

pub up_from : (j : Connections) (g : Growth j) (d : ℕ) → is_up j g d ≡ true → Up j g d
up_from j g d h =
    let first = and_parts (g.reached (j.to d)) (not (eqb (j.to d) j.root) && eqb (g.parent (j.to d)) d) h in
    let both = and_parts (not (eqb (j.to d) j.root)) (eqb (g.parent (j.to d)) d) first.1 in
    record { reached = first.0; node = eqb-false (j.to d) j.root (not-true (eqb (j.to d) j.root) both.0); parent_is = eqb-true (g.parent (j.to d)) d both.1 }

up_to : (j : Connections) (g : Growth j) (d : ℕ) → Up j g d → is_up j g d ≡ true
up_to j g d up =
    and_from _ _ up.reached
    (and_from (not (eqb (j.to d) j.root)) (eqb (g.parent (j.to d)) d) (not_from_false (eqb (j.to d) j.root) (ne_eqb (j.to d) j.root up.node)) (eq-eqb (g.parent (j.to d)) d up.parent_is))

pub up_leads : (j : Connections) (g : Growth j) (d : ℕ) → Up j g d → LeadsTo j g.rank (j.to d) d
up_leads j g d up = subst (λ (e : ℕ). LeadsTo j g.rank (j.to d) e) up.parent_is (g.grown.leads (j.to d) up.reached up.node)

abbrev pub ups : (j : Connections) → Growth j → ℕ → ℕ
ups j g d = cond (is_up j g d) 1 0

-- ---- how many

-- one such dart for each node that is reached, but for the root
pub enough : (j : Connections) (g : Growth j) → ((d : ℕ) → d < j.darts → j.to d < j.nodes) → j.root < j.nodes
    → sum_below j.nodes (λ v. cond (g.reached v) 1 0) ≤ sum_below j.darts (ups j g) + 1
enough j g ends root =
    let n : ℕ = j.darts in
    let m : ℕ = j.nodes in
    let by_node : sum_below m (λ v. 1 * sum_below n (λ d. cond (eqb (j.to d) v) (ups j g d) 0)) ≡ sum_below n (λ d. 1 * ups j g d) =
    exchanged n m j.to (ups j g) (λ _. 1) ends in
    let plain : sum_below n (λ d. 1 * ups j g d) ≡ sum_below n (ups j g) =
    sum_below-same n (λ d. 1 * ups j g d) (ups j g) (λ d b. omega arith) in
    let some : sum_below m (λ v. cond (g.reached v) 1 0) ≤ sum_below m (λ v. cond (eqb j.root v) 1 0 + 1 * sum_below n (λ d. cond (eqb (j.to d) v) (ups j g d) 0)) =
    sum_below-le m (λ v. cond (g.reached v) 1 0) (λ v. cond (eqb j.root v) 1 0 + 1 * sum_below n (λ d. cond (eqb (j.to d) v) (ups j g d) 0)) (λ v b. one v (cases_eq j.root v) (cases_Bool (g.reached v))) in
    let rooted : sum_below m (λ v. cond (eqb j.root v) 1 0) ≡ 1 = sum_below-one m j.root (λ _. 1) root in
    let parted = sum_below-add m (λ v. cond (eqb j.root v) 1 0) (λ v. 1 * sum_below n (λ d. cond (eqb (j.to d) v) (ups j g d) 0)) in
    omega (arith, by_node, plain, some, rooted, parted)
  where
    one : (v : ℕ) → (j.root ≡ v) ⊎ (j.root ≢ v) → (g.reached v ≡ true) ⊎ (g.reached v ≡ false)
        → cond (g.reached v) 1 0 ≤ cond (eqb j.root v) 1 0 + 1 * sum_below j.darts (λ d. cond (eqb (j.to d) v) (ups j g d) 0)
    one v here (inr none) = omega (arith, cond-false {A = ℕ} (g.reached v) 1 0 none)
    one v (inl e) (inl r) = omega (arith, cond-true {A = ℕ} (g.reached v) 1 0 r, cond-true {A = ℕ} (eqb j.root v) 1 0 (eq-eqb j.root v e))
    one v (inr ne) (inl r) =
        let other : v ≢ j.root = λ e. ne (sym e) in
        let leads = g.grown.leads v r other in
        let a : ℕ = g.parent v in
        let up : Up j g a = record { reached = ap g.reached leads.to ∙ r; node = λ e. other (sym leads.to ∙ e); parent_is = ap g.parent leads.to } in
        let member = sum_below-member j.darts a (λ d. cond (eqb (j.to d) v) (ups j g d) 0) leads.inside in
        omega (
          arith,
          member,
          cond-true {A = ℕ} (g.reached v) 1 0 r,
          cond-true {A = ℕ} (eqb (j.to a) v) (ups j g a) 0 (eq-eqb (j.to a) v leads.to),
          cond-true {A = ℕ} (is_up j g a) 1 0 (up_to j g a up),
        )

-- a dart and its reverse are not both such
pub one_way : (j : Connections) (g : Growth j) (reverse_dart : ℕ → ℕ) → IsPaired j reverse_dart → (d : ℕ) → d < j.darts → Up j g d → Up j g (reverse_dart d) → ⊥
one_way j g reverse_dart paired d l up back =
    let one = up_leads j g d up in
    let two = up_leads j g (reverse_dart d) back in
    let from : j.from d ≡ j.to (reverse_dart d) = paired.from d l in
    let from_back : j.from (reverse_dart d) ≡ j.to d = paired.from (reverse_dart d) (paired.inside d l) ∙ ap j.to (paired.back d l) in
    omega (arith, one.lower, two.lower, ap g.rank from, ap g.rank from_back)

-- ---- by growth

module _ (j : Connections) (g : Growth j) where
  by_rank : (P : ℕ → Type 0) → P j.root → ((v : ℕ) → g.reached v ≡ true → v ≢ j.root → P (j.from (g.parent v)) → P v)
      → (k v : ℕ) → g.rank v < k → g.reached v ≡ true → P v
  by_rank P base step zero v less r = absurd (omega (arith, less))
  by_rank P base step (suc k) v less r =
      elim (cases_eq v j.root) [
        | inl e ↦ subst P (sym e) base
        | inr ne ↦ step v r ne (by_rank P base step k (j.from (g.parent v)) (omega (arith, less, (g.grown.leads v r ne).lower)) (g.grown.behind v r ne))
      ]

  -- what holds of the root, and goes on along the tree, holds of each node that is reached
  pub by_growth : (P : ℕ → Type 0) → P j.root → ((v : ℕ) → g.reached v ≡ true → v ≢ j.root → P (j.from (g.parent v)) → P v)
      → (v : ℕ) → g.reached v ≡ true → P v
  by_growth P base step v r = by_rank P base step (g.rank v + 1) v (omega arith) r

  -- ---- sums along the tree

  abbrev along : (ℕ → ℕ) → ℕ → ℕ → ℕ
  along c zero v = 0
  along c (suc k) v = cond (eqb v j.root) 0 (along c k (j.from (g.parent v)) + c (g.parent v))

  along_enough : (c : ℕ → ℕ) (k m v : ℕ) → g.rank v < k → g.rank v < m → g.reached v ≡ true → along c k v ≡ along c m v
  along_enough c zero m v one two r = absurd (omega (arith, one))
  along_enough c (suc k) zero v one two r = absurd (omega (arith, two))
  along_enough c (suc k) (suc m) v one two r =
      elim (cases_eq v j.root) [
        | inl e ↦
            cond-true {A = ℕ} (eqb v j.root) 0 (along c k (j.from (g.parent v)) + c (g.parent v)) (eq-eqb v j.root e)
            ∙ sym (cond-true {A = ℕ} (eqb v j.root) 0 (along c m (j.from (g.parent v)) + c (g.parent v)) (eq-eqb v j.root e))
        | inr ne ↦
            let lower = (g.grown.leads v r ne).lower in
            ap (λ (x : ℕ). cond (eqb v j.root) 0 (x + c (g.parent v)))
            (along_enough c k m (j.from (g.parent v)) (omega (arith, one, lower)) (omega (arith, two, lower)) (g.grown.behind v r ne))
      ]

  -- the sum of c along the way from the root to the node
  abbrev pub way_sum : (ℕ → ℕ) → ℕ → ℕ
  way_sum c v = along c (suc (g.rank v)) v

  pub way_root : (c : ℕ → ℕ) → way_sum c j.root ≡ 0
  way_root c = cond-true {A = ℕ} (eqb j.root j.root) 0 (along c (g.rank j.root) (j.from (g.parent j.root)) + c (g.parent j.root)) (eq-eqb j.root j.root refl)

  pub way_step : (c : ℕ → ℕ) (v : ℕ) → g.reached v ≡ true → v ≢ j.root → way_sum c v ≡ way_sum c (j.from (g.parent v)) + c (g.parent v)
  way_step c v r ne =
      let u : ℕ = j.from (g.parent v) in
      cond-false {A = ℕ} (eqb v j.root) 0 (along c (g.rank v) u + c (g.parent v)) (ne_eqb v j.root ne)
      ∙ ap (λ (x : ℕ). x + c (g.parent v)) (along_enough c (g.rank v) (suc (g.rank u)) u ((g.grown.leads v r ne).lower) (omega arith) (g.grown.behind v r ne))

  -- ---- what is balanced at each node, and off the tree, is balanced on it

  module _ (reverse_dart : ℕ → ℕ) (paired : IsPaired j reverse_dart) (p q : ℕ → ℕ)
      (pairs : (d : ℕ) → d < j.darts → p (reverse_dart d) ≡ q d)
      (round : (v : ℕ) → v ≢ j.root → sum_at j.darts j.to v p ≡ sum_at j.darts j.to v q)
      (only : (d : ℕ) → d < j.darts → j.to d ≢ j.root → (p d ≡ q d) ⊎ (Up j g d ⊎ Up j g (reverse_dart d))) where
    swapped : (d : ℕ) → d < j.darts → p (reverse_dart d) ≡ q (reverse_dart d) → p d ≡ q d
    swapped d l same =
        let m_in = paired.inside d l in
        ap p (sym (paired.back d l)) ∙ pairs (reverse_dart d) m_in ∙ sym same ∙ pairs d l

    peeled : (high k : ℕ) → ((v : ℕ) → g.reached v ≡ true → v ≢ j.root → g.rank v ≤ high)
        → (v : ℕ) → g.reached v ≡ true → v ≢ j.root → high < g.rank v + k → p (g.parent v) ≡ q (g.parent v)
    peeled high zero most v r ne past = absurd (omega (arith, most v r ne, past))
    peeled high (suc k) most v r ne past =
        let leads = g.grown.leads v r ne in
        let a : ℕ = g.parent v in
        let at : eqb (j.to a) v ≡ true = eq-eqb (j.to a) v leads.to in
        let changed = sum_below-changed j.darts a (λ d. cond (eqb (j.to d) v) (p d) 0) (λ d. cond (eqb (j.to d) v) (q d) 0) leads.inside
        (alone (λ w w_r up higher. peeled high k most w w_r up (omega (arith, past, higher)))) in
        omega (arith, changed, round v ne, cond-true {A = ℕ} (eqb (j.to a) v) (p a) 0 at, cond-true {A = ℕ} (eqb (j.to a) v) (q a) 0 at)
      where
        other : ((w : ℕ) → g.reached w ≡ true → w ≢ j.root → g.rank v < g.rank w → p (g.parent w) ≡ q (g.parent w))
            → (d : ℕ) → d < j.darts → j.to d ≡ v → d ≢ g.parent v → p d ≡ q d
        other above d l to not_parent =
            elim (only d l (λ e. ne (sym to ∙ e))) [
              | inl same ↦ same
              | inr (inl up) ↦ absurd (not_parent (sym up.parent_is ∙ ap g.parent to))
              | inr (inr up) ↦
                  let lead = up_leads j g (reverse_dart d) up in
                  let from : j.from (reverse_dart d) ≡ v = paired.from (reverse_dart d) (paired.inside d l) ∙ ap j.to (paired.back d l) ∙ to in
                  let higher : g.rank v < g.rank (j.to (reverse_dart d)) = subst (λ (u : ℕ). g.rank u < g.rank (j.to (reverse_dart d))) from lead.lower in
                  swapped d l (subst (λ (e : ℕ). p e ≡ q e) up.parent_is (above (j.to (reverse_dart d)) up.reached up.node higher))
            ]

        alone : ((w : ℕ) → g.reached w ≡ true → w ≢ j.root → g.rank v < g.rank w → p (g.parent w) ≡ q (g.parent w))
            → (d : ℕ) → d < j.darts → d ≢ g.parent v → cond (eqb (j.to d) v) (p d) 0 ≡ cond (eqb (j.to d) v) (q d) 0
        alone above d l not_parent =
            elim (cases_eq (j.to d) v) [
              | inl to ↦ ap (λ (x : ℕ). cond (eqb (j.to d) v) x 0) (other above d l to not_parent)
              | inr away ↦
                  cond-false {A = ℕ} (eqb (j.to d) v) (p d) 0 (ne_eqb (j.to d) v away)
                  ∙ sym (cond-false {A = ℕ} (eqb (j.to d) v) (q d) 0 (ne_eqb (j.to d) v away))
            ]

    pub peels : (d : ℕ) → d < j.darts → Up j g d ⊎ Up j g (reverse_dart d) → p d ≡ q d
    peels d l on =
        let high : ℕ = sum_below j.nodes g.rank in
        let most : (v : ℕ) → g.reached v ≡ true → v ≢ j.root → g.rank v ≤ high = λ v r ne.
        let leads = g.grown.leads v r ne in
        sum_below-member j.nodes v g.rank (subst (λ (u : ℕ). u < j.nodes) leads.to (paired.node (g.parent v) leads.inside)) in
        let at : (e : ℕ) → Up j g e → p e ≡ q e = λ e up.
        subst (λ (x : ℕ). p x ≡ q x) up.parent_is (peeled high (high + 1) most (j.to e) up.reached up.node (omega arith)) in
        elim on [
          | inl up ↦ at d up
          | inr up ↦ swapped d l (at (reverse_dart d) up)
        ]
