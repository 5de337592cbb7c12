-- Sets that spread along open steps until none leads out of them.
use Rattle.std.proofs.Common.{◌≡◌, ◌≢◌, ◌≤◌, ◌<◌, ◌⊎◌, ℕ, zero, suc, ◌+◌, cond, eqb, Bool, true, false, refl, sym, ◌∙◌, ap, subst, inl, inr, arith}
use Rattle.std.proofs.lemmas.Bool.{cases_eq, cases_Bool, eq-eqb, ne_eqb, cond-true, cond-false, both_ways}
use Rattle.common.specs.Sums.{sum_below}
use Rattle.common.proofs.Sums.{sum_below-changed, sum_below-member}

-- a number below m that passes, or none does
pub found_below : (m : ℕ) (t : ℕ → Bool) → ((i : ℕ) × (i < m) × (t i ≡ true)) ⊎ ((i : ℕ) → i < m → t i ≡ false)
found_below zero t = inr (λ i b. absurd (omega arith))
found_below (suc m) t =
    elim (found_below m t) [
      | inl f ↦ let (i, b, h) = f in inl (i, omega arith, h)
      | inr none ↦ elim (cases_Bool (t m)) [
        | inl h ↦ inl (m, omega arith, h)
        | inr h ↦ inr (λ i b. elim (cases_eq i m) [
          | inl e ↦ subst (λ (k : ℕ). t k ≡ false) (sym e) h
          | inr ne ↦ none i (omega arith)
        ])
      ]
    ]

-- steps (i, back) for i below m, each from a node to a node; those that pass are open
pub record Steps : Type 0 where
  pub count : ℕ
  pub passes : ℕ → Bool → Bool
  pub start : ℕ → Bool → ℕ
  pub finish : ℕ → Bool → ℕ

pub record IsClosedUnder (k : Steps) (s : ℕ → Bool) : Type 0 where
  pub stays : (i : ℕ) (back : Bool) → i < k.count → k.passes i back ≡ true → s (k.start i back) ≡ true → s (k.finish i back) ≡ true

-- step (i, back) passes and leads out of s
leads_out : Steps → (ℕ → Bool) → Bool → ℕ → Bool
leads_out k s back i = cond (k.passes i back) (cond (s (k.start i back)) (cond (s (k.finish i back)) false true) false) false

three : (a b c : Bool) → cond a (cond b (cond c false true) false) false ≡ true → (a ≡ true) × (b ≡ true) × (c ≡ false)
three true true false h = (refl, refl, refl)
three true true true h = cc
three true false c h = cc
three false b c h = cc

three_back : (a b c : Bool) → a ≡ true → b ≡ true → cond a (cond b (cond c false true) false) false ≡ false → c ≡ true
three_back true true true p q h = refl
three_back true true false p q h = cc
three_back true false c p q h = cc
three_back false b c p q h = cc

out_parts : (k : Steps) (s : ℕ → Bool) (back : Bool) (i : ℕ) → leads_out k s back i ≡ true → (k.passes i back ≡ true) × (s (k.start i back) ≡ true) × (s (k.finish i back) ≡ false)
unfolding leads_out
out_parts k s back i h = three (k.passes i back) (s (k.start i back)) (s (k.finish i back)) h

stays_in : (k : Steps) (s : ℕ → Bool) (back : Bool) (i : ℕ) → leads_out k s back i ≡ false → k.passes i back ≡ true → s (k.start i back) ≡ true → s (k.finish i back) ≡ true
unfolding leads_out
stays_in k s back i none p q = three_back (k.passes i back) (s (k.start i back)) (s (k.finish i back)) p q none

none_out : (k : Steps) (s : ℕ → Bool) → ((i : ℕ) → i < k.count → leads_out k s false i ≡ false) → ((i : ℕ) → i < k.count → leads_out k s true i ≡ false) → IsClosedUnder k s
none_out k s f t = record {
  stays = λ i back b. elim back as (λ v. k.passes i v ≡ true → s (k.start i v) ≡ true → s (k.finish i v) ≡ true) [
    | false ↦ stays_in k s false i (f i b)
    | true ↦ stays_in k s true i (t i b)
  ];
}

-- s and w
with_node : (ℕ → Bool) → ℕ → ℕ → Bool
with_node s w v = cond (eqb v w) true (s v)

with_here : (s : ℕ → Bool) (w : ℕ) → with_node s w w ≡ true
unfolding with_node
with_here s w = cond-true {A = Bool} (eqb w w) true (s w) (eq-eqb w w refl)

with_other : (s : ℕ → Bool) (w v : ℕ) → v ≢ w → with_node s w v ≡ s v
unfolding with_node
with_other s w v ne = cond-false {A = Bool} (eqb v w) true (s v) (ne_eqb v w ne)

-- how many nodes are not in s
missing : ℕ → (ℕ → Bool) → ℕ
missing n s = sum_below n (λ v. cond (s v) 0 1)

missing_some : (n : ℕ) (s : ℕ → Bool) (w : ℕ) → w < n → s w ≡ false → 0 < missing n s
unfolding missing
missing_some n s w b h =
    let one : cond {A = ℕ} (s w) 0 1 ≡ 1 = cond-false {A = ℕ} (s w) 0 1 h in
    omega (arith, sum_below-member n w (λ v. cond {A = ℕ} (s v) 0 1) b)

missing_less : (n : ℕ) (s : ℕ → Bool) (w : ℕ) → w < n → s w ≡ false → missing n (with_node s w) + 1 ≡ missing n s
unfolding missing
missing_less n s w b h =
    let was : cond {A = ℕ} (s w) 0 1 ≡ 1 = cond-false {A = ℕ} (s w) 0 1 h in
    let is : cond {A = ℕ} (with_node s w w) 0 1 ≡ 0 = cond-true {A = ℕ} (with_node s w w) 0 1 (with_here s w) in
    let sums : sum_below n (λ v. cond {A = ℕ} (with_node s w v) 0 1) + cond {A = ℕ} (s w) 0 1 ≡ sum_below n (λ v. cond {A = ℕ} (s v) 0 1) + cond {A = ℕ} (with_node s w w) 0 1 =
    sum_below-changed n w (λ v. cond {A = ℕ} (with_node s w v) 0 1) (λ v. cond {A = ℕ} (s v) 0 1) b
    (λ v c ne. ap (λ (t : Bool). cond {A = ℕ} t 0 1) (with_other s w v ne)) in
    omega arith

-- a set with u whose members all have what Q says
pub record IsReached (Q : ℕ → Type 0) (u : ℕ) (s : ℕ → Bool) : Type 0 where
  pub inside : s u ≡ true
  pub each : (v : ℕ) → s v ≡ true → Q v

-- Q passes along open steps, which end at nodes below n
pub record Passes (Q : ℕ → Type 0) (n : ℕ) (k : Steps) : Type 0 where
  pub on : (i : ℕ) (back : Bool) → i < k.count → k.passes i back ≡ true → Q (k.start i back) → Q (k.finish i back)
  pub node : (i : ℕ) (back : Bool) → i < k.count → k.finish i back < n

more_reached : (Q : ℕ → Type 0) (u w : ℕ) (s : ℕ → Bool) → Q w → IsReached Q u s → IsReached Q u (with_node s w)
more_reached Q u w s q r = record {
  inside = elim (cases_eq u w) [
    | inl e ↦ subst (λ (t : ℕ). with_node s w t ≡ true) (sym e) (with_here s w)
    | inr ne ↦ with_other s w u ne ∙ r.inside
  ];
  each = λ v h. elim (cases_eq v w) [
    | inl e ↦ subst Q (sym e) q
    | inr ne ↦ r.each v (sym (with_other s w v ne) ∙ h)
  ];
}

-- a step that leads out, or the set is closed
step_out : (k : Steps) (s : ℕ → Bool) → ((i : ℕ) × (back : Bool) × (i < k.count) × (leads_out k s back i ≡ true)) ⊎ IsClosedUnder k s
step_out k s =
    elim (found_below k.count (leads_out k s false)) [
      | inl f ↦ let (i, b, h) = f in inl (i, false, b, h)
      | inr f ↦ elim (found_below k.count (leads_out k s true)) [
        | inl t ↦ let (i, b, h) = t in inl (i, true, b, h)
        | inr t ↦ inr (none_out k s f t)
      ]
    ]

spread : (Q : ℕ → Type 0) (n fuel : ℕ) (k : Steps) (u : ℕ) (s : ℕ → Bool) → Passes Q n k → missing n s ≤ fuel → IsReached Q u s → (t : ℕ → Bool) × IsReached Q u t × IsClosedUnder k t
spread Q n zero k u s p few r =
    elim (step_out k s) [
      | inl f ↦ let (i, back, b, h) = f in let (open_it, from, to) = out_parts k s back i h in
          let some : 0 < missing n s = missing_some n s (k.finish i back) (p.node i back b) to in absurd (omega arith)
      | inr closed ↦ (s, r, closed)
    ]
spread Q n (suc fuel) k u s p few r =
    elim (step_out k s) [
      | inl f ↦
          let (i, back, b, h) = f in
          let (open_it, from, to) = out_parts k s back i h in
          let w = k.finish i back in
          let less : missing n (with_node s w) + 1 ≡ missing n s = missing_less n s w (p.node i back b) to in
          spread Q n fuel k u (with_node s w) p (omega arith) (more_reached Q u w s (p.on i back b open_it (r.each (k.start i back) from)) r)
      | inr closed ↦ (s, r, closed)
    ]

-- u alone
alone : ℕ → ℕ → Bool
alone u v = eqb v u

alone_reached : (Q : ℕ → Type 0) (u : ℕ) → Q u → IsReached Q u (alone u)
unfolding alone
alone_reached Q u q = record {
  inside = eq-eqb u u refl;
  each = λ v h. elim (cases_eq v u) [
    | inl e ↦ subst Q (sym e) q
    | inr ne ↦ absurd (both_ways (eqb v u) (ne_eqb v u ne) h)
  ];
}

-- what Q says of u, it says of each member of a set with u that no open step leaves
pub spread_from : (Q : ℕ → Type 0) (n : ℕ) (k : Steps) (u : ℕ) → Passes Q n k → Q u → (t : ℕ → Bool) × IsReached Q u t × IsClosedUnder k t
spread_from Q n k u p q = spread Q n (missing n (alone u)) k u (alone u) p (omega arith) (alone_reached Q u q)
