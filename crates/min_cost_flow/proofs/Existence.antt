-- A network has a flow where what is left over can reach what is wanting along arcs of no limit.
use Rattle.std.proofs.Common.{◌≡◌, ◌≢◌, ◌<◌, ℕ, zero, suc, ◌+◌, ◌*◌, cond, eqb, Bool, true, false, refl, sym, ◌∙◌, ap, subst, inl, inr, arith}
use Rattle.std.specs.Prelude.{ℤ, pos, negsuc, ◌+ℤ◌, ◌-ℤ◌, ◌≤ℤ◌, ◌<ℤ◌}
use Rattle.std.proofs.lemmas.Bool.{cases_eq, eq-eqb, ne_eqb, cond-true, cond-false}
use Rattle.std.proofs.lemmas.Int.{ints}
use borrow.Author.Differences.{up, down}
use Rattle.common.specs.Sums.{sum_below, total_below}
use Rattle.common.proofs.Sums.{sum_below-same, sum_below-changed, sum_below-some, sum_below-member, exchanged, total_below-parts}
use Rattle.min_cost_flow.specs.declared.network.Cap.{Cap}
use Rattle.min_cost_flow.specs.declared.network.Cap.TheVariants.{AtMost, Any}
use Rattle.min_cost_flow.specs.Networks.{NetworkModel, node_count, arc_count, arc_at, supply_at, HasEnds}
use Rattle.min_cost_flow.specs.Flow.{outflow, inflow, net_outflow, IsWithinCap, Flow}
use Rattle.min_cost_flow.specs.Excess.{IsWithinCaps, HasExcess, Carries}
use Rattle.min_cost_flow.specs.Existence.{IsClosedAny, HasUnlimitedPaths, SuppliesSumToZero}
use Rattle.min_cost_flow.proofs.Changes.{SameBut, moved_carries, carried_leaves, taken_carries}
use Rattle.min_cost_flow.proofs.Rounds.{flow_at}
use Rattle.min_cost_flow.proofs.Spreading.{Steps, IsClosedUnder, Passes, spread_from}

-- ---- one unit to a node that can be reached

-- whatever the amounts, one unit more can be sent from u to v
record Reaches (net : NetworkModel) (u v : ℕ) : Type 0 where
  sent : (ℕ → ℕ) → ℕ → ℕ
  caps : (x : ℕ → ℕ) → IsWithinCaps net x → IsWithinCaps net (sent x)
  carries : (x : ℕ → ℕ) (e : ℕ → ℤ) → Carries net x e v 1 → Carries net (sent x) e u 1

reaches_itself : (net : NetworkModel) (u : ℕ) → Reaches net u u
reaches_itself net u = record {
  sent = λ x i. x i;
  caps = λ x h. h;
  carries = λ x e h. h;
}

-- one unit more on arc i
one_more : ℕ → (ℕ → ℕ) → ℕ → ℕ
one_more i x j = cond (eqb j i) (x j + 1) (x j)

one_more_here : (i : ℕ) (x : ℕ → ℕ) → one_more i x i ≡ x i + 1
unfolding one_more
one_more_here i x = cond-true {A = ℕ} (eqb i i) (x i + 1) (x i) (eq-eqb i i refl)

one_more_same : (i : ℕ) (x : ℕ → ℕ) → SameBut i x (one_more i x)
unfolding one_more
one_more_same i x j ne = cond-false {A = ℕ} (eqb j i) (x j + 1) (x j) (ne_eqb j i ne)

any_within : (c : Cap) (k : ℕ) → c ≡ Any → IsWithinCap c k
any_within c k e = let P : Cap → Type 0 = λ t. IsWithinCap t k in subst P (sym e) tt

one_more_within : (net : NetworkModel) (i : ℕ) (x : ℕ → ℕ) → (arc_at net i).cap ≡ Any → IsWithinCaps net x → IsWithinCaps net (one_more i x)
one_more_within net i x any caps j b =
    elim (cases_eq j i) [
      | inl e ↦ let P : ℕ → Type 0 = λ t. IsWithinCap (arc_at net t).cap (one_more i x j) in subst P (sym e) (any_within (arc_at net i).cap (one_more i x j) any)
      | inr ne ↦ let P : ℕ → Type 0 = λ k. IsWithinCap (arc_at net j).cap k in subst P (sym (one_more_same i x j ne)) (caps j b)
    ]

-- past an arc of no limit
reaches_on : (net : NetworkModel) (u i : ℕ) → i < arc_count net → (arc_at net i).cap ≡ Any → Reaches net u (arc_at net i).from → Reaches net u (arc_at net i).to
reaches_on net u i b any r = record {
  sent = λ x. r.sent (one_more i x);
  caps = λ x h. r.caps (one_more i x) (one_more_within net i x any h);
  carries = λ x e h. r.carries (one_more i x) e (moved_carries net x (one_more i x) e i 1 false b (one_more_here i x) (one_more_same i x) h);
}

-- ---- all nodes that can be reached

is_any : Cap → Bool
is_any (AtMost k) = false
is_any Any = true

any_is : (c : Cap) → is_any c ≡ true → c ≡ Any
unfolding is_any
any_is (AtMost k) h = cc
any_is Any h = refl

is_any_at : (c : Cap) → c ≡ Any → is_any c ≡ true
unfolding is_any
is_any_at c e = ap is_any e

-- the arcs of no limit as steps, each along itself alone
any_steps : NetworkModel → Steps
any_steps net = record {
  count = arc_count net;
  passes = λ i back. cond back false (is_any (arc_at net i).cap);
  start = λ i back. (arc_at net i).from;
  finish = λ i back. (arc_at net i).to;
}

any_pass : (net : NetworkModel) (u : ℕ) → HasEnds net → Passes (λ v. Reaches net u v) (node_count net) (any_steps net)
unfolding any_steps
any_pass net u ends = record {
  on = λ i back b. elim back as (λ v. cond v false (is_any (arc_at net i).cap) ≡ true → Reaches net u (arc_at net i).from → Reaches net u (arc_at net i).to) [
    | false ↦ λ h r. reaches_on net u i b (any_is (arc_at net i).cap h) r
    | true ↦ λ h r. cc
  ];
  node = λ i back b. (ends i b).1;
}

any_closed : (net : NetworkModel) (s : ℕ → Bool) → IsClosedUnder (any_steps net) s → IsClosedAny net s
unfolding any_steps
any_closed net s c = record { stays = λ i b any f. c.stays i false b (is_any_at (arc_at net i).cap any) f }

reaches_wanting : (net : NetworkModel) (e : ℕ → ℤ) (u v : ℕ) → HasEnds net → HasUnlimitedPaths net e → u < node_count net → v < node_count net → pos 0 <ℤ e u → e v <ℤ pos 0 → Reaches net u v
reaches_wanting net e u v ends joined ub vb over under =
    let (t, r, closed) = spread_from (λ w. Reaches net u w) (node_count net) (any_steps net) u (any_pass net u ends) (reaches_itself net u) in
    r.each v (joined.meets t (any_closed net t closed) u v ub vb r.inside over under)

-- ---- unit after unit

-- e with one unit more at v
brought : (ℕ → ℤ) → ℕ → ℕ → ℤ
brought e v w = cond (eqb w v) (e w +ℤ pos 1) (e w)

brought_here : (e : ℕ → ℤ) (v : ℕ) → brought e v v ≡ e v +ℤ pos 1
unfolding brought
brought_here e v = cond-true {A = ℤ} (eqb v v) (e v +ℤ pos 1) (e v) (eq-eqb v v refl)

brought_other : (e : ℕ → ℤ) (v w : ℕ) → w ≢ v → brought e v w ≡ e w
unfolding brought
brought_other e v w ne = cond-false {A = ℤ} (eqb w v) (e w +ℤ pos 1) (e w) (ne_eqb w v ne)

-- d with one unit less at u
given : (ℕ → ℤ) → ℕ → ℕ → ℤ
given d u w = cond (eqb w u) (d w -ℤ pos 1) (d w)

given_at : (d : ℕ → ℤ) (u : ℕ) → given d u u ≡ d u -ℤ pos 1
unfolding given
given_at d u = cond-true {A = ℤ} (eqb u u) (d u -ℤ pos 1) (d u) (eq-eqb u u refl)

given_other : (d : ℕ → ℤ) (u w : ℕ) → w ≢ u → given d u w ≡ d w
unfolding given
given_other d u w ne = cond-false {A = ℤ} (eqb w u) (d w -ℤ pos 1) (d w) (ne_eqb w u ne)

up_less : (z y : ℤ) → pos 0 <ℤ z → y ≡ z -ℤ pos 1 → (up y + 1 ≡ up z) × (down y ≡ down z)
up_less (pos zero) y h e = absurd (omega (arith, ints))
up_less (pos (suc n)) y h e = let k : y ≡ pos n = omega (arith, ints) in (omega (arith, ap up k), omega (arith, ap down k))
up_less (negsuc n) y h e = absurd (omega (arith, ints))

down_less : (z y : ℤ) → z <ℤ pos 0 → y ≡ z +ℤ pos 1 → (down y + 1 ≡ down z) × (up y ≡ up z)
down_less (pos n) y h e = absurd (omega (arith, ints))
down_less (negsuc zero) y h e = let k : y ≡ pos 0 = omega (arith, ints) in (omega (arith, ap down k), omega (arith, ap up k))
down_less (negsuc (suc n)) y h e = let k : y ≡ negsuc n = omega (arith, ints) in (omega (arith, ap down k), omega (arith, ap up k))

over_up : (z : ℤ) → 0 < up z → pos 0 <ℤ z
over_up (pos n) h = omega (arith, ints)
over_up (negsuc n) h = absurd (omega arith)

under_down : (z : ℤ) → 0 < down z → z <ℤ pos 0
under_down (pos n) h = absurd (omega arith)
under_down (negsuc n) h = omega (arith, ints)

apart : (z : ℤ) → pos 0 <ℤ z → z <ℤ pos 0 → ⊥
apart z a b = omega (arith, ints)

-- one unit from u, where something is left over, to v, where something is wanting
record IsUnit (net : NetworkModel) (e d f : ℕ → ℤ) (u v : ℕ) : Type 0 where
  root : u < node_count net
  sink : v < node_count net
  over : pos 0 <ℤ e u
  under : e v <ℤ pos 0
  here : d v ≡ e v +ℤ pos 1
  others : (w : ℕ) → w ≢ v → d w ≡ e w
  taken : f u ≡ d u -ℤ pos 1
  rest : (w : ℕ) → w ≢ u → f w ≡ d w

unit_apart : (net : NetworkModel) (e d f : ℕ → ℤ) (u v : ℕ) → IsUnit net e d f u v → u ≢ v
unit_apart net e d f u v k q = apart (e u) k.over (subst (λ (t : ℕ). e t <ℤ pos 0) (sym q) k.under)

sum_ups : (net : NetworkModel) (e d f : ℕ → ℤ) (u v : ℕ) → IsUnit net e d f u v → sum_below (node_count net) (λ w. up (f w)) + 1 ≡ sum_below (node_count net) (λ w. up (e w))
sum_ups net e d f u v k =
    let n = node_count net in
    let ne : u ≢ v = unit_apart net e d f u v k in
    let same : d u ≡ e u = k.others u ne in
    let fell : f u ≡ e u -ℤ pos 1 = rw (← same) k.taken in
    let (less, _) = up_less (e u) (f u) k.over fell in
    let sums : sum_below n (λ w. up (f w)) + up (e u) ≡ sum_below n (λ w. up (e w)) + up (f u) =
    sum_below-changed n u (λ w. up (f w)) (λ w. up (e w)) k.root
    (λ w b nu. elim (cases_eq w v) [
      | inl q ↦
          let (_, keeps) = down_less (e v) (d v) k.under k.here in
          let at : f v ≡ d v = k.rest v (λ r. ne (sym r)) in
          subst (λ (t : ℕ). up (f t) ≡ up (e t)) (sym q) (ap up at ∙ keeps)
      | inr nv ↦ ap up (k.rest w nu ∙ k.others w nv)
    ]) in
    omega arith

sum_downs : (net : NetworkModel) (e d f : ℕ → ℤ) (u v : ℕ) → IsUnit net e d f u v → sum_below (node_count net) (λ w. down (f w)) + 1 ≡ sum_below (node_count net) (λ w. down (e w))
sum_downs net e d f u v k =
    let n = node_count net in
    let ne : u ≢ v = unit_apart net e d f u v k in
    let same : d u ≡ e u = k.others u ne in
    let fell : f u ≡ e u -ℤ pos 1 = rw (← same) k.taken in
    let at : f v ≡ d v = k.rest v (λ r. ne (sym r)) in
    let (less, _) = down_less (e v) (d v) k.under k.here in
    let sums : sum_below n (λ w. down (f w)) + down (e v) ≡ sum_below n (λ w. down (e w)) + down (f v) =
    sum_below-changed n v (λ w. down (f w)) (λ w. down (e w)) k.sink
    (λ w b nv. elim (cases_eq w u) [
      | inl q ↦
          let (_, keeps) = up_less (e u) (f u) k.over fell in
          subst (λ (t : ℕ). down (f t) ≡ down (e t)) (sym q) keeps
      | inr nu ↦ ap down (k.rest w nu ∙ k.others w nv)
    ]) in
    omega (arith, ap down at)

not_brought : (z y : ℤ) → z <ℤ pos 0 → y ≡ z +ℤ pos 1 → pos 0 <ℤ y → ⊥
not_brought z y a e h = omega (arith, ints)

unit_over : (net : NetworkModel) (e d f : ℕ → ℤ) (u v w : ℕ) → IsUnit net e d f u v → pos 0 <ℤ f w → pos 0 <ℤ e w
unit_over net e d f u v w k h =
    elim (cases_eq w u) [
      | inl q ↦ subst (λ (t : ℕ). pos 0 <ℤ e t) (sym q) k.over
      | inr nu ↦
          let is_d : pos 0 <ℤ d w = subst (λ (z : ℤ). pos 0 <ℤ z) (k.rest w nu) h in
          elim (cases_eq w v) [
            | inl q ↦ absurd (not_brought (e v) (d v) k.under k.here (subst (λ (t : ℕ). pos 0 <ℤ d t) q is_d))
            | inr nv ↦ subst (λ (z : ℤ). pos 0 <ℤ z) (k.others w nv) is_d
          ]
    ]

not_given : (z y : ℤ) → pos 0 <ℤ z → y ≡ z -ℤ pos 1 → y <ℤ pos 0 → ⊥
not_given z y a e h = omega (arith, ints)

unit_under : (net : NetworkModel) (e d f : ℕ → ℤ) (u v w : ℕ) → IsUnit net e d f u v → f w <ℤ pos 0 → e w <ℤ pos 0
unit_under net e d f u v w k h =
    elim (cases_eq w v) [
      | inl q ↦ subst (λ (t : ℕ). e t <ℤ pos 0) (sym q) k.under
      | inr nv ↦
          elim (cases_eq w u) [
            | inl q ↦
                let ne : u ≢ v = unit_apart net e d f u v k in
                let same : d u ≡ e u = k.others u ne in
                let fell : f u ≡ e u -ℤ pos 1 = rw (← same) k.taken in
                absurd (not_given (e u) (f u) k.over fell (subst (λ (t : ℕ). f t <ℤ pos 0) q h))
            | inr nu ↦ subst (λ (z : ℤ). z <ℤ pos 0) (k.rest w nu ∙ k.others w nv) h
          ]
    ]

flat_up : (z : ℤ) → up z ≡ 0 → z ≤ℤ pos 0
flat_up (pos n) h = omega (arith, ints)
flat_up (negsuc n) h = omega (arith, ints)

nothing_over : (n : ℕ) (e : ℕ → ℤ) → sum_below n (λ w. up (e w)) ≡ 0 → (v : ℕ) → v < n → e v ≤ℤ pos 0
nothing_over n e h v b = flat_up (e v) (omega (arith, sum_below-member n v (λ w. up (e w)) b))

flat_down : (z : ℤ) → down z ≡ 0 → pos 0 ≤ℤ z
flat_down (pos n) h = omega (arith, ints)
flat_down (negsuc n) h = absurd (omega arith)

nothing_under : (n : ℕ) (e : ℕ → ℤ) → sum_below n (λ w. down (e w)) ≡ 0 → (v : ℕ) → v < n → pos 0 ≤ℤ e v
nothing_under n e h v b = flat_down (e v) (omega (arith, sum_below-member n v (λ w. down (e w)) b))

flow_of_units : (net : NetworkModel) (k : ℕ) (x : ℕ → ℕ) (e : ℕ → ℤ) → HasEnds net → IsWithinCaps net x → HasExcess net x e → HasUnlimitedPaths net e → sum_below (node_count net) (λ w. up (e w)) ≡ k → sum_below (node_count net) (λ w. down (e w)) ≡ k → (y : ℕ → ℕ) × Flow net y
flow_of_units net zero x e ends caps lv joined ups downs =
    (x, flow_at net x e caps lv (nothing_over (node_count net) e ups) (nothing_under (node_count net) e downs))
flow_of_units net (suc k) x e ends caps lv joined ups downs =
    let n = node_count net in
    let (u, ub, some_up) = sum_below-some n (λ w. up (e w)) (omega arith) in
    let (v, vb, some_down) = sum_below-some n (λ w. down (e w)) (omega arith) in
    let over : pos 0 <ℤ e u = over_up (e u) some_up in
    let under : e v <ℤ pos 0 = under_down (e v) some_down in
    let r : Reaches net u v = reaches_wanting net e u v ends joined ub vb over under in
    let d = brought e v in
    let f = given d u in
    let unit : IsUnit net e d f u v = record {
      root = ub;
      sink = vb;
      over = over;
      under = under;
      here = brought_here e v;
      others = brought_other e v;
      taken = given_at d u;
      rest = given_other d u;
    } in
    let sent : Carries net (r.sent x) d u 1 = r.carries x d (taken_carries net x e d v 1 lv (brought_here e v) (brought_other e v)) in
    let now : HasExcess net (r.sent x) f = carried_leaves net (r.sent x) d f u 1 sent (given_at d u) (given_other d u) in
    let still : HasUnlimitedPaths net f = record {
      meets = λ s closed a b ab bb sa oa wb. joined.meets s closed a b ab bb sa (unit_over net e d f u v a unit oa) (unit_under net e d f u v b unit wb);
    } in
    flow_of_units net k (r.sent x) f ends (r.caps x caps) now still
    (omega (arith, sum_ups net e d f u v unit)) (omega (arith, sum_downs net e d f u v unit))

-- ---- as much is left over as is wanting

node_parts : (l n : ℕ) (e s : ℤ) → (pos l -ℤ pos n) +ℤ e ≡ s → (l + up e) + down s ≡ (n + down e) + up s
node_parts l n e s h = omega (arith, ints)

four : (n : ℕ) (a b c : ℕ → ℕ) → sum_below n (λ v. a v + b v + c v) ≡ sum_below n a + sum_below n b + sum_below n c
four zero a b c = refl
four (suc n) a b c = omega (arith, four n a b c)

parts_of : (z : ℤ) → z ≡ pos (up z) -ℤ pos (down z)
parts_of z = omega (arith, ints)

none_total : (a b : ℕ) → pos a -ℤ pos b ≡ pos 0 → a ≡ b
none_total a b h = omega (arith, ints)

-- what leaves all nodes enters all nodes
all_leave : (net : NetworkModel) (x : ℕ → ℕ) → HasEnds net → sum_below (node_count net) (λ v. outflow net x v) ≡ sum_below (node_count net) (λ v. inflow net x v)
all_leave net x ends =
    let n = node_count net in
    let m = arc_count net in
    let out : sum_below n (λ v. 1 * outflow net x v) ≡ sum_below m (λ i. 1 * x i) = exchanged m n (λ i. (arc_at net i).from) x (λ _. 1) (λ i b. (ends i b).0) in
    let into : sum_below n (λ v. 1 * inflow net x v) ≡ sum_below m (λ i. 1 * x i) = exchanged m n (λ i. (arc_at net i).to) x (λ _. 1) (λ i b. (ends i b).1) in
    let l : sum_below n (λ v. 1 * outflow net x v) ≡ sum_below n (λ v. outflow net x v) = sum_below-same n (λ v. 1 * outflow net x v) (λ v. outflow net x v) (λ v b. omega arith) in
    let r : sum_below n (λ v. 1 * inflow net x v) ≡ sum_below n (λ v. inflow net x v) = sum_below-same n (λ v. 1 * inflow net x v) (λ v. inflow net x v) (λ v b. omega arith) in
    omega arith

as_much : (net : NetworkModel) (x : ℕ → ℕ) (e : ℕ → ℤ) → HasEnds net → SuppliesSumToZero net → HasExcess net x e → sum_below (node_count net) (λ v. up (e v)) ≡ sum_below (node_count net) (λ v. down (e v))
as_much net x e ends flat lv =
    let n = node_count net in
    let s : ℕ → ℤ = λ v. supply_at net v in
    let ls : ℕ → ℕ = λ v. outflow net x v in
    let ns : ℕ → ℕ = λ v. inflow net x v in
    let total : total_below n s ≡ pos (sum_below n (λ v. up (s v))) -ℤ pos (sum_below n (λ v. down (s v))) =
    total_below-parts n s (λ v. up (s v)) (λ v. down (s v)) (λ v b. parts_of (s v)) in
    let even : sum_below n (λ v. up (s v)) ≡ sum_below n (λ v. down (s v)) = none_total (sum_below n (λ v. up (s v))) (sum_below n (λ v. down (s v))) (sym total ∙ flat) in
    let nodes : sum_below n (λ v. ls v + up (e v) + down (s v)) ≡ sum_below n (λ v. ns v + down (e v) + up (s v)) =
    sum_below-same n (λ v. ls v + up (e v) + down (s v)) (λ v. ns v + down (e v) + up (s v)) (λ v b. node_parts (ls v) (ns v) (e v) (s v) (lv.at_node v b)) in
    let remaining : sum_below n (λ v. ls v + up (e v) + down (s v)) ≡ sum_below n ls + sum_below n (λ v. up (e v)) + sum_below n (λ v. down (s v)) = four n ls (λ v. up (e v)) (λ v. down (s v)) in
    let right : sum_below n (λ v. ns v + down (e v) + up (s v)) ≡ sum_below n ns + sum_below n (λ v. down (e v)) + sum_below n (λ v. up (s v)) = four n ns (λ v. down (e v)) (λ v. up (s v)) in
    let cross : sum_below n ls ≡ sum_below n ns = all_leave net x ends in
    omega arith

ups_none : (n : ℕ) (e : ℕ → ℤ) → ((v : ℕ) → v < n → e v ≤ℤ pos 0) → sum_below n (λ v. up (e v)) ≡ 0
ups_none zero e none = refl
ups_none (suc n) e none = omega (arith, ups_none n e (λ v b. none v (omega arith)), no_up (e n) (none n (omega arith)))
  where
    no_up : (z : ℤ) → z ≤ℤ pos 0 → up z ≡ 0
    no_up (pos n) h = omega (arith, ints)
    no_up (negsuc n) h = refl

not_under : (z : ℤ) → pos 0 ≤ℤ z → z <ℤ pos 0 → ⊥
not_under z a b = omega (arith, ints)

-- so where nothing is left over, nothing is wanting
pub nothing_wanting : (net : NetworkModel) (x : ℕ → ℕ) (e : ℕ → ℤ) (u : ℕ) → HasEnds net → SuppliesSumToZero net → HasExcess net x e → ((v : ℕ) → v < node_count net → e v ≤ℤ pos 0) → u < node_count net → e u <ℤ pos 0 → ⊥
nothing_wanting net x e u ends flat lv none inside under =
    let n = node_count net in
    let downs : sum_below n (λ v. down (e v)) ≡ 0 = omega (arith, as_much net x e ends flat lv, ups_none n e none) in
    not_under (e u) (nothing_under n e downs u inside) under

-- amounts x within the capacities leave the excess e; supplies sum to 0, and no set that no arc of no
-- limit leaves has something left over and not all that is wanting: then there is a flow
pub flow_where_joined : (net : NetworkModel) (x : ℕ → ℕ) (e : ℕ → ℤ) → HasEnds net → SuppliesSumToZero net → IsWithinCaps net x → HasExcess net x e → HasUnlimitedPaths net e → (y : ℕ → ℕ) × Flow net y
flow_where_joined net x e ends flat caps lv joined =
    flow_of_units net (sum_below (node_count net) (λ w. down (e w))) x e ends caps lv joined (as_much net x e ends flat lv) refl

excess_sum : (b s : ℤ) → b +ℤ (s -ℤ b) ≡ s
excess_sum b s = omega (arith, ints)

-- any amounts leave the supplies less their balances
pub excess_leaves : (net : NetworkModel) (x : ℕ → ℕ) → HasExcess net x (λ v. supply_at net v -ℤ net_outflow net x v)
excess_leaves net x = record { at_node = λ v b. excess_sum (net_outflow net x v) (supply_at net v) }
