-- A set that no residual arc leaves supplies more than the arcs out of it can carry, where something is left over in it;
-- and a set that does shows that there is no flow.
use Rattle.std.proofs.Common.{◌≡◌, ◌≢◌, ◌≤◌, ◌<◌, ℕ, zero, suc, ◌+◌, ◌*◌, cond, Bool, true, false, refl, sym, ◌∙◌, ap, subst, arith}
use Rattle.std.specs.Prelude.{ℤ, pos, negsuc, ◌+ℤ◌, ◌-ℤ◌, ◌≤ℤ◌, ◌<ℤ◌, not, ◌&&◌, if◌then◌else◌}
use Rattle.std.proofs.lemmas.Bool.{both_ways}
use Rattle.std.proofs.lemmas.Int.{ints}
use borrow.Author.Differences.{up}
use Rattle.common.specs.Sums.{sum_below}
use Rattle.common.proofs.Sums.{sum_below-same, sum_below-le, sum_below-add, sum_below-member, exchanged, total_below-same, total_below-parts}
use Rattle.min_cost_flow.specs.declared.network.Cap.{Cap}
use Rattle.min_cost_flow.specs.declared.network.Cap.TheVariants.{AtMost, Any}
use Rattle.min_cost_flow.specs.Networks.{NetworkModel, node_count, arc_count, arc_at, supply_at, HasEnds}
use Rattle.min_cost_flow.specs.Flow.{outflow, inflow, IsWithinCap, IsUnsaturated, HasNoFlow}
use Rattle.min_cost_flow.specs.ResidualArcs.{units_of}
use Rattle.min_cost_flow.specs.Excess.{HasExcess, IsClosedOut}
use Rattle.min_cost_flow.specs.Overfull.{leads_out, supply_of, capacity_out, IsOverfull}
use Rattle.min_cost_flow.proofs.Duality.{at_starts, at_ends}

-- 1 for the members of a set
abbrev weight : (ℕ → Bool) → ℕ → ℕ
weight s v = cond (s v) 1 0

-- what leaves the set by x less what enters it, and something for each member
parted : (b : Bool) (out into : ℕ) (e z : ℤ) → (pos out -ℤ pos into) +ℤ e ≡ z → (b ≡ true → pos 0 ≤ℤ e) →
    (if b then z else pos 0) ≡ pos (cond b 1 0 * out + cond b 1 0 * up e) -ℤ pos (cond b 1 0 * into)
parted true out into (pos k) z h over = omega (arith, ints)
parted true out into (negsuc k) z h over = absurd (below k (over refl))
  where
    below : (k : ℕ) → pos 0 ≤ℤ negsuc k → ⊥
    below k l = omega (arith, ints)
parted false out into e z h over = omega (arith, ints)

-- the supplies of a set, where amounts x leave its nodes an excess of 0 or more
supplies_are : (net : NetworkModel) (x : ℕ → ℕ) (e : ℕ → ℤ) (s : ℕ → Bool) → HasEnds net → HasExcess net x e → ((v : ℕ) → v < node_count net → s v ≡ true → pos 0 ≤ℤ e v) →
    supply_of net s ≡ pos (at_starts net (weight s) x + sum_below (node_count net) (λ v. weight s v * up (e v))) -ℤ pos (at_ends net (weight s) x)
supplies_are net x e s ends lv over =
    let n = node_count net in
    let m = arc_count net in
    let w : ℕ → ℕ = weight s in
    let out : ℕ → ℕ = λ v. w v * outflow net x v in
    let rest : ℕ → ℕ = λ v. w v * up (e v) in
    let into : ℕ → ℕ = λ v. w v * inflow net x v in
    let by_out : sum_below n out ≡ at_starts net w x = exchanged m n (λ i. (arc_at net i).from) x w (λ i b. (ends i b).0) in
    let by_into : sum_below n into ≡ at_ends net w x = exchanged m n (λ i. (arc_at net i).to) x w (λ i b. (ends i b).1) in
    let both : sum_below n (λ v. out v + rest v) ≡ sum_below n out + sum_below n rest = sum_below-add n out rest in
    let total : supply_of net s ≡ pos (sum_below n (λ v. out v + rest v)) -ℤ pos (sum_below n into) =
    total_below-parts n (λ v. if s v then supply_at net v else pos 0) (λ v. out v + rest v) into
    (λ v b. parted (s v) (outflow net x v) (inflow net x v) (e v) (supply_at net v) (lv.at_node v b) (over v b)) in
    total ∙ ap (λ (k : ℕ). pos k -ℤ pos (sum_below n into)) both
    ∙ ap (λ (k : ℕ). pos (k + sum_below n rest) -ℤ pos (sum_below n into)) by_out
    ∙ ap (λ (k : ℕ). pos (at_starts net w x + sum_below n rest) -ℤ pos k) by_into

-- an arc out of the set is full, and one into it is empty
fills : (f t : Bool) (c : Cap) (x : ℕ) → (f ≡ true → t ≡ false → units_of c ≤ x) → (t ≡ true → f ≡ false → x ≤ 0) →
    cond t 1 0 * x + (if f && not t then units_of c else 0) ≤ cond f 1 0 * x
fills true true c x out into = omega arith
fills true false c x out into = omega (arith, out refl refl)
fills false true c x out into = omega (arith, into refl refl)
fills false false c x out into = omega arith

-- an arc out of the set carries no more than it can
holds : (f t : Bool) (c : Cap) (x : ℕ) → (f ≡ true → t ≡ false → x ≤ units_of c) →
    cond f 1 0 * x ≤ cond t 1 0 * x + (if f && not t then units_of c else 0)
holds true true c x out = omega arith
holds true false c x out = omega (arith, out refl refl)
holds false true c x out = omega arith
holds false false c x out = omega arith

full : (c : Cap) (x : ℕ) → (IsUnsaturated c x → ⊥) → units_of c ≤ x
full (AtMost k) x none = omega arith
full Any x none = absurd (none tt)

fits : (c : Cap) (x : ℕ) → c ≢ Any → IsWithinCap c x → x ≤ units_of c
fits (AtMost k) x limited h = h
fits Any x limited h = absurd (limited refl)

idle : (x : ℕ) → (0 < x → ⊥) → x ≤ 0
idle x h = omega arith

inside : (f t : Bool) → (f && not t) ≡ true → (f ≡ true) × (t ≡ false)
inside true true h = cc
inside true false h = (refl, refl)
inside false t h = cc

left_over : (b : Bool) (e : ℤ) → b ≡ true → pos 0 <ℤ e → 0 < cond b 1 0 * up e
left_over true e h over = omega (arith, ints)
left_over false e h over = cc

compared : (z : ℤ) (starts rest into out : ℕ) → z ≡ pos (starts + rest) -ℤ pos into → into + out ≤ starts → 0 < rest → pos out <ℤ z
compared z starts rest into out h le some = omega (arith, ints)

-- a set that no residual arc leaves, with nothing wanting in it and something left over
pub overfull_where_closed : (net : NetworkModel) (x : ℕ → ℕ) (e : ℕ → ℤ) (s : ℕ → Bool) (u : ℕ) → HasEnds net → HasExcess net x e → IsClosedOut net x s → ((v : ℕ) → v < node_count net → s v ≡ true → pos 0 ≤ℤ e v) → u < node_count net → s u ≡ true → pos 0 <ℤ e u → IsOverfull net s
overfull_where_closed net x e s u ends lv closed over inside_u su eu =
    let n = node_count net in
    let m = arc_count net in
    let w : ℕ → ℕ = weight s in
    let rest : ℕ → ℕ = λ v. w v * up (e v) in
    let some : 0 < sum_below n rest = omega (arith, sum_below-member n u rest inside_u, left_over (s u) (e u) su eu) in
    let into : ℕ → ℕ = λ i. w (arc_at net i).to * x i in
    let out : ℕ → ℕ = λ i. if leads_out net s i then units_of (arc_at net i).cap else 0 in
    let arcs : sum_below m (λ i. into i + out i) ≤ at_starts net w x =
    sum_below-le m (λ i. into i + out i) (λ i. w (arc_at net i).from * x i)
    (λ i b. fills (s (arc_at net i).from) (s (arc_at net i).to) (arc_at net i).cap (x i)
    (λ sf st. full (arc_at net i).cap (x i) (λ r. both_ways (s (arc_at net i).to) st (closed.stays i false b r sf)))
    (λ st sf. idle (x i) (λ r. both_ways (s (arc_at net i).from) sf (closed.stays i true b r st)))) in
    let apart : sum_below m (λ i. into i + out i) ≡ at_ends net w x + capacity_out net s = sum_below-add m into out in
    record {
      limited = λ i b leads any.
          let (sf, st) = inside (s (arc_at net i).from) (s (arc_at net i).to) leads in
          both_ways (s (arc_at net i).to) st (closed.stays i false b (subst (λ (c : Cap). IsUnsaturated c (x i)) (sym any) tt) sf);
      more = compared (supply_of net s) (at_starts net w x) (sum_below n rest) (at_ends net w x) (capacity_out net s)
          (supplies_are net x e s ends lv over) (omega arith) some;
    }

even : (b z : ℤ) → b ≡ z → b +ℤ pos 0 ≡ z
even b z h = omega (arith, ints)

too_much : (z : ℤ) (starts into out : ℕ) → z ≡ pos starts -ℤ pos into → starts ≤ into + out → pos out <ℤ z → ⊥
too_much z starts into out h le more = omega (arith, ints)

weightless : (n : ℕ) (w : ℕ → ℕ) → sum_below n (λ v. w v * up (pos 0)) ≡ 0
weightless zero w = refl
weightless (suc n) w = omega (arith, weightless n w)

-- a set that supplies more than the arcs out of it can carry shows that there is no flow
pub overfull_has_no_flow : (net : NetworkModel) (s : ℕ → Bool) → HasEnds net → IsOverfull net s → HasNoFlow net
overfull_has_no_flow net s ends is y fy =
    let n = node_count net in
    let m = arc_count net in
    let w : ℕ → ℕ = weight s in
    let lv : HasExcess net y (λ _. pos 0) = record { at_node = λ v b. even _ (supply_at net v) (fy.meets v b) } in
    let total : supply_of net s ≡ pos (at_starts net w y + sum_below n (λ v. w v * up (pos 0))) -ℤ pos (at_ends net w y) = supplies_are net y (λ _. pos 0) s ends lv (λ v b h. omega (arith, ints)) in
    let into : ℕ → ℕ = λ i. w (arc_at net i).to * y i in
    let out : ℕ → ℕ = λ i. if leads_out net s i then units_of (arc_at net i).cap else 0 in
    let arcs : at_starts net w y ≤ sum_below m (λ i. into i + out i) =
    sum_below-le m (λ i. w (arc_at net i).from * y i) (λ i. into i + out i)
    (λ i b. holds (s (arc_at net i).from) (s (arc_at net i).to) (arc_at net i).cap (y i)
    (λ sf st. fits (arc_at net i).cap (y i) (is.limited i b (outside (s (arc_at net i).from) (s (arc_at net i).to) sf st)) (fy.within i b))) in
    let apart : sum_below m (λ i. into i + out i) ≡ at_ends net w y + capacity_out net s = sum_below-add m into out in
    too_much (supply_of net s) (at_starts net w y + sum_below n (λ v. w v * up (pos 0))) (at_ends net w y) (capacity_out net s) total (omega (arith, weightless n w)) is.more
  where
    outside : (f t : Bool) → f ≡ true → t ≡ false → (f && not t) ≡ true
    outside true false h k = refl
    outside true true h k = cc
    outside false t h k = cc

-- sets with the same nodes
pub overfull_same : (net : NetworkModel) (s t : ℕ → Bool) → HasEnds net → ((v : ℕ) → v < node_count net → s v ≡ t v) → IsOverfull net s → IsOverfull net t
overfull_same net s t ends same is =
    let out : (i : ℕ) → i < arc_count net → leads_out net s i ≡ leads_out net t i = λ i b.
    ap (λ (f : Bool). f && not (s (arc_at net i).to)) (same (arc_at net i).from (ends i b).0)
    ∙ ap (λ (g : Bool). t (arc_at net i).from && not g) (same (arc_at net i).to (ends i b).1) in
    let capacity : capacity_out net s ≡ capacity_out net t =
    sum_below-same (arc_count net) (λ i. if leads_out net s i then units_of (arc_at net i).cap else 0) (λ i. if leads_out net t i then units_of (arc_at net i).cap else 0)
    (λ i b. ap (λ (f : Bool). if f then units_of (arc_at net i).cap else 0) (out i b)) in
    let supply : supply_of net s ≡ supply_of net t =
    total_below-same (node_count net) (λ v. if s v then supply_at net v else pos 0) (λ v. if t v then supply_at net v else pos 0)
    (λ v b. ap (λ (f : Bool). if f then supply_at net v else pos 0) (same v b)) in
    record {
      limited = λ i b leads. is.limited i b (out i b ∙ leads);
      more = subst (λ (z : ℤ). pos (capacity_out net t) <ℤ z) supply (subst (λ (k : ℕ). pos k <ℤ supply_of net s) capacity is.more);
    }
