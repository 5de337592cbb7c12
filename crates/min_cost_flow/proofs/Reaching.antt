-- What the steps of a search keep: a label, a place, a move of the radius.
use Rattle.std.proofs.Common.{length, zero, suc, cond, eqb, ◌≡◌, ◌≢◌, ◌≤◌, ◌<◌, ◌⊎◌, ℕ, ◌+◌, ◌*◌, refl, sym, ◌∙◌, ap, subst, inl, inr, arith, List}
use Rattle.std.specs.Prelude.{ℤ, pos, negsuc, ◌+ℤ◌, ◌-ℤ◌, ◌≤ℤ◌, ◌<ℤ◌}
use Rattle.std.proofs.lemmas.Bool.{cases_eq, cases_lt}
use Rattle.std.proofs.lemmas.Int.{ints}
use Rattle.min_cost_flow.specs.declared.network.TheConstants.{MAX_NODES}
use Rattle.min_cost_flow.specs.declared.residual_network.TheConstants.{SATURATED}
use Rattle.min_cost_flow.specs.declared.residual_network.ResidualArc.{ResidualArc}
use Rattle.min_cost_flow.proofs.Distinct.{AreDistinct, counted_once, room_for}
use Rattle.min_cost_flow.specs.ResidualArcs.{start_at, end_at, cost_at, started, out_degree, StartsAt}
use Rattle.min_cost_flow.specs.Search.{far, IsGraph, AreFeasiblePotentials, IsNear, HasPredecessor, IsReached, IsNearest, IsFeasibleAt, AreFeasible, IsRemaining, AreLowered, IsCandidate, IsPut, IsSwapped, IsWithinFar, looked}
use Rattle.common.specs.Sums.{sum_below}
use Rattle.common.proofs.Sums.{sum_below-same, sum_below-more, sum_below-add, sum_below-none}

-- ---- integers

pub below_or_not : (a b : ℤ) → (a <ℤ b) ⊎ (b ≤ℤ a)
below_or_not (pos m) (pos n) = elim (cases_lt m n) [ inl h ↦ inl (omega (arith, ints)) | inr h ↦ inr (omega (arith, ints)) ]
below_or_not (pos m) (negsuc n) = inr (omega (arith, ints))
below_or_not (negsuc m) (pos n) = inl (omega (arith, ints))
below_or_not (negsuc m) (negsuc n) = elim (cases_lt n m) [ inl h ↦ inl (omega (arith, ints)) | inr h ↦ inr (omega (arith, ints)) ]

pub not_less : (a b : ℤ) → a <ℤ b → b ≤ℤ a → ⊥
not_less a b h k = omega (arith, ints)

-- ---- a node that is offered a lesser label is not among those that are ordered

-- a label x below q v that is no nearer than the radius
not_ordered : (x qv pv radius : ℤ) → radius ≤ℤ (x -ℤ pv) → x <ℤ qv → (qv -ℤ pv) ≤ℤ radius → ⊥
not_ordered x qv pv radius a b c = omega (arith, ints)

near_more : (z : ℤ) (k : ℕ) (a : ℤ) → IsNear z k a → IsNear z (k + 1) a
near_more z k a (b, c) = (omega (arith, ints), omega (arith, ints))

pub behind : (n : ℕ) (arcs : List ResidualArc) (p e : ℕ → ℤ) (s : ℕ) (q : ℕ → ℤ) (predecessor order place : ℕ → ℕ) (scanned ordered reached : ℕ) (radius : ℤ) (v : ℕ) (x : ℤ) → IsReached n arcs p e s q predecessor order place scanned ordered reached radius → v < n → radius ≤ℤ (x -ℤ p v) → x <ℤ q v → q v <ℤ far → ordered ≤ place v
behind n arcs p e s q predecessor order place scanned ordered reached radius v x r b beyond less l =
    elim (cases_lt (place v) ordered) [
      | inl h ↦ absurd (not_ordered x (q v) (p v) radius beyond less (r.under v b l h))
      | inr h ↦ h
    ]

-- ---- labels that fall after those that are ordered

lesser : (a x b : ℤ) → a ≡ x → x <ℤ b → a ≤ℤ b
lesser a x b h l = omega (arith, ints)

pub same_le : (a b : ℤ) → a ≡ b → a ≤ℤ b
same_le a b h = omega (arith, ints)

under_far : (a b : ℤ) → a ≤ℤ b → b <ℤ far → a <ℤ far
under_far a b h k = omega (arith, ints)

under_most : (a b : ℤ) → a ≤ℤ b → b ≤ℤ far → a ≤ℤ far
under_most a b h k = omega (arith, ints)

not_far : (a b : ℤ) → a <ℤ b → b ≤ℤ far → a <ℤ far
not_far a b h k = omega (arith, ints)

put_lower : (q q' : ℕ → ℤ) (v w : ℕ) (x : ℤ) → IsPut q q' v x → x <ℤ q v → q' w ≤ℤ q w
put_lower q q' v w x put less =
    elim (cases_eq w v) [
      | inl h ↦ let P : ℕ → Type 0 = λ t. q' t ≤ℤ q t in subst P (sym h) (lesser (q' v) x (q v) put.here less)
      | inr ne ↦ same_le (q' w) (q w) (put.others w ne)
    ]

-- a residual arc from a scanned node serves a node, whose place comes after
pub offered_entered : (n : ℕ) (arcs : List ResidualArc) (p : ℕ → ℤ) (s : ℕ) (q q' : ℕ → ℤ) (place place' : ℕ → ℕ) (scanned : ℕ) (radius : ℤ) (k v : ℕ) (x : ℤ) → IsCandidate n arcs p s q place scanned radius k v x → q' v ≡ x → AreLowered n scanned q place q' place' → scanned ≤ place' v → HasPredecessor n arcs q' place' scanned v k
offered_entered n arcs p s q q' place place' scanned radius k v x o here kept behind =
    let same : (q' o.start ≡ q o.start) × (place' o.start ≡ place o.start) = kept.same o.start o.node o.labelled o.are_scanned in
    record {
      start = o.start;
      node = o.node;
      labelled = rw same.0 o.labelled;
      are_scanned = omega (arith, same.1, o.are_scanned);
      before = omega (arith, same.1, o.are_scanned);
      leaves = o.leaves;
      has_capacity = o.has_capacity;
      arrives = o.arrives;
      label = rw same.0 (here ∙ o.label);
    }

-- a node that was entered before still is
pub kept_entered : (n : ℕ) (arcs : List ResidualArc) (q q' : ℕ → ℤ) (place place' : ℕ → ℕ) (scanned v k : ℕ) → HasPredecessor n arcs q place scanned v k → q' v ≡ q v → AreLowered n scanned q place q' place' → (scanned ≤ place' v) ⊎ (place' v ≡ place v) → HasPredecessor n arcs q' place' scanned v k
kept_entered n arcs q q' place place' scanned v k o here kept behind =
    let same : (q' o.start ≡ q o.start) × (place' o.start ≡ place o.start) = kept.same o.start o.node o.labelled o.are_scanned in
    let scan : place o.start < scanned = o.are_scanned in
    let before : place o.start < place v = o.before in
    let eq : place' o.start ≡ place o.start = same.1 in
    record {
      start = o.start;
      node = o.node;
      labelled = rw same.0 o.labelled;
      are_scanned = omega arith;
      before = elim behind [ inl h ↦ omega arith | inr h ↦ omega arith ];
      leaves = o.leaves;
      has_capacity = o.has_capacity;
      arrives = o.arrives;
      label = rw (here, same.0) o.label;
    }

-- a scan's own node alone changes no label
relabelled_kept : (n : ℕ) (arcs : List ResidualArc) (p e : ℕ → ℤ) (s : ℕ) (q q' : ℕ → ℤ) (predecessor order place : ℕ → ℕ) (scanned ordered reached : ℕ) (radius : ℤ) (v : ℕ) (x : ℤ) → IsReached n arcs p e s q predecessor order place scanned ordered reached radius → ordered ≤ place v → x <ℤ q v → IsPut q q' v x → AreLowered n scanned q place q' place
relabelled_kept n arcs p e s q q' predecessor order place scanned ordered reached radius v x r behind less put =
    let few : scanned ≤ ordered = r.counts.0 in
    record {
      lower = λ w b. put_lower q q' v w x put less;
      same = λ w b l h. (put.others w (λ t. let e : place w ≡ place v = ap place t in absurd (omega arith)), refl);
      old = λ w b l h. (let e : q' w ≡ q w = put.others w (λ t. let e : place w ≡ place v = ap place t in absurd (omega arith)) in rw (sym e) l, h);
    }

pub relabelled : (n : ℕ) (arcs : List ResidualArc) (p e : ℕ → ℤ) (s : ℕ) (q q' : ℕ → ℤ) (predecessor predecessor' order place : ℕ → ℕ) (scanned ordered reached : ℕ) (radius : ℤ) (k v : ℕ) (x : ℤ) → IsReached n arcs p e s q predecessor order place scanned ordered reached radius → IsCandidate n arcs p s q place scanned radius k v x → v < n → q v <ℤ far → pos 0 ≤ℤ e v → IsPut q q' v x → IsPut predecessor predecessor' v k → IsReached n arcs p e s q' predecessor' order place scanned ordered reached radius × AreLowered n scanned q place q' place
relabelled n arcs p e s q q' predecessor predecessor' order place scanned ordered reached radius k v x r o b l in_range put entered =
    let far_place : ordered ≤ place v = behind n arcs p e s q predecessor order place scanned ordered reached radius v x r b o.beyond o.less l in
    let few : scanned ≤ ordered = r.counts.0 in
    let kept : AreLowered n scanned q place q' place = relabelled_kept n arcs p e s q q' predecessor order place scanned ordered reached radius v x r far_place o.less put in
    let was : (w : ℕ) → w < n → q' w <ℤ far → q w <ℤ far = λ w c m. elim (cases_eq w v) [
      | inl h ↦ subst (λ (t : ℕ). q t <ℤ far) (sym h) l
      | inr ne ↦ let e : q' w ≡ q w = put.others w ne in rw (sym e) m
    ] in
    let now : (w : ℕ) → w < n → q w <ℤ far → q' w <ℤ far = λ w c m. under_far (q' w) (q w) (put_lower q q' v w x put o.less) m in (
      record {
        counts = r.counts;
        begun = r.begun;
        node = r.node;
        at = r.at;
        has_label = λ j c. now (order j) (r.node j c) (r.has_label j c);
        listed = λ w c m. r.listed w c (was w c m);
        most = λ w c. under_most (q' w) (q w) (put_lower q q' v w x put o.less) (r.most w c);
        under = λ w c m h. let t : (q' w ≡ q w) = put.others w (λ t. let e : place w ≡ place v = ap place t in absurd (omega arith)) in rw t (r.under w c (was w c m) h);
        here = λ w c m h. elim (cases_eq w v) [
          | inl t ↦ subst (λ (t : ℕ). radius ≤ℤ (q' t -ℤ p t)) (sym t) (rw put.here o.beyond)
          | inr ne ↦ rw (put.others w ne) (r.here w c (was w c m) h)
        ];
        near = λ w c m. elim (cases_eq w v) [
          | inl t ↦ subst (λ (t : ℕ). IsNear (p s) scanned (q' t)) (sym t) (subst (λ (z : ℤ). IsNear (p s) scanned z) (sym put.here) o.near)
          | inr ne ↦ subst (λ (z : ℤ). IsNear (p s) scanned z) (sym (put.others w ne)) (r.near w c (was w c m))
        ];
        root = (r.root.0, now s r.root.0 r.root.1, r.root.2);
        nonnegative = λ w c m. elim (cases_eq w v) [
          | inl t ↦ subst (λ (t : ℕ). pos 0 ≤ℤ e t) (sym t) in_range
          | inr ne ↦ r.nonnegative w c (was w c m)
        ];
        entered = λ w c m ne. elim (cases_eq w v) [
          | inl t ↦ subst (λ (t : ℕ). HasPredecessor n arcs q' place scanned t (predecessor' t)) (sym t) (subst (λ (i : ℕ). HasPredecessor n arcs q' place scanned v i) (sym entered.here) (offered_entered n arcs p s q q' place place scanned radius k v x o put.here kept (omega arith)))
          | inr d ↦ subst (λ (i : ℕ). HasPredecessor n arcs q' place scanned w i) (sym (entered.others w d)) (kept_entered n arcs q q' place place scanned w (predecessor w) (r.entered w c (was w c m) ne) (put.others w d) kept (inr refl))
        ];
      },
      kept,
    )

-- ---- a label for a node that was not reached before

pub enlisted : (n : ℕ) (arcs : List ResidualArc) (p e : ℕ → ℤ) (s : ℕ) (q q' : ℕ → ℤ) (predecessor predecessor' order order' place place' : ℕ → ℕ) (scanned ordered reached : ℕ) (radius : ℤ) (k v : ℕ) (x : ℤ) → IsReached n arcs p e s q predecessor order place scanned ordered reached radius → IsCandidate n arcs p s q place scanned radius k v x → v < n → far ≤ℤ q v → pos 0 ≤ℤ e v → reached < n → IsPut q q' v x → IsPut predecessor predecessor' v k → IsPut order order' reached v → IsPut place place' v reached → IsReached n arcs p e s q' predecessor' order' place' scanned ordered (reached + 1) radius × AreLowered n scanned q place q' place'
enlisted n arcs p e s q q' predecessor predecessor' order order' place place' scanned ordered reached radius k v x r o b l in_range few put entered listed placed =
    let ho : scanned ≤ ordered = r.counts.0 in
    let or : ordered ≤ reached = r.counts.1 in
    let here : place' v ≡ reached = placed.here in
    let fresh : (w : ℕ) → q w <ℤ far → w ≢ v = λ w m t. not_less (q v) far (subst (λ (i : ℕ). q i <ℤ far) t m) l in
    let kept : AreLowered n scanned q place q' place' = record {
      lower = λ w c. put_lower q q' v w x put o.less;
      same = λ w c m h. (put.others w (fresh w m), placed.others w (fresh w m));
      old = λ w c m h. elim (cases_eq w v) [
        | inl t ↦ let g : place' w ≡ reached = ap place' t ∙ here in absurd (omega arith)
        | inr ne ↦ (rw (sym (put.others w ne)) m, rw (sym (placed.others w ne)) h)
      ];
    } in
    let was : (w : ℕ) → w ≢ v → q' w <ℤ far → q w <ℤ far = λ w ne m. rw (sym (put.others w ne)) m in
    let labelled : q' v <ℤ far = subst (λ (z : ℤ). z <ℤ far) (sym put.here) (not_far x (q v) o.less (r.most v b)) in
    let place_other : (j : ℕ) → j < reached → order' j ≡ order j = λ j c. listed.others j (λ t. omega arith) in
    let order_fresh : (j : ℕ) → j < reached → order j ≢ v = λ j c. fresh (order j) (r.has_label j c) in (
      record {
        counts = (ho, omega arith, omega arith);
        begun = r.begun;
        node = λ j c. elim (cases_eq j reached) [
          | inl t ↦ subst (λ (i : ℕ). i < n) (sym (ap order' t ∙ listed.here)) b
          | inr ne ↦ let d : j < reached = omega arith in subst (λ (i : ℕ). i < n) (sym (place_other j d)) (r.node j d)
        ];
        at = λ j c. elim (cases_eq j reached) [
          | inl t ↦ ap place' (ap order' t ∙ listed.here) ∙ here ∙ sym t
          | inr ne ↦ let d : j < reached = omega arith in ap place' (place_other j d) ∙ placed.others (order j) (order_fresh j d) ∙ r.at j d
        ];
        has_label = λ j c. elim (cases_eq j reached) [
          | inl t ↦ subst (λ (i : ℕ). q' i <ℤ far) (sym (ap order' t ∙ listed.here)) labelled
          | inr ne ↦ let d : j < reached = omega arith in subst (λ (i : ℕ). q' i <ℤ far) (sym (place_other j d)) (rw (put.others (order j) (order_fresh j d)) (r.has_label j d))
        ];
        listed = λ w c m. elim (cases_eq w v) [
          | inl t ↦ let g : place' w ≡ reached = ap place' t ∙ here in (omega arith, ap order' g ∙ listed.here ∙ sym t)
          | inr ne ↦ let (d, f) = r.listed w c (was w ne m) in let g : place' w ≡ place w = placed.others w ne in (omega arith, ap order' g ∙ place_other (place w) d ∙ f)
        ];
        most = λ w c. under_most (q' w) (q w) (put_lower q q' v w x put o.less) (r.most w c);
        under = λ w c m h. elim (cases_eq w v) [
          | inl t ↦ let g : place' w ≡ reached = ap place' t ∙ here in absurd (omega arith)
          | inr ne ↦ rw (put.others w ne) (r.under w c (was w ne m) (rw (sym (placed.others w ne)) h))
        ];
        here = λ w c m h. elim (cases_eq w v) [
          | inl t ↦ subst (λ (t : ℕ). radius ≤ℤ (q' t -ℤ p t)) (sym t) (rw put.here o.beyond)
          | inr ne ↦ rw (put.others w ne) (r.here w c (was w ne m) (rw (sym (placed.others w ne)) h))
        ];
        near = λ w c m. elim (cases_eq w v) [
          | inl t ↦ subst (λ (t : ℕ). IsNear (p s) scanned (q' t)) (sym t) (subst (λ (z : ℤ). IsNear (p s) scanned z) (sym put.here) o.near)
          | inr ne ↦ subst (λ (z : ℤ). IsNear (p s) scanned z) (sym (put.others w ne)) (r.near w c (was w ne m))
        ];
        root = (r.root.0, rw (put.others s (fresh s r.root.1)) r.root.1, placed.others s (fresh s r.root.1) ∙ r.root.2);
        nonnegative = λ w c m. elim (cases_eq w v) [
          | inl t ↦ subst (λ (t : ℕ). pos 0 ≤ℤ e t) (sym t) in_range
          | inr ne ↦ r.nonnegative w c (was w ne m)
        ];
        entered = λ w c m ne. elim (cases_eq w v) [
          | inl t ↦ subst (λ (t : ℕ). HasPredecessor n arcs q' place' scanned t (predecessor' t)) (sym t) (subst (λ (i : ℕ). HasPredecessor n arcs q' place' scanned v i) (sym entered.here) (offered_entered n arcs p s q q' place place' scanned radius k v x o put.here kept (omega arith)))
          | inr d ↦ subst (λ (i : ℕ). HasPredecessor n arcs q' place' scanned w i) (sym (entered.others w d)) (kept_entered n arcs q q' place place' scanned w (predecessor w) (r.entered w c (was w d m) ne) (put.others w d) kept (inr (placed.others w d)))
        ];
      },
      kept,
    )

-- ---- two nodes change places

pub same_z : (a : ℤ) → a ≤ℤ a
same_z a = omega (arith, ints)

pub swapped : (n : ℕ) (arcs : List ResidualArc) (p e : ℕ → ℤ) (s : ℕ) (q : ℕ → ℤ) (predecessor order order' place place' : ℕ → ℕ) (scanned ordered reached : ℕ) (radius : ℤ) (v from : ℕ) → IsReached n arcs p e s q predecessor order place scanned ordered reached radius → v < n → q v <ℤ far → place v ≡ from → ordered ≤ from → (q v -ℤ p v) ≤ℤ radius → IsSwapped order place order' place' v from ordered → IsReached n arcs p e s q predecessor order' place' scanned (ordered + 1) reached radius × AreLowered n scanned q place q place'
swapped n arcs p e s q predecessor order order' place place' scanned ordered reached radius v from r b l at behind near sw =
    let ho : scanned ≤ ordered = r.counts.0 in
    let rn : reached ≤ n = r.counts.2 in
    let (in_list, mine) = r.listed v b l in
    let from_in : from < reached = omega arith in
    let to_in : ordered < reached = omega arith in
    let from_is : order from ≡ v = subst (λ (t : ℕ). order t ≡ v) at mine in
    let o : ℕ = order ordered in
    let ob : o < n = r.node ordered to_in in
    let ol : q o <ℤ far = r.has_label ordered to_in in
    let oat : place o ≡ ordered = r.at ordered to_in in
    let apart : from ≢ ordered → o ≢ v = λ ne t. ne (sym at ∙ ap place (sym t) ∙ oat) in
    let joint : o ≢ v → from ≢ ordered = λ ne t. ne (ap order (sym t) ∙ from_is) in
    let rest : (w : ℕ) → w < n → q w <ℤ far → w ≢ v → w ≢ o → (place' w ≡ place w) × (place w ≢ ordered) × (place w ≢ from) = λ w c m nv nw.
    let back : order (place w) ≡ w = (r.listed w c m).1 in
    (sw.stay w nv nw, (λ t. nw (sym back ∙ ap order t)), λ t. nv (sym back ∙ ap order t ∙ from_is)) in
    let other_at : o ≢ v → place' o ≡ from = sw.instead in
    let kept : AreLowered n scanned q place q place' = record {
      lower = λ w c. same_z (q w);
      same = λ w c m h. (refl, sw.stay w (λ t. let e : place w ≡ place v = ap place t in absurd (omega arith)) (λ t. let e : place w ≡ place o = ap place t in absurd (omega arith)));
      old = λ w c m h. (
        m,
        elim (cases_eq w v) [
          | inl t ↦ let e : place' w ≡ ordered = ap place' t ∙ sw.stands in absurd (omega arith)
          | inr nv ↦ elim (cases_eq w o) [
            | inl t ↦ let e : place' w ≡ from = ap place' t ∙ other_at (λ u. nv (t ∙ u)) in absurd (omega arith)
            | inr nw ↦ let e : place' w ≡ place w = sw.stay w nv nw in omega arith
          ]
        ],
      );
    } in
    let begun : 0 < ordered = r.begun in
    let s_at : place s ≡ 0 = r.root.2 in
    let s_v : s ≢ v = λ t. let e : place s ≡ place v = ap place t in omega arith in
    let s_o : s ≢ o = λ t. let e : place s ≡ place o = ap place t in omega arith in (
      record {
        counts = (omega arith, omega arith, rn);
        begun = omega arith;
        node = λ j c. elim (cases_eq j ordered) [
          | inl t ↦ subst (λ (i : ℕ). i < n) (sym (ap order' t ∙ sw.moved)) b
          | inr nt ↦ elim (cases_eq j from) [
            | inl t ↦ subst (λ (i : ℕ). i < n) (sym (ap order' t ∙ sw.other (λ u. nt (t ∙ u)))) ob
            | inr nf ↦ subst (λ (i : ℕ). i < n) (sym (sw.rest j nt nf)) (r.node j c)
          ]
        ];
        at = λ j c. elim (cases_eq j ordered) [
          | inl t ↦ ap place' (ap order' t ∙ sw.moved) ∙ sw.stands ∙ sym t
          | inr nt ↦ elim (cases_eq j from) [
            | inl t ↦ let ne : from ≢ ordered = λ u. nt (t ∙ u) in ap place' (ap order' t ∙ sw.other ne) ∙ other_at (apart ne) ∙ sym t
            | inr nf ↦
                let back : place (order j) ≡ j = r.at j c in
                ap place' (sw.rest j nt nf) ∙ sw.stay (order j) (λ t. nf (sym back ∙ ap place t ∙ at)) (λ t. nt (sym back ∙ ap place t ∙ oat)) ∙ back
          ]
        ];
        has_label = λ j c. elim (cases_eq j ordered) [
          | inl t ↦ subst (λ (i : ℕ). q i <ℤ far) (sym (ap order' t ∙ sw.moved)) l
          | inr nt ↦ elim (cases_eq j from) [
            | inl t ↦ subst (λ (i : ℕ). q i <ℤ far) (sym (ap order' t ∙ sw.other (λ u. nt (t ∙ u)))) ol
            | inr nf ↦ subst (λ (i : ℕ). q i <ℤ far) (sym (sw.rest j nt nf)) (r.has_label j c)
          ]
        ];
        listed = λ w c m. elim (cases_eq w v) [
          | inl t ↦ let e : place' w ≡ ordered = ap place' t ∙ sw.stands in (omega arith, ap order' e ∙ sw.moved ∙ sym t)
          | inr nv ↦ elim (cases_eq w o) [
            | inl t ↦ let ne : o ≢ v = λ u. nv (t ∙ u) in let e : place' w ≡ from = ap place' t ∙ other_at ne in (omega arith, ap order' e ∙ sw.other (joint ne) ∙ sym t)
            | inr nw ↦
                let (stays, nt, nf) = rest w c m nv nw in
                let (d, back) = r.listed w c m in
                (omega arith, ap order' stays ∙ sw.rest (place w) nt nf ∙ back)
          ]
        ];
        most = r.most;
        under = λ w c m h. elim (cases_eq w v) [
          | inl t ↦ subst (λ (i : ℕ). (q i -ℤ p i) ≤ℤ radius) (sym t) near
          | inr nv ↦ elim (cases_eq w o) [
            | inl t ↦ let ne : o ≢ v = λ u. nv (t ∙ u) in let e : place' w ≡ from = ap place' t ∙ other_at ne in let d : from ≢ ordered = joint ne in absurd (omega arith)
            | inr nw ↦ let (stays, nt, nf) = rest w c m nv nw in r.under w c m (omega arith)
          ]
        ];
        here = λ w c m h. elim (cases_eq w v) [
          | inl t ↦ subst (λ (i : ℕ). radius ≤ℤ (q i -ℤ p i)) (sym t) (r.here v b l (omega arith))
          | inr nv ↦ elim (cases_eq w o) [
            | inl t ↦ subst (λ (i : ℕ). radius ≤ℤ (q i -ℤ p i)) (sym t) (r.here o ob ol (omega arith))
            | inr nw ↦ let (stays, nt, nf) = rest w c m nv nw in r.here w c m (omega arith)
          ]
        ];
        near = r.near;
        root = (r.root.0, r.root.1, sw.stay s s_v s_o ∙ s_at);
        nonnegative = r.nonnegative;
        entered = λ w c m ne. kept_entered n arcs q q place place' scanned w (predecessor w) (r.entered w c m ne) refl kept (
            elim (cases_eq w v) [
              | inl t ↦ let e : place' w ≡ ordered = ap place' t ∙ sw.stands in inl (omega arith)
              | inr nv ↦ elim (cases_eq w o) [
                | inl t ↦ let nn : o ≢ v = λ u. nv (t ∙ u) in let e : place' w ≡ from = ap place' t ∙ other_at nn in inl (omega arith)
                | inr nw ↦ inr (sw.stay w nv nw)
              ]
            ]);
      },
      kept,
    )

-- ---- the next node is scanned

entered_more : (n : ℕ) (arcs : List ResidualArc) (q : ℕ → ℤ) (place : ℕ → ℕ) (scanned v k : ℕ) → HasPredecessor n arcs q place scanned v k → HasPredecessor n arcs q place (scanned + 1) v k
entered_more n arcs q place scanned v k o = record {
  start = o.start;
  node = o.node;
  labelled = o.labelled;
  are_scanned = omega (arith, o.are_scanned);
  before = o.before;
  leaves = o.leaves;
  has_capacity = o.has_capacity;
  arrives = o.arrives;
  label = o.label;
}

pub headed : (n : ℕ) (arcs : List ResidualArc) (p e : ℕ → ℤ) (s : ℕ) (q : ℕ → ℤ) (predecessor order place : ℕ → ℕ) (scanned ordered reached : ℕ) (radius : ℤ) → IsReached n arcs p e s q predecessor order place scanned ordered reached radius → scanned < ordered → IsReached n arcs p e s q predecessor order place (scanned + 1) ordered reached radius
headed n arcs p e s q predecessor order place scanned ordered reached radius r more = record {
  counts = (omega arith, r.counts.1, r.counts.2);
  begun = r.begun;
  node = r.node;
  at = r.at;
  has_label = r.has_label;
  listed = r.listed;
  most = r.most;
  under = r.under;
  here = λ w c m h. r.here w c m (omega arith);
  near = λ w c m. near_more (p s) scanned (q w) (r.near w c m);
  root = r.root;
  nonnegative = r.nonnegative;
  entered = λ w c m ne. entered_more n arcs q place scanned w (predecessor w) (r.entered w c m ne);
}

pub headed_nearest : (n : ℕ) (arcs : List ResidualArc) (p e : ℕ → ℤ) (s : ℕ) (q : ℕ → ℤ) (place : ℕ → ℕ) (scanned : ℕ) (radius bound : ℤ) (k : ℕ) → IsNearest n arcs p e s q place scanned radius bound k → IsNearest n arcs p e s q place (scanned + 1) radius bound k
headed_nearest n arcs p e s q place scanned radius bound k r = record {
  above = r.above;
  most = r.most;
  hit = λ l. let h = r.hit l in record {
    start = h.start;
    node = h.node;
    labelled = h.labelled;
    are_scanned = omega (arith, h.are_scanned);
    leaves = h.leaves;
    has_capacity = h.has_capacity;
    deficit = h.deficit;
    distance = h.distance;
    near = near_more (p s) scanned bound h.near;
  };
}

-- ---- the radius moves

pub under_radius : (d a b : ℤ) → d ≤ℤ a → a ≤ℤ b → d ≤ℤ b
under_radius d a b h k = omega (arith, ints)

pub climbed : (n : ℕ) (arcs : List ResidualArc) (p e : ℕ → ℤ) (s : ℕ) (q : ℕ → ℤ) (predecessor order place : ℕ → ℕ) (scanned ordered reached : ℕ) (radius to : ℤ) → IsReached n arcs p e s q predecessor order place scanned ordered reached radius → scanned ≡ ordered → radius ≤ℤ to → ((j : ℕ) → ordered ≤ j → j < reached → to ≤ℤ (q (order j) -ℤ p (order j))) → IsReached n arcs p e s q predecessor order place scanned ordered reached to
climbed n arcs p e s q predecessor order place scanned ordered reached radius to r done rises least = record {
  counts = r.counts;
  begun = r.begun;
  node = r.node;
  at = r.at;
  has_label = r.has_label;
  listed = r.listed;
  most = r.most;
  under = λ w c m h. under_radius (q w -ℤ p w) radius to (r.under w c m h) rises;
  here = λ w c m h. let (b, back) = r.listed w c m in subst (λ (i : ℕ). to ≤ℤ (q i -ℤ p i)) back (least (place w) (omega arith) b);
  near = r.near;
  root = r.root;
  nonnegative = r.nonnegative;
  entered = r.entered;
}

-- ---- what is kept, in a row

pub kept_same : (n h : ℕ) (q : ℕ → ℤ) (place : ℕ → ℕ) → AreLowered n h q place q place
kept_same n h q place = record {
  lower = λ v b. same_z (q v);
  same = λ v b l c. (refl, refl);
  old = λ v b l c. (l, c);
}

pub kept_then : (n h : ℕ) (q q' q'' : ℕ → ℤ) (place place' place'' : ℕ → ℕ) → AreLowered n h q place q' place' → AreLowered n h q' place' q'' place'' → AreLowered n h q place q'' place''
kept_then n h q q' q'' place place' place'' a c = record {
  lower = λ v b. under_radius (q'' v) (q' v) (q v) (c.lower v b) (a.lower v b);
  same = λ v b l d.
      let (e, f) = a.same v b l d in
      let l' : q' v <ℤ far = subst (λ (z : ℤ). z <ℤ far) (sym e) l in
      let d' : place' v < h = subst (λ (i : ℕ). i < h) (sym f) d in
      let (g, k) = c.same v b l' d' in
      (g ∙ e, k ∙ f);
  old = λ v b l d. let (l', d') = c.old v b l d in a.old v b l' d';
}

pub kept_less : (n h k : ℕ) (q q' : ℕ → ℤ) (place place' : ℕ → ℕ) → k ≤ h → AreLowered n h q place q' place' → AreLowered n k q place q' place'
kept_less n h k q q' place place' le a = record {
  lower = a.lower;
  same = λ v b l d. a.same v b l (omega arith);
  old = λ v b l d.
      let (l', d') = a.old v b l (omega arith) in
      let f : place' v ≡ place v = (a.same v b l' d').1 in
      (l', omega arith);
}

-- ---- the nearest node found where units are wanting

pub nearest_kept : (n : ℕ) (arcs : List ResidualArc) (p e : ℕ → ℤ) (s : ℕ) (q q' : ℕ → ℤ) (place place' : ℕ → ℕ) (scanned : ℕ) (radius radius' bound : ℤ) (k : ℕ) → IsNearest n arcs p e s q place scanned radius bound k → radius' ≤ℤ bound → AreLowered n scanned q place q' place' → IsNearest n arcs p e s q' place' scanned radius' bound k
nearest_kept n arcs p e s q q' place place' scanned radius radius' bound k r above kept = record {
  above = above;
  most = r.most;
  hit = λ l.
      let h = r.hit l in
      let (e, f) = kept.same h.start h.node h.labelled h.are_scanned in
      record {
        start = h.start;
        node = h.node;
        labelled = subst (λ (z : ℤ). z <ℤ far) (sym e) h.labelled;
        are_scanned = subst (λ (i : ℕ). i < scanned) (sym f) h.are_scanned;
        leaves = h.leaves;
        has_capacity = h.has_capacity;
        deficit = h.deficit;
        distance = rw e h.distance;
        near = h.near;
      };
}

lowered_far : (x pv : ℤ) → x <ℤ far → pv ≡ pos 0 → (x -ℤ pv) ≤ℤ far
lowered_far x pv h z = omega (arith, ints)

near_lowered : (a : ℤ) (k : ℕ) (x pv : ℤ) → IsNear a k x → pv ≡ pos 0 → IsNear a k (x -ℤ pv)
near_lowered a k x pv (b, c) z = (omega (arith, ints), omega (arith, ints))

pub nearest_offered : (n : ℕ) (arcs : List ResidualArc) (p e : ℕ → ℤ) (s : ℕ) (q : ℕ → ℤ) (place : ℕ → ℕ) (scanned : ℕ) (radius bound bound' : ℤ) (k k' j v : ℕ) (x : ℤ) → IsNearest n arcs p e s q place scanned radius bound k → IsCandidate n arcs p s q place scanned radius j v x → q v ≤ℤ far → e v <ℤ pos 0 → p v ≡ pos 0 → ((bound' ≡ bound) × (k' ≡ k)) ⊎ ((bound' ≡ x -ℤ p v) × (k' ≡ j)) → IsNearest n arcs p e s q place scanned radius bound' k'
nearest_offered n arcs p e s q place scanned radius bound bound' k k' j v x r o most wants none (inl (a, b)) =
    subst (λ (z : ℤ). IsNearest n arcs p e s q place scanned radius z k') (sym a) (subst (λ (i : ℕ). IsNearest n arcs p e s q place scanned radius bound i) (sym b) r)
nearest_offered n arcs p e s q place scanned radius bound bound' k k' j v x r o most wants none (inr (a, b)) =
    let here : x <ℤ far = not_far x (q v) o.less most in
    let one : IsNearest n arcs p e s q place scanned radius (x -ℤ p v) j = record {
      above = o.beyond;
      most = lowered_far x (p v) here none;
      hit = λ l. record {
        start = o.start;
        node = o.node;
        labelled = o.labelled;
        are_scanned = o.are_scanned;
        leaves = o.leaves;
        has_capacity = o.has_capacity;
        deficit = subst (λ (i : ℕ). e i <ℤ pos 0) (sym o.arrives) wants;
        distance = rw (o.arrives, o.label) refl;
        near = near_lowered (p s) scanned x (p v) o.near none;
      };
    } in
    subst (λ (z : ℤ). IsNearest n arcs p e s q place scanned radius z k') (sym a) (subst (λ (i : ℕ). IsNearest n arcs p e s q place scanned radius (x -ℤ p v) i) (sym b) one)

-- ---- what is served stays so

nearer : (a a' c e bound bound' : ℤ) → a' ≡ a → (a' +ℤ c -ℤ e) <ℤ bound' → bound' ≤ℤ bound → (a +ℤ c -ℤ e) <ℤ bound
nearer a a' c e bound bound' h k l = omega (arith, ints)

no_more : (a a' c b b' : ℤ) → a' ≡ a → b' ≤ℤ b → b ≤ℤ (a +ℤ c) → b' ≤ℤ (a' +ℤ c)
no_more a a' c b b' h k l = omega (arith, ints)

pub serves_kept : (arcs : List ResidualArc) (p q q' : ℕ → ℤ) (bound bound' : ℤ) (u k : ℕ) → q' u ≡ q u → q' (end_at arcs k) ≤ℤ q (end_at arcs k) → bound' ≤ℤ bound → IsFeasibleAt arcs p q bound u k → IsFeasibleAt arcs p q' bound' u k
serves_kept arcs p q q' bound bound' u k same lower less sv has_capacity near =
    let was : (q u +ℤ cost_at arcs k -ℤ p (end_at arcs k)) <ℤ bound = nearer (q u) (q' u) (cost_at arcs k) (p (end_at arcs k)) bound bound' same near less in
    no_more (q u) (q' u) (cost_at arcs k) (q (end_at arcs k)) (q' (end_at arcs k)) same lower (sv has_capacity was)

pub served_kept : (n : ℕ) (arcs : List ResidualArc) (p q q' : ℕ → ℤ) (place place' : ℕ → ℕ) (bound bound' : ℤ) (h : ℕ) → IsGraph n arcs → AreFeasible n arcs p q place bound h → AreLowered n h q place q' place' → bound' ≤ℤ bound → AreFeasible n arcs p q' place' bound' h
served_kept n arcs p q q' place place' bound bound' h g sv kept less = record {
  served = λ u k b l c st.
      let (l', c') = kept.old u b l c in
      serves_kept arcs p q q' bound bound' u k (kept.same u b l' c').0 (kept.lower (end_at arcs k) (g.end k st.inside)) less (sv.served u k b l' c' st);
}

-- one node more is served
pub served_more : (n : ℕ) (arcs : List ResidualArc) (p q : ℕ → ℤ) (place : ℕ → ℕ) (bound : ℤ) (h u : ℕ) → AreFeasible n arcs p q place bound h → ((v : ℕ) → v < n → q v <ℤ far → place v ≡ h → v ≡ u) → ((k : ℕ) → StartsAt arcs u k → IsFeasibleAt arcs p q bound u k) → AreFeasible n arcs p q place bound (h + 1)
served_more n arcs p q place bound h u sv only mine = record {
  served = λ v k b l c st. elim (cases_lt (place v) h) [
    | inl d ↦ sv.served v k b l d st
    | inr d ↦
        let e : v ≡ u = only v b l (omega arith) in
        subst (λ (i : ℕ). IsFeasibleAt arcs p q bound i k) (sym e) (mine k (subst (λ (i : ℕ). StartsAt arcs i k) e st))
  ];
}

-- ---- the order has room

pub order_distinct : (n : ℕ) (arcs : List ResidualArc) (p e : ℕ → ℤ) (s : ℕ) (q : ℕ → ℤ) (predecessor order place : ℕ → ℕ) (scanned ordered reached : ℕ) (radius : ℤ) → IsReached n arcs p e s q predecessor order place scanned ordered reached radius → AreDistinct reached order
order_distinct n arcs p e s q predecessor order place scanned ordered reached radius r i j a b h = sym (r.at i a) ∙ ap place h ∙ r.at j b

pub order_room : (n : ℕ) (arcs : List ResidualArc) (p e : ℕ → ℤ) (s : ℕ) (q : ℕ → ℤ) (predecessor order place : ℕ → ℕ) (scanned ordered reached : ℕ) (radius : ℤ) (v : ℕ) → IsReached n arcs p e s q predecessor order place scanned ordered reached radius → v < n → far ≤ℤ q v → reached < n
order_room n arcs p e s q predecessor order place scanned ordered reached radius v r b l =
    room_for reached n order v r.node (order_distinct n arcs p e s q predecessor order place scanned ordered reached radius r) b
    (λ j c t. not_less (q v) far (subst (λ (i : ℕ). q i <ℤ far) t (r.has_label j c)) l)

-- ---- bounds

label_fits : (n scanned : ℕ) (ps x : ℤ) → n ≤ MAX_NODES → scanned ≤ n → IsNear ps scanned x → (pos 0 ≤ℤ (ps +ℤ pos (2 * n))) × (ps ≤ℤ pos (2 * n)) → IsWithinFar x
label_fits n scanned ps x small le (a, b) (c, d) = (omega (arith, ints), omega (arith, ints))

potential_fits : (n : ℕ) (pv : ℤ) → n ≤ MAX_NODES → (pos 0 ≤ℤ (pv +ℤ pos (2 * n))) × (pv ≤ℤ pos (2 * n)) → IsWithinFar pv
potential_fits n pv small (c, d) = (omega (arith, ints), omega (arith, ints))

pub offer_fits : (n : ℕ) (arcs : List ResidualArc) (p e : ℕ → ℤ) (s : ℕ) (q : ℕ → ℤ) (predecessor order place : ℕ → ℕ) (scanned ordered reached : ℕ) (radius : ℤ) (k v : ℕ) (x : ℤ) → IsGraph n arcs → AreFeasiblePotentials n arcs p e → IsReached n arcs p e s q predecessor order place scanned ordered reached radius → IsCandidate n arcs p s q place scanned radius k v x → IsWithinFar x
offer_fits n arcs p e s q predecessor order place scanned ordered reached radius k v x g pr r o =
    let le : scanned ≤ n = omega (arith, r.counts) in
    label_fits n scanned (p s) x g.nodes le o.near (pr.low s r.root.0)

pub potential_fits_at : (n : ℕ) (arcs : List ResidualArc) (p e : ℕ → ℤ) (v : ℕ) → IsGraph n arcs → AreFeasiblePotentials n arcs p e → v < n → IsWithinFar (p v)
potential_fits_at n arcs p e v g pr b = potential_fits n (p v) g.nodes (pr.low v b)

pub reached_fits : (n : ℕ) (arcs : List ResidualArc) (p e : ℕ → ℤ) (s : ℕ) (q : ℕ → ℤ) (predecessor order place : ℕ → ℕ) (scanned ordered reached : ℕ) (radius : ℤ) (v : ℕ) → IsGraph n arcs → AreFeasiblePotentials n arcs p e → IsReached n arcs p e s q predecessor order place scanned ordered reached radius → v < n → q v <ℤ far → IsWithinFar (q v)
reached_fits n arcs p e s q predecessor order place scanned ordered reached radius v g pr r b l =
    let le : scanned ≤ n = omega (arith, r.counts) in
    label_fits n scanned (p s) (q v) g.nodes le (r.near v b l) (pr.low s r.root.0)

-- where an offer ends is a node, and its number is one of a residual arc
pub offer_end : (n : ℕ) (arcs : List ResidualArc) (p : ℕ → ℤ) (s : ℕ) (q : ℕ → ℤ) (place : ℕ → ℕ) (scanned : ℕ) (radius : ℤ) (k v : ℕ) (x : ℤ) → IsGraph n arcs → IsCandidate n arcs p s q place scanned radius k v x → v < n
offer_end n arcs p s q place scanned radius k v x g o = subst (λ (i : ℕ). i < n) o.arrives (g.end k o.leaves.inside)

pub at_radius : (q p x a radius : ℤ) → q ≡ x → a ≡ x -ℤ p → a ≡ radius → (q -ℤ p) ≤ℤ radius
at_radius q p x a radius h k l = omega (arith, ints)

pub offer_below : (n : ℕ) (arcs : List ResidualArc) (p e : ℕ → ℤ) (s : ℕ) (q : ℕ → ℤ) (predecessor order place : ℕ → ℕ) (scanned ordered reached : ℕ) (radius : ℤ) (k v : ℕ) (x : ℤ) → IsReached n arcs p e s q predecessor order place scanned ordered reached radius → IsCandidate n arcs p s q place scanned radius k v x → v < n → x <ℤ far
offer_below n arcs p e s q predecessor order place scanned ordered reached radius k v x r o b = not_far x (q v) o.less (r.most v b)

-- ---- what a residual arc of the node that is scanned offers

closed_far : (x qu qe c ps : ℤ) (n h : ℕ) → n ≤ MAX_NODES → h ≤ n → IsNear ps h qu → (pos 0 ≤ℤ (ps +ℤ pos (2 * n))) × (ps ≤ℤ pos (2 * n)) → x ≡ qu +ℤ c → x <ℤ qe → qe ≤ℤ far → (SATURATED -ℤ pos 1) ≤ℤ c → ⊥
closed_far x qu qe c ps n h small le (a, b) (d, e) s l m g = omega (arith, ints)

near_step : (ps qu c x : ℤ) (h : ℕ) → IsNear ps h qu → negsuc 0 ≤ℤ c → c ≤ℤ pos 1 → x ≡ qu +ℤ c → IsNear ps (h + 1) x
near_step ps qu c x h (a, b) d e s = (omega (arith, ints), omega (arith, ints))

no_nearer : (radius qu pu c pe x : ℤ) → radius ≤ℤ (qu -ℤ pu) → pos 0 ≤ℤ (c +ℤ pu -ℤ pe) → x ≡ qu +ℤ c → radius ≤ℤ (x -ℤ pe)
no_nearer radius qu pu c pe x h r s = omega (arith, ints)

is_open : (n : ℕ) (arcs : List ResidualArc) (p e : ℕ → ℤ) (s : ℕ) (q : ℕ → ℤ) (u k : ℕ) (h : ℕ) (x : ℤ) → IsGraph n arcs → AreFeasiblePotentials n arcs p e → s < n → h ≤ n → IsNear (p s) h (q u) → StartsAt arcs u k → x ≡ q u +ℤ cost_at arcs k → x <ℤ q (end_at arcs k) → q (end_at arcs k) ≤ℤ far → (negsuc 0 ≤ℤ cost_at arcs k) × (cost_at arcs k ≤ℤ pos 1)
is_open n arcs p e s q u k h x g pr sb le near st sum less most =
    elim (g.cost k st.inside) [
      | inl o ↦ o
      | inr f ↦ absurd (closed_far x (q u) (q (end_at arcs k)) (cost_at arcs k) (p s) n h g.nodes le near (pr.low s sb) sum less most f.0)
    ]

pub offer_made : (n : ℕ) (arcs : List ResidualArc) (p e : ℕ → ℤ) (s : ℕ) (q : ℕ → ℤ) (predecessor order place : ℕ → ℕ) (scanned ordered reached : ℕ) (radius : ℤ) (u k v : ℕ) (x : ℤ) → IsGraph n arcs → AreFeasiblePotentials n arcs p e → IsReached n arcs p e s q predecessor order place scanned ordered reached radius → u < n → q u <ℤ far → place u + 1 ≡ scanned → IsNear (p s) (place u) (q u) → radius ≤ℤ (q u -ℤ p u) → StartsAt arcs u k → v ≡ end_at arcs k → x ≡ q u +ℤ cost_at arcs k → x <ℤ q v → IsCandidate n arcs p s q place scanned radius k v x
offer_made n arcs p e s q predecessor order place scanned ordered reached radius u k v x g pr r ub lu at near high st ends sum less =
    let le : place u ≤ n = omega (arith, r.counts) in
    let here : x <ℤ q (end_at arcs k) = subst (λ (i : ℕ). x <ℤ q i) ends less in
    let o = is_open n arcs p e s q u k (place u) x g pr r.root.0 le near st sum here (r.most (end_at arcs k) (g.end k st.inside)) in
    let close : IsNear (p s) (place u + 1) x = near_step (p s) (q u) (cost_at arcs k) x (place u) near o.0 o.1 sum in
    record {
      start = u;
      node = ub;
      labelled = lu;
      are_scanned = omega arith;
      leaves = st;
      has_capacity = o.1;
      arrives = sym ends;
      label = sum;
      near = subst (λ (i : ℕ). IsNear (p s) i x) at close;
      beyond = subst (λ (i : ℕ). radius ≤ℤ (x -ℤ p i)) (sym ends) (no_nearer radius (q u) (p u) (cost_at arcs k) (p (end_at arcs k)) x high (subst (λ (i : ℕ). pos 0 ≤ℤ (cost_at arcs k +ℤ p i -ℤ p (end_at arcs k))) st.start (pr.reduced k st.inside o.1)) sum);
      less = less;
    }

-- a label that is no more than what is offered is served
pub served_less : (arcs : List ResidualArc) (p q : ℕ → ℤ) (bound : ℤ) (u k v : ℕ) (x : ℤ) → v ≡ end_at arcs k → x ≡ q u +ℤ cost_at arcs k → q v ≤ℤ x → IsFeasibleAt arcs p q bound u k
served_less arcs p q bound u k v x ends sum less _ _ = subst (λ (z : ℤ). q (end_at arcs k) ≤ℤ z) sum (subst (λ (i : ℕ). q i ≤ℤ x) ends less)

pub served_after : (arcs : List ResidualArc) (p q q' : ℕ → ℤ) (bound : ℤ) (u k v : ℕ) (x : ℤ) → v ≡ end_at arcs k → x ≡ q u +ℤ cost_at arcs k → q' u ≡ q u → ((x -ℤ p v) <ℤ bound → q' v ≤ℤ x) → IsFeasibleAt arcs p q' bound u k
served_after arcs p q q' bound u k v x ends sum same sv _ near =
    let total : x ≡ q' u +ℤ cost_at arcs k = sum ∙ ap (λ (z : ℤ). z +ℤ cost_at arcs k) (sym same) in
    let close : (x -ℤ p v) <ℤ bound = subst (λ (i : ℕ). (x -ℤ p i) <ℤ bound) (sym ends) (subst (λ (z : ℤ). (z -ℤ p (end_at arcs k)) <ℤ bound) (sym total) near) in
    subst (λ (z : ℤ). q' (end_at arcs k) ≤ℤ z) total (subst (λ (i : ℕ). q' i ≤ℤ x) ends (sv close))

-- the order of the first h nodes stays
pub order_kept : (n : ℕ) (arcs : List ResidualArc) (p e : ℕ → ℤ) (s : ℕ) (q q' : ℕ → ℤ) (predecessor predecessor' order order' place place' : ℕ → ℕ) (scanned scanned' ordered ordered' reached reached' : ℕ) (radius radius' : ℤ) (h : ℕ) → IsReached n arcs p e s q predecessor order place scanned ordered reached radius → IsReached n arcs p e s q' predecessor' order' place' scanned' ordered' reached' radius' → AreLowered n h q place q' place' → h ≤ reached → (j : ℕ) → j < h → order' j ≡ order j
order_kept n arcs p e s q q' predecessor predecessor' order order' place place' scanned scanned' ordered ordered' reached reached' radius radius' h r r' kept le j b =
    let jb : j < reached = omega arith in
    let v : ℕ = order j in
    let vb : v < n = r.node j jb in
    let l : q v <ℤ far = r.has_label j jb in
    let at : place v ≡ j = r.at j jb in
    let (same, stays) = kept.same v vb l (omega arith) in
    let l' : q' v <ℤ far = subst (λ (z : ℤ). z <ℤ far) (sym same) l in
    ap order' (sym at ∙ sym stays) ∙ (r'.listed v vb l').1

-- ---- how many looks

looked_below : (h k : ℕ) (arcs : List ResidualArc) (order : ℕ → ℕ) → AreDistinct h order → sum_below h (λ j. started (start_at arcs) (order j) k) ≤ k
looked_below h zero arcs order d = omega (arith, sum_below-none h (λ j. started (start_at arcs) (order j) 0) (λ j b. refl))
looked_below h (suc k) arcs order d =
    let here : ℕ → ℕ = λ j. cond {A = ℕ} (eqb (order j) (start_at arcs k)) 1 0 in
    let sums : sum_below h (λ j. started (start_at arcs) (order j) (suc k)) ≡ sum_below h (λ j. started (start_at arcs) (order j) k) + sum_below h here = sum_below-add h (λ j. started (start_at arcs) (order j) k) here in
    omega (arith, looked_below h k arcs order d, counted_once h order (start_at arcs k) d)

pub looked_most : (n : ℕ) (arcs : List ResidualArc) (p e : ℕ → ℤ) (s : ℕ) (q : ℕ → ℤ) (predecessor order place : ℕ → ℕ) (scanned ordered reached : ℕ) (radius : ℤ) → IsReached n arcs p e s q predecessor order place scanned ordered reached radius → looked arcs order scanned ≤ length arcs
looked_most n arcs p e s q predecessor order place scanned ordered reached radius r =
    let le : scanned ≤ reached = omega (arith, r.counts) in
    looked_below scanned (length arcs) arcs order (λ i j a b h. order_distinct n arcs p e s q predecessor order place scanned ordered reached radius r i j (omega arith) (omega arith) h)

pub looked_same : (arcs : List ResidualArc) (order order' : ℕ → ℕ) (h : ℕ) → ((j : ℕ) → j < h → order' j ≡ order j) → looked arcs order' h ≡ looked arcs order h
looked_same arcs order order' h same = sum_below-same h (λ j. out_degree arcs (order' j)) (λ j. out_degree arcs (order j)) (λ j b. ap (out_degree arcs) (same j b))

pub looked_more : (arcs : List ResidualArc) (order order' : ℕ → ℕ) (h : ℕ) → ((j : ℕ) → j < h + 1 → order' j ≡ order j) → looked arcs order' (h + 1) ≡ looked arcs order h + out_degree arcs (order h)
looked_more arcs order order' h same =
    let more : looked arcs order' (h + 1) ≡ looked arcs order' h + out_degree arcs (order' h) = sum_below-more h (λ j. out_degree arcs (order' j)) in
    let rest : looked arcs order' h ≡ looked arcs order h = looked_same arcs order order' h (λ j b. same j (omega arith)) in
    let last : out_degree arcs (order' h) ≡ out_degree arcs (order h) = ap (out_degree arcs) (same h (omega arith)) in
    omega arith

-- ---- the root alone

no_distance : (a p : ℤ) → a ≡ p → ((a -ℤ p) ≤ℤ pos 0) × (pos 0 ≤ℤ (a -ℤ p))
no_distance a p h = (omega (arith, ints), omega (arith, ints))

near_self : (a p : ℤ) → a ≡ p → IsNear p 0 a
near_self a p h = (omega (arith, ints), omega (arith, ints))

low_near : (p : ℤ) (n : ℕ) → n ≤ MAX_NODES → p ≤ℤ pos (2 * n) → p <ℤ far
low_near p n small h = omega (arith, ints)

more_than_none : (e : ℤ) → pos 0 <ℤ e → pos 0 ≤ℤ e
more_than_none e h = omega (arith, ints)

less_far : (a : ℤ) → a <ℤ far → a ≤ℤ far
less_far a h = omega (arith, ints)

pub root_reached : (n : ℕ) (arcs : List ResidualArc) (p e : ℕ → ℤ) (s : ℕ) (q q' : ℕ → ℤ) (predecessor order place : ℕ → ℕ) → n ≤ MAX_NODES → s < n → p s ≤ℤ pos (2 * n) → pos 0 <ℤ e s → ((v : ℕ) → v < n → q v ≡ far) → IsPut q q' s (p s) → order 0 ≡ s → place s ≡ 0 → IsReached n arcs p e s q' predecessor order place 0 1 1 (pos 0)
root_reached n arcs p e s q q' predecessor order place small sb low remaining unlabelled put oat pat =
    let ls : q' s <ℤ far = subst (λ (z : ℤ). z <ℤ far) (sym put.here) (low_near (p s) n small low) in
    let only : (w : ℕ) → w < n → q' w <ℤ far → w ≡ s = λ w b l. elim (cases_eq w s) [
      | inl t ↦ t
      | inr ne ↦ absurd (not_less (q' w) far l (same_le far (q' w) (sym (put.others w ne ∙ unlabelled w b))))
    ] in
    let zeroth : (j : ℕ) → j < 1 → order j ≡ s = λ j b. ap order (omega arith) ∙ oat in
    record {
      counts = (omega arith, omega arith, omega arith);
      begun = omega arith;
      node = λ j b. subst (λ (i : ℕ). i < n) (sym (zeroth j b)) sb;
      at = λ j b. ap place (zeroth j b) ∙ pat ∙ omega arith;
      has_label = λ j b. subst (λ (i : ℕ). q' i <ℤ far) (sym (zeroth j b)) ls;
      listed = λ w b l. let t : w ≡ s = only w b l in let g : place w ≡ 0 = ap place t ∙ pat in (omega arith, ap order g ∙ oat ∙ sym t);
      most = λ w b. elim (cases_eq w s) [
        | inl t ↦ subst (λ (i : ℕ). q' i ≤ℤ far) (sym t) (less_far (q' s) ls)
        | inr ne ↦ same_le (q' w) far (put.others w ne ∙ unlabelled w b)
      ];
      under = λ w b l h. subst (λ (i : ℕ). (q' i -ℤ p i) ≤ℤ pos 0) (sym (only w b l)) (no_distance (q' s) (p s) put.here).0;
      here = λ w b l h. subst (λ (i : ℕ). pos 0 ≤ℤ (q' i -ℤ p i)) (sym (only w b l)) (no_distance (q' s) (p s) put.here).1;
      near = λ w b l. subst (λ (i : ℕ). IsNear (p s) 0 (q' i)) (sym (only w b l)) (near_self (q' s) (p s) put.here);
      root = (sb, ls, pat);
      nonnegative = λ w b l. subst (λ (i : ℕ). pos 0 ≤ℤ e i) (sym (only w b l)) (more_than_none (e s) remaining);
      entered = λ w b l ne. absurd (ne (only w b l));
    }

-- ---- leaving

pub remaining_at_radius : (n : ℕ) (arcs : List ResidualArc) (p e : ℕ → ℤ) (s : ℕ) (q : ℕ → ℤ) (predecessor order place : ℕ → ℕ) (scanned ordered reached : ℕ) (radius bound : ℤ) → IsReached n arcs p e s q predecessor order place scanned ordered reached radius → radius ≡ bound → IsRemaining n p q place scanned bound
remaining_at_radius n arcs p e s q predecessor order place scanned ordered reached radius bound r same v b l h = subst (λ (z : ℤ). z ≤ℤ (q v -ℤ p v)) same (r.here v b l h)

pub remaining_behind : (n : ℕ) (arcs : List ResidualArc) (p e : ℕ → ℤ) (s : ℕ) (q : ℕ → ℤ) (predecessor order place : ℕ → ℕ) (scanned ordered reached : ℕ) (radius bound : ℤ) → IsReached n arcs p e s q predecessor order place scanned ordered reached radius → ordered ≤ scanned → ((j : ℕ) → ordered ≤ j → j < reached → bound ≤ℤ (q (order j) -ℤ p (order j))) → IsRemaining n p q place scanned bound
remaining_behind n arcs p e s q predecessor order place scanned ordered reached radius bound r done least v b l h =
    let (in_list, back) = r.listed v b l in
    subst (λ (i : ℕ). bound ≤ℤ (q i -ℤ p i)) back (least (place v) (omega arith) in_list)

both_under : (a b : ℤ) → a ≤ℤ b → b ≤ℤ a → a ≡ b
both_under a b h k = omega (arith, ints)

pub strictly : (a b : ℤ) → a ≤ℤ b → (a ≡ b → ⊥) → a <ℤ b
strictly a b h ne = elim (below_or_not a b) [ inl l ↦ l | inr g ↦ absurd (ne (both_under a b h g)) ]

pub least_more : (q p : ℕ → ℤ) (order : ℕ → ℕ) (ordered j : ℕ) (bound least a r : ℤ) → a ≡ q (order j) -ℤ p (order j) → r ≤ℤ least → r ≤ℤ a → (r ≡ least) ⊎ (r ≡ a) → ordered ≤ j → ((i : ℕ) → ordered ≤ i → i < j → least ≤ℤ (q (order i) -ℤ p (order i))) → (least <ℤ bound → (i : ℕ) × (ordered ≤ i) × (i < j) × (least ≡ q (order i) -ℤ p (order i))) → ((i : ℕ) → ordered ≤ i → i < j + 1 → r ≤ℤ (q (order i) -ℤ p (order i))) × (r <ℤ bound → (i : ℕ) × (ordered ≤ i) × (i < j + 1) × (r ≡ q (order i) -ℤ p (order i)))
least_more q p order ordered j bound least a r here first second either le all some = (
  (λ i b c. elim (cases_lt i j) [
    | inl d ↦ under_radius r least (q (order i) -ℤ p (order i)) first (all i b d)
    | inr d ↦ let e : i ≡ j = omega arith in subst (λ (t : ℕ). r ≤ℤ (q (order t) -ℤ p (order t))) (sym e) (subst (λ (z : ℤ). r ≤ℤ z) here second)
  ]),
  λ h. elim either [
    | inl e ↦ let (i, b, c, d) = some (subst (λ (z : ℤ). z <ℤ bound) e h) in (i, b, omega arith, e ∙ d)
    | inr e ↦ (j, le, omega arith, e ∙ here)
  ],
)

pub at_place : {scanned ordered j k : ℕ} → scanned ≤ ordered → ordered ≤ j → k ≡ j → scanned ≤ k
at_place a b h = omega arith

-- ---- the node that is scanned next

pub record IsNext (n : ℕ) (p : ℕ → ℤ) (s : ℕ) (q : ℕ → ℤ) (place : ℕ → ℕ) (scanned : ℕ) (radius : ℤ) (u : ℕ) : Type 0 where
  pub node : u < n
  pub labelled : q u <ℤ far
  pub stands : place u ≡ scanned
  pub near : IsNear (p s) (place u) (q u)
  pub high : radius ≤ℤ (q u -ℤ p u)

pub next_node : (n : ℕ) (arcs : List ResidualArc) (p e : ℕ → ℤ) (s : ℕ) (q : ℕ → ℤ) (predecessor order place : ℕ → ℕ) (scanned ordered reached : ℕ) (radius : ℤ) → IsReached n arcs p e s q predecessor order place scanned ordered reached radius → scanned < ordered → IsNext n p s q place scanned radius (order scanned)
next_node n arcs p e s q predecessor order place scanned ordered reached radius r more =
    let b : scanned < reached = omega (arith, r.counts) in
    let at : place (order scanned) ≡ scanned = r.at scanned b in
    let l : q (order scanned) <ℤ far = r.has_label scanned b in
    record {
      node = r.node scanned b;
      labelled = l;
      stands = at;
      near = subst (λ (i : ℕ). IsNear (p s) i (q (order scanned))) (sym at) (r.near (order scanned) (r.node scanned b) l);
      high = r.here (order scanned) (r.node scanned b) l (omega arith);
    }

-- the same once labels after it fall
pub next_kept : (n : ℕ) (p : ℕ → ℤ) (s : ℕ) (q q' : ℕ → ℤ) (place place' : ℕ → ℕ) (scanned : ℕ) (radius : ℤ) (u : ℕ) → IsNext n p s q place scanned radius u → AreLowered n (scanned + 1) q place q' place' → IsNext n p s q' place' scanned radius u
next_kept n p s q q' place place' scanned radius u x kept =
    let at : place u ≡ scanned = x.stands in
    let (same, stays) = kept.same u x.node x.labelled (omega arith) in
    record {
      node = x.node;
      labelled = subst (λ (z : ℤ). z <ℤ far) (sym same) x.labelled;
      stands = stays ∙ x.stands;
      near = subst (λ (i : ℕ). IsNear (p s) i (q' u)) (sym stays) (subst (λ (z : ℤ). IsNear (p s) (place u) z) (sym same) x.near);
      high = subst (λ (z : ℤ). radius ≤ℤ (z -ℤ p u)) (sym same) x.high;
    }

-- the only labelled node at its place
pub next_only : (n : ℕ) (arcs : List ResidualArc) (p e : ℕ → ℤ) (s : ℕ) (q : ℕ → ℤ) (predecessor order place : ℕ → ℕ) (h scanned ordered reached : ℕ) (radius radius' : ℤ) (u : ℕ) → IsReached n arcs p e s q predecessor order place scanned ordered reached radius → IsNext n p s q place h radius' u → (v : ℕ) → v < n → q v <ℤ far → place v ≡ h → v ≡ u
next_only n arcs p e s q predecessor order place h scanned ordered reached radius radius' u r x v b l at =
    sym (r.listed v b l).1 ∙ ap order (at ∙ sym x.stands) ∙ (r.listed u x.node x.labelled).1
