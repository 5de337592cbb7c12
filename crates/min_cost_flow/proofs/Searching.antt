-- What a search knows of the nodes that it reached, in the words of its structs.
use Rattle.std.proofs.Common.{◌≡◌, ◌≢◌, ◌≤◌, ◌<◌, ◌+◌, ◌⊎◌, ℕ, List, refl, sym, ◌∙◌, ap, subst, inl, inr, arith}
use Rattle.std.specs.Prelude.{ℤ, pos, ◌+ℤ◌, ◌-ℤ◌, ◌≤ℤ◌, ◌<ℤ◌, length}
use Rattle.std.proofs.Math.Path.{fun_ext}
use Rattle.std.proofs.lemmas.Bool.{cases_eq, cases_lt}
use Rattle.std.specs.Borrow.{MutBor}
use mir.Syntax.{w16, w32}
use mir.Val.{of_z, to_z}
use Rattle.min_cost_flow.specs.declared.dijkstra.SearchInput.{SearchInput}
use Rattle.min_cost_flow.specs.declared.dijkstra.Search.{Search}
use Rattle.min_cost_flow.specs.declared.dijkstra.Candidate.{Candidate}
use Rattle.min_cost_flow.specs.declared.dijkstra.Visit.{Visit}
use Rattle.min_cost_flow.specs.declared.residual_network.TheConstants.{NONE}
use Rattle.min_cost_flow.specs.ResidualArcs.{start_at, end_at, cost_at, next_at, started, out_degree, StartsAt, IsLatest}
use Rattle.min_cost_flow.specs.Search.{far, nodes_of, arcs_of, IsScanning, potential_of, excess_of, labels, orders, places, Reaches, HasLowered, IsSearch, HasCandidate, IsLabelled, IsRelaxed, AreLowered, IsSwapped, IsReordered, HasFeasibleLabels, IsSearchInput, IsFeasibleAt, AreFeasible, looked, SameBesideBound, SameBesideOrder, IsWithinFar}
use Rattle.min_cost_flow.proofs.Links.{started_most, latest_counts, latest_none}
use Rattle.min_cost_flow.proofs.Signs.{fits_within, label_fits, label_passed, passed_within, difference_is}
use Rattle.min_cost_flow.proofs.Reaching.{below_or_not, behind, swapped, nearest_kept, nearest_offered, kept_then, kept_same, at_radius, offer_below, offer_fits, offer_made, next_node, next_kept, next_only, serves_kept, served_kept, served_more, kept_less, same_le, order_kept, looked_most, looked_same, looked_more, same_z, relabelled, enlisted, order_room, reached_fits, potential_fits_at, offer_end}

-- w is the node at place j of the order
pub record IsMember (g : SearchInput) (s : Search) (j w : ℕ) : Type 0 where
  pub node : w < nodes_of g
  pub labelled : labels s w <ℤ far
  pub place : places s w ≡ j
  pub number : orders s j ≡ w

pub member : (g : SearchInput) (s : Search) (j w : ℕ) → IsSearch g s → j < s.reached → w ≡ orders s j → IsMember g s j w
member g s j w h b e = record {
  node = subst (λ (k : ℕ). k < nodes_of g) (sym e) (h.reached.node j b);
  labelled = subst (λ (k : ℕ). labels s k <ℤ far) (sym e) (h.reached.has_label j b);
  place = subst (λ (k : ℕ). places s k ≡ j) (sym e) (h.reached.at j b);
  number = sym e;
}

pub label_fits_at : (g : SearchInput) (s : Search) (w : ℕ) → IsSearch g s → w < nodes_of g → labels s w <ℤ far → IsWithinFar (labels s w)
label_fits_at g s w h b l = reached_fits _ _ _ _ _ _ _ _ _ _ _ _ _ w h.input.graph h.input.priced h.reached b l

pub label_within : (g : SearchInput) (s : Search) (w : ℕ) → IsSearch g s → w < nodes_of g → labels s w <ℤ far → IsWithinFar (to_z w16 (of_z w16 (labels s w)))
label_within g s w h b l = let f = label_fits_at g s w h b l in label_passed _ _ (labels s w) (label_fits _ f) f

pub potential_near : (g : SearchInput) (w : ℕ) → IsSearchInput g → w < nodes_of g → IsWithinFar (potential_of g w)
potential_near g w h b = potential_fits_at _ _ _ _ w h.graph h.priced b

pub potential_within : (g : SearchInput) (w : ℕ) → IsSearchInput g → w < nodes_of g → IsWithinFar (to_z w32 (of_z w32 (potential_of g w)))
potential_within g w h b = let f = potential_near g w h b in passed_within _ _ (potential_of g w) (fits_within _ f) f

-- a distance, as it is computed
pub away_is : (r q p : ℤ) → IsWithinFar q → IsWithinFar p → r ≡ to_z w16 (of_z w16 q) -ℤ to_z w32 (of_z w32 p) → r ≡ q -ℤ p
away_is r q p a b e = difference_is r q p (label_fits _ a) (fits_within _ b) e

pub room_remaining : (g : SearchInput) (s : Search) (v : ℕ) → IsSearch g s → v < nodes_of g → far ≤ℤ labels s v → s.reached < length s.visits.now
room_remaining g s v h b l = omega (arith, h.size, order_room _ _ _ _ _ _ _ _ _ _ _ _ _ v h.reached b l)

-- what a new label leaves
pub record IsTaken (g : SearchInput) (s s' : Search) (step : Candidate) : Type 0 where
  pub reached : Reaches g s'
  pub kept : HasLowered g s.scanned s s'
  pub place : s.ordered ≤ places s' step.end

pub taken : (g : SearchInput) (s s' : Search) (step : Candidate) → HasCandidate g s step → pos 0 ≤ℤ excess_of g step.end → IsLabelled s s' step → IsTaken g s s' step
taken g s s' step o nonnegative m =
    let h = o.search in
    let b : step.end < nodes_of g = offer_end _ _ _ _ _ _ _ _ _ _ _ h.input.graph o.candidate in
    let q = m.progress in
    elim (below_or_not (labels s step.end) far) [
      | inl l ↦
          let e = m.again l in
          let all = relabelled _ _ _ _ _ _ _ _ _ _ _ _ _ _ _ _ _ _ h.reached o.candidate b l nonnegative m.label m.predecessor in
          record {
            reached = rw (fun_ext e.order, fun_ext e.place, q.scanned, q.ordered, e.reached, q.radius) all.0;
            kept = rw (fun_ext e.place) all.1;
            place = rw (fun_ext e.place) (behind _ _ _ _ _ _ _ _ _ _ _ _ _ step.end step.label h.reached b o.candidate.beyond o.candidate.less l);
          }
      | inr l ↦
          let e = m.anew l in
          let d : s.reached < nodes_of g = order_room _ _ _ _ _ _ _ _ _ _ _ _ _ step.end h.reached b l in
          let all = enlisted _ _ _ _ _ _ _ _ _ _ _ _ _ _ _ _ _ _ _ _ h.reached o.candidate b l nonnegative d m.label m.predecessor e.0 e.1 in
          let at : places s' step.end ≡ s.reached = e.1.here in
          record {
            reached = rw (q.scanned, q.ordered, e.2, q.radius) all.0;
            kept = all.1;
            place = omega (arith, h.reached.counts);
          }
    ]

-- the label that is offered is in range
pub offer_within : (g : SearchInput) (s : Search) (step : Candidate) → HasCandidate g s step → IsWithinFar step.label
offer_within g s step o = offer_fits _ _ _ _ _ _ _ _ _ _ _ _ _ _ _ _ o.search.input.graph o.search.input.priced o.search.reached o.candidate

pub end_in : (g : SearchInput) (s : Search) (step : Candidate) → HasCandidate g s step → step.end < nodes_of g
end_in g s step o = offer_end _ _ _ _ _ _ _ _ _ _ _ o.search.input.graph o.candidate

-- units are wanting at the end, which may be the nearest such node now
pub offered : (g : SearchInput) (s s' : Search) (step : Candidate) (away : ℤ) → HasCandidate g s step → excess_of g step.end <ℤ pos 0 → away ≡ step.label -ℤ potential_of g step.end → SameBesideBound s s' → s'.bound ≤ℤ s.bound → ((s'.bound ≡ s.bound) × (s'.found ≡ s.found)) ⊎ ((s'.bound ≡ away) × (s'.found ≡ step.number)) → IsRelaxed g s s'
offered g s s' step away o wants at a bound either =
    let h = o.search in
    let v = step.end in
    let b : v < nodes_of g = end_in g s step o in
    let given : ((s'.bound ≡ s.bound) × (s'.found ≡ s.found)) ⊎ ((s'.bound ≡ step.label -ℤ potential_of g v) × (s'.found ≡ step.number)) = elim either [ inl e ↦ inl e | inr e ↦ inr (e.0 ∙ at, e.1) ] in
    record {
      search = record {
        input = h.input;
        size = rw a.visits h.size;
        reached = rw (a.visits, a.scanned, a.ordered, a.reached, a.radius) h.reached;
        nearest = rw (a.visits, a.scanned, a.radius) (nearest_offered _ _ _ _ _ _ _ _ _ _ _ _ _ _ v _ h.nearest o.candidate (h.reached.most v b) wants (h.input.priced.zero v b wants) given);
      };
      list = ap (λ (v : MutBor (List Visit)). v.ghost_name) a.visits;
      kept = rw a.visits (kept_same _ _ _ _);
      scanned = a.scanned;
      radius = a.radius;
      bound = bound;
    }

-- the end has got its label, further off than the radius
pub node_labelled_behind : (g : SearchInput) (s t : Search) (step : Candidate) → HasCandidate g s step → pos 0 ≤ℤ excess_of g step.end → IsLabelled s t step → IsRelaxed g s t
node_labelled_behind g s t step o nonnegative m =
    let h = o.search in
    let p = m.progress in
    let k = taken g s t step o nonnegative m in
    record {
      search = record {
        input = h.input;
        size = p.size ∙ h.size;
        reached = k.reached;
        nearest = rw (p.scanned, p.radius, p.bound, p.found) (nearest_kept _ _ _ _ _ _ _ _ _ _ _ _ _ _ h.nearest h.nearest.above k.kept);
      };
      list = p.list;
      kept = k.kept;
      scanned = p.scanned;
      radius = p.radius;
      bound = subst (λ (z : ℤ). z ≤ℤ s.bound) (sym p.bound) (same_z s.bound);
    }

-- the end has got its label, and stands in the order
pub record IsListed (g : SearchInput) (t : Search) (v : ℕ) : Type 0 where
  pub labelled : labels t v <ℤ far
  pub inside : places t v < t.reached
  pub back : orders t (places t v) ≡ v
  pub ordered : t.ordered ≤ places t v
  pub few : t.reached ≤ nodes_of g
  pub size : length t.visits.now ≡ nodes_of g
  pub other : orders t t.ordered < nodes_of g
  pub at : places t (orders t t.ordered) ≡ t.ordered

pub listed : (g : SearchInput) (s t : Search) (step : Candidate) → HasCandidate g s step → pos 0 ≤ℤ excess_of g step.end → IsLabelled s t step → IsListed g t step.end
listed g s t step o nonnegative m =
    let h = o.search in
    let v = step.end in
    let b : v < nodes_of g = end_in g s step o in
    let k = taken g s t step o nonnegative m in
    let r = k.reached in
    let l : labels t v <ℤ far = subst (λ (z : ℤ). z <ℤ far) (sym m.label.here) (offer_below _ _ _ _ _ _ _ _ _ _ _ _ _ _ _ _ h.reached o.candidate b) in
    let (inside, back) = r.listed v b l in
    let low : t.ordered ≤ places t v = omega (arith, k.place, m.progress.ordered) in
    let w : t.ordered < t.reached = omega arith in
    record {
      labelled = l;
      inside = inside;
      back = back;
      ordered = low;
      few = r.counts.2;
      size = m.progress.size ∙ h.size;
      other = r.node t.ordered w;
      at = r.at t.ordered w;
    }

-- the same at the radius, where it was put after those that are ordered
pub node_labelled : (g : SearchInput) (s t u : Search) (step : Candidate) (away : ℤ) → HasCandidate g s step → pos 0 ≤ℤ excess_of g step.end → IsLabelled s t step → away ≡ step.label -ℤ potential_of g step.end → away ≡ t.radius → IsSwapped (orders t) (places t) (orders u) (places u) step.end (places t step.end) t.ordered → SameBesideOrder t u → u.ordered ≡ t.ordered + 1 → IsRelaxed g s u
node_labelled g s t u step away o nonnegative m at same swap z up =
    let h = o.search in
    let v = step.end in
    let b : v < nodes_of g = end_in g s step o in
    let p = m.progress in
    let k = taken g s t step o nonnegative m in
    let w = listed g s t step o nonnegative m in
    let near : (labels t v -ℤ potential_of g v) ≤ℤ t.radius = at_radius (labels t v) (potential_of g v) step.label away t.radius m.label.here at same in
    let (moved, kept) = swapped _ _ _ _ _ _ _ _ _ _ _ _ _ _ _ v (places t v) k.reached b w.labelled refl w.ordered near swap in
    let both = kept_then _ _ _ _ _ _ _ _ k.kept (subst (λ (i : ℕ). AreLowered (nodes_of g) i (labels t) (places t) (labels t) (places u)) p.scanned kept) in
    record {
      search = record {
        input = h.input;
        size = z.size ∙ w.size;
        reached = rw (fun_ext z.label, fun_ext z.predecessor, z.scanned, up, z.reached, z.radius) moved;
        nearest = rw (fun_ext z.label, z.scanned, p.scanned, z.radius, p.radius, z.bound, p.bound, z.found, p.found) (nearest_kept _ _ _ _ _ _ _ _ _ _ _ _ _ _ h.nearest h.nearest.above both);
      };
      list = z.list ∙ p.list;
      kept = rw (fun_ext z.label) both;
      scanned = z.scanned ∙ p.scanned;
      radius = z.radius ∙ p.radius;
      bound = subst (λ (q : ℤ). q ≤ℤ s.bound) (sym (z.bound ∙ p.bound)) (same_z s.bound);
    }

-- residual arc k of the scanned node u offers x to its end v
pub offering : (g : SearchInput) (s : Search) (u : ℕ) (step : Candidate) → IsScanning g s u → StartsAt (arcs_of g) u step.number → step.end ≡ end_at (arcs_of g) step.number → step.label ≡ labels s u +ℤ cost_at (arcs_of g) step.number → step.label <ℤ labels s step.end → HasCandidate g s step
offering g s u step n k e x l = record {
  search = n.search;
  candidate = offer_made _ _ _ _ _ _ _ _ _ _ _ _ _ u _ _ _ n.search.input.graph n.search.input.priced n.search.reached n.node n.labelled n.place n.near n.radius k e x l;
}

-- node u is the next of the order, and is scanned now
pub scanning : (g : SearchInput) (s t : Search) (u : ℕ) → IsSearch g s → s.scanned < s.ordered → u ≡ orders s s.scanned → IsSearch g t → HasLowered g (s.scanned + 1) s t → t.scanned ≡ s.scanned + 1 → t.radius ≡ s.radius → IsScanning g t u
scanning g s t u h more e k kept heads radius =
    let v : ℕ = orders s s.scanned in
    let x = next_kept _ _ _ _ _ _ _ _ _ _ (next_node _ _ _ _ _ _ _ _ _ _ _ _ _ h.reached more) kept in
    let stands : places t v ≡ s.scanned = x.stands in
    let here : IsScanning g t v = record {
      search = k;
      node = x.node;
      labelled = x.labelled;
      place = omega (arith, heads);
      near = x.near;
      radius = subst (λ (z : ℤ). z ≤ℤ (labels t v -ℤ potential_of g v)) (sym radius) x.high;
    } in
    subst (λ (w : ℕ). IsScanning g t w) (sym e) here

pub next_in : (g : SearchInput) (s : Search) (u : ℕ) → IsSearch g s → s.scanned < s.ordered → u ≡ orders s s.scanned → u < nodes_of g
next_in g s u h more e = subst (λ (w : ℕ). w < nodes_of g) (sym e) (next_node _ _ _ _ _ _ _ _ _ _ _ _ _ h.reached more).node

-- of the residual arcs that start at node u those from `from` on were looked at, `here` of them, and their offers are
-- taken up; the next one is `number`, or there is none
pub record HasLooked (g : SearchInput) (t : Search) (u number here : ℕ) : Type 0 where
  pub from : ℕ
  pub inside : from ≤ length (arcs_of g)
  pub latest : IsLatest (start_at (arcs_of g)) u from number
  pub serves : (k : ℕ) → from ≤ k → StartsAt (arcs_of g) u k → IsFeasibleAt (arcs_of g) (potential_of g) (labels t) t.bound u k
  pub looks : here + started (start_at (arcs_of g)) u from ≡ out_degree (arcs_of g) u

pub looked_none : (g : SearchInput) (t : Search) (u number : ℕ) → IsLatest (start_at (arcs_of g)) u (length (arcs_of g)) number → HasLooked g t u number 0
looked_none g t u number l = record {
  from = length (arcs_of g);
  inside = omega arith;
  latest = l;
  serves = λ k a st. absurd (omega (arith, st.inside));
  looks = omega arith;
}

-- the next one starts there too
pub next_starts : (g : SearchInput) (t : Search) (u number here : ℕ) → HasLooked g t u number here → number ≢ NONE → StartsAt (arcs_of g) u number
next_starts g t u number here h some = record { inside = omega (arith, h.inside, (h.latest.found some).0); start = (h.latest.found some).1 }

pub looked_below : (g : SearchInput) (t : Search) (u number here : ℕ) → HasLooked g t u number here → here ≤ length (arcs_of g)
looked_below g t u number here h = omega (arith, h.looks, started_most (start_at (arcs_of g)) u (length (arcs_of g)))

pub looked_less : (g : SearchInput) (t : Search) (u number here : ℕ) → HasLooked g t u number here → number ≢ NONE → here < out_degree (arcs_of g) u
looked_less g t u number here h some = omega (arith, h.looks, latest_counts _ _ _ _ h.latest some)

pub looked_all : (g : SearchInput) (t : Search) (u number here : ℕ) → HasLooked g t u number here → number ≡ NONE → here ≡ out_degree (arcs_of g) u
looked_all g t u number here h none = omega (arith, h.looks, latest_none _ _ _ _ h.latest none)

pub serves_all : (g : SearchInput) (t : Search) (u number here : ℕ) → HasLooked g t u number here → number ≡ NONE → (k : ℕ) → StartsAt (arcs_of g) u k → IsFeasibleAt (arcs_of g) (potential_of g) (labels t) t.bound u k
serves_all g t u number here h none k st =
    elim (cases_lt k h.from) [
      | inl b ↦ absurd ((h.latest.latest k b st.start).0 none)
      | inr a ↦ h.serves k a st
    ]

-- what the scanned node's residual arcs have offered stays taken up
pub still_serves : (g : SearchInput) (s t : Search) (u k : ℕ) → IsScanning g s u → IsRelaxed g s t → StartsAt (arcs_of g) u k → IsFeasibleAt (arcs_of g) (potential_of g) (labels s) s.bound u k → IsFeasibleAt (arcs_of g) (potential_of g) (labels t) t.bound u k
still_serves g s t u k n r st old =
    let here : places s u < s.scanned = omega (arith, n.place) in
    serves_kept (arcs_of g) (potential_of g) (labels s) (labels t) s.bound t.bound u k (r.kept.same u n.node n.labelled here).0 (r.kept.lower (end_at (arcs_of g) k) (n.search.input.graph.end k st.inside)) r.bound old

-- one residual arc more was looked at
pub looked_next : (g : SearchInput) (s t : Search) (u number next here : ℕ) → IsScanning g s u → IsRelaxed g s t → HasLooked g s u number here → number ≢ NONE → next ≡ next_at (arcs_of g) number → IsFeasibleAt (arcs_of g) (potential_of g) (labels t) t.bound u number → HasLooked g t u next (here + 1)
looked_next g s t u number next here n r h some is serves =
    let st : StartsAt (arcs_of g) u number = next_starts g s u number here h some in
    record {
      from = number;
      inside = omega (arith, st.inside);
      latest = rw is (subst (λ (v : ℕ). IsLatest (start_at (arcs_of g)) v number (next_at (arcs_of g) number)) st.start (n.search.input.linked.goes_on number st.inside));
      serves = λ k a sk. elim (cases_eq k number) [
        | inl e ↦ subst (λ (m : ℕ). IsFeasibleAt (arcs_of g) (potential_of g) (labels t) t.bound u m) (sym e) serves
        | inr ne ↦ elim (cases_lt k h.from) [
          | inl b ↦ let most : k ≤ number = (h.latest.latest k b sk.start).1 in absurd (omega arith)
          | inr b ↦ still_serves g s t u k n r sk (h.serves k b sk)
        ]
      ];
      looks = omega (arith, h.looks, latest_counts _ _ _ _ h.latest some);
    }

-- one node more was scanned
pub are_scanned : (g : SearchInput) (s t : Search) (u : ℕ) → IsSearch g s → s.scanned < s.ordered → u ≡ orders s s.scanned → HasFeasibleLabels g s → IsSearch g t → HasLowered g (s.scanned + 1) s t → t.scanned ≡ s.scanned + 1 → t.bound ≤ℤ s.bound → ((k : ℕ) → StartsAt (arcs_of g) u k → IsFeasibleAt (arcs_of g) (potential_of g) (labels t) t.bound u k) → HasFeasibleLabels g t
are_scanned g s t u h more e served k kept heads bound serves =
    let v : ℕ = orders s s.scanned in
    let x = next_kept _ _ _ _ _ _ _ _ _ _ (next_node _ _ _ _ _ _ _ _ _ _ _ _ _ h.reached more) kept in
    let all : (j : ℕ) → StartsAt (arcs_of g) v j → IsFeasibleAt (arcs_of g) (potential_of g) (labels t) t.bound v j = subst (λ (w : ℕ). (j : ℕ) → StartsAt (arcs_of g) w j → IsFeasibleAt (arcs_of g) (potential_of g) (labels t) t.bound w j) e serves in
    let less = kept_less _ _ s.scanned _ _ _ _ (omega arith) kept in
    let both = served_more _ _ _ _ _ _ s.scanned v (served_kept _ _ _ _ _ _ _ _ _ _ h.input.graph served less bound) (next_only _ _ _ _ _ _ _ _ _ _ _ _ _ _ _ v k.reached x) all in
    subst (λ (i : ℕ). AreFeasible (nodes_of g) (arcs_of g) (potential_of g) (labels t) (places t) t.bound i) (sym heads) both

pub served_still : (g : SearchInput) (s t : Search) → IsSearch g s → IsReordered g s t → HasFeasibleLabels g s → HasFeasibleLabels g t
served_still g s t h o served =
    subst (λ (i : ℕ). AreFeasible (nodes_of g) (arcs_of g) (potential_of g) (labels t) (places t) t.bound i) (sym o.scanned) (served_kept _ _ _ _ _ _ _ _ _ _ h.input.graph served o.kept (same_le _ _ o.bound))

-- the looks at the residual arcs of the nodes that were scanned
pub looked_ordered : (g : SearchInput) (s t : Search) → IsSearch g s → IsReordered g s t → looked (arcs_of g) (orders t) t.scanned ≡ looked (arcs_of g) (orders s) s.scanned
looked_ordered g s t h o =
    let few : s.scanned ≤ s.reached = omega (arith, h.reached.counts) in
    rw o.scanned (looked_same _ _ _ _ (order_kept _ _ _ _ _ _ _ _ _ _ _ _ _ _ _ _ _ _ _ _ _ _ h.reached o.search.reached o.kept few))

pub looked_scanned : (g : SearchInput) (s t : Search) → IsSearch g s → s.scanned < s.ordered → IsSearch g t → HasLowered g (s.scanned + 1) s t → t.scanned ≡ s.scanned + 1 → looked (arcs_of g) (orders t) t.scanned ≡ looked (arcs_of g) (orders s) s.scanned + out_degree (arcs_of g) (orders s s.scanned)
looked_scanned g s t h more k kept heads =
    let few : s.scanned + 1 ≤ s.reached = omega (arith, h.reached.counts) in
    rw heads (looked_more (arcs_of g) (orders s) (orders t) s.scanned (order_kept _ _ _ _ _ _ _ _ _ _ _ _ _ _ _ _ _ _ _ _ _ _ h.reached k.reached kept few))

pub looked_few : (g : SearchInput) (s : Search) → IsSearch g s → looked (arcs_of g) (orders s) s.scanned ≤ length (arcs_of g)
looked_few g s h = looked_most _ _ _ _ _ _ _ _ _ _ _ _ _ h.reached
