-- How many darts arrive at a vertex: at least one, and at most four.
use Rattle.std.proofs.Common.{◌≡◌, ◌≢◌, ◌⊎◌, ℕ, zero, suc, ◌+◌, ◌-◌, ◌<◌, ◌≤◌, ◌==◌, if◌then◌else◌, ◌∙◌, min, Bool, true, false, not, List, [], length, get_or, arith, subst, sym, ap, refl, inl, inr, eqb}
use Rattle.std.proofs.lemmas.Bool.{cases_eq, cases_Bool, eq-eqb, eqb-true, eqb-false, ne_eqb, cond-true, cond-false, cases_lt, not_from_false, not_from_true}
use Rattle.std.proofs.lemmas.List.{get_or_default}
use Rattle.common.specs.Sums.{sum_below}
use Rattle.common.proofs.Sums.{sum_below-same, sum_below-none, sum_below-turned}
use Rattle.embedding.specs.Lists.{list_of}
use Rattle.embedding.specs.Darts.{dart_count, tail_of, head_of, first_dart}
use Rattle.embedding.specs.Rules.{IsClosed}
use Rattle.embedding.specs.declared.breaks.Rule.TheVariants.{Disconnected}
use Rattle.embedding.proofs.Entries.{stands_at, dart_stands}
use Rattle.embedding.proofs.Rotation.{list_of-place, tail_at, dart_below}
use Rattle.embedding.proofs.KeptFacts.{list_of-short}
use Rattle.faces.specs.Planes.{PlaneModel, IsPlane, HasEnds, darts, vertices, head, tail, reverse_dart}
use Rattle.faces.proofs.Ends.{seven_rules, plane_ends}
use Rattle.flow_network.specs.FaceNet.{vertex_degree}

-- some number below n passes, or none does
pub search_below : (n : ℕ) (p : ℕ → Bool) → ((k : ℕ) × (k < n) × (p k ≡ true)) ⊎ ((k : ℕ) → k < n → p k ≡ false)
search_below zero p = inr (λ k l. absurd (omega arith))
search_below (suc n) p =
    elim (cases_Bool (p n)) [
      | inl here ↦ inl (n, omega arith, here)
      | inr away ↦
          elim (search_below n p) [
            | inl found ↦ inl (found.0, omega (arith, found.1), found.2)
            | inr none ↦ inr (λ k l. elim (cases_eq k n) [
              | inl e ↦ subst (λ (i : ℕ). p i ≡ false) (sym e) away
              | inr other ↦ none k (omega arith)
            ])
          ]
    ]

-- each entry of a list is the head of a dart whose tail is the list's vertex
pub entry_dart : (g : List (List ℕ)) (u i other : ℕ) → i < length (list_of g u) → (d : ℕ) × (d < dart_count g) × (tail_of g d ≡ u) × (head_of g d ≡ get_or (list_of g u) i other)
entry_dart g u i other inside =
    let (k, vertex, list) = list_of-place g u i inside in
    let at : list_of g u ≡ get_or g k [] = ap (list_of g) vertex in
    let inside' : i < length (get_or g k []) = subst (λ (l : List ℕ). i < length l) at inside in
    let s = stands_at 1 g (first_dart g k + i) k i list inside' refl in (
      first_dart g k + i,
      dart_below g _ k i s,
      tail_at g _ k i s ∙ sym vertex,
      s.head ∙ get_or_default (get_or g k []) i 0 other inside' ∙ ap (λ (l : List ℕ). get_or l i other) (sym at),
    )

-- a dart arrives at each vertex
pub vertex_has_dart : (p : PlaneModel) → IsPlane p → (v : ℕ) → 1 ≤ v → v ≤ vertices p → (d : ℕ) × (d < darts p) × (head p d ≡ v)
vertex_has_dart p plane v one most =
    let ends = plane_ends p plane in
    elim (search_below (darts p) (λ d. eqb (head p d) v)) [
      | inl found ↦ (found.0, found.1, eqb-true (head p found.0) v found.2)
      | inr none ↦
          let away : (d : ℕ) → d < darts p → head p d ≢ v = λ d l. eqb-false (head p d) v (none d l) in
          absurd (lonely p plane ends v one most away)
    ]
  where
    -- a vertex where no dart arrives would be apart from the others
    lonely : (p : PlaneModel) → IsPlane p → HasEnds p → (v : ℕ) → 1 ≤ v → v ≤ vertices p →
        ((d : ℕ) → d < darts p → head p d ≢ v) → ⊥
    lonely p plane ends v one most away =
        let no_tail : (d : ℕ) → d < darts p → tail p d ≢ v = λ d l h.
        away (reverse_dart p d) (ends.reverse_dart_in_range d l) (ends.reverse_dart_head d l ∙ h) in
        elim (cases_eq v 1) [
          | inl is_one ↦
              let s : ℕ → Bool = λ u. eqb u 1 in
              let closed : IsClosed p.lists s = λ u here i other inside.
              let entry = entry_dart p.lists u i other inside in
              absurd (no_tail entry.0 entry.1 (entry.2 ∙ eqb-true u 1 here ∙ sym is_one)) in
              let out : tail p 0 ≢ 1 = λ h. no_tail 0 ends.some_darts (h ∙ sym is_one) in
              plane.rules Disconnected (omega arith)
              (s, refl, closed, (tail p 0, ends.tail_from 0 ends.some_darts, ends.tail_to 0 ends.some_darts, ne_eqb (tail p 0) 1 out))
          | inr not_one ↦
              let s : ℕ → Bool = λ u. not (eqb u v) in
              let closed : IsClosed p.lists s = λ u here i other inside.
              let entry = entry_dart p.lists u i other inside in
              let apart : head p entry.0 ≢ v = away entry.0 entry.1 in
              subst (λ (w : ℕ). not (eqb w v) ≡ true) entry.3 (not_from_false (eqb (head p entry.0) v) (ne_eqb (head p entry.0) v apart)) in
              plane.rules Disconnected (omega arith) (
                s,
                not_from_false (eqb 1 v) (ne_eqb 1 v (λ h. not_one (sym h))),
                closed,
                (v, one, most, not_from_true (eqb v v) (eq-eqb v v refl)),
              )
        ]

-- one, where the dart leaves the vertex
abbrev leaving : PlaneModel → ℕ → ℕ → ℕ
leaving p v d = if tail p d == v then 1 else 0

-- as many darts arrive at a vertex as leave it
pub vertex_degree-leaving : (p : PlaneModel) → HasEnds p → (v : ℕ) → vertex_degree p v ≡ sum_below (darts p) (λ d. if tail p d == v then 1 else 0)
vertex_degree-leaving p ends v =
    sym (sum_below-turned (darts p) (reverse_dart p) (λ d. if head p d == v then 1 else 0) ends.reverse_dart_in_range ends.reverse_dart_back)
    ∙ sum_below-same (darts p) (λ d. if head p (reverse_dart p d) == v then 1 else 0) (λ d. if tail p d == v then 1 else 0)
    (λ d l. ap (λ (u : ℕ). if u == v then 1 else 0) (ends.reverse_dart_head d l))

cases_one : (b : Bool) → (if b then 1 else 0) ≤ 1
cases_one true = omega arith
cases_one false = omega arith

-- what is 1 at `len` consecutive places, and else 0, sums to as many of them as lie below n
counted : (n first len : ℕ) (f : ℕ → ℕ) → ((d : ℕ) → d < n → first ≤ d → d < first + len → f d ≡ 1) →
    ((d : ℕ) → d < n → (d < first) ⊎ (first + len ≤ d) → f d ≡ 0) → sum_below n f ≡ min (n - first) len
counted zero first len f ones zeros = omega arith
counted (suc n) first len f ones zeros =
    let before : sum_below n f ≡ min (n - first) len = counted n first len f (λ d l. ones d (omega arith)) (λ d l. zeros d (omega arith)) in
    elim (cases_lt n first) [
      | inl low ↦ omega (arith, before, zeros n (omega arith) (inl low), low)
      | inr high ↦
          elim (cases_lt n (first + len)) [
            | inl within ↦ omega (arith, before, ones n (omega arith) (omega (arith, high)) within, high, within)
            | inr beyond ↦ omega (arith, before, zeros n (omega arith) (inr (omega (arith, beyond))), high, beyond)
          ]
    ]

-- as many darts arrive at a vertex as its list has entries
pub vertex_degree-degree : (p : PlaneModel) → IsPlane p → (v : ℕ) → 0 < v → v ≤ vertices p → vertex_degree p v ≡ length (list_of p.lists v)
vertex_degree-degree p plane zero some within = absurd (omega (arith, some))
vertex_degree-degree p plane (suc k) some within =
    let first : ℕ = first_dart p.lists k in
    let len : ℕ = length (get_or p.lists k []) in
    let place : k < length p.lists = omega (arith, within) in
    let below : (i : ℕ) → i < len → first + i < darts p = λ i l. dart_below p.lists (first + i) k i (stands_at 1 p.lists (first + i) k i place l refl) in
    let all : min (darts p - first) len ≡ len =
    elim (cases_lt 0 len) [
      | inl long ↦ omega (arith, below (len - 1) (omega (arith, long)), long)
      | inr none ↦ omega (arith, none)
    ] in
    vertex_degree-leaving p (plane_ends p plane) (suc k) ∙ counted (darts p) first len (leaving p (suc k)) (here p k place) (elsewhere p k) ∙ all
  where
    here : (p : PlaneModel) (k : ℕ) → k < length p.lists → (d : ℕ) → d < darts p → first_dart p.lists k ≤ d →
        d < first_dart p.lists k + length (get_or p.lists k []) → leaving p (suc k) d ≡ 1
    here p k place d l from to =
        let stands = stands_at 1 p.lists d k (d - first_dart p.lists k) place (omega (arith, from, to)) (omega (arith, from)) in
        cond-true {A = ℕ} (eqb (tail p d) (suc k)) 1 0 (eq-eqb (tail p d) (suc k) (tail_at p.lists d k (d - first_dart p.lists k) stands))

    elsewhere : (p : PlaneModel) (k : ℕ) → (d : ℕ) → d < darts p →
        (d < first_dart p.lists k) ⊎ (first_dart p.lists k + length (get_or p.lists k []) ≤ d) → leaving p (suc k) d ≡ 0
    elsewhere p k d l away =
        elim (cases_eq (tail p d) (suc k)) [
          | inr other ↦ cond-false {A = ℕ} (eqb (tail p d) (suc k)) 1 0 (ne_eqb (tail p d) (suc k) other)
          | inl same ↦
              let (j, i, at) = dart_stands 1 p.lists d l in
              let list : j ≡ k = omega (arith, tail_at p.lists d j i at, same) in
              let place : i < length (get_or p.lists k []) = subst (λ (m : ℕ). i < length (get_or p.lists m [])) list at.place in
              let number : d ≡ first_dart p.lists k + i = subst (λ (m : ℕ). d ≡ first_dart p.lists m + i) list at.number in
              elim away [
                | inl low ↦ absurd (omega (arith, number, low))
                | inr high ↦ absurd (omega (arith, number, place, high))
              ]
        ]

-- what is at most 1, and 0 except at four consecutive places, sums to at most 4
near_few : (n first : ℕ) (f : ℕ → ℕ) → ((d : ℕ) → f d ≤ 1) →
    ((d : ℕ) → d < n → ((first ≤ d) × (d < first + 4)) ⊎ (f d ≡ 0)) → sum_below n f ≤ 4
near_few n first f ones near = omega (arith, capped n first f ones near)
  where
    -- the part of the four places that is below n bounds the sum
    capped : (n first : ℕ) (f : ℕ → ℕ) → ((d : ℕ) → f d ≤ 1) →
        ((d : ℕ) → d < n → ((first ≤ d) × (d < first + 4)) ⊎ (f d ≡ 0)) → sum_below n f ≤ min (n - first) 4
    capped zero first f ones near = omega arith
    capped (suc n) first f ones near =
        let before : sum_below n f ≤ min (n - first) 4 = capped n first f ones (λ d l. near d (omega arith)) in
        elim (near n (omega arith)) [
          | inl here ↦ omega (arith, before, ones n, here.0, here.1)
          | inr nothing ↦ omega (arith, before, nothing)
        ]

-- at most four darts leave a vertex
pub arrivals_most : (p : PlaneModel) → IsPlane p → (v : ℕ) → vertex_degree p v ≤ 4
arrivals_most p plane v =
    let ends = plane_ends p plane in
    elim (search_below (darts p) (λ d. eqb (tail p d) v)) [
      | inr none ↦
          let nothing : sum_below (darts p) (λ d. if tail p d == v then 1 else 0) ≡ 0 =
          sum_below-none (darts p) (λ d. if tail p d == v then 1 else 0)
          (λ d l. cond-false {A = ℕ} (eqb (tail p d) v) 1 0 (none d l)) in
          omega (arith, vertex_degree-leaving p ends v, nothing)
      | inl found ↦
          let (k, i, at) = dart_stands 1 p.lists found.0 found.1 in
          let vertex : suc k ≡ v = sym (tail_at p.lists found.0 k i at) ∙ eqb-true (tail p found.0) v found.2 in
          let short : length (get_or p.lists k []) ≤ 4 =
          list_of-short p.lists (seven_rules p.lists plane.rules) (suc k) in
          omega (arith, vertex_degree-leaving p ends v, few p v k vertex short)
    ]
  where
    -- those that leave it are consecutive
    few : (p : PlaneModel) (v k : ℕ) → suc k ≡ v → length (get_or p.lists k []) ≤ 4 →
        sum_below (darts p) (λ d. if tail p d == v then 1 else 0) ≤ 4
    few p v k vertex short =
        let f : ℕ → ℕ = λ d. if tail p d == v then 1 else 0 in
        let first : ℕ = first_dart p.lists k in
        near_few (darts p) first f (λ d. cases_one (eqb (tail p d) v)) (within p v k vertex short)
      where
        within : (p : PlaneModel) (v k : ℕ) → suc k ≡ v → length (get_or p.lists k []) ≤ 4 →
            (d : ℕ) → d < darts p → ((first_dart p.lists k ≤ d) × (d < first_dart p.lists k + 4)) ⊎ (leaving p v d ≡ 0)
        within p v k vertex short d l =
            elim (cases_eq (tail p d) v) [
              | inr other ↦ inr (cond-false {A = ℕ} (eqb (tail p d) v) 1 0 (ne_eqb (tail p d) v other))
              | inl same ↦
                  let (j, i, at) = dart_stands 1 p.lists d l in
                  let list : j ≡ k = omega (arith, tail_at p.lists d j i at, same, vertex) in
                  let place : i < length (get_or p.lists k []) = subst (λ (m : ℕ). i < length (get_or p.lists m [])) list at.place in
                  let number : d ≡ first_dart p.lists k + i = subst (λ (m : ℕ). d ≡ first_dart p.lists m + i) list at.number in
                  inl (omega (arith, number), omega (arith, number, place, short))
            ]
