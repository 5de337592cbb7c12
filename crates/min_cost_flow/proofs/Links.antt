-- The numbers of residual arcs, and the linked lists of those that start at a node.
use Rattle.std.proofs.Common.{◌≡◌, ◌≢◌, ◌<◌, ◌≤◌, ℕ, zero, suc, ◌+◌, ◌-◌, ◌*◌, ◌/◌, ◌%◌, Bool, true, false, cond, eqb, refl, sym, ◌∙◌, ap, subst, inl, inr, arith, List, length, set, get_or-set_same, get_or-set_other}
use Rattle.std.specs.Prelude.{bit_xor}
use Rattle.std.specs.Int.Bits.{xor_zero_r}
use Rattle.std.proofs.lemmas.Nat.{xor_block}
use Rattle.std.proofs.lemmas.Bool.{cases_eq, eq-eqb, ne_eqb, cond-true, cond-false}
use Rattle.common.proofs.Sums.{sum_below-none, sum_below-member}
use Rattle.min_cost_flow.specs.declared.residual_network.TheConstants.{NONE}
use Rattle.min_cost_flow.specs.declared.residual_network.ResidualArc.{ResidualArc}
use Rattle.min_cost_flow.specs.Networks.{NetworkModel, arc_count}
use Rattle.min_cost_flow.specs.Flow.{start_of, end_of}
use Rattle.min_cost_flow.specs.ResidualArcs.{numbers, end_at, next_at, start_at, number_of, reverse_of, StartsAt, started, out_degree, IsLatest, IsLinked, AreResidualArcs}

-- ---- numbers and reverses

even_reverse : (k : ℕ) → k % 2 ≡ 0 → reverse_of k ≡ k + 1
unfolding reverse_of
even_reverse k h = cond-true {A = ℕ} (eqb (k % 2) 0) (k + 1) (k - 1) (eq-eqb (k % 2) 0 h)

odd_reverse : (k : ℕ) → k % 2 ≡ 1 → reverse_of k ≡ k - 1
unfolding reverse_of
odd_reverse k h = cond-false {A = ℕ} (eqb (k % 2) 0) (k + 1) (k - 1) (ne_eqb (k % 2) 0 (λ t. absurd (omega arith)))

-- the numbers of the two residual arcs of an arc
pub reverse_along : (i : ℕ) → reverse_of (2 * i) ≡ 2 * i + 1
reverse_along i = even_reverse (2 * i) (omega arith)

pub reverse_back : (i : ℕ) → reverse_of (2 * i + 1) ≡ 2 * i
reverse_back i = odd_reverse (2 * i + 1) (omega arith) ∙ omega arith

unfoldable pub other_way : Bool → Bool
other_way false = true
other_way true = false

pub reverse_is : (i : ℕ) (back : Bool) → reverse_of (number_of i back) ≡ number_of i (other_way back)
unfolding other_way
reverse_is i false = reverse_along i
reverse_is i true = reverse_back i

-- each number is that of a residual arc
pub number_parts : (k : ℕ) → (i : ℕ) × (back : Bool) × (number_of i back ≡ k)
number_parts k =
    elim (cases_eq (k % 2) 0) [
      | inl h ↦ (k / 2, false, omega arith)
      | inr h ↦ (k / 2, true, omega arith)
    ]

pub number_alone : (i j : ℕ) (b c : Bool) → number_of i b ≡ number_of j c → (i ≡ j) × (b ≡ c)
number_alone i j false false h = (omega arith, refl)
number_alone i j false true h = absurd (omega arith)
number_alone i j true false h = absurd (omega arith)
number_alone i j true true h = (omega arith, refl)

pub number_below : (m i : ℕ) (back : Bool) → i < m → number_of i back < m + m
number_below m i false h = omega arith
number_below m i true h = omega arith

pub reverse_twice : (k : ℕ) → reverse_of (reverse_of k) ≡ k
reverse_twice k =
    elim (cases_eq (k % 2) 0) [
      | inl h ↦ let r : reverse_of k ≡ k + 1 = even_reverse k h in ap reverse_of r ∙ odd_reverse (k + 1) (omega arith) ∙ omega arith
      | inr h ↦ let r : reverse_of k ≡ k - 1 = odd_reverse k (omega arith) in ap reverse_of r ∙ even_reverse (k - 1) (omega arith) ∙ omega arith
    ]

-- no residual arc is its own reverse
pub reverse_apart : (k : ℕ) → k ≢ reverse_of k
reverse_apart k e =
    elim (cases_eq (k % 2) 0) [
      | inl h ↦ let r : reverse_of k ≡ k + 1 = even_reverse k h in absurd (omega arith)
      | inr h ↦ let r : reverse_of k ≡ k - 1 = odd_reverse k (omega arith) in absurd (omega arith)
    ]

pub reverse_below : (m k : ℕ) → k < m + m → reverse_of k < m + m
reverse_below m k b =
    elim (cases_eq (k % 2) 0) [
      | inl h ↦ let r : reverse_of k ≡ k + 1 = even_reverse k h in omega arith
      | inr h ↦ let r : reverse_of k ≡ k - 1 = odd_reverse k (omega arith) in omega arith
    ]

-- as the code computes it
pub flipped : (k : ℕ) → bit_xor k 1 ≡ reverse_of k
flipped k =
    let parts : bit_xor (k / 2 * 2 + k % 2) 1 ≡ bit_xor (k / 2) 0 * 2 + bit_xor (k % 2) 1 = xor_block 1 (k / 2) 0 (k % 2) 1 (omega arith) (omega arith) in
    let whole : bit_xor k 1 ≡ k / 2 * 2 + bit_xor (k % 2) 1 = ap (λ (n : ℕ). bit_xor n 1) (omega arith) ∙ parts ∙ ap (λ (n : ℕ). n * 2 + bit_xor (k % 2) 1) (xor_zero_r (k / 2)) in
    elim (cases_eq (k % 2) 0) [
      | inl h ↦ let last : bit_xor (k % 2) 1 ≡ 1 = ap (λ (n : ℕ). bit_xor n 1) h in whole ∙ omega arith ∙ sym (even_reverse k h)
      | inr h ↦ let odd : k % 2 ≡ 1 = omega arith in let last : bit_xor (k % 2) 1 ≡ 0 = ap (λ (n : ℕ). bit_xor n 1) odd in whole ∙ omega arith ∙ sym (odd_reverse k odd)
    ]

-- ---- where residual arcs start

pub other_way_end : (net : NetworkModel) (i : ℕ) (back : Bool) → end_of net i (other_way back) ≡ start_of net i back
unfolding other_way
other_way_end net i false = refl
other_way_end net i true = refl

-- number k is that of residual arc (arc, back), which starts at node v
pub record StemsFromArc (net : NetworkModel) (v k : ℕ) : Type 0 where
  pub arc : ℕ
  pub back : Bool
  pub inside : arc < arc_count net
  pub place : number_of arc back ≡ k
  pub start : start_of net arc back ≡ v

pub start_is : (net : NetworkModel) (capacity : ℕ → ℕ) (arcs : List ResidualArc) (i : ℕ) (back : Bool) → AreResidualArcs net capacity arcs → i < arc_count net → start_at arcs (number_of i back) ≡ start_of net i back
start_is net capacity arcs i back f b = ap (end_at arcs) (reverse_is i back) ∙ f.end i (other_way back) b ∙ other_way_end net i back

-- a residual arc of arc i starts where it should
pub starts_there : (net : NetworkModel) (capacity : ℕ → ℕ) (arcs : List ResidualArc) (i : ℕ) (back : Bool) → AreResidualArcs net capacity arcs → i < arc_count net → StartsAt arcs (start_of net i back) (number_of i back)
starts_there net capacity arcs i back f b = record {
  inside = omega (arith, f.arc_size, number_below (arc_count net) i back b);
  start = start_is net capacity arcs i back f b;
}

pub arc_below : (m k i : ℕ) (back : Bool) → number_of i back ≡ k → k < m + m → i < m
arc_below m k i false e b = omega arith
arc_below m k i true e b = omega arith

pub stems_from_arc : (net : NetworkModel) (capacity : ℕ → ℕ) (arcs : List ResidualArc) (v k : ℕ) → AreResidualArcs net capacity arcs → StartsAt arcs v k → StemsFromArc net v k
stems_from_arc net capacity arcs v k f st =
    let (i, back, e) = number_parts k in
    let b : i < arc_count net = arc_below (arc_count net) k i back e (omega (arith, st.inside, f.arc_size)) in
    record {
      arc = i;
      back = back;
      inside = b;
      place = e;
      start = sym (start_is net capacity arcs i back f b) ∙ ap (start_at arcs) e ∙ st.start;
    }

-- ---- how many start at a node

started_here : (start : ℕ → ℕ) (v k : ℕ) → start k ≡ v → started start v (suc k) ≡ started start v k + 1
started_here start v k h = ap (λ (n : ℕ). started start v k + n) (cond-true {A = ℕ} (eqb v (start k)) 1 0 (eq-eqb v (start k) (sym h)))

started_other : (start : ℕ → ℕ) (v k : ℕ) → start k ≢ v → started start v (suc k) ≡ started start v k
started_other start v k ne = ap (λ (n : ℕ). started start v k + n) (cond-false {A = ℕ} (eqb v (start k)) 1 0 (ne_eqb v (start k) (λ e. ne (sym e)))) ∙ omega arith

started_none : (start : ℕ → ℕ) (v k : ℕ) → ((j : ℕ) → j < k → start j ≢ v) → started start v k ≡ 0
started_none start v k none = sum_below-none k (λ j. cond {A = ℕ} (eqb v (start j)) 1 0) (λ j b. cond-false {A = ℕ} (eqb v (start j)) 1 0 (ne_eqb v (start j) (λ e. none j b (sym e))))

pub started_most : (start : ℕ → ℕ) (v k : ℕ) → started start v k ≤ k
started_most start v zero = omega arith
started_most start v (suc k) =
    elim (cases_eq (start k) v) [
      | inl h ↦ omega (arith, started_here start v k h, started_most start v k)
      | inr h ↦ omega (arith, started_other start v k h, started_most start v k)
    ]

-- one that starts at a node counts there
pub some_start : (arcs : List ResidualArc) (v k : ℕ) → StartsAt arcs v k → 0 < out_degree arcs v
some_start arcs v k st =
    let one : cond {A = ℕ} (eqb v (start_at arcs k)) 1 0 ≡ 1 = cond-true {A = ℕ} (eqb v (start_at arcs k)) 1 0 (eq-eqb v (start_at arcs k) (sym st.start)) in
    omega (arith, sum_below-member (length arcs) k (λ j. cond {A = ℕ} (eqb v (start_at arcs j)) 1 0) st.inside)

-- ---- the latest one

-- it is the only one from there on
started_since : (start : ℕ → ℕ) (v k number : ℕ) → number < k → start number ≡ v → ((j : ℕ) → number < j → j < k → start j ≢ v) → started start v k ≡ started start v number + 1
started_since start v zero number less here none = absurd (omega arith)
started_since start v (suc k) number less here none =
    elim (cases_eq number k) [
      | inl e ↦ subst (λ (n : ℕ). started start v (suc k) ≡ started start v n + 1) (sym e) (started_here start v k (ap start (sym e) ∙ here))
      | inr ne ↦ started_other start v k (none k (omega arith) (omega arith)) ∙ started_since start v k number (omega arith) here (λ j a b. none j a (omega arith))
    ]

pub latest_counts : (start : ℕ → ℕ) (v k number : ℕ) → IsLatest start v k number → number ≢ NONE → started start v k ≡ started start v number + 1
latest_counts start v k number l some =
    started_since start v k number (l.found some).0 (l.found some).1 (λ j a b h. let most : j ≤ number = (l.latest j b h).1 in absurd (omega arith))

pub latest_none : (start : ℕ → ℕ) (v k number : ℕ) → IsLatest start v k number → number ≡ NONE → started start v k ≡ 0
latest_none start v k number l none = started_none start v k (λ j b h. (l.latest j b h).0 none)

-- number k becomes the latest at its node
latest_here : (start : ℕ → ℕ) (k : ℕ) → k < NONE → IsLatest start (start k) (k + 1) k
latest_here start k few = record {
  found = λ ne. (omega arith, refl);
  latest = λ j b h. ((λ e. absurd (omega arith)), omega arith);
}

-- and at the other nodes all stays
latest_other : (start : ℕ → ℕ) (v k number : ℕ) → start k ≢ v → IsLatest start v k number → IsLatest start v (k + 1) number
latest_other start v k number ne l = record {
  found = λ some. let (b, at) = l.found some in (omega arith, at);
  latest = λ j b h. elim (cases_eq j k) [
    | inl e ↦ absurd (ne (ap start (sym e) ∙ h))
    | inr d ↦ l.latest j (omega arith) h
  ];
}

-- the first ones of all nodes, once number k was put there
pub pushed_first : (start : ℕ → ℕ) (k w : ℕ) (xs ys : List ℕ) → k < NONE → start k ≡ w → w < length xs → ys ≡ set xs w k → ((v : ℕ) → v < length xs → IsLatest start v k (numbers xs v)) → (v : ℕ) → v < length xs → IsLatest start v (k + 1) (numbers ys v)
pushed_first start k w xs ys few here inside is all v b =
    elim (cases_eq v w) [
      | inl e ↦
          let at : numbers ys w ≡ k = ap (λ (l : List ℕ). numbers l w) is ∙ get_or-set_same xs w k 0 inside in
          subst (λ (u : ℕ). IsLatest start u (k + 1) (numbers ys u)) (here ∙ sym e) (subst (λ (u : ℕ). IsLatest start (start k) (k + 1) u) (sym (ap (numbers ys) here ∙ at)) (latest_here start k few))
      | inr ne ↦
          let at : numbers ys v ≡ numbers xs v = ap (λ (l : List ℕ). numbers l v) is ∙ get_or-set_other xs w v k 0 ne in
          rw at (latest_other start v k (numbers xs v) (λ h. ne (sym h ∙ here)) (all v b))
    ]

-- only the starts below k matter
pub latest_same : (start start' : ℕ → ℕ) (v k number : ℕ) → ((j : ℕ) → j < k → start' j ≡ start j) → IsLatest start v k number → IsLatest start' v k number
latest_same start start' v k number same l = record {
  found = λ some. let (b, at) = l.found some in (b, same number b ∙ at);
  latest = λ j b h. l.latest j b (sym (same j b) ∙ h);
}

-- ---- lists stay as they are where ends and next ones do

pub linked_same : (n : ℕ) (first : List ℕ) (arcs arcs' : List ResidualArc) → length arcs' ≡ length arcs → ((k : ℕ) → end_at arcs' k ≡ end_at arcs k) → ((k : ℕ) → next_at arcs' k ≡ next_at arcs k) → IsLinked n first arcs → IsLinked n first arcs'
linked_same n first arcs arcs' size ends nexts l =
    let starts : (k : ℕ) → start_at arcs' k ≡ start_at arcs k = λ k. ends (reverse_of k) in
    record {
      starts = l.starts;
      begins = λ v b. rw size (latest_same (start_at arcs) (start_at arcs') v (length arcs) (numbers first v) (λ j _. starts j) (l.begins v b));
      goes_on = λ k b. rw (starts k, nexts k) (latest_same (start_at arcs) (start_at arcs') (start_at arcs k) k (next_at arcs k) (λ j _. starts j) (l.goes_on k (omega (arith, size))));
    }
