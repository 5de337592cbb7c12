-- Coordinates that are raised along steps, and what the steps are.
use Rattle.std.proofs.Common.{◌≡◌, ◌≢◌, ℕ, ◌+◌, ◌*◌, ◌%◌, ◌<◌, ◌≤◌, ◌∙◌, List, length, slice_index, set, replicate, All, arith, subst, sym, ap, refl, inl, inr, get_or-set_same, get_or-set_other}
use Rattle.std.proofs.lemmas.Bool.{cases_eq}
use Rattle.std.proofs.lemmas.List.{length-set}
use Rattle.std.proofs.lemmas.List.Elements.{All-replicate}
use Rattle.dissect.specs.DartMaps.{DartMap, IsSound}
use Rattle.compact.specs.declared.axis.Axis.{Axis}
use Rattle.compact.specs.declared.axis.Axis.TheVariants.{X, Y}
use Rattle.compact.specs.Monotone.{tail, growth, across, IsAcross, IsAlong}
use Rattle.compact.specs.Neighbours.{neighbour, AreNeighbours, HasNeighbours, Grow, StayEqual, AreUnder}
use Rattle.compact.proofs.OneWay.{one_leaves}

-- a coordinate raised to one that is not above y stays under y
pub raised_under : (xs new : List ℕ) (n to need : ℕ) (y : ℕ → ℕ) → to < length xs → new ≡ set xs to need → need ≤ y to → AreUnder n xs y → AreUnder n new y
raised_under xs new n to need y to_in made enough under v v_in =
    elim (cases_eq to v) [
      | inl same ↦
          let here : slice_index new v ≡ need = ap (λ (zs : List ℕ). slice_index zs v) made ∙ subst (λ (k : ℕ). slice_index (set xs to need) k ≡ need) same (get_or-set_same xs to need 0 to_in) in
          let above : y to ≡ y v = ap y same in
          omega (arith, here, enough, above)
      | inr other ↦
          let here : slice_index new v ≡ slice_index xs v = ap (λ (zs : List ℕ). slice_index zs v) made ∙ get_or-set_other xs to v need 0 (λ e. other (sym e)) in
          omega (arith, here, under v v_in)
    ]

-- each dart writes its step
pub step_written : (w : DartMap) (a : ℕ) (around new : List ℕ) (n place to : ℕ) → a < w.darts → w.direction a < 4 → place ≡ 4 * tail w a + w.direction a →
    place < length around → to ≡ w.head a → new ≡ set around place to → AreNeighbours w around n → AreNeighbours w new n
step_written w a around new n place to a_in few here there is made are v d v_in d_in real =
    elim (cases_eq place (4 * v + d)) [
      | inl same ↦
          let value : neighbour new d v ≡ to = ap (λ (zs : List ℕ). neighbour zs d v) made ∙ subst (λ (k : ℕ). slice_index (set around place to) k ≡ to) same (get_or-set_same around place to 0 there) in
          (a, a_in, omega (arith, same, here, few, d_in), omega (arith, same, here, few, d_in), sym is ∙ sym value)
      | inr other ↦
          let value : neighbour new d v ≡ neighbour around d v = ap (λ (zs : List ℕ). neighbour zs d v) made ∙ get_or-set_other around place (4 * v + d) to 0 (λ e. other (sym e)) in
          let (b, b_in, b_way, b_from, b_to) = are v d v_in d_in (subst (λ (k : ℕ). k < n) value real) in
          (b, b_in, b_way, b_from, b_to ∙ sym value)
    ]

-- and writes over no other one's, as no other dart leaves its vertex in its direction
pub step_kept : (w : DartMap) (a : ℕ) (around new : List ℕ) (place to : ℕ) → IsSound w → a < w.darts → place ≡ 4 * tail w a + w.direction a →
    place < length around → to ≡ w.head a → new ≡ set around place to → HasNeighbours w around a → HasNeighbours w new (a + 1)
step_kept w a around new place to sound a_in here there is made has b below =
    let at : ℕ = 4 * tail w b + w.direction b in
    elim (cases_eq b a) [
      | inl same ↦
          let value : slice_index new place ≡ to = ap (λ (zs : List ℕ). slice_index zs place) made ∙ get_or-set_same around place to 0 there in
          subst (λ (c : ℕ). neighbour new (w.direction c) (tail w c) ≡ w.head c) (sym same)
          (subst (λ (k : ℕ). slice_index new k ≡ w.head a) here (value ∙ is))
      | inr other ↦
          let b_in : b < w.darts = omega (arith, below, a_in) in
          let few_a = sound.meeting.quarter a a_in in
          let few_b = sound.meeting.quarter b b_in in
          let apart : at ≢ place = λ e. other (one_leaves w b a sound b_in a_in (omega (arith, e, here, few_a, few_b)) (omega (arith, e, here, few_a, few_b))) in
          ap (λ (zs : List ℕ). slice_index zs at) made ∙ get_or-set_other around place at to 0 apart ∙ has b (omega (arith, below, other))
    ]

-- coordinates in the order of the darts along an axis grow by 1 along its direction
pub grow_ahead : (w : DartMap) (k : ℕ) (around : List ℕ) (n : ℕ) (y : ℕ → ℕ) → k < 4 → AreNeighbours w around n → IsAlong w k y → Grow (neighbour around k) n y
grow_ahead w k around n y k_in are along v v_in real =
    let (a, a_in, way, from, to) = are v k v_in k_in real in
    omega (arith, along.forward a a_in way, ap y from, ap y to)

-- and stay the same across it, as the two darts of each edge say
pub equal_across : (w : DartMap) (k d : ℕ) (around : List ℕ) (n : ℕ) (y : ℕ → ℕ) → IsSound w → k < 2 → d < 4 → d ≢ k → d ≢ k + 2 → AreNeighbours w around n → IsAlong w k y → StayEqual (neighbour around d) n y
equal_across w k d around n y sound k_in d_in one two are along v v_in real =
    let (a, a_in, way, from, to) = are v d v_in d_in real in
    let b = w.reverse_dart a in
    let b_in : b < w.darts = sound.tied.reverse_dart_in a a_in in
    let back : w.direction b ≡ (w.direction a + 2) % 4 = sound.straight a a_in in
    let tail_b : tail w b ≡ w.head a = ap w.head (sound.tied.reverse_dart_back a a_in) in
    let there = along.across a a_in (λ e. one (sym way ∙ e)) (λ e. two (sym way ∙ e)) in
    let here = along.across b b_in (λ e. two (omega (arith, e, back, way, k_in, d_in, one))) (λ e. one (omega (arith, e, back, way, k_in, d_in, two))) in
    omega (arith, there, here, ap y from, ap y to, ap y tail_b)

pub growth_few : (axis : Axis) → growth axis < 2
growth_few X = omega arith
growth_few Y = omega arith

-- a quarter turn to the left of an axis is across it
pub across_far : (axis : Axis) → IsAcross (growth axis) (across axis)
across_far X = (λ e. omega (arith, e), λ e. omega (arith, e))
across_far Y = (λ e. omega (arith, e), λ e. omega (arith, e))

-- coordinates that grow along the steps in one direction of an axis, and stay the same along those across it, are in
-- the order of all darts: the other darts go back along these steps
pub along_steps : (w : DartMap) (k d : ℕ) (around : List ℕ) (x : ℕ → ℕ) → IsSound w → k < 2 → k + d ≡ 1 →
    HasNeighbours w around w.darts → Grow (neighbour around k) w.vertices x → StayEqual (neighbour around d) w.vertices x → IsAlong w k x
along_steps w k d around x sound k_in other has grow equal =
    let head_in = sound.meeting.head_in in
    let reverse_in = sound.tied.reverse_dart_in in
    let to : (e a : ℕ) → a < w.darts → w.direction a ≡ e → neighbour around e (tail w a) ≡ w.head a =
    λ e a a_in way. subst (λ (m : ℕ). neighbour around m (tail w a) ≡ w.head a) way (has a a_in) in
    let from_in : (a : ℕ) → a < w.darts → tail w a < w.vertices = λ a a_in. head_in (w.reverse_dart a) (reverse_in a a_in) in
    let to_in : (e a : ℕ) → a < w.darts → w.direction a ≡ e → neighbour around e (tail w a) < w.vertices =
    λ e a a_in way. omega (arith, to e a a_in way, head_in a a_in) in
    let beside : (a : ℕ) → a < w.darts → w.direction a ≡ d → x (w.head a) ≡ x (tail w a) =
    λ a a_in way. ap x (sym (to d a a_in way)) ∙ equal (tail w a) (from_in a a_in) (to_in d a a_in way) in
    record {
      forward = λ a a_in way. omega (arith, grow (tail w a) (from_in a a_in) (to_in k a a_in way), ap x (to k a a_in way));
      across = λ a a_in one two. elim (cases_eq (w.direction a) d) [
        | inl way ↦ omega (arith, beside a a_in way)
        | inr turned ↦
            let b = w.reverse_dart a in
            let b_in : b < w.darts = reverse_in a a_in in
            let way : w.direction b ≡ d = omega (arith, sound.straight a a_in, sound.meeting.quarter a a_in, turned, one, two, k_in, other) in
            let tail_b : tail w b ≡ w.head a = ap w.head (sound.tied.reverse_dart_back a a_in) in
            omega (arith, beside b b_in way, ap x tail_b)
      ];
    }

-- the steps in this direction from the first vertices keep the order: the coordinates along it grow, those across it stay
pub record AreKeptTo (around : List ℕ) (d vertices : ℕ) (along across : List ℕ) : Type 0 where
  pub grows : (v : ℕ) → v < vertices → neighbour around d v < length along → slice_index along v + 1 ≤ slice_index along (neighbour around d v)
  pub equal : (v : ℕ) → v < vertices → neighbour around d v < length along → slice_index across (neighbour around d v) ≡ slice_index across v

-- with one vertex more
pub kept_next : (around : List ℕ) (d v to : ℕ) (along across : List ℕ) → to ≡ neighbour around d v →
    (to < length along → slice_index along v + 1 ≤ slice_index along to) → (to < length along → slice_index across to ≡ slice_index across v) →
    AreKeptTo around d v along across → AreKeptTo around d (v + 1) along across
kept_next around d v to along across is grows equal so_far =
    let grows_here = subst (λ (u : ℕ). u < length along → slice_index along v + 1 ≤ slice_index along u) is grows in
    let equal_here = subst (λ (u : ℕ). u < length along → slice_index across u ≡ slice_index across v) is equal in
    record {
      grows = λ u below. elim (cases_eq u v) [
        | inl same ↦ subst (λ (t : ℕ). neighbour around d t < length along → slice_index along t + 1 ≤ slice_index along (neighbour around d t)) (sym same) grows_here
        | inr other ↦ so_far.grows u (omega (arith, below, other))
      ];
      equal = λ u below. elim (cases_eq u v) [
        | inl same ↦ subst (λ (t : ℕ). neighbour around d t < length along → slice_index across (neighbour around d t) ≡ slice_index across t) (sym same) equal_here
        | inr other ↦ so_far.equal u (omega (arith, below, other))
      ];
    }

-- with all of them, the coordinates are in the order of the darts
pub kept_along : (w : DartMap) (k d : ℕ) (around x y : List ℕ) → IsSound w → length x ≡ w.vertices → length y ≡ w.vertices → k < 2 → k + d ≡ 1 →
    HasNeighbours w around w.darts → AreKeptTo around k w.vertices x y → AreKeptTo around d w.vertices y x → IsAlong w k (λ v. slice_index x v)
kept_along w k d around x y sound x_all y_all k_in other has ahead beside =
    along_steps w k d around (λ v. slice_index x v) sound k_in other has
    (λ v v_in real. ahead.grows v v_in (omega (arith, real, x_all)))
    (λ v v_in real. beside.equal v v_in (omega (arith, real, y_all)))

-- zeros are nowhere above any coordinates
pub zeros_under : (xs : List ℕ) (m n : ℕ) (y : ℕ → ℕ) → xs ≡ replicate m 0 → length xs ≡ n → AreUnder n xs y
zeros_under xs m n y made size v v_in =
    let zeros : All (λ x. x ≡ 0) xs = subst (λ (zs : List ℕ). All (λ x. x ≡ 0) zs) (sym made) (All-replicate (λ x. x ≡ 0) m 0 refl) in
    omega (arith, zeros v 0 (omega (arith, v_in, size)))
