-- Residual arcs by number, those of arc i at 2i, along it, and 2i + 1, back along it, and the linked lists of those
-- that start at a node.
use Rattle.std.specs.Prelude.{ℕ, ◌+◌, ◌-◌, ◌<◌, ◌≤◌, ◌*◌, ◌%◌, ◌^◌, ◌==◌, ◌≡◌, ◌≢◌, ℤ, pos, ◌+ℤ◌, Bool, true, false, if◌then◌else◌, List, length, slice_index, slice_index_or}
use Rattle.common.specs.Sums.{sum_below}
use Rattle.min_cost_flow.specs.declared.residual_network.TheConstants.{NONE, SATURATED}
use Rattle.min_cost_flow.specs.declared.network.Cap.{Cap}
use Rattle.min_cost_flow.specs.declared.network.Cap.TheVariants.{AtMost, Any}
use Rattle.min_cost_flow.specs.declared.residual_network.ResidualArc.{ResidualArc}
use Rattle.min_cost_flow.specs.Networks.{NetworkModel, arc_count, arc_at}
use Rattle.min_cost_flow.specs.Flow.{end_of, unit_cost}

abbrev pub numbers : List ℕ → ℕ → ℕ
numbers xs i = slice_index xs i

-- stands for residual arcs past the last
abbrev pub no_residual_arc : ResidualArc
no_residual_arc = record { end = 0; cost = pos 0; next = 0 }

abbrev pub end_at : List ResidualArc → ℕ → ℕ
end_at arcs k = (slice_index_or arcs k no_residual_arc).end

abbrev pub cost_at : List ResidualArc → ℕ → ℤ
cost_at arcs k = (slice_index_or arcs k no_residual_arc).cost

abbrev pub next_at : List ResidualArc → ℕ → ℕ
next_at arcs k = (slice_index_or arcs k no_residual_arc).next

-- the number of residual arc (i, back)
abbrev pub number_of : ℕ → Bool → ℕ
number_of i false = 2 * i
number_of i true = 2 * i + 1

-- the number of the residual arc the other way
unfoldable pub reverse_of : ℕ → ℕ
reverse_of k = if k % 2 == 0 then k + 1 else k - 1

-- where residual arc k starts: at the end of its reverse
abbrev pub start_at : List ResidualArc → ℕ → ℕ
start_at arcs k = end_at arcs (reverse_of k)

-- number k is that of a residual arc that starts at node v
pub record StartsAt (arcs : List ResidualArc) (v k : ℕ) : Type 0 where
  pub inside : k < length arcs
  pub start : start_at arcs k ≡ v

-- how many of the first k residual arcs start at node v, where residual arc j starts at `start j`
abbrev pub started : (ℕ → ℕ) → ℕ → ℕ → ℕ
started start v k = sum_below k (λ j. if v == start j then 1 else 0)

-- how many residual arcs start at node v
abbrev pub out_degree : List ResidualArc → ℕ → ℕ
out_degree arcs v = started (start_at arcs) v (length arcs)

-- ---- linked lists

-- `number` is the greatest below k of a residual arc that starts at node v, or `NONE` if there is none; residual arc j
-- starts at `start j`
pub record IsLatest (start : ℕ → ℕ) (v k number : ℕ) : Type 0 where
  pub found : number ≢ NONE → (number < k) × (start number ≡ v)
  pub latest : (j : ℕ) → j < k → start j ≡ v → (number ≢ NONE) × (j ≤ number)

-- the list of each of n nodes begins with the latest residual arc that starts there, and goes on from each to the
-- latest one before it
pub record IsLinked (n : ℕ) (first : List ℕ) (arcs : List ResidualArc) : Type 0 where
  pub starts : length first ≡ n
  pub begins : (v : ℕ) → v < n → IsLatest (start_at arcs) v (length arcs) (numbers first v)
  pub goes_on : (k : ℕ) → k < length arcs → IsLatest (start_at arcs) (start_at arcs k) k (next_at arcs k)

-- ---- what fits, and what it costs

-- how many more units fit along residual arc k
abbrev pub capacity_at : List ℕ → ℕ → ℕ
capacity_at capacities k = slice_index capacities k

-- how many units a capacity represents; without a limit it never runs out
abbrev pub units_of : Cap → ℕ
units_of (AtMost k) = k
units_of Any = 2 ^ 30

-- a residual arc where a unit costs z is listed at cost c where so much fits along it: `SATURATED` more where nothing does
abbrev pub IsRated : ℤ → ℕ → ℤ → Type 0
IsRated c capacity z = c ≡ (if capacity == 0 then z +ℤ SATURATED else z)

-- a unit costs z along residual arc k
abbrev pub IsCosted : List ResidualArc → List ℕ → ℕ → ℤ → Type 0
IsCosted arcs capacities k z = IsRated (cost_at arcs k) (capacity_at capacities k) z

-- the end of each residual arc, what fits along it, and what a unit along it costs
pub record AreResidualArcs (net : NetworkModel) (capacity : ℕ → ℕ) (arcs : List ResidualArc) : Type 0 where
  pub arc_size : length arcs ≡ arc_count net + arc_count net
  pub end : (i : ℕ) (back : Bool) → i < arc_count net → end_at arcs (number_of i back) ≡ end_of net i back
  pub cost : (i : ℕ) (back : Bool) → i < arc_count net → IsRated (cost_at arcs (number_of i back)) (capacity (number_of i back)) (unit_cost net i back)
  pub fits : (i : ℕ) → i < arc_count net → capacity (number_of i false) + capacity (number_of i true) ≡ units_of (arc_at net i).cap

-- what an arc carries is what fits back along it
abbrev pub carried : (ℕ → ℕ) → ℕ → ℕ
carried capacity i = capacity (number_of i true)
