-- How relaxing one constraint, and then all constraints, keeps the coordinates low.
use Rattle.std.proofs.Common.{◌≡◌, ℕ, ◌+◌, ◌-◌, ◌<◌, ◌≤◌, ◌∙◌, List, length, slice_index, get_or, set, take, arith, subst, sym, ap, inl, inr, get_or-set_same, get_or-set_other}
use Rattle.std.proofs.lemmas.Bool.{cases_eq}
use Rattle.std.proofs.lemmas.List.{length-set, take_all}
use Rattle.std.proofs.lemmas.List.Elements.{All-more}
use Rattle.ortho_rep.specs.declared.grid_points.TheConstants.{MAX_COORDINATE}
use Rattle.common.specs.Sums.{sum_below}
use Rattle.common.proofs.Sums.{sum_below-lt}
use Rattle.compact.specs.declared.axis.Constraint.{Constraint}
use Rattle.compact.specs.declared.axis.Relaxation.{Relaxation}
use Rattle.compact.specs.declared.axis.Relaxation.TheVariants.{Satisfied, Raised, Wide}
use Rattle.compact.specs.Constraints.{Satisfies, AreInRange, IsLow, AreWide, IsRelaxed, AreRelaxed, shortfall}

abbrev pub at : List ℕ → ℕ → ℕ
at xs v = slice_index xs v

-- what holds of the coordinates when the first constraints were relaxed
abbrev pub Stands : List Constraint → List ℕ → List ℕ → Relaxation → Type 0
Stands constraints old now Satisfied = (now ≡ old) × Satisfies constraints (at now)
Stands constraints old now Raised = shortfall now < shortfall old
Stands constraints old now Wide = ⊥

pub record IsRelaxedUpTo (constraints : List Constraint) (i : ℕ) (old now : List ℕ) (found : Relaxation) : Type 0 where
  pub size : length now ≡ length old
  pub low : IsLow constraints (length old) (at now)
  pub stands : Stands (take i constraints) old now found

-- a coordinate raised to keep a constraint is still low
pub low_raised : (constraints : List Constraint) (i : ℕ) (d : Constraint) (old new : List ℕ) (n : ℕ) → length old ≡ n → i < length constraints →
    (get_or constraints i d).to < n → (get_or constraints i d).from < n → IsLow constraints n (at old) → new ≡ set old (get_or constraints i d).to (at old (get_or constraints i d).from + (get_or constraints i d).least) → IsLow constraints n (at new)
low_raised constraints i d old new n size i_in to_in from_in low made y keeps v v_in =
    let constraint = get_or constraints i d in
    let need = at old constraint.from + constraint.least in
    let enough : y constraint.from + constraint.least ≤ y constraint.to = keeps i d i_in in
    elim (cases_eq constraint.to v) [
      | inl same ↦
          let here : at new v ≡ need = ap (λ xs. at xs v) made ∙ subst (λ (k : ℕ). at (set old constraint.to need) k ≡ need) same (get_or-set_same old constraint.to need 0 (omega (arith, to_in, size))) in
          let above : y constraint.to ≡ y v = ap y same in
          omega (arith, here, enough, above, low y keeps constraint.from from_in)
      | inr other ↦
          let here : at new v ≡ at old v = ap (λ xs. at xs v) made ∙ get_or-set_other old constraint.to v need 0 (λ e. other (sym e)) in
          omega (arith, here, low y keeps v v_in)
    ]

-- and the shortfall falls
pub shortfall_falls : (old new : List ℕ) (to need : ℕ) → to < length old → new ≡ set old to need → at old to < need → need ≤ MAX_COORDINATE → shortfall new < shortfall old
shortfall_falls old new to need to_in made less most =
    let size : length new ≡ length old = ap length made ∙ length-set old to need in
    subst (λ (n : ℕ). sum_below n (λ v. MAX_COORDINATE - at new v) < sum_below (length old) (λ v. MAX_COORDINATE - at old v)) (sym size)
    (sum_below-lt (length old) to (λ v. MAX_COORDINATE - at new v) (λ v. MAX_COORDINATE - at old v) to_in
    (λ v v_in. elim (cases_eq to v) [
      | inl same ↦
          let here : at new v ≡ need = ap (λ xs. at xs v) made ∙ subst (λ (k : ℕ). at (set old to need) k ≡ need) same (get_or-set_same old to need 0 to_in) in
          let was : at old v ≡ at old to = ap (at old) (sym same) in
          omega (arith, here, was, less)
      | inr other ↦
          let here : at new v ≡ at old v = ap (λ xs. at xs v) made ∙ get_or-set_other old to v need 0 (λ e. other (sym e)) in
          omega (arith, here)
    ])
    (let here : at new to ≡ need = ap (λ xs. at xs to) made ∙ get_or-set_same old to need 0 to_in in omega (arith, here, less, most)))

-- where a coordinate would pass 65,535, all coordinates that keep the constraints do
pub is_wide : (constraints : List Constraint) (i : ℕ) (d : Constraint) (now : List ℕ) (n : ℕ) → i < length constraints → (get_or constraints i d).to < n → (get_or constraints i d).from < n →
    IsLow constraints n (at now) → MAX_COORDINATE < at now (get_or constraints i d).from + (get_or constraints i d).least → AreWide constraints n
is_wide constraints i d now n i_in to_in from_in low wide y keeps =
    let constraint = get_or constraints i d in
    let enough : y constraint.from + constraint.least ≤ y constraint.to = keeps i d i_in in
    (constraint.to, to_in, omega (arith, enough, wide, low y keeps constraint.from from_in))

-- what stands for a constraint past the end of a list
abbrev pub no_constraint : Constraint
no_constraint = record { from = 0; to = 0; least = 0 }

-- what comes of the relaxation of one more constraint
abbrev pub IsWideOr : List Constraint → ℕ → List ℕ → List ℕ → Relaxation → Relaxation → Type 0
IsWideOr constraints i old new found Satisfied = IsRelaxedUpTo constraints (i + 1) old new found
IsWideOr constraints i old new found Raised = IsRelaxedUpTo constraints (i + 1) old new Raised
IsWideOr constraints i old new found Wide = IsLow constraints (length old) (at new) × AreWide constraints (length old)

-- relaxing the constraint at place i takes the coordinates one constraint further
pub goes_on : (constraints : List Constraint) (i : ℕ) (d : Constraint) (old now new : List ℕ) (found one : Relaxation) → i < length constraints → AreInRange (length old) constraints →
    IsRelaxedUpTo constraints i old now found → IsRelaxed (get_or constraints i d) now new one → length new ≡ length now →
    IsWideOr constraints i old new found one
goes_on constraints i d old now new found Satisfied i_in inside under relaxed size =
    record {
      size = size ∙ under.size;
      low = subst (λ (xs : List ℕ). IsLow constraints (length old) (at xs)) (sym relaxed.0) under.low;
      stands = still constraints i d old now new found i_in under.stands relaxed;
    }
  where
    still : (constraints : List Constraint) (i : ℕ) (d : Constraint) (old now new : List ℕ) (found : Relaxation) → i < length constraints →
        Stands (take i constraints) old now found → IsRelaxed (get_or constraints i d) now new Satisfied → Stands (take (i + 1) constraints) old new found
    still constraints i d old now new Satisfied i_in stands relaxed = (
      relaxed.0 ∙ stands.0,
      subst (λ (xs : List ℕ). Satisfies (take (i + 1) constraints) (at xs)) (sym relaxed.0)
          (All-more (λ constraint. at now constraint.from + constraint.least ≤ at now constraint.to) constraints i d i_in stands.1 relaxed.1),
    )
    still constraints i d old now new Raised i_in stands relaxed = subst (λ (xs : List ℕ). shortfall xs < shortfall old) (sym relaxed.0) stands
    still constraints i d old now new Wide i_in stands relaxed = stands
goes_on constraints i d old now new found Raised i_in inside under relaxed size =
    let constraint = get_or constraints i d in
    let ends = inside i d i_in in
    let falls : shortfall new < shortfall now = shortfall_falls now new constraint.to (at now constraint.from + constraint.least) (omega (arith, ends.1, under.size)) relaxed.0 relaxed.1 relaxed.2 in
    record {
      size = size ∙ under.size;
      low = low_raised constraints i d now new (length old) under.size i_in ends.1 ends.0 under.low relaxed.0;
      stands = lower constraints i old now new found under.stands falls;
    }
  where
    lower : (constraints : List Constraint) (i : ℕ) (old now new : List ℕ) (found : Relaxation) → Stands (take i constraints) old now found → shortfall new < shortfall now → shortfall new < shortfall old
    lower constraints i old now new Satisfied stands falls = omega (arith, falls, ap shortfall stands.0)
    lower constraints i old now new Raised stands falls = omega (arith, falls, stands)
    lower constraints i old now new Wide stands falls = absurd stands
goes_on constraints i d old now new found Wide i_in inside under relaxed size =
    let ends = inside i d i_in in (
      subst (λ (xs : List ℕ). IsLow constraints (length old) (at xs)) (sym relaxed.0) under.low,
      is_wide constraints i d now (length old) i_in ends.1 ends.0 under.low relaxed.1,
    )

-- after the last constraint
pub ends_up : (constraints : List Constraint) (i : ℕ) (old now : List ℕ) (found : Relaxation) → length constraints ≤ i → IsRelaxedUpTo constraints i old now found → AreRelaxed constraints old now found
ends_up constraints i old now Satisfied past under =
    (under.stands.0, subst (λ (gs : List Constraint). Satisfies gs (at now)) (take_all i constraints past) under.stands.1)
ends_up constraints i old now Raised past under = under.stands
ends_up constraints i old now Wide past under = absurd under.stands
