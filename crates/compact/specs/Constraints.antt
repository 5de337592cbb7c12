-- Constraints on coordinates: the lengths of longest paths are the least coordinates that satisfy them.
use Rattle.std.specs.Prelude.{◌≡◌, ℕ, ◌+◌, ◌-◌, ◌<◌, ◌≤◌, List, All, length, slice_index, slice_set}
use Rattle.ortho_rep.specs.declared.grid_points.TheConstants.{MAX_COORDINATE}
use Rattle.common.specs.Sums.{sum_below}
use Rattle.compact.specs.declared.axis.Constraint.{Constraint}
use Rattle.compact.specs.declared.axis.Relaxation.{Relaxation}
use Rattle.compact.specs.declared.axis.Relaxation.TheVariants.{Satisfied, Raised, Wide}

-- the coordinates x satisfy each constraint: the coordinate at its end is that at its start and `least` more, or greater
abbrev pub Satisfies : List Constraint → (ℕ → ℕ) → Type 0
Satisfies constraints x = All (λ constraint. x constraint.from + constraint.least ≤ x constraint.to) constraints

-- the constraints lie between the numbers below n
abbrev pub AreInRange : ℕ → List Constraint → Type 0
AreInRange n constraints = All (λ constraint. (constraint.from < n) × (constraint.to < n) × (constraint.least ≤ 1)) constraints

-- no coordinates that satisfy the constraints are below the coordinates x anywhere
abbrev pub IsLow : List Constraint → ℕ → (ℕ → ℕ) → Type 0
IsLow constraints n x = (y : ℕ → ℕ) → Satisfies constraints y → (v : ℕ) → v < n → x v ≤ y v

-- all coordinates that satisfy the constraints exceed 65,535 somewhere
abbrev pub AreWide : List Constraint → ℕ → Type 0
AreWide constraints n = (y : ℕ → ℕ) → Satisfies constraints y → (v : ℕ) × (v < n) × (MAX_COORDINATE < y v)

-- how far all coordinates are below 65,535
abbrev pub shortfall : List ℕ → ℕ
shortfall xs = sum_below (length xs) (λ v. MAX_COORDINATE - slice_index xs v)

-- what the relaxation of one constraint has found and done
abbrev pub IsRelaxed : Constraint → List ℕ → List ℕ → Relaxation → Type 0
IsRelaxed constraint old new Satisfied = (new ≡ old) × (slice_index old constraint.from + constraint.least ≤ slice_index old constraint.to)
IsRelaxed constraint old new Raised =
    let need = slice_index old constraint.from + constraint.least in
    (new ≡ slice_set old constraint.to need) × (slice_index old constraint.to < need) × (need ≤ MAX_COORDINATE)
IsRelaxed constraint old new Wide = (new ≡ old) × (MAX_COORDINATE < slice_index old constraint.from + constraint.least)

-- what one relaxation of all constraints has found and done
abbrev pub AreRelaxed : List Constraint → List ℕ → List ℕ → Relaxation → Type 0
AreRelaxed constraints old new Satisfied = (new ≡ old) × Satisfies constraints (λ v. slice_index new v)
AreRelaxed constraints old new Raised = shortfall new < shortfall old
AreRelaxed constraints old new Wide = AreWide constraints (length old)
