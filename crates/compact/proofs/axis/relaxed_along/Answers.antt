use Rattle.std.proofs.Common.{◌≡◌, ◌≤◌, ℕ, List, length, slice_index, subst, sym, ap, refl, arith}
use Rattle.std.proofs.lemmas.List.{take_at}
use Rattle.compact.specs.declared.axis.Constraint.{Constraint}
use Rattle.compact.specs.Constraints.{Satisfies}
use Rattle.compact.specs.Monotone.{AreLeastOnAxis, growth}
use Rattle.dissect.specs.Boxes.{dart_map}
use Rattle.compact.proofs.Constraining.{all_along}
use Rattle.std.proofs.lemmas.Result.{err_from_is_err_and}
use Rattle.compact.proofs.axis.relaxed_along.Goals as goal

pub returns-in_err-constraints_along-clause-fault : goal.returns-in_err-constraints_along-clause-fault
returns-in_err-constraints_along-clause-fault c = let q = err_from_is_err_and c.from_residual.result c.from_residual.ensures.1 in rw (q.1, q.2) tt

pub relax_in_rounds-all_satisfied-requires-clause-low : goal.relax_in_rounds-all_satisfied-requires-clause-low
relax_in_rounds-all_satisfied-requires-clause-low c = λ y keeps v v_in.
    let size = ap (λ (xs : List ℕ). length xs) c.deref_mut.ensures.value in
    let kept = subst (λ (gs : List Constraint). Satisfies gs y) c.deref.ensures.value keeps in
    let along = all_along (dart_map c.args.boxes.now) (growth c.args.axis) c.constraints_along.new.constraints.items y c.in_ok-constraints_along.ensures kept in
    subst (λ (xs : List ℕ). slice_index xs v ≤ y v) (sym c.deref_mut.ensures.value)
    (c.requires.under y along v (omega (arith, v_in, size, c.requires.count)))

pub returns-then-not-all_satisfied-clause-fault : goal.returns-then-not-all_satisfied-clause-fault
returns-then-not-all_satisfied-clause-fault c =
    let size = ap (λ (xs : List ℕ). length xs) c.deref_mut.ensures.value in (
      c.requires.sound,
      λ x along.
          let keeps = subst (λ (gs : List Constraint). Satisfies gs x) (sym c.deref.ensures.value) (c.in_ok-constraints_along.ensures.no_more x along) in
          let (v, v_in, far) = c.if-not-all_satisfied.ensures.wide refl x keeps in
          (v, omega (arith, v_in, size, c.requires.count), far),
    )

pub returns-clause-along : goal.returns-clause-along
returns-clause-along c =
    let w = dart_map c.args.boxes.now in
    let k = growth c.args.axis in
    let found = c.relax_in_rounds-all_satisfied.new.coordinates in
    let all_satisfied = c.if-not-all_satisfied.ensures in
    let x : ℕ → ℕ = λ v. slice_index found v in
    let before : length c.deref_mut.result.now ≡ c.args.boxes.now.vertices =
    omega (arith, ap (λ (xs : List ℕ). length xs) c.deref_mut.ensures.value, c.requires.count) in
    let room : length found ≡ c.args.coordinates.len = omega (arith, all_satisfied.length, c.deref_mut.ensures.len) in
    let keeps = subst (λ (gs : List Constraint). Satisfies gs x) c.deref.ensures.value (all_satisfied.keeps refl) in
    subst (λ (xs : List ℕ). AreLeastOnAxis c.args.boxes.now k xs)
    (sym (take_at found _ c.args.coordinates.len room))
    (record {
      along = all_along w k c.constraints_along.new.constraints.items x c.in_ok-constraints_along.ensures keeps;
      least = λ y along v v_in.
          let kept = subst (λ (gs : List Constraint). Satisfies gs y) (sym c.deref.ensures.value) (c.in_ok-constraints_along.ensures.no_more y along) in
          all_satisfied.least refl y kept v (omega (arith, v_in, before));
      within = λ v v_in. all_satisfied.small v (omega (arith, v_in, before, all_satisfied.length));
      count = omega (arith, before, all_satisfied.length);
    })
