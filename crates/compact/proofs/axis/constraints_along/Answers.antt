use Rattle.std.proofs.Common.{◌≡◌, ◌≢◌, ◌+◌, ◌∙◌, ◌⊎◌, ◌<◌, ℕ, Vec, Global, arith, subst, sym, ap}
use Rattle.compact.specs.declared.axis.Constraint.{Constraint}
use Rattle.compact.specs.Monotone.{AreAlong, growth}
use Rattle.geometry.specs.Directions.{quarters}
use Rattle.dissect.specs.Boxes.{dart_map}
use Rattle.compact.proofs.Constraining.{one_pushed, none_more, constraint_found, no_constraint_found}
use Rattle.compact.proofs.axis.constraints_along.Goals as goal
use Rattle.compact.proofs.axis.constraints_along.Goals.{in-Some+in_ok-push, in_default}

pub loop-dart-preserved : goal.loop-dart-preserved
loop-dart-preserved c =
    let w = dart_map c.args.boxes.now in
    let k = growth c.args.axis in
    let d = c.loop-dart.dart in
    let boxes = c.darts.ensures.boxes in
    let d_in : d < c.args.boxes.now.darts = omega (arith, c.loop-dart-test.true, c.darts-dart-end.ensures.value) in
    let way : quarters c.direction.result ≡ w.direction d = c.direction.ensures.value in
    elim c.match-least_difference.branch [
      | in-Some+in_ok-push b ↦
          let kind = constraint_found (quarters c.direction.result) k b.in-Some.least c.least_difference.result c.least_difference.ensures.forward c.least_difference.ensures.back c.least_difference.ensures.across b.in-Some.is in
          one_pushed w k d c.loop-dart.constraints.items c.match-least_difference.constraints.items (record { from = b.head-from.result; to = b.head-to.result; least = b.in-Some.least })
          boxes.sound d_in (b.head-from.ensures.value ∙ ap w.head b.reverse.ensures.value) b.head-to.ensures.value
          (subst (λ (n : ℕ). ((n ≡ k) × (b.in-Some.least ≡ 1)) ⊎ ((n ≢ k) × (n ≢ k + 2) × (b.in-Some.least ≡ 0))) way kind)
          (ap (λ (v : Vec Constraint Global). v.items) b.constraints-is ∙ b.in_ok-push.ensures.items) c.loop-dart.invariant
      | in_default b ↦
          subst (λ (v : Vec Constraint Global). AreAlong w k (d + 1) v.items) (sym b.constraints-is)
          (none_more w k d c.loop-dart.constraints.items (sym way ∙ no_constraint_found (quarters c.direction.result) k c.least_difference.result c.least_difference.ensures.forward c.least_difference.ensures.across b.in_default.is) c.loop-dart.invariant)
    ]

pub returns : goal.returns
returns c =
    let all : c.loop-dart.dart ≡ c.args.boxes.now.darts = omega (arith, c.loop-dart-test.false, c.loop-dart.auto.dart-end, c.darts-dart-end.ensures.value) in
    subst (λ (n : ℕ). AreAlong (dart_map c.args.boxes.now) (growth c.args.axis) n c.loop-dart.constraints.items) all c.loop-dart.invariant
