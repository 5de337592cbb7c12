use Rattle.std.proofs.Common.{◌≡◌, ◌∙◌, ℕ, ◌<◌, ◌≤◌, List, refl, ap, arith}
use Rattle.std.specs.Prelude.{ℤ, neg_ℤ}
use Rattle.std.proofs.lemmas.Int.{to_z-of_z}
use mir.Val.{of_z, to_z}
use mir.Syntax.{w16, w32}
use Rattle.embedding.specs.Darts.{reverse_of}
use Rattle.faces.specs.Planes.{reverse_dart}
use Rattle.conditions.specs.Asking.{IsPut, HoldsOther}
use Rattle.conditions.proofs.Putting.{passed}
use Rattle.conditions.proofs.TurnLists.{at_lesser, at_greater}
use Rattle.conditions.proofs.conditions.put_along.Goals as goal

pub returns-then-dart-reverse-clause-put : goal.returns-then-dart-reverse-clause-put
returns-then-dart-reverse-clause-put c = λ said.
    let p = c.args.plane.now in
    let d : ℕ = c.args.dart in
    let t : ℤ = c.args.turns in
    let v : ℤ = to_z w32 (of_z w32 c.widened.result) in
    let r : c.reverse-reverse.result ≡ reverse_dart p d = c.reverse-reverse.ensures.value ∙ ap (λ (g : List (List ℕ)). reverse_of g d) c.graph.ensures.value in
    let order : d < reverse_dart p d = omega (arith, r, c.if-dart-reverse.true) in
    let value : v ≡ t = passed c.widened.result c.widened.ensures.few ∙ (c.widened.ensures.value ∙ to_z-of_z w16 t c.ranges.turns) in
    at_lesser p d d t v (λ (k : ℕ) (z : ℤ). IsPut k z c.args.found.now c.put_turns.new.found) order refl value (c.put_turns.ensures.put said)

pub returns-then-dart-reverse-clause-other : goal.returns-then-dart-reverse-clause-other
returns-then-dart-reverse-clause-other c = λ said.
    let p = c.args.plane.now in
    let d : ℕ = c.args.dart in
    let t : ℤ = c.args.turns in
    let v : ℤ = to_z w32 (of_z w32 c.widened.result) in
    let r : c.reverse-reverse.result ≡ reverse_dart p d = c.reverse-reverse.ensures.value ∙ ap (λ (g : List (List ℕ)). reverse_of g d) c.graph.ensures.value in
    let order : d < reverse_dart p d = omega (arith, r, c.if-dart-reverse.true) in
    let value : v ≡ t = passed c.widened.result c.widened.ensures.few ∙ (c.widened.ensures.value ∙ to_z-of_z w16 t c.ranges.turns) in
    at_lesser p d d t v (λ (k : ℕ) (z : ℤ). HoldsOther k z c.args.found.now) order refl value (c.put_turns.ensures.other said)

pub returns-else-dart-reverse-clause-put : goal.returns-else-dart-reverse-clause-put
returns-else-dart-reverse-clause-put c = λ said.
    let p = c.args.plane.now in
    let d : ℕ = c.args.dart in
    let t : ℤ = c.args.turns in
    let v : ℤ = to_z w32 (of_z w32 c.reversed.result) in
    let r : c.reverse-reverse.result ≡ reverse_dart p d = c.reverse-reverse.ensures.value ∙ ap (λ (g : List (List ℕ)). reverse_of g d) c.graph.ensures.value in
    let order : reverse_dart p d ≤ d = omega (arith, r, c.if-dart-reverse.false) in
    let value : v ≡ neg_ℤ t = passed c.reversed.result c.reversed.ensures.few ∙ (c.reversed.ensures.value ∙ ap neg_ℤ (to_z-of_z w16 t c.ranges.turns)) in
    at_greater p d c.reverse-reverse.result t v (λ (k : ℕ) (z : ℤ). IsPut k z c.args.found.now c.put_turns-else-dart-reverse.new.found) order r value (c.put_turns-else-dart-reverse.ensures.put said)

pub returns-else-dart-reverse-clause-other : goal.returns-else-dart-reverse-clause-other
returns-else-dart-reverse-clause-other c = λ said.
    let p = c.args.plane.now in
    let d : ℕ = c.args.dart in
    let t : ℤ = c.args.turns in
    let v : ℤ = to_z w32 (of_z w32 c.reversed.result) in
    let r : c.reverse-reverse.result ≡ reverse_dart p d = c.reverse-reverse.ensures.value ∙ ap (λ (g : List (List ℕ)). reverse_of g d) c.graph.ensures.value in
    let order : reverse_dart p d ≤ d = omega (arith, r, c.if-dart-reverse.false) in
    let value : v ≡ neg_ℤ t = passed c.reversed.result c.reversed.ensures.few ∙ (c.reversed.ensures.value ∙ ap neg_ℤ (to_z-of_z w16 t c.ranges.turns)) in
    at_greater p d c.reverse-reverse.result t v (λ (k : ℕ) (z : ℤ). HoldsOther k z c.args.found.now) order r value (c.put_turns-else-dart-reverse.ensures.other said)
