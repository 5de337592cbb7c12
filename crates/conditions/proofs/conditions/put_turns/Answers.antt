use Rattle.std.proofs.Common.{◌≡◌, ℕ, eqb, Some, None, get_or, ap, subst}
use Rattle.std.proofs.lemmas.Bool.{both_ways, eqb-true, eq-eqb}
use mir.Val.{of_z}
use mir.Syntax.{w32}
use Rattle.conditions.specs.Asking.{AreFew}
use Rattle.conditions.proofs.Putting.{held_already, held_other, same_turns}
use Rattle.conditions.proofs.conditions.put_turns.Goals as goal

pub returns-in-Some-clause-put : goal.returns-in-Some-clause-put
returns-in-Some-clause-put c = λ same.
    let found = c.args.found.now in
    let at : get_or found c.args.dart None ≡ Some c.in-Some.held = subst (λ (k : ℕ). get_or found k None ≡ Some c.in-Some.held) c.from-place.ensures c.in-Some.is in
    held_already found c.args.dart c.in-Some.held c.args.turns at
    (same_turns c.in-Some.held c.args.turns (subst AreFew at (c.requires.few c.args.dart None c.requires.dart)) c.requires.turns (eqb-true (of_z w32 c.in-Some.held) (of_z w32 c.args.turns) same))

pub returns-in-Some-clause-other : goal.returns-in-Some-clause-other
returns-in-Some-clause-other c = λ apart.
    let found = c.args.found.now in
    let at : get_or found c.args.dart None ≡ Some c.in-Some.held = subst (λ (k : ℕ). get_or found k None ≡ Some c.in-Some.held) c.from-place.ensures c.in-Some.is in
    held_other found c.args.dart c.in-Some.held c.args.turns at
    (λ same. both_ways (eqb (of_z w32 c.in-Some.held) (of_z w32 c.args.turns)) apart (eq-eqb (of_z w32 c.in-Some.held) (of_z w32 c.args.turns) (ap (of_z w32) same)))
