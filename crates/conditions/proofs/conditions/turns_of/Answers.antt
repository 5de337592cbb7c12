use Rattle.std.proofs.Common.{◌≡◌, ◌∙◌, ℕ, ◌+◌, List, ◌++◌, Option, Some, None, length, take, drop, get_or, replicate, refl, sym, ap, subst, inr, arith}
use Rattle.std.specs.Prelude.{ℤ, pos, All}
use Rattle.std.proofs.lemmas.List.{length-set}
use Rattle.std.proofs.lemmas.List.Elements.{All-replicate}
use Rattle.std.proofs.lemmas.Int.{to_z-of_z}
use mir.Val.{SFits, of_z, to_z}
use mir.Syntax.{w16}
use Rattle.embedding.specs.Darts.{dart_count}
use Rattle.faces.specs.Planes.{darts}
use Rattle.conditions.specs.declared.conditions.TurnsAlong.{TurnsAlong}
use Rattle.conditions.specs.Asking.{AreTurns, AreFew, lesser_of, along_lesser, IsPut, HoldsOther}
use Rattle.conditions.proofs.Putting.{take_written}
use Rattle.conditions.proofs.TurnLists.{no_turns, turns_more, turns_differ}
use Rattle.conditions.proofs.conditions.turns_of.Goals as goal

abbrev none : TurnsAlong
none = record { from = 0; to = 0; turns = pos 0 }

pub loop-asked-init : goal.loop-asked-init
loop-asked-init c =
    let p = c.args.plane.now in
    let many : c.from.result ≡ darts p = c.from.ensures ∙ (c.darts-darts.ensures.count ∙ ap dart_count c.graph.ensures.value) in
    let empty : c.in_ok-found.found.items ≡ replicate (darts p) None = c.in_ok-found.ensures.items ∙ ap (λ (n : ℕ). replicate n None) many in
    record {
      are = no_turns p c.args.list.now c.in_ok-found.found.items empty;
      few = subst (All AreFew) (sym empty) (All-replicate AreFew (darts p) None (omega arith));
    }

pub loop-asked-preserved : goal.loop-asked-preserved
loop-asked-preserved c =
    let p = c.args.plane.now in
    let list = c.args.list.now in
    let i = c.loop-asked.asked-index in
    let dart = c.dart_of-dart.result in
    let turns : ℤ = (get_or list i none).turns in
    let fits : SFits w16 turns = record { sfits = omega arith } in
    let old = c.loop-asked.found.items in
    let new = c.put_along.new.found in
    let is : IsPut (lesser_of p dart) (along_lesser p dart turns) old new =
    subst (λ (z : ℤ). IsPut (lesser_of p dart) (along_lesser p dart z) old new) (to_z-of_z w16 turns fits)
    (subst (λ (l : List (Option ℤ)). IsPut (lesser_of p dart) (along_lesser p dart (to_z w16 (of_z w16 turns))) l new) c.deref_mut.ensures.value (c.put_along.ensures.put c.if-not-put_along.false)) in
    let long : length new ≡ length old = ap length is.put ∙ length-set old (lesser_of p dart) (Some (along_lesser p dart turns)) in
    let back : take c.loop-asked.found.len (new ++ drop (length new) old) ≡ new = take_written c.loop-asked.found.len new old (omega (arith, c.deref_mut.ensures.len, ap length c.deref_mut.ensures.value)) long in
    record {
      are = subst (λ (l : List (Option ℤ)). AreTurns p (take (i + 1) list) l) (sym back)
          (turns_more p list old new i dart none c.graph.ensures.plane c.graph.ensures.ends (omega (arith, c.loop-asked-test.true)) c.dart_of-dart.ensures.inside c.dart_of-dart.ensures.named is c.loop-asked.invariant.are);
      few = subst (All AreFew) (sym back) c.put_along.ensures.few;
    }

pub returns-then-not-put_along-clause-fault : goal.returns-then-not-put_along-clause-fault
returns-then-not-put_along-clause-fault c =
    let p = c.args.plane.now in
    let list = c.args.list.now in
    let i = c.loop-asked.asked-index in
    let dart = c.dart_of-dart.result in
    let turns : ℤ = (get_or list i none).turns in
    let fits : SFits w16 turns = record { sfits = omega arith } in
    let old = c.loop-asked.found.items in
    let holds : HoldsOther (lesser_of p dart) (along_lesser p dart turns) old =
    subst (λ (z : ℤ). HoldsOther (lesser_of p dart) (along_lesser p dart z) old) (to_z-of_z w16 turns fits)
    (subst (λ (l : List (Option ℤ)). HoldsOther (lesser_of p dart) (along_lesser p dart (to_z w16 (of_z w16 turns))) l) c.deref_mut.ensures.value (c.put_along.ensures.other c.if-not-put_along.true)) in
    inr (refl, turns_differ p list old i dart none c.graph.ensures.ends (omega (arith, c.loop-asked-test.true)) c.dart_of-dart.ensures.inside c.dart_of-dart.ensures.named holds c.loop-asked.invariant.are)
