use Rattle.std.proofs.Common.{◌≡◌, ◌∙◌, ℕ, ◌+◌, List, ◌++◌, Option, Some, None, length, take, drop, get_or, replicate, refl, sym, ap, subst, inr, arith}
use Rattle.std.proofs.lemmas.List.{length-set}
use Rattle.embedding.specs.Darts.{dart_count}
use Rattle.faces.specs.Planes.{darts}
use Rattle.conditions.specs.declared.conditions.AngleAt.{AngleAt}
use Rattle.conditions.specs.Asking.{AreAngles, IsPut, HoldsOther}
use Rattle.conditions.proofs.Putting.{take_written}
use Rattle.conditions.proofs.AngleLists.{no_angles, angles_more, angles_differ}
use Rattle.conditions.proofs.conditions.angles_of.Goals as goal

abbrev none : AngleAt
none = record { from = 0; to = 0; angle = 0 }

pub loop-asked-init : goal.loop-asked-init
loop-asked-init c =
    let p = c.args.plane.now in
    let many : c.from.result ≡ darts p = c.from.ensures ∙ (c.darts-darts.ensures.count ∙ ap dart_count c.graph.ensures.value) in
    no_angles p c.args.list.now c.in_ok-found.found.items (c.in_ok-found.ensures.items ∙ ap (λ (n : ℕ). replicate n None) many)

pub loop-asked-preserved : goal.loop-asked-preserved
loop-asked-preserved c =
    let p = c.args.plane.now in
    let list = c.args.list.now in
    let i = c.loop-asked.asked-index in
    let dart = c.dart_of-dart.result in
    let angle = (get_or list i none).angle in
    let old = c.loop-asked.found.items in
    let new = c.put_angle.new.found in
    let is : IsPut dart angle old new = subst (λ (l : List (Option ℕ)). IsPut dart angle l new) c.deref_mut.ensures.value (c.put_angle.ensures.put c.if-not-put_angle.false) in
    let long : length new ≡ length old = ap length is.put ∙ length-set old dart (Some angle) in
    let back : take c.loop-asked.found.len (new ++ drop (length new) old) ≡ new = take_written c.loop-asked.found.len new old (omega (arith, c.deref_mut.ensures.len, ap length c.deref_mut.ensures.value)) long in
    subst (λ (l : List (Option ℕ)). AreAngles p (take (i + 1) list) l) (sym back)
    (angles_more p list old new i dart none c.graph.ensures.plane (omega (arith, c.loop-asked-test.true)) c.dart_of-dart.ensures.inside c.dart_of-dart.ensures.named is c.loop-asked.invariant)

pub returns-then-not-put_angle-clause-fault : goal.returns-then-not-put_angle-clause-fault
returns-then-not-put_angle-clause-fault c =
    let p = c.args.plane.now in
    let list = c.args.list.now in
    let i = c.loop-asked.asked-index in
    let dart = c.dart_of-dart.result in
    let angle = (get_or list i none).angle in
    let old = c.loop-asked.found.items in
    let holds : HoldsOther dart angle old = subst (λ (l : List (Option ℕ)). HoldsOther dart angle l) c.deref_mut.ensures.value (c.put_angle.ensures.other c.if-not-put_angle.true) in
    inr (refl, angles_differ p list old i dart none (omega (arith, c.loop-asked-test.true)) c.dart_of-dart.ensures.inside c.dart_of-dart.ensures.named holds c.loop-asked.invariant)
