use Rattle.std.proofs.Common.{◌≡◌, ℕ, ◌*◌, take, subst, arith, refl}
use Rattle.std.proofs.lemmas.List.{take_all}
use Rattle.embedding.specs.Darts.{dart_count, first_dart}
use Rattle.embedding.specs.Tables.{IsRotation}
use Rattle.embedding.proofs.Building.{ties_none, first_dart-all}
use Rattle.embedding.proofs.combinatorial_map.write_rotation.Goals as goal

pub loop-place-init : goal.loop-place-init
loop-place-init c = ties_none c.args.lists.now _ _ refl refl

pub returns : goal.returns
returns c =
    let g = c.args.lists.now in
    let all : first_dart g c.loop-place.place ≡ dart_count g =
    first_dart-all g c.loop-place.place (omega (arith, c.loop-place-test.false, c.count-place-end.ensures.count)) in
    let written = subst (λ (n : ℕ). IsRotation g n (take (2 * n) c.loop-place.rotation)) all c.loop-place.invariant in
    subst (IsRotation g (dart_count g)) (take_all (2 * dart_count g) c.loop-place.rotation (omega (arith, c.requires.size, c.loop-place.auto.rotation))) written
