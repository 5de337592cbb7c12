use Rattle.std.proofs.Common.{sym, subst, arith}
use Rattle.std.proofs.lemmas.List.{with_items_is}
use Rattle.embedding.specs.Darts.{dart_count}
use Rattle.embedding.specs.Tables.{IsRotation}
use Rattle.embedding.proofs.combinatorial_map.make_rotation.Goals as goal

pub write_rotation-requires-clause-size : goal.write_rotation-requires-clause-size
write_rotation-requires-clause-size c = omega (arith, c.deref_mut.ensures.len, c.in_ok-resize.ensures.len, c.darts.ensures.count)

pub returns : goal.returns
returns c =
    let g = c.args.lists.now in
    subst (IsRotation g (dart_count g)) (sym (with_items_is c.resize.new.self c.write_rotation.new.rotation (omega (arith, c.write_rotation.ensures.size, c.in_ok-resize.ensures.len, c.darts.ensures.count)))) c.write_rotation.ensures
