use Rattle.std.proofs.Common.{◌<◌, length, refl, ap, arith}
use Rattle.embedding.specs.Darts.{first_dart}
use Rattle.embedding.proofs.Places.{place_is, entries_are}
use Rattle.embedding.proofs.neighbour_lists.Lists.first_dart.Goals as goal

pub overflow_sub-result : goal.overflow_sub-result
overflow_sub-result c =
    let at : c.from.result < length c.args.self.now = omega (arith, c.from.ensures, c.requires) in
    let here = place_is _ _ _ c.self.invariant c.args.self.now c.self.view_is c.from.result _ _ at refl refl in
    omega (arith, here.first, c.from.ensures)

pub returns-clause-value : goal.returns-clause-value
returns-clause-value c =
    let at : c.from.result < length c.args.self.now = omega (arith, c.from.ensures, c.requires) in
    let here = place_is _ _ _ c.self.invariant c.args.self.now c.self.view_is c.from.result _ _ at refl refl in
    omega (arith, here.first, c.from.ensures, ap (first_dart c.args.self.now) c.from.ensures)

pub returns-clause-few : goal.returns-clause-few
returns-clause-few c =
    let sizes = entries_are _ _ _ c.self.invariant c.args.self.now c.self.view_is in
    sizes.1
