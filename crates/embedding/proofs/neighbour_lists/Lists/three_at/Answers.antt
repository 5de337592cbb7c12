use Rattle.std.proofs.Common.{◌<◌, length, refl, arith}
use Rattle.embedding.proofs.Places.{place_is, three_entries, three_entries-some}
use Rattle.embedding.proofs.neighbour_lists.Lists.three_at.Goals as goal

pub bounds-self-inside-first : goal.bounds-self-inside-first
bounds-self-inside-first c =
    let at : c.from.result < length c.args.self.now = omega (arith, c.from.ensures, c.requires.within) in
    let here = place_is _ _ _ c.self.invariant c.args.self.now c.self.view_is c.from.result c.from-first.result _ at c.from-first.ensures refl in
    omega (arith, here.ends, here.within)

pub bounds-self-inside-first-2 : goal.bounds-self-inside-first-2
bounds-self-inside-first-2 c =
    let at : c.from.result < length c.args.self.now = omega (arith, c.from.ensures, c.requires.within) in
    let here = place_is _ _ _ c.self.invariant c.args.self.now c.self.view_is c.from.result c.from-first.result _ at c.from-first.ensures refl in
    three_entries-some _ _ _ _ _ _ here c.from.ensures c.requires.some

pub returns : goal.returns
returns c =
    let at : c.from.result < length c.args.self.now = omega (arith, c.from.ensures, c.requires.within) in
    let here = place_is _ _ _ c.self.invariant c.args.self.now c.self.view_is c.from.result c.from-first.result _ at c.from-first.ensures refl in
    three_entries _ _ _ c.args.place _ _ c.min-third.result here c.from.ensures (λ more. omega (arith, more, c.min-third.ensures))
