use Rattle.std.proofs.Common.{ℕ, ◌<◌, [], length, get_or, ap, ◌∙◌, arith}
use Rattle.embedding.proofs.Places.{place_is}
use Rattle.embedding.proofs.neighbour_lists.Lists.at.Goals as goal

pub slice_bounds-result-count : goal.slice_bounds-result-count
slice_bounds-result-count c =
    let at : c.from-place.result < length c.args.self.now = omega (arith, c.from-place.ensures, c.requires) in
    let here = place_is _ _ _ c.self.invariant c.args.self.now c.self.view_is c.from-place.result c.from-from.result c.from-to.result at c.from-from.ensures c.from-to.ensures in
    omega (arith, here.ends)

pub slice_bounds-result-start : goal.slice_bounds-result-start
slice_bounds-result-start c =
    let at : c.from-place.result < length c.args.self.now = omega (arith, c.from-place.ensures, c.requires) in
    let here = place_is _ _ _ c.self.invariant c.args.self.now c.self.view_is c.from-place.result c.from-from.result c.from-to.result at c.from-from.ensures c.from-to.ensures in
    omega (arith, here.ends)

pub slice_bounds-result-end : goal.slice_bounds-result-end
slice_bounds-result-end c =
    let at : c.from-place.result < length c.args.self.now = omega (arith, c.from-place.ensures, c.requires) in
    let here = place_is _ _ _ c.self.invariant c.args.self.now c.self.view_is c.from-place.result c.from-from.result c.from-to.result at c.from-from.ensures c.from-to.ensures in
    omega (arith, here.within)

pub returns-clause-value : goal.returns-clause-value
returns-clause-value c =
    let at : c.from-place.result < length c.args.self.now = omega (arith, c.from-place.ensures, c.requires) in
    let here = place_is _ _ _ c.self.invariant c.args.self.now c.self.view_is c.from-place.result c.from-from.result c.from-to.result at c.from-from.ensures c.from-to.ensures in
    here.part ∙ ap (λ (k : ℕ). get_or c.args.self.now k []) c.from-place.ensures

pub returns-clause-short : goal.returns-clause-short
returns-clause-short c =
    let at : c.from-place.result < length c.args.self.now = omega (arith, c.from-place.ensures, c.requires) in
    let here = place_is _ _ _ c.self.invariant c.args.self.now c.self.view_is c.from-place.result c.from-from.result c.from-to.result at c.from-from.ensures c.from-to.ensures in
    omega (arith, ap length here.part, here.short)
