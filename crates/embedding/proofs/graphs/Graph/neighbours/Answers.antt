use Rattle.std.proofs.Common.{◌≡◌, ◌-◌, length, ap, arith}
use Rattle.std.specs.List.{slice_range}
use Rattle.embedding.specs.Lists.{list_of}
use Rattle.embedding.proofs.KeptFacts.{kept_as, list_of-short}
use Rattle.embedding.proofs.Parts.{vertex_part}
use Rattle.embedding.proofs.graphs.Graph.neighbours.Goals as goal

pub slice_bounds-result-count : goal.slice_bounds-result-count
slice_bounds-result-count c =
    let kept = kept_as _ _ c.self.view_is c.self.invariant in
    let here =
    vertex_part _ kept c.args.vertex (c.from-place.result - 1) _ c.index.result.now c.index-2.result.now (omega (arith, c.len.ensures)) (omega arith) c.requires.within c.index.ensures c.index-2.ensures in
    omega (arith, here.ordered, c.from-from.ensures, c.from-to.ensures)

pub slice_bounds-result-start : goal.slice_bounds-result-start
slice_bounds-result-start c =
    let kept = kept_as _ _ c.self.view_is c.self.invariant in
    let here =
    vertex_part _ kept c.args.vertex (c.from-place.result - 1) _ c.index.result.now c.index-2.result.now (omega (arith, c.len.ensures)) (omega arith) c.requires.within c.index.ensures c.index-2.ensures in
    omega (arith, here.ordered, here.within, c.from-from.ensures, c.from-to.ensures, c.deref.ensures.len)

pub slice_bounds-result-end : goal.slice_bounds-result-end
slice_bounds-result-end c =
    let kept = kept_as _ _ c.self.view_is c.self.invariant in
    let here =
    vertex_part _ kept c.args.vertex (c.from-place.result - 1) _ c.index.result.now c.index-2.result.now (omega (arith, c.len.ensures)) (omega arith) c.requires.within c.index.ensures c.index-2.ensures in
    omega (arith, here.ordered, here.within, c.from-from.ensures, c.from-to.ensures, c.deref.ensures.len)

pub returns-clause-value : goal.returns-clause-value
returns-clause-value c =
    let kept = kept_as _ _ c.self.view_is c.self.invariant in
    let here =
    vertex_part _ kept c.args.vertex (c.from-place.result - 1) _ c.index.result.now c.index-2.result.now (omega (arith, c.len.ensures)) (omega arith) c.requires.within c.index.ensures c.index-2.ensures in
    rw (c.deref.ensures.value, c.from-from.ensures, c.from-to.ensures) here.part

pub returns-clause-few : goal.returns-clause-few
returns-clause-few c =
    let kept = kept_as _ _ c.self.view_is c.self.invariant in
    let value : slice_range c.deref.result.now c.from-from.result c.from-to.result ≡ list_of c.args.self.now c.args.vertex =
    returns-clause-value c in
    omega (arith, ap length value, list_of-short c.args.self.now kept.rules c.args.vertex)
