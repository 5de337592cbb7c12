use Rattle.std.proofs.Common.{◌≡◌, ℕ, ◌+◌, ◌*◌, ◌<◌, ◌≤◌, List, ◌++◌, length, replicate, take, drop, get_or, sym, ap, ◌∙◌, subst, arith}
use Rattle.std.proofs.lemmas.List.{with_items_is}
use Rattle.embedding.specs.declared.genus.TheConstants.{UNSET}
use Rattle.embedding.specs.Faces.{HasFaces, degree_in}
use Rattle.embedding.specs.Walk.{AreRotations, at, next_in}
use Rattle.embedding.proofs.Faced.{faced}
use Rattle.embedding.proofs.Filled.{filled, copied, front_is, rotation_first, named_before}
use Rattle.embedding.proofs.genus.add_faces.Goals as goal

pub number_faces_after-count-requires-clause-tied : goal.number_faces_after-count-requires-clause-tied
number_faces_after-count-requires-clause-tied c =
    let longer = filled c.args.table.now.items c.deref_mut.result.now (3 * c.args.darts) _ UNSET (omega (arith, c.requires.tied.size)) (c.deref_mut.ensures.value ∙ c.in_ok-resize.ensures.items) in
    rotation_first c.args.table.now.items c.deref_mut.result.now c.args.darts _ UNSET c.requires.tied longer

pub number_faces_after-count-requires-clause-unset : goal.number_faces_after-count-requires-clause-unset
number_faces_after-count-requires-clause-unset c =
    let longer = filled c.args.table.now.items c.deref_mut.result.now (3 * c.args.darts) _ UNSET (omega (arith, c.requires.tied.size)) (c.deref_mut.ensures.value ∙ c.in_ok-resize.ensures.items) in
    λ d below.
    copied c.args.table.now.items c.deref_mut.result.now (2 * c.args.darts) _ UNSET d c.requires.tied.size longer (omega (arith, below, c.deref_mut.ensures.len, c.in_ok-resize.ensures.len))

pub count_degrees_after-requires-clause-named : goal.count_degrees_after-requires-clause-named
count_degrees_after-requires-clause-named c =
    let n = c.args.darts in
    let numbered = c.number_faces_after-count.new.table in
    let size = c.number_faces_after-count.ensures.size in
    let was = with_items_is c.resize.new.self numbered (omega (arith, size, c.in_ok-resize.ensures.len)) in
    let longer = filled numbered c.deref_mut-2.result.now (3 * n + c.from.result) _ 0 (omega (arith, size)) (c.deref_mut-2.ensures.value ∙ rw was at c.in_ok-resize-2.ensures.items) in
    λ d below.
    omega (arith, named_before numbered c.deref_mut-2.result.now _ n _ 0 c.number_faces_after-count.result d size longer c.number_faces_after-count.ensures.numbered below, c.deref_mut-2.ensures.len, c.in_ok-resize-2.ensures.len, c.from.ensures)

pub count_degrees_after-requires-clause-none : goal.count_degrees_after-requires-clause-none
count_degrees_after-requires-clause-none c =
    let n = c.args.darts in
    let numbered = c.number_faces_after-count.new.table in
    let size = c.number_faces_after-count.ensures.size in
    let was = with_items_is c.resize.new.self numbered (omega (arith, size, c.in_ok-resize.ensures.len)) in
    let longer = filled numbered c.deref_mut-2.result.now (3 * n + c.from.result) _ 0 (omega (arith, size)) (c.deref_mut-2.ensures.value ∙ rw was at c.in_ok-resize-2.ensures.items) in
    λ k below. copied numbered c.deref_mut-2.result.now (3 * n) _ 0 k size longer below

pub returns : goal.returns
returns c =
    let n = c.args.darts in
    let rotation = c.args.table.now.items in
    let numbered = c.number_faces_after-count.new.table in
    let size = c.number_faces_after-count.ensures.size in
    let count = c.number_faces_after-count.result in
    let before = c.deref_mut-2.result.now in
    let table = c.count_degrees_after.new.table in
    let first = filled rotation c.deref_mut.result.now (3 * n) _ UNSET (omega (arith, c.requires.tied.size)) (c.deref_mut.ensures.value ∙ c.in_ok-resize.ensures.items) in
    let front = front_is rotation c.deref_mut.result.now (2 * n) _ UNSET c.requires.tied.size first in
    let was = with_items_is c.resize.new.self numbered (omega (arith, size, c.in_ok-resize.ensures.len)) in
    let longer = filled numbered before (3 * n + c.from.result) _ 0 (omega (arith, size)) (c.deref_mut-2.ensures.value ∙ rw was at c.in_ok-resize-2.ensures.items) in
    let long : length before ≡ 3 * n + count = omega (arith, c.deref_mut-2.ensures.len, c.in_ok-resize-2.ensures.len, c.from.ensures) in
    let faces = subst (λ (l : List ℕ). HasFaces n (next_in l) (at (drop (2 * n) numbered)) count) front c.number_faces_after-count.ensures.numbered in
    rw (with_items_is c.resize-2.new.self table (omega (arith, c.count_degrees_after.ensures.size, c.deref_mut-2.ensures.len)))
    (faced rotation numbered before table n count c.requires.tied size (c.number_faces_after-count.ensures.rotation ∙ front) faces long (front_is numbered before (3 * n) _ 0 size longer) c.count_degrees_after.ensures.size c.count_degrees_after.ensures.front c.count_degrees_after.ensures.degrees)
