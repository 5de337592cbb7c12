use Rattle.std.proofs.Common.{ℕ, ◌<◌, List, get_or, replicate, false, refl, sym, subst, arith}
use Rattle.std.specs.List.{All}
use Rattle.embedding.specs.declared.neighbour_lists.TheConstants.{VERTEX_NUMBERS}
use Rattle.embedding.proofs.Ranges.{all_in_range}
use Rattle.embedding.proofs.Reached.{queue_none, queue_short, blank_flags, walking_starts, walking_more, walking_ends}
use Rattle.embedding.proofs.adjacency.reached_from_first.Goals as goal

pub reach-requires-clause-queue : goal.reach-requires-clause-queue
reach-requires-clause-queue c =
    queue_none _ _ refl refl (blank_flags VERTEX_NUMBERS)

pub reach_all-requires-clause-small : goal.reach_all-requires-clause-small
reach_all-requires-clause-small c =
    subst (λ (l : List ℕ). All (λ v. v < VERTEX_NUMBERS) l) (sym c.of_vertex.ensures.value)
    (all_in_range c.args.lists.now c.requires VERTEX_NUMBERS (get_or c.loop-done.vertices.queue c.loop-done.done 0) (omega (arith, c.of_vertex.ensures.few)))

pub loop-done-init : goal.loop-done-init
loop-done-init c =
    walking_starts c.args.lists.now (replicate VERTEX_NUMBERS false) (replicate VERTEX_NUMBERS 0) c.reach.new.vertices.reached c.reach.new.vertices.queue c.reach.new.vertices.found (blank_flags VERTEX_NUMBERS)
    (record {
      queue_is = c.reach.ensures.queue;
      here = c.reach.ensures.reached;
      others = c.reach.ensures.others;
      kept = c.reach.ensures.kept;
      order = c.reach.ensures.order;
      longer = c.reach.ensures.longer;
    })

pub bounds-vertices-done : goal.bounds-vertices-done
bounds-vertices-done c =
    let short = queue_short _ _ _ c.loop-done.invariant.queue_is in
    omega (arith, short, c.loop-done-test.true)

pub offset_bounds-vertices-done : goal.offset_bounds-vertices-done
offset_bounds-vertices-done c =
    let short = queue_short _ _ _ c.loop-done.invariant.queue_is in
    omega (arith, short, c.loop-done-test.true)

pub overflow_add-done : goal.overflow_add-done
overflow_add-done c =
    let short = queue_short _ _ _ c.loop-done.invariant.queue_is in
    omega (arith, short, c.loop-done-test.true)

pub loop-done-smaller : goal.loop-done-smaller
loop-done-smaller c =
    let short = queue_short _ _ _ c.loop-done.invariant.queue_is in
    omega (arith, short, c.loop-done-test.true, c.loop-done.invariant.queue_is.places, c.reach_all.ensures.queue.places)

pub loop-done-preserved : goal.loop-done-preserved
loop-done-preserved c =
    walking_more c.of_vertex.result.now c.reach_all.new.vertices.reached c.reach_all.new.vertices.queue c.reach_all.new.vertices.found c.loop-done-test.true c.of_vertex.ensures.value c.loop-done.invariant
    (record {
      queue_is = c.reach_all.ensures.queue;
      listed = c.reach_all.ensures.reached;
      others = c.reach_all.ensures.others;
      kept = c.reach_all.ensures.kept;
      order = c.reach_all.ensures.order;
      longer = c.reach_all.ensures.longer;
    })

pub returns : goal.returns
returns c =
    walking_ends c.loop-done-test.false c.loop-done.invariant
