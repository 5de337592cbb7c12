use Rattle.std.proofs.Common.{get_or, refl, arith}
use Rattle.embedding.proofs.Reached.{reaches_more, reaches_listed, reaches_others}
use Rattle.embedding.proofs.adjacency.reach_all.Goals as goal

pub loop-v-preserved : goal.loop-v-preserved
loop-v-preserved c =
    reaches_more (get_or c.args.list.now c.loop-v.v-index 0) c.reach.new.vertices.reached c.reach.new.vertices.queue c.reach.new.vertices.found refl c.loop-v.invariant
    (record {
      queue_is = c.reach.ensures.queue;
      here = c.reach.ensures.reached;
      others = c.reach.ensures.others;
      kept = c.reach.ensures.kept;
      order = c.reach.ensures.order;
      longer = c.reach.ensures.longer;
    })

pub returns-clause-reached : goal.returns-clause-reached
returns-clause-reached c =
    reaches_listed c.args.list.now c.loop-v.v-index (omega arith) c.loop-v.invariant

pub returns-clause-others : goal.returns-clause-others
returns-clause-others c =
    reaches_others c.args.list.now c.loop-v.v-index (omega arith) c.loop-v.invariant
