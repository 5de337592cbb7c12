use Rattle.drawing_tests.proofs.StraightEdge.{edge_sound}
use Rattle.drawing_tests.proofs.dissect_enclosed.edge.Goals as goal

pub returns-clause-sound : goal.returns-clause-sound
returns-clause-sound c =
    edge_sound c.in_ok-next.next.items c.in_ok-prev.prev.items c.in_ok-reverse_dart.reverse_dart.items c.in_ok-head.head.items
    c.in_ok-direction.direction.items c.in_ok-angle.angle.items c.in_ok-before.before.items (record {
      next_0 = c.in_ok-next.ensures.first;
      next_1 = c.in_ok-next.ensures.second;
      prev_0 = c.in_ok-prev.ensures.first;
      prev_1 = c.in_ok-prev.ensures.second;
      reverse_dart_0 = c.in_ok-reverse_dart.ensures.first;
      reverse_dart_1 = c.in_ok-reverse_dart.ensures.second;
      head_0 = c.in_ok-head.ensures.first;
      head_1 = c.in_ok-head.ensures.second;
      direction_0 = c.in_ok-direction.ensures.first;
      direction_1 = c.in_ok-direction.ensures.second;
      angle_0 = c.in_ok-angle.ensures.first;
      angle_1 = c.in_ok-angle.ensures.second;
    })
