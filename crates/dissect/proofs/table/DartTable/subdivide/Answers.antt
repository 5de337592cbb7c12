use Rattle.std.proofs.Common.{arith, refl}
use Rattle.std.proofs.lemmas.List.{get_or_read}
use Rattle.dissect.proofs.Making.{split_made}
use Rattle.dissect.proofs.table.DartTable.subdivide.Goals as goal

pub returns-clause-subdivide : goal.returns-clause-subdivide
returns-clause-subdivide c =
    let s = c.args.self.now in
    split_made s.darts s.vertices c.args.e c.index-reverse_dart.result.now c.args.way c.args.left_angle
    s.next.items c.put_before.new.next.items c.put_before-2.new.next.items
    s.prev.items c.put_before.new.prev.items c.put_before-2.new.prev.items
    s.reverse_dart.items c.pair.new.reverse_dart.items c.pair-2.new.reverse_dart.items
    s.head.items _ s.direction.items _ s.angle.items _
    s.before.items c.put_before_on_edge.new.before.items c.put_before_on_edge-2.new.before.items
    c.requires.tied c.requires.e_in
    (get_or_read s.reverse_dart.items c.args.e c.index-reverse_dart.result.now (omega arith) c.index-reverse_dart.ensures 0)
    (omega arith) (omega arith) (omega arith) (omega arith) (omega arith) (omega arith) (omega arith)
    c.put_before.ensures.next c.put_before.ensures.prev c.put_before-2.ensures.next c.put_before-2.ensures.prev
    c.pair.ensures.reverse_dart c.pair-2.ensures.reverse_dart c.put_before_on_edge.ensures.before c.put_before_on_edge-2.ensures.before
    refl refl refl
