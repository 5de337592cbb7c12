use Rattle.std.proofs.Common.{refl}
use Rattle.dissect.proofs.SurroundWriting.{written, surround_made}
use Rattle.dissect.proofs.refinement.surround.Goals as goal

pub returns-clause-surrounded : goal.returns-clause-surrounded
returns-clause-surrounded c =
    let t = c.args.table.now in
    surround_made t.darts t.vertices t.next.items t.prev.items t.reverse_dart.items t.head.items t.direction.items t.angle.items t.before.items
    _ _ _ _ _ _ _
    (written t.darts t.next.items _ _ refl c.put_at.ensures.before c.put_at.ensures.here)
    (written t.darts t.prev.items _ _ refl c.put_at-2.ensures.before c.put_at-2.ensures.here)
    (written t.darts t.reverse_dart.items _ _ refl c.put_at-3.ensures.before c.put_at-3.ensures.here)
    (written t.darts t.head.items _ _ refl c.put_at-4.ensures.before c.put_at-4.ensures.here)
    (written t.darts t.direction.items _ _ refl c.put_at-6.ensures.before c.put_at-6.ensures.here)
    (written t.darts t.angle.items _ _ refl c.put_at-7.ensures.before c.put_at-7.ensures.here)
    (written t.darts t.before.items _ _ refl c.put_at-5.ensures.before c.put_at-5.ensures.here)
