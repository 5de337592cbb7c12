use Rattle.std.proofs.Common.{◌≡◌, ◌<◌, ◌≤◌, ◌+◌, ◌-◌, ◌%◌, ℕ, List, length, get_or, arith}
use Rattle.std.proofs.lemmas.List.{get_or_read}
use Rattle.dissect.specs.DartMaps.{IsSound}
use Rattle.dissect.specs.FaceCutting.{CanCut}
use Rattle.dissect.specs.Tables.{dart_map_of}
use Rattle.dissect.proofs.Making.{dart_map_from}
use Rattle.dissect.proofs.Scanning.{IsRead, read_fits, read_tied, read_cut}
use Rattle.dissect.proofs.refinement.cut_across.Goals as goal

-- what the four reads gave
reads : (n v : ℕ) (N P T H D A B : List ℕ) (d c e facing one two : ℕ) → IsSound (dart_map_from n v N P T H D A B) →
    CanCut (dart_map_from n v N P T H D A B) d c → n ≤ length N → n ≤ length D → n ≤ length A →
    e ≡ get_or N c e → facing ≡ get_or D e facing → one ≡ get_or D d one → two ≡ get_or A d two →
    IsRead (dart_map_from n v N P T H D A B) d c e facing one two
reads n v N P T H D A B d c e facing one two sound can long_N long_D long_A read_e read_facing read_one read_two =
    let e_is : e ≡ get_or N c 0 = get_or_read N c e (omega (arith, can.c_in, long_N)) read_e 0 in
    let e_in : e < length D = omega (arith, e_is, sound.tied.next_in c can.c_in, long_D) in
    record {
      e_is = e_is;
      facing_is = get_or_read D e facing e_in read_facing 0;
      direction_is = get_or_read D d one (omega (arith, can.d_in, long_D)) read_one 0;
      angle_is = get_or_read A d two (omega (arith, can.d_in, long_A)) read_two 0;
    }

pub chord-requires-clause-tied : goal.chord-requires-clause-tied
chord-requires-clause-tied c =
    let t = c.args.table.now in
    let read = reads t.darts t.vertices t.next.items t.prev.items t.reverse_dart.items t.head.items t.direction.items t.angle.items t.before.items
    c.args.d c.args.c c.index-e.result.now c.index-edge_direction.result.now c.index.result.now c.index-2.result.now
    c.requires.sound c.requires.can (omega arith) (omega arith) (omega arith)
    c.index-e.ensures c.index-edge_direction.ensures c.index.ensures c.index-2.ensures in
    read_tied (dart_map_of t) c.args.d c.args.c _ _ _ _ (dart_map_of c.subdivide.new.self) read c.requires.sound c.requires.can c.subdivide.ensures.subdivide

pub chord-requires-clause-fits : goal.chord-requires-clause-fits
chord-requires-clause-fits c =
    let t = c.args.table.now in
    let read = reads t.darts t.vertices t.next.items t.prev.items t.reverse_dart.items t.head.items t.direction.items t.angle.items t.before.items
    c.args.d c.args.c c.index-e.result.now c.index-edge_direction.result.now c.index.result.now c.index-2.result.now
    c.requires.sound c.requires.can (omega arith) (omega arith) (omega arith)
    c.index-e.ensures c.index-edge_direction.ensures c.index.ensures c.index-2.ensures in
    read_fits (dart_map_of t) c.args.d c.args.c _ _ _ _ (dart_map_of c.subdivide.new.self) read c.requires.sound c.requires.can c.subdivide.ensures.subdivide

pub returns-clause-cut : goal.returns-clause-cut
returns-clause-cut c =
    let t = c.args.table.now in
    let read = reads t.darts t.vertices t.next.items t.prev.items t.reverse_dart.items t.head.items t.direction.items t.angle.items t.before.items
    c.args.d c.args.c c.index-e.result.now c.index-edge_direction.result.now c.index.result.now c.index-2.result.now
    c.requires.sound c.requires.can (omega arith) (omega arith) (omega arith)
    c.index-e.ensures c.index-edge_direction.ensures c.index.ensures c.index-2.ensures in (
      (c.index.result.now + 7 - c.index-2.result.now) % 4,
      read_cut (dart_map_of t) c.args.d c.args.c _ _ _ _ (dart_map_of c.subdivide.new.self) (dart_map_of c.chord.new.self) read c.requires.sound c.requires.can
          c.subdivide.ensures.subdivide c.chord.ensures.chord,
    )
