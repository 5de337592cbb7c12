use Rattle.std.proofs.Common.{ℕ, List, arith, subst, sym}
use Rattle.std.proofs.lemmas.List.{get_or_read}
use Rattle.dissect.specs.Tables.{dart_map_of}
use Rattle.dissect.proofs.Walking.{IsTurn, IsWalking, walk_begins, walk_in, walk_turns, walk_goes, walk_ends, walk_fails}
use Rattle.dissect.proofs.face_list.walk.Goals as goal

pub steps-init : goal.steps-init
steps-init c =
    let flags = c.args.seen.now.items in
    let listed = c.args.corners.now.items in
    record {
      walking = subst (λ (xs : List ℕ). IsWalking (dart_map_of c.args.table.now) c.args.start flags flags listed xs 0 c.args.start)
          (sym c.in_ok-reserve.ensures.items) (walk_begins (dart_map_of c.args.table.now) c.args.start flags listed);
      room = omega (arith, c.in_ok-reserve.ensures.ok);
    }

pub push_corner-requires : goal.push_corner-requires
push_corner-requires c = omega (arith, c.steps.invariant.room, c.steps-test.true)

pub index-dart-requires : goal.index-dart-requires
index-dart-requires c =
    let inside = walk_in (dart_map_of c.args.table.now) _ _ _ _ _ _ _ c.requires.tied c.requires.inside c.steps.invariant.walking in
    omega arith

pub index_mut-requires : goal.index_mut-requires
index_mut-requires c =
    let t = c.args.table.now in
    let inside = walk_in (dart_map_of t) _ _ _ _ _ _ _ c.requires.tied c.requires.inside c.steps.invariant.walking in
    let next = get_or_read t.next.items c.steps.dart c.index-dart.result.now (omega arith) c.index-dart.ensures 0 in
    let after = c.requires.tied.next_in c.steps.dart inside in
    omega (arith, next, after, c.steps.invariant.walking.size)

pub index-requires : goal.index-requires
index-requires c =
    let t = c.args.table.now in
    let inside = walk_in (dart_map_of t) _ _ _ _ _ _ _ c.requires.tied c.requires.inside c.steps.invariant.walking in
    let next = get_or_read t.next.items c.steps.dart c.index-dart.result.now (omega arith) c.index-dart.ensures 0 in
    let after = c.requires.tied.next_in c.steps.dart inside in
    omega (arith, next, after)

pub returns-then-dart-start-clause-walked : goal.returns-then-dart-start-clause-walked
returns-then-dart-start-clause-walked c =
    let t = c.args.table.now in
    let w = dart_map_of t in
    let inside = walk_in w _ _ _ _ _ _ _ c.requires.tied c.requires.inside c.steps.invariant.walking in
    let next = get_or_read t.next.items c.steps.dart c.index-dart.result.now (omega arith) c.index-dart.ensures 0 in
    let after = c.requires.tied.next_in c.steps.dart inside in
    let angle = get_or_read t.angle.items c.index-dart.result.now c.index.result.now (omega (arith, next, after)) c.index.ensures 0 in
    let turn : IsTurn w c.steps.dart c.index-dart.result.now c.index.result.now c.steps.corners.items c.push_corner.new.corners.items =
    record { next_is = next; angle_is = angle; put = c.push_corner.ensures.put } in
    let step = walk_turns w _ _ _ _ _ _ _ _ _ _ c.steps.invariant.walking (omega (arith, next, after, c.steps.invariant.walking.size)) turn in
    walk_ends w _ _ _ _ _ _ _ step c.steps-test.true c.if-dart-start.true

pub steps-preserved : goal.steps-preserved
steps-preserved c =
    let t = c.args.table.now in
    let w = dart_map_of t in
    let inside = walk_in w _ _ _ _ _ _ _ c.requires.tied c.requires.inside c.steps.invariant.walking in
    let next = get_or_read t.next.items c.steps.dart c.index-dart.result.now (omega arith) c.index-dart.ensures 0 in
    let after = c.requires.tied.next_in c.steps.dart inside in
    let angle = get_or_read t.angle.items c.index-dart.result.now c.index.result.now (omega (arith, next, after)) c.index.ensures 0 in
    let turn : IsTurn w c.steps.dart c.index-dart.result.now c.index.result.now c.steps.corners.items c.push_corner.new.corners.items =
    record { next_is = next; angle_is = angle; put = c.push_corner.ensures.put } in
    let step = walk_turns w _ _ _ _ _ _ _ _ _ _ c.steps.invariant.walking (omega (arith, next, after, c.steps.invariant.walking.size)) turn in
    record {
      walking = walk_goes w _ _ _ _ _ _ _ step c.if-dart-start.false;
      room = omega (arith, c.steps.invariant.room, c.push_corner.ensures.count, c.push_corner.ensures.capacity);
    }

pub returns-clause-walked : goal.returns-clause-walked
returns-clause-walked c =
    absurd (walk_fails (dart_map_of c.args.table.now) _ _ _ _ _ _ _ c.requires.tied c.requires.inside (omega arith) c.steps.invariant.walking)
