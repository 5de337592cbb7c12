use Rattle.std.proofs.Common.{◌≤◌, ◌+◌, ◌-◌, get_or, arith, sym, refl, ◌∙◌}
use Rattle.std.proofs.lemmas.List.{get_or_read}
use Rattle.dissect.specs.Tables.{dart_map_of, room}
use Rattle.dissect.proofs.Scanning.{right_room}
use Rattle.dissect.proofs.Stacks.{hook_three, can_at, straight_at, turning_at, turns_at, unhooked_at, inside_put}
use Rattle.dissect.proofs.Reading.{reading_top}
use Rattle.dissect.proofs.refinement.read_corner.Goals as goal

pub cuts-init : goal.cuts-init
cuts-init c =
    let reading = c.requires.reading in
    record {
      top = reading_top _ _ _ (dart_map_of c.args.table.now) c.args.ring.now c.args.height c.args.read (room c.args.table.now) c.requires.more reading;
      same = refl;
      inside = inside_put c.args.ring.now c.args.height (get_or c.args.ring.now c.args.read 0) (room c.args.table.now) (room c.args.table.now)
          reading.darts refl (reading.darts c.args.read 0 c.requires.more);
    }

pub has_hook-requires-clause-turns : goal.has_hook-requires-clause-turns
has_hook-requires-clause-turns c =
    turns_at _ _ _ (dart_map_of c.cuts.table) c.cuts.ring c.cuts.height (c.args.read + 1) c.requires.waiting.0 c.requires.waiting.1 c.cuts.invariant.top
    c.requires.waiting.2

pub overflow_sub-right : goal.overflow_sub-right
overflow_sub-right c = hook_three (dart_map_of c.cuts.table) c.cuts.ring c.cuts.height (c.has_hook.ensures.0 c.cuts-test.true)

pub cut_across-requires-clause-can : goal.cut_across-requires-clause-can
cut_across-requires-clause-can c =
    can_at _ _ _ (dart_map_of c.cuts.table) c.cuts.ring c.cuts.height (c.args.read + 1) c.requires.waiting.0 c.requires.waiting.1 c.cuts.invariant.top c.requires.waiting.2
    (c.has_hook.ensures.0 c.cuts-test.true)

pub cut_across-requires-clause-space : goal.cut_across-requires-clause-space
cut_across-requires-clause-space c =
    let can = can_at _ _ _ (dart_map_of c.cuts.table) c.cuts.ring c.cuts.height (c.args.read + 1) c.requires.waiting.0 c.requires.waiting.1 c.cuts.invariant.top
    c.requires.waiting.2 (c.has_hook.ensures.0 c.cuts-test.true) in
    omega (
      arith,
      right_room (dart_map_of c.cuts.table) (get_or c.cuts.ring (c.cuts.height - 3) 0) (room c.args.table.now) can.d_in can.right
          c.cuts.invariant.top.space,
      c.cuts.invariant.same,
    )

pub overflow_add-chord : goal.overflow_add-chord
overflow_add-chord c =
    let can = can_at _ _ _ (dart_map_of c.cuts.table) c.cuts.ring c.cuts.height (c.args.read + 1) c.requires.waiting.0 c.requires.waiting.1 c.cuts.invariant.top
    c.requires.waiting.2 (c.has_hook.ensures.0 c.cuts-test.true) in
    omega (
      arith,
      right_room (dart_map_of c.cuts.table) (get_or c.cuts.ring (c.cuts.height - 3) 0) (room c.args.table.now) can.d_in can.right
          c.cuts.invariant.top.space,
      c.cuts.invariant.same,
    )

pub cuts-preserved : goal.cuts-preserved
cuts-preserved c =
    let hook = c.has_hook.ensures.0 c.cuts-test.true in
    let three = hook_three (dart_map_of c.cuts.table) c.cuts.ring c.cuts.height hook in
    let can = can_at _ _ _ (dart_map_of c.cuts.table) c.cuts.ring c.cuts.height (c.args.read + 1) c.requires.waiting.0 c.requires.waiting.1 c.cuts.invariant.top
    c.requires.waiting.2 hook in
    let room_left : c.cuts.table.darts + 4 ≤ room c.cuts.table =
    omega (
      arith,
      right_room (dart_map_of c.cuts.table) (get_or c.cuts.ring (c.cuts.height - 3) 0) (room c.args.table.now) can.d_in can.right
          c.cuts.invariant.top.space,
      c.cuts.invariant.same,
    ) in
    let inside = c.cuts.invariant.inside (c.cuts.height - 3) 0 (omega (arith, three, c.cuts.invariant.top.low, c.cuts.invariant.top.inside)) in
    let read = get_or_read c.cut_across.new.table.angle.items (get_or c.cuts.ring (c.cuts.height - 3) 0) c.index.result.now
    (omega (arith, inside, c.cut_across.ensures.room)) c.index.ensures 0 in
    record {
      top = turning_at _ _ _ (dart_map_of c.cuts.table) c.cuts.ring c.cuts.height (c.args.read + 1) c.cut_across.ensures.cut.0 c.requires.waiting.0 c.requires.waiting.1
          (dart_map_of c.cut_across.new.table) c.cuts.invariant.top c.requires.waiting.2 hook c.cut_across.ensures.cut.1 (λ h. c.if-index-eq2.false (read ∙ h));
      same = c.cut_across.ensures.room ∙ c.cuts.invariant.same;
      inside = inside_put c.cuts.ring (c.cuts.height - 2) (c.cuts.table.darts + 2) (room c.cuts.table) (room c.cut_across.new.table)
          c.cuts.invariant.inside c.cut_across.ensures.room (omega (arith, room_left));
    }

pub cuts-preserved-then-index-eq2 : goal.cuts-preserved-then-index-eq2
cuts-preserved-then-index-eq2 c =
    let hook = c.has_hook.ensures.0 c.cuts-test.true in
    let three = hook_three (dart_map_of c.cuts.table) c.cuts.ring c.cuts.height hook in
    let can = can_at _ _ _ (dart_map_of c.cuts.table) c.cuts.ring c.cuts.height (c.args.read + 1) c.requires.waiting.0 c.requires.waiting.1 c.cuts.invariant.top
    c.requires.waiting.2 hook in
    let room_left : c.cuts.table.darts + 4 ≤ room c.cuts.table =
    omega (
      arith,
      right_room (dart_map_of c.cuts.table) (get_or c.cuts.ring (c.cuts.height - 3) 0) (room c.args.table.now) can.d_in can.right
          c.cuts.invariant.top.space,
      c.cuts.invariant.same,
    ) in
    let inside = c.cuts.invariant.inside (c.cuts.height - 3) 0 (omega (arith, three, c.cuts.invariant.top.low, c.cuts.invariant.top.inside)) in
    let read = get_or_read c.cut_across.new.table.angle.items (get_or c.cuts.ring (c.cuts.height - 3) 0) c.index.result.now
    (omega (arith, inside, c.cut_across.ensures.room)) c.index.ensures 0 in
    record {
      top = straight_at _ _ _ (dart_map_of c.cuts.table) c.cuts.ring c.cuts.height (c.args.read + 1) c.cut_across.ensures.cut.0 c.requires.waiting.0 c.requires.waiting.1
          (dart_map_of c.cut_across.new.table) c.cuts.invariant.top c.requires.waiting.2 hook c.cut_across.ensures.cut.1 (sym read ∙ c.if-index-eq2.true);
      same = c.cut_across.ensures.room ∙ c.cuts.invariant.same;
      inside = inside_put c.cuts.ring (c.cuts.height - 3) (c.cuts.table.darts + 2) (room c.cuts.table) (room c.cut_across.new.table)
          c.cuts.invariant.inside c.cut_across.ensures.room (omega (arith, room_left));
    }

pub overflow_sub-ring-else-index-eq2 : goal.overflow_sub-ring-else-index-eq2
overflow_sub-ring-else-index-eq2 c =
    omega (arith, hook_three (dart_map_of c.cuts.table) c.cuts.ring c.cuts.height (c.has_hook.ensures.0 c.cuts-test.true))

pub returns : goal.returns
returns c =
    let top = c.cuts.invariant.top in
    record {
      face_cutting = top.face_cutting;
      low = top.low;
      inside = top.inside;
      hookless = unhooked_at _ _ _ (dart_map_of c.cuts.table) c.cuts.ring c.cuts.height (c.args.read + 1) c.requires.waiting.0 c.requires.waiting.1 top c.requires.waiting.2
          (λ hook. let t = c.has_hook.ensures.1 hook in let f = c.cuts-test.false in absurd (cc));
      space = top.space;
      kept = c.cuts.invariant.same;
      darts = c.cuts.invariant.inside;
    }
