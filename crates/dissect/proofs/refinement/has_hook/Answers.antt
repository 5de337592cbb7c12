use Rattle.std.proofs.Common.{◌-◌, ◌+◌, get_or, arith}
use Rattle.std.proofs.lemmas.Bool.{lt-ltb, ltb-true}
use Rattle.std.proofs.lemmas.List.{get_or_read}
use Rattle.dissect.specs.Tables.{dart_map_of}
use Rattle.dissect.proofs.Stacks.{hook_parts, hook_from, hook_compared, three_turns}
use Rattle.dissect.proofs.refinement.has_hook.Goals as goal

pub overflow_add-result : goal.overflow_add-result
overflow_add-result c =
    let t = c.args.table.now in
    let xs = c.args.ring.now in
    let h = c.args.height in
    let at1 = c.requires.inside (h - 1) 0 (omega arith) in
    let at2 = c.requires.inside (h - 2) 0 (omega arith) in
    let top = get_or_read t.angle.items (get_or xs (h - 1) 0) c.index-top.result.now (omega (arith, at1)) c.index-top.ensures 0 in
    let below = get_or_read t.angle.items (get_or xs (h - 2) 0) c.index-below.result.now (omega (arith, at2)) c.index-below.ensures 0 in
    let turns = three_turns (dart_map_of t) xs h (omega arith) c.requires.turns in
    omega (arith, top, below, turns.1, turns.3.1)

pub returns : goal.returns
returns c =
    let t = c.args.table.now in
    let xs = c.args.ring.now in
    let h = c.args.height in
    let at1 = c.requires.inside (h - 1) 0 (omega arith) in
    let at2 = c.requires.inside (h - 2) 0 (omega arith) in
    let at3 = c.requires.inside (h - 3) 0 (omega arith) in
    let top = get_or_read t.angle.items (get_or xs (h - 1) 0) c.index-top.result.now (omega (arith, at1)) c.index-top.ensures 0 in
    let below = get_or_read t.angle.items (get_or xs (h - 2) 0) c.index-below.result.now (omega (arith, at2)) c.index-below.ensures 0 in
    let right = get_or_read t.angle.items (get_or xs (h - 3) 0) c.index-right.result.now (omega (arith, at3)) c.index-right.ensures 0 in
    let turns = three_turns (dart_map_of t) xs h (omega arith) c.requires.turns in (
      λ e. let parts = hook_compared _ _ _ turns
          (omega (arith, top, below, right, ltb-true (c.index-below.result.now + c.index-top.result.now) c.index-right.result.now e)) in
          hook_from (dart_map_of t) xs h (omega arith) parts.0 parts.1 parts.2,
      λ hook. let parts = hook_parts (dart_map_of t) xs h hook in
          lt-ltb (c.index-below.result.now + c.index-top.result.now) c.index-right.result.now
          (omega (arith, top, below, right, parts.0, parts.1, parts.2)),
    )
