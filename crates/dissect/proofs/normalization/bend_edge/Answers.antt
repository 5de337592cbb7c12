use Rattle.std.proofs.Common.{◌≡◌, ◌+◌, ◌%◌, ◌<◌, ◌∙◌, ℕ, List, arith, ap, sym, subst}
use Rattle.std.proofs.lemmas.List.{get_or_read, drop_all}
use Rattle.ortho_rep.specs.declared.turn_strings.Turn.{Turn}
use Rattle.dissect.specs.Tables.{dart_map_of}
use Rattle.dissect.specs.Steps.{IsBent, straight, start_direction}
use Rattle.dissect.proofs.Normalizing.{turn_on}
use Rattle.dissect.proofs.normalization.bend_edge.Goals as goal

pub turns-preserved : goal.turns-preserved
turns-preserved c =
    let t = c.turns.table in
    let before = c.turns.invariant in
    let reverse_dart_is = get_or_read t.reverse_dart.items c.args.e c.index-reverse_dart.result.now (omega (arith, before.inside)) c.index-reverse_dart.ensures 0 in
    let reverse_dart_in : c.index-reverse_dart.result.now < t.darts = omega (arith, reverse_dart_is, before.tied.reverse_dart_in c.args.e before.inside) in
    let direction_is = get_or_read t.direction.items c.index-reverse_dart.result.now c.index.result.now (omega (arith, reverse_dart_in)) c.index.ensures 0 in
    let way_is : (c.index.result.now + 2) % 4 ≡ start_direction (dart_map_of t) c.args.e =
    ap (λ (k : ℕ). (k + 2) % 4) (direction_is ∙ ap (dart_map_of t).direction reverse_dart_is) in
    let step = turn_on (dart_map_of t) c.args.e _ c.angle_of.result c.args.turns.now c.turns.turn-index _ (dart_map_of c.subdivide.new.self)
    before.tied before.meeting before.inside c.turns-test.true way_is c.angle_of.ensures c.subdivide.ensures.subdivide in
    record {
      tied = step.tied;
      meeting = step.meeting;
      inside = omega (arith, before.inside, c.subdivide.ensures.subdivide.darts);
      count = omega (arith, before.count, c.subdivide.ensures.subdivide.darts);
      same = c.subdivide.ensures.room ∙ before.same;
      steps = λ new rest. before.steps new (step.steps new rest);
    }

pub returns-clause-bent : goal.returns-clause-bent
returns-clause-bent c =
    c.turns.invariant.steps (dart_map_of c.turns.table)
    (subst (λ (ts : List Turn). IsBent c.args.e (dart_map_of c.turns.table) ts (dart_map_of c.turns.table))
    (sym (drop_all c.turns.turn-index c.args.turns.now c.turns-test.false)) (straight (dart_map_of c.turns.table)))

pub overflow_add-way : goal.overflow_add-way
overflow_add-way c =
    let t = c.turns.table in
    let before = c.turns.invariant in
    let reverse_dart_is = get_or_read t.reverse_dart.items c.args.e c.index-reverse_dart.result.now (omega (arith, before.inside)) c.index-reverse_dart.ensures 0 in
    let reverse_dart_in : c.index-reverse_dart.result.now < t.darts = omega (arith, reverse_dart_is, before.tied.reverse_dart_in c.args.e before.inside) in
    let direction_is = get_or_read t.direction.items c.index-reverse_dart.result.now c.index.result.now (omega (arith, reverse_dart_in)) c.index.ensures 0 in
    omega (arith, direction_is, before.meeting.quarter c.index-reverse_dart.result.now reverse_dart_in)
