use Rattle.std.proofs.lemmas.Bool.{both_ways}
use Rattle.drawing_check.specs.Paths.{paths}
use Rattle.drawing_check.proofs.Leaving.{turns_as_said}
use Rattle.drawing_check.proofs.Strips.{listed_filled, apart_is_no_repeat}
use Rattle.drawing_check.proofs.drawing.first_fault.Goals as goal

pub returns-then-not-turn_as_said-clause-fault : goal.returns-then-not-turn_as_said-clause-fault
returns-then-not-turn_as_said-clause-fault c = (
  c.scan_edges-seen.ensures.in_grid.0 c.if-not-seen.false,
  c.scan_edges-seen.ensures.on_axes.0 c.if-not-seen-2.false,
  λ turns. both_ways c.turn_as_said.result c.if-not-turn_as_said.true (
      (turns_as_said c.args.plane.now c.args.shape.now c.args.points.now c.turn_as_said.result c.scan_edges-seen.result.turning c.scan_edges-seen.new.directions
      c.graph-graph.ensures.ends c.scan_edges-seen.ensures.turning c.scan_edges-seen.ensures.leaving c.turn_as_said.ensures).1 turns),
)

pub all_apart_in-requires : goal.all_apart_in-requires
all_apart_in-requires c =
    let points = c.args.points.now in
    listed_filled points.vertices (paths c.args.plane.now points) c.scan_edges-seen.new.rectangles.items (c.scan_edges-seen.ensures.listed c.if-not-seen-3.false)

pub returns-in-Ok-true-clause-draws : goal.returns-in-Ok-true-clause-draws
returns-in-Ok-true-clause-draws c =
    let points = c.args.points.now in
    let axes = c.scan_edges-seen.ensures.on_axes.0 c.if-not-seen-2.false in
    let same = apart_is_no_repeat points.vertices (paths c.args.plane.now points) c.scan_edges-seen.new.rectangles.items axes (c.scan_edges-seen.ensures.listed c.if-not-seen-3.false) in
    record {
      grid = c.scan_edges-seen.ensures.in_grid.0 c.if-not-seen.false;
      axes = axes;
      turns = (turns_as_said c.args.plane.now c.args.shape.now c.args.points.now c.turn_as_said.result c.scan_edges-seen.result.turning c.scan_edges-seen.new.directions
          c.graph-graph.ensures.ends c.scan_edges-seen.ensures.turning c.scan_edges-seen.ensures.leaving c.turn_as_said.ensures).0 c.if-not-turn_as_said.false;
      apart = same.0 (c.in-Ok-true.ensures.0 c.in-Ok-true.field-0-test);
    }

pub returns-in-Ok-false-clause-fault : goal.returns-in-Ok-false-clause-fault
returns-in-Ok-false-clause-fault c =
    let points = c.args.points.now in
    let axes = c.scan_edges-seen.ensures.on_axes.0 c.if-not-seen-2.false in
    let same = apart_is_no_repeat points.vertices (paths c.args.plane.now points) c.scan_edges-seen.new.rectangles.items axes (c.scan_edges-seen.ensures.listed c.if-not-seen-3.false) in (
      c.scan_edges-seen.ensures.in_grid.0 c.if-not-seen.false,
      axes,
      (turns_as_said c.args.plane.now c.args.shape.now c.args.points.now c.turn_as_said.result c.scan_edges-seen.result.turning c.scan_edges-seen.new.directions
          c.graph-graph.ensures.ends c.scan_edges-seen.ensures.turning c.scan_edges-seen.ensures.leaving c.turn_as_said.ensures).0 c.if-not-turn_as_said.false,
      λ apart. both_ways c.in-Ok-false.field-0 c.in-Ok-false.field-0-test (c.in-Ok-false.ensures.1 (same.1 apart)),
    )

pub returns-then-not-seen-3-clause-memory : goal.returns-then-not-seen-3-clause-memory
returns-then-not-seen-3-clause-memory c =
    λ _. record {
      grid = c.scan_edges-seen.ensures.in_grid.0 c.if-not-seen.false;
      axes = c.scan_edges-seen.ensures.on_axes.0 c.if-not-seen-2.false;
      turns = (turns_as_said c.args.plane.now c.args.shape.now c.args.points.now c.turn_as_said.result c.scan_edges-seen.result.turning c.scan_edges-seen.new.directions
          c.graph-graph.ensures.ends c.scan_edges-seen.ensures.turning c.scan_edges-seen.ensures.leaving c.turn_as_said.ensures).0 c.if-not-turn_as_said.false;
    }

pub returns-in-Err-clause-memory : goal.returns-in-Err-clause-memory
returns-in-Err-clause-memory c =
    λ _. record {
      grid = c.scan_edges-seen.ensures.in_grid.0 c.if-not-seen.false;
      axes = c.scan_edges-seen.ensures.on_axes.0 c.if-not-seen-2.false;
      turns = (turns_as_said c.args.plane.now c.args.shape.now c.args.points.now c.turn_as_said.result c.scan_edges-seen.result.turning c.scan_edges-seen.new.directions
          c.graph-graph.ensures.ends c.scan_edges-seen.ensures.turning c.scan_edges-seen.ensures.leaving c.turn_as_said.ensures).0 c.if-not-turn_as_said.false;
    }
