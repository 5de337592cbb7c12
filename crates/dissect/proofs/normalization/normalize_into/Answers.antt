use Rattle.std.proofs.Common.{◌+◌, ℕ, List, length, map, get_or, drop, arith, ap, subst}
use Rattle.std.specs.Prelude.{slice_index}
use Rattle.std.proofs.lemmas.List.{drop_all}
use Rattle.faces.specs.Planes.{darts, reverse_dart}
use Rattle.ortho_rep.specs.declared.turn_strings.Turn.{Turn}
use Rattle.ortho_rep.specs.Shapes.{angle_at, turns_at}
use Rattle.dissect.specs.DartMaps.{IsTied, IsMeeting}
use Rattle.dissect.specs.Tables.{dart_map_of}
use Rattle.dissect.specs.Steps.{IsBent, AreBent, finished, angle_of}
use Rattle.dissect.specs.Paths.{HasPaths}
use Rattle.dissect.proofs.EdgeTurns.{bends_twice, lesser_length-lesser, lesser_few}
use Rattle.dissect.proofs.Normalizing.{AreRemaining, AreDone, none_done, next_at, next_done, none_left}
use Rattle.dissect.proofs.Starting.{tied, meeting}
use Rattle.dissect.proofs.Ending.{all_bends}
use Rattle.dissect.proofs.Pathing.{bends_have_paths, bends_stay_connected}
use Rattle.dissect.proofs.Chaining.{bends_have_chains}
use Rattle.dissect.proofs.Labelling.{bends_have_labels}
use Rattle.dissect.proofs.normalization.normalize_into.Goals as goal

pub edges-init : goal.edges-init
edges-init c =
    let p = c.args.plane.now in
    let a = angle_at c.args.shape.now in
    let s = turns_at c.args.shape.now in
    let h = slice_index c.args.directions.now in
    let w = dart_map_of c.in_ok-table.table in
    none_done p s c.in_ok-table.table c.args.edges.now
    (tied p a s h w c.graph-graph.ensures.plane c.graph-graph.ensures.ends c.requires.shape.rep c.requires.directions c.in_ok-table.ensures.bare)
    (meeting p a s h w c.graph-graph.ensures.plane c.graph-graph.ensures.ends c.requires.shape.rep c.requires.directions c.in_ok-table.ensures.bare)
    c.requires.edges

pub turns-requires : goal.turns-requires
turns-requires c =
    let next = next_at c.args.plane.now (turns_at c.args.shape.now) c.in_ok-table.table c.edges.table c.args.edges.now c.edges.dart-index
    c.edges-test.true c.edges.invariant in
    omega (arith, next.inside, c.requires.shape.lengths.strings)

pub bend_edge-requires-clause-inside : goal.bend_edge-requires-clause-inside
bend_edge-requires-clause-inside c =
    let next = next_at c.args.plane.now (turns_at c.args.shape.now) c.in_ok-table.table c.edges.table c.args.edges.now c.edges.dart-index
    c.edges-test.true c.edges.invariant in
    omega (arith, c.from.ensures, next.inside, c.in_ok-table.ensures.bare.dart_count, next.done.count)

pub bend_edge-requires-clause-space : goal.bend_edge-requires-clause-space
bend_edge-requires-clause-space c =
    let p = c.args.plane.now in
    let a = angle_at c.args.shape.now in
    let s = turns_at c.args.shape.now in
    let d : ℕ = get_or c.args.edges.now c.edges.dart-index 0 in
    let next = next_at p s c.in_ok-table.table c.edges.table c.args.edges.now c.edges.dart-index c.edges-test.true c.edges.invariant in
    omega (
      arith,
      next.done.count,
      next.done.same,
      c.in_ok-table.ensures.bare.dart_count,
      c.in_ok-table.ensures.room,
      c.in_ok-room.ensures.room,
      bends_twice p a s c.graph-graph.ensures.ends c.requires.shape.rep,
      lesser_few p a s d c.graph-graph.ensures.ends c.requires.shape.rep next.inside,
      lesser_length-lesser p s d next.lesser,
      ap (length {A = Turn}) c.turns.ensures.value,
    )

pub edges-preserved : goal.edges-preserved
edges-preserved c =
    let p = c.args.plane.now in
    let s = turns_at c.args.shape.now in
    let d : ℕ = get_or c.args.edges.now c.edges.dart-index 0 in
    let start = c.in_ok-table.table in
    let next = next_at p s start c.edges.table c.args.edges.now c.edges.dart-index c.edges-test.true c.edges.invariant in
    let new = c.bend_edge.new.table in
    let edge : IsBent d (dart_map_of c.edges.table) (s d) (dart_map_of new) =
    subst (λ (e : ℕ). IsBent e (dart_map_of c.edges.table) (s d) (dart_map_of new)) c.from.ensures
    (subst (λ (ts : List Turn). IsBent c.from.result (dart_map_of c.edges.table) ts (dart_map_of new)) c.turns.ensures.value c.bend_edge.ensures.bent) in
    next_done p s start c.edges.table new d (drop (c.edges.dart-index + 1) c.args.edges.now) next edge
    c.bend_edge.ensures.tied c.bend_edge.ensures.meeting
    (omega (arith, c.bend_edge.ensures.darts, ap (length {A = Turn}) c.turns.ensures.value)) c.bend_edge.ensures.room

pub returns : goal.returns
returns c =
    let p = c.args.plane.now in
    let a = angle_at c.args.shape.now in
    let s = turns_at c.args.shape.now in
    let h = slice_index c.args.directions.now in
    let start = c.in_ok-table.table in
    let plane = c.graph-graph.ensures.plane in
    let ends = c.graph-graph.ensures.ends in
    let rep = c.requires.shape.rep in
    let bare = c.in_ok-table.ensures.bare in
    let done : AreDone p s start c.edges.table (darts p) =
    none_left p s start c.edges.table
    (subst (AreRemaining p s start c.edges.table) (drop_all c.edges.dart-index c.args.edges.now c.edges-test.false) c.edges.invariant) in
    let w = dart_map_of start in
    let new = dart_map_of c.edges.table in
    let bent : AreBent p s 0 w new = done.steps new (finished (darts p) new (omega arith)) in
    let bends = all_bends p a s h w new plane ends rep c.requires.directions bare bent in
    let plain = tied p a s h w plane ends rep c.requires.directions bare in
    let paths : HasPaths new (darts p) (reverse_dart p) (λ d. map angle_of (s d)) =
    bends_have_paths p a h s w new plane rep.strings bare plain (omega arith) bent in
    record {
      sound = bends.sound;
      darts = bends.darts;
      directions = bends.directions;
      faces = bends.faces;
      counts = bends.counts;
      paths = paths;
      chains = bends_have_chains p a h s w new bare plain (meeting p a s h w plane ends rep c.requires.directions bare) bent;
      connected = bends_stay_connected p a h s w new plane bare plain bent;
      labelled = bends_have_labels p a h s w new (reverse_dart p) (λ d. map angle_of (s d)) plane bare plain (omega arith) paths bent;
      space = omega (
        arith,
        bends.counts.dart_count,
        bends.counts.right_turns,
        done.same,
        c.in_ok-table.ensures.room,
        c.in_ok-room.ensures.room,
        bends_twice p a s ends rep,
      );
    }
