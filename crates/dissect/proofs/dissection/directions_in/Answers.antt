use Rattle.std.proofs.Common.{◌≡◌, ℕ, ◌+◌, ◌-◌, ◌%◌, ◌<◌, List, [], length, get_or, replicate, sym, ap, ◌∙◌, subst, arith}
use Rattle.std.proofs.lemmas.List.{get_or-replicate, length-replicate, nil_from_length}
use Rattle.embedding.specs.Darts.{dart_count, reverse_of}
use Rattle.faces.specs.Planes.{darts, reverse_dart, next}
use Rattle.faces.proofs.Ends.{plane_ends}
use Rattle.ortho_rep.specs.Shapes.{angle_at, turns_at}
use Rattle.ortho_rep.specs.Turns.{lefts, rights}
use Rattle.dissect.specs.Directions.{AreDirections}
use Rattle.dissect.specs.DirectionSearch.{IsGivenDirection}
use Rattle.dissect.proofs.Searching.{IsSearch, IsStep, nobody, read_at, search_first, search_taken, search_step, search_ends, reached_size, shape_directions}
use Rattle.dissect.proofs.dissection.directions_in.Goals as goal

pub loop-dart-init : goal.loop-dart-init
loop-dart-init c =
    let some = shape_directions c.args.plane.now c.args.shape.now c.graph-graph.ensures.plane c.requires in
    let p = c.args.plane.now in
    let n = darts p in
    let count : c.from.result ≡ n = c.from.ensures ∙ (c.darts.ensures.count ∙ ap dart_count c.graph-graph.ensures.value) in
    let blank : c.in_ok-search.search.directions.items ≡ replicate n 4 = c.in_ok-search.ensures.unset ∙ ap (λ (k : ℕ). replicate k 4) count in
    let size : length c.in_ok-search.search.directions.items ≡ n = ap (length {A = ℕ}) blank ∙ length-replicate n 4 in
    let none : (d : ℕ) → d < n → get_or c.in_ok-search.search.directions.items d 0 ≡ 4 = λ d b. ap (λ (l : List ℕ). get_or l d 0) blank ∙ get_or-replicate n d 4 0 b in
    let step = subst (λ (l : List ℕ). IsGivenDirection c.in_ok-search.search.directions.items l 0 0 c.reach.new.self.directions.items c.reach.new.self.waiting.items) c.in_ok-search.ensures.waiting c.in_ok-reach.ensures in
    let first = λ (h : ℕ → ℕ) (are : AreDirections p (angle_at c.args.shape.now) (turns_at c.args.shape.now) h).
    search_first p (angle_at c.args.shape.now) (turns_at c.args.shape.now) h c.in_ok-search.search.directions.items c.reach.new.self.directions.items c.reach.new.self.waiting.items c.graph-graph.ensures.plane are size none step in
    ((first some.0 some.1).0, λ h are. (first h are).1)

pub index-direction-requires : goal.index-direction-requires
index-direction-requires c =
    let (h, are) = shape_directions c.args.plane.now c.args.shape.now c.graph-graph.ensures.plane c.requires in
    let t = search_taken c.pop.new.self.items c.in-Some.dart c.in-Some.ensures.items (c.loop-dart.invariant.1 h are) in
    omega (arith, t.0, (c.loop-dart.invariant.1 h are).size)

pub next-requires : goal.next-requires
next-requires c =
    let (h, are) = shape_directions c.args.plane.now c.args.shape.now c.graph-graph.ensures.plane c.requires in
    (search_taken c.pop.new.self.items c.in-Some.dart c.in-Some.ensures.items (c.loop-dart.invariant.1 h are)).0

pub angle-requires : goal.angle-requires
angle-requires c =
    let (h, are) = shape_directions c.args.plane.now c.args.shape.now c.graph-graph.ensures.plane c.requires in
    let t = search_taken c.pop.new.self.items c.in-Some.dart c.in-Some.ensures.items (c.loop-dart.invariant.1 h are) in
    omega (arith, t.0, c.requires.lengths.angles)

pub clockwise_direction-requires-clause-quarter : goal.clockwise_direction-requires-clause-quarter
clockwise_direction-requires-clause-quarter c =
    let (h, are) = shape_directions c.args.plane.now c.args.shape.now c.graph-graph.ensures.plane c.requires in
    let t = search_taken c.pop.new.self.items c.in-Some.dart c.in-Some.ensures.items (c.loop-dart.invariant.1 h are) in
    let s = c.loop-dart.invariant.1 h are in
    let inside : c.in-Some.dart < length c.loop-dart.search.directions.items = omega (arith, t.0, s.size) in
    let read = read_at c.loop-dart.search.directions.items c.from-in-Some.result c.in-Some.dart c.index-direction.result.now c.index-direction.ensures c.from-in-Some.ensures inside in
    omega (arith, read, s.sound c.in-Some.dart t.0 t.1)

pub reach-requires-in-Some : goal.reach-requires-in-Some
reach-requires-in-Some c =
    let (h, are) = shape_directions c.args.plane.now c.args.shape.now c.graph-graph.ensures.plane c.requires in
    omega (arith, c.reverse-clockwise.ensures.inside, ap dart_count c.graph-graph.ensures.value, (c.loop-dart.invariant.1 h are).size)

pub reverse-reverse-requires : goal.reverse-reverse-requires
reverse-reverse-requires c =
    let (h, are) = shape_directions c.args.plane.now c.args.shape.now c.graph-graph.ensures.plane c.requires in
    let t = search_taken c.pop.new.self.items c.in-Some.dart c.in-Some.ensures.items (c.loop-dart.invariant.1 h are) in
    omega (arith, t.0, ap dart_count c.graph-graph.ensures.value)

pub reach-requires-in-Some-2 : goal.reach-requires-in-Some-2
reach-requires-in-Some-2 c =
    let (h, are) = shape_directions c.args.plane.now c.args.shape.now c.graph-graph.ensures.plane c.requires in
    omega (arith, c.reverse-reverse.ensures.inside, ap dart_count c.graph-graph.ensures.value, (c.loop-dart.invariant.1 h are).size, reached_size _ _ _ _ _ _ c.in_ok-reach-2.ensures)

-- what one round of the loop does
step_of : (c : goal.In_ok-reach-3) → IsStep c.args.plane.now (angle_at c.args.shape.now) (turns_at c.args.shape.now) c.loop-dart.search.directions.items c.pop.new.self.items c.in-Some.dart c.reach-in-Some-2.new.self.directions.items c.reach-in-Some-2.new.self.waiting.items
step_of c =
    let (h, are) = shape_directions c.args.plane.now c.args.shape.now c.graph-graph.ensures.plane c.requires in
    let p = c.args.plane.now in
    let s = c.loop-dart.invariant.1 h are in
    let t = search_taken c.pop.new.self.items c.in-Some.dart c.in-Some.ensures.items s in
    let inside : c.in-Some.dart < length c.loop-dart.search.directions.items = omega (arith, t.0, s.size) in
    let read = read_at c.loop-dart.search.directions.items c.from-in-Some.result c.in-Some.dart c.index-direction.result.now c.index-direction.ensures c.from-in-Some.ensures inside in
    let graph = c.graph-graph.ensures.value in
    record {
      ahead = c.reverse-clockwise.result;
      back = c.reverse-reverse.result;
      ahead_is = c.reverse-clockwise.ensures.value ∙ (ap (λ (g : List (List ℕ)). reverse_of g c.next.result) graph ∙ ap (reverse_dart p) c.next.ensures.value);
      back_is = c.reverse-reverse.ensures.value ∙ ap (λ (g : List (List ℕ)). reverse_of g c.in-Some.dart) graph;
      first = c.clockwise_direction.result;
      second = c.reverse_direction.result;
      first_small = c.clockwise_direction.ensures.quarter;
      first_turned = ap (λ (a : ℕ). (c.clockwise_direction.result + a) % 4) (sym c.angle.ensures) ∙ (c.clockwise_direction.ensures.turned ∙ sym read);
      second_small = c.reverse_direction.ensures.quarter;
      second_turned = omega (arith, c.reverse_direction.ensures.turned, ap lefts c.turns.ensures.value, ap rights c.turns.ensures.value, read);
      between = c.reach-in-Some.new.self.directions.items;
      queue = c.reach-in-Some.new.self.waiting.items;
      first_reached = c.in_ok-reach-2.ensures;
      second_reached = c.in_ok-reach-3.ensures;
    }

pub loop-dart-smaller : goal.loop-dart-smaller
loop-dart-smaller c =
    let (h, are) = shape_directions c.args.plane.now c.args.shape.now c.graph-graph.ensures.plane c.requires in
    let next = search_step c.args.plane.now (angle_at c.args.shape.now) (turns_at c.args.shape.now) h c.graph-graph.ensures.plane are c.in-Some.dart c.in-Some.ensures.items (step_of c) (c.loop-dart.invariant.1 h are) in
    next.2

pub loop-dart-preserved : goal.loop-dart-preserved
loop-dart-preserved c =
    let some = shape_directions c.args.plane.now c.args.shape.now c.graph-graph.ensures.plane c.requires in
    let next = λ (h : ℕ → ℕ) (are : AreDirections c.args.plane.now (angle_at c.args.shape.now) (turns_at c.args.shape.now) h).
    search_step c.args.plane.now (angle_at c.args.shape.now) (turns_at c.args.shape.now) h c.graph-graph.ensures.plane are c.in-Some.dart c.in-Some.ensures.items (step_of c) (c.loop-dart.invariant.1 h are) in
    ((next some.0 some.1).1 0 c.loop-dart.invariant.0, λ h are. (next h are).0)

pub returns-clause-count : goal.returns-clause-count
returns-clause-count c =
    let (h, are) = shape_directions c.args.plane.now c.args.shape.now c.graph-graph.ensures.plane c.requires in
    (c.loop-dart.invariant.1 h are).size

pub returns-clause-first : goal.returns-clause-first
returns-clause-first c =
    let (h, are) = shape_directions c.args.plane.now c.args.shape.now c.graph-graph.ensures.plane c.requires in
    let some = (plane_ends c.args.plane.now c.graph-graph.ensures.plane).some_darts in
    omega (arith, (c.loop-dart.invariant.1 h are).sound 0 some c.loop-dart.invariant.0, are.quarter 0 some)

pub returns-clause-directions : goal.returns-clause-directions
returns-clause-directions c =
    let (h, are) = shape_directions c.args.plane.now c.args.shape.now c.graph-graph.ensures.plane c.requires in
    let none : c.loop-dart.search.waiting.items ≡ [] = nil_from_length c.loop-dart.search.waiting.items (omega (arith, c.in_default.ensures.cases.0)) in
    search_ends c.args.plane.now (angle_at c.args.shape.now) (turns_at c.args.shape.now) h c.loop-dart.search.directions.items c.graph-graph.ensures.plane are c.loop-dart.invariant.0
    (subst (λ (w : List ℕ). IsSearch (darts c.args.plane.now) h (4 - h 0) (λ d. reverse_dart c.args.plane.now (next c.args.plane.now d)) (reverse_dart c.args.plane.now) c.loop-dart.search.directions.items w nobody) none (c.loop-dart.invariant.1 h are))
