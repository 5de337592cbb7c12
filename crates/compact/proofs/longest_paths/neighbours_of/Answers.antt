use Rattle.std.proofs.Common.{◌∙◌, ◌≡◌, ◌+◌, ◌*◌, ◌<◌, ℕ, List, length, slice_index, ap, refl, subst, arith}
use Rattle.std.proofs.lemmas.List.{length-set}
use Rattle.dissect.specs.Boxes.{dart_map}
use Rattle.compact.specs.Monotone.{tail}
use Rattle.compact.specs.Neighbours.{HasNeighbours}
use Rattle.compact.proofs.Stepping.{step_written, step_kept}
use Rattle.compact.proofs.longest_paths.neighbours_of.Goals as goal

pub loop-dart-preserved : goal.loop-dart-preserved
loop-dart-preserved c =
    let w = dart_map c.args.boxes.now in
    let d = c.loop-dart.dart in
    let old = c.loop-dart.around.items in
    let heads = c.heads-heads.result.now in
    let reverse_darts = c.reverse_darts-reverse_darts.result.now in
    let sound = c.heads-heads.ensures.boxes.sound in
    let d_in : d < w.darts = omega (arith, c.loop-dart-test.true, c.darts-dart-end.ensures.value) in
    let reverse : slice_index reverse_darts d ≡ w.reverse_dart d = ap (λ (xs : List ℕ). slice_index xs d) c.reverse_darts-reverse_darts.ensures.value in
    let from : slice_index heads (slice_index reverse_darts d) ≡ tail w d =
    ap (λ (xs : List ℕ). slice_index xs (slice_index reverse_darts d)) c.heads-heads.ensures.value ∙ ap w.head reverse in
    let to : slice_index heads d ≡ w.head d = ap (λ (xs : List ℕ). slice_index xs d) c.heads-heads.ensures.value in
    let way : c.from.result ≡ w.direction d = c.from.ensures ∙ ap (λ (xs : List ℕ). slice_index xs d) c.directions-directions.ensures.value in
    let few : w.direction d < 4 = sound.meeting.quarter d d_in in
    let inside : tail w d < w.vertices = sound.meeting.head_in (w.reverse_dart d) (sound.tied.reverse_dart_in d d_in) in
    let place : 4 * slice_index heads (slice_index reverse_darts d) + c.from.result ≡ 4 * tail w d + w.direction d = omega (arith, from, way) in
    let room : 4 * slice_index heads (slice_index reverse_darts d) + c.from.result < length old = omega (arith, few, way, from, inside, c.loop-dart.invariant.count) in
    record {
      neighbours = step_written w d old _ c.args.boxes.now.vertices _ (slice_index heads d) d_in few place room to refl c.loop-dart.invariant.neighbours;
      all_neighbours = step_kept w d old _ _ (slice_index heads d) sound d_in place room to refl c.loop-dart.invariant.all_neighbours;
      count = length-set old _ (slice_index heads d) ∙ c.loop-dart.invariant.count;
    }

pub returns-clause-all_neighbours : goal.returns-clause-all_neighbours
returns-clause-all_neighbours c =
    let all : c.loop-dart.dart ≡ c.args.boxes.now.darts = omega (arith, c.loop-dart-test.false, c.loop-dart.auto.dart-end, c.darts-dart-end.ensures.value) in
    subst (λ (n : ℕ). HasNeighbours (dart_map c.args.boxes.now) c.loop-dart.around.items n) all c.loop-dart.invariant.all_neighbours
