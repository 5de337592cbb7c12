use Rattle.std.proofs.Common.{◌≡◌, ◌+◌, ℕ, Bool, true, false, List, length, ap, arith}
use Rattle.std.specs.Prelude.{pos, ◌<ℤ◌}
use Rattle.flow_network.specs.FaceNet.{vertex_has_to_turn}
use Rattle.conditions.specs.Cut.{HasFacesIn, IsLeftOut}
use Rattle.conditions.proofs.Grown.{marks_more, marks_below}
use Rattle.conditions.proofs.cuts.vertex_marks.Goals as goal

pub loop-place-preserved : goal.loop-place-preserved
loop-place-preserved c =
    let p = c.args.plane.now in
    let given = c.args.given.now in
    let fs = c.args.faces.now in
    let before = c.loop-place.invariant in
    let said = c.in_ok-push.ensures.items in
    record {
      size = omega (arith, before.size, c.in_ok-push.ensures.len);
      some = marks_more _ _ c.lies_in_cut.result c.loop-place.place (λ (b : Bool) (k : ℕ). b ≡ true → pos 0 <ℤ vertex_has_to_turn p given (k + 1)) said before.size c.lies_in_cut.ensures.some before.some;
      inside = marks_more _ _ c.lies_in_cut.result c.loop-place.place (λ (b : Bool) (k : ℕ). b ≡ true → HasFacesIn p given fs (k + 1)) said before.size c.lies_in_cut.ensures.inside before.inside;
      outside = marks_more _ _ c.lies_in_cut.result c.loop-place.place (λ (b : Bool) (k : ℕ). b ≡ false → IsLeftOut p given fs (k + 1)) said before.size c.lies_in_cut.ensures.outside before.outside;
    }

pub returns-clause-inside : goal.returns-clause-inside
returns-clause-inside c = λ k on. c.loop-place.invariant.inside k (marks_below c.loop-place.marks.items c.loop-place.place k c.loop-place.invariant.size on) on

pub returns-clause-outside : goal.returns-clause-outside
returns-clause-outside c = λ k lt. c.loop-place.invariant.outside k (omega (arith, lt, c.loop-place-test.false, c.vertices-vertices.ensures.count, ap (λ (g : List (List ℕ)). length g) c.graph.ensures.value))
