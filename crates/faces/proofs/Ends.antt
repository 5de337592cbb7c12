-- What each dart of a plane has, from the rules that its lists keep.
use Rattle.std.proofs.Common.{ℕ, List, ◌∙◌, arith}
use Rattle.embedding.specs.Darts.{reverse_of}
use Rattle.embedding.specs.Rules.{KeepsBefore}
use Rattle.embedding.proofs.Rotation.{reverse_is, reverse_involution, reverse_apart, tail_within, head_within, after_tail, next_one, darts_few, darts_some}
use Rattle.faces.specs.Planes.{PlaneModel, IsPlane, HasEnds}

-- eight rules kept are seven kept
pub seven_rules : (g : List (List ℕ)) → KeepsBefore g 9 → KeepsBefore g 8
seven_rules g rules r h = rules r (omega arith)

pub plane_ends : (p : PlaneModel) → IsPlane p → HasEnds p
plane_ends p is =
    let g = p.lists in
    let rules : KeepsBefore g 8 = seven_rules g is.rules in
    let few = darts_few g rules in
    let order = is.order in
    let euler = is.euler in
    record {
      some_darts = darts_some g rules;
      few_darts = omega arith;
      few_faces = omega arith;
      tail_from = λ d h. (tail_within g d h).0;
      tail_to = λ d h. (tail_within g d h).1;
      head_from = λ d h. (head_within g rules d h).0;
      head_to = λ d h. (head_within g rules d h).1;
      reverse_dart_in_range = λ d h. (reverse_involution g rules).inside d h;
      reverse_dart_back = λ d h. (reverse_involution g rules).back d h;
      reverse_dart_apart = reverse_apart g rules;
      reverse_dart_tail = λ d h. (reverse_is g rules d h).tail;
      reverse_dart_head = λ d h. (reverse_is g rules d h).head;
      after_in_range = λ d h. (after_tail g d h).0;
      after_tail = λ d h. (after_tail g d h).1;
      next_one = next_one g rules;
      next_tail = λ d h. let o = reverse_is g rules d h in (after_tail g (reverse_of g d) o.inside).1 ∙ o.tail;
      face_named = is.faces.named;
    }
