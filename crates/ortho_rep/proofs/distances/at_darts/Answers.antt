use Rattle.std.proofs.Common.{◌≡◌, ◌+◌, ◌∙◌, ℕ, List, ap, sym, arith}
use Rattle.std.specs.Prelude.{slice_index}
use Rattle.common.specs.Sums.{sum_below}
use Rattle.common.proofs.Sums.{sum_below-more}
use Rattle.embedding.specs.Darts.{head_of}
use Rattle.faces.specs.Planes.{head, face_at}
use Rattle.ortho_rep.proofs.distances.at_darts.Goals as goal

-- a sum with one number more
more : (n total x : ℕ) (f : ℕ → ℕ) → total ≡ sum_below n f → x ≡ f n → total + x ≡ sum_below (n + 1) f
more n total x f before here = omega (arith, before, here, sum_below-more n f)

pub loop-dart-preserved : goal.loop-dart-preserved
loop-dart-preserved c =
    let plane = c.args.plane.now in
    let dart = c.loop-dart.dart in
    let far = c.args.far.now in
    let near = c.args.near.now in
    let of_face : c.from-in-loop-dart-2.result ≡ slice_index far (face_at plane dart) = (cc) in
    let of_head : c.from-in-loop-dart-3.result ≡ slice_index near (head plane dart) = (cc) in
    record {
      sum = more dart c.loop-dart.sum (c.from-in-loop-dart-2.result + c.from-in-loop-dart-3.result) (λ d. slice_index far (face_at plane d) + slice_index near (head plane d)) c.loop-dart.invariant.sum (omega arith);
      few = omega (arith, c.type_inv.far (face_at plane dart), c.type_inv.near (head plane dart));
    }
