use Rattle.std.proofs.Common.{rules, w32, ◌≡◌, sym}
use Rattle.std.specs.Prelude.{IsTrue}
use Rattle.std.proofs.lemmas.Int.{to_z-of_z}
use mir.Val.{SFits}
use Rattle.faces.specs.Planes.{head, face_at, reverse_dart}
use Rattle.flow_network.specs.Given.{angle_given, turns_given}
use Rattle.ortho_rep.specs.Shapes.{angle_at, turns_at}
use Rattle.ortho_rep.specs.Prices.{IsAngleKept, vertex_price, face_price}
use Rattle.ortho_rep.proofs.Priced.{angle_moved, turns_moved}
use Rattle.ortho_rep.proofs.certificate.is_priced_at.Goals as goal

pub returns-then-is_angle_kept : goal.returns-then-is_angle_kept
returns-then-is_angle_kept c =
    let plane = c.args.plane.now in
    let dart = c.args.dart in
    let k = angle_given c.args.given.now dart in
    let t = turns_given plane c.args.given.now dart in
    let a = angle_at c.args.shape.now dart in
    let s = turns_at c.args.shape.now dart in
    let v = vertex_price c.args.prices.now (head plane dart) in
    let f = face_price c.args.prices.now (face_at plane dart) in
    let g = face_price c.args.prices.now (face_at plane (reverse_dart plane dart)) in
    let vertex : SFits w32 c.vertex-vertex.result = search rules in
    let face : SFits w32 c.face-face.result = search rules in
    let across : SFits w32 c.face-across.result = search rules in
    let v_is : c.vertex-vertex.result ≡ v = cc in
    let f_is : c.face-face.result ≡ f = cc in
    let g_is : c.face-across.result ≡ g = cc in
    let angle_test = simp to_z-of_z at c.is_angle_kept.ensures in
    let turns_test = simp to_z-of_z at c.are_turns_kept.ensures in
    let kept : IsAngleKept k a v f = angle_moved c.angle.result k c.angle-2.result a c.vertex-vertex.result v c.face-face.result f c.angle.ensures.value c.angle-2.ensures v_is f_is (angle_test.0 c.if-is_angle_kept.true) in (
      λ yes. record {
        angle = kept;
        turns = turns_moved c.turns.result t c.turns-then-is_angle_kept.result.now s c.face-face.result f c.face-across.result g c.turns.ensures.value c.turns-then-is_angle_kept.ensures.value f_is g_is (turns_test.0 yes);
      },
      λ priced. turns_test.1 (turns_moved t c.turns.result s c.turns-then-is_angle_kept.result.now f c.face-face.result g c.face-across.result (sym c.turns.ensures.value) (sym c.turns-then-is_angle_kept.ensures.value) (sym f_is) (sym g_is) priced.turns),
    )

pub returns-else-is_angle_kept : goal.returns-else-is_angle_kept
returns-else-is_angle_kept c =
    let plane = c.args.plane.now in
    let dart = c.args.dart in
    let k = angle_given c.args.given.now dart in
    let a = angle_at c.args.shape.now dart in
    let v = vertex_price c.args.prices.now (head plane dart) in
    let f = face_price c.args.prices.now (face_at plane dart) in
    let vertex : SFits w32 c.vertex-vertex.result = search rules in
    let face : SFits w32 c.face-face.result = search rules in
    let v_is : c.vertex-vertex.result ≡ v = cc in
    let f_is : c.face-face.result ≡ f = cc in
    let angle_test = simp to_z-of_z at c.is_angle_kept.ensures in
    let none : IsTrue c.is_angle_kept.result → ⊥ = λ yes. (cc) in (
      λ yes. absurd (none yes),
      λ priced. angle_test.1 (angle_moved k c.angle.result a c.angle-2.result v c.vertex-vertex.result f c.face-face.result (sym c.angle.ensures.value) (sym c.angle-2.ensures) (sym v_is) (sym f_is) priced.angle),
    )
