use Rattle.std.proofs.Common.{◌≡◌, ◌∙◌, ℕ, Bool, List, false, length, ap, arith, subst, sym}
use Rattle.std.proofs.lemmas.List.{length-replicate}
use Rattle.embedding.specs.Darts.{dart_count}
use Rattle.faces.specs.Planes.{darts, face_at}
use Rattle.conditions.specs.Asked.{IsAmong}
use Rattle.conditions.proofs.Marking.{AreMarkedBelow, none_marked, marked_next}
use Rattle.conditions.proofs.conditions.mark_faces.Goals as goal

pub loop-dart-init : goal.loop-dart-init
loop-dart-init c =
    let p = c.args.plane.now in
    let P = IsAmong p c.args.list.now in
    record {
      size = ap length c.requires ∙ length-replicate (p.faces) false;
      so_far = subst (λ (m : List Bool). AreMarkedBelow (face_at p) P p.faces 0 m) (sym c.requires) (none_marked (face_at p) P p.faces);
    }

pub loop-dart-preserved : goal.loop-dart-preserved
loop-dart-preserved c =
    let p = c.args.plane.now in
    let dart = c.loop-dart.dart in
    let here : c.from.result ≡ face_at p dart = c.from.ensures ∙ c.face_of-face.ensures.value in
    record {
      size = search arith;
      so_far = marked_next (face_at p) (IsAmong p c.args.list.now) p.faces dart c.from.result c.loop-dart.barred c.mark_if.new.marks c.is_among.result c.mark_if.ensures c.is_among.ensures here (omega (arith, c.from.ensures, c.face_of-face.ensures.named)) c.loop-dart.invariant.size c.loop-dart.invariant.so_far;
    }

pub returns : goal.returns
returns c =
    let p = c.args.plane.now in
    let end : c.loop-dart.dart ≡ darts p = omega (arith, c.loop-dart-test.false, c.loop-dart.auto.dart-end, c.darts-dart-end.ensures.count, ap dart_count c.graph.ensures.value) in
    subst (λ (n : ℕ). AreMarkedBelow (face_at p) (IsAmong p c.args.list.now) p.faces n c.loop-dart.barred) end c.loop-dart.invariant.so_far
