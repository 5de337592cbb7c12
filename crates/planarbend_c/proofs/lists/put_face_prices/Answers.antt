use Rattle.std.proofs.Common.{rules, FitsSigned, w32, ◌≡◌, ◌∙◌, ◌<◌, pos, arith, get_or, length, refl, sym}
use Rattle.std.proofs.lemmas.Int.{to_z-of_z}
use Rattle.std.proofs.lemmas.List.{drop-set-lt}
use Rattle.planarbend_c.proofs.Written.{all_written, one_written, some_room}
use Rattle.planarbend_c.proofs.lists.put_face_prices.Goals as goal

pub loop-face-init : goal.loop-face-init
loop-face-init c = (refl, refl)

pub loop-face-preserved : goal.loop-face-preserved
loop-face-preserved c =
    let face = c.loop-face.face in
    let items = c.args.prices.now.faces in
    let end : c.face_count-face-end.result ≡ length items = c.face_count-face-end.ensures.value ∙ sym c.requires.prices.faces in
    let some = some_room (length c.args.out.now) c.if-is_empty.ensures in
    let room : face < length c.loop-face.out = omega (arith, c.requires.room some, c.loop-face.auto.out, c.loop-face-test.true, end) in
    let fits : FitsSigned w32 c.face.result = search rules in
    let is : c.face.result ≡ get_or items face (pos 0) = c.face.ensures in (
      one_written c.loop-face.out items c.from.result face _ (pos 0) c.from.ensures room (omega (arith, end, c.loop-face-test.true))
          c.loop-face.invariant.0 (to_z-of_z w32 c.face.result fits ∙ is),
      drop-set-lt (length items) c.loop-face.out c.from.result _ (omega (arith, end, c.loop-face-test.true, c.from.ensures)) ∙ c.loop-face.invariant.1,
    )

pub returns-clause-held : goal.returns-clause-held
returns-clause-held c some =
    let items = c.args.prices.now.faces in
    let end : c.face_count-face-end.result ≡ length items = c.face_count-face-end.ensures.value ∙ sym c.requires.prices.faces in
    all_written c.loop-face.out items c.loop-face.face (omega (arith, end, c.loop-face-test.false, c.loop-face.auto.face-end)) c.loop-face.invariant.0

pub returns-clause-rest : goal.returns-clause-rest
returns-clause-rest c = record { long = c.loop-face.auto.out; rest = c.loop-face.invariant.1 }
