use Rattle.std.proofs.Common.{rules, FitsSigned, w32, ◌≡◌, ◌∙◌, ◌+◌, ◌-◌, ◌<◌, ℕ, pos, ap, arith, get_or, length, refl, sym}
use Rattle.std.proofs.lemmas.Int.{to_z-of_z}
use Rattle.std.proofs.lemmas.List.{drop-set-lt}
use Rattle.planarbend_c.proofs.Written.{all_written, one_written, some_room}
use Rattle.planarbend_c.proofs.lists.put_vertex_prices.Goals as goal

pub loop-place-init : goal.loop-place-init
loop-place-init c = (refl, refl)

pub loop-place-preserved : goal.loop-place-preserved
loop-place-preserved c =
    let place = c.loop-place.place in
    let items = c.args.prices.now.vertices in
    let end : c.vertices-place-end.result ≡ length items = c.vertices-place-end.ensures.count ∙ ap length c.graph.ensures.value ∙ sym c.requires.prices.vertices in
    let some = some_room (length c.args.out.now) c.if-is_empty.ensures in
    let room : place < length c.loop-place.out = omega (arith, c.requires.room some, c.loop-place.auto.out, c.loop-place-test.true, end) in
    let at : place + 1 - 1 ≡ place = omega arith in
    let fits : FitsSigned w32 c.vertex.result = search rules in
    let is : c.vertex.result ≡ get_or items place (pos 0) = c.vertex.ensures ∙ ap (λ (k : ℕ). get_or items k (pos 0)) at in (
      one_written c.loop-place.out items c.from.result place _ (pos 0) c.from.ensures room (omega (arith, end, c.loop-place-test.true))
          c.loop-place.invariant.0 (to_z-of_z w32 c.vertex.result fits ∙ is),
      drop-set-lt (length items) c.loop-place.out c.from.result _ (omega (arith, end, c.loop-place-test.true, c.from.ensures)) ∙ c.loop-place.invariant.1,
    )

pub returns-clause-held : goal.returns-clause-held
returns-clause-held c some =
    let items = c.args.prices.now.vertices in
    let end : c.vertices-place-end.result ≡ length items = c.vertices-place-end.ensures.count ∙ ap length c.graph.ensures.value ∙ sym c.requires.prices.vertices in
    all_written c.loop-place.out items c.loop-place.place (omega (arith, end, c.loop-place-test.false, c.loop-place.auto.place-end)) c.loop-place.invariant.0

pub returns-clause-rest : goal.returns-clause-rest
returns-clause-rest c = record { long = c.loop-place.auto.out; rest = c.loop-place.invariant.1 }
