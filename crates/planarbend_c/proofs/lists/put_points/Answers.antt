use Rattle.std.proofs.Common.{◌≡◌, ◌∙◌, ◌<◌, ◌++◌, ◌∷◌, [], ap, arith, length, map, take, sym, refl}
use Rattle.std.proofs.lemmas.List.{drop-set-lt, map_more, take_all, take_more_set, length-map}
use Rattle.planarbend_c.specs.declared.lists.GridPoint.{GridPoint}
use Rattle.planarbend_c.specs.Found.{grid_point}
use Rattle.planarbend_c.proofs.Written.{some_room}
use Rattle.planarbend_c.proofs.lists.put_points.Goals as goal

pub loop-place-init : goal.loop-place-init
loop-place-init c = (refl, refl)

pub loop-place-preserved : goal.loop-place-preserved
loop-place-preserved c =
    let place = c.loop-place.place in
    let points = c.args.points.now in
    let some : 0 < length c.args.out.now = some_room (length c.args.out.now) c.if-is_empty.ensures in
    let room : place < length c.loop-place.out = omega (arith, c.requires.room some, c.loop-place.auto.out, c.loop-place-test.true) in (
      take_more_set c.loop-place.out place c.grid_point.result room
          ∙ ap (λ before. before ++ c.grid_point.result ∷ []) c.loop-place.invariant.0
          ∙ ap (λ (point : GridPoint). map grid_point (take place points) ++ point ∷ []) c.grid_point.ensures
          ∙ sym (map_more grid_point points place (record { x = 0; y = 0 }) c.loop-place-test.true),
      drop-set-lt (length points) c.loop-place.out place c.grid_point.result c.loop-place-test.true ∙ c.loop-place.invariant.1,
    )

pub returns-clause-held : goal.returns-clause-held
returns-clause-held c some =
    let points = c.args.points.now in
    let all : take c.loop-place.place points ≡ points = take_all c.loop-place.place points c.loop-place-test.false in
    let place : length points ≡ c.loop-place.place = omega (arith, c.loop-place.auto.place-end, c.loop-place-test.false) in
    ap (λ n. take n c.loop-place.out) (length-map points grid_point ∙ place) ∙ c.loop-place.invariant.0 ∙ ap (map grid_point) all

pub returns-clause-rest : goal.returns-clause-rest
returns-clause-rest c = record { long = c.loop-place.auto.out; rest = c.loop-place.invariant.1 }
