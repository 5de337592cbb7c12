use Rattle.std.proofs.Common.{◌≡◌, ◌∙◌, ◌+◌, ◌<◌, ◌++◌, ◌∷◌, [], List, ap, arith, length, map, take, set, refl, sym}
use Rattle.std.proofs.lemmas.List.{drop-set-lt, append-nil, append_assoc, map_more, take_all, take_more_set}
use Rattle.ortho_rep.specs.declared.grid_points.Point.{Point}
use Rattle.planarbend_c.specs.declared.lists.GridPoint.{GridPoint}
use Rattle.planarbend_c.specs.Found.{grid_point}
use Rattle.planarbend_c.proofs.lists.put_corners_at.Goals as goal

pub loop-place-init : goal.loop-place-init
loop-place-init c =
    let start : c.args.start + 0 ≡ c.args.start = omega arith in
    (ap (λ n. take n c.args.out.now) start ∙ sym (append-nil (take c.args.start c.args.out.now)), refl)

pub loop-place-preserved : goal.loop-place-preserved
loop-place-preserved c =
    let place = c.loop-place.place in
    let corners = c.args.corners.now in
    let at = c.args.start + place in
    let before = take c.args.start c.args.out.now in
    let room : at < length c.loop-place.out = omega (arith, c.requires.room, c.loop-place.auto.out, c.loop-place-test.true) in
    let next : c.args.start + (place + 1) ≡ at + 1 = omega arith in (
      ap (λ n. take n (set c.loop-place.out at c.grid_point.result)) next
          ∙ take_more_set c.loop-place.out at c.grid_point.result room
          ∙ ap (λ (l : List GridPoint). l ++ c.grid_point.result ∷ []) c.loop-place.invariant.0
          ∙ ap (λ (point : GridPoint). (before ++ map grid_point (take place corners)) ++ point ∷ []) c.grid_point.ensures
          ∙ append_assoc before _ _
          ∙ ap (λ (l : List GridPoint). before ++ l) (sym (map_more grid_point corners place (record { x = 0; y = 0 }) c.loop-place-test.true)),
      drop-set-lt (c.args.start + length corners) c.loop-place.out at c.grid_point.result (omega (arith, c.loop-place-test.true)) ∙ c.loop-place.invariant.1,
    )

pub returns-clause-put : goal.returns-clause-put
returns-clause-put c =
    let corners = c.args.corners.now in
    let all : take c.loop-place.place corners ≡ corners = take_all c.loop-place.place corners c.loop-place-test.false in
    let place : length corners ≡ c.loop-place.place = omega (arith, c.loop-place.auto.place-end, c.loop-place-test.false) in
    ap (λ n. take (c.args.start + n) c.loop-place.out) place ∙ c.loop-place.invariant.0
    ∙ ap (λ (l : List Point). take c.args.start c.args.out.now ++ map grid_point l) all

pub returns-clause-rest : goal.returns-clause-rest
returns-clause-rest c = record { long = c.loop-place.auto.out; rest = c.loop-place.invariant.1 }
