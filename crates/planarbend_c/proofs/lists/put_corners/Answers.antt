use Rattle.std.proofs.Common.{◌∙◌, ◌+◌, ◌<◌, ◌≤◌, ◌++◌, List, ap, arith, length, map, take, refl, sym}
use Rattle.std.proofs.lemmas.List.{take_all}
use Rattle.ortho_rep.specs.declared.grid_points.Point.{Point}
use Rattle.planarbend_c.specs.declared.lists.GridPoint.{GridPoint}
use Rattle.planarbend_c.specs.Found.{all_corners, grid_point}
use Rattle.planarbend_c.proofs.Corners.{corners_more, count_all, count_below, count_more}
use Rattle.planarbend_c.proofs.Written.{same_beyond, some_room}
use Rattle.planarbend_c.proofs.lists.put_corners.Goals as goal

pub loop-edge-init : goal.loop-edge-init
loop-edge-init c = (refl, refl, refl)

pub put_corners_at-requires-clause-room : goal.put_corners_at-requires-clause-room
put_corners_at-requires-clause-room c =
    let lists = c.args.points.now.corners in
    let edge = c.loop-edge.edge in
    let inside : edge < length lists = omega (arith, c.requires.edges, c.loop-edge-test.true) in
    let some = some_room (length c.args.out.now) c.if-is_empty.ensures in
    let below = count_below lists edge inside in
    let here = ap length c.corners-corners.ensures in
    omega (arith, below, here, c.loop-edge.invariant.0, c.requires.room some, c.loop-edge.auto.out)

pub loop-edge-preserved : goal.loop-edge-preserved
loop-edge-preserved c =
    let lists = c.args.points.now.corners in
    let edge = c.loop-edge.edge in
    let inside : edge < length lists = omega (arith, c.requires.edges, c.loop-edge-test.true) in
    let more = count_more lists edge inside in
    let here = ap length c.corners-corners.ensures in (
      omega (arith, more, here, c.loop-edge.invariant.0),
      c.put_corners_at.ensures.put
          ∙ ap (λ (l : List GridPoint). l ++ map grid_point c.corners-corners.result.now) c.loop-edge.invariant.1
          ∙ ap (λ (l : List Point). all_corners (take edge lists) ++ map grid_point l) c.corners-corners.ensures
          ∙ sym (corners_more lists edge inside),
      same_beyond (length (all_corners lists)) (c.loop-edge.start + length c.corners-corners.result.now) c.loop-edge.out c.put_corners_at.new.out
          (omega (arith, count_below lists edge inside, here, c.loop-edge.invariant.0)) c.put_corners_at.ensures.rest.rest
          ∙ c.loop-edge.invariant.2,
    )

pub returns-clause-held : goal.returns-clause-held
returns-clause-held c some =
    let lists = c.args.points.now.corners in
    let end : length lists ≤ c.loop-edge.edge = omega (arith, c.requires.edges, c.loop-edge-test.false) in
    ap (λ n. take n c.loop-edge.out) (sym (count_all lists c.loop-edge.edge end) ∙ sym c.loop-edge.invariant.0)
    ∙ c.loop-edge.invariant.1
    ∙ ap all_corners (take_all c.loop-edge.edge lists end)

pub returns-clause-rest : goal.returns-clause-rest
returns-clause-rest c = record { long = c.loop-edge.auto.out; rest = c.loop-edge.invariant.2 }
