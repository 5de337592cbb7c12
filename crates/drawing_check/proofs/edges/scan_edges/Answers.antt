use Rattle.std.proofs.Common.{◌≡◌, ◌↔◌, ◌<◌, ◌++◌, ℕ, List, length, map, true, false, refl, sym, ap, ◌∙◌, subst, arith, All}
use Rattle.std.specs.List.{flat_map}
use Rattle.std.proofs.lemmas.Bool.{lt-ltb, le-ltb}
use Rattle.geometry.specs.declared.plane_sweep.Rectangle.{Rectangle}
use Rattle.faces.specs.Planes.{darts, reverse_dart}
use Rattle.ortho_rep.specs.declared.grid_points.Point.{Point}
use Rattle.ortho_rep.specs.declared.turn_strings.Turn.{Turn}
use Rattle.ortho_rep.specs.Points.{corners_at}
use Rattle.ortho_rep.specs.Edges.{is_lesser, edge_number}
use Rattle.ortho_rep.specs.Shapes.{turns_at}
use Rattle.ortho_rep.proofs.EdgeNumbers.{edge_number-le, edge_total}
use Rattle.drawing_check.specs.Paths.{path_along, point_of}
use Rattle.drawing_check.specs.Draws.{IsInGrid, IsOnAxes, IsTurning}
use Rattle.drawing_check.specs.Routes.{path_of}
use Rattle.drawing_check.specs.Shown.{rectangle_between, strips}
use Rattle.drawing_check.proofs.InGrid.{grid_more, grid_all}
use Rattle.drawing_check.proofs.Leaving.{number_of_lesser, number_of_greater, leaving_more, leaving_kept, leaves_out, leaves_back, all_leave}
use Rattle.drawing_check.proofs.Routing.{axes_each, each_lesser, flag_more, flag_kept, paths_below, paths_below-more, paths_below-kept}
use Rattle.drawing_check.proofs.Strips.{paths_step}
use Rattle.drawing_check.proofs.edges.scan_edges.Goals as goal
use Rattle.drawing_check.proofs.edges.scan_edges.Goals.{then-dart-reverse, else-dart-reverse}

pub overflow_add-edge : goal.overflow_add-edge
overflow_add-edge c = omega (arith, edge_number-le c.args.plane.now c.loop-dart.dart, c.loop-dart.invariant.number, c.graph-graph.ensures.ends.few_darts)

pub loop-dart-preserved : goal.loop-dart-preserved
loop-dart-preserved c =
    let p = c.args.plane.now in
    let points = c.args.points.now in
    let dart = c.loop-dart.dart in
    let ends = c.graph-graph.ensures.ends in
    let straight : ℕ → Type 0 = λ d. IsOnAxes (path_along p points d) in
    let turning : ℕ → Type 0 = λ d. IsTurning (path_along p points d) (turns_at c.args.shape.now d) in
    let base : List Rectangle = map (λ (q : Point). rectangle_between q q) points.vertices in
    let so_far = c.loop-dart.invariant in
    let reverse_dart_is : c.reverse-reverse.result ≡ reverse_dart p dart = rw c.graph-graph.ensures.value at c.reverse-reverse.ensures.value in
    let count : c.darts-dart-end.result ≡ darts p = rw c.graph-graph.ensures.value at c.darts-dart-end.ensures.count in
    let inside : dart < darts p = omega (arith, count) in
    elim c.if-dart-reverse.branch [
      | then-dart-reverse w ↦
          let lesser : is_lesser p dart ≡ true = lt-ltb dart (reverse_dart p dart) (omega (arith, reverse_dart_is, w.if-dart-reverse.true)) in
          let route = w.route_of-route in
          let seen = w.examine_route-path.ensures in
          let path = w.examine_route-path.result in
          let grid : path.in_grid ≡ true ↔ All IsInGrid (corners_at points c.loop-dart.edge) =
          subst (λ (ps : List Point). path.in_grid ≡ true ↔ All IsInGrid ps) route.ensures.corners seen.in_grid in
          let on_axes : path.on_axes ≡ true ↔ straight dart =
          subst (λ (ps : List Point). path.on_axes ≡ true ↔ IsOnAxes ps) route.ensures.path seen.on_axes in
          let fits : path.turning ≡ true ↔ turning dart =
          subst (λ (ps : List Point). path.turning ≡ true ↔ IsTurning ps (turns_at c.args.shape.now dart)) route.ensures.path
          (subst (λ (ts : List Turn). path.turning ≡ true ↔ IsTurning (path_of route.result) ts) w.turns.ensures.value seen.turning) in
          record {
            number = omega (arith, w.edge-is, number_of_lesser p dart lesser, so_far.number);
            in_grid = rw (w.in_grid-is, w.edge-is) (grid_more points c.loop-dart.edge c.loop-dart.in_grid w.both-in_grid.result path.in_grid w.both-in_grid.ensures grid so_far.in_grid);
            on_axes = rw w.on_axes-is (flag_more straight p dart c.loop-dart.on_axes w.both-on_axes.result path.on_axes w.both-on_axes.ensures on_axes lesser so_far.on_axes);
            turning = rw w.turning-is (flag_more turning p dart c.loop-dart.turning w.both-turning.result path.turning w.both-turning.ensures fits lesser so_far.turning);
            listed = rw (w.listed-is, w.rectangles-is) (λ t.
                paths_step base c.loop-dart.rectangles.items w.examine_route-path.new.rectangles.items (paths_below p points dart) (path_along p points dart) (so_far.listed (seen.before t))
                (seen.added t ∙ ap (λ (ps : List Point). c.loop-dart.rectangles.items ++ strips ps) route.ensures.path)
                ∙ ap (λ (ps : List (List Point)). base ++ flat_map strips ps) (sym (paths_below-more p points dart lesser)));
            leaving =
                leaving_more p points c.loop-dart.directions c.if-dart-reverse.directions dart w.from.result w.from-then-dart-reverse.result path.out path.back ends so_far.leaving inside
                w.from.ensures (w.from-then-dart-reverse.ensures ∙ reverse_dart_is) w.directions-is
                (leaves_out p points dart route.result (point_of (path_of route.result) 1) path.out lesser route.ensures.path refl seen.out)
                (leaves_back p points dart route.result (point_of (path_of route.result) (length route.result.corners.now)) path.back ends inside lesser route.ensures.path refl seen.back);
          }
      | else-dart-reverse w ↦
          let greater : is_lesser p dart ≡ false = le-ltb dart (reverse_dart p dart) (omega (arith, reverse_dart_is, w.if-dart-reverse.false)) in
          record {
            number = omega (arith, w.edge-is, number_of_greater p dart greater, so_far.number);
            in_grid = rw (w.in_grid-is, w.edge-is) so_far.in_grid;
            on_axes = rw w.on_axes-is (flag_kept straight p dart c.loop-dart.on_axes greater so_far.on_axes);
            turning = rw w.turning-is (flag_kept turning p dart c.loop-dart.turning greater so_far.turning);
            listed = rw (w.listed-is, w.rectangles-is) (λ t. so_far.listed t ∙ ap (λ (ps : List (List Point)). base ++ flat_map strips ps) (sym (paths_below-kept p points dart greater)));
            leaving = rw w.directions-is (leaving_kept p points c.loop-dart.directions dart so_far.leaving greater);
          }
    ]

pub returns : goal.returns
returns c =
    let p = c.args.plane.now in
    let points = c.args.points.now in
    let done = c.loop-dart.invariant in
    let turning : ℕ → Type 0 = λ d. IsTurning (path_along p points d) (turns_at c.args.shape.now d) in
    let base : List Rectangle = map (λ (q : Point). rectangle_between q q) points.vertices in
    let count : c.darts-dart-end.result ≡ darts p = rw c.graph-graph.ensures.value at c.darts-dart-end.ensures.count in
    let whole : c.loop-dart.dart ≡ darts p = omega (arith, count, c.loop-dart.auto.dart-end) in
    let edges : c.loop-dart.edge ≡ length points.corners =
    omega (arith, edge_total p c.graph-graph.ensures.ends, subst (λ (n : ℕ). c.loop-dart.edge ≡ edge_number p n) whole done.number, c.requires.points.edge_count) in
    record {
      in_grid = grid_all points c.loop-dart.edge c.loop-dart.in_grid edges done.in_grid;
      on_axes = (
        λ t. (axes_each p points).1 (λ d lt less. done.on_axes.0 t d (omega (arith, count)) less),
        λ all. done.on_axes.1 (λ d lt less. (axes_each p points).0 all d (omega (arith, count, c.loop-dart.auto.dart-end)) less),
      );
      turning = (
        λ t. (each_lesser turning p).1 (λ d lt less. done.turning.0 t d (omega (arith, count)) less),
        λ all. done.turning.1 (λ d lt less. (each_lesser turning p).0 all d (omega (arith, count, c.loop-dart.auto.dart-end)) less),
      );
      listed = λ t. done.listed t ∙ ap (λ (n : ℕ). base ++ flat_map strips (paths_below p points n)) whole;
      room = done.leaving.room;
      leaving = all_leave p points c.loop-dart.directions c.loop-dart.dart c.graph-graph.ensures.ends done.leaving (omega (arith, count));
    }
