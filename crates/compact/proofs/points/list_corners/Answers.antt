use Rattle.std.proofs.Common.{◌≡◌, ◌<◌, ◌∙◌, ◌++◌, ℕ, List, [], ◌∷◌, length, All, slice_index, map, subst, sym, ap, refl, arith}
use Rattle.dissect.specs.Paths.{turning_vertices}
use Rattle.ortho_rep.specs.declared.grid_points.Point.{Point}
use Rattle.common.proofs.PushedLists.{concatenated-starts, concatenated-pushed, concatenated-AreStarts, concatenated-slices_at}
use Rattle.dissect.specs.Boxes.{dart_map}
use Rattle.compact.specs.Monotone.{point_at, vertices_along}
use Rattle.compact.proofs.Walking.{path_below}
use Rattle.compact.proofs.Placing.{IsCornersOf, one_corners}
use Rattle.compact.proofs.points.list_corners.Goals as goal

pub loop-edge-init : goal.loop-edge-init
loop-edge-init c =
    record {
      listed = concatenated-starts c.push.new.self.items c.clear.new.self.items (IsCornersOf c.args.boxes.now (λ v. slice_index c.args.x.now v) (λ v. slice_index c.args.y.now v))
          (c.in_ok-push.ensures.items ∙ ap (λ (s : List ℕ). s ++ (0 ∷ [])) c.in_ok-starts.ensures.items) c.clear.ensures.items;
      count = omega (arith, c.in_ok-push.ensures.len, c.in_ok-starts.ensures.len);
      room = omega (arith, c.in_ok-push.ensures.capacity, c.in_ok-starts.ensures.room, c.from.ensures, c.edges.ensures.value);
    }

pub push_reserved-requires : goal.push_reserved-requires
push_reserved-requires c =
    omega (arith, c.loop-edge.invariant.count, c.loop-edge.invariant.room, c.loop-edge-test.true, c.loop-edge.auto.edge-end, c.edges-edge-end.ensures.value)

pub push_corners-requires-clause-inside : goal.push_corners-requires-clause-inside
push_corners-requires-clause-inside c =
    let is = c.path.ensures.path in
    subst (All (λ d. d < c.args.boxes.now.darts)) (sym is.listed) (path_below (dart_map c.args.boxes.now) _ is.edge.first is.edge.rest is.edge.path)

pub loop-edge-preserved : goal.loop-edge-preserved
loop-edge-preserved c =
    let b = c.args.boxes.now in
    let x : ℕ → ℕ = λ v. slice_index c.args.x.now v in
    let y : ℕ → ℕ = λ v. slice_index c.args.y.now v in
    let e = c.loop-edge.edge in
    let is = c.path.ensures.path in
    let points = map (point_at x y) (turning_vertices (dart_map b) is.edge.first is.edge.rest) in
    let old = c.loop-edge.corners.items in
    let pushed : c.push_corners.new.corners.items ≡ old ++ points =
    c.in_ok-push_corners.ensures ∙ ap (λ (ds : List ℕ). old ++ map (point_at x y) (vertices_along (dart_map b) ds)) is.listed in
    record {
      listed = concatenated-pushed c.loop-edge.starts.items _ old c.push_corners.new.corners.items points e c.len.result (IsCornersOf b x y)
          c.loop-edge.invariant.listed pushed
          (λ piece h. pushed ∙ ap (λ (ps : List Point). old ++ ps) (one_corners b x y e points is.edge c.edges.ensures.boxes.few_darts refl h.edge ∙ sym h.is))
          (omega (arith, c.len.ensures, c.push_corners.new.corners.ok)) c.push_reserved.ensures.items;
      count = omega (arith, c.loop-edge.invariant.count, c.push_reserved.ensures.len);
      room = omega (arith, c.loop-edge.invariant.room, c.push_reserved.ensures.capacity);
    }

pub returns : goal.returns
returns c =
    let b = c.args.boxes.now in
    let x : ℕ → ℕ = λ v. slice_index c.args.x.now v in
    let y : ℕ → ℕ = λ v. slice_index c.args.y.now v in
    let pieces = concatenated-slices_at c.loop-edge.starts.items c.loop-edge.corners.items c.loop-edge.edge (IsCornersOf b x y) c.loop-edge.invariant.listed in
    let all : c.loop-edge.edge ≡ length b.edges = omega (arith, c.loop-edge-test.false, c.loop-edge.auto.edge-end, c.edges-edge-end.ensures.value) in
    record {
      places = concatenated-AreStarts _ _ _ _ c.loop-edge.invariant.listed;
      count = pieces.0 ∙ all;
      corners = λ e e_in edge.
          pieces.1 e (omega (arith, e_in, all)) (map (point_at x y) (turning_vertices (dart_map b) edge.first edge.rest)) (record { edge = edge; is = refl });
    }
