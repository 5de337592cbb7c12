use Rattle.std.proofs.Common.{◌≡◌, ◌&&◌, ◌+◌, ◌*◌, ℕ, Bool, true, arith, slice_index, subst, ap, refl}
use Rattle.dissect.specs.Boxes.{dart_map}
use Rattle.compact.proofs.Stepping.{AreKeptTo, kept_next, kept_along}
use Rattle.compact.proofs.axis.are_along.Goals as goal

both : (a b : Bool) → (a && b) ≡ true → (a ≡ true) × (b ≡ true)
both a b e = grind arith

pub loop-vertex-preserved : goal.loop-vertex-preserved
loop-vertex-preserved c =
    let v = c.loop-vertex.vertex in
    let around = c.args.around.now in
    let x = c.args.x.now in
    let y = c.args.y.now in
    let kept = both c.is_arc_satisfied.result c.is_arc_satisfied-in-loop-vertex.result c.if-not-is_arc_satisfied.false in
    let east = c.is_arc_satisfied.ensures in
    let north = c.is_arc_satisfied-in-loop-vertex.ensures in
    record {
      east = kept_next around 0 v (slice_index around (4 * v)) x y (ap (λ (i : ℕ). slice_index around i) (omega arith)) (east.grows kept.0) (east.equal kept.0) c.loop-vertex.invariant.east;
      north = kept_next around 1 v (slice_index around (4 * v + 1)) y x refl (north.grows kept.1) (north.equal kept.1) c.loop-vertex.invariant.north;
    }

pub returns-clause-x_along : goal.returns-clause-x_along
returns-clause-x_along c = λ _.
    let w = dart_map c.args.boxes.now in
    let around = c.args.around.now in
    let x = c.args.x.now in
    let y = c.args.y.now in
    let all : c.loop-vertex.vertex ≡ w.vertices = omega (arith, c.loop-vertex-test.false, c.loop-vertex.auto.vertex-end, c.vertices-vertex-end.ensures.value) in
    let so_far = c.loop-vertex.invariant in
    kept_along w 0 1 around x y c.vertices-vertex-end.ensures.boxes.sound c.requires.x_count c.requires.y_count (omega arith) (omega arith) c.requires.all_neighbours
    (subst (λ n. AreKeptTo around 0 n x y) all so_far.east) (subst (λ n. AreKeptTo around 1 n y x) all so_far.north)

pub returns-clause-y_along : goal.returns-clause-y_along
returns-clause-y_along c = λ _.
    let w = dart_map c.args.boxes.now in
    let around = c.args.around.now in
    let x = c.args.x.now in
    let y = c.args.y.now in
    let all : c.loop-vertex.vertex ≡ w.vertices = omega (arith, c.loop-vertex-test.false, c.loop-vertex.auto.vertex-end, c.vertices-vertex-end.ensures.value) in
    let so_far = c.loop-vertex.invariant in
    kept_along w 1 0 around y x c.vertices-vertex-end.ensures.boxes.sound c.requires.y_count c.requires.x_count (omega arith) (omega arith) c.requires.all_neighbours
    (subst (λ n. AreKeptTo around 1 n y x) all so_far.north) (subst (λ n. AreKeptTo around 0 n x y) all so_far.east)
