use Rattle.std.proofs.Common.{◌<◌, ◌≤◌, ◌+◌, ◌++◌, ℕ, List, map, length, get_or, drop, take, All, arith, sym, subst}
use Rattle.dissect.specs.DartMaps.{same}
use Rattle.dissect.specs.Tables.{dart_map_of, room}
use Rattle.dissect.specs.Turning.{IsPeak}
use Rattle.dissect.specs.Faces.{Below, concatenated}
use Rattle.dissect.proofs.Listing.{below_left}
use Rattle.dissect.proofs.Finishing.{four_corners_done}
use Rattle.dissect.proofs.Reading.{reading_begins, reading_here, reading_on, reading_done, all_below, all_small, below_turned}
use Rattle.dissect.proofs.refinement.cut_face.Goals as goal

pub returns-then-ring-eq-BOX_CORNERS-clause-cut_up : goal.returns-then-ring-eq-BOX_CORNERS-clause-cut_up
returns-then-ring-eq-BOX_CORNERS-clause-cut_up c = same

pub returns-then-ring-eq-BOX_CORNERS-clause-waiting : goal.returns-then-ring-eq-BOX_CORNERS-clause-waiting
returns-then-ring-eq-BOX_CORNERS-clause-waiting c =
    λ o rs wait. four_corners_done (dart_map_of c.args.table.now) c.args.ring.now o rs c.requires.sound c.if-ring-eq-BOX_CORNERS.true wait

pub peak-start-requires-clause-inside : goal.peak-start-requires-clause-inside
peak-start-requires-clause-inside c =
    let t = c.args.table.now in
    let below : Below t.darts c.args.ring.now = below_left t.darts c.args.ring.now (concatenated c.requires.waiting.1) c.requires.waiting.2.below in
    all_below t.darts (length c.as_slice.result.now) c.args.ring.now (omega (arith, c.as_slice.ensures.len)) below

pub peak-start-requires-clause-small : goal.peak-start-requires-clause-small
peak-start-requires-clause-small c =
    let t = c.args.table.now in
    let below : Below t.darts c.args.ring.now = below_left t.darts c.args.ring.now (concatenated c.requires.waiting.1) c.requires.waiting.2.below in
    subst (λ (A : List ℕ). All (λ a. get_or A a 0 ≤ 4) c.args.ring.now) (sym c.as_slice.ensures.value)
    (all_small (dart_map_of t) c.args.ring.now c.requires.sound below)

pub corners-init : goal.corners-init
corners-init c =
    let t = c.args.table.now in
    let face = c.args.ring.now in
    let m = c.peak-start.result in
    let below : Below t.darts face = below_left t.darts face (concatenated c.requires.waiting.1) c.requires.waiting.2.below in
    let turned : Below t.darts (drop m face ++ take m face) = below_turned t.darts m face below in
    reading_begins (dart_map_of t) face (room t) m c.rotate_to.new.ring c.requires.sound c.requires.waiting.0 c.requires.waiting.1 c.requires.waiting.2
    c.requires.space
    (subst (λ (A : List ℕ). IsPeak (map (λ (a : ℕ). get_or A a 0) face) m) c.as_slice.ensures.value c.peak-start.ensures)
    c.rotate_to.ensures.after
    (subst (λ (xs : List ℕ). All (λ a. a < room t) xs) (sym c.rotate_to.ensures.after)
    (all_below t.darts (room t) (drop m face ++ take m face) (omega arith) turned))

pub read_corner-height-requires-clause-reading : goal.read_corner-height-requires-clause-reading
read_corner-height-requires-clause-reading c =
    reading_here _ _ _ (dart_map_of c.corners.table) c.corners.ring c.corners.height c.corners.read (room c.corners.table) c.corners.invariant

pub read_corner-height-requires-clause-waiting : goal.read_corner-height-requires-clause-waiting
read_corner-height-requires-clause-waiting c = (
  c.requires.waiting.0,
  c.requires.waiting.1,
  c.corners.invariant.face_cutting.waiting c.requires.waiting.0 c.requires.waiting.1 c.requires.waiting.2,
)

pub corners-preserved : goal.corners-preserved
corners-preserved c =
    reading_on _ _ _ (dart_map_of c.corners.table) (dart_map_of c.read_corner-height.new.table) c.corners.ring c.read_corner-height.new.ring
    c.corners.height c.corners.read (room c.corners.table) c.read_corner-height.result (c.corners.read + 1) (room c.read_corner-height.new.table)
    c.corners.invariant c.read_corner-height.ensures

pub returns-clause-waiting : goal.returns-clause-waiting
returns-clause-waiting c =
    λ o rs wait. reading_done _ _ _ (dart_map_of c.corners.table) c.corners.ring c.corners.height c.corners.read (room c.corners.table)
    (omega (arith, c.corners-test.false)) c.corners.invariant o rs wait
