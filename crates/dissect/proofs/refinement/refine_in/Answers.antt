use Rattle.std.proofs.Common.{◌≡◌, ◌+◌, ℕ, List, [], arith, sym, subst}
use Rattle.dissect.specs.Tables.{dart_map_of, room}
use Rattle.dissect.specs.Faces.{AreWaiting}
use Rattle.dissect.proofs.Sounding.{surround_sound}
use Rattle.dissect.proofs.Refining.{AreReady, cut_side_can, bridging_of, bridge_sound, bridge_room, bridge_ready, enclosed_by, enclosed_reaches, enclosed_few}
use Rattle.dissect.proofs.Labelling.{enclosed_keeps_labels}
use Rattle.dissect.proofs.refinement.refine_in.Goals as goal

pub cut_across-requires-clause-sound : goal.cut_across-requires-clause-sound
cut_across-requires-clause-sound c = surround_sound (dart_map_of c.args.table.now) (dart_map_of c.surround.new.table) c.surround.ensures.surrounded c.requires.sound

pub cut_across-requires-clause-can : goal.cut_across-requires-clause-can
cut_across-requires-clause-can c =
    cut_side_can (dart_map_of c.args.table.now) (dart_map_of c.surround.new.table) c.find_right-right.result c.cut_side-side.result c.requires.sound
    c.surround.ensures.surrounded c.find_right-right.ensures.inside c.find_right-right.ensures.right c.cut_side-side.ensures.side
    c.cut_side-side.ensures.faces

pub cut_faces-requires-clause-sound : goal.cut_faces-requires-clause-sound
cut_faces-requires-clause-sound c =
    let j = bridging_of (dart_map_of c.args.table.now) (dart_map_of c.surround.new.table) c.find_right-right.result c.cut_side-side.result
    c.cut_across.ensures.cut.0 (dart_map_of c.cut_across.new.table) c.requires.sound c.surround.ensures.surrounded c.find_right-right.ensures.inside
    c.cut_side-side.ensures.side c.cut_across.ensures.cut.1 in
    bridge_sound (dart_map_of c.args.table.now) (dart_map_of c.surround.new.table) c.find_right-right.result c.cut_side-side.result
    c.cut_across.ensures.cut.0 (dart_map_of c.cut_across.new.table) c.requires.sound j

pub cut_faces-requires-clause-space : goal.cut_faces-requires-clause-space
cut_faces-requires-clause-space c =
    let j = bridging_of (dart_map_of c.args.table.now) (dart_map_of c.surround.new.table) c.find_right-right.result c.cut_side-side.result
    c.cut_across.ensures.cut.0 (dart_map_of c.cut_across.new.table) c.requires.sound c.surround.ensures.surrounded c.find_right-right.ensures.inside
    c.cut_side-side.ensures.side c.cut_across.ensures.cut.1 in
    let space : room c.args.table.now ≡ room c.cut_across.new.table = omega (arith, c.surround.ensures.room, c.cut_across.ensures.room) in
    bridge_room (dart_map_of c.args.table.now) (dart_map_of c.surround.new.table) c.find_right-right.result c.cut_side-side.result
    c.cut_across.ensures.cut.0 (room c.cut_across.new.table) (dart_map_of c.cut_across.new.table) j (omega (arith, space, c.requires.space))

pub cut_faces-requires-clause-waiting : goal.cut_faces-requires-clause-waiting
cut_faces-requires-clause-waiting c =
    let j = bridging_of (dart_map_of c.args.table.now) (dart_map_of c.surround.new.table) c.find_right-right.result c.cut_side-side.result
    c.cut_across.ensures.cut.0 (dart_map_of c.cut_across.new.table) c.requires.sound c.surround.ensures.surrounded c.find_right-right.ensures.inside
    c.cut_side-side.ensures.side c.cut_across.ensures.cut.1 in
    let listed = c.in_ok-faces.ensures.listed in
    let made = c.in_ok-add_merged_face.ensures.connected listed.0 listed.2 listed.1 in
    let flat = bridge_ready (dart_map_of c.args.table.now) (dart_map_of c.surround.new.table) c.find_right-right.result c.cut_side-side.result
    c.cut_across.ensures.cut.0 (dart_map_of c.cut_across.new.table) c.requires.sound j listed.0 c.in_ok-faces.faces.outer.items
    c.add_merged_face.new.faces.corners.items c.add_merged_face.new.faces.counts.items listed.2 made 0 (omega arith) in
    let o : ℕ = c.args.table.now.darts + 4 + 0 in
    let ready : AreReady (dart_map_of c.cut_across.new.table) o c.as_mut_slice.result.now c.as_slice.result.now =
    subst (λ (xs : List ℕ). AreReady (dart_map_of c.cut_across.new.table) o xs c.as_slice.result.now) (sym c.as_mut_slice.ensures.value)
    (subst (λ (ns : List ℕ). AreReady (dart_map_of c.cut_across.new.table) o c.add_merged_face.new.faces.corners.items ns)
    (sym c.as_slice.ensures.value) flat) in
    (o, ready.waiting)

pub cut_faces-requires-clause-all : goal.cut_faces-requires-clause-all
cut_faces-requires-clause-all c =
    let j = bridging_of (dart_map_of c.args.table.now) (dart_map_of c.surround.new.table) c.find_right-right.result c.cut_side-side.result
    c.cut_across.ensures.cut.0 (dart_map_of c.cut_across.new.table) c.requires.sound c.surround.ensures.surrounded c.find_right-right.ensures.inside
    c.cut_side-side.ensures.side c.cut_across.ensures.cut.1 in
    let listed = c.in_ok-faces.ensures.listed in
    let made = c.in_ok-add_merged_face.ensures.connected listed.0 listed.2 listed.1 in
    let flat = bridge_ready (dart_map_of c.args.table.now) (dart_map_of c.surround.new.table) c.find_right-right.result c.cut_side-side.result
    c.cut_across.ensures.cut.0 (dart_map_of c.cut_across.new.table) c.requires.sound j listed.0 c.in_ok-faces.faces.outer.items
    c.add_merged_face.new.faces.corners.items c.add_merged_face.new.faces.counts.items listed.2 made 0 (omega arith) in
    let o : ℕ = c.args.table.now.darts + 4 + 0 in
    let ready : AreReady (dart_map_of c.cut_across.new.table) o c.as_mut_slice.result.now c.as_slice.result.now =
    subst (λ (xs : List ℕ). AreReady (dart_map_of c.cut_across.new.table) o xs c.as_slice.result.now) (sym c.as_mut_slice.ensures.value)
    (subst (λ (ns : List ℕ). AreReady (dart_map_of c.cut_across.new.table) o c.add_merged_face.new.faces.corners.items ns)
    (sym c.as_slice.ensures.value) flat) in
    ready.all

pub cut_faces-requires-clause-few : goal.cut_faces-requires-clause-few
cut_faces-requires-clause-few c =
    let j = bridging_of (dart_map_of c.args.table.now) (dart_map_of c.surround.new.table) c.find_right-right.result c.cut_side-side.result
    c.cut_across.ensures.cut.0 (dart_map_of c.cut_across.new.table) c.requires.sound c.surround.ensures.surrounded c.find_right-right.ensures.inside
    c.cut_side-side.ensures.side c.cut_across.ensures.cut.1 in
    let listed = c.in_ok-faces.ensures.listed in
    let made = c.in_ok-add_merged_face.ensures.connected listed.0 listed.2 listed.1 in
    let flat = bridge_ready (dart_map_of c.args.table.now) (dart_map_of c.surround.new.table) c.find_right-right.result c.cut_side-side.result
    c.cut_across.ensures.cut.0 (dart_map_of c.cut_across.new.table) c.requires.sound j listed.0 c.in_ok-faces.faces.outer.items
    c.add_merged_face.new.faces.corners.items c.add_merged_face.new.faces.counts.items listed.2 made 0 (omega arith) in
    let o : ℕ = c.args.table.now.darts + 4 + 0 in
    let ready : AreReady (dart_map_of c.cut_across.new.table) o c.as_mut_slice.result.now c.as_slice.result.now =
    subst (λ (xs : List ℕ). AreReady (dart_map_of c.cut_across.new.table) o xs c.as_slice.result.now) (sym c.as_mut_slice.ensures.value)
    (subst (λ (ns : List ℕ). AreReady (dart_map_of c.cut_across.new.table) o c.add_merged_face.new.faces.corners.items ns)
    (sym c.as_slice.ensures.value) flat) in
    omega (arith, ready.few, c.cut_across.new.table.darts_in, c.cut_across.new.table.darts_fit)

pub returns-clause-enclosed : goal.returns-clause-enclosed
returns-clause-enclosed c =
    let j = bridging_of (dart_map_of c.args.table.now) (dart_map_of c.surround.new.table) c.find_right-right.result c.cut_side-side.result
    c.cut_across.ensures.cut.0 (dart_map_of c.cut_across.new.table) c.requires.sound c.surround.ensures.surrounded c.find_right-right.ensures.inside
    c.cut_side-side.ensures.side c.cut_across.ensures.cut.1 in
    enclosed_by (dart_map_of c.args.table.now) c.args.outer (dart_map_of c.surround.new.table) c.find_right-right.result c.cut_side-side.result
    c.cut_across.ensures.cut.0 (dart_map_of c.cut_across.new.table) (dart_map_of c.cut_faces.new.table) c.find_right-right.ensures.same j c.cut_faces.ensures.cut_up

pub returns-clause-done : goal.returns-clause-done
returns-clause-done c k k_in =
    let j = bridging_of (dart_map_of c.args.table.now) (dart_map_of c.surround.new.table) c.find_right-right.result c.cut_side-side.result
    c.cut_across.ensures.cut.0 (dart_map_of c.cut_across.new.table) c.requires.sound c.surround.ensures.surrounded c.find_right-right.ensures.inside
    c.cut_side-side.ensures.side c.cut_across.ensures.cut.1 in
    let listed = c.in_ok-faces.ensures.listed in
    let made = c.in_ok-add_merged_face.ensures.connected listed.0 listed.2 listed.1 in
    let flat = bridge_ready (dart_map_of c.args.table.now) (dart_map_of c.surround.new.table) c.find_right-right.result c.cut_side-side.result
    c.cut_across.ensures.cut.0 (dart_map_of c.cut_across.new.table) c.requires.sound j listed.0 c.in_ok-faces.faces.outer.items
    c.add_merged_face.new.faces.corners.items c.add_merged_face.new.faces.counts.items listed.2 made k k_in in
    let o : ℕ = c.args.table.now.darts + 4 + k in
    let ready : AreReady (dart_map_of c.cut_across.new.table) o c.as_mut_slice.result.now c.as_slice.result.now =
    subst (λ (xs : List ℕ). AreReady (dart_map_of c.cut_across.new.table) o xs c.as_slice.result.now) (sym c.as_mut_slice.ensures.value)
    (subst (λ (ns : List ℕ). AreReady (dart_map_of c.cut_across.new.table) o c.add_merged_face.new.faces.corners.items ns)
    (sym c.as_slice.ensures.value) flat) in
    c.cut_faces.ensures.done o ready.waiting

pub returns-clause-reaches : goal.returns-clause-reaches
returns-clause-reaches c =
    let j = bridging_of (dart_map_of c.args.table.now) (dart_map_of c.surround.new.table) c.find_right-right.result c.cut_side-side.result
    c.cut_across.ensures.cut.0 (dart_map_of c.cut_across.new.table) c.requires.sound c.surround.ensures.surrounded c.find_right-right.ensures.inside
    c.cut_side-side.ensures.side c.cut_across.ensures.cut.1 in
    enclosed_reaches (dart_map_of c.args.table.now) (dart_map_of c.surround.new.table) c.find_right-right.result c.cut_side-side.result
    c.cut_across.ensures.cut.0 (dart_map_of c.cut_across.new.table) (dart_map_of c.cut_faces.new.table) c.requires.turns.0
    (c.requires.turns.0 c.args.outer) c.requires.sound c.requires.turns.1 j c.cut_faces.ensures.cut_up

pub returns-clause-few : goal.returns-clause-few
returns-clause-few c =
    let j = bridging_of (dart_map_of c.args.table.now) (dart_map_of c.surround.new.table) c.find_right-right.result c.cut_side-side.result
    c.cut_across.ensures.cut.0 (dart_map_of c.cut_across.new.table) c.requires.sound c.surround.ensures.surrounded c.find_right-right.ensures.inside
    c.cut_side-side.ensures.side c.cut_across.ensures.cut.1 in
    let listed = c.in_ok-faces.ensures.listed in
    let made = c.in_ok-add_merged_face.ensures.connected listed.0 listed.2 listed.1 in
    let flat = bridge_ready (dart_map_of c.args.table.now) (dart_map_of c.surround.new.table) c.find_right-right.result c.cut_side-side.result
    c.cut_across.ensures.cut.0 (dart_map_of c.cut_across.new.table) c.requires.sound j listed.0 c.in_ok-faces.faces.outer.items
    c.add_merged_face.new.faces.corners.items c.add_merged_face.new.faces.counts.items listed.2 made 0 (omega arith) in
    let o : ℕ = c.args.table.now.darts + 4 + 0 in
    let ready : AreReady (dart_map_of c.cut_across.new.table) o c.as_mut_slice.result.now c.as_slice.result.now =
    subst (λ (xs : List ℕ). AreReady (dart_map_of c.cut_across.new.table) o xs c.as_slice.result.now) (sym c.as_mut_slice.ensures.value)
    (subst (λ (ns : List ℕ). AreReady (dart_map_of c.cut_across.new.table) o c.add_merged_face.new.faces.corners.items ns)
    (sym c.as_slice.ensures.value) flat) in
    enclosed_few (dart_map_of c.args.table.now) (dart_map_of c.surround.new.table) c.find_right-right.result c.cut_side-side.result
    c.cut_across.ensures.cut.0 (dart_map_of c.cut_across.new.table) (dart_map_of c.cut_faces.new.table) c.requires.sound j
    c.cut_faces.ensures.cut_up
    (subst (λ (z : ℕ). AreWaiting (dart_map_of c.cut_faces.new.table) z []) (omega arith) (c.cut_faces.ensures.done o ready.waiting))

pub returns-clause-labelled : goal.returns-clause-labelled
returns-clause-labelled c =
    λ n reverse_dart quarters face label has labelling.
    let w = dart_map_of c.args.table.now in
    let j = bridging_of w (dart_map_of c.surround.new.table) c.find_right-right.result c.cut_side-side.result
    c.cut_across.ensures.cut.0 (dart_map_of c.cut_across.new.table) c.requires.sound c.surround.ensures.surrounded c.find_right-right.ensures.inside
    c.cut_side-side.ensures.side c.cut_across.ensures.cut.1 in
    let enclosed = enclosed_by w c.args.outer (dart_map_of c.surround.new.table) c.find_right-right.result c.cut_side-side.result
    c.cut_across.ensures.cut.0 (dart_map_of c.cut_across.new.table) (dart_map_of c.cut_faces.new.table) c.find_right-right.ensures.same j c.cut_faces.ensures.cut_up in
    enclosed_keeps_labels n reverse_dart quarters face w label c.args.outer (dart_map_of c.cut_faces.new.table) c.requires.turns.0 c.requires.sound.tied
    c.requires.sound.meeting.quarter (omega (arith, c.args.table.now.darts_in, c.args.table.now.darts_fit))
    (omega (arith, c.cut_faces.new.table.darts_in, c.cut_faces.new.table.darts_fit)) c.requires.turns.1.face_numbers c.requires.inside enclosed has labelling
