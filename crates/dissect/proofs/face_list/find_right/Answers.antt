use Rattle.std.proofs.Common.{◌<◌, ◌≤◌, arith, subst}
use Rattle.std.proofs.lemmas.List.{get_or_read}
use Rattle.dissect.specs.Tables.{dart_map_of}
use Rattle.dissect.proofs.Walking.{seek_in, seek_face_number, seek_on, seek_fails}
use Rattle.dissect.proofs.face_list.find_right.Goals as goal

pub index-requires : goal.index-requires
index-requires c =
    let inside = seek_in (dart_map_of c.args.table.now) c.args.outer c.steps.counter c.steps.dart c.requires.tied c.requires.inside c.steps.invariant in
    omega arith

pub returns-then-index-gt2-clause-inside : goal.returns-then-index-gt2-clause-inside
returns-then-index-gt2-clause-inside c =
    seek_in (dart_map_of c.args.table.now) c.args.outer c.steps.counter c.steps.dart c.requires.tied c.requires.inside c.steps.invariant

pub returns-then-index-gt2-clause-right : goal.returns-then-index-gt2-clause-right
returns-then-index-gt2-clause-right c =
    let inside = seek_in (dart_map_of c.args.table.now) c.args.outer c.steps.counter c.steps.dart c.requires.tied c.requires.inside c.steps.invariant in
    let read = get_or_read c.args.table.now.angle.items c.steps.dart c.index.result.now (omega arith) c.index.ensures 0 in
    subst (λ k. 2 < k) read c.if-index-gt2.true

pub returns-then-index-gt2-clause-same : goal.returns-then-index-gt2-clause-same
returns-then-index-gt2-clause-same c = λ face_number face_numbers.
    seek_face_number (dart_map_of c.args.table.now) face_number c.args.outer c.steps.counter c.steps.dart c.requires.tied face_numbers c.requires.inside c.steps.invariant

pub index-dart-requires : goal.index-dart-requires
index-dart-requires c =
    let inside = seek_in (dart_map_of c.args.table.now) c.args.outer c.steps.counter c.steps.dart c.requires.tied c.requires.inside c.steps.invariant in
    omega arith

pub steps-preserved : goal.steps-preserved
steps-preserved c =
    let w = dart_map_of c.args.table.now in
    let inside = seek_in w c.args.outer c.steps.counter c.steps.dart c.requires.tied c.requires.inside c.steps.invariant in
    let angle = get_or_read c.args.table.now.angle.items c.steps.dart c.index.result.now (omega arith) c.index.ensures 0 in
    let next = get_or_read c.args.table.now.next.items c.steps.dart c.index-dart.result.now (omega arith) c.index-dart.ensures 0 in
    seek_on w c.args.outer c.steps.counter c.steps.dart c.index-dart.result.now c.steps.invariant
    (subst (λ k. k ≤ 2) angle c.if-index-gt2.false) next

pub returns-clause-inside : goal.returns-clause-inside
returns-clause-inside c =
    seek_in (dart_map_of c.args.table.now) c.args.outer c.steps.counter c.steps.dart c.requires.tied c.requires.inside c.steps.invariant

pub returns-clause-right : goal.returns-clause-right
returns-clause-right c =
    absurd (seek_fails (dart_map_of c.args.table.now) c.requires.turns.0 c.args.outer c.steps.counter c.steps.dart c.requires.tied
    c.requires.turns.1 c.requires.inside (omega arith) c.steps.invariant)

pub returns-clause-same : goal.returns-clause-same
returns-clause-same c = λ face_number face_numbers.
    seek_face_number (dart_map_of c.args.table.now) face_number c.args.outer c.steps.counter c.steps.dart c.requires.tied face_numbers c.requires.inside c.steps.invariant
