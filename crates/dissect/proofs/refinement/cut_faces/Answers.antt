use Rattle.std.proofs.Common.{◌≡◌, ◌+◌, ◌-◌, ◌∙◌, ℕ, List, length, get_or, drop, arith, sym, subst, refl}
use Rattle.std.proofs.lemmas.List.{drop_all}
use Rattle.std.proofs.lemmas.Slice.{drop-put_mid}
use borrow.Rule.Slice.PartMut.{put_mid}
use Rattle.dissect.specs.DartMaps.{same}
use Rattle.dissect.specs.Tables.{dart_map_of}
use Rattle.dissect.specs.Faces.{AreWaiting, slices_of}
use Rattle.dissect.proofs.Reading.{cut_up_on, pieces_apart, sum_apart, length-mid_of, length-put_mid}
use Rattle.dissect.proofs.Labelling.{cut_up_keeps_labels}
use Rattle.dissect.proofs.refinement.cut_faces.Goals as goal

pub faces-init : goal.faces-init
faces-init c = record {
  sound = c.requires.sound;
  cut_up = same;
  waiting = λ o waiting. waiting;
  space = c.requires.space;
  same = refl;
  left = omega (arith, c.requires.all);
  few = c.requires.few;
}

pub cut_face-requires-clause-waiting : goal.cut_face-requires-clause-waiting
cut_face-requires-clause-waiting c =
    let xs = c.faces.corners in
    let ns = c.args.counts.now in
    let start = c.faces.start in
    let i = c.faces.count-index in
    let o = c.requires.waiting.0 in (
      o,
      slices_of (drop (start + get_or ns i 0) xs) (drop (i + 1) ns),
      pieces_apart (dart_map_of c.faces.table) xs ns start i o c.faces-test.true (c.faces.invariant.waiting o c.requires.waiting.1),
    )

pub faces-preserved : goal.faces-preserved
faces-preserved c =
    let xs = c.faces.corners in
    let ns = c.args.counts.now in
    let start = c.faces.start in
    let i = c.faces.count-index in
    let n : ℕ = get_or ns i 0 in
    let before = c.faces.invariant in
    let subdivide = sum_apart ns i c.faces-test.true in
    let apart = λ (o : ℕ) (w0 : AreWaiting (dart_map_of c.args.table.now) o (slices_of c.args.corners.now ns)).
    pieces_apart (dart_map_of c.faces.table) xs ns start i o c.faces-test.true (before.waiting o w0) in
    let ys = c.cut_face.new.ring in
    let k : ℕ = start + n - start in
    let long : length ys ≡ k = omega (arith, c.cut_face.auto.ring, length-mid_of start k xs (omega (arith, before.left, subdivide))) in
    let kept : drop (start + n) (put_mid start k xs ys) ≡ drop (start + n) xs =
    drop-put_mid start k xs ys (start + n) (omega arith) (omega (arith, before.left, subdivide)) long in
    record {
      sound = c.cut_face.ensures.sound;
      cut_up = cut_up_on (dart_map_of c.args.table.now) (dart_map_of c.faces.table) (dart_map_of c.cut_face.new.table) before.cut_up c.cut_face.ensures.cut_up;
      waiting = λ o w0. subst (λ (zs : List ℕ). AreWaiting (dart_map_of c.cut_face.new.table) o (slices_of zs (drop (i + 1) ns))) (sym kept)
          (c.cut_face.ensures.waiting o (slices_of (drop (start + n) xs) (drop (i + 1) ns)) (apart o w0));
      space = c.cut_face.ensures.space;
      same = c.cut_face.ensures.room ∙ before.same;
      left = omega (arith, before.left, subdivide, length-put_mid start k xs ys (omega (arith, before.left, subdivide)) long);
      few = omega (arith, before.few, length-put_mid start k xs ys (omega (arith, before.left, subdivide)) long);
    }

pub returns-clause-done : goal.returns-clause-done
returns-clause-done c =
    λ o w0. subst (λ (ns : List ℕ). AreWaiting (dart_map_of c.faces.table) o (slices_of (drop c.faces.start c.faces.corners) ns))
    (drop_all c.faces.count-index c.args.counts.now c.faces-test.false) (c.faces.invariant.waiting o w0)

pub returns-clause-labelled : goal.returns-clause-labelled
returns-clause-labelled c =
    λ n reverse_dart quarters face label has labelling.
    cut_up_keeps_labels n reverse_dart quarters face (dart_map_of c.args.table.now) label (dart_map_of c.faces.table) c.requires.sound.tied c.requires.sound.meeting.quarter
    (omega (arith, c.args.table.now.darts_in, c.args.table.now.darts_fit)) (omega (arith, c.faces.table.darts_in, c.faces.table.darts_fit))
    c.faces.invariant.cut_up has labelling
