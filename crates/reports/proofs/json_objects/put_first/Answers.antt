use Rattle.std.proofs.Common.{◌≡◌, ◌++◌, ◌∷◌, ℕ, List, codes, length}
use Rattle.std.proofs.lemmas.Result.{on_ok_weaker}
use Rattle.json.specs.Print.{escape_byte}
use Rattle.serde_json.specs.Written.{compact_text}
use Rattle.ortho_rep.specs.Shapes.{turns_at}
use Rattle.ortho_rep.specs.Representation.{bends_of}
use Rattle.reports.specs.LineData.{array_of, drawn_data, natural, points_in}
use Rattle.reports.specs.Adding.{member_text}
use Rattle.reports.proofs.Steps.{then}
use Rattle.reports.proofs.json_objects.put_first.Goals as goal

pub returns : goal.returns
unfolding escape_byte
returns c =
    let shape = c.args.shape.now in
    let end = c.put_number-2.new.out.items in
    let angles : List ℕ = compact_text (array_of natural shape.angles) in
    let bends : List ℕ = 44 ∷ member_text (codes "bends") (natural (bends_of (length shape.strings) (turns_at shape))) in
    let drawn : List ℕ = 44 ∷ member_text (codes "drawn") (drawn_data (points_in c.args.drawing)) in
    let faces : List ℕ = 44 ∷ member_text (codes "f") (natural c.args.plane.now.faces) in
    let turned : c.put_number.new.out.items ≡ c.put_angles.new.out.items ++ bends = rw (c.from.ensures, c.bends.ensures) at c.in_ok-put_number.ensures in
    on_ok_weaker c.put_number-2.result (λ last.
    let counted : end ≡ c.put_drawn.new.out.items ++ faces = rw (c.from-2.ensures, c.face_count.ensures.value) at last in
    then c.args.out.now.items c.put_bytes.new.out.items end _ (angles ++ (bends ++ (drawn ++ faces))) c.in_ok-put_bytes.ensures
    (then c.put_bytes.new.out.items c.put_angles.new.out.items end angles (bends ++ (drawn ++ faces)) c.in_ok-put_angles.ensures
    (then c.put_angles.new.out.items c.put_number.new.out.items end bends (drawn ++ faces) turned
    (then c.put_number.new.out.items c.put_drawn.new.out.items end drawn faces c.in_ok-put_drawn.ensures counted)))) c.put_number-2.ensures
