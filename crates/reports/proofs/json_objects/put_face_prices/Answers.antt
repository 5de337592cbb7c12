use Rattle.std.proofs.Common.{rules, FitsSigned, ◌∙◌, ◌++◌, ◌∷◌, [], ℤ, pos, ap, arith, map, nat_lt, sym, take, w32}
use Rattle.std.proofs.lemmas.Int.{to_z-of_z}
use Rattle.std.proofs.lemmas.List.{map_more, take_all}
use Rattle.std.proofs.lemmas.Result.{on_ok_weaker}
use Rattle.reports.specs.LineData.{integer}
use Rattle.reports.proofs.Steps.{none_yet, one_more, some_taken, whole_array}
use Rattle.reports.proofs.json_objects.put_face_prices.Goals as goal

pub loop-face-init : goal.loop-face-init
loop-face-init c = none_yet c.put_bytes.new.out.items

pub loop-face-preserved : goal.loop-face-preserved
loop-face-preserved c =
    let face = c.loop-face.face in
    let faces = c.args.prices.now.faces in
    let fits : FitsSigned w32 c.face.result = search rules in
    one_more c.put_bytes.new.out.items c.loop-face.out.items c.put_integer.new.out.items (map integer (take face faces)) _ _ (nat_lt 0 face) c.loop-face.invariant c.in_ok-put_integer.ensures (some_taken integer face faces (omega arith)) (
    ap (λ (price : ℤ). map integer (take face faces) ++ integer price ∷ []) (to_z-of_z w32 c.face.result fits ∙ c.face.ensures)
    ∙ sym (map_more integer faces face (pos 0) (omega arith)))

pub returns : goal.returns
returns c =
    let faces = c.args.prices.now.faces in
    on_ok_weaker c.put_bytes-2.result (λ last. whole_array integer faces (take c.loop-face.face faces) c.args.out.now.items c.put_bytes.new.out.items c.loop-face.out.items c.put_bytes-2.new.out.items c.in_ok-put_bytes.ensures c.loop-face.invariant
    (take_all c.loop-face.face faces (omega arith)) last) c.put_bytes-2.ensures
