use Rattle.std.proofs.Common.{◌++◌, ◌∷◌, [], ℕ, List, codes}
use Rattle.std.proofs.lemmas.Result.{on_ok_weaker}
use Rattle.json.specs.Print.{escape_byte}
use Rattle.serde_json.specs.Written.{compact_text}
use Rattle.reports.specs.LineData.{array_of, integer}
use Rattle.reports.proofs.Steps.{then}
use Rattle.reports.proofs.json_objects.put_prices.Goals as goal

pub returns : goal.returns
unfolding escape_byte
returns c =
    let end = c.put_bytes-3.new.out.items in
    let faces : List ℕ = compact_text (array_of integer c.args.prices.now.faces) in
    let vertices : List ℕ = compact_text (array_of integer c.args.prices.now.vertices) in
    let key : List ℕ = 44 ∷ 34 ∷ (codes "vertices" ++ 34 ∷ 58 ∷ []) in
    on_ok_weaker c.put_bytes-3.result (λ last.
    then c.args.out.now.items c.put_bytes.new.out.items end _ (faces ++ (key ++ (vertices ++ 125 ∷ []))) c.in_ok-put_bytes.ensures
    (then c.put_bytes.new.out.items c.put_face_prices.new.out.items end faces (key ++ (vertices ++ 125 ∷ [])) c.in_ok-put_face_prices.ensures
    (then c.put_face_prices.new.out.items c.put_bytes-2.new.out.items end key (vertices ++ 125 ∷ []) c.in_ok-put_bytes-2.ensures
    (then c.put_bytes-2.new.out.items c.put_vertex_prices.new.out.items end vertices (125 ∷ []) c.in_ok-put_vertex_prices.ensures last)))) c.put_bytes-3.ensures
