use Rattle.std.proofs.Common.{◌≡◌, ◌++◌, ◌∷◌, [], ℕ, List, codes}
use Rattle.std.proofs.lemmas.Result.{on_ok_weaker}
use Rattle.std.specs.List.{range_with_len}
use Rattle.json.specs.Print.{escape_byte}
use Rattle.serde_json.specs.Written.{compact_text}
use Rattle.reports.specs.LineData.{array_of, corners_data, point_data}
use Rattle.reports.proofs.Steps.{then}
use Rattle.reports.proofs.json_objects.put_drawn_points.Goals as goal

pub returns : goal.returns
unfolding escape_byte
returns c =
    let points = c.args.points.now in
    let end = c.put_bytes-3.new.out.items in
    let corners : List ℕ = compact_text (array_of (corners_data points) (range_with_len 0 c.args.edges)) in
    let vertices : List ℕ = compact_text (array_of point_data points.vertices) in
    let key : List ℕ = 44 ∷ 34 ∷ (codes "vertices" ++ 34 ∷ 58 ∷ []) in
    on_ok_weaker c.put_bytes-3.result (λ last.
    let seen : c.put_points.new.out.items ≡ c.put_bytes-2.new.out.items ++ vertices = rw c.vertices.ensures at c.in_ok-put_points.ensures in
    then c.args.out.now.items c.put_bytes.new.out.items end _ (corners ++ (key ++ (vertices ++ 125 ∷ []))) c.in_ok-put_bytes.ensures
    (then c.put_bytes.new.out.items c.put_corners.new.out.items end corners (key ++ (vertices ++ 125 ∷ [])) c.in_ok-put_corners.ensures
    (then c.put_corners.new.out.items c.put_bytes-2.new.out.items end key (vertices ++ 125 ∷ []) c.in_ok-put_bytes-2.ensures
    (then c.put_bytes-2.new.out.items c.put_points.new.out.items end vertices (125 ∷ []) seen last)))) c.put_bytes-3.ensures
