use Rattle.std.proofs.Common.{rules, ◌≡◌, ◌*◌, ◌/◌, ◌∷◌, ◌++◌, [], ℕ, List, ◌∙◌, ap, append_assoc, arith, codes, length}
use Rattle.json.specs.Print.{escape_byte}
use Rattle.serde_json.specs.Data.{string}
use Rattle.embedding.specs.Darts.{dart_count}
use Rattle.faces.specs.Planes.{vertices, darts}
use Rattle.ortho_rep.specs.Shapes.{turns_at}
use Rattle.ortho_rep.specs.Representation.{bends_of}
use Rattle.reports.specs.LineData.{natural, array_of, turns_data, prices_data, points_data, drawn_data, points_in}
use Rattle.reports.specs.Adding.{member_text}
use Rattle.reports.proofs.Steps.{then}
use Rattle.reports.proofs.json_lines.laid_line.Goals as goal

-- the members one after another, with the byte that ends the line
joined : (a b c d e f g h i j k l : List ℕ)
    → (123 ∷ (a ++ 44 ∷ (b ++ 44 ∷ (c ++ 44 ∷ d)))) ++ ((44 ∷ (e ++ 44 ∷ f)) ++ ((44 ∷ (g ++ 44 ∷ h)) ++ ((44 ∷ i) ++ ((44 ∷ j) ++ ((44 ∷ (k ++ 44 ∷ (l ++ 125 ∷ []))) ++ 10 ∷ [])))))
    ≡ (123 ∷ (a ++ 44 ∷ (b ++ 44 ∷ (c ++ 44 ∷ (d ++ 44 ∷ (e ++ 44 ∷ (f ++ 44 ∷ (g ++ 44 ∷ (h ++ 44 ∷ (i ++ 44 ∷ (j ++ 44 ∷ (k ++ 44 ∷ (l ++ 125 ∷ []))))))))))))) ++ 10 ∷ []
joined a b c d e f g h i j k l = simp append_assoc

pub returns : goal.returns
unfolding escape_byte
returns c =
    let plane = c.args.laid.plane.now in
    let shape = c.args.laid.shape.now in
    let angles = array_of natural shape.angles in
    let bends = natural (bends_of (length shape.strings) (turns_at shape)) in
    let drawn = drawn_data (points_in c.args.laid.drawing) in
    let faces = natural plane.faces in
    let file = natural c.args.file in
    let graph = natural c.args.graph in
    let edges = natural (darts plane / 2) in
    let count = natural (vertices plane) in
    let points = points_data (darts plane / 2) (points_in c.args.laid.drawing) in
    let prices = prices_data c.args.laid.prices.now in
    let turns = array_of turns_data shape.strings in
    let shape_text : List ℕ = 123 ∷ (member_text (codes "angles") angles ++ 44 ∷ (member_text (codes "bends") bends ++ 44 ∷ (member_text (codes "drawn") drawn ++ 44 ∷ member_text (codes "f") faces))) in
    let place : List ℕ = 44 ∷ (member_text (codes "file") file ++ 44 ∷ member_text (codes "graph") graph) in
    let sizes : List ℕ = 44 ∷ (member_text (codes "m") edges ++ 44 ∷ member_text (codes "n") count) in
    let drawing : List ℕ = 44 ∷ member_text (codes "points") points in
    let proof : List ℕ = 44 ∷ member_text (codes "prices") prices in
    let last : List ℕ = 44 ∷ (member_text (codes "status") (string (codes "ok")) ++ 44 ∷ (member_text (codes "turns") turns ++ 125 ∷ [])) in
    let twice : 2 * c.edges.result ≡ darts plane = c.edges.ensures.count ∙ ap dart_count c.graph-2.ensures.value in
    let half : c.edges.result ≡ darts plane / 2 = omega arith in
    let drawing_put : c.put_drawing.new.out.items ≡ c.put_sizes.new.out.items ++ drawing = rw half at c.in_ok-put_drawing.ensures in
    let end = c.push.new.self.items in
    let pushed : end ≡ c.put_last.new.out.items ++ 10 ∷ [] = search rules in
    let start = c.in_ok-out.out.items in
    let none : start ≡ [] = search rules in
    let whole : end ≡ start ++ (shape_text ++ (place ++ (sizes ++ (drawing ++ (proof ++ (last ++ 10 ∷ [])))))) =
    then start c.put_first.new.out.items end shape_text (place ++ (sizes ++ (drawing ++ (proof ++ (last ++ 10 ∷ []))))) c.in_ok-put_first.ensures
    (then c.put_first.new.out.items c.put_place.new.out.items end place (sizes ++ (drawing ++ (proof ++ (last ++ 10 ∷ [])))) c.in_ok-put_place.ensures
    (then c.put_place.new.out.items c.put_sizes.new.out.items end sizes (drawing ++ (proof ++ (last ++ 10 ∷ []))) c.in_ok-put_sizes.ensures
    (then c.put_sizes.new.out.items c.put_drawing.new.out.items end drawing (proof ++ (last ++ 10 ∷ [])) drawing_put
    (then c.put_drawing.new.out.items c.put_prices.new.out.items end proof (last ++ 10 ∷ []) c.in_ok-put_prices.ensures
    (then c.put_prices.new.out.items c.put_last.new.out.items end last (10 ∷ []) c.in_ok-put_last.ensures pushed))))) in
    whole ∙ ap (λ (text : List ℕ). text ++ (shape_text ++ (place ++ (sizes ++ (drawing ++ (proof ++ (last ++ 10 ∷ []))))))) none
    ∙ joined (member_text (codes "angles") angles) (member_text (codes "bends") bends) (member_text (codes "drawn") drawn) (member_text (codes "f") faces)
    (member_text (codes "file") file) (member_text (codes "graph") graph) (member_text (codes "m") edges) (member_text (codes "n") count)
    (member_text (codes "points") points) (member_text (codes "prices") prices) (member_text (codes "status") (string (codes "ok"))) (member_text (codes "turns") turns)
