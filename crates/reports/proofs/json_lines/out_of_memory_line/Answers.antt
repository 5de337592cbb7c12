use Rattle.std.proofs.Common.{rules, ◌≡◌, ◌∷◌, ◌++◌, [], ℕ, List, ◌∙◌, ap, append_assoc, codes}
use Rattle.json.specs.Print.{escape_byte}
use Rattle.serde_json.specs.Data.{string}
use Rattle.reports.specs.LineData.{natural}
use Rattle.reports.specs.Adding.{member_text}
use Rattle.reports.proofs.Steps.{then}
use Rattle.reports.proofs.json_lines.out_of_memory_line.Goals as goal

-- the members one after another, with the byte that ends the line
joined : (a b c : List ℕ) → (123 ∷ a) ++ ((44 ∷ b) ++ (44 ∷ (c ++ 125 ∷ 10 ∷ []))) ≡ (123 ∷ (a ++ 44 ∷ (b ++ 44 ∷ (c ++ 125 ∷ [])))) ++ 10 ∷ []
joined a b c = simp append_assoc

pub returns : goal.returns
unfolding escape_byte
returns c =
    let file : List ℕ = member_text (codes "file") (natural c.args.file) in
    let graph : List ℕ = member_text (codes "graph") (natural c.args.graph) in
    let status : List ℕ = member_text (codes "status") (string (codes "memory")) in
    let last : List ℕ = 44 ∷ (status ++ 125 ∷ 10 ∷ []) in
    let start = c.in_ok-out.out.items in
    let end = c.put_bytes.new.out.items in
    let none : start ≡ [] = search rules in
    let filed : c.put_number.new.out.items ≡ start ++ 123 ∷ file = rw c.from.ensures at c.in_ok-put_number.ensures in
    let whole : end ≡ start ++ ((123 ∷ file) ++ ((44 ∷ graph) ++ last)) =
    then start c.put_number.new.out.items end (123 ∷ file) ((44 ∷ graph) ++ last) filed
    (then c.put_number.new.out.items c.put_number-2.new.out.items end (44 ∷ graph) last c.in_ok-put_number-2.ensures c.in_ok-put_bytes.ensures) in
    whole ∙ ap (λ (text : List ℕ). text ++ ((123 ∷ file) ++ ((44 ∷ graph) ++ last))) none ∙ joined file graph status
