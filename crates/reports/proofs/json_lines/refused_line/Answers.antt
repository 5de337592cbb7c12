use Rattle.std.proofs.Common.{rules, ◌≡◌, ◌∷◌, ◌++◌, [], ℕ, List, ◌∙◌, ap, append_assoc, codes}
use Rattle.json.specs.Print.{escape_byte}
use Rattle.serde_json.specs.Data.{string}
use Rattle.embedding.specs.Words.{word_of}
use Rattle.reports.specs.LineData.{natural}
use Rattle.reports.specs.Adding.{member_text}
use Rattle.reports.proofs.Steps.{then, plain_rule}
use Rattle.reports.proofs.json_lines.refused_line.Goals as goal

-- the members one after another, with the byte that ends the line
joined : (a b key word d : List ℕ)
    → (123 ∷ a) ++ ((44 ∷ b) ++ ((44 ∷ key) ++ (word ++ 34 ∷ 44 ∷ (d ++ 125 ∷ 10 ∷ []))))
    ≡ (123 ∷ (a ++ 44 ∷ (b ++ 44 ∷ ((key ++ (word ++ 34 ∷ [])) ++ 44 ∷ (d ++ 125 ∷ []))))) ++ 10 ∷ []
joined a b key word d = simp append_assoc

pub returns : goal.returns
unfolding escape_byte
returns c =
    let file : List ℕ = member_text (codes "file") (natural c.args.file) in
    let graph : List ℕ = member_text (codes "graph") (natural c.args.graph) in
    let key : List ℕ = 34 ∷ (codes "rule" ++ 34 ∷ 58 ∷ 34 ∷ []) in
    let status : List ℕ = member_text (codes "status") (string (codes "refused")) in
    let word = word_of c.args.rule in
    let last : List ℕ = 34 ∷ 44 ∷ (status ++ 125 ∷ 10 ∷ []) in
    let rest : List ℕ = (44 ∷ key) ++ (word ++ last) in
    let start = c.in_ok-out.out.items in
    let end = c.put_bytes-3.new.out.items in
    let none : start ≡ [] = search rules in
    let filed : c.put_number.new.out.items ≡ start ++ 123 ∷ file = rw c.from.ensures at c.in_ok-put_number.ensures in
    let named : c.as_bytes.result.now ≡ word = c.as_bytes.ensures.value ∙ c.word.ensures in
    let worded : c.put_bytes-2.new.out.items ≡ c.put_bytes.new.out.items ++ word = rw named at c.in_ok-put_bytes-2.ensures in
    let whole : end ≡ start ++ ((123 ∷ file) ++ ((44 ∷ graph) ++ rest)) =
    then start c.put_number.new.out.items end (123 ∷ file) ((44 ∷ graph) ++ rest) filed
    (then c.put_number.new.out.items c.put_number-2.new.out.items end (44 ∷ graph) rest c.in_ok-put_number-2.ensures
    (then c.put_number-2.new.out.items c.put_bytes.new.out.items end (44 ∷ key) (word ++ last) c.in_ok-put_bytes.ensures
    (then c.put_bytes.new.out.items c.put_bytes-2.new.out.items end word last worded c.in_ok-put_bytes-3.ensures))) in
    rw (plain_rule c.args.rule)
    (whole ∙ ap (λ (text : List ℕ). text ++ ((123 ∷ file) ++ ((44 ∷ graph) ++ rest))) none ∙ joined file graph key word status)
