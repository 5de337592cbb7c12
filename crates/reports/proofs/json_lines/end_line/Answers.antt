use Rattle.std.proofs.Common.{rules, ◌≡◌, ◌∷◌, ◌++◌, [], ℕ, List, ◌∙◌, ap, append_assoc, codes}
use Rattle.json.specs.Print.{escape_byte}
use Rattle.streams.specs.Text.{word_of}
use Rattle.reports.specs.LineData.{natural}
use Rattle.reports.specs.Adding.{member_text}
use Rattle.reports.proofs.Steps.{then, plain_mark}
use Rattle.reports.proofs.json_lines.end_line.Goals as goal

-- the members one after another, with the byte that ends the line
joined : (key word b c : List ℕ)
    → (123 ∷ key) ++ (word ++ ((34 ∷ 44 ∷ b) ++ ((44 ∷ c) ++ 125 ∷ 10 ∷ [])))
    ≡ (123 ∷ ((key ++ (word ++ 34 ∷ [])) ++ 44 ∷ (b ++ 44 ∷ (c ++ 125 ∷ [])))) ++ 10 ∷ []
joined key word b c = simp append_assoc

pub returns : goal.returns
unfolding escape_byte
returns c =
    let key : List ℕ = 34 ∷ (codes "end" ++ 34 ∷ 58 ∷ 34 ∷ []) in
    let word = word_of c.args.mark in
    let file : List ℕ = member_text (codes "file") (natural c.args.file) in
    let graphs : List ℕ = member_text (codes "graphs") (natural c.args.graphs) in
    let last : List ℕ = 125 ∷ 10 ∷ [] in
    let rest : List ℕ = (34 ∷ 44 ∷ file) ++ ((44 ∷ graphs) ++ last) in
    let start = c.in_ok-out.out.items in
    let end = c.put_bytes-3.new.out.items in
    let none : start ≡ [] = search rules in
    let named : c.as_bytes.result.now ≡ word = c.as_bytes.ensures.value ∙ c.mark_word.ensures.word in
    let worded : c.put_bytes-2.new.out.items ≡ c.put_bytes.new.out.items ++ word = rw named at c.in_ok-put_bytes-2.ensures in
    let filed : c.put_number.new.out.items ≡ c.put_bytes-2.new.out.items ++ 34 ∷ 44 ∷ file = rw c.from.ensures at c.in_ok-put_number.ensures in
    let whole : end ≡ start ++ ((123 ∷ key) ++ (word ++ rest)) =
    then start c.put_bytes.new.out.items end (123 ∷ key) (word ++ rest) c.in_ok-put_bytes.ensures
    (then c.put_bytes.new.out.items c.put_bytes-2.new.out.items end word rest worded
    (then c.put_bytes-2.new.out.items c.put_number.new.out.items end (34 ∷ 44 ∷ file) ((44 ∷ graphs) ++ last) filed
    (then c.put_number.new.out.items c.put_number-2.new.out.items end (44 ∷ graphs) last c.in_ok-put_number-2.ensures c.in_ok-put_bytes-3.ensures))) in
    rw (plain_mark c.args.mark)
    (whole ∙ ap (λ (text : List ℕ). text ++ ((123 ∷ key) ++ (word ++ rest))) none ∙ joined key word file graphs)
