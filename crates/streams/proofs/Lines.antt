-- The lines of a list of records, in parts.
use Rattle.std.proofs.Common.{◌≡◌, ℕ, ◌+◌, ◌<◌, ◌≤◌, List, [], ◌∷◌, ◌++◌, length, take, drop, get_or, sym, ◌∙◌, ap, append_assoc, append-nil, arith}
use Rattle.std.proofs.lemmas.List.{take-append-drop, take_more, length-take, take_all}
use Rattle.streams.specs.declared.frames.Mark.{Mark}
use Rattle.streams.specs.FramesModel.{FramesModel}
use Rattle.streams.specs.FrameLines.{record_lines-append}
use Rattle.streams.specs.Text.{record_line, record_lines, frames_end_line, frames_text}

-- the lines up to a record, and the line of that record; the first has the number n
pub record_lines-next : (n : ℕ) (xs : List (List ℕ)) (i : ℕ) (d : List ℕ) → i < length xs
    → record_lines n (take (i + 1) xs) ≡ record_lines n (take i xs) ++ record_line (n + i) (get_or xs i d)
record_lines-next n xs i d below =
    let number : n + length (take i xs) ≡ n + i = omega (arith, length-take i xs) in
    ap (record_lines n) (take_more xs i d below) ∙ record_lines-append n (take i xs) (get_or xs i d ∷ [])
    ∙ ap (λ l. record_lines n (take i xs) ++ l) (append-nil _ ∙ ap (λ k. record_line k (get_or xs i d)) number)

-- the lines of the first records are a beginning of all
pub record_lines-front : (n : ℕ) (xs : List (List ℕ)) (i : ℕ) → (rest : List ℕ) × (record_lines n xs ≡ record_lines n (take i xs) ++ rest)
record_lines-front n xs i = (
  record_lines (n + length (take i xs)) (drop i xs),
  ap (record_lines n) (sym (take-append-drop i xs)) ∙ record_lines-append n (take i xs) (drop i xs),
)

-- the lines of the records before one, its line, and what follows
pub record_lines-at : (n : ℕ) (xs : List (List ℕ)) (i : ℕ) (x : List ℕ) → i < length xs → x ≡ get_or xs i x
    → record_lines n xs ≡ (record_lines n (take i xs) ++ record_line (n + i) x) ++ (record_lines-front n xs (i + 1)).0
record_lines-at n xs i x below is =
    let front = record_lines-front n xs (i + 1) in
    let here : record_lines n (take (i + 1) xs) ≡ record_lines n (take i xs) ++ record_line (n + i) x =
    record_lines-next n xs i x below ∙ ap (λ y. record_lines n (take i xs) ++ record_line (n + i) y) (sym is) in
    front.1 ∙ ap (λ l. l ++ front.0) here

-- past the last record there are the lines of all
pub record_lines-all : (n : ℕ) (xs : List (List ℕ)) (i : ℕ) → length xs ≤ i → record_lines n (take i xs) ≡ record_lines n xs
record_lines-all n xs i past = ap (record_lines n) (take_all i xs past)

-- the text, by its parts
pub text_by_parts : (found : FramesModel) (xs : List (List ℕ)) (mark : Mark) → xs ≡ found.records → mark ≡ found.mark
    → record_lines 1 xs ++ frames_end_line mark (length xs) ≡ frames_text found
text_by_parts found xs mark same same_mark =
    ap (λ (ys : List (List ℕ)). record_lines 1 ys ++ frames_end_line mark (length ys)) same
    ∙ ap (λ (m : Mark). record_lines 1 found.records ++ frames_end_line m (length found.records)) same_mark
