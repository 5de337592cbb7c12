-- Texts put one after another, and the text of an array, item by item.
use Rattle.std.proofs.Common.{◌≡◌, ℕ, ◌+◌, ◌<◌, zero, suc, Bool, true, false, ◌||◌, List, [], ◌∷◌, ◌++◌, length, map, take, nat_lt, refl, sym, ap, ◌∙◌, add-one, append_assoc, append-nil, arith}
use Rattle.std.proofs.lemmas.Bool.{lt-ltb}
use Rattle.std.specs.List.{range_with_len}
use Rattle.json.specs.Print.{escape, escape_byte}
use Rattle.serde_json.specs.Data.{Data}
use Rattle.serde_json.specs.View.{items_of}
use Rattle.serde_json.specs.Written.{comma_if, compact_text, items_text}
use Rattle.ortho_rep.specs.declared.turn_strings.Turn.{Turn}
use Rattle.ortho_rep.specs.declared.turn_strings.Turn.TheVariants.{Left, Right}
use Rattle.planar_code.specs.declared.partial_record.Ending.TheVariants as ending
use Rattle.streams.specs.declared.frames.Mark.{Mark}
use Rattle.streams.specs.declared.frames.Mark.TheVariants.{Ended, Io}
use Rattle.streams.specs.Text as marks
use Rattle.embedding.specs.declared.breaks.Rule.{Rule}
use Rattle.embedding.specs.declared.breaks.Rule.TheVariants.{Range, Loop, Multi, Asymmetric, Edgeless, Degree, Disconnected, Genus}
use Rattle.embedding.specs.Words as rules
use Rattle.reports.specs.declared.answer.Cause.{Cause}
use Rattle.reports.specs.declared.answer.Cause.TheVariants.{Wide, OutOfGrid, NotAxis, WrongTurn, Meet}
use Rattle.reports.specs.CauseWords.{word_of}
use Rattle.reports.specs.LineData.{array_of, letter_of}

-- one text after another
pub then : (a b c xs ys : List ℕ) → b ≡ a ++ xs → c ≡ b ++ ys → c ≡ a ++ (xs ++ ys)
then a b c xs ys first second = second ∙ ap (λ (t : List ℕ). t ++ ys) first ∙ append_assoc a xs ys

-- the items without the brackets, after a comma if something comes before
abbrev pub front : Bool → List Data → List ℕ
front later [] = []
front later (d ∷ ds) = comma_if later ++ (compact_text d ++ front true ds)

abbrev pub is_some : List Data → Bool
is_some [] = false
is_some (d ∷ ds) = true

shift : (b : Bool) (t a c : List ℕ) → comma_if b ++ (t ++ (a ++ c)) ≡ (comma_if b ++ (t ++ a)) ++ c
shift true t a c = ap (λ (s : List ℕ). 44 ∷ s) (sym (append_assoc t a c))
shift false t a c = sym (append_assoc t a c)

or_true : (b : Bool) → (b || true) ≡ true
or_true true = refl
or_true false = refl

-- one item more
front_more : (later : Bool) (ds : List Data) (d : Data) → front later (ds ++ d ∷ []) ≡ front later ds ++ (comma_if (later || is_some ds) ++ compact_text d)
front_more true [] d = ap (λ (t : List ℕ). 44 ∷ t) (append-nil (compact_text d))
front_more false [] d = append-nil (compact_text d)
front_more later (e ∷ ds) d =
    ap (λ (t : List ℕ). comma_if later ++ (compact_text e ++ t)) (front_more true ds d)
    ∙ shift later (compact_text e) (front true ds) (44 ∷ compact_text d)
    ∙ ap (λ (b : Bool). front later (e ∷ ds) ++ (comma_if b ++ compact_text d)) (sym (or_true later))

ends : (later : Bool) (ds : List Data) → items_text later (items_of ds) ≡ front later ds ++ 93 ∷ []
ends later [] = refl
ends later (d ∷ ds) =
    ap (λ (t : List ℕ). comma_if later ++ (compact_text d ++ t)) (ends true ds) ∙ shift later (compact_text d) (front true ds) (93 ∷ [])

-- these items of an array come after its beginning
abbrev pub Lists : List ℕ → List ℕ → List Data → Type 0
Lists start now ds = now ≡ start ++ front false ds

pub none_yet : (start : List ℕ) → Lists start start []
none_yet start = sym (append-nil start)

-- one item more, after a comma if there are some
pub one_more : (start now next : List ℕ) (ds : List Data) (d : Data) (all : List Data) (later : Bool)
    → Lists start now ds → next ≡ now ++ (comma_if later ++ compact_text d) → later ≡ is_some ds → ds ++ d ∷ [] ≡ all → Lists start next all
one_more start now next ds d all later lists adds some is =
    then start now next (front false ds) (comma_if later ++ compact_text d) lists adds
    ∙ ap (λ (b : Bool). start ++ (front false ds ++ (comma_if b ++ compact_text d))) some
    ∙ ap (λ (t : List ℕ). start ++ t) (sym (front_more false ds d)) ∙ ap (λ (es : List Data). start ++ front false es) is

-- whether some items were taken
pub some_taken : {A : Type 0} (value : A → Data) (k : ℕ) (xs : List A) → k < length xs → nat_lt 0 k ≡ is_some (map value (take k xs))
some_taken value zero xs within = refl
some_taken value (suc k) [] within = absurd (omega arith)
some_taken value (suc k) (x ∷ xs) within = lt-ltb 0 (suc k) (omega arith)

pub some_now : {A : Type 0} (value : A → Data) (k : ℕ) (xs : List A) → k < length xs → true ≡ is_some (map value (take (k + 1) xs))
some_now value k [] within = absurd (omega arith)
some_now value k (x ∷ xs) within = rw (add-one k) refl

pub some_counted : (value : ℕ → Data) (k : ℕ) → nat_lt 0 k ≡ is_some (map value (range_with_len 0 k))
some_counted value zero = refl
some_counted value (suc k) = lt-ltb 0 (suc k) (omega arith)

-- the beginning, all items and the end
pub whole_array : {A : Type 0} (value : A → Data) (xs some : List A) (first start now end : List ℕ)
    → start ≡ first ++ 91 ∷ [] → Lists start now (map value some) → some ≡ xs → end ≡ now ++ 93 ∷ [] → end ≡ first ++ compact_text (array_of value xs)
whole_array value xs some first start now end begins lists all last =
    let items = front false (map value some) in
    then first start end (91 ∷ []) (items ++ 93 ∷ []) begins (then start now end items (93 ∷ []) lists last)
    ∙ ap (λ (t : List ℕ). first ++ 91 ∷ t) (sym (ends false (map value some)))
    ∙ ap (λ ys. first ++ compact_text (array_of value ys)) all

-- letters of turns, and words of causes, rules and marks, need no escape
pub plain_letters : (turns : List Turn) → escape (map letter_of turns) ≡ map letter_of turns
unfolding escape_byte
plain_letters [] = refl
plain_letters (Left ∷ turns) = ap (λ (t : List ℕ). 76 ∷ t) (plain_letters turns)
plain_letters (Right ∷ turns) = ap (λ (t : List ℕ). 82 ∷ t) (plain_letters turns)

pub plain_word : (cause : Cause) → escape (word_of cause) ≡ word_of cause
unfolding escape_byte
plain_word Wide = refl
plain_word OutOfGrid = refl
plain_word NotAxis = refl
plain_word WrongTurn = refl
plain_word Meet = refl

pub plain_rule : (rule : Rule) → escape (rules.word_of rule) ≡ rules.word_of rule
unfolding escape_byte
plain_rule Range = refl
plain_rule Loop = refl
plain_rule Multi = refl
plain_rule Asymmetric = refl
plain_rule Edgeless = refl
plain_rule Degree = refl
plain_rule Disconnected = refl
plain_rule Genus = refl

pub plain_mark : (mark : Mark) → escape (marks.word_of mark) ≡ marks.word_of mark
unfolding escape_byte
plain_mark (Ended ending.Complete) = refl
plain_mark (Ended ending.Truncated) = refl
plain_mark (Ended ending.Header) = refl
plain_mark (Ended ending.Large) = refl
plain_mark (Ended ending.Oversize) = refl
plain_mark (Ended ending.Many) = refl
plain_mark (Ended ending.Memory) = refl
plain_mark Io = refl
