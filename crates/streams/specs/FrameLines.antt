-- The text of the records of a source that is written while the source is read.
use Rattle.std.proofs.Common.{◌≡◌, ℕ, ◌+◌, Bool, List, [], ◌∷◌, ◌++◌, Option, None, Some, length, sym, subst, ap, ◌∙◌, append_assoc, append-nil, arith}
use Rattle.std.specs.Io.KnownBytes.{Appends}
use Rattle.streams.specs.declared.frames.Mark.{Mark}
use Rattle.streams.specs.FramesModel.{FramesModel}
use Rattle.streams.specs.Reading.{IsFoundIn}
use Rattle.streams.specs.Sink.{AppendsPrefix}
use Rattle.streams.specs.Text.{record_line, record_lines, frames_text}

-- the text of records and of this mark was added, which are those of bytes that the source may have given
pub record WritesFound (known : Option (List ℕ)) (fails : Bool) (old new : Option (List ℕ)) (mark : Mark) : Type 0 where
  pub records : List (List ℕ)
  pub found : IsFoundIn known fails records mark
  pub text : Appends old new (frames_text (record { records = records; mark = mark }))

-- a prefix of such a text was added
pub record BeginsFound (known : Option (List ℕ)) (fails : Bool) (old new : Option (List ℕ)) : Type 0 where
  pub records : List (List ℕ)
  pub mark : Mark
  pub found : IsFoundIn known fails records mark
  pub text : AppendsPrefix old new (frames_text (record { records = records; mark = mark }))

-- nothing added is an addition
pub added_none : (a : Option (List ℕ)) → Appends a a []
added_none None = tt
added_none (Some x) = sym (append-nil x)

-- one addition and then another
pub added_both : (a b c : Option (List ℕ)) (xs ys : List ℕ) → Appends a b xs → Appends b c ys → Appends a c (xs ++ ys)
added_both None b c xs ys p q = tt
added_both (Some x) None c xs ys p q = absurd p
added_both (Some x) (Some y) None xs ys p q = absurd q
added_both (Some x) (Some y) (Some z) xs ys p q = q ∙ ap (λ l. l ++ ys) p ∙ append_assoc x xs ys

-- a text, and then a prefix of another
pub added_front : (a b c : Option (List ℕ)) (xs ys : List ℕ) → Appends a b xs → AppendsPrefix b c ys → AppendsPrefix a c (xs ++ ys)
added_front a b c xs ys p q =
    (xs ++ q.0, q.1, ap (λ l. xs ++ l) q.2 ∙ sym (append_assoc xs q.0 q.1), added_both a b c xs q.0 p q.3)

-- the lines of two lists, one after the other
pub record_lines-append : (n : ℕ) (xs ys : List (List ℕ)) → record_lines n (xs ++ ys) ≡ record_lines n xs ++ record_lines (n + length xs) ys
record_lines-append n [] ys = let same : n ≡ n + 0 = omega arith in ap (λ k. record_lines k ys) same
record_lines-append n (x ∷ xs) ys =
    let same : n + 1 + length xs ≡ n + length (x ∷ xs) = omega arith in
    ap (λ l. record_line n x ++ l) (record_lines-append (n + 1) xs ys ∙ ap (λ k. record_lines (n + 1) xs ++ record_lines k ys) same)
    ∙ sym (append_assoc (record_line n x) _ _)

lines_both : (xs ys : List (List ℕ)) → record_lines (0 + 1) xs ++ record_lines (length xs + 1) ys ≡ record_lines (0 + 1) (xs ++ ys)
lines_both xs ys =
    let same : length xs + 1 ≡ 1 + length xs = omega arith in
    ap (λ k. record_lines 1 xs ++ record_lines k ys) same ∙ sym (record_lines-append 1 xs ys)

-- no lines were added
pub lines_none : (a : Option (List ℕ)) → Appends a a (record_lines (0 + 1) [])
lines_none a = added_none a

-- the lines of some records were added, and then those of others
pub lines_on : (xs ys : List (List ℕ)) (a b c : Option (List ℕ)) → Appends a b (record_lines (0 + 1) xs) → Appends b c (record_lines (length xs + 1) ys)
    → Appends a c (record_lines (0 + 1) (xs ++ ys))
lines_on xs ys a b c p q = subst (Appends a c) (lines_both xs ys) (added_both a b c _ _ p q)

-- the lines of some records were added, and then a prefix of those of others
pub lines_refused : (xs ys : List (List ℕ)) (a b c : Option (List ℕ)) → Appends a b (record_lines (0 + 1) xs) → AppendsPrefix b c (record_lines (length xs + 1) ys)
    → AppendsPrefix a c (record_lines (0 + 1) (xs ++ ys))
lines_refused xs ys a b c p q = subst (AppendsPrefix a c) (lines_both xs ys) (added_front a b c _ _ p q)
