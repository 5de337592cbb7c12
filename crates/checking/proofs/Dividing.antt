-- How bytes are divided into lines.
use Rattle.std.proofs.Common.{◌≡◌, ◌≢◌, ℕ, ◌==◌, true, false, List, [], ◌∷◌, ◌++◌, All, refl, ap, ◌∙◌, append_assoc}
use Rattle.std.specs.List.{flat_map}
use Rattle.std.proofs.lemmas.Bool.{eqb-true}
use Rattle.std.proofs.lemmas.List.Elements.{All-head, All-tail}
use Rattle.planar_code.specs.Stream.{before_first}
use Rattle.checking.specs.Lines.{IsNoEnd, before_line, lines_in, ended_lines_in, ended_line}

-- a byte that ends no line
other_than_end : (b : ℕ) → b ≢ 10 → (b == 10) ≡ false
other_than_end b other = elim (b == 10) as (λ t. ((b == 10) ≡ t) → t ≡ false) [ true ↦ λ e. absurd (other (eqb-true _ _ e)) | false ↦ λ e. refl ] refl

first : (b : ℕ) (line : List ℕ) → IsNoEnd (b ∷ line) → b ≢ 10
first b line none = All-head (λ b. b ≢ 10) b line none

others : (b : ℕ) (line : List ℕ) → IsNoEnd (b ∷ line) → IsNoEnd line
others b line none = All-tail (λ b. b ≢ 10) b line none

first_line : (line : List ℕ) (lines : List (List ℕ)) → All IsNoEnd (line ∷ lines) → IsNoEnd line
first_line line lines each = All-head IsNoEnd line lines each

other_lines : (line : List ℕ) (lines : List (List ℕ)) → All IsNoEnd (line ∷ lines) → All IsNoEnd lines
other_lines line lines each = All-tail IsNoEnd line lines each

-- a line that a byte 0A ends comes first
pub lines-ended : (line rest : List ℕ) → IsNoEnd line → lines_in (line ++ (10 ∷ rest)) ≡ line ∷ lines_in rest
lines-ended [] rest none = refl
lines-ended (b ∷ line) rest none = rw (other_than_end b (first b line none)) (rw (lines-ended line rest (others b line none)) refl)

pub ended_lines-ended : (line rest : List ℕ) → IsNoEnd line → ended_lines_in (line ++ (10 ∷ rest)) ≡ line ∷ ended_lines_in rest
ended_lines-ended [] rest none = refl
ended_lines-ended (b ∷ line) rest none = rw (other_than_end b (first b line none)) (rw (ended_lines-ended line rest (others b line none)) refl)

-- a last line
pub lines-last : (line : List ℕ) → IsNoEnd line → line ≢ [] → lines_in line ≡ line ∷ []
lines-last [] none some = absurd (some refl)
lines-last (b ∷ []) none some = rw (other_than_end b (first b [] none)) refl
lines-last (b ∷ (c ∷ line)) none some = rw (other_than_end b (first b (c ∷ line) none)) (ap (before_line b) (lines-last (c ∷ line) (others b (c ∷ line) none) (λ e. cc)))

pub ended_lines-none : (line : List ℕ) → IsNoEnd line → ended_lines_in line ≡ []
ended_lines-none [] none = refl
ended_lines-none (b ∷ line) none = rw (other_than_end b (first b line none)) (ap (before_first b) (ended_lines-none line (others b line none)))

-- lines that were given, and what follows them
pub lines-given : (given : List (List ℕ)) (rest : List ℕ) → All IsNoEnd given → lines_in (flat_map ended_line given ++ rest) ≡ given ++ lines_in rest
lines-given [] rest each = refl
lines-given (line ∷ given) rest each =
    let split : flat_map ended_line (line ∷ given) ++ rest ≡ line ++ (10 ∷ (flat_map ended_line given ++ rest)) = simp append_assoc in
    ap lines_in split ∙ lines-ended line _ (first_line line given each) ∙ ap (λ ls. line ∷ ls) (lines-given given rest (other_lines line given each))

pub ended_lines-given : (given : List (List ℕ)) (rest : List ℕ) → All IsNoEnd given → ended_lines_in (flat_map ended_line given ++ rest) ≡ given ++ ended_lines_in rest
ended_lines-given [] rest each = refl
ended_lines-given (line ∷ given) rest each =
    let split : flat_map ended_line (line ∷ given) ++ rest ≡ line ++ (10 ∷ (flat_map ended_line given ++ rest)) = simp append_assoc in
    ap ended_lines_in split ∙ ended_lines-ended line _ (first_line line given each) ∙ ap (λ ls. line ∷ ls) (ended_lines-given given rest (other_lines line given each))
