-- One line more, and one verdict more.
use Rattle.std.proofs.Common.{◌≡◌, ◌≤◌, ℕ, Bool, List, [], ◌∷◌, ◌++◌, None, Some, length, suc, inl, inr, refl, ap, sym, subst, arith}
use Rattle.checking.specs.declared.judging.Verdict.{Verdict}
use Rattle.checking.specs.Pairs.{EndsRun, KeepsAllBut, IsVerdictOf, AreVerdicts}

-- a line more that is kept
pub one_kept : (lines kept : List (List ℕ)) (line : List ℕ) → KeepsAllBut lines kept → KeepsAllBut (lines ++ line ∷ []) (kept ++ line ∷ [])
one_kept [] kept line none = inr ([], ap (λ (l : List (List ℕ)). l ++ line ∷ []) none, refl)
one_kept (first ∷ lines) kept line keeps = elim keeps as (λ _. KeepsAllBut ((first ∷ lines) ++ line ∷ []) (kept ++ line ∷ [])) [
  | inl end ↦ inl (end.0, one_kept lines kept line end.1)
  | inr more ↦ inr (more.0 ++ line ∷ [], ap (λ (l : List (List ℕ)). l ++ line ∷ []) more.1, one_kept lines more.0 line more.2)
]

-- a line more that is the end of a run
pub one_left : (lines kept : List (List ℕ)) (line : List ℕ) → EndsRun line → KeepsAllBut lines kept → KeepsAllBut (lines ++ line ∷ []) kept
one_left [] kept line end none = inl (end, none)
one_left (first ∷ lines) kept line end keeps = elim keeps as (λ _. KeepsAllBut ((first ∷ lines) ++ line ∷ []) kept) [
  | inl before ↦ inl (before.0, one_left lines kept line end before.1)
  | inr more ↦ inr (more.0, more.1, one_left lines more.0 line end more.2)
]

-- all lines may be kept
pub all_kept : (lines : List (List ℕ)) → KeepsAllBut lines lines
all_kept [] = refl
all_kept (first ∷ lines) = inr (lines, refl, all_kept lines)

-- and all that are to come
pub rest_kept : (lines kept more : List (List ℕ)) → KeepsAllBut lines kept → KeepsAllBut (lines ++ more) (kept ++ more)
rest_kept [] kept more none = subst (λ (l : List (List ℕ)). KeepsAllBut more (l ++ more)) (sym none) (all_kept more)
rest_kept (first ∷ lines) kept more keeps = elim keeps as (λ _. KeepsAllBut ((first ∷ lines) ++ more) (kept ++ more)) [
  | inl end ↦ inl (end.0, rest_kept lines kept more end.1)
  | inr other ↦ inr (other.0 ++ more, ap (λ (l : List (List ℕ)). l ++ more) other.1, rest_kept lines other.0 more other.2)
]

-- a record more and its line
pub one_judged : (faces failed : Bool) (records lines : List (List ℕ)) (verdicts : List Verdict) (bytes line : List ℕ) (v : Verdict)
    → length lines ≡ length records → AreVerdicts faces failed records lines verdicts → IsVerdictOf faces failed bytes (Some line) v
    → AreVerdicts faces failed (records ++ bytes ∷ []) (lines ++ line ∷ []) (verdicts ++ v ∷ [])
one_judged faces failed [] [] [] bytes line v same are is = (is, tt)
one_judged faces failed [] [] (u ∷ us) bytes line v same are is = absurd are
one_judged faces failed [] (l ∷ ls) verdicts bytes line v same are is = absurd (omega arith)
one_judged faces failed (r ∷ rs) [] verdicts bytes line v same are is = absurd (omega arith)
one_judged faces failed (r ∷ rs) (l ∷ ls) [] bytes line v same are is = absurd are
one_judged faces failed (r ∷ rs) (l ∷ ls) (u ∷ us) bytes line v same are is =
    (are.0, one_judged faces failed rs ls us bytes line v (omega arith) are.1 is)

-- a record more without a line
pub one_missing : (faces failed : Bool) (records lines : List (List ℕ)) (verdicts : List Verdict) (bytes : List ℕ) (v : Verdict)
    → length lines ≤ length records → AreVerdicts faces failed records lines verdicts → IsVerdictOf faces failed bytes None v
    → AreVerdicts faces failed (records ++ bytes ∷ []) lines (verdicts ++ v ∷ [])
one_missing faces failed [] [] [] bytes v few are is = (is, tt)
one_missing faces failed [] [] (u ∷ us) bytes v few are is = absurd are
one_missing faces failed [] (l ∷ ls) verdicts bytes v few are is = absurd (omega arith)
one_missing faces failed (r ∷ rs) lines [] bytes v few are is = absurd are
one_missing faces failed (r ∷ rs) [] (u ∷ us) bytes v few are is = (are.0, one_missing faces failed rs [] us bytes v (omega arith) are.1 is)
one_missing faces failed (r ∷ rs) (l ∷ ls) (u ∷ us) bytes v few are is =
    (are.0, one_missing faces failed rs ls us bytes v (omega arith) are.1 is)

-- lines more than records
pub more_lines : (faces failed : Bool) (records lines more : List (List ℕ)) (verdicts : List Verdict) → length lines ≡ length records
    → AreVerdicts faces failed records lines verdicts → AreVerdicts faces failed records (lines ++ more) verdicts
more_lines faces failed [] lines more [] same are = tt
more_lines faces failed [] lines more (u ∷ us) same are = absurd are
more_lines faces failed (r ∷ rs) [] more verdicts same are = absurd (omega arith)
more_lines faces failed (r ∷ rs) (l ∷ ls) more [] same are = absurd are
more_lines faces failed (r ∷ rs) (l ∷ ls) more (u ∷ us) same are = (are.0, more_lines faces failed rs ls more us (omega arith) are.1)

-- as many verdicts as records
pub as_many : (faces failed : Bool) (records lines : List (List ℕ)) (verdicts : List Verdict) → AreVerdicts faces failed records lines verdicts → length verdicts ≡ length records
as_many faces failed [] lines [] are = refl
as_many faces failed [] lines (u ∷ us) are = absurd are
as_many faces failed (r ∷ rs) lines [] are = absurd are
as_many faces failed (r ∷ rs) [] (u ∷ us) are = ap suc (as_many faces failed rs [] us are.1)
as_many faces failed (r ∷ rs) (l ∷ ls) (u ∷ us) are = ap suc (as_many faces failed rs ls us are.1)
