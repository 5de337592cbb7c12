-- A stream splits in one way.
use Rattle.std.proofs.Common.{◌≡◌, ℕ, List, ◌++◌, inl, inr, length, refl, sym, ap, subst, ◌∙◌, arith}
use Rattle.planar_code.specs.declared.TheConstants.{HEADER}
use Rattle.planar_code.specs.declared.partial_record.Ending.{Ending}
use Rattle.planar_code.specs.declared.partial_record.Ending.TheVariants as ending
use Rattle.planar_code.specs.Stream.{IsUnfinished}
use Rattle.planar_code.specs.Split.{IsDivided, BeginsWithZero, EndsAs, IsSplit}
use Rattle.planar_code.proofs.Divisions.{divided_same}

complete_same : (count : ℕ) (rest : List ℕ) → EndsAs count rest ending.Complete → (end : Ending) → EndsAs count rest end → ending.Complete ≡ end
complete_same count rest h ending.Complete k = refl
complete_same count rest h ending.Truncated k = absurd (k.1 h)
complete_same count rest h ending.Header k = absurd k
complete_same count rest h ending.Large k = absurd (let e = k.0.1 in (cc))
complete_same count rest h ending.Oversize k = absurd (k.2 h)
complete_same count rest h ending.Memory k = absurd k
complete_same count rest h ending.Many k = absurd (k.0 h)

many_same : (count : ℕ) (rest : List ℕ) → EndsAs count rest ending.Many → (end : Ending) → EndsAs count rest end → ending.Many ≡ end
many_same count rest h ending.Complete k = absurd (h.0 k)
many_same count rest h ending.Truncated k = absurd (k.2 h.1)
many_same count rest h ending.Header k = absurd k
many_same count rest h ending.Large k = absurd (k.1 h.1)
many_same count rest h ending.Oversize k = absurd (k.3 h.1)
many_same count rest h ending.Memory k = absurd k
many_same count rest h ending.Many k = refl

-- no record begins with byte 0
pub zero_unfinished : (rest : List ℕ) → BeginsWithZero rest → IsUnfinished rest → ⊥
zero_unfinished rest z u =
    let whole = u.whole.spelt in
    let start = ap (λ b. b ++ u.missing) z.1 in
    let none : 0 ≡ length u.whole.lists = cc in
    let some = u.whole.some in
    absurd (omega arith)

large_same : (count : ℕ) (rest : List ℕ) → EndsAs count rest ending.Large → (end : Ending) → EndsAs count rest end → ending.Large ≡ end
large_same count rest h ending.Complete k = absurd (let e = h.0.1 in (cc))
large_same count rest h ending.Truncated k = absurd (zero_unfinished rest h.0 k.0)
large_same count rest h ending.Header k = absurd k
large_same count rest h ending.Large k = refl
large_same count rest h ending.Oversize k = absurd (k.1 h.0)
large_same count rest h ending.Memory k = absurd k
large_same count rest h ending.Many k = absurd (h.1 k.1)

truncated_same : (count : ℕ) (rest : List ℕ) → EndsAs count rest ending.Truncated → (end : Ending) → EndsAs count rest end → ending.Truncated ≡ end
truncated_same count rest h ending.Complete k = absurd (h.1 k)
truncated_same count rest h ending.Truncated k = refl
truncated_same count rest h ending.Header k = absurd k
truncated_same count rest h ending.Large k = absurd (zero_unfinished rest k.0 h.0)
truncated_same count rest h ending.Oversize k = absurd (k.0 h.0)
truncated_same count rest h ending.Memory k = absurd k
truncated_same count rest h ending.Many k = absurd (h.2 k.1)

oversize_same : (count : ℕ) (rest : List ℕ) → EndsAs count rest ending.Oversize → (end : Ending) → EndsAs count rest end → ending.Oversize ≡ end
oversize_same count rest h ending.Complete k = absurd (h.2 k)
oversize_same count rest h ending.Truncated k = absurd (h.0 k.0)
oversize_same count rest h ending.Header k = absurd k
oversize_same count rest h ending.Large k = absurd (h.1 k.0)
oversize_same count rest h ending.Oversize k = refl
oversize_same count rest h ending.Memory k = absurd k
oversize_same count rest h ending.Many k = absurd (h.3 k.1)

-- of the endings at most one fits
pub ends_same : (count : ℕ) (rest : List ℕ) (a b : Ending) → EndsAs count rest a → EndsAs count rest b → a ≡ b
ends_same count rest ending.Complete b h k = complete_same count rest h b k
ends_same count rest ending.Truncated b h k = truncated_same count rest h b k
ends_same count rest ending.Header b h k = absurd h
ends_same count rest ending.Large b h k = large_same count rest h b k
ends_same count rest ending.Oversize b h k = oversize_same count rest h b k
ends_same count rest ending.Memory b h k = absurd h
ends_same count rest ending.Many b h k = many_same count rest h b k

-- what follows the header is one
pub body_same : (a b : List ℕ) → HEADER ++ a ≡ HEADER ++ b → a ≡ b
body_same a b e = cc

-- a stream has one list of records and one ending
pub split_same : (stream : List ℕ) (rs ss : List (List ℕ)) (a b : Ending) → IsSplit stream rs a → IsSplit stream ss b → (rs ≡ ss) × (a ≡ b)
split_same stream rs ss a b (inl h) (inl k) = (h.none ∙ sym k.none, h.ends ∙ sym k.ends)
split_same stream rs ss a b (inl h) (inr k) = absurd (h.header k.body k.with_header)
split_same stream rs ss a b (inr h) (inl k) = absurd (k.header h.body h.with_header)
split_same stream rs ss a b (inr h) (inr k) =
    let body = body_same h.body k.body (sym h.with_header ∙ k.with_header) in
    let same = divided_same h.body rs ss h.rest k.rest h.divided (subst (λ z. IsDivided z ss k.rest) (sym body) k.divided) in
    let ends = subst (λ z. EndsAs z k.rest b) (sym (ap length same.0)) k.ends in
    (same.0, ends_same (length rs) h.rest a b h.ends (subst (λ z. EndsAs (length rs) z b) (sym same.1) ends))
