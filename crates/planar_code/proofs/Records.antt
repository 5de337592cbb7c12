-- No record begins another.
use Rattle.std.proofs.Common.{◌≡◌, ℕ, List, [], ◌∷◌, ◌++◌, length, All, refl, sym, ap, ◌∙◌, arith, append_assoc, append-nil}
use Rattle.std.specs.List.{flat_map}
use Rattle.std.proofs.lemmas.List.Elements.{All-head, All-tail}
use Rattle.planar_code.specs.Stream.{IsEntry, IsList, IsRecord, IsUnfinished, NoRecordFirst, ended}

-- a list ends at its first 0
pub ended_same : (a b x y : List ℕ) → All IsEntry a → All IsEntry b → ended a ++ x ≡ ended b ++ y → (a ≡ b) × (x ≡ y)
ended_same [] [] x y entries_a entries_b e = (refl, cc)
ended_same [] (d ∷ b) x y entries_a entries_b e =
    let head : 0 ≡ d = cc in absurd (omega (arith, (All-head IsEntry d b entries_b).0))
ended_same (c ∷ a) [] x y entries_a entries_b e =
    let head : c ≡ 0 = cc in absurd (omega (arith, (All-head IsEntry c a entries_a).0))
ended_same (c ∷ a) (d ∷ b) x y entries_a entries_b e =
    let head : c ≡ d = cc in
    let tails : ended a ++ x ≡ ended b ++ y = cc in
    let same = ended_same a b x y (All-tail IsEntry c a entries_a) (All-tail IsEntry d b entries_b) tails in
    (cc, same.1)

-- as many lists, written before other bytes, are the same lists
pub lists_same : (la lb : List (List ℕ)) (x y : List ℕ) → All IsList la → All IsList lb → length la ≡ length lb → flat_map ended la ++ x ≡ flat_map ended lb ++ y → (la ≡ lb) × (x ≡ y)
lists_same [] [] x y each_a each_b n e = (refl, e)
lists_same [] (b ∷ lb) x y each_a each_b n e = absurd (omega arith)
lists_same (a ∷ la) [] x y each_a each_b n e = absurd (omega arith)
lists_same (a ∷ la) (b ∷ lb) x y each_a each_b n e =
    let parts : ended a ++ (flat_map ended la ++ x) ≡ ended b ++ (flat_map ended lb ++ y)
    = sym (append_assoc (ended a) (flat_map ended la) x) ∙ e ∙ append_assoc (ended b) (flat_map ended lb) y in
    let first = ended_same a b _ _ (All-head IsList a la each_a).each (All-head IsList b lb each_b).each parts in
    let others = lists_same la lb x y (All-tail IsList a la each_a) (All-tail IsList b lb each_b) (omega arith) first.1 in
    (cc, others.1)

-- two records that begin the same bytes are one
pub record_same : (a b x y : List ℕ) → IsRecord a → IsRecord b → a ++ x ≡ b ++ y → (a ≡ b) × (x ≡ y)
record_same a b x y ra rb e =
    let spelt : length ra.lists ∷ (flat_map ended ra.lists ++ x) ≡ length rb.lists ∷ (flat_map ended rb.lists ++ y)
    = sym (ap (λ z. z ++ x) ra.spelt) ∙ e ∙ ap (λ z. z ++ y) rb.spelt in
    let count : length ra.lists ≡ length rb.lists = cc in
    let tails : flat_map ended ra.lists ++ x ≡ flat_map ended rb.lists ++ y = cc in
    let same = lists_same ra.lists rb.lists x y ra.each rb.each count tails in
    (ra.spelt ∙ ap (λ lists. length lists ∷ flat_map ended lists) same.0 ∙ sym rb.spelt, same.1)

-- what is appended and leaves no bytes is no bytes
pub nothing_after : (a b : List ℕ) → [] ≡ a ++ b → b ≡ []
nothing_after [] b e = sym e
nothing_after (c ∷ a) b e = absurd (cc)

-- before a record is whole, no record stands first
pub no_record-unfinished : (rest : List ℕ) → IsUnfinished rest → NoRecordFirst rest
no_record-unfinished rest u first remaining r e =
    let whole : (rest ++ u.missing) ++ [] ≡ first ++ (remaining ++ u.missing)
    = append-nil (rest ++ u.missing) ∙ ap (λ z. z ++ u.missing) e ∙ append_assoc first remaining u.missing in
    u.more (nothing_after remaining u.missing (record_same (rest ++ u.missing) first [] (remaining ++ u.missing) u.whole r whole).1)

-- no record is a beginning of another
pub no_record-front : (bytes more : List ℕ) → IsRecord bytes → IsRecord (bytes ++ more) → more ≡ []
no_record-front bytes more r s = sym (record_same (bytes ++ more) bytes [] more s r (append-nil (bytes ++ more))).1
