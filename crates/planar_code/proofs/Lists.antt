-- The lists that a record's bytes hold are the record's lists.
use Rattle.std.proofs.Common.{◌≡◌, ℕ, zero, suc, List, [], ◌∷◌, ◌++◌, ◌<◌, ◌≤◌, ◌*◌, length, length-append, All, refl, sym, ap, subst, ◌∙◌, arith}
use Rattle.std.specs.List.{flat_map}
use Rattle.std.proofs.lemmas.List.Elements.{All-head, All-tail, All-weaker}
use Rattle.planar_code.specs.Stream.{IsEntry, IsList, IsRecord, ended, before_first, lists_in, lists_of}

-- one list, written before other bytes, is the first list of them all
pub lists_in-nonzero : (entries bytes : List ℕ) → All (λ x. 0 < x) entries → lists_in (ended entries ++ bytes) ≡ entries ∷ lists_in bytes
lists_in-nonzero [] bytes each = refl
lists_in-nonzero (zero ∷ entries) bytes each = absurd (omega (arith, All-head (λ x. 0 < x) zero entries each))
lists_in-nonzero (suc x ∷ entries) bytes each =
    ap (before_first (suc x)) (lists_in-nonzero entries bytes (All-tail (λ x. 0 < x) (suc x) entries each))

-- lists of nonzero entries that are written one after another are found again
pub lists_in-all_nonzero : (lists : List (List ℕ)) → All (All (λ x. 0 < x)) lists → lists_in (flat_map ended lists) ≡ lists
lists_in-all_nonzero [] each = refl
lists_in-all_nonzero (entries ∷ lists) each =
    lists_in-nonzero entries (flat_map ended lists) (All-head (All (λ x. 0 < x)) entries lists each)
    ∙ ap (λ rest. entries ∷ rest) (lists_in-all_nonzero lists (All-tail (All (λ x. 0 < x)) entries lists each))

-- the lists of a record that are written one after another are found again
pub lists_in-flat_map : (lists : List (List ℕ)) → All IsList lists → lists_in (flat_map ended lists) ≡ lists
lists_in-flat_map lists each =
    lists_in-all_nonzero lists
    (All-weaker IsList (All (λ x. 0 < x)) (λ l h. All-weaker IsEntry (λ x. 0 < x) (λ x e. e.0) l h.each) lists each)

-- lists of at most 254 entries, each ended, take at most 255 bytes each
pub ended_short : (lists : List (List ℕ)) → All IsList lists → length (flat_map ended lists) ≤ 255 * length lists
ended_short [] each = omega arith
ended_short (l ∷ ls) each =
    omega (
      arith,
      length-append (ended l) (flat_map ended ls),
      length-append l (0 ∷ []),
      (each 0 l (omega arith)).short,
      ended_short ls (All-tail IsList l ls each),
    )

-- a record's lists are those that its bytes hold
pub lists_of-record : (bytes : List ℕ) (r : IsRecord bytes) → lists_of bytes ≡ r.lists
lists_of-record bytes r = ap lists_of r.spelt ∙ lists_in-flat_map r.lists r.each

-- a record is spelt by the lists that its bytes hold
pub spelt-record : (bytes : List ℕ) → IsRecord bytes → bytes ≡ length (lists_of bytes) ∷ flat_map ended (lists_of bytes)
spelt-record bytes r =
    subst (λ lists. bytes ≡ length lists ∷ flat_map ended lists) (sym (lists_of-record bytes r)) r.spelt

-- each of the lists that its bytes hold is short, and has no 0
pub each-record : (bytes : List ℕ) → IsRecord bytes → All IsList (lists_of bytes)
each-record bytes r = subst (All IsList) (sym (lists_of-record bytes r)) r.each
