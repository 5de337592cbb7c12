-- The scan of a record takes one byte of a text.
use Rattle.std.proofs.Common.{◌≡◌, ℕ, suc, ◌+◌, ◌-◌, ◌<◌, List, [], ◌∷◌, ◌++◌, length, take, drop, get_or, refl, sym, ap, subst, ◌∙◌, arith, append_assoc}
use Rattle.std.proofs.lemmas.List.{take_more, take-append-drop}
use Rattle.std.proofs.Math.Seq.{drop-cons}
use Rattle.planar_code.specs.Stream.{IsRecord}
use Rattle.planar_code.specs.Split.{BeginsWithZero}
use Rattle.planar_code.specs.Started.{IsStarted, IsOversize}
use Rattle.planar_code.proofs.Started.{started-entry, started-end, started-whole, started-oversize}

module _ (before text : List ℕ) (i remaining entries : ℕ) (inside : i < length text) (started : IsStarted (before ++ take i text) remaining entries) where
  -- one byte more
  next_byte : before ++ take (i + 1) text ≡ (before ++ take i text) ++ get_or text i 0 ∷ []
  next_byte = ap (λ z. before ++ z) (take_more text i 0 inside) ∙ sym (append_assoc before (take i text) (get_or text i 0 ∷ []))

  pub scan-whole : get_or text i 0 ≡ 0 → remaining ≡ 1 → IsRecord (before ++ take (i + 1) text)
  scan-whole zero_byte last =
      subst IsRecord (ap (λ x. (before ++ take i text) ++ x ∷ []) (sym zero_byte) ∙ sym next_byte) (started-whole (before ++ take i text) remaining entries started last)

  pub scan-end : get_or text i 0 ≡ 0 → 1 < remaining → IsStarted (before ++ take (i + 1) text) (remaining - 1) 0
  scan-end zero_byte more =
      subst (λ z. IsStarted z (remaining - 1) 0) (ap (λ x. (before ++ take i text) ++ x ∷ []) (sym zero_byte) ∙ sym next_byte) (started-end (before ++ take i text) remaining entries started more)

  pub scan-entry : 0 < get_or text i 0 → get_or text i 0 < 256 → entries < 254 → IsStarted (before ++ take (i + 1) text) remaining (entries + 1)
  scan-entry some fits room =
      subst (λ z. IsStarted z remaining (entries + 1)) (sym next_byte) (started-entry (before ++ take i text) remaining entries (get_or text i 0) started (some, fits) room)

  pub scan-oversize : 0 < get_or text i 0 → get_or text i 0 < 256 → entries ≡ 254 → IsOversize (before ++ text)
  scan-oversize some fits full =
      let whole : text ≡ take i text ++ (get_or text i 0 ∷ drop (suc i) text)
      = sym (take-append-drop i text) ∙ ap (λ z. take i text ++ z) (drop-cons text i 0 inside) in
      subst IsOversize (append_assoc before (take i text) (get_or text i 0 ∷ drop (suc i) text) ∙ ap (λ z. before ++ z) (sym whole)) (started-oversize (before ++ take i text) remaining entries (get_or text i 0) (drop (suc i) text) started (some, fits) full)

-- a list of no elements
pub empty-length : (xs : List ℕ) → length xs ≡ 0 → xs ≡ []
empty-length [] e = refl
empty-length (x ∷ xs) e = absurd (omega arith)

-- the first byte of a text
pub take-first : (text : List ℕ) → 0 < length text → take 1 text ≡ get_or text 0 0 ∷ []
take-first [] some = absurd (omega arith)
take-first (x ∷ text) some = refl

-- a text whose first byte is 0
pub zero_first : (text : List ℕ) → 0 < length text → get_or text 0 0 ≡ 0 → BeginsWithZero text
zero_first [] some e = absurd (omega arith)
zero_first (x ∷ text) some e = (text, ap (λ z. z ∷ text) e)
