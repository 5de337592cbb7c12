-- From the place on where the walk has turned left most, each right turn is made good for.
use Rattle.std.proofs.Common.{◌≡◌, ℕ, ◌+◌, ◌-◌, ◌*◌, ◌<◌, ◌≤◌, ◌∙◌, List, [], ◌∷◌, ◌++◌, length, length-append, take, drop, get_or, arith, subst, sym, ap, add-one, length-drop, append-nil}
use Rattle.std.proofs.lemmas.List.{take-append-drop, take_more, take-take, drop-drop, length-take-le}
use Rattle.dissect.specs.Turning.{total, Rising, IsPeak}

pub total-appended : (xs ys : List ℕ) → total (xs ++ ys) ≡ total xs + total ys
total-appended [] ys = omega arith
total-appended (x ∷ xs) ys = omega (arith, total-appended xs ys)

pub total-subdivide : (k : ℕ) (xs : List ℕ) → total xs ≡ total (take k xs) + total (drop k xs)
total-subdivide k xs = ap total (sym (take-append-drop k xs)) ∙ total-appended (take k xs) (drop k xs)

pub total-take_more : (xs : List ℕ) (k : ℕ) → k < length xs → total (take (k + 1) xs) ≡ total (take k xs) + get_or xs k 0
total-take_more xs k l = ap total (take_more xs k 0 l) ∙ total-appended (take k xs) (get_or xs k 0 ∷ []) ∙ omega arith

-- each suffix, with what comes after the list, turns left
pub rising_over : (xs ys : List ℕ) →
    ((j : ℕ) → j < length xs → total (drop j xs) + total ys + 1 ≤ 2 * (length xs - j + length ys)) → Rising ys → Rising (xs ++ ys)
rising_over [] ys each rising = rising
rising_over (x ∷ xs) ys each rising = (
  (λ right. omega (arith, each 0 (omega arith), total-appended xs ys, length-append xs ys)),
  rising_over xs ys (λ j l. omega (arith, subst (λ (k : ℕ). total (drop k (x ∷ xs)) + total ys + 1 ≤ 2 * (length (x ∷ xs) - k + length ys)) (add-one j) (each (j + 1) (omega (arith, l))))) rising,
)

pub rising_turned : (xs : List ℕ) (m : ℕ) → total xs + 4 ≡ 2 * length xs → IsPeak xs m → Rising (drop m xs ++ take m xs)
rising_turned xs m once peak =
    rising_over (drop m xs) (take m xs)
    (λ j l.
    let less : m + j < length xs = omega (arith, length-drop m xs, l) in
    omega (
      arith,
      total-subdivide (m + j) xs,
      ap total (drop-drop j m xs),
      peak.most (m + j) (omega (arith, less)),
      once,
      length-drop m xs,
      length-take-le m xs peak.within,
      less,
    ))
    (subst Rising (append-nil (take m xs))
    (rising_over (take m xs) []
    (λ j l.
    let less : j < m = omega (arith, length-take-le m xs peak.within, l) in
    omega (
      arith,
      total-subdivide j (take m xs),
      ap total (take-take j m xs (omega (arith, less))),
      peak.first j less,
      length-take-le m xs peak.within,
    ))
    tt))
