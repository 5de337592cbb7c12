-- Lanes that print lines take the files whose meaning they know.
use Rattle.std.proofs.Common.{◌≡◌, ℕ, sym, subst}
use Rattle.lanes.specs.Opening.{Meaning, IsPlacedAt, IsEndAt}
use Rattle.lanes.specs.Accepting.{AcceptsFiles}

pub accepts_known : (known meaning : ℕ → Meaning) → known ≡ meaning
    → AcceptsFiles (λ file place bytes. IsPlacedAt (known file) place bytes) (λ file count mark. IsEndAt (known file) count mark) meaning
accepts_known known meaning same = record {
  records = λ file place bytes placed. subst (λ m. IsPlacedAt (m file) place bytes) (sym same) placed;
  marks = λ file count mark is. subst (λ m. IsEndAt (m file) count mark) (sym same) is;
}
