use Rattle.std.proofs.Common.{FitsSigned, ◌≡◌, ◌++◌, ◌∷◌, ℕ, ℤ, List, pos, negsuc, Bool, true, false, decimal, ◌∙◌, ap, arith, refl, rules, sym, w32}
use Rattle.std.proofs.lemmas.Bool.{le-leb}
use Rattle.std.proofs.lemmas.Int.{to_z-of_z}
use Rattle.std.proofs.lemmas.Result.{on_ok_weaker}
use Rattle.std.specs.Int.Signed.{le_z}
use Rattle.std.specs.Prelude.{unsigned_abs}
use Rattle.serde_json.specs.Written.{comma_if, compact_text}
use Rattle.reports.specs.LineData.{integer}
use Rattle.reports.proofs.json_text.put_integer.Goals as goal

not_both : (b : Bool) → b ≡ true → b ≡ false → ⊥
not_both true h k = cc
not_both false h k = cc

-- the text of a number below 0
negative_text : (z : ℤ) → le_z (pos 0) z ≡ false → 45 ∷ decimal (unsigned_abs z) ≡ compact_text (integer z)
negative_text (pos n) below = absurd (not_both _ (le-leb 0 n (omega arith)) below)
negative_text (negsuc n) below = refl

pub returns : goal.returns
returns c =
    let fits : FitsSigned w32 c.args.number = search rules in
    let below : le_z (pos 0) c.args.number ≡ false = ap (le_z (pos 0)) (sym (to_z-of_z w32 c.args.number fits)) ∙ c.if-number-ge0.false in
    on_ok_weaker c.put_negative.result (λ last.
    last ∙ ap (λ (size : ℕ). c.args.out.now.items ++ (comma_if c.args.later ++ 45 ∷ decimal size)) (c.unsigned_abs.ensures.value ∙ ap unsigned_abs (to_z-of_z w32 c.args.number fits))
    ∙ ap (λ (text : List ℕ). c.args.out.now.items ++ (comma_if c.args.later ++ text)) (negative_text c.args.number below)) c.put_negative.ensures
