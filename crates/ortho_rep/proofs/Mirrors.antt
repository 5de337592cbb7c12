-- A string and its mirror image, place by place.
use Rattle.std.proofs.Common.{◌≡◌, ◌<◌, ℕ, ◌-◌, List, length, get_or, reverse, sym, ap, ◌∙◌, arith}
use Rattle.std.proofs.lemmas.List.{ext_get_or, get_or-map, get_or-reverse, length-map, length-reverse}
use Rattle.ortho_rep.specs.declared.turn_strings.Turn.{Turn}
use Rattle.ortho_rep.specs.declared.turn_strings.Turn.TheVariants.{Left}
use Rattle.ortho_rep.specs.Turns.{opposite, mirrored}

pub length-mirrored : (ts : List Turn) → length (mirrored ts) ≡ length ts
length-mirrored ts = length-map (reverse ts) opposite ∙ length-reverse ts

-- place i of the mirror image, counted from the other end
pub get_or-mirrored : (ts : List Turn) (i : ℕ) → i < length ts → get_or (mirrored ts) i Left ≡ opposite (get_or ts (length ts - 1 - i) Left)
get_or-mirrored ts i b =
    get_or-map opposite (reverse ts) i Left Left (omega (arith, length-reverse ts)) ∙ ap opposite (get_or-reverse ts i Left b)

-- a string that has at each place the opposite of the other's turn as far from its end is its mirror image
pub mirrored-from : (ts rs : List Turn) → length ts ≡ length rs → ((k : ℕ) → k < length ts → get_or rs (length rs - 1 - k) Left ≡ opposite (get_or ts k Left)) → rs ≡ mirrored ts
mirrored-from ts rs same each =
    ext_get_or Left rs (mirrored ts) (omega (arith, length-mirrored ts))
    (λ i b. let back : length rs - 1 - (length rs - 1 - i) ≡ i = omega arith in
    let from : length ts - 1 - i ≡ length rs - 1 - i = omega arith in
    sym (ap (λ (z : ℕ). get_or rs z Left) back) ∙ (each (length rs - 1 - i) (omega arith) ∙ (ap (λ (z : ℕ). opposite (get_or ts z Left)) (sym from) ∙ sym (get_or-mirrored ts i (omega arith)))))

-- and the other way
pub mirrored-at : (ts rs : List Turn) (k : ℕ) → k < length ts → rs ≡ mirrored ts → get_or rs (length rs - 1 - k) Left ≡ opposite (get_or ts k Left)
mirrored-at ts rs k b e =
    let same : length rs ≡ length ts = ap length e ∙ length-mirrored ts in
    let back : length ts - 1 - (length rs - 1 - k) ≡ k = omega arith in
    ap (λ (xs : List Turn). get_or xs (length rs - 1 - k) Left) e ∙ (get_or-mirrored ts (length rs - 1 - k) (omega arith) ∙ ap (λ (z : ℕ). opposite (get_or ts z Left)) back)
