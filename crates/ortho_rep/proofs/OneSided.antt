-- Shapes of darts, put into a list one after another.
use Rattle.std.proofs.Common.{◌≡◌, ◌≤◌, ◌<◌, ℕ, zero, suc, ◌+◌, List, [], ◌∷◌, ◌++◌, length, get_or, map, ap, ◌∙◌, arith}
use Rattle.std.specs.Prelude.{All}
use Rattle.std.proofs.Math.ListN.{get_or-append}
use Rattle.std.proofs.lemmas.List.{map-append, length-map, get_or_push, length-append}
use Rattle.std.proofs.lemmas.List.Elements.{All-append}
use borrow.Author.Count.{below_more}
use Rattle.ortho_rep.specs.declared.turn_strings.Turn.{Turn}
use Rattle.ortho_rep.specs.declared.turn_strings.Turn.TheVariants.{Left}
use Rattle.ortho_rep.specs.declared.turn_strings.TheConstants.{MAX_REPEATS}
use Rattle.ortho_rep.specs.declared.turn_strings.DartShape.{DartShape}
use Rattle.ortho_rep.specs.Repeats.{turns_in, HaveShapes}

-- what stands for a dart past the end of a list
abbrev pub straight : DartShape
straight = record { angle = 0; turn = Left; count = 0 }

-- a value of each item, if one more is appended to a list
mapped-more : {A : Type 0} (f : DartShape → A) (items : List DartShape) (one : DartShape) (n : ℕ) (none : A) (values : ℕ → A) → length items ≡ n →
    ((d : ℕ) → d < n → get_or (map f items) d none ≡ values d) → f one ≡ values n →
    (d : ℕ) → d < n + 1 → get_or (map f (items ++ one ∷ [])) d none ≡ values d
mapped-more f items one n none values count old new =
    let more = map-append f items (one ∷ []) in
    let size : length (map f items) ≡ n = length-map items f ∙ count in
    below_more (λ d. get_or (map f (items ++ one ∷ [])) d none ≡ values d) n
    (λ d b. ap (λ l. get_or l d none) more ∙ (get_or-append (map f items) (f one ∷ []) none d (omega (arith, size)) ∙ old d b))
    (ap (λ l. get_or l n none) more ∙ (get_or_push (map f items) (f one) none n size ∙ new))

-- one dart more
pub shapes-more : (a : ℕ → ℕ) (s : ℕ → List Turn) (n : ℕ) (found : List DartShape) (one : DartShape) → HaveShapes a s n found →
    one.angle ≡ a n → turns_in one ≡ s n → HaveShapes a s (n + 1) (found ++ one ∷ [])
shapes-more a s n found one is angle turns = record {
  count = omega (arith, length-append found (one ∷ []), is.count);
  angle = mapped-more (λ dart. dart.angle) found one n 0 a is.count is.angle angle;
  turns = mapped-more turns_in found one n [] s is.count is.turns turns;
}

-- with few turns each, as a loop finds them
pub repeats-more : (found : List DartShape) (one : DartShape) → All (λ (dart : DartShape). dart.count ≤ MAX_REPEATS) found → one.count ≤ MAX_REPEATS → All (λ (dart : DartShape). dart.count ≤ MAX_REPEATS) (found ++ one ∷ [])
repeats-more found one short this = All-append (λ (dart : DartShape). dart.count ≤ MAX_REPEATS) found (one ∷ []) short single
  where
    single : All (λ (dart : DartShape). dart.count ≤ MAX_REPEATS) (one ∷ [])
    single zero d within = this
    single (suc k) d within = absurd (omega arith)
