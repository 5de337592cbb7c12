-- Strings of left turns and then right turns.
use Rattle.std.proofs.Common.{◌≡◌, ℕ, zero, suc, ◌+◌, List, [], ◌∷◌, ◌++◌, replicate, map, reverse, add-one, refl, ap, ◌∙◌, arith}
use Rattle.std.proofs.lemmas.List.{map-append, reverse-append, replicate-append-replicate}
use Rattle.ortho_rep.specs.declared.turn_strings.Turn.{Turn}
use Rattle.ortho_rep.specs.declared.turn_strings.Turn.TheVariants.{Left, Right}
use Rattle.ortho_rep.specs.Turns.{opposite, mirrored, lefts, rights}
use Rattle.ortho_rep.specs.OfFlow.{lefts_then_rights}
use Rattle.ortho_rep.proofs.TurnCounts.{lefts-cons, rights-cons}

pub lefts-lefts_then_rights : (l r : ℕ) → lefts (lefts_then_rights l r) ≡ l
lefts-lefts_then_rights zero zero = refl
lefts-lefts_then_rights zero (suc r) = omega (arith, lefts-cons Right (lefts_then_rights zero r), lefts-lefts_then_rights zero r)
lefts-lefts_then_rights (suc l) r = omega (arith, lefts-cons Left (lefts_then_rights l r), lefts-lefts_then_rights l r)

pub rights-lefts_then_rights : (l r : ℕ) → rights (lefts_then_rights l r) ≡ r
rights-lefts_then_rights zero zero = refl
rights-lefts_then_rights zero (suc r) = omega (arith, rights-cons Right (lefts_then_rights zero r), rights-lefts_then_rights zero r)
rights-lefts_then_rights (suc l) r = omega (arith, rights-cons Left (lefts_then_rights l r), rights-lefts_then_rights l r)

pub same-exchanged : (n : ℕ) (x : Turn) → map opposite (reverse (replicate n x)) ≡ replicate n (opposite x)
same-exchanged zero x = refl
same-exchanged (suc n) x =
    ap (map opposite) (reverse-append (x ∷ []) (replicate n x))
    ∙ (map-append opposite (reverse (replicate n x)) (x ∷ [])
    ∙ (ap (λ (t : List Turn). t ++ opposite x ∷ []) (same-exchanged n x)
    ∙ (replicate-append-replicate n 1 (opposite x) ∙ ap (λ (k : ℕ). replicate k (opposite x)) (add-one n))))

pub mirrored-lefts_then_rights : (l r : ℕ) → mirrored (lefts_then_rights l r) ≡ lefts_then_rights r l
mirrored-lefts_then_rights l r =
    ap (map opposite) (reverse-append (replicate l Left) (replicate r Right))
    ∙ (map-append opposite (reverse (replicate r Right)) (reverse (replicate l Left))
    ∙ (ap (λ (t : List Turn). t ++ map opposite (reverse (replicate l Left))) (same-exchanged r Right)
    ∙ ap (λ (t : List Turn). replicate r Left ++ t) (same-exchanged l Left)))
