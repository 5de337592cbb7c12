-- Prices of faces in whole numbers from 0 on, and what bends and angles tell of them.
use Rattle.std.proofs.Common.{◌≡◌, ◌≤◌, ◌<◌, ℕ, ◌+◌, ◌-◌, List, sym, ap, arith}
use Rattle.std.specs.Prelude.{ℤ, pos, ◌+ℤ◌, ◌-ℤ◌, ◌≤ℤ◌}
use Rattle.std.proofs.lemmas.Int.{ints}
use borrow.Author.Differences.{up, down}
use Rattle.common.specs.Sums.{sum_below}
use Rattle.common.proofs.Sums.{sum_below-member}
use Rattle.ortho_rep.specs.declared.turn_strings.Turn.{Turn}
use Rattle.faces.specs.Planes.{PlaneModel, HasEnds, darts, head, reverse_dart, face_at}
use Rattle.ortho_rep.specs.Turns.{lefts}
use Rattle.ortho_rep.specs.Prices.{IsAnglePriced, AreTurnsPriced, Prove}
use Rattle.ortho_rep.proofs.Priced.{plain_angle, plain_turns}

-- what the prices y of faces have with the representation (a, s)
pub record AreFacePrices (p : PlaneModel) (a : ℕ → ℕ) (s : ℕ → List Turn) (y : ℕ → ℕ) : Type 0 where
  -- across a dart the price is at most one more
  pub near : (d : ℕ) → d < darts p → y (face_at p (reverse_dart p d)) ≤ y (face_at p d) + 1
  -- and just one more where the dart turns left
  pub bent : (d : ℕ) → d < darts p → 0 < lefts (s d) → y (face_at p (reverse_dart p d)) ≡ y (face_at p d) + 1
  -- where an angle can grow, its face is no dearer than that of an angle at the same vertex that can shrink
  pub corner : (d e : ℕ) → d < darts p → e < darts p → head p d ≡ head p e → 1 < a d → a e < 4 → y (face_at p e) ≤ y (face_at p d)

-- the price z with so much added that it is not negative
abbrev shifted : ℕ → ℤ → ℕ
shifted low z = up z + (low - down z)

shifted-le : (low : ℕ) (x z : ℤ) → down x ≤ low → down z ≤ low → x ≤ℤ z → shifted low x ≤ shifted low z
shifted-le low x z b c h = omega (arith, ints)

shifted-near : (low : ℕ) (x z : ℤ) → down x ≤ low → down z ≤ low → pos 0 ≤ℤ (pos 1 +ℤ x -ℤ z) → shifted low z ≤ shifted low x + 1
shifted-near low x z b c h = omega (arith, ints)

shifted-bent : (low : ℕ) (x z : ℤ) → down x ≤ low → down z ≤ low → (pos 1 +ℤ x -ℤ z) ≡ pos 0 → shifted low z ≡ shifted low x + 1
shifted-bent low x z b c h = omega (arith, ints)

between : (x y z w : ℤ) → x ≤ℤ y → y ≡ z → z ≤ℤ w → x ≤ℤ w
between x y z w h e k = omega (arith, ints)

-- so much is enough for all faces
abbrev least_shift : PlaneModel → (ℕ → ℤ) → ℕ
least_shift p q = sum_below p.faces (λ f. down (q f))

pub face_prices : (p : PlaneModel) (a : ℕ → ℕ) (s : ℕ → List Turn) (v q : ℕ → ℤ) → HasEnds p → Prove p a s v q → (y : ℕ → ℕ) × AreFacePrices p a s y
face_prices p a s v q ends prove = (
  λ f. shifted (least_shift p q) (q f),
  record {
    near = λ d l. shifted-near (least_shift p q) (q (face_at p d)) (q (face_at p (reverse_dart p d))) (enough d l) (enough (reverse_dart p d) (ends.reverse_dart_in_range d l)) (turns d l).crossed;
    bent = λ d l some. shifted-bent (least_shift p q) (q (face_at p d)) (q (face_at p (reverse_dart p d))) (enough d l) (enough (reverse_dart p d) (ends.reverse_dart_in_range d l)) ((turns d l).tight some);
    corner = λ d e l m same more less.
        shifted-le (least_shift p q) (q (face_at p e)) (q (face_at p d)) (enough e m) (enough d l)
        (between (q (face_at p e)) (v (head p e)) (v (head p d)) (q (face_at p d)) ((angle e m).wider less) (ap v (sym same)) ((angle d l).narrower more));
  },
)
  where
    angle : (d : ℕ) → d < darts p → IsAnglePriced (a d) (v (head p d)) (q (face_at p d))
    angle d l = plain_angle p a s v q d (prove d l)

    turns : (d : ℕ) → d < darts p → AreTurnsPriced (s d) (q (face_at p d)) (q (face_at p (reverse_dart p d)))
    turns d l = plain_turns p a s v q d (prove d l)

    enough : (d : ℕ) → d < darts p → down (q (face_at p d)) ≤ least_shift p q
    enough d l = sum_below-member p.faces (face_at p d) (λ f. down (q f)) (ends.face_named d l)
