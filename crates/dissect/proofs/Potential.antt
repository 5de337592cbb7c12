-- What each dart's string and corners ask of the directions at its ends, and that round each face it sums to a multiple of four.
use Rattle.std.proofs.Common.{◌≡◌, ◌<◌, ℕ, ◌+◌, ◌*◌, ◌%◌, Bool, true, false, cond, eqb, List, sym, ap, ◌∙◌, arith}
use Rattle.std.specs.Prelude.{pos, negsuc, ◌+ℤ◌, ◌-ℤ◌}
use Rattle.std.proofs.lemmas.Int.{ints}
use Rattle.common.proofs.Sums.{total_below-parts}
use Rattle.faces.specs.Planes.{PlaneModel, IsPlane, HasEnds, darts, reverse_dart, next, face_at}
use Rattle.ortho_rep.specs.declared.turn_strings.Turn.{Turn}
use Rattle.ortho_rep.specs.Turns.{lefts, rights, mirrored}
use Rattle.ortho_rep.specs.Representation.{Rep, turning_of, turning_around}
use Rattle.ortho_rep.proofs.TurnCounts.{lefts-mirrored, lefts-add-rights}
use Rattle.ortho_rep.proofs.Mirrors.{length-mirrored}
use Rattle.dissect.proofs.Reordered.{sum_at, sum_at-add, sum_at-times, sum_at-four, reordered_at}
use Rattle.dissect.proofs.Corners.{lacks, lacks_next}

rights-mirrored : (ts : List Turn) → rights (mirrored ts) ≡ lefts ts
rights-mirrored ts =
    omega (arith, lefts-add-rights (mirrored ts), lefts-add-rights ts, length-mirrored ts, lefts-mirrored ts)

-- what the direction at the head of a dart has beyond that at its tail, up to multiples of four
abbrev pub gap : PlaneModel → (ℕ → ℕ) → (ℕ → List Turn) → ℕ → ℕ
gap p a s d = lacks p a d + 2 + lefts (s d) + 3 * (rights (s d) + lacks p a (reverse_dart p d))

-- the reverse has as much less
pub gap_pairs : (p : PlaneModel) (a : ℕ → ℕ) (s : ℕ → List Turn) → HasEnds p → Rep p a s → (d : ℕ) → d < darts p → (gap p a s d + gap p a s (reverse_dart p d)) % 4 ≡ 0
gap_pairs p a s ends rep d l =
    let mirror : s (reverse_dart p d) ≡ mirrored (s d) = rep.strings d l in
    close (lacks p a d) (lacks p a (reverse_dart p d)) (lacks p a (reverse_dart p (reverse_dart p d))) (lefts (s d)) (rights (s d)) (lefts (s (reverse_dart p d))) (rights (s (reverse_dart p d)))
    (ap (lacks p a) (ends.reverse_dart_back d l)) (ap lefts mirror ∙ lefts-mirrored (s d)) (ap rights mirror ∙ rights-mirrored (s d))
  where
    close : (x y z l r l' r' : ℕ) → z ≡ x → l' ≡ r → r' ≡ l → (x + 2 + l + 3 * (r + y) + (y + 2 + l' + 3 * (r' + z))) % 4 ≡ 0
    close x y z l r l' r' e1 e2 e3 = omega arith

-- the left turns that a dart gives its face, and the right turns
abbrev left_part : (ℕ → List Turn) → ℕ → ℕ
left_part s d = 2 + lefts (s d)

abbrev right_part : (ℕ → ℕ) → (ℕ → List Turn) → ℕ → ℕ
right_part a s d = a d + rights (s d)

turning_parts : (p : PlaneModel) (a : ℕ → ℕ) (s : ℕ → List Turn) (f : ℕ)
    → turning_around p a s f ≡ pos (sum_at (darts p) (face_at p) f (left_part s)) -ℤ pos (sum_at (darts p) (face_at p) f (right_part a s))
turning_parts p a s f =
    total_below-parts (darts p) (λ d. cond (eqb (face_at p d) f) (turning_of (a d) (s d)) (pos 0))
    (λ d. cond (eqb (face_at p d) f) (left_part s d) 0) (λ d. cond (eqb (face_at p d) f) (right_part a s d) 0)
    (λ d l. parts (eqb (face_at p d) f) (a d) (lefts (s d)) (rights (s d)))
  where
    parts : (b : Bool) (x y z : ℕ) → cond b (pos 2 -ℤ pos x +ℤ pos y -ℤ pos z) (pos 0) ≡ pos (cond b (2 + y) 0) -ℤ pos (cond b (x + z) 0)
    parts true x y z = omega (arith, ints)
    parts false x y z = omega (arith, ints)

-- a face turns once round
turning_whole : (p : PlaneModel) (a : ℕ → ℕ) (s : ℕ → List Turn) → Rep p a s → (f : ℕ) → f < p.faces
    → (sum_at (darts p) (face_at p) f (left_part s) + 3 * sum_at (darts p) (face_at p) f (right_part a s)) % 4 ≡ 0
turning_whole p a s rep f l =
    whole (eqb f p.outer) (sum_at (darts p) (face_at p) f (left_part s)) (sum_at (darts p) (face_at p) f (right_part a s))
    (sym (turning_parts p a s f) ∙ rep.faces f l)
  where
    inner : (x y : ℕ) → pos x -ℤ pos y ≡ pos 4 → (x + 3 * y) % 4 ≡ 0
    inner x y e = let sum : x ≡ y + 4 = omega (arith, ints) in omega arith

    outer : (x y : ℕ) → pos x -ℤ pos y ≡ negsuc 3 → (x + 3 * y) % 4 ≡ 0
    outer x y e = let sum : y ≡ x + 4 = omega (arith, ints) in omega arith

    whole : (b : Bool) (x y : ℕ) → pos x -ℤ pos y ≡ cond b (negsuc 3) (pos 4) → (x + 3 * y) % 4 ≡ 0
    whole true x y e = outer x y e
    whole false x y e = inner x y e

-- the same number up to multiples of four, by the corners along the face
along_face : (p : PlaneModel) (a : ℕ → ℕ) (s : ℕ → List Turn) → HasEnds p → Rep p a s → (d : ℕ) → d < darts p
    → gap p a s d % 4 ≡ (lacks p a d + 3 * lacks p a (next p d) + (left_part s d + 3 * right_part a s d)) % 4
along_face p a s ends rep d l =
    close (lacks p a d) (lacks p a (next p d)) (lacks p a (reverse_dart p d)) (a d) (lefts (s d)) (rights (s d)) (lacks_next p a ends rep.angles rep.around d l)
  where
    close : (x y z b m r : ℕ) → (y + b) % 4 ≡ z % 4 → (x + 2 + m + 3 * (r + z)) % 4 ≡ (x + 3 * y + (2 + m + 3 * (b + r))) % 4
    close x y z b m r e = omega arith

-- round a face it sums to a multiple of four
pub gap_round : (p : PlaneModel) (a : ℕ → ℕ) (s : ℕ → List Turn) → IsPlane p → HasEnds p → Rep p a s → (f : ℕ) → f < p.faces
    → sum_at (darts p) (face_at p) f (gap p a s) % 4 ≡ 0
gap_round p a s plane ends rep f l =
    let n : ℕ = darts p in
    let at : ℕ → ℕ = face_at p in
    let here : ℕ → ℕ = lacks p a in
    let ahead : ℕ → ℕ = λ d. lacks p a (next p d) in
    let corners : ℕ → ℕ = λ d. here d + 3 * ahead d in
    let turns : ℕ → ℕ = λ d. left_part s d + 3 * right_part a s d in
    let whole : sum_at n at f (gap p a s) % 4 ≡ sum_at n at f (λ d. corners d + turns d) % 4 =
    sum_at-four n at f (gap p a s) (λ d. corners d + turns d) (λ d h. along_face p a s ends rep d h) in
    let first : sum_at n at f (λ d. corners d + turns d) ≡ sum_at n at f corners + sum_at n at f turns = sum_at-add n at f corners turns in
    let second : sum_at n at f corners ≡ sum_at n at f here + sum_at n at f (λ d. 3 * ahead d) = sum_at-add n at f here (λ d. 3 * ahead d) in
    let third : sum_at n at f (λ d. 3 * ahead d) ≡ 3 * sum_at n at f ahead = sum_at-times n at f 3 ahead in
    let fourth : sum_at n at f turns ≡ sum_at n at f (left_part s) + sum_at n at f (λ d. 3 * right_part a s d) = sum_at-add n at f (left_part s) (λ d. 3 * right_part a s d) in
    let fifth : sum_at n at f (λ d. 3 * right_part a s d) ≡ 3 * sum_at n at f (right_part a s) = sum_at-times n at f 3 (right_part a s) in
    let moved : sum_at n at f ahead ≡ sum_at n at f here = reordered_at n (next p) at f here ends.next_one plane.faces.closed in
    close (sum_at n at f (gap p a s)) (sum_at n at f (λ d. corners d + turns d)) (sum_at n at f corners) (sum_at n at f turns) (sum_at n at f here) (sum_at n at f (λ d. 3 * ahead d)) (sum_at n at f ahead)
    (sum_at n at f (left_part s)) (sum_at n at f (λ d. 3 * right_part a s d)) (sum_at n at f (right_part a s))
    whole first second third fourth fifth moved (turning_whole p a s rep f l)
  where
    close : (t u c e h k m x y z : ℕ) → t % 4 ≡ u % 4 → u ≡ c + e → c ≡ h + k → k ≡ 3 * m → e ≡ x + y → y ≡ 3 * z → m ≡ h → (x + 3 * z) % 4 ≡ 0 → t % 4 ≡ 0
    close t u c e h k m x y z e1 e2 e3 e4 e5 e6 e7 e8 = omega arith
