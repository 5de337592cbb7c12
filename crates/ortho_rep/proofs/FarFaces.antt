-- How far all vertices and faces are from the outer face bounds the bends of each representation.
use Rattle.std.proofs.Common.{◌≡◌, ◌≤◌, ◌<◌, ℕ, ◌+◌, ◌*◌, ◌-◌, Bool, true, false, cond, eqb, List, length, sym, ap, ◌∙◌, inl, inr, arith}
use Rattle.std.specs.Prelude.{ℤ, pos, negsuc, ◌-ℤ◌, slice_index}
use Rattle.std.proofs.lemmas.Bool.{cases_eq, ne_eqb, cond-false}
use Rattle.std.proofs.lemmas.Int.{ints}
use Rattle.std.proofs.Math.Nat.{mul-add, mul-le-mul_left}
use Rattle.common.specs.Sums.{sum_below}
use Rattle.common.proofs.Sums.{sum_below-same, sum_below-add, sum_below-le, sum_below-times, exchanged}
use Rattle.ortho_rep.specs.declared.turn_strings.Turn.{Turn}
use Rattle.faces.specs.Planes.{PlaneModel, HasEnds, darts, vertices, head, reverse_dart, face_at}
use Rattle.ortho_rep.specs.Turns.{lefts, rights}
use Rattle.ortho_rep.specs.Representation.{Rep, bends_of, whole_turn}
use Rattle.ortho_rep.specs.Best.{NeedsBends}
use Rattle.ortho_rep.specs.Distances.{AreSmooth, AreNear, excess_of_distances}
use Rattle.ortho_rep.proofs.WeakDuality.{weighed, part_at, paired, arranged, left_sums, right_sums, turning-split, lefts_of, rights_of, rights_are, lengths-twice}

-- what faces turn to the left, by their distances, is what they turn to the right and four for each
faces_turn : (p : PlaneModel) (a : ℕ → ℕ) (s : ℕ → List Turn) (w : ℕ → ℕ) → HasEnds p → Rep p a s → w p.outer ≡ 0 →
    weighed (darts p) (λ d. w (face_at p d)) (λ d. 2 + lefts (s d)) ≡ weighed (darts p) (λ d. w (face_at p d)) (λ d. a d + rights (s d)) + 4 * sum_below p.faces w
faces_turn p a s w ends rep none =
    let left_sum : sum_below p.faces (λ f. w f * left_sums p a s f) ≡ weighed (darts p) (λ d. w (face_at p d)) (λ d. 2 + lefts (s d)) = exchanged (darts p) p.faces (face_at p) (λ d. 2 + lefts (s d)) w ends.face_named in
    let right_sum : sum_below p.faces (λ f. w f * right_sums p a s f) ≡ weighed (darts p) (λ d. w (face_at p d)) (λ d. a d + rights (s d)) = exchanged (darts p) p.faces (face_at p) (λ d. a d + rights (s d)) w ends.face_named in
    let each : sum_below p.faces (λ f. w f * left_sums p a s f) ≡ sum_below p.faces (λ f. w f * right_sums p a s f + 4 * w f) =
    sum_below-same p.faces (λ f. w f * left_sums p a s f) (λ f. w f * right_sums p a s f + 4 * w f) (λ f b. here f b) in
    omega (arith, left_sum, right_sum, each, sum_below-add p.faces (λ f. w f * right_sums p a s f) (λ f. 4 * w f), sum_below-times p.faces 4 w)
  where
    by_four : (x y z : ℕ) → y ≡ z + 4 → x * y ≡ x * z + 4 * x
    by_four x y z e = rw e (omega arith)

    inner : (f : ℕ) → (c : Bool) → c ≡ false → (x y : ℕ) → pos x -ℤ pos y ≡ cond c (negsuc 3) (pos 4) → x ≡ y + 4
    inner f true e x y h = absurd (cc)
    inner f false e x y h = omega (arith, ints, h)

    here : (f : ℕ) → f < p.faces → w f * left_sums p a s f ≡ w f * right_sums p a s f + 4 * w f
    here f b =
        elim (cases_eq f p.outer) [
          | inl e ↦
              let zero : w f ≡ 0 = ap w e ∙ none in
              rw zero (omega arith)
          | inr ne ↦
              by_four (w f) (left_sums p a s f) (right_sums p a s f)
              (inner f (eqb f p.outer) (ne_eqb f p.outer ne) (left_sums p a s f) (right_sums p a s f) (sym (turning-split p a s f) ∙ rep.faces f b))
        ]

-- the angles at all vertices, by their distances
vertices_turn : (p : PlaneModel) (a : ℕ → ℕ) (s : ℕ → List Turn) (m : ℕ → ℕ) → HasEnds p → Rep p a s → m 0 ≡ 0 →
    weighed (darts p) (λ d. m (head p d)) a ≡ 4 * sum_below (vertices p + 1) m
vertices_turn p a s m ends rep none =
    let n = vertices p + 1 in
    let all : sum_below n (λ v. m v * part_at (darts p) (head p) a v) ≡ weighed (darts p) (λ d. m (head p d)) a = exchanged (darts p) n (head p) a m (λ d b. omega (arith, ends.head_to d b)) in
    let each : sum_below n (λ v. m v * part_at (darts p) (head p) a v) ≡ sum_below n (λ v. 4 * m v) =
    sum_below-same n (λ v. m v * part_at (darts p) (head p) a v) (λ v. 4 * m v) (λ v b. here v b) in
    omega (arith, all, each, sum_below-times n 4 m)
  where
    by_four : (x y : ℕ) → y ≡ 4 → x * y ≡ 4 * x
    by_four x y e = rw e (omega arith)

    here : (v : ℕ) → v < vertices p + 1 → m v * part_at (darts p) (head p) a v ≡ 4 * m v
    here v b =
        elim (cases_eq v 0) [
          | inl e ↦
              let zero : m v ≡ 0 = ap m e ∙ none in
              rw zero (omega arith)
          | inr ne ↦ by_four (m v) (part_at (darts p) (head p) a v) (rep.around v (omega arith) (omega arith))
        ]

-- at a corner, what is further away than the vertex is counted once for each right angle beyond the first
corner : (x y a : ℕ) → y ≤ x → 1 ≤ a → y * a + x ≤ x * a + y
corner x y a near some = omega (arith, arranged 1 a x y (λ more. near) (λ less. absurd (omega arith)))

-- at an edge, what lies on the one side is at most one edge further away than on the other
crossing : (x y l : ℕ) → x ≤ y + 1 → x * l ≤ y * l + l
crossing x y l smooth = omega (arith, mul-le-mul_left l smooth)

-- so at least as many edges bend
pub needs_distances : (p : PlaneModel) (far near : List ℕ) → HasEnds p → slice_index far p.outer ≡ 0 → slice_index near 0 ≡ 0 → AreSmooth p far → AreNear p far near → NeedsBends p (excess_of_distances p far near)
needs_distances p far near ends outer none smooth is_near = λ a s rep.
    let n = darts p in
    let w = slice_index far in
    let m = slice_index near in
    let own = λ (d : ℕ). w (face_at p d) in
    let over = λ (d : ℕ). w (face_at p (reverse_dart p d)) in
    let at_head = λ (d : ℕ). m (head p d) in
    let corners : sum_below n (λ d. at_head d * a d + own d) ≤ sum_below n (λ d. own d * a d + at_head d) =
    sum_below-le n (λ d. at_head d * a d + own d) (λ d. own d * a d + at_head d) (λ d b. corner (own d) (at_head d) (a d) (is_near d b) (rep.angles d b).0) in
    let crossings : sum_below n (λ d. own d * lefts_of s d) ≤ sum_below n (λ d. over d * lefts_of s d + lefts_of s d) =
    sum_below-le n (λ d. own d * lefts_of s d) (λ d. over d * lefts_of s d + lefts_of s d) (λ d b. crossing (own d) (over d) (lefts_of s d) (smooth d b)) in
    let back : weighed n over (lefts_of s) ≡ weighed n own (λ d. lefts_of s (reverse_dart p d)) = paired n (reverse_dart p) own (lefts_of s) ends.reverse_dart_in_range ends.reverse_dart_back in
    let rights_here : sum_below n (λ d. own d * rights (s d)) ≡ weighed n own (λ d. lefts_of s (reverse_dart p d)) =
    sum_below-same n (λ d. own d * rights (s d)) (λ d. own d * lefts_of s (reverse_dart p d)) (λ d b. ap (λ (z : ℕ). own d * z) (rights_are p a s rep d b)) in
    let left_sum : weighed n own (λ d. 2 + lefts (s d)) ≡ sum_below n (λ d. 2 * own d) + sum_below n (λ d. own d * lefts_of s d) =
    sum_below-same n (λ d. own d * (2 + lefts (s d))) (λ d. 2 * own d + own d * lefts_of s d) (λ d b. omega arith) ∙ sum_below-add n (λ d. 2 * own d) (λ d. own d * lefts_of s d) in
    let right_sum : weighed n own (λ d. a d + rights (s d)) ≡ sum_below n (λ d. own d * a d) + sum_below n (λ d. own d * rights (s d)) =
    sum_below-same n (λ d. own d * (a d + rights (s d))) (λ d. own d * a d + own d * rights (s d)) (λ d b. omega arith) ∙ sum_below-add n (λ d. own d * a d) (λ d. own d * rights (s d)) in
    omega (
      arith,
      faces_turn p a s w ends rep outer,
      vertices_turn p a s m ends rep none,
      corners,
      crossings,
      back,
      rights_here,
      left_sum,
      right_sum,
      sum_below-add n (λ d. at_head d * a d) own,
      sum_below-add n (λ d. own d * a d) at_head,
      sum_below-add n (λ d. over d * lefts_of s d) (lefts_of s),
      sum_below-times n 2 own,
      sum_below-add n own at_head,
      lengths-twice p a s ends rep,
    )
