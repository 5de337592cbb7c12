-- The bends in terms of the prices of faces: each bend leads one price up, and what a face takes in by bends its
-- corners give back.
use Rattle.std.proofs.Common.{◌≡◌, ◌<◌, ℕ, ◌+◌, ◌*◌, Bool, true, false, cond, eqb, List, inl, inr, sym, ap, ◌∙◌, subst, arith}
use Rattle.std.specs.Prelude.{ℤ, pos, negsuc, ◌-ℤ◌}
use Rattle.std.proofs.lemmas.Bool.{cases_eq, eq-eqb, ne_eqb, cond-true, cond-false}
use Rattle.std.proofs.lemmas.Int.{ints}
use Rattle.common.specs.Sums.{sum_below}
use Rattle.common.proofs.Sums.{sum_below-same, sum_below-add, sum_below-one, sum_below-times, exchanged}
use Rattle.ortho_rep.specs.declared.turn_strings.Turn.{Turn}
use Rattle.faces.specs.Planes.{PlaneModel, IsPlane, HasEnds, darts, reverse_dart, face_at}
use Rattle.ortho_rep.specs.Turns.{lefts, rights}
use Rattle.ortho_rep.specs.Representation.{Rep, whole_turn}
use Rattle.ortho_rep.proofs.WeakDuality.{weighed, paired, left_sums, right_sums, turning-split, lefts_of, rights_are}
use Rattle.drawing_laws.proofs.Shifted.{AreFacePrices}

-- eight quarter turns at the outer face
abbrev eight_at : PlaneModel → ℕ → ℕ
eight_at p f = cond (eqb p.outer f) 8 0

-- round each face the turns to the left are four more than those to the right, round the outer face four less
turned : (p : PlaneModel) (a : ℕ → ℕ) (s : ℕ → List Turn) → Rep p a s → (f : ℕ) → f < p.faces → left_sums p a s f + eight_at p f ≡ right_sums p a s f + 4
turned p a s rep f l =
    let turns : pos (left_sums p a s f) -ℤ pos (right_sums p a s f) ≡ whole_turn p f = sym (turning-split p a s f) ∙ rep.faces f l in
    elim (cases_eq f p.outer) [
      | inl e ↦
          let outer : whole_turn p f ≡ negsuc 3 = cond-true {A = ℤ} (eqb f p.outer) (negsuc 3) (pos 4) (eq-eqb f p.outer e) in
          less (left_sums p a s f) (right_sums p a s f) (eight_at p f) (turns ∙ outer) (cond-true {A = ℕ} (eqb p.outer f) 8 0 (eq-eqb p.outer f (sym e)))
      | inr ne ↦
          let inner : whole_turn p f ≡ pos 4 = cond-false {A = ℤ} (eqb f p.outer) (negsuc 3) (pos 4) (ne_eqb f p.outer ne) in
          more (left_sums p a s f) (right_sums p a s f) (eight_at p f) (turns ∙ inner) (cond-false {A = ℕ} (eqb p.outer f) 8 0 (ne_eqb p.outer f (λ q. ne (sym q))))
    ]
  where
    less : (g l c : ℕ) → pos g -ℤ pos l ≡ negsuc 3 → c ≡ 8 → g + c ≡ l + 4
    less g l c h e = omega (arith, ints)

    more : (g l c : ℕ) → pos g -ℤ pos l ≡ pos 4 → c ≡ 0 → g + c ≡ l + 4
    more g l c h e = omega (arith, ints)

-- the same of all faces, each weighed by its price
weighed_faces : (p : PlaneModel) (a : ℕ → ℕ) (s : ℕ → List Turn) (y : ℕ → ℕ) → IsPlane p → HasEnds p → Rep p a s
    → weighed (darts p) (λ d. y (face_at p d)) (λ d. 2 + lefts (s d)) + 8 * y p.outer ≡ weighed (darts p) (λ d. y (face_at p d)) (λ d. a d + rights (s d)) + 4 * sum_below p.faces y
weighed_faces p a s y plane ends rep =
    let left_sum : sum_below p.faces (λ f. y f * left_sums p a s f) ≡ weighed (darts p) (λ d. y (face_at p d)) (λ d. 2 + lefts (s d)) = exchanged (darts p) p.faces (face_at p) (λ d. 2 + lefts (s d)) y ends.face_named in
    let right_sum : sum_below p.faces (λ f. y f * right_sums p a s f) ≡ weighed (darts p) (λ d. y (face_at p d)) (λ d. a d + rights (s d)) = exchanged (darts p) p.faces (face_at p) (λ d. a d + rights (s d)) y ends.face_named in
    let each : sum_below p.faces (λ f. y f * left_sums p a s f + cond (eqb p.outer f) (8 * y f) 0) ≡ sum_below p.faces (λ f. y f * right_sums p a s f + 4 * y f) =
    sum_below-same p.faces (λ f. y f * left_sums p a s f + cond (eqb p.outer f) (8 * y f) 0) (λ f. y f * right_sums p a s f + 4 * y f)
    (λ f l. scaled (y f) (left_sums p a s f) (right_sums p a s f) (eqb p.outer f) (turned p a s rep f l)) in
    omega (
      arith,
      left_sum,
      right_sum,
      each,
      sum_below-add p.faces (λ f. y f * left_sums p a s f) (λ f. cond (eqb p.outer f) (8 * y f) 0),
      sum_below-one p.faces p.outer (λ f. 8 * y f) plane.outer,
      sum_below-add p.faces (λ f. y f * right_sums p a s f) (λ f. 4 * y f),
      sum_below-times p.faces 4 y,
    )
  where
    scaled : (z g l : ℕ) (c : Bool) → g + cond c 8 0 ≡ l + 4 → z * g + cond c (8 * z) 0 ≡ z * l + 4 * z
    scaled z g l true h = omega (arith, ap (λ (x : ℕ). z * x) h)
    scaled z g l false h = omega (arith, ap (λ (x : ℕ). z * x) h)

-- a bend leads to a face that is dearer by one
bends_across : (p : PlaneModel) (a : ℕ → ℕ) (s : ℕ → List Turn) (y : ℕ → ℕ) → HasEnds p → Rep p a s → AreFacePrices p a s y
    → sum_below (darts p) (λ d. y (face_at p d) * rights (s d)) ≡ sum_below (darts p) (λ d. y (face_at p d) * lefts (s d)) + sum_below (darts p) (lefts_of s)
bends_across p a s y ends rep prices =
    let n : ℕ = darts p in
    let own : ℕ → ℕ = λ d. y (face_at p d) in
    let over : ℕ → ℕ = λ d. y (face_at p (reverse_dart p d)) in
    let back : weighed n over (lefts_of s) ≡ weighed n own (λ d. lefts_of s (reverse_dart p d)) = paired n (reverse_dart p) own (lefts_of s) ends.reverse_dart_in_range ends.reverse_dart_back in
    let here : sum_below n (λ d. own d * rights (s d)) ≡ weighed n own (λ d. lefts_of s (reverse_dart p d)) =
    sum_below-same n (λ d. own d * rights (s d)) (λ d. own d * lefts_of s (reverse_dart p d)) (λ d l. ap (λ (z : ℕ). own d * z) (rights_are p a s rep d l)) in
    let up : weighed n over (lefts_of s) ≡ sum_below n (λ d. own d * lefts (s d) + lefts_of s d) =
    sum_below-same n (λ d. over d * lefts_of s d) (λ d. own d * lefts (s d) + lefts_of s d) (λ d l. one_more (over d) (own d) (lefts (s d)) (prices.bent d l)) in
    here ∙ sym back ∙ up ∙ sum_below-add n (λ d. own d * lefts (s d)) (lefts_of s)
  where
    one_more : (x z c : ℕ) → (0 < c → x ≡ z + 1) → x * c ≡ z * c + c
    one_more x z c h =
        elim (cases_eq c 0) [
          | inl e ↦ subst (λ (b : ℕ). x * b ≡ z * b + b) (sym e) (omega arith)
          | inr ne ↦ omega (arith, ap (λ (b : ℕ). b * c) (h (omega arith)))
        ]

-- what faces turn by the prices is what the bends are, and what the angles take
pub balanced : (p : PlaneModel) (a : ℕ → ℕ) (s : ℕ → List Turn) (y : ℕ → ℕ) → IsPlane p → HasEnds p → Rep p a s → AreFacePrices p a s y
    → 2 * sum_below (darts p) (λ d. y (face_at p d)) + 8 * y p.outer
    ≡ sum_below (darts p) (λ d. y (face_at p d) * a d) + sum_below (darts p) (lefts_of s) + 4 * sum_below p.faces y
balanced p a s y plane ends rep prices =
    let n : ℕ = darts p in
    let own : ℕ → ℕ = λ d. y (face_at p d) in
    let left_sum : weighed n own (λ d. 2 + lefts (s d)) ≡ sum_below n (λ d. 2 * own d) + sum_below n (λ d. own d * lefts (s d)) =
    sum_below-same n (λ d. own d * (2 + lefts (s d))) (λ d. 2 * own d + own d * lefts (s d)) (λ d l. omega arith) ∙ sum_below-add n (λ d. 2 * own d) (λ d. own d * lefts (s d)) in
    let right_sum : weighed n own (λ d. a d + rights (s d)) ≡ sum_below n (λ d. own d * a d) + sum_below n (λ d. own d * rights (s d)) =
    sum_below-same n (λ d. own d * (a d + rights (s d))) (λ d. own d * a d + own d * rights (s d)) (λ d l. omega arith) ∙ sum_below-add n (λ d. own d * a d) (λ d. own d * rights (s d)) in
    omega (arith, weighed_faces p a s y plane ends rep, left_sum, right_sum, bends_across p a s y ends rep prices, sum_below-times n 2 own)
