-- The price of the dearest face at each vertex: what the angles beyond right ones are worth.
use Rattle.std.proofs.Common.{◌≡◌, ◌≢◌, ◌≤◌, ◌<◌, ◌⊎◌, ℕ, zero, suc, ◌+◌, ◌-◌, ◌*◌, max, Bool, cond, eqb, List, inl, inr, refl, sym, ap, ◌∙◌, subst, arith}
use Rattle.std.proofs.lemmas.Bool.{cases_eq, cases_lt, eq-eqb, ne_eqb, cond-true, cond-false}
use Rattle.common.specs.Sums.{sum_below}
use Rattle.common.proofs.Sums.{sum_below-same, sum_below-add, sum_below-member, sum_below-times, exchanged}
use Rattle.ortho_rep.specs.declared.turn_strings.Turn.{Turn}
use Rattle.faces.specs.Faces.{steps}
use Rattle.faces.specs.Planes.{PlaneModel, IsPlane, HasEnds, darts, vertices, head, tail, reverse_dart, next, face_at}
use Rattle.faces.proofs.Sets.{one_orbit}
use Rattle.ortho_rep.specs.Representation.{Rep}
use Rattle.drawing_laws.proofs.Shifted.{AreFacePrices}
use Rattle.drawing_laws.proofs.CornerPrices.{near_tail}

-- ---- the greatest of several numbers

-- the greatest of f 0 to f (n - 1), or 0
abbrev greatest_below : ℕ → (ℕ → ℕ) → ℕ
greatest_below zero f = 0
greatest_below (suc n) f = max (greatest_below n f) (f n)

greatest-member : (n a : ℕ) (f : ℕ → ℕ) → a < n → f a ≤ greatest_below n f
greatest-member zero a f l = absurd (omega arith)
greatest-member (suc n) a f l =
    elim (cases_eq a n) [
      | inl e ↦ omega (arith, ap f e)
      | inr ne ↦ omega (arith, greatest-member n a f (omega arith))
    ]

-- it is one of them, or 0
greatest-one : (n : ℕ) (f : ℕ → ℕ) → (greatest_below n f ≡ 0) ⊎ ((a : ℕ) × (a < n) × (greatest_below n f ≡ f a))
greatest-one zero f = inl refl
greatest-one (suc n) f =
    elim (cases_lt (greatest_below n f) (f n)) [
      | inl more ↦ inr (n, omega arith, omega arith)
      | inr less ↦ elim (greatest-one n f) [
        | inl none ↦ inl (omega arith)
        | inr some ↦ inr (some.0, omega (arith, some.1), omega (arith, some.2))
      ]
    ]

-- ---- the dearest face at a vertex

-- the price of the face of a dart that comes from vertex k + 1
abbrev price_from : PlaneModel → (ℕ → ℕ) → ℕ → ℕ → ℕ
price_from p y k d = cond (eqb (tail p d - 1) k) (y (face_at p d)) 0

-- the price of the dearest face at vertex k + 1
abbrev pub dearest : PlaneModel → (ℕ → ℕ) → ℕ → ℕ
dearest p y k = greatest_below (darts p) (price_from p y k)

-- no face at the tail of a dart is dearer
pub dearest-from : (p : PlaneModel) (y : ℕ → ℕ) (d : ℕ) → d < darts p → y (face_at p d) ≤ dearest p y (tail p d - 1)
dearest-from p y d l =
    omega (
      arith,
      greatest-member (darts p) d (price_from p y (tail p d - 1)) l,
      cond-true {A = ℕ} (eqb (tail p d - 1) (tail p d - 1)) (y (face_at p d)) 0 (eq-eqb (tail p d - 1) (tail p d - 1) refl),
    )

-- and none at its head
pub dearest-to : (p : PlaneModel) (y : ℕ → ℕ) → IsPlane p → HasEnds p → (d : ℕ) → d < darts p → y (face_at p d) ≤ dearest p y (head p d - 1)
dearest-to p y plane ends d l =
    omega (
      arith,
      dearest-from p y (next p d) (ends.next_one.inside d l),
      ap y (plane.faces.closed d l),
      ap (λ (v : ℕ). dearest p y (v - 1)) (ends.next_tail d l),
    )

-- some dart from the vertex has that face, or the price is 0
dearest-one : (p : PlaneModel) (y : ℕ → ℕ) → HasEnds p → (v : ℕ) → 1 ≤ v → (dearest p y (v - 1) ≡ 0) ⊎ ((e : ℕ) × (e < darts p) × (tail p e ≡ v) × (dearest p y (v - 1) ≡ y (face_at p e)))
dearest-one p y ends v some =
    elim (greatest-one (darts p) (price_from p y (v - 1))) [
      | inl none ↦ inl none
      | inr found ↦ elim (cases_eq (tail p found.0 - 1) (v - 1)) [
        | inl e ↦ inr (
          found.0,
          found.1,
          omega (arith, e, ends.tail_from found.0 found.1),
          found.2 ∙ cond-true {A = ℕ} (eqb (tail p found.0 - 1) (v - 1)) (y (face_at p found.0)) 0 (eq-eqb (tail p found.0 - 1) (v - 1) e),
        )
        | inr ne ↦ inl (found.2 ∙ cond-false {A = ℕ} (eqb (tail p found.0 - 1) (v - 1)) (y (face_at p found.0)) 0 (ne_eqb (tail p found.0 - 1) (v - 1) ne))
      ]
    ]

-- where the two faces of a dart have prices of at most w, that of the dearest face at its tail is at most w + 1
pub dearest-near : (p : PlaneModel) (a : ℕ → ℕ) (s : ℕ → List Turn) (y : ℕ → ℕ) → IsPlane p → HasEnds p → AreFacePrices p a s y
    → (d w : ℕ) → d < darts p → y (face_at p d) ≤ w → y (face_at p (reverse_dart p d)) ≤ w → dearest p y (tail p d - 1) ≤ w + 1
dearest-near p a s y plane ends prices d w l here across =
    elim (dearest-one p y ends (tail p d) (ends.tail_from d l)) [
      | inl none ↦ omega (arith, none)
      | inr (e, m, same, is) ↦ omega (arith, is, near_tail p a s y plane ends prices d e w l m same here across)
    ]

-- ---- angles beyond right ones

-- the dart before another one of its face
before : (n : ℕ) (next : ℕ → ℕ) → ((d : ℕ) → d < n → next d < n) → (k e : ℕ) → e < n → steps next k (next e) ≡ e → (x : ℕ) × (x < n) × (next x ≡ e)
before n next inside zero e l same = (e, l, same)
before n next inside (suc k) e l same = (steps next k (next e), below k, same)
  where
    below : (k : ℕ) → steps next k (next e) < n
    below zero = inside e l
    below (suc k) = inside (steps next k (next e)) (below k)

-- two summands are together no more than the sum
two_members : (n a b : ℕ) (f : ℕ → ℕ) → a < n → b < n → a ≢ b → f a + f b ≤ sum_below n f
two_members zero a b f l m ne = absurd (omega arith)
two_members (suc n) a b f l m ne =
    elim (cases_eq a n) [
      | inl e ↦ omega (arith, ap f e, sum_below-member n b f (omega arith))
      | inr other ↦ elim (cases_eq b n) [
        | inl e ↦ omega (arith, ap f e, sum_below-member n a f (omega arith))
        | inr other' ↦ omega (arith, two_members n a b f (omega arith) (omega arith) ne)
      ]
    ]

-- two angles at one vertex are together at most four right ones
two_angles : (p : PlaneModel) (a : ℕ → ℕ) (s : ℕ → List Turn) → HasEnds p → Rep p a s → (d e : ℕ) → d < darts p → e < darts p → head p e ≡ head p d → d ≢ e → a d + a e ≤ 4
two_angles p a s ends rep d e l m same ne =
    let v = head p d in
    let at : ℕ → ℕ = λ i. cond (eqb (head p i) v) (a i) 0 in
    let four : sum_below (darts p) at ≡ 4 = rep.around v (ends.head_from d l) (ends.head_to d l) in
    omega (
      arith,
      four,
      two_members (darts p) d e at l m ne,
      cond-true {A = ℕ} (eqb (head p d) v) (a d) 0 (eq-eqb (head p d) v refl),
      cond-true {A = ℕ} (eqb (head p e) v) (a e) 0 (eq-eqb (head p e) v same),
    )

-- an angle beyond a right one lies in the dearest face
wide_dearest : (p : PlaneModel) (a : ℕ → ℕ) (s : ℕ → List Turn) (y : ℕ → ℕ) → IsPlane p → HasEnds p → Rep p a s → AreFacePrices p a s y
    → (d : ℕ) → d < darts p → 1 < a d → y (face_at p d) ≡ dearest p y (head p d - 1)
wide_dearest p a s y plane ends rep prices d l wide =
    elim (dearest-one p y ends (head p d) (ends.head_from d l)) [
      | inl none ↦ omega (arith, none, dearest-to p y plane ends d l)
      | inr (e, m, same, is) ↦
          let (k, led) = one_orbit (darts p) (next p) (face_at p) p.faces plane.faces ends.next_one.inside (next p e) e (ends.next_one.inside e m) m (plane.faces.closed e m) in
          let (x, x_in, leads) = before (darts p) (next p) ends.next_one.inside k e m led in
          let face : y (face_at p x) ≡ y (face_at p e) = ap y (sym (plane.faces.closed x x_in) ∙ ap (face_at p) leads) in
          let meets : head p x ≡ head p d = sym (ends.next_tail x x_in) ∙ ap (tail p) leads ∙ same in
          omega (arith, is, face, dearest-to p y plane ends d l, no_dearer x x_in meets)
    ]
  where
    no_dearer : (x : ℕ) → x < darts p → head p x ≡ head p d → y (face_at p x) ≤ y (face_at p d)
    no_dearer x x_in meets =
        elim (cases_eq d x) [
          | inl e ↦ omega (arith, ap (λ (i : ℕ). y (face_at p i)) e)
          | inr ne ↦ prices.corner d x l x_in (sym meets) wide (omega (arith, two_angles p a s ends rep d x l x_in meets ne))
        ]

-- so what angles have beyond right ones is worth the same at the dearest faces
pub angles_worth : (p : PlaneModel) (a : ℕ → ℕ) (s : ℕ → List Turn) (y : ℕ → ℕ) → IsPlane p → HasEnds p → Rep p a s → AreFacePrices p a s y
    → sum_below (darts p) (λ d. y (face_at p d) * a d) + sum_below (darts p) (λ d. dearest p y (head p d - 1))
    ≡ sum_below (darts p) (λ d. dearest p y (head p d - 1) * a d) + sum_below (darts p) (λ d. y (face_at p d))
angles_worth p a s y plane ends rep prices =
    sym (sum_below-add (darts p) (λ d. y (face_at p d) * a d) (λ d. dearest p y (head p d - 1)))
    ∙ sum_below-same (darts p) (λ d. y (face_at p d) * a d + dearest p y (head p d - 1)) (λ d. dearest p y (head p d - 1) * a d + y (face_at p d)) each
    ∙ sum_below-add (darts p) (λ d. dearest p y (head p d - 1) * a d) (λ d. y (face_at p d))
  where
    right_or_same : (x m b : ℕ) → (b ≡ 1) ⊎ (x ≡ m) → x * b + m ≡ m * b + x
    right_or_same x m b (inl e) = subst (λ (c : ℕ). x * c + m ≡ m * c + x) (sym e) (omega arith)
    right_or_same x m b (inr e) = subst (λ (c : ℕ). c * b + m ≡ m * b + c) (sym e) refl

    each : (d : ℕ) → d < darts p → y (face_at p d) * a d + dearest p y (head p d - 1) ≡ dearest p y (head p d - 1) * a d + y (face_at p d)
    each d l =
        right_or_same (y (face_at p d)) (dearest p y (head p d - 1)) (a d) (elim (cases_lt 1 (a d)) [
          | inl wide ↦ inr (wide_dearest p a s y plane ends rep prices d l wide)
          | inr narrow ↦ inl (omega (arith, (rep.angles d l).0))
        ])

-- the angles at each vertex are four right ones
pub four_each : (p : PlaneModel) (a : ℕ → ℕ) (s : ℕ → List Turn) → HasEnds p → Rep p a s → (m : ℕ → ℕ)
    → sum_below (darts p) (λ d. m (head p d - 1) * a d) ≡ 4 * sum_below (vertices p) m
four_each p a s ends rep m =
    sym (exchanged (darts p) (vertices p) (λ d. head p d - 1) a m (λ d l. omega (arith, ends.head_from d l, ends.head_to d l)))
    ∙ sum_below-same (vertices p) (λ k. m k * sum_below (darts p) (λ d. cond (eqb (head p d - 1) k) (a d) 0)) (λ k. 4 * m k) (λ k l. four k l)
    ∙ sum_below-times (vertices p) 4 m
  where
    same_test : (h k : ℕ) → 1 ≤ h → eqb (h - 1) k ≡ eqb h (k + 1)
    same_test h k some =
        elim (cases_eq h (k + 1)) [
          | inl e ↦ eq-eqb (h - 1) k (omega arith) ∙ sym (eq-eqb h (k + 1) e)
          | inr ne ↦ ne_eqb (h - 1) k (λ q. ne (omega arith)) ∙ sym (ne_eqb h (k + 1) ne)
        ]

    four : (k : ℕ) → k < vertices p → m k * sum_below (darts p) (λ d. cond (eqb (head p d - 1) k) (a d) 0) ≡ 4 * m k
    four k l =
        let whole : sum_below (darts p) (λ d. cond (eqb (head p d - 1) k) (a d) 0) ≡ 4 =
        sum_below-same (darts p) (λ d. cond (eqb (head p d - 1) k) (a d) 0) (λ d. cond (eqb (head p d) (k + 1)) (a d) 0)
        (λ d b. ap (λ (t : Bool). cond t (a d) 0) (same_test (head p d) k (ends.head_from d b)))
        ∙ rep.around (k + 1) (omega arith) (omega arith) in
        ap (λ (z : ℕ). m k * z) whole ∙ omega arith
