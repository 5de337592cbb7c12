-- Weak duality: a representation whose prices prove it has the fewest bends among those that keep what is
-- given, and with another outer face at least as many more are needed as the prices of the two faces differ, eight
-- times.
use Rattle.std.proofs.Common.{◌≡◌, ◌≤◌, ◌<◌, ℕ, ◌+◌, ◌*◌, ◌-◌, Bool, true, false, cond, eqb, List, length, refl, sym, ap, ◌∙◌, inl, inr, subst, arith}
use Rattle.std.specs.Prelude.{ℤ, pos, negsuc, ◌+ℤ◌, ◌-ℤ◌, slice_index_or, Some, None, if◌then◌else◌}
use Rattle.std.proofs.lemmas.Bool.{cases_order, cases_eq, eq-eqb, ne_eqb, cond-false}
use Rattle.std.proofs.lemmas.Int.{ints}
use Rattle.std.proofs.Math.Nat.{mul-add, mul-le-mul_left}
use borrow.Author.Differences.{up, down}
use Rattle.common.specs.Sums.{sum_below}
use Rattle.common.proofs.Sums.{sum_below-same, sum_below-add, sum_below-le, sum_below-times, sum_below-one, exchanged, total_below-parts}
use Rattle.ortho_rep.specs.declared.turn_strings.Turn.{Turn}
use Rattle.faces.specs.Planes.{PlaneModel, HasEnds, darts, vertices, head, reverse_dart, face_at, with_outer}
use Rattle.embedding.specs.Lesser.{is_lesser_of}
use Rattle.flow_network.specs.Given.{GivenModel, nothing_given, angle_given, turns_given, walked_back}
use Rattle.ortho_rep.specs.Turns.{lefts, rights}
use Rattle.ortho_rep.specs.Representation.{Rep, Least, bends_of, turning_of, turning_around, whole_turn}
use Rattle.ortho_rep.specs.Keeping.{one_way, Keeps, LeastKeeping}
use Rattle.ortho_rep.specs.Prices.{IsPricedAt, ProveKeeping, Prove}
use Rattle.ortho_rep.proofs.Priced.{wider_of, narrower_of, crossed_of, tight_of, angle_of, turns_of}
use Rattle.ortho_rep.proofs.TurnCounts.{lefts-add-rights, lefts-mirrored}

-- the sum of x, each number weighed by w
abbrev pub weighed : ℕ → (ℕ → ℕ) → (ℕ → ℕ) → ℕ
weighed m w x = sum_below m (λ i. w i * x i)

-- the part of x that is at place k
abbrev pub part_at : ℕ → (ℕ → ℕ) → (ℕ → ℕ) → ℕ → ℕ
part_at m at x k = sum_below m (λ i. cond (eqb (at i) k) (x i) 0)

-- what is equal at each place is equal under each weight of the places
same_weighed : (m n : ℕ) (at x y w : ℕ → ℕ) → ((i : ℕ) → i < m → at i < n) → ((k : ℕ) → k < n → part_at m at x k ≡ part_at m at y k) → weighed m (λ i. w (at i)) x ≡ weighed m (λ i. w (at i)) y
same_weighed m n at x y w inside same =
    let of_x : sum_below n (λ k. w k * part_at m at x k) ≡ weighed m (λ i. w (at i)) x = exchanged m n at x w inside in
    let of_y : sum_below n (λ k. w k * part_at m at y k) ≡ weighed m (λ i. w (at i)) y = exchanged m n at y w inside in
    let both : sum_below n (λ k. w k * part_at m at x k) ≡ sum_below n (λ k. w k * part_at m at y k) =
    sum_below-same n (λ k. w k * part_at m at x k) (λ k. w k * part_at m at y k) (λ k b. ap (λ (z : ℕ). w k * z) (same k b)) in
    omega arith

-- eight units at face e, as a function of the faces
abbrev pub eight_at : ℕ → ℕ → ℕ
eight_at e k = cond (eqb e k) 8 0

-- the same where eight units were moved from place e to place h
moved_weighed : (m n : ℕ) (at x y w : ℕ → ℕ) (e h : ℕ) → ((i : ℕ) → i < m → at i < n) → ((k : ℕ) → k < n → part_at m at x k + eight_at e k ≡ part_at m at y k + eight_at h k) → weighed m (λ i. w (at i)) x + weighed n w (eight_at e) ≡ weighed m (λ i. w (at i)) y + weighed n w (eight_at h)
moved_weighed m n at x y w e h inside same =
    let of_x : sum_below n (λ k. w k * part_at m at x k) ≡ weighed m (λ i. w (at i)) x = exchanged m n at x w inside in
    let of_y : sum_below n (λ k. w k * part_at m at y k) ≡ weighed m (λ i. w (at i)) y = exchanged m n at y w inside in
    let both : sum_below n (λ k. w k * (part_at m at x k + eight_at e k)) ≡ sum_below n (λ k. w k * (part_at m at y k + eight_at h k)) =
    sum_below-same n (λ k. w k * (part_at m at x k + eight_at e k)) (λ k. w k * (part_at m at y k + eight_at h k)) (λ k b. ap (λ (z : ℕ). w k * z) (same k b)) in
    omega (arith, weighed-add n w (part_at m at x) (eight_at e), weighed-add n w (part_at m at y) (eight_at h))
  where
    weighed-add : (n : ℕ) (w f g : ℕ → ℕ) → sum_below n (λ k. w k * (f k + g k)) ≡ sum_below n (λ k. w k * f k) + sum_below n (λ k. w k * g k)
    weighed-add n w f g =
        sum_below-same n (λ k. w k * (f k + g k)) (λ k. w k * f k + w k * g k) (λ k b. mul-add (w k) (f k) (g k))
        ∙ sum_below-add n (λ k. w k * f k) (λ k. w k * g k)

-- the weight of eight units at a place
weight-eight : (n : ℕ) (w : ℕ → ℕ) (e : ℕ) → e < n → weighed n w (eight_at e) ≡ 8 * w e
weight-eight n w e inside =
    sum_below-same n (λ k. w k * eight_at e k) (λ k. cond (eqb e k) (8 * w k) 0) (λ k b. times_eight (eqb e k) (w k))
    ∙ sum_below-one n e (λ k. 8 * w k) inside
  where
    times_eight : (c : Bool) (x : ℕ) → x * cond c 8 0 ≡ cond c (8 * x) 0
    times_eight true x = omega arith
    times_eight false x = omega arith

-- in pairs: to weigh by the partner's weight is to weigh the partner
pub paired : (m : ℕ) (pair w x : ℕ → ℕ) → ((i : ℕ) → i < m → pair i < m) → ((i : ℕ) → i < m → pair (pair i) ≡ i) → weighed m (λ i. w (pair i)) x ≡ weighed m w (λ i. x (pair i))
paired m pair w x inside twice =
    let all : sum_below m (λ k. w k * part_at m pair x k) ≡ weighed m (λ i. w (pair i)) x = exchanged m m pair x w inside in
    let here : (k : ℕ) → k < m → part_at m pair x k ≡ x (pair k) = λ k b.
    sum_below-same m (λ i. cond (eqb (pair i) k) (x i) 0) (λ i. cond (eqb (pair k) i) (x i) 0)
    (λ i c. ap (λ (t : Bool). cond t (x i) 0) (same_test i k c b))
    ∙ sum_below-one m (pair k) x (inside k b) in
    let each : sum_below m (λ k. w k * part_at m pair x k) ≡ weighed m w (λ i. x (pair i)) =
    sum_below-same m (λ k. w k * part_at m pair x k) (λ k. w k * x (pair k)) (λ k b. ap (λ (z : ℕ). w k * z) (here k b)) in
    omega arith
  where
    same_test : (i k : ℕ) → i < m → k < m → eqb (pair i) k ≡ eqb (pair k) i
    same_test i k c b =
        elim (cases_eq (pair i) k) [
          | inl e ↦ eq-eqb (pair i) k e ∙ sym (eq-eqb (pair k) i (sym (ap pair e) ∙ twice i c))
          | inr ne ↦ ne_eqb (pair i) k ne ∙ sym (ne_eqb (pair k) i (λ q. ne (sym (ap pair q) ∙ twice k b)))
        ]

arranged_more : (x k a b : ℕ) → b ≤ a → x * a + (x + k) * b ≤ (x + k) * a + x * b
arranged_more x k a b h = omega (arith, mul-le-mul_left k h)

-- to take what one has more of where it costs less is no dearer
pub arranged : (x y a b : ℕ) → (x < y → b ≤ a) → (y < x → a ≤ b) → x * a + y * b ≤ y * a + x * b
arranged x y a b more less =
    elim (cases_order x y) [
      | inl e ↦ omega (arith, ap (λ (z : ℕ). z * a) e, ap (λ (z : ℕ). z * b) e)
      | inr (inl h) ↦ let P : ℕ → Type 0 = λ z. x * a + z * b ≤ z * a + x * b in
          let whole : x + (y - x) ≡ y = omega arith in
          subst P whole (arranged_more x (y - x) a b (more h))
      | inr (inr h) ↦ let P : ℕ → Type 0 = λ z. z * a + y * b ≤ y * a + z * b in
          let whole : y + (x - y) ≡ x = omega arith in
          subst P whole (omega (arith, arranged_more y (x - y) b a (less h)))
    ]

-- a sum of sums
sum-four : (m : ℕ) (f g h k : ℕ → ℕ) → sum_below m (λ i. f i + g i + h i + k i) ≡ sum_below m f + sum_below m g + sum_below m h + sum_below m k
sum-four m f g h k =
    omega (arith, sum_below-add m (λ i. f i + g i + h i) k, sum_below-add m (λ i. f i + g i) h, sum_below-add m f g)

-- the left turns and the right turns of each dart
abbrev pub lefts_of : (ℕ → List Turn) → ℕ → ℕ
lefts_of s d = lefts (s d)

abbrev pub rights_of : (ℕ → List Turn) → ℕ → ℕ
rights_of s d = rights (s d)

-- a dart's right turns are its reverse's left turns
pub rights_are : (p : PlaneModel) (a : ℕ → ℕ) (s : ℕ → List Turn) → Rep p a s → (d : ℕ) → d < darts p → rights_of s d ≡ lefts_of s (reverse_dart p d)
rights_are p a s rep d b = sym (ap lefts (rep.strings d b) ∙ lefts-mirrored (s d))

-- each face's turning, as two sums of natural numbers: what its darts turn to the left, and to the right
abbrev pub left_sums : PlaneModel → (ℕ → ℕ) → (ℕ → List Turn) → ℕ → ℕ
left_sums p a s f = part_at (darts p) (face_at p) (λ d. 2 + lefts (s d)) f

abbrev pub right_sums : PlaneModel → (ℕ → ℕ) → (ℕ → List Turn) → ℕ → ℕ
right_sums p a s f = part_at (darts p) (face_at p) (λ d. a d + rights (s d)) f

pub turning-split : (p : PlaneModel) (a : ℕ → ℕ) (s : ℕ → List Turn) (f : ℕ) → turning_around p a s f ≡ pos (left_sums p a s f) -ℤ pos (right_sums p a s f)
turning-split p a s f =
    total_below-parts (darts p) (λ d. cond (eqb (face_at p d) f) (turning_of (a d) (s d)) (pos 0)) (λ d. cond (eqb (face_at p d) f) (2 + lefts (s d)) 0) (λ d. cond (eqb (face_at p d) f) (a d + rights (s d)) 0) (λ d b. split_one (eqb (face_at p d) f) (a d) (lefts (s d)) (rights (s d)))
  where
    split_one : (c : Bool) (angle left right : ℕ) → cond c (pos 2 -ℤ pos angle +ℤ pos left -ℤ pos right) (pos 0) ≡ pos (cond c (2 + left) 0) -ℤ pos (cond c (angle + right) 0)
    split_one true angle left right = omega (arith, ints)
    split_one false angle left right = omega (arith, ints)

-- at each vertex two representations have the same angles in all
same_around : (p : PlaneModel) (h : ℕ) (a b : ℕ → ℕ) (s t : ℕ → List Turn) → HasEnds p → Rep p a s → Rep (with_outer p h) b t → (k : ℕ) → k < vertices p + 1 → part_at (darts p) (head p) a k ≡ part_at (darts p) (head p) b k
same_around p h a b s t ends one two k below =
    elim (cases_eq k 0) [
      | inl e ↦ sum_below-same (darts p) (λ d. cond (eqb (head p d) k) (a d) 0) (λ d. cond (eqb (head p d) k) (b d) 0)
          (λ d c. let off : eqb (head p d) k ≡ false = ne_eqb (head p d) k (λ q. omega (arith, ends.head_from d c)) in
          cond-false (eqb (head p d) k) (a d) 0 off ∙ sym (cond-false (eqb (head p d) k) (b d) 0 off))
      | inr ne ↦ one.around k (omega arith) (omega arith) ∙ sym (two.around k (omega arith) (omega arith))
    ]

-- what one dart gains with the one and loses with the other
abbrev crossed : (ℕ → ℕ) → (ℕ → List Turn) → (ℕ → List Turn) → ℕ → ℕ
crossed b s t d = 2 + lefts (s d) + (b d + rights (t d))

-- round each face two representations turn alike, but for the eight quarter turns that an outer face has less
same_turning : (p : PlaneModel) (h : ℕ) (a b : ℕ → ℕ) (s t : ℕ → List Turn) → Rep p a s → Rep (with_outer p h) b t → (f : ℕ) → f < p.faces → part_at (darts p) (face_at p) (crossed b s t) f + eight_at p.outer f ≡ part_at (darts p) (face_at p) (crossed a t s) f + eight_at h f
same_turning p h a b s t one two f below =
    let turns_s : pos (left_sums p a s f) -ℤ pos (right_sums p a s f) ≡ whole_turn p f = sym (turning-split p a s f) ∙ one.faces f below in
    let turns_t : pos (left_sums p b t f) -ℤ pos (right_sums p b t f) ≡ whole_turn (with_outer p h) f = sym (turning-split p b t f) ∙ two.faces f below in
    let mixed = balanced (left_sums p a s f) (right_sums p a s f) (left_sums p b t f) (right_sums p b t f) (eight_at p.outer f) (eight_at h f) (whole_turn p f) (whole_turn (with_outer p h) f) turns_s turns_t (inner_turn p.outer f) (inner_turn h f) in
    omega (arith, joined p b s t f, joined p a t s f, mixed)
  where
    inner_turn : (e f : ℕ) → cond (eqb f e) (negsuc 3) (pos 4) +ℤ pos (eight_at e f) ≡ pos 4
    inner_turn e f =
        elim (cases_eq f e) [
          | inl q ↦ rw (eq-eqb f e q, eq-eqb e f (sym q)) refl
          | inr ne ↦ rw (ne_eqb f e ne, ne_eqb e f (λ q. ne (sym q))) refl
        ]

    balanced : (gs ls gt lt me mh : ℕ) (x y : ℤ) → pos gs -ℤ pos ls ≡ x → pos gt -ℤ pos lt ≡ y → x +ℤ pos me ≡ pos 4 → y +ℤ pos mh ≡ pos 4 → gs + lt + me ≡ gt + ls + mh
    balanced gs ls gt lt me mh x y of_s of_t of_e of_h = omega (arith, ints)

    cond_add : (c : Bool) (x y : ℕ) → cond c (x + y) 0 ≡ cond c x 0 + cond c y 0
    cond_add true x y = refl
    cond_add false x y = refl

    joined : (p : PlaneModel) (b : ℕ → ℕ) (s t : ℕ → List Turn) (f : ℕ) → part_at (darts p) (face_at p) (crossed b s t) f ≡ part_at (darts p) (face_at p) (λ d. 2 + lefts (s d)) f + part_at (darts p) (face_at p) (λ d. b d + rights (t d)) f
    joined p b s t f =
        sum_below-same (darts p) (λ d. cond (eqb (face_at p d) f) (crossed b s t d) 0) (λ d. cond (eqb (face_at p d) f) (2 + lefts (s d)) 0 + cond (eqb (face_at p d) f) (b d + rights (t d)) 0)
        (λ d c. cond_add (eqb (face_at p d) f) (2 + lefts (s d)) (b d + rights (t d)))
        ∙ sum_below-add (darts p) (λ d. cond (eqb (face_at p d) f) (2 + lefts (s d)) 0) (λ d. cond (eqb (face_at p d) f) (b d + rights (t d)) 0)

-- under each weight of the vertices two representations have the same angles in all
angles_weigh : (p : PlaneModel) (h : ℕ) (a b : ℕ → ℕ) (s t : ℕ → List Turn) → HasEnds p → Rep p a s → Rep (with_outer p h) b t → (w : ℕ → ℕ) → weighed (darts p) (λ d. w (head p d)) a ≡ weighed (darts p) (λ d. w (head p d)) b
angles_weigh p h a b s t ends one two w =
    same_weighed (darts p) (vertices p + 1) (head p) a b w (λ d c. omega (arith, ends.head_to d c)) (same_around p h a b s t ends one two)

-- a face's weight on what `crossed` counts, with right turns as left turns on the other side
crossed_weigh : (p : PlaneModel) (b : ℕ → ℕ) (s t : ℕ → List Turn) → HasEnds p → ((d : ℕ) → d < darts p → rights_of t d ≡ lefts_of t (reverse_dart p d)) → (w : ℕ → ℕ) →
    weighed (darts p) (λ d. w (face_at p d)) (crossed b s t)
    ≡ sum_below (darts p) (λ d. w (face_at p d) * 2) + weighed (darts p) (λ d. w (face_at p d)) (lefts_of s) + weighed (darts p) (λ d. w (face_at p d)) b + weighed (darts p) (λ d. w (face_at p (reverse_dart p d))) (lefts_of t)
crossed_weigh p b s t ends rights_t w =
    let apart : weighed (darts p) (λ d. w (face_at p d)) (crossed b s t) ≡ sum_below (darts p) (λ d. w (face_at p d) * 2 + w (face_at p d) * lefts (s d) + w (face_at p d) * b d + w (face_at p d) * rights (t d)) =
    sum_below-same (darts p) (λ d. w (face_at p d) * crossed b s t d) (λ d. w (face_at p d) * 2 + w (face_at p d) * lefts (s d) + w (face_at p d) * b d + w (face_at p d) * rights (t d)) (λ d c. omega arith) in
    let split = sum-four (darts p) (λ d. w (face_at p d) * 2) (λ d. w (face_at p d) * lefts (s d)) (λ d. w (face_at p d) * b d) (λ d. w (face_at p d) * rights (t d)) in
    let over : sum_below (darts p) (λ d. w (face_at p d) * rights (t d)) ≡ weighed (darts p) (λ d. w (face_at p d)) (λ d. lefts_of t (reverse_dart p d)) =
    sum_below-same (darts p) (λ d. w (face_at p d) * rights (t d)) (λ d. w (face_at p d) * lefts_of t (reverse_dart p d)) (λ d c. ap (λ (z : ℕ). w (face_at p d) * z) (rights_t d c)) in
    let back : weighed (darts p) (λ d. w (face_at p (reverse_dart p d))) (lefts_of t) ≡ weighed (darts p) (λ d. w (face_at p d)) (λ d. lefts_of t (reverse_dart p d)) =
    paired (darts p) (reverse_dart p) (λ d. w (face_at p d)) (lefts_of t) ends.reverse_dart_in_range ends.reverse_dart_back in
    omega (arith, apart, split, over, back)

-- under each weight of the faces, what flows into them by corners and by crossings is the same, but for the eight
-- units of the outer faces
faces_weigh : (p : PlaneModel) (h : ℕ) (a b : ℕ → ℕ) (s t : ℕ → List Turn) → HasEnds p → Rep p a s → Rep (with_outer p h) b t → (w : ℕ → ℕ) →
    weighed (darts p) (λ d. w (face_at p d)) (lefts_of s) + weighed (darts p) (λ d. w (face_at p d)) b + weighed (darts p) (λ d. w (face_at p (reverse_dart p d))) (lefts_of t) + weighed p.faces w (eight_at p.outer)
    ≡ weighed (darts p) (λ d. w (face_at p d)) (lefts_of t) + weighed (darts p) (λ d. w (face_at p d)) a + weighed (darts p) (λ d. w (face_at p (reverse_dart p d))) (lefts_of s) + weighed p.faces w (eight_at h)
faces_weigh p h a b s t ends one two w =
    let same = moved_weighed (darts p) p.faces (face_at p) (crossed b s t) (crossed a t s) w p.outer h ends.face_named (same_turning p h a b s t one two) in
    omega (arith, same, crossed_weigh p b s t ends (rights_are (with_outer p h) b t two) w, crossed_weigh p a t s ends (rights_are p a s one) w)

-- the strings' lengths are twice the left turns
lengths-mirrored : (p : PlaneModel) (s : ℕ → List Turn) → HasEnds p → ((d : ℕ) → d < darts p → rights_of s d ≡ lefts_of s (reverse_dart p d)) → sum_below (darts p) (λ d. length (s d)) ≡ 2 * sum_below (darts p) (lefts_of s)
lengths-mirrored p s ends rights_s =
    let all : sum_below (darts p) (λ d. length (s d)) ≡ sum_below (darts p) (λ d. lefts_of s d + 1 * lefts_of s (reverse_dart p d)) =
    sum_below-same (darts p) (λ d. length (s d)) (λ d. lefts_of s d + 1 * lefts_of s (reverse_dart p d)) (λ d b. omega (arith, lefts-add-rights (s d), rights_s d b)) in
    let parts = sum_below-add (darts p) (lefts_of s) (λ d. 1 * lefts_of s (reverse_dart p d)) in
    let back : weighed (darts p) (λ d. 1) (lefts_of s) ≡ weighed (darts p) (λ d. 1) (λ d. lefts_of s (reverse_dart p d)) =
    paired (darts p) (reverse_dart p) (λ d. 1) (lefts_of s) ends.reverse_dart_in_range ends.reverse_dart_back in
    let ones = sum_below-times (darts p) 1 (lefts_of s) in
    omega (arith, all, parts, back, ones)

pub lengths-twice : (p : PlaneModel) (a : ℕ → ℕ) (s : ℕ → List Turn) → HasEnds p → Rep p a s → sum_below (darts p) (λ d. length (s d)) ≡ 2 * sum_below (darts p) (lefts_of s)
lengths-twice p a s ends rep = lengths-mirrored p s ends (rights_are p a s rep)

-- a face's price on its own darts, and across
abbrev own : PlaneModel → (ℕ → ℤ) → (ℤ → ℕ) → ℕ → ℕ
own p q side d = side (q (face_at p d))

abbrev across : PlaneModel → (ℕ → ℤ) → (ℤ → ℕ) → ℕ → ℕ
across p q side d = side (q (face_at p (reverse_dart p d)))

abbrev at_head : PlaneModel → (ℕ → ℤ) → (ℤ → ℕ) → ℕ → ℕ
at_head p v side d = side (v (head p d))

-- one corner: by the prices another angle is no cheaper, and where it is given it is the same
corner : (p : PlaneModel) (given : GivenModel) (a b : ℕ → ℕ) (s : ℕ → List Turn) (v q : ℕ → ℤ) (d : ℕ) → IsPricedAt p given a s v q d → ((k : ℕ) → angle_given given d ≡ Some k → b d ≡ k) → (1 ≤ b d) × (b d ≤ 4) →
    at_head p v up d * a d + own p q down d * a d + at_head p v down d * b d + own p q up d * b d
    ≤ at_head p v up d * b d + own p q down d * b d + at_head p v down d * a d + own p q up d * a d
corner p given a b s v q d priced keeps of_b =
    let wider = wider_of (angle_given given d) (a d) (b d) (v (head p d)) (q (face_at p d)) priced.angle keeps of_b.1 in
    let narrower = narrower_of (angle_given given d) (a d) (b d) (v (head p d)) (q (face_at p d)) priced.angle keeps of_b.0 in
    omega (
      arith,
      arranged (a d) (b d) (at_head p v up d + own p q down d) (at_head p v down d + own p q up d)
          (λ more. omega (arith, ints, wider more))
          (λ less. omega (arith, ints, narrower less)),
    )

-- one crossing: by the prices other left turns are no cheaper, and where they are given they are the same
crossing : (p : PlaneModel) (given : GivenModel) (a : ℕ → ℕ) (s t : ℕ → List Turn) (v q : ℕ → ℤ) (d : ℕ) → IsPricedAt p given a s v q d → ((n : ℤ) → turns_given p given d ≡ Some n → t d ≡ one_way n) →
    lefts_of s d + (own p q up d * lefts_of s d + across p q down d * lefts_of s d) + own p q down d * lefts_of t d + across p q up d * lefts_of t d
    ≤ lefts_of t d + (own p q up d * lefts_of t d + across p q down d * lefts_of t d) + own p q down d * lefts_of s d + across p q up d * lefts_of s d
crossing p given a s t v q d priced keeps =
    let crossed = crossed_of (turns_given p given d) (s d) (t d) (q (face_at p d)) (q (face_at p (reverse_dart p d))) priced.turns keeps in
    let tight = tight_of (turns_given p given d) (s d) (t d) (q (face_at p d)) (q (face_at p (reverse_dart p d))) priced.turns keeps in
    omega (
      arith,
      arranged (lefts_of s d) (lefts_of t d) (1 + own p q up d + across p q down d) (own p q down d + across p q up d)
          (λ more. omega (arith, ints, crossed more))
          (λ less. omega (arith, ints, tight less)),
    )

-- the same of all corners
corners : (p : PlaneModel) (given : GivenModel) (a b : ℕ → ℕ) (s t : ℕ → List Turn) (v q : ℕ → ℤ) → ProveKeeping p given a s v q → Keeps p given b t → ((d : ℕ) → d < darts p → (1 ≤ b d) × (b d ≤ 4)) →
    weighed (darts p) (at_head p v up) a + weighed (darts p) (own p q down) a + weighed (darts p) (at_head p v down) b + weighed (darts p) (own p q up) b
    ≤ weighed (darts p) (at_head p v up) b + weighed (darts p) (own p q down) b + weighed (darts p) (at_head p v down) a + weighed (darts p) (own p q up) a
corners p given a b s t v q prove keeps angles =
    let each = sum_below-le (darts p)
    (λ d. at_head p v up d * a d + own p q down d * a d + at_head p v down d * b d + own p q up d * b d)
    (λ d. at_head p v up d * b d + own p q down d * b d + at_head p v down d * a d + own p q up d * a d)
    (λ d c. corner p given a b s v q d (prove d c) (keeps.angles d c) (angles d c)) in
    let left = sum-four (darts p) (λ d. at_head p v up d * a d) (λ d. own p q down d * a d) (λ d. at_head p v down d * b d) (λ d. own p q up d * b d) in
    let right = sum-four (darts p) (λ d. at_head p v up d * b d) (λ d. own p q down d * b d) (λ d. at_head p v down d * a d) (λ d. own p q up d * a d) in
    omega (arith, each, left, right)

-- the same of all crossings
crossings : (p : PlaneModel) (given : GivenModel) (a b : ℕ → ℕ) (s t : ℕ → List Turn) (v q : ℕ → ℤ) → ProveKeeping p given a s v q → Keeps p given b t →
    sum_below (darts p) (lefts_of s) + weighed (darts p) (own p q up) (lefts_of s) + weighed (darts p) (across p q down) (lefts_of s) + weighed (darts p) (own p q down) (lefts_of t) + weighed (darts p) (across p q up) (lefts_of t)
    ≤ sum_below (darts p) (lefts_of t) + weighed (darts p) (own p q up) (lefts_of t) + weighed (darts p) (across p q down) (lefts_of t) + weighed (darts p) (own p q down) (lefts_of s) + weighed (darts p) (across p q up) (lefts_of s)
crossings p given a b s t v q prove keeps =
    let each = sum_below-le (darts p)
    (λ d. lefts_of s d + (own p q up d * lefts_of s d + across p q down d * lefts_of s d) + own p q down d * lefts_of t d + across p q up d * lefts_of t d)
    (λ d. lefts_of t d + (own p q up d * lefts_of t d + across p q down d * lefts_of t d) + own p q down d * lefts_of s d + across p q up d * lefts_of s d)
    (λ d c. crossing p given a s t v q d (prove d c) (keeps.turns d c)) in
    omega (arith, each, sum-crossing p q s t, sum-crossing p q t s)
  where
    sum-crossing : (p : PlaneModel) (q : ℕ → ℤ) (s t : ℕ → List Turn) →
        sum_below (darts p) (λ d. lefts_of s d + (own p q up d * lefts_of s d + across p q down d * lefts_of s d) + own p q down d * lefts_of t d + across p q up d * lefts_of t d)
        ≡ sum_below (darts p) (lefts_of s) + weighed (darts p) (own p q up) (lefts_of s) + weighed (darts p) (across p q down) (lefts_of s) + weighed (darts p) (own p q down) (lefts_of t) + weighed (darts p) (across p q up) (lefts_of t)
    sum-crossing p q s t =
        omega (
          arith,
          sum-four (darts p) (lefts_of s) (λ d. own p q up d * lefts_of s d + across p q down d * lefts_of s d) (λ d. own p q down d * lefts_of t d) (λ d. across p q up d * lefts_of t d),
          sum_below-add (darts p) (λ d. own p q up d * lefts_of s d) (λ d. across p q down d * lefts_of s d),
        )

-- no representation with the outer face h that keeps what is given has fewer left turns than one that prices
-- prove, with as many more as the prices of the two outer faces tell
fewest_lefts : (p : PlaneModel) (given : GivenModel) (h : ℕ) (a b : ℕ → ℕ) (s t : ℕ → List Turn) (v q : ℕ → ℤ) → HasEnds p → ProveKeeping p given a s v q → Rep p a s → Rep (with_outer p h) b t → Keeps p given b t →
    sum_below (darts p) (lefts_of s) + weighed p.faces (λ k. up (q k)) (eight_at h) + weighed p.faces (λ k. down (q k)) (eight_at p.outer)
    ≤ sum_below (darts p) (lefts_of t) + weighed p.faces (λ k. up (q k)) (eight_at p.outer) + weighed p.faces (λ k. down (q k)) (eight_at h)
fewest_lefts p given h a b s t v q ends prove one two keeps =
    omega (
      arith,
      corners p given a b s t v q prove keeps two.angles,
      crossings p given a b s t v q prove keeps,
      angles_weigh p h a b s t ends one two (λ k. up (v k)),
      angles_weigh p h a b s t ends one two (λ k. down (v k)),
      faces_weigh p h a b s t ends one two (λ k. up (q k)),
      faces_weigh p h a b s t ends one two (λ k. down (q k)),
    )

-- a representation whose prices prove it is least among those that keep what is given
pub least_keeping_by_prices : (p : PlaneModel) (given : GivenModel) (a : ℕ → ℕ) (s : ℕ → List Turn) (v q : ℕ → ℤ) → HasEnds p → Rep p a s → ProveKeeping p given a s v q → LeastKeeping p given a s
least_keeping_by_prices p given a s v q ends rep prove = record {
  rep = rep;
  keeps = record {
    angles = λ d b. angle_of (angle_given given d) (a d) (v (head p d)) (q (face_at p d)) (prove d b).angle;
    turns = λ d b. turns_of (turns_given p given d) (s d) (q (face_at p d)) (q (face_at p (reverse_dart p d))) (prove d b).turns;
  };
  least = λ b t other keeps. omega (arith, fewest_lefts p given p.outer a b s t v q ends prove rep other keeps, lengths-twice p a s ends rep, lengths-twice p b t ends other);
}

-- where nothing is given, each representation keeps it
pub all_keep : (p : PlaneModel) (b : ℕ → ℕ) (t : ℕ → List Turn) → Keeps p nothing_given b t
all_keep p b t = record {
  angles = λ d l k is. absurd (no_angle d k is);
  turns = λ d l n is. absurd (no_turns (is_lesser_of p.lists d) d (reverse_dart p d) n is);
}
  where
    no_angle : (d k : ℕ) → angle_given nothing_given d ≡ Some k → ⊥
    no_angle d k is = cc

    no_turns : (c : Bool) (d r : ℕ) (n : ℤ) → (if c then slice_index_or nothing_given.turns d None else walked_back (slice_index_or nothing_given.turns r None)) ≡ Some n → ⊥
    no_turns true d r n is = cc
    no_turns false d r n is = cc

-- so one that is least among those is least among all
pub least_of_keeping : (p : PlaneModel) (a : ℕ → ℕ) (s : ℕ → List Turn) → LeastKeeping p nothing_given a s → Least p a s
least_of_keeping p a s keeping = record { rep = keeping.rep; least = λ b t other. keeping.least b t other (all_keep p b t) }

pub least_by_prices : (p : PlaneModel) (a : ℕ → ℕ) (s : ℕ → List Turn) (v q : ℕ → ℤ) → HasEnds p → Rep p a s → Prove p a s v q → Least p a s
least_by_prices p a s v q ends rep prove = least_of_keeping p a s (least_keeping_by_prices p nothing_given a s v q ends rep prove)

-- with the outer face h at least as many more bends are needed as it is dearer than the outer face, eight times
pub more_by_prices : (p : PlaneModel) (given : GivenModel) (h : ℕ) (a b : ℕ → ℕ) (s t : ℕ → List Turn) (v q : ℕ → ℤ) → HasEnds p → p.outer < p.faces → h < p.faces → Rep p a s → ProveKeeping p given a s v q → Rep (with_outer p h) b t → Keeps p given b t →
    bends_of (darts p) s + 8 * up (q h) + 8 * down (q p.outer) ≤ bends_of (darts p) t + 8 * up (q p.outer) + 8 * down (q h)
more_by_prices p given h a b s t v q ends outer inside rep prove other keeps =
    omega (
      arith,
      fewest_lefts p given h a b s t v q ends prove rep other keeps,
      weight-eight p.faces (λ k. up (q k)) h inside,
      weight-eight p.faces (λ k. up (q k)) p.outer outer,
      weight-eight p.faces (λ k. down (q k)) h inside,
      weight-eight p.faces (λ k. down (q k)) p.outer outer,
      lengths-twice p a s ends rep,
      lengths-mirrored p t ends (rights_are (with_outer p h) b t other),
    )
