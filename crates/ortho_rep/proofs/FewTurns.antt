-- A representation that prices prove has short strings: across the faces and vertices whose prices are at most
-- that of a dart's face nothing comes back, so no more crosses there than they hold.
use Rattle.std.proofs.Common.{◌≡◌, ◌≤◌, ◌<◌, ℕ, zero, suc, ◌+◌, ◌*◌, Bool, true, false, cond, eqb, List, length, refl, sym, ap, ◌∙◌, ◌⊎◌, inl, inr, arith}
use Rattle.std.specs.Prelude.{ℤ, pos, ◌-ℤ◌, ◌≤ℤ◌, ◌<ℤ◌, negsuc, Option, Some, None}
use Rattle.std.proofs.lemmas.Bool.{cases_eq, ne_eqb, cond-true, cond-false}
use Rattle.std.proofs.lemmas.Int.{ints, by_lt_z}
use lib.Signed.{lt_z}
use Rattle.common.specs.Sums.{sum_below}
use Rattle.common.proofs.Sums.{sum_below-same, sum_below-add, sum_below-le, sum_below-constant, sum_below-member, exchanged}
use Rattle.common.specs.declared.parameters.TheConstants.{MAX_VERTICES}
use Rattle.ortho_rep.specs.declared.turn_strings.Turn.{Turn}
use Rattle.ortho_rep.specs.declared.turn_strings.TheConstants.{MAX_REPEATS}
use Rattle.faces.specs.Planes.{PlaneModel, HasEnds, darts, vertices, head, reverse_dart, face_at}
use Rattle.flow_network.specs.Given.{GivenModel, CanBeGiven, nothing_given, turns_given, turns_in_all}
use Rattle.flow_network.proofs.GivenParts.{left_part, right_part, left_back, both_parts, all_parts}
use Rattle.ortho_rep.specs.Turns.{lefts, rights}
use Rattle.ortho_rep.specs.Representation.{Rep, whole_turn}
use Rattle.ortho_rep.specs.Prices.{AreTurnsPriced, AreTurnsKept, ProveKeeping, Prove}
use Rattle.ortho_rep.proofs.TurnCounts.{lefts-add-rights}
use Rattle.ortho_rep.proofs.GivenFlow.{lefts_one_way}
use Rattle.ortho_rep.proofs.WeakDuality.{weighed, part_at, paired, left_sums, right_sums, turning-split, lefts_of, rights_are}

-- 1 where the price is at most k
abbrev low : ℤ → ℤ → ℕ
low k z = cond (lt_z k z) 0 1

low-one : (k z : ℤ) → z ≤ℤ k → low k z ≡ 1
low-one k z h =
    let off : lt_z k z ≡ false = grind (arith, ints) in
    cond-false (lt_z k z) 0 1 off

low-zero : (k z : ℤ) → k <ℤ z → low k z ≡ 0
low-zero k z h =
    let on : lt_z k z ≡ true = grind (arith, ints) in
    cond-true (lt_z k z) 0 1 on

low-few : (k z : ℤ) → low k z ≤ 1
low-few k z = by_lt_z k z (λ h. omega (arith, low-zero k z h)) (λ h. omega (arith, low-one k z h))

-- sums with a gap at one place
sum-gap : (n a c : ℕ) (f g : ℕ → ℕ) → a < n → ((i : ℕ) → i < n → f i ≤ g i) → f a + c ≤ g a → sum_below n f + c ≤ sum_below n g
sum-gap zero a c f g b each here = absurd (omega arith)
sum-gap (suc n) a c f g b each here =
    elim (cases_eq a n) [
      | inl e ↦ let before : sum_below n f ≤ sum_below n g = sum_below-le n f g (λ i h. each i (omega arith)) in
          omega (arith, ap f e, ap g e)
      | inr ne ↦ let before : sum_below n f + c ≤ sum_below n g = sum-gap n a c f g (omega arith) (λ i h. each i (omega arith)) here in
          let last : f n ≤ g n = each n (omega arith) in
          omega arith
    ]

-- the angles at low vertices
low_angles : (p : PlaneModel) (a : ℕ → ℕ) (s : ℕ → List Turn) (w : ℕ → ℕ) → HasEnds p → Rep p a s → ((v : ℕ) → w v ≤ 1) → weighed (darts p) (λ d. w (head p d)) a ≤ 4 * (vertices p + 1)
low_angles p a s w ends rep few =
    let n = vertices p + 1 in
    let all : sum_below n (λ v. w v * part_at (darts p) (head p) a v) ≡ weighed (darts p) (λ d. w (head p d)) a = exchanged (darts p) n (head p) a w (λ d b. omega (arith, ends.head_to d b)) in
    let each : sum_below n (λ v. w v * part_at (darts p) (head p) a v) ≤ sum_below n (λ v. 4) =
    sum_below-le n (λ v. w v * part_at (darts p) (head p) a v) (λ v. 4) (λ v b. small (w v) (part_at (darts p) (head p) a v) (few v) (at_most v b)) in
    omega (arith, all, each, sum_below-constant n 4)
  where
    small : (x y : ℕ) → x ≤ 1 → y ≤ 4 → x * y ≤ 4
    small zero y h k = omega arith
    small (suc x) y h k = let none : x ≡ 0 = omega arith in rw none (omega arith)

    at_most : (v : ℕ) → v < vertices p + 1 → part_at (darts p) (head p) a v ≤ 4
    at_most v b =
        elim (cases_eq v 0) [
          | inl e ↦
              let each : sum_below (darts p) (λ d. cond (eqb (head p d) v) (a d) 0) ≡ sum_below (darts p) (λ d. 0) =
              sum_below-same (darts p) (λ d. cond (eqb (head p d) v) (a d) 0) (λ d. 0)
              (λ d c. cond-false (eqb (head p d) v) (a d) 0 (ne_eqb (head p d) v (λ q. omega (arith, ends.head_from d c)))) in
              omega (arith, each, sum_below-constant (darts p) 0)
          | inr ne ↦ omega (arith, rep.around v (omega arith) (omega arith))
        ]

-- what low faces gain, but for 4 each, they lose
low_faces : (p : PlaneModel) (a : ℕ → ℕ) (s : ℕ → List Turn) (w : ℕ → ℕ) → HasEnds p → Rep p a s → ((f : ℕ) → w f ≤ 1) →
    weighed (darts p) (λ d. w (face_at p d)) (λ d. 2 + lefts (s d)) ≤ weighed (darts p) (λ d. w (face_at p d)) (λ d. a d + rights (s d)) + 4 * p.faces
low_faces p a s w ends rep few =
    let left_sum : sum_below p.faces (λ f. w f * left_sums p a s f) ≡ weighed (darts p) (λ d. w (face_at p d)) (λ d. 2 + lefts (s d)) = exchanged (darts p) p.faces (face_at p) (λ d. 2 + lefts (s d)) w ends.face_named in
    let right_sum : sum_below p.faces (λ f. w f * right_sums p a s f) ≡ weighed (darts p) (λ d. w (face_at p d)) (λ d. a d + rights (s d)) = exchanged (darts p) p.faces (face_at p) (λ d. a d + rights (s d)) w ends.face_named in
    let each : sum_below p.faces (λ f. w f * left_sums p a s f) ≤ sum_below p.faces (λ f. w f * right_sums p a s f + 4) =
    sum_below-le p.faces (λ f. w f * left_sums p a s f) (λ f. w f * right_sums p a s f + 4) (λ f b. near (w f) (left_sums p a s f) (right_sums p a s f) (few f) (close f b)) in
    omega (arith, left_sum, right_sum, each, sum_below-add p.faces (λ f. w f * right_sums p a s f) (λ f. 4), sum_below-constant p.faces 4)
  where
    near : (x y z : ℕ) → x ≤ 1 → y ≤ z + 4 → x * y ≤ x * z + 4
    near zero y z h k = omega arith
    near (suc x) y z h k = let none : x ≡ 0 = omega arith in rw none (omega arith)

    whole_turn-le : (c : Bool) → cond c (negsuc 3) (pos 4) ≤ℤ pos 4
    whole_turn-le true = omega (arith, ints)
    whole_turn-le false = omega (arith, ints)

    close : (f : ℕ) → f < p.faces → left_sums p a s f ≤ right_sums p a s f + 4
    close f b =
        let same : pos (left_sums p a s f) -ℤ pos (right_sums p a s f) ≡ whole_turn p f = sym (turning-split p a s f) ∙ rep.faces f b in
        let top : whole_turn p f ≤ℤ pos 4 = whole_turn-le (eqb f p.outer) in
        omega (arith, ints)

-- what crosses into a low face comes from one, or is given
low_crossing : (given : Option ℤ) (k : ℤ) (turns : List Turn) (face across : ℤ) → AreTurnsKept given turns face across → low k across * lefts turns ≤ low k face * lefts turns + left_part given
low_crossing (Some t) k turns face across kept =
    omega (arith, small (low k across) (lefts turns) (low-few k across), ap lefts kept, lefts_one_way t)
  where
    small : (x y : ℕ) → x ≤ 1 → x * y ≤ y
    small zero y h = omega arith
    small (suc x) y h = let none : x ≡ 0 = omega arith in rw none (omega arith)
low_crossing None k turns face across kept =
    elim (cases_eq (lefts turns) 0) [
      | inl e ↦ omega (arith, ap (λ (x : ℕ). low k across * x) e)
      | inr ne ↦ by_lt_z k across
          (λ above. omega (arith, ap (λ (x : ℕ). x * lefts turns) (low-zero k across above)))
          (λ under.
          let below : face ≤ℤ k = omega (arith, ints, kept.tight (omega arith)) in
          omega (arith, ap (λ (x : ℕ). x * lefts turns) (low-one k across under), ap (λ (x : ℕ). x * lefts turns) (low-one k face below)))
    ]

-- and what crosses out of a face of price k without being given stays above
high_crossing : (turns : List Turn) (face across : ℤ) → AreTurnsPriced turns face across → low face across * lefts turns + lefts turns ≤ low face face * lefts turns
high_crossing turns face across priced =
    elim (cases_eq (lefts turns) 0) [
      | inl e ↦ omega (arith, ap (λ (x : ℕ). low face across * x) e)
      | inr ne ↦
          let above : face <ℤ across = omega (arith, ints, priced.tight (omega arith)) in
          let level : face ≤ℤ face = omega (arith, ints) in
          omega (arith, ap (λ (x : ℕ). x * lefts turns) (low-zero face across above), ap (λ (x : ℕ). x * lefts turns) (low-one face face level))
    ]

-- a dart of a representation that prices prove has few left turns: no more cross out of the low faces than their angles and
-- one turn each hold, and than are given
free_lefts : (p : PlaneModel) (given : GivenModel) (a : ℕ → ℕ) (s : ℕ → List Turn) (v q : ℕ → ℤ) → HasEnds p → Rep p a s → ProveKeeping p given a s v q → (d : ℕ) → d < darts p → AreTurnsPriced (s d) (q (face_at p d)) (q (face_at p (reverse_dart p d))) →
    lefts (s d) ≤ 4 * (vertices p + 1) + 4 * p.faces + turns_in_all given.turns
free_lefts p given a s v q ends rep prove e b free =
    let k = q (face_at p e) in
    let n = darts p in
    let own = λ (d : ℕ). low k (q (face_at p d)) in
    let over = λ (d : ℕ). low k (q (face_at p (reverse_dart p d))) in
    let left = λ (d : ℕ). left_part (turns_given p given d) in
    let corners : sum_below n (λ d. own d * a d) ≤ weighed n (λ d. 1) a =
    sum_below-le n (λ d. own d * a d) (λ d. 1 * a d) (λ d c. once (own d) (a d) (low-few k (q (face_at p d)))) in
    let crossings : sum_below n (λ d. over d * lefts_of s d) + lefts (s e) ≤ sum_below n (λ d. own d * lefts_of s d + left d) =
    sum-gap n e (lefts (s e)) (λ d. over d * lefts_of s d) (λ d. own d * lefts_of s d + left d) b
    (λ d c. low_crossing (turns_given p given d) k (s d) (q (face_at p d)) (q (face_at p (reverse_dart p d))) (prove d c).turns)
    (omega (arith, high_crossing (s e) (q (face_at p e)) (q (face_at p (reverse_dart p e))) free)) in
    let back : weighed n over (lefts_of s) ≡ weighed n own (λ d. lefts_of s (reverse_dart p d)) = paired n (reverse_dart p) own (lefts_of s) ends.reverse_dart_in_range ends.reverse_dart_back in
    let rights_here : sum_below n (λ d. own d * rights (s d)) ≡ weighed n own (λ d. lefts_of s (reverse_dart p d)) =
    sum_below-same n (λ d. own d * rights (s d)) (λ d. own d * lefts_of s (reverse_dart p d)) (λ d c. ap (λ (z : ℕ). own d * z) (rights_are p a s rep d c)) in
    let left_sum : weighed n own (λ d. 2 + lefts (s d)) ≡ sum_below n (λ d. own d * 2) + sum_below n (λ d. own d * lefts_of s d) =
    sum_below-same n (λ d. own d * (2 + lefts (s d))) (λ d. own d * 2 + own d * lefts_of s d) (λ d c. omega arith) ∙ sum_below-add n (λ d. own d * 2) (λ d. own d * lefts_of s d) in
    let right_sum : weighed n own (λ d. a d + rights (s d)) ≡ sum_below n (λ d. own d * a d) + sum_below n (λ d. own d * rights (s d)) =
    sum_below-same n (λ d. own d * (a d + rights (s d))) (λ d. own d * a d + own d * rights (s d)) (λ d c. omega arith) ∙ sum_below-add n (λ d. own d * a d) (λ d. own d * rights (s d)) in
    omega (
      arith,
      corners,
      crossings,
      back,
      rights_here,
      left_sum,
      right_sum,
      sum_below-add n (λ d. own d * lefts_of s d) left,
      all_parts p given left_part right_part ends left_back both_parts,
      low_angles p a s (λ u. 1) ends rep (λ u. omega arith),
      low_faces p a s (λ f. low k (q f)) ends rep (λ f. low-few k (q f)),
    )
  where
    once : (x y : ℕ) → x ≤ 1 → x * y ≤ 1 * y
    once zero y h = omega arith
    once (suc x) y h = let none : x ≡ 0 = omega arith in rw none (omega arith)

pub few_lefts : (p : PlaneModel) (given : GivenModel) (a : ℕ → ℕ) (s : ℕ → List Turn) (v q : ℕ → ℤ) → HasEnds p → Rep p a s → ProveKeeping p given a s v q → (d : ℕ) → d < darts p →
    lefts (s d) ≤ 4 * (vertices p + 1) + 4 * p.faces + turns_in_all given.turns
few_lefts p given a s v q ends rep prove d b = by_given (turns_given p given d) refl (prove d b).turns
  where
    by_given : (g : Option ℤ) → turns_given p given d ≡ g → AreTurnsKept g (s d) (q (face_at p d)) (q (face_at p (reverse_dart p d))) → lefts (s d) ≤ 4 * (vertices p + 1) + 4 * p.faces + turns_in_all given.turns
    by_given None is kept = free_lefts p given a s v q ends rep prove d b kept
    by_given (Some t) is kept =
        omega (
          arith,
          ap lefts kept,
          lefts_one_way t,
          ap left_part is,
          sum_below-member (darts p) d (λ e. left_part (turns_given p given e)) b,
          all_parts p given left_part right_part ends left_back both_parts,
        )

-- so a string that turns one way only is short
pub short_one_way : (p : PlaneModel) (given : GivenModel) (a : ℕ → ℕ) (s : ℕ → List Turn) (v q : ℕ → ℤ) → HasEnds p → vertices p ≤ MAX_VERTICES → CanBeGiven given.angles given.turns → Rep p a s → ProveKeeping p given a s v q → (d : ℕ) → d < darts p → (lefts (s d) ≡ 0) ⊎ (rights (s d) ≡ 0) → length (s d) ≤ MAX_REPEATS
short_one_way p given a s v q ends order can rep prove d b one =
    elim one [
      | inl no_left ↦ omega (arith, no_left, lefts-add-rights (s d), rights_are p a s rep d b, ends.few_faces, can.few, few_lefts p given a s v q ends rep prove (reverse_dart p d) (ends.reverse_dart_in_range d b))
      | inr no_right ↦ omega (arith, no_right, lefts-add-rights (s d), ends.few_faces, can.few, few_lefts p given a s v q ends rep prove d b)
    ]

-- where nothing is given, each string is
pub few_turns : (p : PlaneModel) (a : ℕ → ℕ) (s : ℕ → List Turn) (v q : ℕ → ℤ) → HasEnds p → vertices p ≤ MAX_VERTICES → Rep p a s → Prove p a s v q → (d : ℕ) → d < darts p → length (s d) ≤ MAX_REPEATS
few_turns p a s v q ends order rep prove d b =
    omega (
      arith,
      lefts-add-rights (s d),
      rights_are p a s rep d b,
      ends.few_faces,
      few_lefts p nothing_given a s v q ends rep prove d b,
      few_lefts p nothing_given a s v q ends rep prove (reverse_dart p d) (ends.reverse_dart_in_range d b),
    )
