-- Round a vertex no dart lies in the angle between a dart and the next one of its face.
use Rattle.std.proofs.Common.{◌≡◌, ◌≢◌, ℕ, zero, suc, ◌+◌, ◌-◌, ◌*◌, ◌%◌, ◌<◌, ◌≤◌, ◌∙◌, Bool, true, false, cond, eqb, ltb, arith, subst, sym, ap, refl, inl, inr}
use Rattle.std.proofs.lemmas.Bool.{cases_eq, cases_lt, lt-ltb, eq-eqb, ne_eqb, cond-true, cond-false}
use Rattle.common.specs.Sums.{sum_below}
use Rattle.common.proofs.Sums.{sum_below-same, sum_below-add, sum_below-member, sum_below-changed}
use Rattle.embedding.specs.Darts.{IsOneToOne}
use Rattle.dissect.proofs.SumsAndMaps.{onto}

-- two summands
two_members : (n a b : ℕ) (f : ℕ → ℕ) → a < n → b < n → a ≢ b → f a + f b ≤ sum_below n f
two_members n a b f a_in b_in apart =
    let g : ℕ → ℕ = λ i. cond (eqb i a) 0 (f i) in
    let here : g a ≡ 0 = cond-true (eqb a a) 0 (f a) (eq-eqb a a refl) in
    let there : g b ≡ f b = cond-false (eqb b a) 0 (f b) (ne_eqb b a (λ same. apart (sym same))) in
    let both : sum_below n f + g a ≡ sum_below n g + f a =
    sum_below-changed n a f g a_in (λ i _ other. sym (cond-false (eqb i a) 0 (f i) (ne_eqb i a other))) in
    omega (arith, here, there, both, sum_below-member n b g b_in)

four_cond : (b : Bool) (x y z w t : ℕ) → x + y + z + w ≡ t → cond b x 0 + cond b y 0 + cond b z 0 + cond b w 0 ≡ cond b t 0
four_cond true x y z w t same = same
four_cond false x y z w t same = refl

-- whether the side j is one of the first `a` from side s on, to the left
covered : ℕ → ℕ → ℕ → ℕ
covered s a j = cond (ltb ((j + 4 - s) % 4) a) 1 0

covered_is : (s a j : ℕ) → (j + 4 - s) % 4 < a → covered s a j ≡ 1
unfolding covered
covered_is s a j less = cond-true (ltb ((j + 4 - s) % 4) a) 1 0 (lt-ltb ((j + 4 - s) % 4) a less)

count_four : (s a : ℕ) → s < 4 → 1 ≤ a → a ≤ 4 → covered s a 0 + covered s a 1 + covered s a 2 + covered s a 3 ≡ a
unfolding covered
count_four zero (suc zero) _ _ _ = refl
count_four zero (suc (suc zero)) _ _ _ = refl
count_four zero (suc (suc (suc zero))) _ _ _ = refl
count_four zero (suc (suc (suc (suc zero)))) _ _ _ = refl
count_four (suc zero) (suc zero) _ _ _ = refl
count_four (suc zero) (suc (suc zero)) _ _ _ = refl
count_four (suc zero) (suc (suc (suc zero))) _ _ _ = refl
count_four (suc zero) (suc (suc (suc (suc zero)))) _ _ _ = refl
count_four (suc (suc zero)) (suc zero) _ _ _ = refl
count_four (suc (suc zero)) (suc (suc zero)) _ _ _ = refl
count_four (suc (suc zero)) (suc (suc (suc zero))) _ _ _ = refl
count_four (suc (suc zero)) (suc (suc (suc (suc zero)))) _ _ _ = refl
count_four (suc (suc (suc zero))) (suc zero) _ _ _ = refl
count_four (suc (suc (suc zero))) (suc (suc zero)) _ _ _ = refl
count_four (suc (suc (suc zero))) (suc (suc (suc zero))) _ _ _ = refl
count_four (suc (suc (suc zero))) (suc (suc (suc (suc zero)))) _ _ _ = refl
count_four (suc (suc (suc (suc s)))) a few _ _ = absurd (omega (arith, few))
count_four s zero few some most = absurd (omega (arith, some))
count_four s (suc (suc (suc (suc (suc a))))) few some most = absurd (omega (arith, most))

-- a step to the right, within the sides from s on
step_within : (j s a : ℕ) → j < 4 → s < 4 → 0 < (j + 4 - s) % 4 → (j + 4 - s) % 4 < a → ((j + 3) % 4 + 4 - s) % 4 < a
step_within j s a few small more less = omega (arith, few, small, more, less)

-- and from the first of them to the last of those before
step_over : (j s s2 a : ℕ) → j < 4 → s < 4 → s2 < 4 → 1 ≤ a → a ≤ 4 → (j + 4 - s) % 4 ≡ 0 → s ≡ (s2 + a) % 4 → ((j + 3) % 4 + 4 - s2) % 4 < a
step_over j s s2 a few small small2 some most none turn =
    let at : j ≡ s = omega (arith, few, small, none) in
    omega (arith, few, small2, some, most, at, turn)

-- n darts arrive at vertices, each on one of the four sides, and the one that arrives next clockwise lies after its angle
pub record AreRound (n : ℕ) (head side angle behind : ℕ → ℕ) (v : ℕ) : Type 0 where
  pub one : IsOneToOne n behind
  pub there : (d : ℕ) → d < n → head (behind d) ≡ head d
  pub quarter : (d : ℕ) → d < n → side d < 4
  pub some : (d : ℕ) → d < n → 1 ≤ angle d
  pub most : (d : ℕ) → d < n → angle d ≤ 4
  pub turns : (d : ℕ) → d < n → side d ≡ (side (behind d) + angle d) % 4
  pub whole : sum_below n (λ d. cond (eqb (head d) v) (angle d) 0) ≡ 4

module _ (n : ℕ) (head side angle behind : ℕ → ℕ) (v : ℕ) (is : AreRound n head side angle behind v) where
  abbrev Covers : ℕ → ℕ → Type 0
  Covers d j = (d < n) × (head d ≡ v) × ((j + 4 - side (behind d)) % 4 < angle d)

  summand : ℕ → ℕ → ℕ
  summand j d = cond (eqb (head d) v) (covered (side (behind d)) (angle d) j) 0

  summand_one : (d j : ℕ) → Covers d j → summand j d ≡ 1
  unfolding summand
  summand_one d j (d_in, at, less) =
      cond-true (eqb (head d) v) (covered (side (behind d)) (angle d) j) 0 (eq-eqb (head d) v at) ∙ covered_is (side (behind d)) (angle d) j less

  all_four : sum_below n (summand 0) + sum_below n (summand 1) + sum_below n (summand 2) + sum_below n (summand 3) ≡ 4
  unfolding summand
  all_four =
      let one : sum_below n (λ d. summand 0 d + summand 1 d) ≡ sum_below n (summand 0) + sum_below n (summand 1) = sum_below-add n (summand 0) (summand 1) in
      let two : sum_below n (λ d. summand 0 d + summand 1 d + summand 2 d) ≡ sum_below n (λ d. summand 0 d + summand 1 d) + sum_below n (summand 2) =
      sum_below-add n (λ d. summand 0 d + summand 1 d) (summand 2) in
      let three : sum_below n (λ d. summand 0 d + summand 1 d + summand 2 d + summand 3 d) ≡ sum_below n (λ d. summand 0 d + summand 1 d + summand 2 d) + sum_below n (summand 3) =
      sum_below-add n (λ d. summand 0 d + summand 1 d + summand 2 d) (summand 3) in
      let same : sum_below n (λ d. summand 0 d + summand 1 d + summand 2 d + summand 3 d) ≡ sum_below n (λ d. cond (eqb (head d) v) (angle d) 0) =
      sum_below-same n (λ d. summand 0 d + summand 1 d + summand 2 d + summand 3 d) (λ d. cond (eqb (head d) v) (angle d) 0)
      (λ d d_in. let s : ℕ = side (behind d) in
      four_cond (eqb (head d) v) (covered s (angle d) 0) (covered s (angle d) 1) (covered s (angle d) 2) (covered s (angle d) 3) (angle d)
      (count_four s (angle d) (is.quarter (behind d) (is.one.inside d d_in)) (is.some d d_in) (is.most d d_in))) in
      omega (arith, one, two, three, same, is.whole)

  -- from a side that is covered the next to the right is
  step : (j : ℕ) → j < 4 → (d : ℕ) × Covers d j → (e : ℕ) × Covers e ((j + 3) % 4)
  step j few (d, (d_in, at, less)) =
      let b : ℕ = behind d in
      let b_in = is.one.inside d d_in in
      let c_in = is.one.inside b b_in in
      elim (cases_lt 0 ((j + 4 - side b) % 4)) [
        | inl more ↦ (d, (d_in, at, step_within j (side b) (angle d) few (is.quarter b b_in) more less))
        | inr none ↦ (
          b,
          (
            b_in,
            is.there d d_in ∙ at,
            step_over j (side b) (side (behind b)) (angle b) few (is.quarter b b_in) (is.quarter (behind b) c_in) (is.some b b_in) (is.most b b_in) (omega (arith, none)) (is.turns b b_in),
          ),
        )
      ]

  steps : (s k : ℕ) → s < 4 → (d : ℕ) × Covers d s → (e : ℕ) × Covers e ((s + 3 * k) % 4)
  steps s zero few first =
      let at : s ≡ (s + 3 * 0) % 4 = omega (arith, few) in
      subst (λ (j : ℕ). (e : ℕ) × Covers e j) at first
  steps s (suc k) few first =
      let at : ((s + 3 * k) % 4 + 3) % 4 ≡ (s + 3 * suc k) % 4 = omega (arith, few) in
      subst (λ (j : ℕ). (e : ℕ) × Covers e j) at (step ((s + 3 * k) % 4) (omega arith) (steps s k few first))

  -- so each side is
  each : (d j : ℕ) → d < n → head d ≡ v → j < 4 → 1 ≤ sum_below n (summand j)
  each d j d_in at few =
      let s : ℕ = side (behind d) in
      let small : s < 4 = is.quarter (behind d) (is.one.inside d d_in) in
      let none : (s + 4 - s) % 4 ≡ 0 = omega arith in
      let first : Covers d s = (d_in, at, omega (arith, none, is.some d d_in)) in
      let to : (s + 3 * (s + 4 - j)) % 4 ≡ j = omega (arith, few, small) in
      let (e, covers) = subst (λ (i : ℕ). (e : ℕ) × Covers e i) to (steps s (s + 4 - j) small (d, first)) in
      omega (arith, summand_one e j covers, sum_below-member n e (summand j) covers.0)

  -- and by one dart alone
  alone : (d e j : ℕ) → j < 4 → Covers d j → Covers e j → d ≡ e
  alone d e j few one two =
      elim (cases_eq d e) [
        | inl same ↦ same
        | inr other ↦
            let some : (i : ℕ) → i < 4 → 1 ≤ sum_below n (summand i) = λ i i_in. each d i one.0 one.1 i_in in
            let pair = two_members n d e (summand j) one.0 two.0 other in
            let big : 2 ≤ sum_below n (summand j) = omega (arith, pair, summand_one d j one, summand_one e j two) in
            absurd (too_many (sum_below n (summand 0)) (sum_below n (summand 1)) (sum_below n (summand 2)) (sum_below n (summand 3)) j few
            (λ i. sum_below n (summand i)) refl refl refl refl big (some 0 (omega arith)) (some 1 (omega arith)) (some 2 (omega arith)) (some 3 (omega arith)) all_four)
      ]
    where
      too_many : (a b c d j : ℕ) → j < 4 → (f : ℕ → ℕ) → f 0 ≡ a → f 1 ≡ b → f 2 ≡ c → f 3 ≡ d → 2 ≤ f j → 1 ≤ a → 1 ≤ b → 1 ≤ c → 1 ≤ d → a + b + c + d ≡ 4 → ⊥
      too_many a b c d zero few f h i k l big sa sb sc sd sum = omega (arith, h, big, sa, sb, sc, sd, sum)
      too_many a b c d (suc zero) few f h i k l big sa sb sc sd sum = omega (arith, i, big, sa, sb, sc, sd, sum)
      too_many a b c d (suc (suc zero)) few f h i k l big sa sb sc sd sum = omega (arith, k, big, sa, sb, sc, sd, sum)
      too_many a b c d (suc (suc (suc zero))) few f h i k l big sa sb sc sd sum = omega (arith, l, big, sa, sb, sc, sd, sum)
      too_many a b c d (suc (suc (suc (suc j)))) few f h i k l big sa sb sc sd sum = omega (arith, few)

  -- no dart arrives within the angle of another
  pub sector_free : (d e k : ℕ) → d < n → e < n → head d ≡ v → head e ≡ v → 1 ≤ k → k < angle d → side e ≡ (side (behind d) + k) % 4 → ⊥
  sector_free d e k d_in e_in at to first last same =
      let (c, c_in, back) = onto n behind is.one e e_in in
      let b_in = is.one.inside d d_in in
      let small = is.quarter (behind d) b_in in
      let most = is.most d d_in in
      let few : side e < 4 = is.quarter e e_in in
      let mine : side (behind c) ≡ side e = ap side back in
      let none : (side e + 4 - side (behind c)) % 4 ≡ 0 = omega (arith, mine) in
      let here : Covers c (side e) = (c_in, sym (is.there c c_in) ∙ ap head back ∙ to, omega (arith, none, is.some c c_in)) in
      let turn : (side e + 4 - side (behind d)) % 4 ≡ k = offset (side e) (side (behind d)) k (angle d) small last most same in
      let there : Covers d (side e) = (d_in, at, omega (arith, turn, last)) in
      let one : c ≡ d = alone c d (side e) few here there in
      let again : side e ≡ side (behind d) = sym mine ∙ ap (λ (i : ℕ). side (behind i)) one in
      omega (arith, again, same, small, first, last, most)
    where
      offset : (s t k a : ℕ) → t < 4 → k < a → a ≤ 4 → s ≡ (t + k) % 4 → (s + 4 - t) % 4 ≡ k
      offset s t k a small less most same = omega (arith, small, less, most, same)
