-- No inner face of a plane has fewer than three darts.
use Rattle.std.proofs.Common.{◌≡◌, ◌≢◌, ℕ, ◌+◌, ◌<◌, ◌≤◌, ◌==◌, ◌||◌, ◌⊎◌, ◌∙◌, Bool, true, false, cond, eqb, arith, subst, sym, ap, refl, inl, inr}
use Rattle.std.proofs.lemmas.Bool.{cases_eq, eq-eqb, eqb-true, ne_eqb, cond-true, cond-false}
use Rattle.common.specs.Sums.{sum_below}
use Rattle.common.proofs.Sums.{sum_below-le, sum_below-add, sum_below-one}
use Rattle.embedding.proofs.Rotation.{one_dart}
use Rattle.faces.specs.Planes.{PlaneModel, IsPlane, HasEnds, darts, tail, head, reverse_dart, next, face_at, degree}
use Rattle.faces.proofs.Ends.{seven_rules, plane_ends}
use Rattle.faces.proofs.Connected.{all_connected}

-- ---- three places of a sum

at_place : (a i : ℕ) → (cond {A = ℕ} (eqb a i) 1 0 ≡ 0) ⊎ ((a ≡ i) × (cond {A = ℕ} (eqb a i) 1 0 ≡ 1))
at_place a i = elim (cases_eq a i) [
  | inl same ↦ inr (same, cond-true {A = ℕ} (eqb a i) 1 0 (eq-eqb a i same))
  | inr other ↦ inl (cond-false {A = ℕ} (eqb a i) 1 0 (ne_eqb a i other))
]

-- where three summands are 1 or more, the sum is 3 or more
three_places : (n a b c : ℕ) (f : ℕ → ℕ) → a < n → b < n → c < n → a ≢ b → a ≢ c → b ≢ c → 1 ≤ f a → 1 ≤ f b → 1 ≤ f c → 3 ≤ sum_below n f
three_places n a b c f a_in b_in c_in ab ac bc at_a at_b at_c =
    let one : ℕ → ℕ = λ i. cond {A = ℕ} (eqb a i) 1 0 in
    let two : ℕ → ℕ = λ i. cond {A = ℕ} (eqb b i) 1 0 in
    let three : ℕ → ℕ = λ i. cond {A = ℕ} (eqb c i) 1 0 in
    let no_more : (i : ℕ) → i < n → one i + (two i + three i) ≤ f i =
    λ i i_in. elim (at_place a i) [
      | inr at ↦ elim (at_place b i) [
        | inr other ↦ absurd (ab (at.0 ∙ sym other.0))
        | inl none ↦ elim (at_place c i) [
          | inr other ↦ absurd (ac (at.0 ∙ sym other.0))
          | inl none' ↦ omega (arith, at.1, none, none', at_a, ap f at.0)
        ]
      ]
      | inl none ↦ elim (at_place b i) [
        | inr at ↦ elim (at_place c i) [
          | inr other ↦ absurd (bc (at.0 ∙ sym other.0))
          | inl none' ↦ omega (arith, at.1, none, none', at_b, ap f at.0)
        ]
        | inl none' ↦ elim (at_place c i) [
          | inr at ↦ omega (arith, at.1, none, none', at_c, ap f at.0)
          | inl none'' ↦ omega (arith, none, none', none'')
        ]
      ]
    ] in
    omega (
      arith,
      sum_below-le n (λ i. one i + (two i + three i)) f no_more,
      sum_below-add n one (λ i. two i + three i),
      sum_below-add n two three,
      sum_below-one n a (λ _. 1) a_in,
      sum_below-one n b (λ _. 1) b_in,
      sum_below-one n c (λ _. 1) c_in,
    )

-- ---- darts

module _ (p : PlaneModel) (plane : IsPlane p) where
  ends : HasEnds p
  ends = plane_ends p plane

  -- a dart with the ends of d's reverse is that
  is_reverse : (d e : ℕ) → d < darts p → e < darts p → tail p e ≡ head p d → head p e ≡ tail p d → e ≡ reverse_dart p d
  is_reverse d e d_in e_in from to =
      one_dart p.lists (seven_rules p.lists plane.rules) e (reverse_dart p d) e_in (ends.reverse_dart_in_range d d_in)
      (from ∙ sym (ends.reverse_dart_tail d d_in)) (to ∙ sym (ends.reverse_dart_head d d_in))

  -- no dart comes back to where it sets out
  no_loop : (d : ℕ) → d < darts p → tail p d ≢ head p d
  no_loop d d_in same = ends.reverse_dart_apart d d_in (sym (is_reverse d d d_in d_in same (sym same)))

  next_apart : (d : ℕ) → d < darts p → d ≢ next p d
  next_apart d d_in same = no_loop d d_in (ap (tail p) same ∙ ends.next_tail d d_in)

  -- where the walk round a face comes back after two darts, there are no others
  all_of_two : (d : ℕ) → d < darts p → next p (next p d) ≡ d → (x : ℕ) → x < darts p → face_at p x ≡ face_at p d
  all_of_two d d_in back x x_in =
      let e : ℕ = next p d in
      let e_in : e < darts p = ends.next_one.inside d d_in in
      let turned : e ≡ reverse_dart p d =
      is_reverse d e d_in e_in (ends.next_tail d d_in) (sym (ends.next_tail e e_in) ∙ ap (tail p) back) in
      let s : ℕ → Bool = λ k. (k == d) || (k == e) in
      let at_d : s d ≡ true = ap (λ (t : Bool). t || (d == e)) (eq-eqb d d refl) in
      let at_e : s e ≡ true = or_true (e == d) (e == e) (eq-eqb e e refl) in
      let held : s x ≡ true =
      all_connected p.lists (seven_rules p.lists plane.rules) s
      (λ k k_in here. elim (either (k == d) (k == e) here) [
        | inl one ↦ subst (λ (j : ℕ). s j ≡ true) (ap (next p) (sym (eqb-true k d one))) at_e
        | inr two ↦ subst (λ (j : ℕ). s j ≡ true) (sym (ap (next p) (eqb-true k e two) ∙ back)) at_d
      ])
      (λ k k_in here. elim (either (k == d) (k == e) here) [
        | inl one ↦ subst (λ (j : ℕ). s j ≡ true) (turned ∙ ap (reverse_dart p) (sym (eqb-true k d one))) at_e
        | inr two ↦ subst (λ (j : ℕ). s j ≡ true)
            (sym (ap (reverse_dart p) (eqb-true k e two ∙ turned) ∙ ends.reverse_dart_back d d_in)) at_d
      ])
      d x d_in x_in at_d in
      elim (either (x == d) (x == e) held) [
        | inl one ↦ ap (face_at p) (eqb-true x d one)
        | inr two ↦ ap (face_at p) (eqb-true x e two) ∙ plane.faces.closed d d_in
      ]
    where
      or_true : (a b : Bool) → b ≡ true → (a || b) ≡ true
      or_true true b h = refl
      or_true false b h = h

      either : (a b : Bool) → (a || b) ≡ true → (a ≡ true) ⊎ (b ≡ true)
      either true b h = inl refl
      either false b h = inr h

  pub three_darts : (f : ℕ) → f < p.faces → f ≢ p.outer → 3 ≤ degree p f
  three_darts f f_in inner =
      let (d, d_in, of) = plane.faces.used f f_in in
      let e : ℕ = next p d in
      let e_in : e < darts p = ends.next_one.inside d d_in in
      let e_of : face_at p e ≡ f = plane.faces.closed d d_in ∙ of in
      let c : ℕ = next p e in
      let c_in : c < darts p = ends.next_one.inside e e_in in
      let c_of : face_at p c ≡ f = plane.faces.closed e e_in ∙ e_of in
      three_places (darts p) d e c (λ x. cond {A = ℕ} (eqb (face_at p x) f) 1 0) d_in e_in c_in (next_apart d d_in)
      (λ back.
      let (o, o_in, outer) = plane.faces.used p.outer plane.outer in
      inner (sym of ∙ sym (all_of_two d d_in (sym back) o o_in) ∙ outer))
      (next_apart e e_in) (one d of) (one e e_of) (one c c_of)
    where
      one : (x : ℕ) → face_at p x ≡ f → 1 ≤ cond {A = ℕ} (eqb (face_at p x) f) 1 0
      one x at = omega (arith, cond-true {A = ℕ} (eqb (face_at p x) f) 1 0 (eq-eqb (face_at p x) f at))
