-- Splits, chords, cuts and a rectangle keep the chains of darts.
use Rattle.std.proofs.Common.{◌≡◌, ◌≢◌, ℕ, ◌+◌, ◌<◌, ◌≤◌, ◌==◌, if◌then◌else◌, ◌⊎◌, ◌∙◌, arith, subst, sym, ap, refl, inl, inr, eqb}
use Rattle.std.proofs.lemmas.Bool.{cases_eq, cases_lt, eq-eqb, ne_eqb, cond-true, cond-false}
use Rattle.dissect.specs.DartMaps.{DartMap, no_dart, IsTied, IsSubdivided, IsChord, IsCut, IsCutUp, same, further}
use Rattle.dissect.specs.Surrounds.{IsSurrounded, IsEnclosed}
use Rattle.dissect.proofs.Splitting.{by_age, by_place, split_tied}
use Rattle.dissect.specs.Chains.{AreChains}
use Rattle.dissect.proofs.StayingConnected.{cut_tied}
use Rattle.dissect.proofs.Cuts.{IsBeside, chord_beside}
use Rattle.dissect.proofs.SurroundedPaths.{by_side, surrounded_tied, surrounded_beside}

-- a map with chains, whose darts arrive at its vertices
pub record HasChains (v : ℕ) (w : DartMap) : Type 0 where
  pub tied : IsTied w
  pub heads : (a : ℕ) → a < w.darts → w.head a < w.vertices
  pub few : v ≤ w.vertices
  pub chains : AreChains v w

module _ (v : ℕ) (w : DartMap) (e way bend : ℕ) (new : DartMap) (has : HasChains v w) (e_in : e < w.darts) (subdivide : IsSubdivided w e way bend new) where
  abbrev t : ℕ
  t = w.reverse_dart e

  t_in : t < w.darts
  t_in = has.tied.reverse_dart_in e e_in

  -- the dart of the subdivided map that stands where the dart a stood: a new one in place of e and of its reverse
  abbrev stands : ℕ → ℕ
  stands a = if a == e then w.darts else (if a == w.reverse_dart e then w.darts + 1 else a)

  stands_e : stands e ≡ w.darts
  stands_e = cond-true {A = ℕ} (eqb e e) _ _ (eq-eqb e e refl)

  stands_t : stands t ≡ w.darts + 1
  stands_t =
      cond-false {A = ℕ} (eqb t e) _ _ (ne_eqb t e (has.tied.reverse_dart_apart e e_in))
      ∙ cond-true {A = ℕ} (eqb t t) (w.darts + 1) t (eq-eqb t t refl)

  stands_other : (a : ℕ) → a ≢ e → a ≢ t → stands a ≡ a
  stands_other a not_e not_t =
      cond-false {A = ℕ} (eqb a e) _ _ (ne_eqb a e not_e) ∙ cond-false {A = ℕ} (eqb a t) (w.darts + 1) a (ne_eqb a t not_t)

  -- a fact at each dart of the subdivided map
  by_stand : (P : ℕ → Type 0) → P e → P t → ((a : ℕ) → a < w.darts → P (stands a)) → (a : ℕ) → a < new.darts → P a
  by_stand P at_e at_t old a l =
      by_place w.darts e t P at_e at_t
      (λ a l not_e not_t. subst P (stands_other a not_e not_t) (old a l))
      (subst P stands_e (old e e_in)) (subst P stands_t (old t t_in))
      a (omega (arith, l, subdivide.darts))

  -- before it stands what stood there
  stands_before : (a : ℕ) → a < w.darts → new.before (stands a) ≡ w.before a
  stands_before a l =
      elim (cases_eq a e) [
        | inl at ↦ ap (λ (k : ℕ). new.before (stands k)) at ∙ ap new.before stands_e ∙ subdivide.before_first ∙ ap w.before (sym at)
        | inr not_e ↦ elim (cases_eq a t) [
          | inl at ↦ ap (λ (k : ℕ). new.before (stands k)) at ∙ ap new.before stands_t ∙ subdivide.before_second ∙ ap w.before (sym at)
          | inr not_t ↦ ap new.before (stands_other a not_e not_t) ∙ subdivide.before_other a l not_e not_t
        ]
      ]

  -- its reverse is the dart that was
  stands_reverse_dart : (a : ℕ) → a < w.darts → new.reverse_dart (stands a) ≡ w.reverse_dart a
  stands_reverse_dart a l =
      elim (cases_eq a e) [
        | inl at ↦ ap (λ (k : ℕ). new.reverse_dart (stands k)) at ∙ ap new.reverse_dart stands_e ∙ subdivide.reverse_dart_first ∙ ap w.reverse_dart (sym at)
        | inr not_e ↦ elim (cases_eq a t) [
          | inl at ↦
              ap (λ (k : ℕ). new.reverse_dart (stands k)) at ∙ ap new.reverse_dart stands_t ∙ subdivide.reverse_dart_second ∙ sym (has.tied.reverse_dart_back e e_in)
              ∙ ap w.reverse_dart (sym at)
          | inr not_t ↦ ap new.reverse_dart (stands_other a not_e not_t) ∙ subdivide.reverse_dart_other a l not_e not_t
        ]
      ]

  -- and the reverse of an old dart stands where its reverse stood
  reverse_dart_stands : (a : ℕ) → a < w.darts → new.reverse_dart a ≡ stands (w.reverse_dart a)
  reverse_dart_stands a l =
      elim (cases_eq a e) [
        | inl at ↦ ap new.reverse_dart at ∙ subdivide.reverse_dart_e ∙ sym stands_t ∙ ap (λ (k : ℕ). stands (w.reverse_dart k)) (sym at)
        | inr not_e ↦ elim (cases_eq a t) [
          | inl at ↦
              ap new.reverse_dart at ∙ subdivide.reverse_dart_reverse_dart ∙ sym stands_e ∙ ap stands (sym (has.tied.reverse_dart_back e e_in))
              ∙ ap (λ (k : ℕ). stands (w.reverse_dart k)) (sym at)
          | inr not_t ↦
              subdivide.reverse_dart_other a l not_e not_t
              ∙ sym (stands_other (w.reverse_dart a) (λ h. not_t (sym (has.tied.reverse_dart_back a l) ∙ ap w.reverse_dart h))
              (λ h. not_e (sym (has.tied.reverse_dart_back a l) ∙ ap w.reverse_dart h ∙ has.tied.reverse_dart_back e e_in)))
        ]
      ]

  -- a dart that stood before another is one
  real : (a : ℕ) → a < w.darts → w.before a ≢ no_dart → w.before a < w.darts
  real a l some =
      elim (has.chains.inside a l) [
        | inl none ↦ absurd (some none)
        | inr inside ↦ inside
      ]

  -- the vertex before it is an old one
  stands_head : (a : ℕ) → a < w.darts → new.before (stands a) ≢ no_dart → new.head (new.before (stands a)) ≡ w.head (w.before a)
  stands_head a l some =
      let before : new.before (stands a) ≡ w.before a = stands_before a l in
      ap new.head before ∙ subdivide.head_old (w.before a) (real a l (λ h. some (before ∙ h)))

  head_e : new.head (new.before e) ≡ w.vertices
  head_e = ap new.head subdivide.before_e ∙ subdivide.head_first

  head_t : new.head (new.before t) ≡ w.vertices
  head_t = ap new.head subdivide.before_reverse_dart ∙ subdivide.head_second

  old_head : (a : ℕ) → a < w.darts → new.before (stands a) ≢ no_dart → new.head (new.before (stands a)) < w.vertices
  old_head a l some =
      let inside : w.before a < w.darts = real a l (λ h. some (stands_before a l ∙ h)) in
      omega (arith, stands_head a l some, has.heads (w.before a) inside)

  split_back : (a : ℕ) → a < new.darts → new.before a ≢ no_dart → new.before (new.reverse_dart (new.before a)) ≡ new.reverse_dart a
  split_back =
      by_stand (λ (a : ℕ). new.before a ≢ no_dart → new.before (new.reverse_dart (new.before a)) ≡ new.reverse_dart a)
      (λ some. ap (λ (k : ℕ). new.before (new.reverse_dart k)) subdivide.before_e ∙ ap new.before subdivide.reverse_dart_first ∙ subdivide.before_reverse_dart ∙ sym subdivide.reverse_dart_e)
      (λ some. ap (λ (k : ℕ). new.before (new.reverse_dart k)) subdivide.before_reverse_dart ∙ ap new.before subdivide.reverse_dart_second ∙ subdivide.before_e
      ∙ sym subdivide.reverse_dart_reverse_dart)
      (λ a l some.
      let before : new.before (stands a) ≡ w.before a = stands_before a l in
      let some_old : w.before a ≢ no_dart = λ h. some (before ∙ h) in
      let inside : w.before a < w.darts = real a l some_old in
      ap (λ (k : ℕ). new.before (new.reverse_dart k)) before ∙ ap new.before (reverse_dart_stands (w.before a) inside)
      ∙ stands_before (w.reverse_dart (w.before a)) (has.tied.reverse_dart_in (w.before a) inside) ∙ has.chains.back a l some_old
      ∙ sym (stands_reverse_dart a l))

  split_own : (a b : ℕ) → a < new.darts → b < new.darts → new.before a ≢ no_dart → new.before b ≢ no_dart →
      new.head (new.before a) ≡ new.head (new.before b) → (a ≡ b) ⊎ (a ≡ new.reverse_dart (new.before b))
  split_own a b a_in b_in =
      by_stand (λ (a : ℕ). new.before a ≢ no_dart → new.before b ≢ no_dart → new.head (new.before a) ≡ new.head (new.before b) →
      (a ≡ b) ⊎ (a ≡ new.reverse_dart (new.before b)))
      (by_stand (λ (b : ℕ). new.before e ≢ no_dart → new.before b ≢ no_dart → new.head (new.before e) ≡ new.head (new.before b) →
      (e ≡ b) ⊎ (e ≡ new.reverse_dart (new.before b)))
      (λ _ _ _. inl refl)
      (λ _ _ _. inr (sym (ap new.reverse_dart subdivide.before_reverse_dart ∙ subdivide.reverse_dart_second)))
      (λ b l _ some at. absurd (let less = old_head b l some in omega (arith, less, at, head_e)))
      b b_in)
      (by_stand (λ (b : ℕ). new.before t ≢ no_dart → new.before b ≢ no_dart → new.head (new.before t) ≡ new.head (new.before b) →
      (t ≡ b) ⊎ (t ≡ new.reverse_dart (new.before b)))
      (λ _ _ _. inr (sym (ap new.reverse_dart subdivide.before_e ∙ subdivide.reverse_dart_first)))
      (λ _ _ _. inl refl)
      (λ b l _ some at. absurd (let less = old_head b l some in omega (arith, less, at, head_t)))
      b b_in)
      (λ a l. by_stand (λ (b : ℕ). new.before (stands a) ≢ no_dart → new.before b ≢ no_dart →
      new.head (new.before (stands a)) ≡ new.head (new.before b) → (stands a ≡ b) ⊎ (stands a ≡ new.reverse_dart (new.before b)))
      (λ some _ at. absurd (let less = old_head a l some in omega (arith, less, at, head_e)))
      (λ some _ at. absurd (let less = old_head a l some in omega (arith, less, at, head_t)))
      (λ b l_b some_a some_b at.
      let before_b : new.before (stands b) ≡ w.before b = stands_before b l_b in
      let old_a : w.before a ≢ no_dart = λ h. some_a (stands_before a l ∙ h) in
      let old_b : w.before b ≢ no_dart = λ h. some_b (before_b ∙ h) in
      elim (has.chains.own a b l l_b old_a old_b (sym (stands_head a l some_a) ∙ at ∙ stands_head b l_b some_b)) [
        | inl one ↦ inl (ap stands one)
        | inr other ↦ inr (ap stands other ∙ sym (ap new.reverse_dart before_b ∙ reverse_dart_stands (w.before b) (real b l_b old_b)))
      ])
      b b_in)
      a a_in

  -- a subdivision keeps the chains
  pub split_chains : HasChains v new
  split_chains = record {
    tied = split_tied w e way bend new has.tied e_in subdivide;
    heads = λ a l. by_age w.darts (λ (a : ℕ). new.head a < new.vertices)
        (λ a l. omega (arith, subdivide.head_old a l, has.heads a l, subdivide.vertices))
        (omega (arith, subdivide.head_first, subdivide.vertices)) (omega (arith, subdivide.head_second, subdivide.vertices))
        a (omega (arith, subdivide.darts));
    few = omega (arith, has.few, subdivide.vertices);
    chains = record {
      inside = by_stand (λ (a : ℕ). (new.before a ≡ no_dart) ⊎ (new.before a < new.darts))
          (inr (omega (arith, subdivide.before_e, subdivide.darts))) (inr (omega (arith, subdivide.before_reverse_dart, subdivide.darts)))
          (λ a l. elim (has.chains.inside a l) [
            | inl none ↦ inl (stands_before a l ∙ none)
            | inr inside ↦ inr (omega (arith, stands_before a l, inside, subdivide.darts))
          ]);
      back = split_back;
      fresh = by_stand (λ (a : ℕ). new.before a ≢ no_dart → v ≤ new.head (new.before a))
          (λ _. omega (arith, head_e, has.few)) (λ _. omega (arith, head_t, has.few))
          (λ a l some. omega (arith, stands_head a l some, has.chains.fresh a l (λ h. some (stands_before a l ∙ h))));
      own = split_own;
    };
  }

-- darts beside a map, before which none stands and which stand before none, keep its chains
pub beside_chains : (v : ℕ) (w new : DartMap) → HasChains v w → IsBeside w new → IsTied new → w.vertices ≤ new.vertices →
    ((a : ℕ) → a < new.darts → new.head a < new.vertices) → HasChains v new
beside_chains v w new has beside tied more heads =
    let late : (a : ℕ) → a < new.darts → new.before a ≢ no_dart → a < w.darts = λ a l some.
    elim (cases_lt a w.darts) [
      | inl old ↦ old
      | inr fresh ↦ absurd (some (beside.fresh a l fresh))
    ] in
    let real : (a : ℕ) → a < w.darts → w.before a ≢ no_dart → w.before a < w.darts = λ a l some.
    elim (has.chains.inside a l) [
      | inl none ↦ absurd (some none)
      | inr inside ↦ inside
    ] in
    let same : (a : ℕ) → a < w.darts → new.before a ≡ w.before a = λ a l. (beside.kept a l).before in
    let reverse_dart : (a : ℕ) → a < w.darts → new.reverse_dart a ≡ w.reverse_dart a = λ a l. (beside.kept a l).reverse_dart in
    let head : (a : ℕ) → a < w.darts → w.before a ≢ no_dart → new.head (new.before a) ≡ w.head (w.before a) = λ a l some.
    ap new.head (same a l) ∙ beside.keeps.head (w.before a) (real a l some) in
    record {
      tied = tied;
      heads = heads;
      few = omega (arith, has.few, more);
      chains = record {
        inside = λ a l. elim (cases_lt a w.darts) [
          | inl old ↦ elim (has.chains.inside a old) [
            | inl none ↦ inl (same a old ∙ none)
            | inr inside ↦ inr (omega (arith, same a old, inside, beside.keeps.more))
          ]
          | inr fresh ↦ inl (beside.fresh a l fresh)
        ];
        back = λ a l some.
            let old : a < w.darts = late a l some in
            let some_old : w.before a ≢ no_dart = λ h. some (same a old ∙ h) in
            let inside : w.before a < w.darts = real a old some_old in
            ap (λ (k : ℕ). new.before (new.reverse_dart k)) (same a old) ∙ ap new.before (reverse_dart (w.before a) inside)
            ∙ same (w.reverse_dart (w.before a)) (has.tied.reverse_dart_in (w.before a) inside) ∙ has.chains.back a old some_old ∙ sym (reverse_dart a old);
        fresh = λ a l some.
            let old : a < w.darts = late a l some in
            let some_old : w.before a ≢ no_dart = λ h. some (same a old ∙ h) in
            omega (arith, head a old some_old, has.chains.fresh a old some_old);
        own = λ a b l_a l_b some_a some_b at.
            let old_a : a < w.darts = late a l_a some_a in
            let old_b : b < w.darts = late b l_b some_b in
            let some_old_a : w.before a ≢ no_dart = λ h. some_a (same a old_a ∙ h) in
            let some_old_b : w.before b ≢ no_dart = λ h. some_b (same b old_b ∙ h) in
            elim (has.chains.own a b old_a old_b some_old_a some_old_b (sym (head a old_a some_old_a) ∙ at ∙ head b old_b some_old_b)) [
              | inl one ↦ inl one
              | inr other ↦ inr (other ∙ sym (ap new.reverse_dart (same b old_b) ∙ reverse_dart (w.before b) (real b old_b some_old_b)))
            ];
      };
    }

-- a chord keeps the chains
pub chord_chains : (v : ℕ) (w : DartMap) (d f way : ℕ) (new : DartMap) → HasChains v w → d < w.darts → f < w.darts → IsTied new →
    IsChord w d f way new → HasChains v new
chord_chains v w d f way new has d_in f_in tied chord =
    beside_chains v w new has (chord_beside w d f way new has.tied chord) tied (omega (arith, chord.vertices))
    (λ a l. by_age w.darts (λ (a : ℕ). new.head a < new.vertices)
    (λ a l. omega (arith, chord.head_old a l, has.heads a l, chord.vertices))
    (omega (arith, chord.head_there, has.heads f f_in, chord.vertices)) (omega (arith, chord.head_back, has.heads d d_in, chord.vertices))
    a (omega (arith, chord.darts)))

-- and so does a cut
pub cut_chains : (v : ℕ) (w : DartMap) (d e way : ℕ) (new : DartMap) → HasChains v w → IsCut w d e way new → HasChains v new
cut_chains v w d e way new has cut =
    chord_chains v cut.middle d w.darts way new
    (split_chains v w e (w.direction e) 2 cut.middle has cut.e_in cut.subdivide) cut.fits.d_in cut.fits.f_in
    (cut_tied w d e way new has.tied cut) cut.chord

pub cut_up_chains : (v : ℕ) (w new : DartMap) → HasChains v w → IsCutUp w new → HasChains v new
cut_up_chains v w new has same = has
cut_up_chains v w new has (further mid last d e way cut_up cut _) = cut_chains v mid d e way last (cut_up_chains v w mid has cut_up) cut

-- a rectangle beside the map keeps the chains
pub surround_chains : (v : ℕ) (w new : DartMap) → HasChains v w → IsSurrounded w new → HasChains v new
surround_chains v w new has f =
    beside_chains v w new has (surrounded_beside w new has.tied f) (surrounded_tied w new has.tied f) (omega (arith, f.vertices))
    (λ a l. by_side w.darts (λ (a : ℕ). new.head a < new.vertices)
    (λ a l. omega (arith, f.head_old a l, has.heads a l, f.vertices))
    (λ k l. omega (arith, f.head_inside k l, f.vertices)) (λ k l. omega (arith, f.head_outside k l, f.vertices))
    a (omega (arith, f.darts)))

-- and so do its bridge and the cuts after it
pub enclosed_chains : (v : ℕ) (w : DartMap) (outside : ℕ) (new : DartMap) → HasChains v w → IsEnclosed w outside new → HasChains v new
enclosed_chains v w outside new has e =
    cut_up_chains v e.bridged new
    (cut_chains v e.surrounded e.right (w.darts + e.side) e.direction e.bridged (surround_chains v w e.surrounded has e.surround) e.bridge) e.cut_up

-- where no dart stands before another, there are no chains
pub plain_chains : (v : ℕ) (w : DartMap) → IsTied w → ((a : ℕ) → a < w.darts → w.head a < w.vertices) → v ≤ w.vertices →
    ((a : ℕ) → a < w.darts → w.before a ≡ no_dart) → HasChains v w
plain_chains v w tied heads few none = record {
  tied = tied;
  heads = heads;
  few = few;
  chains = record {
    inside = λ a l. inl (none a l);
    back = λ a l some. absurd (some (none a l));
    fresh = λ a l some. absurd (some (none a l));
    own = λ a b l_a l_b some_a some_b at. absurd (some_a (none a l_a));
  };
}
