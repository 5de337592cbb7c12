-- In which face of the plane each dart lies: subdivisions, chords, cuts and a rectangle keep it.
use Rattle.std.proofs.Common.{◌≡◌, ◌≢◌, ℕ, ◌+◌, ◌<◌, ◌≤◌, ◌==◌, if◌then◌else◌, ◌⊎◌, ◌∙◌, cond, eqb, ltb, arith, subst, sym, ap, refl, inl, inr}
use Rattle.std.proofs.lemmas.Bool.{cases_eq, cases_lt, eq-eqb, ne_eqb, lt-ltb, le-ltb, cond-true, cond-false}
use Rattle.dissect.specs.DartMaps.{DartMap, no_dart, IsTied, IsSubdivided, IsChord, IsCut, IsCutUp, same, further}
use Rattle.dissect.specs.Surrounds.{IsSurrounded, IsEnclosed}
use Rattle.dissect.proofs.Splitting.{by_age, by_place, split_tied}
use Rattle.dissect.proofs.StayingConnected.{cut_tied}
use Rattle.dissect.proofs.Cuts.{IsBeside, chord_beside}
use Rattle.dissect.proofs.Keeping.{cut_keeps, cut_up_keeps}
use Rattle.dissect.proofs.SurroundedPaths.{by_side, surrounded_tied, surrounded_beside}

-- the dart d leads to d, and what leads to it leads to the dart before
pub data LeadsTo (w : DartMap) (d : ℕ) : ℕ → Type 0 where
  there : LeadsTo w d d
  on : (a : ℕ) → LeadsTo w d a → a < w.darts → w.before a ≢ no_dart → LeadsTo w d (w.before a)

pub leads_on : (w : DartMap) (d b c : ℕ) → b < w.darts → LeadsTo w d b → w.before b ≡ c → c ≢ no_dart → LeadsTo w d c
leads_on w d b c b_in leads at some = subst (LeadsTo w d) at (on b leads b_in (λ h. some (sym at ∙ h)))

-- a labelling, where what d leads to is known step by step
pub record AreLabels (n : ℕ) (face : ℕ → ℕ) (w : DartMap) (label : ℕ → ℕ) : Type 0 where
  pub tied : IsTied w
  pub few : n ≤ w.darts
  pub inside : (a : ℕ) → a < w.darts → (w.before a ≡ no_dart) ⊎ (w.before a < w.darts)
  pub round : (a : ℕ) → a < w.darts → label (w.next a) ≡ label a
  pub parts : (d a : ℕ) → d < n → LeadsTo w d a → label a ≡ face d
  pub sides : (a : ℕ) → a < w.darts → ((d : ℕ) × (d < n) × LeadsTo w d a) ⊎ (label (w.reverse_dart a) ≡ label a)

-- the map `new` has labels too, in which the darts of w keep theirs
pub record GoOn (n : ℕ) (face : ℕ → ℕ) (w : DartMap) (label : ℕ → ℕ) (new : DartMap) : Type 0 where
  pub now : ℕ → ℕ
  pub are : AreLabels n face new now
  pub kept : (a : ℕ) → a < w.darts → now a ≡ label a

-- what stands before a dart is one
pub real_before : (n : ℕ) (face : ℕ → ℕ) (w : DartMap) (label : ℕ → ℕ) → AreLabels n face w label → (a : ℕ) → a < w.darts → w.before a ≢ no_dart →
    w.before a < w.darts
real_before n face w label are a l some =
    elim (are.inside a l) [
      | inl none ↦ absurd (some none)
      | inr inside ↦ inside
    ]

-- the darts m and m + 1 stand in the place of x and y, each other dart in its own
abbrev pub stood : ℕ → ℕ → ℕ → ℕ → ℕ
stood m x y a = if a == m then x else (if a == m + 1 then y else a)

pub stood_first : (m x y : ℕ) → stood m x y m ≡ x
stood_first m x y = cond-true {A = ℕ} (eqb m m) _ _ (eq-eqb m m refl)

pub stood_second : (m x y : ℕ) → stood m x y (m + 1) ≡ y
stood_second m x y =
    cond-false {A = ℕ} (eqb (m + 1) m) _ _ (ne_eqb (m + 1) m (λ h. omega (arith, h)))
    ∙ cond-true {A = ℕ} (eqb (m + 1) (m + 1)) y (m + 1) (eq-eqb (m + 1) (m + 1) refl)

pub stood_old : (m x y a : ℕ) → a < m → stood m x y a ≡ a
stood_old m x y a l =
    cond-false {A = ℕ} (eqb a m) _ _ (ne_eqb a m (λ h. omega (arith, h, l)))
    ∙ cond-false {A = ℕ} (eqb a (m + 1)) y a (ne_eqb a (m + 1) (λ h. omega (arith, h, l)))

-- ---- a subdivision

module _ (n : ℕ) (face : ℕ → ℕ) (w : DartMap) (label : ℕ → ℕ) (e way bend : ℕ) (new : DartMap) (are : AreLabels n face w label) (e_in : e < w.darts)
    (fits : new.darts ≤ no_dart) (s : IsSubdivided w e way bend new) where
  abbrev t : ℕ
  t = w.reverse_dart e

  t_in : t < w.darts
  t_in = are.tied.reverse_dart_in e e_in

  -- the new darts lie where e and its reverse do
  abbrev place : ℕ → ℕ
  place a = stood w.darts e (w.reverse_dart e) a

  place_old : (a : ℕ) → a < w.darts → place a ≡ a
  place_old a l = stood_old w.darts e t a l

  place_first : place w.darts ≡ e
  place_first = stood_first w.darts e t

  place_second : place (w.darts + 1) ≡ t
  place_second = stood_second w.darts e t

  -- the dart before one of d's darts is one of them
  before_old : (d b c : ℕ) → b < w.darts → LeadsTo w d b → c ≡ w.before b → c ≢ no_dart → LeadsTo w d (place c)
  before_old d b c b_in leads at some =
      let some_old : w.before b ≢ no_dart = λ h. some (at ∙ h) in
      subst (LeadsTo w d) (sym (ap place at ∙ place_old (w.before b) (real_before n face w label are b b_in some_old))) (on b leads b_in some_old)

  before_leads : (d a : ℕ) → a < new.darts → LeadsTo w d (place a) → new.before a ≢ no_dart → LeadsTo w d (place (new.before a))
  before_leads d a l =
      by_place w.darts e t (λ (a : ℕ). LeadsTo w d (place a) → new.before a ≢ no_dart → LeadsTo w d (place (new.before a)))
      (λ leads _. subst (LeadsTo w d) (place_old e e_in ∙ sym (ap place s.before_e ∙ place_first)) leads)
      (λ leads _. subst (LeadsTo w d) (place_old t t_in ∙ sym (ap place s.before_reverse_dart ∙ place_second)) leads)
      (λ a l not_e not_t leads some. before_old d a (new.before a) l (subst (LeadsTo w d) (place_old a l) leads) (s.before_other a l not_e not_t) some)
      (λ leads some. before_old d e (new.before w.darts) e_in (subst (LeadsTo w d) place_first leads) s.before_first some)
      (λ leads some. before_old d t (new.before (w.darts + 1)) t_in (subst (LeadsTo w d) place_second leads) s.before_second some)
      a (omega (arith, l, s.darts))

  split_leads : (d a : ℕ) → d < w.darts → LeadsTo new d a → LeadsTo w d (place a)
  split_leads d _ d_in there = subst (LeadsTo w d) (sym (place_old d d_in)) there
  split_leads d _ d_in (on a more l some) = before_leads d a l (split_leads d a d_in more) some

  -- and what d led to it leads to still
  held_before : (d a : ℕ) → a < w.darts → w.before a ≢ no_dart → LeadsTo new d a → LeadsTo new d (w.before a)
  held_before d a l some leads =
      let a_in : a < new.darts = omega (arith, l, s.darts) in
      elim (cases_eq a e) [
        | inl at ↦
            let first : LeadsTo new d w.darts =
            leads_on new d a w.darts a_in leads (ap new.before at ∙ s.before_e) (λ h. omega (arith, h, fits, s.darts)) in
            leads_on new d w.darts (w.before a) (omega (arith, s.darts)) first (s.before_first ∙ ap w.before (sym at)) some
        | inr not_e ↦ elim (cases_eq a t) [
          | inl at ↦
              let second : LeadsTo new d (w.darts + 1) =
              leads_on new d a (w.darts + 1) a_in leads (ap new.before at ∙ s.before_reverse_dart) (λ h. omega (arith, h, fits, s.darts)) in
              leads_on new d (w.darts + 1) (w.before a) (omega (arith, s.darts)) second (s.before_second ∙ ap w.before (sym at)) some
          | inr not_t ↦ leads_on new d a (w.before a) a_in leads (s.before_other a l not_e not_t) some
        ]
      ]

  held : (d a : ℕ) → LeadsTo w d a → LeadsTo new d a
  held d _ there = there
  held d _ (on a more l some) = held_before d a l some (held d a more)

  held_place : (d a : ℕ) → a < new.darts → LeadsTo w d (place a) → LeadsTo new d a
  held_place d a l =
      by_age w.darts (λ (a : ℕ). LeadsTo w d (place a) → LeadsTo new d a)
      (λ a l leads. held d a (subst (LeadsTo w d) (place_old a l) leads))
      (λ leads. leads_on new d e w.darts (omega (arith, e_in, s.darts)) (held d e (subst (LeadsTo w d) place_first leads)) s.before_e
      (λ h. omega (arith, h, fits, s.darts)))
      (λ leads. leads_on new d t (w.darts + 1) (omega (arith, t_in, s.darts)) (held d t (subst (LeadsTo w d) place_second leads)) s.before_reverse_dart
      (λ h. omega (arith, h, fits, s.darts)))
      a (omega (arith, l, s.darts))

  -- the reverse of a dart lies where the reverse of its place does
  place_reverse : (a : ℕ) → a < new.darts → place (new.reverse_dart a) ≡ w.reverse_dart (place a)
  place_reverse a l =
      by_place w.darts e t (λ (a : ℕ). place (new.reverse_dart a) ≡ w.reverse_dart (place a))
      (ap place s.reverse_dart_e ∙ place_second ∙ ap w.reverse_dart (sym (place_old e e_in)))
      (ap place s.reverse_dart_reverse_dart ∙ place_first ∙ sym (are.tied.reverse_dart_back e e_in) ∙ ap w.reverse_dart (sym (place_old t t_in)))
      (λ a l not_e not_t. ap place (s.reverse_dart_other a l not_e not_t) ∙ place_old (w.reverse_dart a) (are.tied.reverse_dart_in a l)
      ∙ ap w.reverse_dart (sym (place_old a l)))
      (ap place s.reverse_dart_first ∙ place_old t t_in ∙ ap w.reverse_dart (sym place_first))
      (ap place s.reverse_dart_second ∙ place_old e e_in ∙ sym (are.tied.reverse_dart_back e e_in) ∙ ap w.reverse_dart (sym place_second))
      a (omega (arith, l, s.darts))

  split_round : (a : ℕ) → a < new.darts → label (place (new.next a)) ≡ label (place a)
  split_round a l =
      let c_in = are.tied.prev_in e e_in in
      let p_in = are.tied.prev_in t t_in in
      by_place w.darts (w.prev e) (w.prev t) (λ (a : ℕ). label (place (new.next a)) ≡ label (place a))
      (ap (λ (k : ℕ). label (place k)) s.next_before ∙ ap label place_first ∙ ap label (sym (are.tied.prev_back e e_in)) ∙ are.round (w.prev e) c_in
      ∙ ap label (sym (place_old (w.prev e) c_in)))
      (ap (λ (k : ℕ). label (place k)) s.next_back ∙ ap label place_second ∙ ap label (sym (are.tied.prev_back t t_in)) ∙ are.round (w.prev t) p_in
      ∙ ap label (sym (place_old (w.prev t) p_in)))
      (λ a l not_c not_p. ap (λ (k : ℕ). label (place k)) (s.next_other a l not_c not_p) ∙ ap label (place_old (w.next a) (are.tied.next_in a l)) ∙ are.round a l
      ∙ ap label (sym (place_old a l)))
      (ap (λ (k : ℕ). label (place k)) s.next_first ∙ ap label (place_old e e_in) ∙ ap label (sym place_first))
      (ap (λ (k : ℕ). label (place k)) s.next_second ∙ ap label (place_old t t_in) ∙ ap label (sym place_second))
      a (omega (arith, l, s.darts))

  split_inside : (a : ℕ) → a < new.darts → (new.before a ≡ no_dart) ⊎ (new.before a < new.darts)
  split_inside a l =
      let kept : (a b : ℕ) → a < w.darts → new.before b ≡ w.before a → (new.before b ≡ no_dart) ⊎ (new.before b < new.darts) = λ a b l at.
      elim (are.inside a l) [
        | inl none ↦ inl (at ∙ none)
        | inr inside ↦ inr (omega (arith, at, inside, s.darts))
      ] in
      by_place w.darts e t (λ (a : ℕ). (new.before a ≡ no_dart) ⊎ (new.before a < new.darts))
      (inr (omega (arith, s.before_e, s.darts))) (inr (omega (arith, s.before_reverse_dart, s.darts)))
      (λ a l not_e not_t. kept a a l (s.before_other a l not_e not_t))
      (kept e w.darts e_in s.before_first) (kept t (w.darts + 1) t_in s.before_second)
      a (omega (arith, l, s.darts))

  place_in : (a : ℕ) → a < new.darts → place a < w.darts
  place_in a l =
      by_age w.darts (λ (a : ℕ). place a < w.darts) (λ a l. omega (arith, place_old a l, l)) (omega (arith, place_first, e_in))
      (omega (arith, place_second, t_in)) a (omega (arith, l, s.darts))

  pub split_labels : AreLabels n face new (λ a. label (place a))
  split_labels = record {
    tied = split_tied w e way bend new are.tied e_in s;
    few = omega (arith, are.few, s.darts);
    inside = split_inside;
    round = split_round;
    parts = λ d a d_in leads. are.parts d (place a) d_in (split_leads d a (omega (arith, d_in, are.few)) leads);
    sides = λ a l. elim (are.sides (place a) (place_in a l)) [
      | inl (d, d_in, leads) ↦ inl (d, d_in, held_place d a l leads)
      | inr level ↦ inr (ap label (place_reverse a l) ∙ level)
    ];
  }

-- ---- darts beside a map, before which none stands and which stand before none

module _ (n : ℕ) (face : ℕ → ℕ) (w : DartMap) (label : ℕ → ℕ) (new : DartMap) (now : ℕ → ℕ) (are : AreLabels n face w label) (tied : IsTied new)
    (beside : IsBeside w new) (kept : (a : ℕ) → a < w.darts → now a ≡ label a) (round : (a : ℕ) → a < new.darts → now (new.next a) ≡ now a)
    (fresh : (a : ℕ) → a < new.darts → w.darts ≤ a → now (new.reverse_dart a) ≡ now a) where
  beside_leads : (d a : ℕ) → d < w.darts → LeadsTo new d a → (a < w.darts) × LeadsTo w d a
  beside_leads d _ d_in there = (d_in, there)
  beside_leads d _ d_in (on a more l some) =
      let old = beside_leads d a d_in more in
      let at : new.before a ≡ w.before a = (beside.kept a old.0).before in
      let some_old : w.before a ≢ no_dart = λ h. some (at ∙ h) in (
        omega (arith, at, real_before n face w label are a old.0 some_old),
        subst (LeadsTo w d) (sym at) (on a old.1 old.0 some_old),
      )

  beside_held : (d a : ℕ) → LeadsTo w d a → LeadsTo new d a
  beside_held d _ there = there
  beside_held d _ (on a more l some) =
      leads_on new d a (w.before a) (omega (arith, l, beside.keeps.more)) (beside_held d a more) (beside.kept a l).before some

  pub beside_labels : AreLabels n face new now
  beside_labels = record {
    tied = tied;
    few = omega (arith, are.few, beside.keeps.more);
    inside = λ a l. elim (cases_lt a w.darts) [
      | inl old ↦ elim (are.inside a old) [
        | inl none ↦ inl ((beside.kept a old).before ∙ none)
        | inr inside ↦ inr (omega (arith, (beside.kept a old).before, inside, beside.keeps.more))
      ]
      | inr late ↦ inl (beside.fresh a l late)
    ];
    round = round;
    parts = λ d a d_in leads.
        let old = beside_leads d a (omega (arith, d_in, are.few)) leads in
        kept a old.0 ∙ are.parts d a d_in old.1;
    sides = λ a l. elim (cases_lt a w.darts) [
      | inl old ↦ elim (are.sides a old) [
        | inl (d, d_in, leads) ↦ inl (d, d_in, beside_held d a leads)
        | inr level ↦ inr (ap now (beside.kept a old).reverse_dart ∙ kept (w.reverse_dart a) (are.tied.reverse_dart_in a old) ∙ level ∙ sym (kept a old))
      ]
      | inr late ↦ inr (fresh a l late)
    ];
  }

-- ---- a chord across one face, or between two that lie in one face of the plane

pub chord_labels : (n : ℕ) (face : ℕ → ℕ) (w : DartMap) (label : ℕ → ℕ) (d f way : ℕ) (new : DartMap) → AreLabels n face w label → d < w.darts → f < w.darts →
    label d ≡ label f → IsTied new → IsChord w d f way new → GoOn n face w label new
chord_labels n face w label d f way new are d_in f_in one tied c =
    let place : ℕ → ℕ = stood w.darts d f in
    let old : (a : ℕ) → a < w.darts → place a ≡ a = stood_old w.darts d f in
    let first : place w.darts ≡ d = stood_first w.darts d f in
    let second : place (w.darts + 1) ≡ f = stood_second w.darts d f in
    let now : ℕ → ℕ = λ a. label (place a) in
    let kept : (a : ℕ) → a < w.darts → now a ≡ label a = λ a l. ap label (old a l) in
    record {
      now = now;
      are = beside_labels n face w label new now are tied (chord_beside w d f way new are.tied c) kept
          (λ a l. by_place w.darts d f (λ (a : ℕ). now (new.next a) ≡ now a)
          (ap now c.next_d ∙ ap label first ∙ ap label (sym (old d d_in)))
          (ap now c.next_f ∙ ap label second ∙ ap label (sym (old f f_in)))
          (λ a l not_d not_f. ap now (c.next_other a l not_d not_f) ∙ ap label (old (w.next a) (are.tied.next_in a l)) ∙ are.round a l ∙ ap label (sym (old a l)))
          (ap now c.next_there ∙ ap label (old (w.next f) (are.tied.next_in f f_in)) ∙ are.round f f_in ∙ sym one ∙ ap label (sym first))
          (ap now c.next_back ∙ ap label (old (w.next d) (are.tied.next_in d d_in)) ∙ are.round d d_in ∙ one ∙ ap label (sym second))
          a (omega (arith, l, c.darts)))
          (λ a l late. by_age w.darts (λ (a : ℕ). w.darts ≤ a → now (new.reverse_dart a) ≡ now a)
          (λ a l late. absurd (omega (arith, l, late)))
          (λ _. ap now c.reverse_dart_there ∙ ap label second ∙ sym one ∙ ap label (sym first))
          (λ _. ap now c.reverse_dart_back ∙ ap label first ∙ one ∙ ap label (sym second))
          a (omega (arith, l, c.darts)) late);
      kept = kept;
    }

-- ---- a cut

pub go_on : (n : ℕ) (face : ℕ → ℕ) (w : DartMap) (label : ℕ → ℕ) (mid new : DartMap) → w.darts ≤ mid.darts → (first : GoOn n face w label mid) →
    GoOn n face mid first.now new → GoOn n face w label new
go_on n face w label mid new more first second = record {
  now = second.now;
  are = second.are;
  kept = λ a l. second.kept a (omega (arith, l, more)) ∙ first.kept a l;
}

pub cut_labels : (n : ℕ) (face : ℕ → ℕ) (w : DartMap) (label : ℕ → ℕ) (d e way : ℕ) (new : DartMap) → AreLabels n face w label → new.darts ≤ no_dart →
    label d ≡ label e → IsCut w d e way new → GoOn n face w label new
cut_labels n face w label d e way new are fits one cut =
    let fits_middle : cut.middle.darts ≤ no_dart = omega (arith, fits, cut.chord.darts) in
    let t : ℕ = w.reverse_dart e in
    let now : ℕ → ℕ = λ a. label (stood w.darts e t a) in
    let middle : AreLabels n face cut.middle now = split_labels n face w label e (w.direction e) 2 cut.middle are cut.e_in fits_middle cut.subdivide in
    let at_d : now d ≡ label d = ap label (stood_old w.darts e t d cut.d_in) in
    let at_e : now w.darts ≡ label e = ap label (stood_first w.darts e t) in
    let goes : GoOn n face cut.middle now new =
    chord_labels n face cut.middle now d w.darts way new middle cut.fits.d_in cut.fits.f_in (at_d ∙ one ∙ sym at_e) (cut_tied w d e way new are.tied cut) cut.chord in
    record {
      now = goes.now;
      are = goes.are;
      kept = λ a l. goes.kept a (omega (arith, l, cut.subdivide.darts)) ∙ ap label (stood_old w.darts e t a l);
    }

pub cut_up_labels : (n : ℕ) (face : ℕ → ℕ) (w : DartMap) (label : ℕ → ℕ) (new : DartMap) → AreLabels n face w label → new.darts ≤ no_dart → IsCutUp w new →
    GoOn n face w label new
cut_up_labels n face w label new are fits same = record { now = label; are = are; kept = λ a l. refl }
cut_up_labels n face w label new are fits (further mid last d e way cut_up cut one_face) =
    let keeps = cut_keeps mid d e way last cut in
    let before : GoOn n face w label mid = cut_up_labels n face w label mid are (omega (arith, fits, keeps.more)) cut_up in
    go_on n face w label mid last (cut_up_keeps w mid cut_up).more before
    (cut_labels n face mid before.now d e way last before.are fits (sym (one_face before.now before.are.round)) cut)

-- ---- a rectangle

-- the map in a rectangle, whose sides lie in the face of the dart `outside`
pub record GoOnInside (n : ℕ) (face : ℕ → ℕ) (w : DartMap) (label : ℕ → ℕ) (outside : ℕ) (new : DartMap) : Type 0 where
  pub goes : GoOn n face w label new
  pub ring : (k : ℕ) → k < 8 → goes.now (w.darts + k) ≡ label outside

module _ (n : ℕ) (face : ℕ → ℕ) (w : DartMap) (label : ℕ → ℕ) (outside : ℕ) (new : DartMap) (are : AreLabels n face w label) (f : IsSurrounded w new) where
  abbrev ringed : ℕ → ℕ
  ringed a = cond (ltb a w.darts) (label a) (label outside)

  ringed_old : (a : ℕ) → a < w.darts → ringed a ≡ label a
  ringed_old a l = cond-true {A = ℕ} (ltb a w.darts) (label a) (label outside) (lt-ltb a w.darts l)

  ringed_late : (a : ℕ) → w.darts ≤ a → ringed a ≡ label outside
  ringed_late a l = cond-false {A = ℕ} (ltb a w.darts) (label a) (label outside) (le-ltb a w.darts l)

  ringed_same : (a b : ℕ) → w.darts ≤ a → w.darts ≤ b → ringed b ≡ ringed a
  ringed_same a b late late_b = ringed_late b late_b ∙ sym (ringed_late a late)

  pub surround_labels : GoOnInside n face w label outside new
  surround_labels = record {
    goes = record {
      now = λ a. ringed a;
      are = beside_labels n face w label new (λ a. ringed a) are (surrounded_tied w new are.tied f) (surrounded_beside w new are.tied f) ringed_old
          (λ a l. by_side w.darts (λ (a : ℕ). ringed (new.next a) ≡ ringed a)
          (λ a l. ap (λ (k : ℕ). ringed k) (f.next_old a l) ∙ ringed_old (w.next a) (are.tied.next_in a l) ∙ are.round a l ∙ sym (ringed_old a l))
          (λ k l. ringed_same (w.darts + k) (new.next (w.darts + k)) (omega arith) (omega (arith, f.next_inside k l)))
          (λ k l. ringed_same (w.darts + 4 + k) (new.next (w.darts + 4 + k)) (omega arith) (omega (arith, f.next_outside k l)))
          a (omega (arith, l, f.darts)))
          (λ a l late. by_side w.darts (λ (a : ℕ). w.darts ≤ a → ringed (new.reverse_dart a) ≡ ringed a)
          (λ a l late. absurd (omega (arith, l, late)))
          (λ k l _. ringed_same (w.darts + k) (new.reverse_dart (w.darts + k)) (omega arith) (omega (arith, f.reverse_dart_inside k l)))
          (λ k l _. ringed_same (w.darts + 4 + k) (new.reverse_dart (w.darts + 4 + k)) (omega arith) (omega (arith, f.reverse_dart_outside k l)))
          a (omega (arith, l, f.darts)) late);
      kept = ringed_old;
    };
    ring = λ k l. ringed_late (w.darts + k) (omega arith);
  }

pub enclosed_labels : (n : ℕ) (face : ℕ → ℕ) (w : DartMap) (label : ℕ → ℕ) (outside : ℕ) (new : DartMap) → AreLabels n face w label → new.darts ≤ no_dart →
    (e : IsEnclosed w outside new) → label e.right ≡ label outside → GoOnInside n face w label outside new
enclosed_labels n face w label outside new are fits e right =
    let side : ℕ = w.darts + e.side in
    let fits_bridged : e.bridged.darts ≤ no_dart = omega (arith, fits, (cut_up_keeps e.bridged new e.cut_up).more) in
    let more : e.surrounded.darts ≤ e.bridged.darts = (cut_keeps e.surrounded e.right side e.direction e.bridged e.bridge).more in
    let ringed : GoOnInside n face w label outside e.surrounded = surround_labels n face w label outside e.surrounded are e.surround in
    let one : GoOn n face w label e.surrounded = ringed.goes in
    let at_side : one.now side ≡ label outside = ringed.ring e.side (omega (arith, e.side_in)) in
    let two : GoOn n face e.surrounded one.now e.bridged =
    cut_labels n face e.surrounded one.now e.right side e.direction e.bridged one.are fits_bridged
    (one.kept e.right e.right_in ∙ right ∙ sym at_side) e.bridge in
    let three : GoOn n face e.bridged two.now new = cut_up_labels n face e.bridged two.now new two.are fits e.cut_up in
    record {
      goes = record {
        now = three.now;
        are = three.are;
        kept = λ a l.
            let here : a < e.surrounded.darts = omega (arith, l, e.surround.darts) in
            three.kept a (omega (arith, here, more)) ∙ two.kept a here ∙ one.kept a l;
      };
      ring = λ k l.
          let here : w.darts + k < e.surrounded.darts = omega (arith, e.surround.darts, l) in
          three.kept (w.darts + k) (omega (arith, here, more)) ∙ two.kept (w.darts + k) here ∙ ringed.ring k l;
    }
