-- Splits, chords and cuts leave a connected map connected.
use Rattle.std.proofs.Common.{◌≡◌, ℕ, ◌+◌, ◌<◌, ◌∙◌, Bool, true, arith, subst, sym, ap, inl, inr}
use Rattle.std.proofs.lemmas.Bool.{cases_eq}
use Rattle.dissect.specs.DartMaps.{DartMap, IsTied, IsSubdivided, IsChord, HasChordAngles, IsCut, IsCutUp, same, further}
use Rattle.dissect.specs.Paths.{IsConnected}
use Rattle.dissect.proofs.Splitting.{by_age, split_tied}
use Rattle.dissect.proofs.Chords.{chord_tied}

-- a set of darts closed under "next" and "reverse"
pub record IsClosedUnder (w : DartMap) (s : ℕ → Bool) : Type 0 where
  pub next : (a : ℕ) → a < w.darts → s a ≡ true → s (w.next a) ≡ true
  pub reverse_dart : (a : ℕ) → a < w.darts → s a ≡ true → s (w.reverse_dart a) ≡ true

pub by_next : (w : DartMap) (s : ℕ → Bool) (a b : ℕ) → IsClosedUnder w s → a < w.darts → w.next a ≡ b → s a ≡ true → s b ≡ true
by_next w s a b shut l e h = subst (λ (k : ℕ). s k ≡ true) e (shut.next a l h)

pub by_reverse_dart : (w : DartMap) (s : ℕ → Bool) (a b : ℕ) → IsClosedUnder w s → a < w.darts → w.reverse_dart a ≡ b → s a ≡ true → s b ≡ true
by_reverse_dart w s a b shut l e h = subst (λ (k : ℕ). s k ≡ true) e (shut.reverse_dart a l h)

-- a closed set of the new map is one of the old map, and has a dart or all darts of the new map where it has
-- a dart or all darts of the old one
pub record IsExtended (w new : DartMap) : Type 0 where
  pub shut : (s : ℕ → Bool) → IsClosedUnder new s → IsClosedUnder w s
  pub some : (s : ℕ → Bool) → IsClosedUnder new s → (a : ℕ) → a < new.darts → s a ≡ true → (b : ℕ) × (b < w.darts) × (s b ≡ true)
  pub all : (s : ℕ → Bool) → IsClosedUnder new s → ((b : ℕ) → b < w.darts → s b ≡ true) → (a : ℕ) → a < new.darts → s a ≡ true

pub extended_same : (w : DartMap) → IsExtended w w
extended_same w = record {
  shut = λ s shut. shut;
  some = λ s shut a l h. (a, l, h);
  all = λ s shut each. each;
}

pub extended_on : (w mid new : DartMap) → IsExtended w mid → IsExtended mid new → IsExtended w new
extended_on w mid new first second = record {
  shut = λ s shut. first.shut s (second.shut s shut);
  some = λ s shut a l h.
      let found = second.some s shut a l h in
      first.some s (second.shut s shut) found.0 found.1 found.2;
  all = λ s shut each. second.all s shut (first.all s (second.shut s shut) each);
}

-- a set that holds a dart of the old map, where it then holds all of them, holds all darts of the new map
pub extended_connected : (w new : DartMap) → IsExtended w new → IsConnected w → IsConnected new
extended_connected w new extended connected s next reverse_dart a b l_a l_b h =
    let shut : IsClosedUnder new s = record { next = next; reverse_dart = reverse_dart } in
    let old : IsClosedUnder w s = extended.shut s shut in
    let found = extended.some s shut a l_a h in
    extended.all s shut (λ c l_c. connected s old.next old.reverse_dart found.0 c found.1 l_c found.2) b l_b

pub split_extended : (w : DartMap) (e way bend : ℕ) (new : DartMap) → IsTied w → e < w.darts → IsSubdivided w e way bend new → IsExtended w new
split_extended w e way bend new tied e_in subdivide =
    let n : ℕ = w.darts in
    let t : ℕ = w.reverse_dart e in
    let t_in : t < w.darts = tied.reverse_dart_in e e_in in
    let old_in : (a : ℕ) → a < w.darts → a < new.darts = λ a l. omega (arith, subdivide.darts) in
    let first_in : n < new.darts = omega (arith, subdivide.darts) in
    let second_in : n + 1 < new.darts = omega (arith, subdivide.darts) in
    record {
      shut = λ s shut. record {
        next = λ a l h. elim (cases_eq a (w.prev e)) [
          | inl at ↦
              let on = by_next new s a n shut (old_in a l) (ap new.next at ∙ subdivide.next_before) h in
              by_next new s n (w.next a) shut first_in (subdivide.next_first ∙ sym (ap w.next at ∙ tied.prev_back e e_in)) on
          | inr not_c ↦ elim (cases_eq a (w.prev t)) [
            | inl at ↦
                let on = by_next new s a (n + 1) shut (old_in a l) (ap new.next at ∙ subdivide.next_back) h in
                by_next new s (n + 1) (w.next a) shut second_in (subdivide.next_second ∙ sym (ap w.next at ∙ tied.prev_back t t_in)) on
            | inr not_p ↦ by_next new s a (w.next a) shut (old_in a l) (subdivide.next_other a l not_c not_p) h
          ]
        ];
        reverse_dart = λ a l h. elim (cases_eq a e) [
          | inl at ↦
              let on = by_reverse_dart new s a (n + 1) shut (old_in a l) (ap new.reverse_dart at ∙ subdivide.reverse_dart_e) h in
              by_next new s (n + 1) (w.reverse_dart a) shut second_in (subdivide.next_second ∙ sym (ap w.reverse_dart at)) on
          | inr not_e ↦ elim (cases_eq a t) [
            | inl at ↦
                let on = by_reverse_dart new s a n shut (old_in a l) (ap new.reverse_dart at ∙ subdivide.reverse_dart_reverse_dart) h in
                by_next new s n (w.reverse_dart a) shut first_in (subdivide.next_first ∙ sym (ap w.reverse_dart at ∙ tied.reverse_dart_back e e_in)) on
            | inr not_t ↦ by_reverse_dart new s a (w.reverse_dart a) shut (old_in a l) (subdivide.reverse_dart_other a l not_e not_t) h
          ]
        ];
      };
      some = λ s shut a l. by_age n (λ (a : ℕ). s a ≡ true → (b : ℕ) × (b < w.darts) × (s b ≡ true))
          (λ a l h. (a, l, h))
          (λ h. (e, e_in, by_next new s n e shut first_in subdivide.next_first h))
          (λ h. (t, t_in, by_next new s (n + 1) t shut second_in subdivide.next_second h))
          a (omega (arith, subdivide.darts));
      all = λ s shut each a l. by_age n (λ (a : ℕ). s a ≡ true) each
          (by_next new s (w.prev e) n shut (old_in (w.prev e) (tied.prev_in e e_in)) subdivide.next_before
          (each (w.prev e) (tied.prev_in e e_in)))
          (by_next new s (w.prev t) (n + 1) shut (old_in (w.prev t) (tied.prev_in t t_in)) subdivide.next_back
          (each (w.prev t) (tied.prev_in t t_in)))
          a (omega (arith, subdivide.darts));
    }

pub chord_extended : (w : DartMap) (d f way : ℕ) (new : DartMap) → IsTied w → HasChordAngles w d f way → IsChord w d f way new → IsExtended w new
chord_extended w d f way new tied fits chord =
    let n : ℕ = w.darts in
    let old_in : (a : ℕ) → a < w.darts → a < new.darts = λ a l. omega (arith, chord.darts) in
    let there_in : n < new.darts = omega (arith, chord.darts) in
    let back_in : n + 1 < new.darts = omega (arith, chord.darts) in
    record {
      shut = λ s shut. record {
        next = λ a l h. elim (cases_eq a d) [
          | inl at ↦
              let there = by_next new s a n shut (old_in a l) (ap new.next at ∙ chord.next_d) h in
              let back = by_reverse_dart new s n (n + 1) shut there_in chord.reverse_dart_there there in
              by_next new s (n + 1) (w.next a) shut back_in (chord.next_back ∙ sym (ap w.next at)) back
          | inr not_d ↦ elim (cases_eq a f) [
            | inl at ↦
                let back = by_next new s a (n + 1) shut (old_in a l) (ap new.next at ∙ chord.next_f) h in
                let there = by_reverse_dart new s (n + 1) n shut back_in chord.reverse_dart_back back in
                by_next new s n (w.next a) shut there_in (chord.next_there ∙ sym (ap w.next at)) there
            | inr not_f ↦ by_next new s a (w.next a) shut (old_in a l) (chord.next_other a l not_d not_f) h
          ]
        ];
        reverse_dart = λ a l h. by_reverse_dart new s a (w.reverse_dart a) shut (old_in a l) (chord.reverse_dart_old a l) h;
      };
      some = λ s shut a l. by_age n (λ (a : ℕ). s a ≡ true → (b : ℕ) × (b < w.darts) × (s b ≡ true))
          (λ a l h. (a, l, h))
          (λ h. (w.next f, tied.next_in f fits.f_in, by_next new s n (w.next f) shut there_in chord.next_there h))
          (λ h. (w.next d, tied.next_in d fits.d_in, by_next new s (n + 1) (w.next d) shut back_in chord.next_back h))
          a (omega (arith, chord.darts));
      all = λ s shut each a l. by_age n (λ (a : ℕ). s a ≡ true) each
          (by_next new s d n shut (old_in d fits.d_in) chord.next_d (each d fits.d_in))
          (by_next new s f (n + 1) shut (old_in f fits.f_in) chord.next_f (each f fits.f_in))
          a (omega (arith, chord.darts));
    }

pub cut_tied : (w : DartMap) (d e way : ℕ) (new : DartMap) → IsTied w → IsCut w d e way new → IsTied new
cut_tied w d e way new tied cut =
    chord_tied cut.middle d w.darts way new
    (split_tied w e (w.direction e) 2 cut.middle tied cut.e_in cut.subdivide) cut.fits cut.chord

pub cut_extended : (w : DartMap) (d e way : ℕ) (new : DartMap) → IsTied w → IsCut w d e way new → IsExtended w new
cut_extended w d e way new tied cut =
    extended_on w cut.middle new
    (split_extended w e (w.direction e) 2 cut.middle tied cut.e_in cut.subdivide)
    (chord_extended cut.middle d w.darts way new
    (split_tied w e (w.direction e) 2 cut.middle tied cut.e_in cut.subdivide) cut.fits cut.chord)

pub cut_up_tied : (w new : DartMap) → IsTied w → IsCutUp w new → IsTied new
cut_up_tied w new tied same = tied
cut_up_tied w new tied (further mid last d e way cut_up cut _) =
    cut_tied mid d e way last (cut_up_tied w mid tied cut_up) cut

pub cut_up_extended : (w new : DartMap) → IsTied w → IsCutUp w new → IsExtended w new
cut_up_extended w new tied same = extended_same w
cut_up_extended w new tied (further mid last d e way cut_up cut _) =
    extended_on w mid last (cut_up_extended w mid tied cut_up)
    (cut_extended mid d e way last (cut_up_tied w mid tied cut_up) cut)
