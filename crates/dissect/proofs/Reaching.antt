-- Cuts keep that each dart comes to a corner, and the number of vertices together with what goes beyond straight.
use Rattle.std.proofs.Common.{◌≡◌, ◌≢◌, ℕ, zero, suc, ◌+◌, ◌<◌, ◌∙◌, arith, sym, ap, inl, inr, refl}
use Rattle.std.proofs.lemmas.Bool.{cases_eq}
use Rattle.dissect.specs.DartMaps.{DartMap, IsTied, IsSubdivided, IsChord, IsSound, IsCut, IsCutUp, same, further, reflex_turns}
use Rattle.dissect.specs.Faces.{StretchesIn, Stretches, ReachesCorners}
use Rattle.dissect.proofs.Splitting.{split_tied, by_age}
use Rattle.dissect.proofs.Stretching.{stretch_more, stretch_direct, split_stretches}
use Rattle.dissect.proofs.Scanning.{cut_sound, cut_reflex_turns}

-- a dart comes to a corner where the next one does
pub reach_step : (w : DartMap) (a m : ℕ) → w.next a ≡ m → (c : ℕ) × Stretches w m c → (c : ℕ) × Stretches w a c
reach_step w a m to onward =
    elim (cases_eq (w.angle m) 2) [
      | inl straight ↦ (onward.0, stretch_more w a m onward.0 to straight onward.1)
      | inr corner ↦ (m, stretch_direct w a m to corner)
    ]

pub split_reaches : (w : DartMap) (e way : ℕ) (new : DartMap) → IsSubdivided w e way 2 new → IsTied w → e < w.darts →
    ReachesCorners w → ReachesCorners new
split_reaches w e way new s tied e_in reaches =
    let old : (a : ℕ) → a < w.darts → (c : ℕ) × Stretches new a c =
    λ a l. ((reaches a l).0, split_stretches w e way a (reaches a l).0 new s tied e_in l (reaches a l).1) in
    λ a l. by_age w.darts (λ a. (c : ℕ) × Stretches new a c) old
    (reach_step new w.darts e s.next_first (old e e_in))
    (reach_step new (w.darts + 1) (w.reverse_dart e) s.next_second (old (w.reverse_dart e) (tied.reverse_dart_in e e_in)))
    a (omega (arith, s.darts, l))

-- d and f come to a corner at once
pub chord_from : (w : DartMap) (d f way a : ℕ) (new : DartMap) → IsChord w d f way new →
    (a ≢ d → a ≢ f → (c : ℕ) × Stretches new a c) → (c : ℕ) × Stretches new a c
chord_from w d f way a new s other =
    elim (cases_eq a d) [
      | inl is_d ↦ (w.darts, stretch_direct new a w.darts (ap new.next is_d ∙ s.next_d) (λ h. omega (arith, h, s.angle_there)))
      | inr nd ↦ elim (cases_eq a f) [
        | inl is_f ↦ (w.darts + 1, stretch_direct new a (w.darts + 1) (ap new.next is_f ∙ s.next_f) (λ h. omega (arith, h, s.angle_back)))
        | inr nf ↦ other nd nf
      ]
    ]

pub chord_reach : (w : DartMap) (d f way : ℕ) (new : DartMap) → IsTied w → IsChord w d f way new → (k a c : ℕ) → a < w.darts →
    StretchesIn w k a c → (c : ℕ) × Stretches new a c
chord_reach w d f way new tied s zero a c l r =
    chord_from w d f way a new s (λ nd nf.
    elim (cases_eq (new.angle c) 2) [
      | inl straight ↦ reach_step new a c (s.next_other a l nd nf ∙ r.0)
          (chord_from w d f way c new s (λ cd cf.
          absurd (r.1 (sym (s.angle_other c (omega (arith, tied.next_in a l, r.0)) cd cf) ∙ straight))))
      | inr corner ↦ (c, stretch_direct new a c (s.next_other a l nd nf ∙ r.0) corner)
    ])
chord_reach w d f way new tied s (suc k) a c l r =
    chord_from w d f way a new s (λ nd nf.
    reach_step new a (w.next a) (s.next_other a l nd nf)
    (chord_reach w d f way new tied s k (w.next a) c (tied.next_in a l) r.1))

pub chord_reaches : (w : DartMap) (d f way : ℕ) (new : DartMap) → IsTied w → d < w.darts → f < w.darts → IsChord w d f way new →
    ReachesCorners w → ReachesCorners new
chord_reaches w d f way new tied d_in f_in s reaches =
    let old : (a : ℕ) → a < w.darts → (c : ℕ) × Stretches new a c =
    λ a l. chord_reach w d f way new tied s (reaches a l).1.places a (reaches a l).0 l (reaches a l).1.stretch in
    λ a l. by_age w.darts (λ a. (c : ℕ) × Stretches new a c) old
    (reach_step new w.darts (w.next f) s.next_there (old (w.next f) (tied.next_in f f_in)))
    (reach_step new (w.darts + 1) (w.next d) s.next_back (old (w.next d) (tied.next_in d d_in)))
    a (omega (arith, s.darts, l))

pub cut_reaches : (w : DartMap) (d e way : ℕ) (new : DartMap) → IsTied w → IsCut w d e way new → ReachesCorners w → ReachesCorners new
cut_reaches w d e way new tied cut reaches =
    chord_reaches cut.middle d w.darts way new (split_tied w e (w.direction e) 2 cut.middle tied cut.e_in cut.subdivide)
    cut.fits.d_in cut.fits.f_in cut.chord
    (split_reaches w e (w.direction e) cut.middle cut.subdivide tied cut.e_in reaches)

pub cut_up_sound : (w last : DartMap) → IsSound w → IsCutUp w last → IsSound last
cut_up_sound w last sound same = sound
cut_up_sound w last sound (further mid new d e way more cut _) = cut_sound mid d e way new (cut_up_sound w mid sound more) cut

pub cut_up_reaches : (w last : DartMap) → IsSound w → IsCutUp w last → ReachesCorners w → ReachesCorners last
cut_up_reaches w last sound same reaches = reaches
cut_up_reaches w last sound (further mid new d e way more cut _) reaches =
    cut_reaches mid d e way new (cut_up_sound w mid sound more).tied cut (cut_up_reaches w mid sound more reaches)

-- each cut adds a vertex and takes one from what goes beyond straight
pub cut_vertices : (w : DartMap) (d e way : ℕ) (new : DartMap) → IsCut w d e way new → new.vertices + reflex_turns new ≡ w.vertices + reflex_turns w
cut_vertices w d e way new cut = omega (arith, cut_reflex_turns w d e way new cut, cut.chord.vertices, cut.subdivide.vertices)

pub cut_up_vertices : (w last : DartMap) → IsCutUp w last → last.vertices + reflex_turns last ≡ w.vertices + reflex_turns w
cut_up_vertices w last same = refl
cut_up_vertices w last (further mid new d e way more cut _) =
    cut_vertices mid d e way new cut ∙ cut_up_vertices w mid more
