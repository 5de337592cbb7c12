-- What a chord between two corners keeps.
use Rattle.std.proofs.Common.{◌≡◌, ◌≢◌, ℕ, ◌+◌, ◌%◌, ◌<◌, ◌≤◌, ◌==◌, if◌then◌else◌, ◌∙◌, arith, subst, sym, ap, refl, inl, inr, cond, eqb}
use Rattle.std.proofs.lemmas.Bool.{cases_eq, eq-eqb, ne_eqb, cond-true, cond-false}
use Rattle.common.specs.Sums.{sum_below}
use Rattle.common.proofs.Sums.{sum_below-same, sum_below-add, sum_below-one}
use Rattle.dissect.specs.DartMaps.{DartMap, IsTied, IsMeeting, IsStraight, IsChord, HasChordAngles, around}
use Rattle.dissect.proofs.Splitting.{by_place, by_age, part, part_here, part_elsewhere, part_same, around_more}

pub chord_tied : (w : DartMap) (d f way : ℕ) (new : DartMap) → IsTied w → HasChordAngles w d f way → IsChord w d f way new → IsTied new
chord_tied w d f way new tied fits s =
    let n : ℕ = w.darts in
    let d_in : d < w.darts = fits.d_in in
    let f_in : f < w.darts = fits.f_in in
    record {
      next_in = λ a l. by_place n d f (λ a. new.next a < new.darts)
          (omega (arith, s.next_d, s.darts)) (omega (arith, s.next_f, s.darts))
          (λ a l nd nf. omega (arith, s.next_other a l nd nf, tied.next_in a l, s.darts))
          (omega (arith, s.next_there, tied.next_in f f_in, s.darts)) (omega (arith, s.next_back, tied.next_in d d_in, s.darts))
          a (omega (arith, s.darts));
      prev_in = λ a l. by_place n (w.next f) (w.next d) (λ a. new.prev a < new.darts)
          (omega (arith, s.prev_after_f, s.darts)) (omega (arith, s.prev_after_d, s.darts))
          (λ a l nd nf. omega (arith, s.prev_other a l nd nf, tied.prev_in a l, s.darts))
          (omega (arith, s.prev_there, s.darts)) (omega (arith, s.prev_back, s.darts))
          a (omega (arith, s.darts));
      next_back = λ a l. by_place n d f (λ a. new.prev (new.next a) ≡ a)
          (cc) (cc)
          (λ a l nd nf.
          let other_f : w.next a ≢ w.next f = λ h. nf (sym (tied.next_back a l) ∙ ap w.prev h ∙ tied.next_back f f_in) in
          let other_d : w.next a ≢ w.next d = λ h. nd (sym (tied.next_back a l) ∙ ap w.prev h ∙ tied.next_back d d_in) in
          ap new.prev (s.next_other a l nd nf) ∙ s.prev_other (w.next a) (tied.next_in a l) other_f other_d
          ∙ tied.next_back a l)
          (cc) (cc)
          a (omega (arith, s.darts));
      prev_back = λ a l. by_place n (w.next f) (w.next d) (λ a. new.next (new.prev a) ≡ a)
          (cc) (cc)
          (λ a l nf nd.
          let other_d : w.prev a ≢ d = λ h. nd (sym (tied.prev_back a l) ∙ ap w.next h) in
          let other_f : w.prev a ≢ f = λ h. nf (sym (tied.prev_back a l) ∙ ap w.next h) in
          ap new.next (s.prev_other a l nf nd) ∙ s.next_other (w.prev a) (tied.prev_in a l) other_d other_f
          ∙ tied.prev_back a l)
          (cc) (cc)
          a (omega (arith, s.darts));
      reverse_dart_in = λ a l. by_age n (λ a. new.reverse_dart a < new.darts)
          (λ a l. omega (arith, s.reverse_dart_old a l, tied.reverse_dart_in a l, s.darts))
          (omega (arith, s.reverse_dart_there, s.darts)) (omega (arith, s.reverse_dart_back, s.darts))
          a (omega (arith, s.darts));
      reverse_dart_back = λ a l. by_age n (λ a. new.reverse_dart (new.reverse_dart a) ≡ a)
          (λ a l. ap new.reverse_dart (s.reverse_dart_old a l) ∙ s.reverse_dart_old (w.reverse_dart a) (tied.reverse_dart_in a l) ∙ tied.reverse_dart_back a l)
          (cc) (cc)
          a (omega (arith, s.darts));
      reverse_dart_apart = λ a l. by_age n (λ a. new.reverse_dart a ≢ a)
          (λ a l h. tied.reverse_dart_apart a l (sym (s.reverse_dart_old a l) ∙ h))
          (λ h. omega (arith, s.reverse_dart_there, h)) (λ h. omega (arith, s.reverse_dart_back, h))
          a (omega (arith, s.darts));
    }

-- one, where the dart arrives at u
abbrev pub one_at : DartMap → ℕ → ℕ → ℕ
one_at w u a = part w.head (λ _. 1) u a

-- a corner that gave up one right angle has that much less
pub gives_up : (w new : DartMap) (u a : ℕ) → new.head a ≡ w.head a → new.angle a + 1 ≡ w.angle a →
    part w.head w.angle u a ≡ part new.head new.angle u a + one_at w u a
gives_up w new u a same less =
    elim (cases_eq (w.head a) u) [
      | inl here ↦ omega (
        arith,
        part_here w.head w.angle u a here,
        part_here new.head new.angle u a (same ∙ here),
        part_here w.head (λ _. 1) u a here,
        less,
      )
      | inr elsewhere ↦ omega (
        arith,
        part_elsewhere w.head w.angle u a elsewhere,
        part_elsewhere new.head new.angle u a (λ h. elsewhere (sym same ∙ h)),
        part_elsewhere w.head (λ _. 1) u a elsewhere,
      )
    ]

pub chord_whole : (w : DartMap) (d f way : ℕ) (new : DartMap) → IsMeeting w → HasChordAngles w d f way → IsChord w d f way new →
    (u : ℕ) → u < new.vertices → around new u ≡ 4
chord_whole w d f way new meeting fits s u l =
    let n : ℕ = w.darts in
    let F : ℕ → ℕ = part new.head new.angle u in
    let at_d : ℕ → ℕ = λ a. cond (eqb d a) (one_at w u d) 0 in
    let at_f : ℕ → ℕ = λ a. cond (eqb f a) (one_at w u f) 0 in
    let more : around new u ≡ sum_below n F + F n + F (n + 1) = around_more new u n s.darts in
    let old : (a : ℕ) → a < n → part w.head w.angle u a ≡ F a + at_d a + at_f a = λ a l.
    elim (cases_eq a d) [
      | inl is_d ↦ subst (λ (k : ℕ). part w.head w.angle u k ≡ F k + at_d k + at_f k) (sym is_d)
          (omega (
            arith,
            gives_up w new u d (s.head_old d fits.d_in) s.angle_d,
            cond-true {A = ℕ} (eqb d d) (one_at w u d) 0 (eq-eqb d d refl),
            cond-false {A = ℕ} (eqb f d) (one_at w u f) 0 (ne_eqb f d (λ h. fits.apart (sym h))),
          ))
      | inr not_d ↦
          elim (cases_eq a f) [
            | inl is_f ↦ subst (λ (k : ℕ). part w.head w.angle u k ≡ F k + at_d k + at_f k) (sym is_f)
                (omega (
                  arith,
                  gives_up w new u f (s.head_old f fits.f_in) s.angle_f,
                  cond-false {A = ℕ} (eqb d f) (one_at w u d) 0 (ne_eqb d f fits.apart),
                  cond-true {A = ℕ} (eqb f f) (one_at w u f) 0 (eq-eqb f f refl),
                ))
            | inr not_f ↦ omega (
              arith,
              part_same w.head new.head w.angle new.angle u a (s.head_old a l) (s.angle_other a l not_d not_f),
              cond-false {A = ℕ} (eqb d a) (one_at w u d) 0 (ne_eqb d a (λ h. not_d (sym h))),
              cond-false {A = ℕ} (eqb f a) (one_at w u f) 0 (ne_eqb f a (λ h. not_f (sym h))),
            )
          ]
    ] in
    let sums : around w u ≡ sum_below n (λ a. F a + at_d a + at_f a) =
    sum_below-same n (part w.head w.angle u) (λ a. F a + at_d a + at_f a) old in
    let parted : sum_below n (λ a. F a + at_d a + at_f a) ≡ sum_below n (λ a. F a + at_d a) + sum_below n at_f =
    sum_below-add n (λ a. F a + at_d a) at_f in
    let parted_more : sum_below n (λ a. F a + at_d a) ≡ sum_below n F + sum_below n at_d = sum_below-add n F at_d in
    let sum_d : sum_below n at_d ≡ one_at w u d = sum_below-one n d (λ _. one_at w u d) fits.d_in in
    let sum_f : sum_below n at_f ≡ one_at w u f = sum_below-one n f (λ _. one_at w u f) fits.f_in in
    let there : F n ≡ one_at w u f =
    ap (λ (h : ℕ). if h == u then new.angle n else 0) s.head_there ∙ ap (λ (g : ℕ). if w.head f == u then g else 0) s.angle_there in
    let back : F (n + 1) ≡ one_at w u d =
    ap (λ (h : ℕ). if h == u then new.angle (n + 1) else 0) s.head_back ∙ ap (λ (g : ℕ). if w.head d == u then g else 0) s.angle_back in
    omega (arith, more, sums, parted, parted_more, sum_d, sum_f, there, back, meeting.whole u (omega (arith, s.vertices)))

pub chord_meeting : (w : DartMap) (d f way : ℕ) (new : DartMap) → IsTied w → IsMeeting w → HasChordAngles w d f way →
    IsChord w d f way new → IsMeeting new
chord_meeting w d f way new tied meeting fits s =
    let n : ℕ = w.darts in
    let d_in : d < w.darts = fits.d_in in
    let f_in : f < w.darts = fits.f_in in
    let inside : (a : ℕ) → a < w.darts → w.reverse_dart (w.next a) < w.darts =
    λ a l. tied.reverse_dart_in (w.next a) (tied.next_in a l) in
    let arrives_d : new.reverse_dart (new.next d) ≡ n + 1 = ap new.reverse_dart s.next_d ∙ s.reverse_dart_there in
    let arrives_f : new.reverse_dart (new.next f) ≡ n = ap new.reverse_dart s.next_f ∙ s.reverse_dart_back in
    let arrives : (a : ℕ) → a < n → a ≢ d → a ≢ f → new.reverse_dart (new.next a) ≡ w.reverse_dart (w.next a) =
    λ a l nd nf. ap new.reverse_dart (s.next_other a l nd nf) ∙ s.reverse_dart_old (w.next a) (tied.next_in a l) in
    let arrives_there : new.reverse_dart (new.next n) ≡ w.reverse_dart (w.next f) = ap new.reverse_dart s.next_there ∙ s.reverse_dart_old (w.next f) (tied.next_in f f_in) in
    let arrives_back : new.reverse_dart (new.next (n + 1)) ≡ w.reverse_dart (w.next d) = ap new.reverse_dart s.next_back ∙ s.reverse_dart_old (w.next d) (tied.next_in d d_in) in
    record {
      head_in = λ a l. by_age n (λ a. new.head a < new.vertices)
          (λ a l. omega (arith, s.head_old a l, meeting.head_in a l, s.vertices))
          (omega (arith, s.head_there, meeting.head_in f f_in, s.vertices)) (omega (arith, s.head_back, meeting.head_in d d_in, s.vertices))
          a (omega (arith, s.darts));
      meets = λ a l. by_place n d f (λ a. new.head (new.reverse_dart (new.next a)) ≡ new.head a)
          (ap new.head arrives_d ∙ s.head_back ∙ sym (s.head_old d d_in))
          (ap new.head arrives_f ∙ s.head_there ∙ sym (s.head_old f f_in))
          (λ a l nd nf. ap new.head (arrives a l nd nf) ∙ s.head_old (w.reverse_dart (w.next a)) (inside a l) ∙ meeting.meets a l ∙ sym (s.head_old a l))
          (ap new.head arrives_there ∙ s.head_old (w.reverse_dart (w.next f)) (inside f f_in) ∙ meeting.meets f f_in ∙ sym s.head_there)
          (ap new.head arrives_back ∙ s.head_old (w.reverse_dart (w.next d)) (inside d d_in) ∙ meeting.meets d d_in ∙ sym s.head_back)
          a (omega (arith, s.darts));
      quarter = λ a l. by_age n (λ a. new.direction a < 4)
          (λ a l. omega (arith, s.direction_old a l, meeting.quarter a l))
          (omega (arith, s.direction_there, fits.direction_quarter)) (omega (arith, s.direction_back))
          a (omega (arith, s.darts));
      turns = λ a l. by_place n d f (λ a. (new.direction (new.reverse_dart (new.next a)) + new.angle a) % 4 ≡ new.direction a)
          (omega (arith, ap new.direction arrives_d ∙ s.direction_back, s.angle_d, s.direction_old d d_in, fits.from_d))
          (omega (arith, ap new.direction arrives_f ∙ s.direction_there, s.angle_f, s.direction_old f f_in, fits.to_f, meeting.quarter f f_in))
          (λ a l nd nf. omega (
            arith,
            ap new.direction (arrives a l nd nf) ∙ s.direction_old (w.reverse_dart (w.next a)) (inside a l),
            s.angle_other a l nd nf,
            meeting.turns a l,
            s.direction_old a l,
          ))
          (omega (
            arith,
            ap new.direction arrives_there ∙ s.direction_old (w.reverse_dart (w.next f)) (inside f f_in),
            s.angle_there,
            s.direction_there,
            meeting.turns f f_in,
            fits.to_f,
            fits.direction_quarter,
            meeting.quarter f f_in,
            meeting.quarter (w.reverse_dart (w.next f)) (inside f f_in),
          ))
          (omega (
            arith,
            ap new.direction arrives_back ∙ s.direction_old (w.reverse_dart (w.next d)) (inside d d_in),
            s.angle_back,
            s.direction_back,
            meeting.turns d d_in,
            fits.from_d,
            fits.direction_quarter,
            meeting.quarter d d_in,
            meeting.quarter (w.reverse_dart (w.next d)) (inside d d_in),
          ))
          a (omega (arith, s.darts));
      some = λ a l. by_place n d f (λ a. 1 ≤ new.angle a)
          (omega (arith, s.angle_d, fits.divides_d)) (omega (arith, s.angle_f, fits.divides_f))
          (λ a l nd nf. omega (arith, s.angle_other a l nd nf, meeting.some a l))
          (omega (arith, s.angle_there)) (omega (arith, s.angle_back))
          a (omega (arith, s.darts));
      most = λ a l. by_place n d f (λ a. new.angle a ≤ 4)
          (omega (arith, s.angle_d, meeting.most d d_in)) (omega (arith, s.angle_f, meeting.most f f_in))
          (λ a l nd nf. omega (arith, s.angle_other a l nd nf, meeting.most a l))
          (omega (arith, s.angle_there)) (omega (arith, s.angle_back))
          a (omega (arith, s.darts));
      whole = chord_whole w d f way new meeting fits s;
    }

pub chord_straight : (w : DartMap) (d f way : ℕ) (new : DartMap) → IsTied w → IsStraight w → HasChordAngles w d f way →
    IsChord w d f way new → IsStraight new
chord_straight w d f way new tied straight fits s a l =
    by_age w.darts (λ a. new.direction (new.reverse_dart a) ≡ (new.direction a + 2) % 4)
    (λ a l. omega (
      arith,
      ap new.direction (s.reverse_dart_old a l) ∙ s.direction_old (w.reverse_dart a) (tied.reverse_dart_in a l),
      s.direction_old a l,
      straight a l,
    ))
    (omega (arith, ap new.direction s.reverse_dart_there ∙ s.direction_back, s.direction_there))
    (omega (arith, ap new.direction s.reverse_dart_back ∙ s.direction_there, s.direction_back, fits.direction_quarter))
    a (omega (arith, s.darts))
