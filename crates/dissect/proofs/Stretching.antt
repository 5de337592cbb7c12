-- Stretches from corner to corner, and what a straight subdivision and a chord make of them.
use Rattle.std.proofs.Common.{◌≡◌, ◌≢◌, ◌⊎◌, ℕ, zero, suc, ◌+◌, ◌<◌, ◌∙◌, arith, subst, sym, ap, inl, inr}
use Rattle.std.proofs.lemmas.Bool.{cases_eq, cases_order}
use Rattle.dissect.specs.DartMaps.{DartMap, IsTied, IsSubdivided, IsChord}
use Rattle.dissect.specs.Faces.{IsCorner, StretchesIn, Stretches}

-- one more straight place in front
pub stretch_more : (w : DartMap) (a b c : ℕ) → w.next a ≡ b → w.angle b ≡ 2 → Stretches w b c → Stretches w a c
stretch_more w a b c to straight stretches = record {
  places = suc stretches.places;
  stretch = (ap w.angle to ∙ straight, subst (λ (m : ℕ). StretchesIn w stretches.places m c) (sym to) stretches.stretch);
}

-- a corner directly after
pub stretch_direct : (w : DartMap) (a c : ℕ) → w.next a ≡ c → IsCorner w c → Stretches w a c
stretch_direct w a c to corner = record { places = 0; stretch = (to, corner) }

pub stretch_ends : (w : DartMap) (k a c : ℕ) → StretchesIn w k a c → IsCorner w c
stretch_ends w zero a c r = r.1
stretch_ends w (suc k) a c r = stretch_ends w k (w.next a) c r.1

pub stretch_inside : (w : DartMap) → IsTied w → (k a c : ℕ) → a < w.darts → StretchesIn w k a c → c < w.darts
stretch_inside w tied zero a c l r = omega (arith, tied.next_in a l, r.0)
stretch_inside w tied (suc k) a c l r = stretch_inside w tied k (w.next a) c (tied.next_in a l) r.1

-- what does not change round any face is at the next corner what it was
pub stretch_level : (w : DartMap) (g : ℕ → ℕ) → IsTied w → ((a : ℕ) → a < w.darts → g (w.next a) ≡ g a) → (k a c : ℕ) → a < w.darts →
    StretchesIn w k a c → g c ≡ g a
stretch_level w g tied round zero a c l r = ap g (sym r.0) ∙ round a l
stretch_level w g tied round (suc k) a c l r = stretch_level w g tied round k (w.next a) c (tied.next_in a l) r.1 ∙ round a l

-- the next corner is one
pub stretch_one : (w : DartMap) (j k a b c : ℕ) → StretchesIn w j a b → StretchesIn w k a c → b ≡ c
stretch_one w zero zero a b c r s = sym r.0 ∙ s.0
stretch_one w zero (suc k) a b c r s = absurd (r.1 (sym (ap w.angle r.0) ∙ s.0))
stretch_one w (suc j) zero a b c r s = absurd (s.1 (sym (ap w.angle s.0) ∙ r.0))
stretch_one w (suc j) (suc k) a b c r s = stretch_one w j k (w.next a) b c r.1 s.1

-- k steps back
abbrev pub steps_back : DartMap → ℕ → ℕ → ℕ
steps_back w zero c = c
steps_back w (suc k) c = w.prev (steps_back w k c)

pub stretch_back : (w : DartMap) → IsTied w → (k a c : ℕ) → a < w.darts → StretchesIn w k a c → steps_back w (suc k) c ≡ a
stretch_back w tied zero a c l r = ap w.prev (sym r.0) ∙ tied.next_back a l
stretch_back w tied (suc k) a c l r =
    ap w.prev (stretch_back w tied k (w.next a) c (tied.next_in a l) r.1) ∙ tied.next_back a l

pub stretch_between : (w : DartMap) → IsTied w → (k a c j : ℕ) → a < w.darts → StretchesIn w k a c → j < k →
    w.angle (steps_back w (suc j) c) ≡ 2
stretch_between w tied zero a c j l r less = absurd (omega arith)
stretch_between w tied (suc k) a c j l r less =
    elim (cases_eq j k) [
      | inl e ↦ subst (λ (i : ℕ). w.angle (steps_back w (suc i) c) ≡ 2) (sym e)
          (ap w.angle (stretch_back w tied k (w.next a) c (tied.next_in a l) r.1) ∙ r.0)
      | inr other ↦ stretch_between w tied k (w.next a) c j (tied.next_in a l) r.1 (omega arith)
    ]

-- the corner before is one
pub stretch_from_one : (w : DartMap) → IsTied w → (j k a b c : ℕ) → a < w.darts → b < w.darts →
    IsCorner w a → IsCorner w b → StretchesIn w j a c → StretchesIn w k b c → a ≡ b
stretch_from_one w tied j k a b c la lb ca cb r s =
    elim (cases_order j k) [
      | inl same ↦ sym (stretch_back w tied j a c la r) ∙ ap (λ (i : ℕ). steps_back w (suc i) c) same ∙ stretch_back w tied k b c lb s
      | inr either ↦ elim either [
        | inl less ↦ absurd (ca (sym (ap w.angle (stretch_back w tied j a c la r)) ∙ stretch_between w tied k b c j lb s less))
        | inr more ↦ absurd (cb (sym (ap w.angle (stretch_back w tied k b c lb s)) ∙ stretch_between w tied j a c k la r more))
      ]
    ]

pub Stretches-one : (w : DartMap) (a b c : ℕ) → Stretches w a b → Stretches w a c → b ≡ c
Stretches-one w a b c r s = stretch_one w r.places s.places a b c r.stretch s.stretch

pub Stretches-from_one : (w : DartMap) (a b c : ℕ) → IsTied w → a < w.darts → b < w.darts → IsCorner w a → IsCorner w b →
    Stretches w a c → Stretches w b c → a ≡ b
Stretches-from_one w a b c tied la lb ca cb r s = stretch_from_one w tied r.places s.places a b c la lb ca cb r.stretch s.stretch

pub Stretches-inside : (w : DartMap) (a c : ℕ) → IsTied w → a < w.darts → Stretches w a c → c < w.darts
Stretches-inside w a c tied l r = stretch_inside w tied r.places a c l r.stretch

pub Stretches-corner : (w : DartMap) (a c : ℕ) → Stretches w a c → IsCorner w c
Stretches-corner w a c r = stretch_ends w r.places a c r.stretch

-- a straight subdivision keeps each stretch between old darts
pub split_step : (w : DartMap) (e way : ℕ) (new : DartMap) → IsSubdivided w e way 2 new → IsTied w → e < w.darts →
    (a : ℕ) → a < w.darts →
    (new.next a ≡ w.next a) ⊎ ((m : ℕ) × (new.next a ≡ m) × (new.angle m ≡ 2) × (new.next m ≡ w.next a))
split_step w e way new s tied e_in a l =
    elim (cases_eq a (w.prev e)) [
      | inl at ↦ inr (
        w.darts,
        ap new.next at ∙ s.next_before,
        s.angle_first,
        s.next_first ∙ sym (ap w.next at ∙ tied.prev_back e e_in),
      )
      | inr not_c ↦
          elim (cases_eq a (w.prev (w.reverse_dart e))) [
            | inl at ↦ inr (
              w.darts + 1,
              ap new.next at ∙ s.next_back,
              s.angle_second,
              s.next_second ∙ sym (ap w.next at ∙ tied.prev_back (w.reverse_dart e) (tied.reverse_dart_in e e_in)),
            )
            | inr not_p ↦ inl (s.next_other a l not_c not_p)
          ]
    ]

pub split_stretch : (w : DartMap) (e way : ℕ) (new : DartMap) → IsSubdivided w e way 2 new → IsTied w → e < w.darts →
    (k a c : ℕ) → a < w.darts → StretchesIn w k a c → Stretches new a c
split_stretch w e way new s tied e_in zero a c l r =
    let c_in : c < w.darts = omega (arith, tied.next_in a l, r.0) in
    let corner : IsCorner new c = λ h. r.1 (sym (s.angle_old c c_in) ∙ h) in
    elim (split_step w e way new s tied e_in a l) [
      | inl direct ↦ stretch_direct new a c (direct ∙ r.0) corner
      | inr through ↦ stretch_more new a through.0 c through.1 through.2 (stretch_direct new through.0 c (through.3 ∙ r.0) corner)
    ]
split_stretch w e way new s tied e_in (suc k) a c l r =
    let rest : Stretches new (w.next a) c = split_stretch w e way new s tied e_in k (w.next a) c (tied.next_in a l) r.1 in
    let straight : new.angle (w.next a) ≡ 2 = s.angle_old (w.next a) (tied.next_in a l) ∙ r.0 in
    elim (split_step w e way new s tied e_in a l) [
      | inl direct ↦ stretch_more new a (w.next a) c direct straight rest
      | inr through ↦ stretch_more new a through.0 c through.1 through.2 (stretch_more new through.0 (w.next a) c through.3 straight rest)
    ]

pub split_stretches : (w : DartMap) (e way a c : ℕ) (new : DartMap) → IsSubdivided w e way 2 new → IsTied w → e < w.darts →
    a < w.darts → Stretches w a c → Stretches new a c
split_stretches w e way a c new s tied e_in l r = split_stretch w e way new s tied e_in r.places a c l r.stretch

-- where a chord connects the corner d with the straight place f right after the corner c
pub record IsCutting (w : DartMap) (d c f : ℕ) : Type 0 where
  pub d_in : d < w.darts
  pub c_in : c < w.darts
  pub f_in : f < w.darts
  pub right : 2 < w.angle d
  pub left : w.angle c ≡ 1
  pub straight : w.angle f ≡ 2
  pub behind : w.next c ≡ f

-- a stretch from a dart other than d, c and f to a corner other than d is kept
pub chord_stretch : (w : DartMap) (d c f way : ℕ) (new : DartMap) → IsChord w d f way new → IsTied w → IsCutting w d c f →
    (k a b : ℕ) → a < w.darts → a ≢ d → a ≢ c → a ≢ f → b ≢ d → StretchesIn w k a b → Stretches new a b
chord_stretch w d c f way new s tied here zero a b l nd nc nf bd r =
    let b_in : b < w.darts = omega (arith, tied.next_in a l, r.0) in
    let bf : b ≢ f = λ h. r.1 (ap w.angle h ∙ here.straight) in
    stretch_direct new a b (s.next_other a l nd nf ∙ r.0) (λ h. r.1 (sym (s.angle_other b b_in bd bf) ∙ h))
chord_stretch w d c f way new s tied here (suc k) a b l nd nc nf bd r =
    let m : ℕ = w.next a in
    let m_in : m < w.darts = tied.next_in a l in
    let md : m ≢ d = λ h. omega (arith, ap w.angle h, here.right, r.0) in
    let mc : m ≢ c = λ h. omega (arith, ap w.angle h, here.left, r.0) in
    let mf : m ≢ f = λ h. nc (sym (tied.next_back a l) ∙ ap w.prev (h ∙ sym here.behind) ∙ tied.next_back c here.c_in) in
    stretch_more new a m b (s.next_other a l nd nf) (s.angle_other m m_in md mf ∙ r.0)
    (chord_stretch w d c f way new s tied here k m b m_in md mc mf bd r.1)

-- what stretched from f to a corner other than d, now stretches from the chord
pub chord_stretch_there : (w : DartMap) (d c f way : ℕ) (new : DartMap) → IsChord w d f way new → IsTied w → IsCutting w d c f →
    (k b : ℕ) → b ≢ d → StretchesIn w k f b → Stretches new w.darts b
chord_stretch_there w d c f way new s tied here zero b bd r =
    let b_in : b < w.darts = omega (arith, tied.next_in f here.f_in, r.0) in
    let bf : b ≢ f = λ h. r.1 (ap w.angle h ∙ here.straight) in
    stretch_direct new w.darts b (s.next_there ∙ r.0) (λ h. r.1 (sym (s.angle_other b b_in bd bf) ∙ h))
chord_stretch_there w d c f way new s tied here (suc k) b bd r =
    let m : ℕ = w.next f in
    let m_in : m < w.darts = tied.next_in f here.f_in in
    let md : m ≢ d = λ h. omega (arith, ap w.angle h, here.right, r.0) in
    let mc : m ≢ c = λ h. omega (arith, ap w.angle h, here.left, r.0) in
    let mf : m ≢ f = λ h. omega (
      arith,
      ap w.angle (sym (tied.next_back f here.f_in) ∙ ap w.prev (h ∙ sym here.behind) ∙ tied.next_back c here.c_in),
      here.left,
      here.straight,
    ) in
    stretch_more new w.darts m b s.next_there (s.angle_other m m_in md mf ∙ r.0)
    (chord_stretch w d c f way new s tied here k m b m_in md mc mf bd r.1)

-- a stretch to d ends there as long as it still turns, and else at the chord
pub chord_stretch_to : (w : DartMap) (d c f way : ℕ) (new : DartMap) → IsChord w d f way new → IsTied w → IsCutting w d c f →
    (k a : ℕ) → a < w.darts → a ≢ d → a ≢ c → a ≢ f → StretchesIn w k a d →
    (IsCorner new d → Stretches new a d) × (new.angle d ≡ 2 → Stretches new a w.darts)
chord_stretch_to w d c f way new s tied here zero a l nd nc nf r =
    let direct : new.next a ≡ d = s.next_other a l nd nf ∙ r.0 in (
      λ corner. stretch_direct new a d direct corner,
      λ straight. stretch_more new a d w.darts direct straight (stretch_direct new d w.darts s.next_d (λ h. omega (arith, s.angle_there, h))),
    )
chord_stretch_to w d c f way new s tied here (suc k) a l nd nc nf r =
    let m : ℕ = w.next a in
    let m_in : m < w.darts = tied.next_in a l in
    let md : m ≢ d = λ h. omega (arith, ap w.angle h, here.right, r.0) in
    let mc : m ≢ c = λ h. omega (arith, ap w.angle h, here.left, r.0) in
    let mf : m ≢ f = λ h. nc (sym (tied.next_back a l) ∙ ap w.prev (h ∙ sym here.behind) ∙ tied.next_back c here.c_in) in
    let rest = chord_stretch_to w d c f way new s tied here k m m_in md mc mf r.1 in
    let to : new.next a ≡ m = s.next_other a l nd nf in
    let still : new.angle m ≡ 2 = s.angle_other m m_in md mf ∙ r.0 in (
      λ corner. stretch_more new a m d to still (rest.0 corner),
      λ straight. stretch_more new a m w.darts to still (rest.1 straight),
    )

-- the same for what stretched from f to d
pub chord_stretch_there_to : (w : DartMap) (d c f way : ℕ) (new : DartMap) → IsChord w d f way new → IsTied w → IsCutting w d c f →
    (k : ℕ) → StretchesIn w k f d → (IsCorner new d → Stretches new w.darts d) × (new.angle d ≡ 2 → Stretches new w.darts w.darts)
chord_stretch_there_to w d c f way new s tied here zero r =
    let direct : new.next w.darts ≡ d = s.next_there ∙ r.0 in (
      λ corner. stretch_direct new w.darts d direct corner,
      λ straight. stretch_more new w.darts d w.darts direct straight (stretch_direct new d w.darts s.next_d (λ h. omega (arith, s.angle_there, h))),
    )
chord_stretch_there_to w d c f way new s tied here (suc k) r =
    let m : ℕ = w.next f in
    let m_in : m < w.darts = tied.next_in f here.f_in in
    let md : m ≢ d = λ h. omega (arith, ap w.angle h, here.right, r.0) in
    let mc : m ≢ c = λ h. omega (arith, ap w.angle h, here.left, r.0) in
    let mf : m ≢ f = λ h. omega (
      arith,
      ap w.angle (sym (tied.next_back f here.f_in) ∙ ap w.prev (h ∙ sym here.behind) ∙ tied.next_back c here.c_in),
      here.left,
      here.straight,
    ) in
    let rest = chord_stretch_to w d c f way new s tied here k m m_in md mc mf r.1 in
    let still : new.angle m ≡ 2 = s.angle_other m m_in md mf ∙ r.0 in (
      λ corner. stretch_more new w.darts m d s.next_there still (rest.0 corner),
      λ straight. stretch_more new w.darts m w.darts s.next_there still (rest.1 straight),
    )

-- what stretched from d, now stretches from the chord's way back
pub chord_stretch_back : (w : DartMap) (d c f way : ℕ) (new : DartMap) → IsChord w d f way new → IsTied w → IsCutting w d c f →
    (k b : ℕ) → b ≢ d → d ≢ c → StretchesIn w k d b → Stretches new (w.darts + 1) b
chord_stretch_back w d c f way new s tied here zero b bd dc r =
    let b_in : b < w.darts = omega (arith, tied.next_in d here.d_in, r.0) in
    let bf : b ≢ f = λ h. r.1 (ap w.angle h ∙ here.straight) in
    stretch_direct new (w.darts + 1) b (s.next_back ∙ r.0) (λ h. r.1 (sym (s.angle_other b b_in bd bf) ∙ h))
chord_stretch_back w d c f way new s tied here (suc k) b bd dc r =
    let m : ℕ = w.next d in
    let m_in : m < w.darts = tied.next_in d here.d_in in
    let md : m ≢ d = λ h. omega (arith, ap w.angle h, here.right, r.0) in
    let mc : m ≢ c = λ h. omega (arith, ap w.angle h, here.left, r.0) in
    let mf : m ≢ f = λ h. dc (sym (tied.next_back d here.d_in) ∙ ap w.prev (h ∙ sym here.behind) ∙ tied.next_back c here.c_in) in
    stretch_more new (w.darts + 1) m b s.next_back (s.angle_other m m_in md mf ∙ r.0)
    (chord_stretch w d c f way new s tied here k m b m_in md mc mf bd r.1)
