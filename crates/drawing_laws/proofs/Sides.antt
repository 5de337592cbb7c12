-- Sides of faces: straight stretches of darts from a corner to the next, in coordinates that are in the order of the darts.
use Rattle.std.proofs.Common.{◌≡◌, ℕ, zero, suc, ◌+◌, ◌%◌, ◌<◌, ◌≤◌, ◌⊎◌, ◌∙◌, arith, subst, sym, ap, refl, inl, inr}
use Rattle.std.proofs.lemmas.Bool.{cases_eq, cases_lt, cases_order}
use Rattle.dissect.specs.DartMaps.{DartMap, IsTied, IsSound}
use Rattle.dissect.specs.Faces.{IsCorner, StretchesIn, Stretches}
use Rattle.dissect.proofs.Stretching.{stretch_back, steps_back}
use Rattle.dissect.specs.Monotone.{IsMonotone, tail}

-- ---- coordinates along a direction

-- the vertex v lies from u in the direction k, straight
abbrev pub Goes : ℕ → (ℕ → ℕ) → (ℕ → ℕ) → ℕ → ℕ → Type 0
Goes zero x y u v = (x u < x v) × (y u ≡ y v)
Goes (suc zero) x y u v = (y u < y v) × (x u ≡ x v)
Goes (suc (suc zero)) x y u v = (x v < x u) × (y u ≡ y v)
Goes (suc (suc (suc k))) x y u v = (y v < y u) × (x u ≡ x v)

-- so it does, or has the same coordinates
abbrev pub Leads : ℕ → (ℕ → ℕ) → (ℕ → ℕ) → ℕ → ℕ → Type 0
Leads zero x y u v = (x u ≤ x v) × (y u ≡ y v)
Leads (suc zero) x y u v = (y u ≤ y v) × (x u ≡ x v)
Leads (suc (suc zero)) x y u v = (x v ≤ x u) × (y u ≡ y v)
Leads (suc (suc (suc k))) x y u v = (y v ≤ y u) × (x u ≡ x v)

-- the coordinate t is passed on the way from u to v, or reached
abbrev pub Spans : ℕ → (ℕ → ℕ) → (ℕ → ℕ) → ℕ → ℕ → ℕ → Type 0
Spans zero x y t u v = (x u < t) × (t ≤ x v)
Spans (suc zero) x y t u v = (y u < t) × (t ≤ y v)
Spans (suc (suc zero)) x y t u v = (x v ≤ t) × (t < x u)
Spans (suc (suc (suc k))) x y t u v = (y v ≤ t) × (t < y u)

pub leads_same : (k : ℕ) (x y : ℕ → ℕ) (u : ℕ) → Leads k x y u u
leads_same zero x y u = (omega arith, refl)
leads_same (suc zero) x y u = (omega arith, refl)
leads_same (suc (suc zero)) x y u = (omega arith, refl)
leads_same (suc (suc (suc k))) x y u = (omega arith, refl)

pub goes_leads : (k : ℕ) (x y : ℕ → ℕ) (u v : ℕ) → Goes k x y u v → Leads k x y u v
goes_leads zero x y u v one = (omega (arith, one.0), one.1)
goes_leads (suc zero) x y u v one = (omega (arith, one.0), one.1)
goes_leads (suc (suc zero)) x y u v one = (omega (arith, one.0), one.1)
goes_leads (suc (suc (suc k))) x y u v one = (omega (arith, one.0), one.1)

-- first straight on, then no less
pub goes_on : (k : ℕ) (x y : ℕ → ℕ) (u v t : ℕ) → Goes k x y u v → Leads k x y v t → Goes k x y u t
goes_on zero x y u v t one two = (omega (arith, one.0, two.0), one.1 ∙ two.1)
goes_on (suc zero) x y u v t one two = (omega (arith, one.0, two.0), one.1 ∙ two.1)
goes_on (suc (suc zero)) x y u v t one two = (omega (arith, one.0, two.0), one.1 ∙ two.1)
goes_on (suc (suc (suc k))) x y u v t one two = (omega (arith, one.0, two.0), one.1 ∙ two.1)

-- a way through a middle vertex passes each coordinate in one of its parts
spans_split : (k : ℕ) (x y : ℕ → ℕ) (t u m v : ℕ) → Spans k x y t u v → Spans k x y t u m ⊎ Spans k x y t m v
spans_split zero x y t u m v (low, high) =
    elim (cases_lt (x m) t) [ inl less ↦ inr (less, high) | inr more ↦ inl (low, omega (arith, more)) ]
spans_split (suc zero) x y t u m v (low, high) =
    elim (cases_lt (y m) t) [ inl less ↦ inr (less, high) | inr more ↦ inl (low, omega (arith, more)) ]
spans_split (suc (suc zero)) x y t u m v (low, high) =
    elim (cases_lt t (x m)) [ inl less ↦ inr (low, less) | inr more ↦ inl (omega (arith, more), high) ]
spans_split (suc (suc (suc k))) x y t u m v (low, high) =
    elim (cases_lt t (y m)) [ inl less ↦ inr (low, less) | inr more ↦ inl (omega (arith, more), high) ]

-- what is passed within a way is passed on it
pub spans_wide : (k : ℕ) (x y : ℕ → ℕ) (t s u v e : ℕ) → Leads k x y s u → Leads k x y v e → Spans k x y t u v → Spans k x y t s e
spans_wide zero x y t s u v e one two (low, high) = (omega (arith, one.0, low), omega (arith, two.0, high))
spans_wide (suc zero) x y t s u v e one two (low, high) = (omega (arith, one.0, low), omega (arith, two.0, high))
spans_wide (suc (suc zero)) x y t s u v e one two (low, high) = (omega (arith, two.0, low), omega (arith, one.0, high))
spans_wide (suc (suc (suc k))) x y t s u v e one two (low, high) = (omega (arith, two.0, low), omega (arith, one.0, high))

-- a coordinate is not passed twice
spans_once : (k : ℕ) (x y : ℕ → ℕ) (t s u v e : ℕ) → Spans k x y t s u → Leads k x y u v → Spans k x y t v e → ⊥
spans_once zero x y t s u v e one on two = omega (arith, one.1, on.0, two.0)
spans_once (suc zero) x y t s u v e one on two = omega (arith, one.1, on.0, two.0)
spans_once (suc (suc zero)) x y t s u v e one on two = omega (arith, one.0, on.0, two.1)
spans_once (suc (suc (suc k))) x y t s u v e one on two = omega (arith, one.0, on.0, two.1)

-- ---- stretches

-- from a on the walk goes straight through k darts, a the first of them, and arrives with c
abbrev pub Keeps : DartMap → ℕ → ℕ → ℕ → Type 0
Keeps w zero a c = a ≡ c
Keeps w (suc k) a c = (w.angle a ≡ 2) × Keeps w k (w.next a) c

-- the dart a is on the side that ends with the corner c
pub record IsOn (w : DartMap) (a c : ℕ) : Type 0 where
  pub places : ℕ
  pub keeps : Keeps w places a c

pub stretch_keeps : (w : DartMap) (k a c : ℕ) → w.angle a ≡ 2 → StretchesIn w k a c → Keeps w (suc k) a c
stretch_keeps w zero a c straight stretch = (straight, stretch.0)
stretch_keeps w (suc k) a c straight stretch = (straight, stretch_keeps w k (w.next a) c stretch.0 stretch.1)

keeps_stretch : (w : DartMap) (k a c : ℕ) → IsCorner w c → Keeps w (suc k) a c → StretchesIn w k a c
keeps_stretch w zero a c corner keeps = (keeps.1, corner)
keeps_stretch w (suc k) a c corner keeps = (keeps.1.0, keeps_stretch w k (w.next a) c corner keeps.1)

stretch_behind : (w : DartMap) (k a c : ℕ) → StretchesIn w k a c → Keeps w k (w.next a) c
stretch_behind w zero a c stretch = stretch.0
stretch_behind w (suc k) a c stretch = (stretch.0, stretch_behind w k (w.next a) c stretch.1)

keeps_one : (w : DartMap) (j k a b c : ℕ) → IsCorner w b → IsCorner w c → Keeps w j a b → Keeps w k a c → b ≡ c
keeps_one w zero zero a b c cb cc one two = sym one ∙ two
keeps_one w zero (suc k) a b c cb cc one two = absurd (cb (ap w.angle (sym one) ∙ two.0))
keeps_one w (suc j) zero a b c cb cc one two = absurd (cc (ap w.angle (sym two) ∙ one.0))
keeps_one w (suc j) (suc k) a b c cb cc one two = keeps_one w j k (w.next a) b c cb cc one.1 two.1

keeps_back : (w : DartMap) → IsTied w → (k a c : ℕ) → a < w.darts → Keeps w k a c → steps_back w k c ≡ a
keeps_back w tied zero a c a_in keeps = sym keeps
keeps_back w tied (suc k) a c a_in keeps =
    ap w.prev (keeps_back w tied k (w.next a) c (tied.next_in a a_in) keeps.1) ∙ tied.next_back a a_in

keeps_between : (w : DartMap) → IsTied w → (k a c j : ℕ) → a < w.darts → Keeps w k a c → j < k → w.angle (steps_back w (suc j) c) ≡ 2
keeps_between w tied zero a c j a_in keeps less = absurd (omega arith)
keeps_between w tied (suc k) a c j a_in keeps less =
    elim (cases_eq j k) [
      | inl e ↦ subst (λ (i : ℕ). w.angle (steps_back w (suc i) c) ≡ 2) (sym e)
          (ap w.angle (keeps_back w tied (suc k) a c a_in keeps) ∙ keeps.0)
      | inr other ↦ keeps_between w tied k (w.next a) c j (tied.next_in a a_in) keeps.1 (omega arith)
    ]

-- what is on a side lies after the corner from which it sets out
keeps_short : (w : DartMap) → IsTied w → (k m p a c : ℕ) → p < w.darts → a < w.darts → IsCorner w p → StretchesIn w k p c → Keeps w m a c → m ≤ k
keeps_short w tied k m p a c p_in a_in corner stretch keeps =
    elim (cases_lt k m) [
      | inl less ↦ absurd (corner (ap w.angle (sym (stretch_back w tied k p c p_in stretch)) ∙ keeps_between w tied m a c k a_in keeps less))
      | inr few ↦ omega (arith, few)
    ]

pub on_one : (w : DartMap) (a b c : ℕ) → IsCorner w b → IsCorner w c → IsOn w a b → IsOn w a c → b ≡ c
on_one w a b c cb cc one two = keeps_one w one.places two.places a b c cb cc one.keeps two.keeps

pub on_itself : (w : DartMap) (c : ℕ) → IsOn w c c
on_itself w c = record { places = 0; keeps = refl }

-- ---- directions and coordinates

module _ (w : DartMap) (sound : IsSound w) where
  -- the way after a dart, by its angle
  pub next_way : (a : ℕ) → a < w.darts → (w.direction (w.next a) + 2 + w.angle a) % 4 ≡ w.direction a
  next_way a a_in =
      let next_in = sound.tied.next_in a a_in in
      omega (arith, sound.straight (w.next a) next_in, sound.meeting.turns a a_in)

  pub next_straight : (a : ℕ) → a < w.darts → w.angle a ≡ 2 → w.direction (w.next a) ≡ w.direction a
  next_straight a a_in straight =
      omega (arith, next_way a a_in, straight, sound.meeting.quarter a a_in, sound.meeting.quarter (w.next a) (sound.tied.next_in a a_in))

  pub keeps_way : (k a c : ℕ) → a < w.darts → Keeps w k a c → w.direction a ≡ w.direction c
  keeps_way zero a c a_in keeps = ap w.direction keeps
  keeps_way (suc k) a c a_in keeps =
      sym (next_straight a a_in keeps.0) ∙ keeps_way k (w.next a) c (sound.tied.next_in a a_in) keeps.1

  pub keeps_inside : (k a c : ℕ) → a < w.darts → Keeps w k a c → c < w.darts
  keeps_inside zero a c a_in keeps = omega (arith, keeps, a_in)
  keeps_inside (suc k) a c a_in keeps = keeps_inside k (w.next a) c (sound.tied.next_in a a_in) keeps.1

  -- the way at the next corner
  pub stretch_way : (p c : ℕ) → p < w.darts → Stretches w p c → (w.direction c + 2 + w.angle p) % 4 ≡ w.direction p
  stretch_way p c p_in stretch =
      let same = keeps_way stretch.places (w.next p) c (sound.tied.next_in p p_in) (stretch_behind w stretch.places p c stretch.stretch) in
      omega (arith, next_way p p_in, same)

  -- the vertex where a dart arrives is that from which the next sets out
  pub next_tail : (a : ℕ) → a < w.darts → tail w (w.next a) ≡ w.head a
  next_tail a a_in = sound.meeting.meets a a_in

  module _ (x y : ℕ → ℕ) (monotone : IsMonotone w x y) where
    reverse_way : (a k m : ℕ) → a < w.darts → w.direction a ≡ k → (k + 2) % 4 ≡ m → w.direction (w.reverse_dart a) ≡ m
    reverse_way a k m a_in way is = sound.straight a a_in ∙ ap (λ (d : ℕ). (d + 2) % 4) way ∙ is

    pub tail_back : (a : ℕ) → a < w.darts → tail w (w.reverse_dart a) ≡ w.head a
    tail_back a a_in = ap w.head (sound.tied.reverse_dart_back a a_in)

    -- a dart goes in its direction
    pub dart_goes : (k a : ℕ) → a < w.darts → w.direction a ≡ k → Goes k x y (tail w a) (w.head a)
    dart_goes zero a a_in way = monotone.east a a_in way
    dart_goes (suc zero) a a_in way = monotone.north a a_in way
    dart_goes (suc (suc zero)) a a_in way =
        let back = monotone.east (w.reverse_dart a) (sound.tied.reverse_dart_in a a_in) (reverse_way a 2 0 a_in way refl) in
        (omega (arith, back.0, ap x (tail_back a a_in)), omega (arith, back.1, ap y (tail_back a a_in)))
    dart_goes (suc (suc (suc zero))) a a_in way =
        let back = monotone.north (w.reverse_dart a) (sound.tied.reverse_dart_in a a_in) (reverse_way a 3 1 a_in way refl) in
        (omega (arith, back.0, ap y (tail_back a a_in)), omega (arith, back.1, ap x (tail_back a a_in)))
    dart_goes (suc (suc (suc (suc k)))) a a_in way = absurd (omega (arith, way, sound.meeting.quarter a a_in))

    -- from any dart of a side on, to its end
    pub keeps_leads : (d k a c : ℕ) → a < w.darts → w.direction c ≡ d → Keeps w k a c → Leads d x y (w.head a) (w.head c)
    keeps_leads d zero a c a_in way keeps =
        subst (λ (e : ℕ). Leads d x y (w.head a) (w.head e)) keeps (leads_same d x y (w.head a))
    keeps_leads d (suc k) a c a_in way keeps =
        let b : ℕ = w.next a in
        let b_in = sound.tied.next_in a a_in in
        let first : Goes d x y (w.head a) (w.head b) =
        subst (λ (u : ℕ). Goes d x y u (w.head b)) (next_tail a a_in) (dart_goes d b b_in (keeps_way k b c b_in keeps.1 ∙ way)) in
        goes_leads d x y (w.head a) (w.head c)
        (goes_on d x y (w.head a) (w.head b) (w.head c) first (keeps_leads d k b c b_in way keeps.1))

    -- from where a side sets out to its end
    pub stretch_goes : (d p c : ℕ) → p < w.darts → w.direction c ≡ d → Stretches w p c → Goes d x y (w.head p) (w.head c)
    stretch_goes d p c p_in way stretch =
        let b : ℕ = w.next p in
        let b_in = sound.tied.next_in p p_in in
        let keeps = stretch_behind w stretch.places p c stretch.stretch in
        goes_on d x y (w.head p) (w.head b) (w.head c)
        (subst (λ (u : ℕ). Goes d x y u (w.head b)) (next_tail p p_in) (dart_goes d b b_in (keeps_way stretch.places b c b_in keeps ∙ way)))
        (keeps_leads d stretch.places b c b_in way keeps)

    -- from where it sets out to any dart of it
    stretch_leads : (d k m p a c : ℕ) → p < w.darts → a < w.darts → w.direction c ≡ d → StretchesIn w k p c → Keeps w m a c → m ≤ k
        → Leads d x y (w.head p) (tail w a)
    stretch_leads d zero m p a c p_in a_in way stretch keeps few =
        let none : m ≡ 0 = omega (arith, few) in
        let at : a ≡ c = subst (λ (n : ℕ). Keeps w n a c) none keeps in
        let from : tail w a ≡ w.head p = ap (tail w) (at ∙ sym stretch.0) ∙ next_tail p p_in in
        subst (λ (u : ℕ). Leads d x y (w.head p) u) (sym from) (leads_same d x y (w.head p))
    stretch_leads d (suc k) m p a c p_in a_in way stretch keeps few =
        let b : ℕ = w.next p in
        let b_in = sound.tied.next_in p p_in in
        let behind : Keeps w (suc k) b c = stretch_keeps w k b c stretch.0 stretch.1 in
        elim (cases_eq m (suc k)) [
          | inl all ↦
              let at : a ≡ b =
              sym (keeps_back w sound.tied (suc k) a c a_in (subst (λ (n : ℕ). Keeps w n a c) all keeps))
              ∙ keeps_back w sound.tied (suc k) b c b_in behind in
              subst (λ (u : ℕ). Leads d x y (w.head p) u) (sym (ap (tail w) at ∙ next_tail p p_in)) (leads_same d x y (w.head p))
          | inr less ↦
              let first : Goes d x y (w.head p) (w.head b) =
              subst (λ (u : ℕ). Goes d x y u (w.head b)) (next_tail p p_in) (dart_goes d b b_in (keeps_way (suc k) b c b_in behind ∙ way)) in
              goes_leads d x y (w.head p) (tail w a)
              (goes_on d x y (w.head p) (w.head b) (tail w a) first
              (stretch_leads d k m b a c b_in a_in way stretch.1 keeps (omega (arith, less, few))))
        ]

    -- a side passes each coordinate between its ends with a dart of it
    stretch_spans : (d k p c t : ℕ) → p < w.darts → w.direction c ≡ d → StretchesIn w k p c → Spans d x y t (w.head p) (w.head c)
        → (a : ℕ) × (a < w.darts) × IsOn w a c × Spans d x y t (tail w a) (w.head a)
    stretch_spans d zero p c t p_in way stretch spans =
        let c_in : c < w.darts = omega (arith, sound.tied.next_in p p_in, stretch.0) in
        let from : w.head p ≡ tail w c = sym (next_tail p p_in) ∙ ap (tail w) stretch.0 in
        (c, c_in, on_itself w c, subst (λ (u : ℕ). Spans d x y t u (w.head c)) from spans)
    stretch_spans d (suc k) p c t p_in way stretch spans =
        let b : ℕ = w.next p in
        let b_in = sound.tied.next_in p p_in in
        elim (spans_split d x y t (w.head p) (w.head b) (w.head c) spans) [
          | inl first ↦ (
            b,
            b_in,
            record { places = suc k; keeps = stretch_keeps w k b c stretch.0 stretch.1 },
            subst (λ (u : ℕ). Spans d x y t u (w.head b)) (sym (next_tail p p_in)) first,
          )
          | inr later ↦ stretch_spans d k b c t b_in way stretch.1 later
        ]

    pub side_spans : (d p c t : ℕ) → p < w.darts → w.direction c ≡ d → Stretches w p c → Spans d x y t (w.head p) (w.head c)
        → (a : ℕ) × (a < w.darts) × IsOn w a c × Spans d x y t (tail w a) (w.head a)
    side_spans d p c t p_in way stretch spans = stretch_spans d stretch.places p c t p_in way stretch.stretch spans

    -- what a dart of the side passes, the side passes
    pub side_wide : (d p a c t : ℕ) → p < w.darts → a < w.darts → IsCorner w p → w.direction c ≡ d → Stretches w p c → IsOn w a c
        → Spans d x y t (tail w a) (w.head a) → Spans d x y t (w.head p) (w.head c)
    side_wide d p a c t p_in a_in corner way stretch on spans =
        spans_wide d x y t (w.head p) (tail w a) (w.head a) (w.head c)
        (stretch_leads d stretch.places on.places p a c p_in a_in way stretch.stretch on.keeps
        (keeps_short w sound.tied stretch.places on.places p a c p_in a_in corner stretch.stretch on.keeps))
        (keeps_leads d on.places a c a_in way on.keeps) spans

    -- where one dart of a side comes after another, it passes no coordinate that the other passes
    not_both : (d m n a b c t : ℕ) → a < w.darts → b < w.darts → IsCorner w c → w.direction c ≡ d → Keeps w m a c → Keeps w n b c → m < n
        → Spans d x y t (tail w a) (w.head a) → Spans d x y t (tail w b) (w.head b) → ⊥
    not_both d m zero a b c t a_in b_in corner way one two less sa sb = omega (arith, less)
    not_both d m (suc n) a b c t a_in b_in corner way one two less sa sb =
        spans_once d x y t (tail w b) (w.head b) (tail w a) (w.head a) sb
        (stretch_leads d n m b a c b_in a_in way (keeps_stretch w n b c corner two) one (omega (arith, less))) sa

    -- so a side passes each coordinate with one dart alone
    pub side_once : (d a b c t : ℕ) → a < w.darts → b < w.darts → IsCorner w c → w.direction c ≡ d → IsOn w a c → IsOn w b c
        → Spans d x y t (tail w a) (w.head a) → Spans d x y t (tail w b) (w.head b) → a ≡ b
    side_once d a b c t a_in b_in corner way one two sa sb =
        let m : ℕ = one.places in
        let n : ℕ = two.places in
        elim (cases_order m n) [
          | inl same ↦
              sym (keeps_back w sound.tied m a c a_in one.keeps) ∙ ap (λ (k : ℕ). steps_back w k c) same
              ∙ keeps_back w sound.tied n b c b_in two.keeps
          | inr either ↦ elim either [
            | inl less ↦ absurd (not_both d m n a b c t a_in b_in corner way one.keeps two.keeps less sa sb)
            | inr more ↦ absurd (not_both d n m b a c t b_in a_in corner way two.keeps one.keeps more sb sa)
          ]
        ]

    -- the vertices along a side are on its line
    pub side_leads : (d a c : ℕ) → a < w.darts → w.direction c ≡ d → IsOn w a c → Leads d x y (w.head a) (w.head c)
    side_leads d a c a_in way on = keeps_leads d on.places a c a_in way on.keeps
