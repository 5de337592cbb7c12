-- No closed way through darts of boxes goes to the east without going to the west.
use Rattle.std.proofs.Common.{◌≡◌, ℕ, ◌+◌, ◌<◌, ◌≤◌, ◌⊎◌, Bool, true, false, not, ◌&&◌, ltb, arith, refl, sym, ap, ◌∙◌, subst, inl, inr}
use Rattle.std.proofs.lemmas.Bool.{cases_Bool, lt-ltb, ltb-true, ltb-false, cond-false, both_ways}
use Rattle.dissect.specs.DartMaps.{DartMap, IsSound}
use Rattle.dissect.specs.Paths.{IsConnected}
use Rattle.dissect.specs.Boxes.{HasBoxFaces}
use Rattle.dissect.proofs.Reordered.{sum_at, sum_at-add, sum_at-same}
use Rattle.dissect.proofs.Trees.{Connections}
use Rattle.dissect.proofs.Peeling.{IsPaired}
use Rattle.drawing_laws.proofs.Growing.{Growth, growth, Up, way_sum, way_root, way_step, peels}
use Rattle.drawing_laws.proofs.FaceNumbering.{FaceNumbering, OfFaces, face_numbers}
use Rattle.drawing_laws.proofs.CornerCounts.{clockwise, moved}
use Rattle.drawing_laws.proofs.Connecting.{outer_connections, filled, face_node, face_connections, vertex_connections, paired1, face_next, paired2, spanned, holds_outside}
use Rattle.drawing_laws.proofs.Rotating.{rotated, rotated_sound, rotated_cut}

-- no face is of the set
abbrev pub nobody : ℕ → Bool
nobody a = false

-- the faces that the outside does not reach: none
abbrev pub rest : (w : DartMap) (o : ℕ) (faces : FaceNumbering w o) → Growth (outer_connections w o faces nobody) → ℕ → Bool
rest w o faces g0 = filled w o faces nobody g0

module _ (w : DartMap) (sound : IsSound w) (connected : IsConnected w) (cut : HasBoxFaces w) (o : ℕ) (faces : FaceNumbering w o)
    (outer : (s : ℕ → Bool) → OfFaces w s → s cut.outside ≡ s faces.out) where
  abbrev upward0 : (a : ℕ) → a < w.darts → w.direction a ≡ 0 → nobody (w.reverse_dart a) ≡ true → nobody a ≡ true
  upward0 a a_in east on = on

  back_in : (a : ℕ) → a < w.darts → w.reverse_dart a < w.darts
  back_in = sound.tied.reverse_dart_in

  back_back : (a : ℕ) → a < w.darts → w.reverse_dart (w.reverse_dart a) ≡ a
  back_back = sound.tied.reverse_dart_back

  none_left : (g0 : Growth (outer_connections w o faces nobody)) (a : ℕ) → a < w.darts → rest w o faces g0 a ≡ false
  none_left g0 a a_in =
      ap not (connected (λ d. g0.reached (faces.face_number d)) (λ d d_in on. ap g0.reached (faces.stays d d_in) ∙ on)
      (λ d d_in on. g0.closed (w.reverse_dart d) (back_in d d_in) refl (ap (λ (e : ℕ). g0.reached (faces.face_number e)) (back_back d d_in) ∙ on))
      faces.out a faces.out_in a_in (ap g0.reached faces.out_own ∙ g0.grown.root))

  module _ (g0 : Growth (outer_connections w o faces nobody)) (g1 : Growth (face_connections w o faces (rest w o faces g0) faces.out))
      (g2 : Growth (vertex_connections w o faces (rest w o faces g0) faces.out g1))
      (m : ℕ → ℕ) (round : (u : ℕ) → sum_at w.darts w.head u m ≡ sum_at w.darts w.head u (λ d. m (w.reverse_dart d)))
      (west : (a : ℕ) → a < w.darts → w.direction a ≡ 2 → m a ≡ 0) where
    abbrev s : ℕ → Bool
    s = rest w o faces g0

    abbrev f : ℕ → ℕ
    f = face_node w o faces s

    abbrev j1 : Connections
    j1 = face_connections w o faces s faces.out

    abbrev j2 : Connections
    j2 = vertex_connections w o faces s faces.out g1

    merged : (d : ℕ) → d < w.darts → s d ≡ true → f d ≡ faces.out
    merged d d_in on = absurd (both_ways (s d) (none_left g0 d d_in) on)

    out_node : f faces.out ≡ faces.out
    out_node = cond-false {A = ℕ} (s faces.out) w.darts (faces.face_number faces.out) (none_left g0 faces.out faces.out_in) ∙ faces.out_own

    root_in : faces.out < w.darts + 1
    root_in = omega (arith, faces.out_in)

    next_face : (a : ℕ) → a < w.darts → f (w.next a) ≡ f a
    next_face = face_next w sound connected o faces nobody (λ a l. refl) upward0 refl g0 faces.out root_in merged faces.out faces.out_in out_node g1

    pair1 : IsPaired j1 w.reverse_dart
    pair1 = paired1 w sound connected o faces nobody (λ a l. refl) upward0 refl g0 faces.out root_in merged faces.out faces.out_in out_node g1

    pair2 : IsPaired j2 w.reverse_dart
    pair2 = paired2 w sound connected o faces nobody (λ a l. refl) upward0 refl g0 faces.out root_in merged faces.out faces.out_in out_node g1 g2

    each_spanned : (d : ℕ) → d < w.darts → (Up j1 g1 d ⊎ Up j1 g1 (w.reverse_dart d)) ⊎ (Up j2 g2 d ⊎ Up j2 g2 (w.reverse_dart d))
    each_spanned d d_in =
        spanned w sound connected o faces nobody (λ a l. refl) upward0 refl g0 faces.out root_in merged faces.out faces.out_in out_node g1 g2 d d_in
        (ap (λ (b : Bool). b && s (w.reverse_dart d)) (none_left g0 d d_in))

    abbrev plus : ℕ → ℕ
    plus = way_sum j1 g1 m

    abbrev minus : ℕ → ℕ
    minus = way_sum j1 g1 (λ d. m (w.reverse_dart d))

    abbrev left : ℕ → ℕ
    left d = plus (f d) + minus (f (w.reverse_dart d)) + m (w.reverse_dart d)

    abbrev right : ℕ → ℕ
    right d = minus (f d) + plus (f (w.reverse_dart d)) + m d

    crossed : (d : ℕ) → d < w.darts → left (w.reverse_dart d) ≡ right d
    crossed d d_in =
        omega (arith, ap (λ (e : ℕ). minus (f e)) (back_back d d_in), ap m (back_back d d_in))

    crossed_back : (d : ℕ) → d < w.darts → right (w.reverse_dart d) ≡ left d
    crossed_back d d_in =
        omega (arith, ap (λ (e : ℕ). plus (f e)) (back_back d d_in))

    up_same : (d : ℕ) → Up j1 g1 d → left d ≡ right d
    up_same d up =
        let one : plus (f d) ≡ plus (f (w.reverse_dart d)) + m d =
        subst (λ (e : ℕ). plus (f d) ≡ plus (f (w.reverse_dart e)) + m e) up.parent_is (way_step j1 g1 m (f d) up.reached up.node) in
        let two : minus (f d) ≡ minus (f (w.reverse_dart d)) + m (w.reverse_dart d) =
        subst (λ (e : ℕ). minus (f d) ≡ minus (f (w.reverse_dart e)) + m (w.reverse_dart e)) up.parent_is
        (way_step j1 g1 (λ d. m (w.reverse_dart d)) (f d) up.reached up.node) in
        omega (arith, one, two)

    tree_same : (d : ℕ) → d < w.darts → Up j1 g1 d ⊎ Up j1 g1 (w.reverse_dart d) → left d ≡ right d
    tree_same d d_in (inl up) = up_same d up
    tree_same d d_in (inr up) = sym (crossed_back d d_in) ∙ sym (up_same (w.reverse_dart d) up) ∙ crossed d d_in

    -- around a vertex what stands at each face is met on both sides of its darts
    both_sides : (u : ℕ) (c : ℕ → ℕ) → sum_at w.darts w.head u (λ d. c (f (w.reverse_dart d))) ≡ sum_at w.darts w.head u (λ d. c (f d))
    both_sides u c =
        sym (moved w sound u (λ d. c (f (w.reverse_dart d))))
        ∙ sum_at-same w.darts w.head u (λ d. c (f (w.reverse_dart (clockwise w d)))) (λ d. c (f d))
        (λ d d_in. ap (λ (e : ℕ). c (f e)) (back_back (w.next d) (sound.tied.next_in d d_in)) ∙ ap c (next_face d d_in))

    at_vertex : (u : ℕ) → sum_at w.darts w.head u left ≡ sum_at w.darts w.head u right
    at_vertex u = omega (
      arith,
      sum_at-add w.darts w.head u (λ d. plus (f d) + minus (f (w.reverse_dart d))) (λ d. m (w.reverse_dart d)),
      sum_at-add w.darts w.head u (λ d. plus (f d)) (λ d. minus (f (w.reverse_dart d))),
      sum_at-add w.darts w.head u (λ d. minus (f d) + plus (f (w.reverse_dart d))) m,
      sum_at-add w.darts w.head u (λ d. minus (f d)) (λ d. plus (f (w.reverse_dart d))),
      both_sides u plus,
      both_sides u minus,
      round u,
    )

    -- so what flows along the darts is the difference of the faces on their sides
    balanced : (d : ℕ) → d < w.darts → left d ≡ right d
    balanced d d_in =
        elim (each_spanned d d_in) [
          | inl up ↦ tree_same d d_in up
          | inr up ↦ peels j2 g2 w.reverse_dart pair2 left right crossed (λ v ne. at_vertex v)
              (λ e e_in ne. elim (each_spanned e e_in) [ inl on ↦ inl (tree_same e e_in on) | inr on ↦ inr on ]) d d_in up
        ]

    -- ---- faces where it is above that of the outside, or below

    abbrev rise : ℕ → Bool
    rise a = ltb (minus (f a)) (plus (f a))

    abbrev fall : ℕ → Bool
    fall a = ltb (plus (f a)) (minus (f a))

    rise_of : OfFaces w rise
    rise_of a a_in = ap (λ (v : ℕ). ltb (minus v) (plus v)) (next_face a a_in)

    fall_of : OfFaces w fall
    fall_of a a_in = ap (λ (v : ℕ). ltb (plus v) (minus v)) (next_face a a_in)

    plus_out : plus (f faces.out) ≡ 0
    plus_out = ap plus out_node ∙ way_root j1 g1 m

    minus_out : minus (f faces.out) ≡ 0
    minus_out = ap minus out_node ∙ way_root j1 g1 (λ d. m (w.reverse_dart d))

    rise_out : rise faces.out ≡ true → ⊥
    rise_out on = omega (arith, ltb-true (minus (f faces.out)) (plus (f faces.out)) on, plus_out, minus_out)

    fall_out : fall faces.out ≡ true → ⊥
    fall_out on = omega (arith, ltb-true (plus (f faces.out)) (minus (f faces.out)) on, plus_out, minus_out)

    no_rise : (a : ℕ) → a < w.darts → rise a ≡ true → ⊥
    no_rise a a_in on =
        rise_out (sym (outer rise rise_of) ∙ holds_outside w sound connected cut.outside (face_numbers w sound cut) rise rise_of
        (λ d d_in east there.
        let b : ℕ = w.reverse_dart d in
        let none : m b ≡ 0 = west b (back_in d d_in) (omega (arith, sound.straight d d_in, east)) in
        lt-ltb (minus (f d)) (plus (f d)) (omega (arith, balanced d d_in, none, ltb-true (minus (f b)) (plus (f b)) there)))
        a a_in on)

    no_fall : (a : ℕ) → a < w.darts → fall a ≡ true → ⊥
    no_fall a a_in on =
        fall_out (sym (outer fall fall_of) ∙ holds_outside (rotated w 2) (rotated_sound w 2 sound) connected cut.outside
        (face_numbers (rotated w 2) (rotated_sound w 2 sound) (rotated_cut w 2 cut)) fall fall_of
        (λ d d_in way there.
        let b : ℕ = w.reverse_dart d in
        let none : m d ≡ 0 = west d d_in (omega (arith, way, sound.meeting.quarter d d_in)) in
        lt-ltb (plus (f d)) (minus (f d)) (omega (arith, balanced d d_in, none, ltb-true (plus (f b)) (minus (f b)) there)))
        a a_in on)

    nothing_flows : (e : ℕ) → e < w.darts → w.direction e ≡ 0 → 1 ≤ m e → ⊥
    nothing_flows e e_in east some =
        let b : ℕ = w.reverse_dart e in
        let b_in = back_in e e_in in
        let none : m b ≡ 0 = west b b_in (omega (arith, sound.straight e e_in, east)) in
        elim (cases_Bool (rise e)) [
          | inl on ↦ no_rise e e_in on
          | inr off ↦ elim (cases_Bool (fall b)) [
            | inl on ↦ no_fall b b_in on
            | inr low ↦
                omega (arith, balanced e e_in, none, some, ltb-false (minus (f e)) (plus (f e)) off, ltb-false (plus (f b)) (minus (f b)) low)
          ]
        ]

  pub no_circling : (m : ℕ → ℕ) → ((u : ℕ) → sum_at w.darts w.head u m ≡ sum_at w.darts w.head u (λ d. m (w.reverse_dart d)))
      → ((a : ℕ) → a < w.darts → w.direction a ≡ 2 → m a ≡ 0)
      → (e : ℕ) → e < w.darts → w.direction e ≡ 0 → 1 ≤ m e → ⊥
  no_circling m round west e e_in east some = first (growth (outer_connections w o faces nobody) faces.inside)
    where
      first : Growth (outer_connections w o faces nobody) → ⊥
      first g0 = second (growth (face_connections w o faces (rest w o faces g0) faces.out) inside)
        where
          inside : (d : ℕ) → d < w.darts → face_node w o faces (rest w o faces g0) d < w.darts + 1
          inside d d_in =
              omega (arith, cond-false {A = ℕ} (rest w o faces g0 d) w.darts (faces.face_number d) (none_left g0 d d_in), faces.inside d d_in)

          second : Growth (face_connections w o faces (rest w o faces g0) faces.out) → ⊥
          second g1 = nothing_flows g0 g1 (growth (vertex_connections w o faces (rest w o faces g0) faces.out g1) sound.meeting.head_in) m round west e e_in east some
