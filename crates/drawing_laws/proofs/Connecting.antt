-- Trees on the faces off a set and on the vertices of their edges: a set of boxes that is closed to the north does not avoid the outside.
use Rattle.std.proofs.Common.{◌≡◌, ◌≢◌, ℕ, ◌+◌, ◌*◌, ◌<◌, ◌≤◌, ◌⊎◌, Bool, true, false, not, ◌&&◌, ◌||◌, cond, eqb, arith, refl, sym, ap, ◌∙◌, subst, inl, inr}
use Rattle.std.proofs.lemmas.Bool.{cases_eq, cases_Bool, eq-eqb, ne_eqb, eqb-true, cond-true, cond-false, both_ways, and_from, and_parts, or_cases, or_parts, or_from, or_left, or_right, not-true, not_from_false, true_from_ne_false, false_from_ne_true}
use Rattle.common.specs.Sums.{sum_below}
use Rattle.common.proofs.Sums.{sum_below-more, sum_below-add, sum_below-le, sum_below-lt, sum_below-one, sum_below-turned}
use Rattle.dissect.specs.DartMaps.{DartMap, IsSound}
use Rattle.dissect.specs.Paths.{IsConnected}
use Rattle.dissect.proofs.Reordered.{sum_at, sum_at-same, reordered_at}
use Rattle.dissect.proofs.Trees.{Connections}
use Rattle.dissect.proofs.Peeling.{IsPaired}
use Rattle.drawing_laws.proofs.Growing.{Growth, growth, Up, is_up, ups, up_from, up_leads, enough, one_way, by_growth, peels}
use Rattle.drawing_laws.proofs.FaceNumbering.{FaceNumbering, OfFaces}
use Rattle.drawing_laws.proofs.CornerCounts.{touches, boxes_off, next_one, few_edges}

and_swap : (x y z : Bool) → z ≡ x → (x && y) ≡ false → (y && z) ≡ false
and_swap true y z e h = ap (λ (b : Bool). b && z) h
and_swap false true z e h = e
and_swap false false z e h = refl

and_off : (x y : Bool) → x ≡ false → (x && y) ≡ false
and_off x y e = ap (λ (b : Bool). b && y) e

either : (x y : Bool) → (x && y) ≡ false → (x ≡ false) ⊎ (y ≡ false)
either true y e = inr e
either false y e = inl refl

same_if : (x y : Bool) → (x ≡ true → y ≡ true) → (y ≡ true → x ≡ true) → x ≡ y
same_if true true f g = refl
same_if true false f g = sym (f refl)
same_if false true f g = g refl
same_if false false f g = refl

bits : (x y : Bool) → cond {A = ℕ} x 1 0 ≡ cond y 1 0 → x ≡ y
bits true true e = refl
bits true false e = absurd (omega (arith, e))
bits false true e = absurd (omega (arith, e))
bits false false e = refl

nothing_if : (x : Bool) → (x ≡ true → ⊥) → cond {A = ℕ} x 1 0 ≡ 0
nothing_if true h = absurd (h refl)
nothing_if false h = refl

apart : (a b : Bool) → (a ≡ true → b ≡ true → ⊥) → cond a 1 0 + cond b 1 0 ≤ 1
apart true true h = absurd (h refl refl)
apart true false h = omega arith
apart false true h = omega arith
apart false false h = omega arith

at_most_one : (a b c d : ℕ) → a + b ≤ 1 → c + d ≤ 1 → a + c ≤ 1 → a + d ≤ 1 → b + c ≤ 1 → b + d ≤ 1 → a + b + c + d ≤ 1
at_most_one a b c d h1 h2 h3 h4 h5 h6 = omega arith

-- the faces that the outside reaches across edges, without one of the set
abbrev pub outer_connections : (w : DartMap) (o : ℕ) → FaceNumbering w o → (ℕ → Bool) → Connections
outer_connections w o faces s = record {
  darts = w.darts;
  nodes = w.darts;
  from = λ d. faces.face_number (w.reverse_dart d);
  to = faces.face_number;
  allowed = λ d. not (s d);
  root = faces.out;
}

-- all other faces
abbrev pub filled : (w : DartMap) (o : ℕ) (faces : FaceNumbering w o) (s : ℕ → Bool) → Growth (outer_connections w o faces s) → ℕ → Bool
filled w o faces s g a = not (g.reached (faces.face_number a))

-- the face of a dart, where those of the set are one
abbrev pub face_node : (w : DartMap) (o : ℕ) → FaceNumbering w o → (ℕ → Bool) → ℕ → ℕ
face_node w o faces s a = cond (s a) w.darts (faces.face_number a)

-- the faces, connected across the edges that touch one off the set
abbrev pub face_connections : (w : DartMap) (o : ℕ) → FaceNumbering w o → (ℕ → Bool) → ℕ → Connections
face_connections w o faces s root = record {
  darts = w.darts;
  nodes = w.darts + 1;
  from = λ d. face_node w o faces s (w.reverse_dart d);
  to = face_node w o faces s;
  allowed = λ d. not (s d && s (w.reverse_dart d));
  root = root;
}

abbrev pub in_tree : (w : DartMap) (j : Connections) → Growth j → ℕ → Bool
in_tree w j g d = is_up j g d || is_up j g (w.reverse_dart d)

-- the vertices, connected along those of these edges that are not of the tree on the faces
abbrev pub vertex_connections : (w : DartMap) (o : ℕ) (faces : FaceNumbering w o) (s : ℕ → Bool) (root : ℕ) → Growth (face_connections w o faces s root) → Connections
vertex_connections w o faces s root g = record {
  darts = w.darts;
  nodes = w.vertices;
  from = λ d. w.head (w.reverse_dart d);
  to = w.head;
  allowed = λ d. not (s d && s (w.reverse_dart d)) && not (in_tree w (face_connections w o faces s root) g d);
  root = w.head faces.out;
}

module _ (w : DartMap) (sound : IsSound w) (connected : IsConnected w) (o : ℕ) (faces : FaceNumbering w o)
    (s0 : ℕ → Bool) (of0 : OfFaces w s0)
    (upward0 : (a : ℕ) → a < w.darts → w.direction a ≡ 0 → s0 (w.reverse_dart a) ≡ true → s0 a ≡ true)
    (free : s0 faces.out ≡ false) (g0 : Growth (outer_connections w o faces s0)) where
  abbrev n : ℕ
  n = w.darts

  abbrev back : ℕ → ℕ
  back = w.reverse_dart

  abbrev s : ℕ → Bool
  s = filled w o faces s0 g0

  back_in : (a : ℕ) → a < w.darts → w.reverse_dart a < w.darts
  back_in = sound.tied.reverse_dart_in

  back_back : (a : ℕ) → a < w.darts → w.reverse_dart (w.reverse_dart a) ≡ a
  back_back = sound.tied.reverse_dart_back

  pub of : OfFaces w (filled w o faces s0 g0)
  of a a_in = ap (λ (c : ℕ). not (g0.reached c)) (faces.stays a a_in)

  -- a face that the outside reaches is not of the first set
  off_first : (a : ℕ) → a < w.darts → g0.reached (faces.face_number a) ≡ true → s0 a ≡ false
  off_first a a_in r =
      elim (cases_eq (faces.face_number a) faces.out) [
        | inl e ↦ faces.held s0 of0 a a_in ∙ ap s0 e ∙ free
        | inr ne ↦
            let leads = g0.grown.leads (faces.face_number a) r ne in
            let d : ℕ = g0.parent (faces.face_number a) in
            faces.held s0 of0 a a_in ∙ ap s0 (sym leads.to) ∙ sym (faces.held s0 of0 d leads.inside) ∙ not-true (s0 d) leads.allowed
      ]

  reached_of : (a : ℕ) → s a ≡ false → g0.reached (faces.face_number a) ≡ true
  reached_of a off = true_from_ne_false (g0.reached (faces.face_number a)) (λ none. both_ways (s a) off (not_from_false (g0.reached (faces.face_number a)) none))

  off_of : (a : ℕ) → g0.reached (faces.face_number a) ≡ true → s a ≡ false
  off_of a r = ap not r

  pub out_off : filled w o faces s0 g0 faces.out ≡ false
  out_off = off_of faces.out (ap g0.reached faces.out_own ∙ g0.grown.root)

  pub holds_first : (a : ℕ) → a < w.darts → s0 a ≡ true → filled w o faces s0 g0 a ≡ true
  holds_first a a_in on = true_from_ne_false (s a) (λ off. both_ways (s0 a) (off_first a a_in (reached_of a off)) on)

  upward : (a : ℕ) → a < w.darts → w.direction a ≡ 0 → s (w.reverse_dart a) ≡ true → s a ≡ true
  upward a a_in east on =
      true_from_ne_false (s a) (λ off.
      let here = reached_of a off in
      let b : ℕ = w.reverse_dart a in
      let there : g0.reached (faces.face_number b) ≡ false = not-true (g0.reached (faces.face_number b)) on in
      elim (cases_Bool (s0 b)) [
        | inl first ↦ both_ways (s0 a) (off_first a a_in here) (upward0 a a_in east first)
        | inr other ↦
            both_ways (g0.reached (faces.face_number b)) there
            (g0.closed b (back_in a a_in) (not_from_false (s0 b) other) (ap (λ (d : ℕ). g0.reached (faces.face_number d)) (back_back a a_in) ∙ here))
      ])

  -- ---- the tree on the faces

  module _ (root : ℕ) (root_in : root < w.darts + 1)
      (merged : (d : ℕ) → d < w.darts → filled w o faces s0 g0 d ≡ true → face_node w o faces (filled w o faces s0 g0) d ≡ root)
      (start : ℕ) (start_in : start < w.darts) (starts : face_node w o faces (filled w o faces s0 g0) start ≡ root)
      (g1 : Growth (face_connections w o faces (filled w o faces s0 g0) root)) where
    abbrev f : ℕ → ℕ
    f = face_node w o faces s

    abbrev j1 : Connections
    j1 = face_connections w o faces s root

    pub face_in : (d : ℕ) → d < w.darts → face_node w o faces (filled w o faces s0 g0) d < w.darts + 1
    face_in d d_in =
        elim (cases_Bool (s d)) [
          | inl on ↦ omega (arith, cond-true {A = ℕ} (s d) n (faces.face_number d) on)
          | inr off ↦ omega (arith, cond-false {A = ℕ} (s d) n (faces.face_number d) off, faces.inside d d_in)
        ]

    pub paired1 : IsPaired (face_connections w o faces (filled w o faces s0 g0) root) w.reverse_dart
    paired1 = record { inside = back_in; back = back_back; from = λ d l. refl; node = face_in }

    pub face_next : (a : ℕ) → a < w.darts → face_node w o faces (filled w o faces s0 g0) (w.next a) ≡ face_node w o faces (filled w o faces s0 g0) a
    face_next a a_in =
        ap (λ (b : Bool). cond b w.darts (faces.face_number (w.next a))) (of a a_in) ∙ ap (λ (c : ℕ). cond (s a) w.darts c) (faces.stays a a_in)

    touch_back : (a : ℕ) → a < w.darts → (s a && s (w.reverse_dart a)) ≡ false → (s (w.reverse_dart a) && s (w.reverse_dart (w.reverse_dart a))) ≡ false
    touch_back a a_in off = and_swap (s a) (s (w.reverse_dart a)) (s (w.reverse_dart (w.reverse_dart a))) (ap s (back_back a a_in)) off

    -- all faces are reached
    pub all_faces : (a : ℕ) → a < w.darts → g1.reached (face_node w o faces (filled w o faces s0 g0) a) ≡ true
    all_faces a a_in =
        connected (λ d. g1.reached (f d)) (λ d d_in on. ap g1.reached (face_next d d_in) ∙ on) across start a start_in a_in (ap g1.reached starts ∙ g1.grown.root)
      where
        across : (d : ℕ) → d < w.darts → g1.reached (f d) ≡ true → g1.reached (f (w.reverse_dart d)) ≡ true
        across d d_in on =
            elim (cases_Bool (s d && s (w.reverse_dart d))) [
              | inl both ↦ ap g1.reached (merged (w.reverse_dart d) (back_in d d_in) (and_parts (s d) (s (w.reverse_dart d)) both).1) ∙ g1.grown.root
              | inr off ↦
                  g1.closed (w.reverse_dart d) (back_in d d_in) (not_from_false (s (w.reverse_dart d) && s (w.reverse_dart (w.reverse_dart d))) (touch_back d d_in off))
                  (ap (λ (e : ℕ). g1.reached (f e)) (back_back d d_in) ∙ on)
            ]

    off_back : (a : ℕ) → a < w.darts → in_tree w j1 g1 a ≡ false → in_tree w j1 g1 (w.reverse_dart a) ≡ false
    off_back a a_in off =
        let both = or_parts (is_up j1 g1 a) (is_up j1 g1 (w.reverse_dart a)) off in
        or_from (is_up j1 g1 (w.reverse_dart a)) (is_up j1 g1 (w.reverse_dart (w.reverse_dart a))) both.1 (ap (is_up j1 g1) (back_back a a_in) ∙ both.0)

    pub up_of : (a : ℕ) → in_tree w (face_connections w o faces (filled w o faces s0 g0) root) g1 a ≡ true
        → Up (face_connections w o faces (filled w o faces s0 g0) root) g1 a ⊎ Up (face_connections w o faces (filled w o faces s0 g0) root) g1 (w.reverse_dart a)
    up_of a on =
        elim (or_cases (is_up j1 g1 a) (is_up j1 g1 (w.reverse_dart a)) on) [
          | inl up ↦ inl (up_from j1 g1 a up)
          | inr up ↦ inr (up_from j1 g1 (w.reverse_dart a) up)
        ]

    -- ---- the tree on the vertices

    module _ (g2 : Growth (vertex_connections w o faces (filled w o faces s0 g0) root g1)) where
      abbrev j2 : Connections
      j2 = vertex_connections w o faces s root g1

      pub paired2 : IsPaired (vertex_connections w o faces (filled w o faces s0 g0) root g1) w.reverse_dart
      paired2 = record { inside = back_in; back = back_back; from = λ d l. refl; node = sound.meeting.head_in }

      off_tree : (d : ℕ) → d < w.darts → (s d && s (w.reverse_dart d)) ≡ false → in_tree w j1 g1 d ≡ false
          → g2.reached (w.head d) ≡ g2.reached (w.head (w.reverse_dart d))
      off_tree d d_in touch off =
          let b : ℕ = w.reverse_dart d in
          let b_in = back_in d d_in in
          let may : (e : ℕ) → (s e && s (w.reverse_dart e)) ≡ false → in_tree w j1 g1 e ≡ false → j2.allowed e ≡ true = λ e one two.
          and_from _ _ (not_from_false (s e && s (w.reverse_dart e)) one) (not_from_false (in_tree w j1 g1 e) two) in
          same_if (g2.reached (w.head d)) (g2.reached (w.head b))
          (λ on. g2.closed b b_in (may b (touch_back d d_in touch) (off_back d d_in off)) (ap (λ (e : ℕ). g2.reached (w.head e)) (back_back d d_in) ∙ on))
          (λ on. g2.closed d d_in (may d touch off) on)

      abbrev ahead : ℕ → ℕ
      ahead d = cond (g2.reached (w.head d)) 1 0

      abbrev behind : ℕ → ℕ
      behind d = cond (g2.reached (w.head (w.reverse_dart d))) 1 0

      same_ends : (d : ℕ) → d < w.darts → (s d && s (w.reverse_dart d)) ≡ false → ahead d ≡ behind d
      same_ends d d_in touch =
          elim (cases_Bool (in_tree w j1 g1 d)) [
            | inr off ↦ ap (λ (b : Bool). cond {A = ℕ} b 1 0) (off_tree d d_in touch off)
            | inl on ↦ peels j1 g1 w.reverse_dart paired1 ahead behind (λ e e_in. refl) round only d d_in (up_of d on)
          ]
        where
          round : (v : ℕ) → v ≢ root → sum_at w.darts f v ahead ≡ sum_at w.darts f v behind
          round v ne =
              sum_at-same w.darts f v ahead (λ a. behind (w.next a)) (λ a a_in. ap (λ (u : ℕ). cond {A = ℕ} (g2.reached u) 1 0) (sym (sound.meeting.meets a a_in)))
              ∙ reordered_at w.darts w.next f v behind (next_one w sound) face_next

          only : (e : ℕ) → e < w.darts → f e ≢ root → (ahead e ≡ behind e) ⊎ (Up j1 g1 e ⊎ Up j1 g1 (w.reverse_dart e))
          only e e_in ne =
              let off : s e ≡ false = false_from_ne_true (s e) (λ on. ne (merged e e_in on)) in
              elim (cases_Bool (in_tree w j1 g1 e)) [
                | inl up ↦ inr (up_of e up)
                | inr none ↦ inl (ap (λ (b : Bool). cond {A = ℕ} b 1 0) (off_tree e e_in (and_off (s e) (s (w.reverse_dart e)) off) none))
              ]

      ends : (d : ℕ) → d < w.darts → (s d && s (w.reverse_dart d)) ≡ false → g2.reached (w.head d) ≡ g2.reached (w.head (w.reverse_dart d))
      ends d d_in touch = bits (g2.reached (w.head d)) (g2.reached (w.head (w.reverse_dart d))) (same_ends d d_in touch)

      -- the vertices round a face off the set are reached together
      abbrev told : ℕ → Bool
      told a = s a || g2.reached (w.head a)

      known_of : OfFaces w told
      known_of a a_in =
          elim (cases_Bool (s a)) [
            | inl on ↦ or_left (s (w.next a)) (g2.reached (w.head (w.next a))) (of a a_in ∙ on) ∙ sym (or_left (s a) (g2.reached (w.head a)) on)
            | inr off ↦
                let off' : s (w.next a) ≡ false = of a a_in ∙ off in
                ap (λ (b : Bool). b || g2.reached (w.head (w.next a))) off'
                ∙ ends (w.next a) (sound.tied.next_in a a_in) (and_off (s (w.next a)) (s (w.reverse_dart (w.next a))) off')
                ∙ ap g2.reached (sound.meeting.meets a a_in)
                ∙ sym (ap (λ (b : Bool). b || g2.reached (w.head a)) off)
          ]

      from_told : (a c : ℕ) → a < w.darts → faces.face_number a ≡ c → told c ≡ true → s a ≡ false → g2.reached (w.head a) ≡ true
      from_told a c a_in named on off =
          let here : told a ≡ true = faces.held told known_of a a_in ∙ ap told named ∙ on in
          elim (or_cases (s a) (g2.reached (w.head a)) here) [
            | inl set ↦ absurd (both_ways (s a) off set)
            | inr yes' ↦ yes'
          ]

      round_faces : (v : ℕ) → g0.reached v ≡ true → (a : ℕ) → a < w.darts → faces.face_number a ≡ v → g2.reached (w.head a) ≡ true
      round_faces v r =
          by_growth (outer_connections w o faces s0) g0 (λ (v : ℕ). (a : ℕ) → a < w.darts → faces.face_number a ≡ v → g2.reached (w.head a) ≡ true)
          (λ a a_in named. from_told a faces.out a_in named (or_right (s faces.out) (g2.reached (w.head faces.out)) g2.grown.root) (off_of a (ap g0.reached named ∙ g0.grown.root)))
          step v r
        where
          step : (v : ℕ) → g0.reached v ≡ true → v ≢ faces.out
              → ((a : ℕ) → a < w.darts → faces.face_number a ≡ faces.face_number (w.reverse_dart (g0.parent v)) → g2.reached (w.head a) ≡ true)
              → (a : ℕ) → a < w.darts → faces.face_number a ≡ v → g2.reached (w.head a) ≡ true
          step v r ne before a a_in named =
              let leads = g0.grown.leads v r ne in
              let d : ℕ = g0.parent v in
              let off : s d ≡ false = off_of d (ap g0.reached leads.to ∙ r) in
              let there : g2.reached (w.head (w.reverse_dart d)) ≡ true = before (w.reverse_dart d) (back_in d leads.inside) refl in
              let here : g2.reached (w.head d) ≡ true = ends d leads.inside (and_off (s d) (s (w.reverse_dart d)) off) ∙ there in
              let face : told (faces.face_number d) ≡ true = sym (faces.held told known_of d leads.inside) ∙ or_right (s d) (g2.reached (w.head d)) here in
              from_told a v a_in named (ap told (sym leads.to) ∙ face) (off_of a (ap g0.reached named ∙ r))

      -- so all vertices of the edges that touch such a face are reached
      pub all_vertices : (a : ℕ) → a < w.darts → (filled w o faces s0 g0 a && filled w o faces s0 g0 (w.reverse_dart a)) ≡ false → g2.reached (w.head a) ≡ true
      all_vertices a a_in touch =
          elim (either (s a) (s (w.reverse_dart a)) touch) [
            | inl off ↦ round_faces (faces.face_number a) (reached_of a off) a a_in refl
            | inr off ↦
                let b : ℕ = w.reverse_dart a in
                ends a a_in touch ∙ round_faces (faces.face_number b) (reached_of b off) b (back_in a a_in) refl
          ]

      -- ---- how many edges

      u1 : ℕ → Bool
      u1 = is_up j1 g1

      touch_up1 : (a : ℕ) → is_up j1 g1 a ≡ true → (s a && s (w.reverse_dart a)) ≡ false
      touch_up1 a up = not-true (s a && s (w.reverse_dart a)) (up_leads j1 g1 a (up_from j1 g1 a up)).allowed

      may_up2 : (a : ℕ) → is_up j2 g2 a ≡ true → (not (s a && s (w.reverse_dart a)) ≡ true) × (not (in_tree w j1 g1 a) ≡ true)
      may_up2 a up = and_parts (not (s a && s (w.reverse_dart a))) (not (in_tree w j1 g1 a)) (up_leads j2 g2 a (up_from j2 g2 a up)).allowed

      touch_up2 : (a : ℕ) → is_up j2 g2 a ≡ true → (s a && s (w.reverse_dart a)) ≡ false
      touch_up2 a up = not-true (s a && s (w.reverse_dart a)) (may_up2 a up).0

      from_back : (a : ℕ) → a < w.darts → (s (w.reverse_dart a) && s (w.reverse_dart (w.reverse_dart a))) ≡ false → (s a && s (w.reverse_dart a)) ≡ false
      from_back a a_in off =
          and_swap (s (w.reverse_dart a)) (s a) (s (w.reverse_dart a)) refl
          (subst (λ (e : ℕ). (s (w.reverse_dart a) && s e) ≡ false) (back_back a a_in) off)

      not_both : (a : ℕ) → is_up j2 g2 a ≡ true → (is_up j1 g1 a ≡ true → ⊥) × (is_up j1 g1 (w.reverse_dart a) ≡ true → ⊥)
      not_both a up =
          let off = or_parts (is_up j1 g1 a) (is_up j1 g1 (w.reverse_dart a)) (not-true (in_tree w j1 g1 a) (may_up2 a up).1) in
          (λ one. both_ways (is_up j1 g1 a) off.0 one, λ one. both_ways (is_up j1 g1 (w.reverse_dart a)) off.1 one)

      abbrev four : ℕ → ℕ
      four a = ups j1 g1 a + ups j1 g1 (w.reverse_dart a) + ups j2 g2 a + ups j2 g2 (w.reverse_dart a)

      each : (a : ℕ) → a < w.darts → four a ≤ touches w s a
      each a a_in =
          let b : ℕ = w.reverse_dart a in
          let b_in = back_in a a_in in
          elim (cases_Bool (s a && s b)) [
            | inl both ↦ omega (
              arith,
              nothing_if (is_up j1 g1 a) (λ up. both_ways (s a && s b) (touch_up1 a up) both),
              nothing_if (is_up j1 g1 b) (λ up. both_ways (s a && s b) (from_back a a_in (touch_up1 b up)) both),
              nothing_if (is_up j2 g2 a) (λ up. both_ways (s a && s b) (touch_up2 a up) both),
              nothing_if (is_up j2 g2 b) (λ up. both_ways (s a && s b) (from_back a a_in (touch_up2 b up)) both),
            )
            | inr off ↦
                let most = at_most_one (ups j1 g1 a) (ups j1 g1 b) (ups j2 g2 a) (ups j2 g2 b)
                (apart (is_up j1 g1 a) (is_up j1 g1 b) (λ one two. one_way j1 g1 w.reverse_dart paired1 a a_in (up_from j1 g1 a one) (up_from j1 g1 b two)))
                (apart (is_up j2 g2 a) (is_up j2 g2 b) (λ one two. one_way j2 g2 w.reverse_dart paired2 a a_in (up_from j2 g2 a one) (up_from j2 g2 b two)))
                (apart (is_up j1 g1 a) (is_up j2 g2 a) (λ one two. (not_both a two).0 one))
                (apart (is_up j1 g1 a) (is_up j2 g2 b) (λ one two. (not_both b two).1 (subst (λ (e : ℕ). is_up j1 g1 e ≡ true) (sym (back_back a a_in)) one)))
                (apart (is_up j1 g1 b) (is_up j2 g2 a) (λ one two. (not_both a two).1 one))
                (apart (is_up j1 g1 b) (is_up j2 g2 b) (λ one two. (not_both b two).0 one)) in
                omega (arith, most, cond-false {A = ℕ} (s a && s b) 0 1 off)
          ]

      four_sum : sum_below w.darts four ≡ 2 * sum_below w.darts (ups j1 g1) + 2 * sum_below w.darts (ups j2 g2)
      four_sum = omega (
        arith,
        sum_below-add w.darts (λ a. ups j1 g1 a + ups j1 g1 (w.reverse_dart a) + ups j2 g2 a) (λ a. ups j2 g2 (w.reverse_dart a)),
        sum_below-add w.darts (λ a. ups j1 g1 a + ups j1 g1 (w.reverse_dart a)) (ups j2 g2),
        sum_below-add w.darts (ups j1 g1) (λ a. ups j1 g1 (w.reverse_dart a)),
        sum_below-turned w.darts w.reverse_dart (ups j1 g1) back_in back_back,
        sum_below-turned w.darts w.reverse_dart (ups j2 g2) back_in back_back,
      )

      trees : 2 * sum_below w.darts (ups j1 g1) + 2 * sum_below w.darts (ups j2 g2) ≤ sum_below w.darts (touches w s)
      trees = omega (arith, four_sum, sum_below-le w.darts four (touches w s) each)

      -- faces that are reached: the boxes off the set, the outside, and the set if it is
      nodes : sum_below w.darts (boxes_off w s) + 1 ≤ sum_below w.darts (λ v. cond (g1.reached v) 1 0)
      nodes =
          let both : ℕ → ℕ = λ v. boxes_off w s v + cond (eqb faces.out v) 1 0 in
          omega (
            arith,
            sum_below-add w.darts (boxes_off w s) (λ v. cond (eqb faces.out v) 1 0),
            sum_below-one w.darts faces.out (λ _. 1) faces.out_in,
            sum_below-le w.darts both (λ v. cond (g1.reached v) 1 0) (λ v v_in. node v v_in (cases_eq faces.out v) (cases_Bool (s v)) (cases_Bool (eqb (w.direction v) 1 && eqb (w.angle v) 1))),
          )
        where
          shown : (v : ℕ) → v < w.darts → s v ≡ false → faces.face_number v ≡ v → cond {A = ℕ} (g1.reached v) 1 0 ≡ 1
          shown v v_in off named =
              let at : f v ≡ v = cond-false {A = ℕ} (s v) w.darts (faces.face_number v) off ∙ named in
              cond-true {A = ℕ} (g1.reached v) 1 0 (ap g1.reached (sym at) ∙ all_faces v v_in)

          box_none : (v : ℕ) → (s v ≡ true) ⊎ ((eqb (w.direction v) 1 && eqb (w.angle v) 1) ≡ false) → boxes_off w s v ≡ 0
          box_none v (inl on) = cond-true {A = ℕ} (s v) 0 (cond (eqb (w.direction v) 1 && eqb (w.angle v) 1) 1 0) on
          box_none v (inr no') = hidden (s v) (eqb (w.direction v) 1 && eqb (w.angle v) 1) no'
            where
              hidden : (x y : Bool) → y ≡ false → cond {A = ℕ} x 0 (cond y 1 0) ≡ 0
              hidden true y e = refl
              hidden false y e = ap (λ (b : Bool). cond {A = ℕ} b 1 0) e

          box_one : (v : ℕ) → boxes_off w s v ≤ 1
          box_one v = small (s v) (eqb (w.direction v) 1 && eqb (w.angle v) 1)
            where
              small : (x y : Bool) → cond {A = ℕ} x 0 (cond y 1 0) ≤ 1
              small true y = omega arith
              small false true = omega arith
              small false false = omega arith

          not_out : (v : ℕ) → faces.out ≡ v → (eqb (w.direction v) 1 && eqb (w.angle v) 1) ≡ false
          not_out v e =
              false_from_ne_true (eqb (w.direction v) 1 && eqb (w.angle v) 1) (λ corner.
              let one : w.angle v ≡ 1 = eqb-true (w.angle v) 1 (and_parts (eqb (w.direction v) 1) (eqb (w.angle v) 1) corner).1 in
              omega (arith, one, ap w.angle e, faces.out_angle))

          node : (v : ℕ) → v < w.darts → (faces.out ≡ v) ⊎ (faces.out ≢ v) → (s v ≡ true) ⊎ (s v ≡ false)
              → ((eqb (w.direction v) 1 && eqb (w.angle v) 1) ≡ true) ⊎ ((eqb (w.direction v) 1 && eqb (w.angle v) 1) ≡ false)
              → boxes_off w s v + cond (eqb faces.out v) 1 0 ≤ cond (g1.reached v) 1 0
          node v v_in (inl e) set corner =
              omega (
                arith,
                box_none v (inr (not_out v e)),
                cond-true {A = ℕ} (eqb faces.out v) 1 0 (eq-eqb faces.out v e),
                shown v v_in (ap s (sym e) ∙ out_off) (ap faces.face_number (sym e) ∙ faces.out_own ∙ e),
              )
          node v v_in (inr ne) (inl on) corner = omega (arith, box_none v (inl on), cond-false {A = ℕ} (eqb faces.out v) 1 0 (ne_eqb faces.out v ne))
          node v v_in (inr ne) (inr off) (inr other) = omega (arith, box_none v (inr other), cond-false {A = ℕ} (eqb faces.out v) 1 0 (ne_eqb faces.out v ne))
          node v v_in (inr ne) (inr off) (inl corner) =
              let both = and_parts (eqb (w.direction v) 1) (eqb (w.angle v) 1) corner in
              omega (
                arith,
                box_one v,
                cond-false {A = ℕ} (eqb faces.out v) 1 0 (ne_eqb faces.out v ne),
                shown v v_in off (faces.own v v_in (eqb-true (w.direction v) 1 both.0) (eqb-true (w.angle v) 1 both.1)),
              )

      pub tight : sum_below w.darts (touches w (filled w o faces s0 g0)) + 2 * cond (g1.reached w.darts) 1 0
          ≤ 2 * sum_below w.darts (ups (face_connections w o faces (filled w o faces s0 g0) root) g1)
          + 2 * sum_below w.darts (ups (vertex_connections w o faces (filled w o faces s0 g0) root g1) g2)
      tight =
          let first = enough j1 g1 face_in root_in in
          let last = sum_below-more w.darts (λ v. cond (g1.reached v) 1 0) in
          let second = enough j2 g2 sound.meeting.head_in (sound.meeting.head_in faces.out faces.out_in) in
          let edges = few_edges w sound s of upward faces.angles g2.reached all_vertices faces.west faces.west_in
          (faces.west_held s of ∙ out_off) faces.west_direction faces.west_angle in
          omega (arith, first, last, second, edges, nodes)

      -- the set is not reached, so it is empty
      pub set_not_reached : g1.reached w.darts ≡ true → ⊥
      set_not_reached r = omega (arith, tight, trees, cond-true {A = ℕ} (g1.reached w.darts) 1 0 r)

      -- each edge is of one of the trees
      pub spanned : (d : ℕ) → d < w.darts → (filled w o faces s0 g0 d && filled w o faces s0 g0 (w.reverse_dart d)) ≡ false
          → (Up (face_connections w o faces (filled w o faces s0 g0) root) g1 d ⊎ Up (face_connections w o faces (filled w o faces s0 g0) root) g1 (w.reverse_dart d))
          ⊎ (Up (vertex_connections w o faces (filled w o faces s0 g0) root g1) g2 d ⊎ Up (vertex_connections w o faces (filled w o faces s0 g0) root g1) g2 (w.reverse_dart d))
      spanned d d_in touch =
          elim (cases_Bool (in_tree w j1 g1 d)) [
            | inl on ↦ inl (up_of d on)
            | inr off ↦ elim (cases_Bool (in_tree w j2 g2 d)) [
              | inl on ↦ inr (elim (or_cases (is_up j2 g2 d) (is_up j2 g2 (w.reverse_dart d)) on) [
                | inl up ↦ inl (up_from j2 g2 d up)
                | inr up ↦ inr (up_from j2 g2 (w.reverse_dart d) up)
              ])
              | inr none ↦
                  let one = or_parts (is_up j1 g1 d) (is_up j1 g1 (w.reverse_dart d)) off in
                  let two = or_parts (is_up j2 g2 d) (is_up j2 g2 (w.reverse_dart d)) none in
                  let here : four d < touches w s d =
                  omega (
                    arith,
                    cond-false {A = ℕ} (is_up j1 g1 d) 1 0 one.0,
                    cond-false {A = ℕ} (is_up j1 g1 (w.reverse_dart d)) 1 0 one.1,
                    cond-false {A = ℕ} (is_up j2 g2 d) 1 0 two.0,
                    cond-false {A = ℕ} (is_up j2 g2 (w.reverse_dart d)) 1 0 two.1,
                    cond-false {A = ℕ} (s d && s (w.reverse_dart d)) 0 1 touch,
                  ) in
                  absurd (omega (arith, sum_below-lt w.darts d four (touches w s) d_in each here, four_sum, tight))
            ]
          ]

-- a set of faces that is closed to the north, and holds any, holds the outside
pub holds_outside : (w : DartMap) → IsSound w → IsConnected w → (o : ℕ) (faces : FaceNumbering w o) (s : ℕ → Bool) → OfFaces w s
    → ((a : ℕ) → a < w.darts → w.direction a ≡ 0 → s (w.reverse_dart a) ≡ true → s a ≡ true)
    → (a : ℕ) → a < w.darts → s a ≡ true → s o ≡ true
holds_outside w sound connected o faces s of_s up a a_in on =
    faces.out_held s of_s
    ∙ true_from_ne_false (s faces.out) (λ off. closing off (growth (outer_connections w o faces s) faces.inside))
  where
    closing : s faces.out ≡ false → Growth (outer_connections w o faces s) → ⊥
    closing off g0 =
        first (growth (face_connections w o faces s' w.darts) (λ d d_in. bound d d_in (cases_Bool (s' d))))
      where
        s' : ℕ → Bool
        s' = filled w o faces s g0

        bound : (d : ℕ) → d < w.darts → (s' d ≡ true) ⊎ (s' d ≡ false) → face_node w o faces s' d < w.darts + 1
        bound d d_in (inl yes') = omega (arith, cond-true {A = ℕ} (s' d) w.darts (faces.face_number d) yes')
        bound d d_in (inr no') = omega (arith, cond-false {A = ℕ} (s' d) w.darts (faces.face_number d) no', faces.inside d d_in)

        in_set : (d : ℕ) → d < w.darts → s' d ≡ true → face_node w o faces s' d ≡ w.darts
        in_set d d_in yes' = cond-true {A = ℕ} (s' d) w.darts (faces.face_number d) yes'

        first : Growth (face_connections w o faces s' w.darts) → ⊥
        first g1 =
            set_not_reached w sound connected o faces s of_s up off g0 w.darts (omega arith) in_set a a_in
            (in_set a a_in (holds_first w sound connected o faces s of_s up off g0 a a_in on)) g1
            (growth (vertex_connections w o faces s' w.darts g1) sound.meeting.head_in) g1.grown.root
