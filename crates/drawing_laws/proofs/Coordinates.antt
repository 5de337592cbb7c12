-- Coordinates in the order of boxes: a vertex has as its coordinate the count of darts to the east from whose ends it is reached without going to the west.
use Rattle.std.proofs.Common.{◌≡◌, ◌≢◌, ℕ, ◌+◌, ◌<◌, ◌≤◌, Bool, true, false, not, cond, eqb, arith, refl, sym, ap, ◌∙◌, subst}
use Rattle.std.proofs.lemmas.Bool.{eq-eqb, ne_eqb, eqb-true, cond-true, cond-false, both_ways, not-true, not_from_false, false_from_ne_true}
use Rattle.common.specs.Sums.{sum_below}
use Rattle.common.proofs.Sums.{sum_below-same, sum_below-lt, sum_below-one}
use Rattle.dissect.specs.DartMaps.{DartMap, IsSound}
use Rattle.dissect.specs.Paths.{IsConnected}
use Rattle.dissect.specs.Boxes.{HasBoxFaces, BoxesModel, AreBoxes, dart_map}
use Rattle.dissect.specs.Monotone.{IsMonotone}
use Rattle.dissect.proofs.Reordered.{sum_at, sum_at-add, sum_at-same}
use Rattle.dissect.proofs.Trees.{Connections}
use Rattle.drawing_laws.proofs.Growing.{Growth, growth, way_sum, way_root, way_step, by_growth}
use Rattle.drawing_laws.proofs.FaceNumbering.{face_numbers}
use Rattle.drawing_laws.proofs.Rotating.{rotated, rotated_sound, rotated_cut}
use Rattle.drawing_laws.proofs.Circling.{no_circling}

same_if : (x y : Bool) → (x ≡ true → y ≡ true) → (y ≡ true → x ≡ true) → x ≡ y
same_if true true f g = refl
same_if true false f g = sym (f refl)
same_if false true f g = g refl
same_if false false f g = refl

-- the vertices, connected by darts that do not go to the west
abbrev pub forward : DartMap → ℕ → Connections
forward w e = record {
  darts = w.darts;
  nodes = w.vertices;
  from = λ d. w.head (w.reverse_dart d);
  to = w.head;
  allowed = λ d. not (eqb (w.direction d) 2);
  root = w.head e;
}

-- one at the dart a
abbrev delta : ℕ → ℕ → ℕ
delta a d = cond (eqb a d) 1 0

module _ (w : DartMap) (sound : IsSound w) (connected : IsConnected w) (cut : HasBoxFaces w) where
  delta_at : (a u : ℕ) → a < w.darts → sum_at w.darts w.head u (delta a) ≡ cond (eqb (w.head a) u) 1 0
  delta_at a u a_in =
      sum_below-same w.darts (λ d. cond (eqb (w.head d) u) (delta a d) 0) (λ d. cond (eqb a d) (cond (eqb (w.head d) u) 1 0) 0) (λ d d_in. swap (eqb (w.head d) u) (eqb a d))
      ∙ sum_below-one w.darts a (λ d. cond (eqb (w.head d) u) 1 0) a_in
    where
      swap : (x y : Bool) → cond {A = ℕ} x (cond y 1 0) 0 ≡ cond y (cond x 1 0) 0
      swap true true = refl
      swap true false = refl
      swap false true = refl
      swap false false = refl

  delta_back : (a u : ℕ) → a < w.darts → sum_at w.darts w.head u (λ d. delta a (w.reverse_dart d)) ≡ cond (eqb (w.head (w.reverse_dart a)) u) 1 0
  delta_back a u a_in =
      sum_at-same w.darts w.head u (λ d. delta a (w.reverse_dart d)) (delta (w.reverse_dart a))
      (λ d d_in. ap (λ (b : Bool). cond {A = ℕ} b 1 0) (same d d_in))
      ∙ delta_at (w.reverse_dart a) u (sound.tied.reverse_dart_in a a_in)
    where
      same : (d : ℕ) → d < w.darts → eqb a (w.reverse_dart d) ≡ eqb (w.reverse_dart a) d
      same d d_in =
          same_if (eqb a (w.reverse_dart d)) (eqb (w.reverse_dart a) d)
          (λ on. eq-eqb (w.reverse_dart a) d (ap w.reverse_dart (eqb-true a (w.reverse_dart d) on) ∙ sound.tied.reverse_dart_back d d_in))
          (λ on. eq-eqb a (w.reverse_dart d) (sym (sound.tied.reverse_dart_back a a_in) ∙ ap w.reverse_dart (eqb-true (w.reverse_dart a) d on)))

  module _ (e : ℕ) (e_in : e < w.darts) (east : w.direction e ≡ 0) (g : Growth (forward w e)) where
    abbrev j : Connections
    j = forward w e

    -- how often the way to the vertex v takes the dart d
    abbrev taken : ℕ → ℕ → ℕ
    taken v d = way_sum j g (λ a. delta a d) v

    flows : (v : ℕ) → g.reached v ≡ true → (u : ℕ)
        → sum_at w.darts w.head u (λ d. taken v (w.reverse_dart d)) + cond (eqb v u) 1 0 ≡ sum_at w.darts w.head u (taken v) + cond (eqb (w.head e) u) 1 0
    flows v r =
        by_growth j g (λ (v : ℕ). (u : ℕ) → sum_at w.darts w.head u (λ d. taken v (w.reverse_dart d)) + cond (eqb v u) 1 0 ≡ sum_at w.darts w.head u (taken v) + cond (eqb (w.head e) u) 1 0)
        (λ u. omega (
          arith,
          sum_at-same w.darts w.head u (λ d. taken (w.head e) (w.reverse_dart d)) (λ _. 0) (λ d d_in. way_root j g (λ a. delta a (w.reverse_dart d))),
          sum_at-same w.darts w.head u (taken (w.head e)) (λ _. 0) (λ d d_in. way_root j g (λ a. delta a d)),
        ))
        step v r
      where
        step : (v : ℕ) → g.reached v ≡ true → v ≢ w.head e
            → ((u : ℕ) → sum_at w.darts w.head u (λ d. taken (w.head (w.reverse_dart (g.parent v))) (w.reverse_dart d)) + cond (eqb (w.head (w.reverse_dart (g.parent v))) u) 1 0
            ≡ sum_at w.darts w.head u (taken (w.head (w.reverse_dart (g.parent v)))) + cond (eqb (w.head e) u) 1 0)
            → (u : ℕ) → sum_at w.darts w.head u (λ d. taken v (w.reverse_dart d)) + cond (eqb v u) 1 0 ≡ sum_at w.darts w.head u (taken v) + cond (eqb (w.head e) u) 1 0
        step v r ne before u =
            let leads = g.grown.leads v r ne in
            let a : ℕ = g.parent v in
            let t : ℕ = w.head (w.reverse_dart a) in
            let there : sum_at w.darts w.head u (taken v) ≡ sum_at w.darts w.head u (λ d. taken t d + delta a d) =
            sum_at-same w.darts w.head u (taken v) (λ d. taken t d + delta a d) (λ d d_in. way_step j g (λ x. delta x d) v r ne) in
            let again : sum_at w.darts w.head u (λ d. taken v (w.reverse_dart d)) ≡ sum_at w.darts w.head u (λ d. taken t (w.reverse_dart d) + delta a (w.reverse_dart d)) =
            sum_at-same w.darts w.head u (λ d. taken v (w.reverse_dart d)) (λ d. taken t (w.reverse_dart d) + delta a (w.reverse_dart d))
            (λ d d_in. way_step j g (λ x. delta x (w.reverse_dart d)) v r ne) in
            let ends : cond {A = ℕ} (eqb (w.head a) u) 1 0 ≡ cond (eqb v u) 1 0 = ap (λ (x : ℕ). cond {A = ℕ} (eqb x u) 1 0) leads.to in
            omega (
              arith,
              before u,
              there,
              again,
              ends,
              sum_at-add w.darts w.head u (taken t) (delta a),
              sum_at-add w.darts w.head u (λ d. taken t (w.reverse_dart d)) (λ d. delta a (w.reverse_dart d)),
              delta_at a u leads.inside,
              delta_back a u leads.inside,
            )

    -- the way takes no dart to the west
    never_west : (d : ℕ) → w.direction d ≡ 2 → (v : ℕ) → g.reached v ≡ true → taken v d ≡ 0
    never_west d way v r =
        by_growth j g (λ (v : ℕ). taken v d ≡ 0) (way_root j g (λ a. delta a d))
        (λ v r ne before.
        let leads = g.grown.leads v r ne in
        let other : g.parent v ≢ d = λ same. both_ways (eqb (w.direction d) 2)
        (not-true (eqb (w.direction d) 2) (subst (λ (x : ℕ). not (eqb (w.direction x) 2) ≡ true) same leads.allowed)) (eq-eqb (w.direction d) 2 way) in
        omega (arith, way_step j g (λ x. delta x d) v r ne, before, cond-false {A = ℕ} (eqb (g.parent v) d) 1 0 (ne_eqb (g.parent v) d other))) v r

    -- from the end of a dart to the east its start is not reached
    pub not_back : g.reached (w.head (w.reverse_dart e)) ≡ true → ⊥
    not_back r =
        let t : ℕ = w.head (w.reverse_dart e) in
        no_circling w sound connected cut cut.outside (face_numbers w sound cut) (face_numbers w sound cut).out_held (λ d. taken t d + delta e d)
        (λ u. omega (
          arith,
          flows t r u,
          sum_at-add w.darts w.head u (taken t) (delta e),
          sum_at-add w.darts w.head u (λ d. taken t (w.reverse_dart d)) (λ d. delta e (w.reverse_dart d)),
          delta_at e u e_in,
          delta_back e u e_in,
        ))
        (λ a a_in way.
        let other : e ≢ a = λ same. omega (arith, east, way, ap w.direction same) in
        omega (arith, never_west a way t r, cond-false {A = ℕ} (eqb e a) 1 0 (ne_eqb e a other)))
        e e_in east (omega (arith, cond-true {A = ℕ} (eqb e e) 1 0 (eq-eqb e e refl)))

  -- ---- the coordinates

  module _ (g : (e : ℕ) → Growth (forward w e)) where
    abbrev behind : ℕ → ℕ → ℕ
    behind v e = cond (eqb (w.direction e) 0) (cond ((g e).reached v) 1 0) 0

    abbrev coordinate : ℕ → ℕ
    coordinate v = sum_below w.darts (behind v)

    onward : (a : ℕ) → a < w.darts → w.direction a ≢ 2 → (e : ℕ) → (g e).reached (w.head (w.reverse_dart a)) ≡ true → (g e).reached (w.head a) ≡ true
    onward a a_in ne e r = (g e).closed a a_in (not_from_false (eqb (w.direction a) 2) (ne_eqb (w.direction a) 2 ne)) r

    no_less : (a : ℕ) → a < w.darts → w.direction a ≢ 2 → (e : ℕ) → behind (w.head (w.reverse_dart a)) e ≤ behind (w.head a) e
    no_less a a_in ne e = less (eqb (w.direction e) 0) ((g e).reached (w.head (w.reverse_dart a))) ((g e).reached (w.head a)) (onward a a_in ne e)
      where
        less : (b x y : Bool) → (x ≡ true → y ≡ true) → cond {A = ℕ} b (cond x 1 0) 0 ≤ cond b (cond y 1 0) 0
        less false x y h = omega arith
        less true false y h = omega arith
        less true true true h = omega arith
        less true true false h = absurd (both_ways false refl (h refl))

    grows : (a : ℕ) → a < w.darts → w.direction a ≡ 0 → coordinate (w.head (w.reverse_dart a)) < coordinate (w.head a)
    grows a a_in east =
        sum_below-lt w.darts a (behind (w.head (w.reverse_dart a))) (behind (w.head a)) a_in
        (λ e e_in. no_less a a_in (λ two. omega (arith, east, two)) e)
        (let yes' : eqb (w.direction a) 0 ≡ true = eq-eqb (w.direction a) 0 east in
        let start : (g a).reached (w.head (w.reverse_dart a)) ≡ false = false_from_ne_true ((g a).reached (w.head (w.reverse_dart a))) (not_back a a_in east (g a)) in
        omega (
          arith,
          cond-true {A = ℕ} (eqb (w.direction a) 0) (cond ((g a).reached (w.head a)) 1 0) 0 yes',
          cond-true {A = ℕ} (eqb (w.direction a) 0) (cond ((g a).reached (w.head (w.reverse_dart a))) 1 0) 0 yes',
          cond-true {A = ℕ} ((g a).reached (w.head a)) 1 0 (g a).grown.root,
          cond-false {A = ℕ} ((g a).reached (w.head (w.reverse_dart a))) 1 0 start,
        ))

    stays : (a : ℕ) → a < w.darts → w.direction a ≢ 0 → w.direction a ≢ 2 → coordinate (w.head (w.reverse_dart a)) ≡ coordinate (w.head a)
    stays a a_in not_east not_west =
        let b : ℕ = w.reverse_dart a in
        let b_in = sound.tied.reverse_dart_in a a_in in
        let back_west : w.direction b ≢ 2 = λ two. not_east (omega (arith, two, sound.straight a a_in, sound.meeting.quarter a a_in)) in
        sum_below-same w.darts (behind (w.head b)) (behind (w.head a))
        (λ e e_in. ap (λ (x : Bool). cond (eqb (w.direction e) 0) (cond {A = ℕ} x 1 0) 0)
        (same_if ((g e).reached (w.head b)) ((g e).reached (w.head a)) (onward a a_in not_west e)
        (λ r. onward b b_in back_west e (ap (λ (d : ℕ). (g e).reached (w.head d)) (sound.tied.reverse_dart_back a a_in) ∙ r))))

  -- coordinates that grow along darts to the east, and stay along those to the north and south
  pub coordinates : (x : ℕ → ℕ) × ((a : ℕ) → a < w.darts → w.direction a ≡ 0 → x (w.head (w.reverse_dart a)) < x (w.head a))
      × ((a : ℕ) → a < w.darts → w.direction a ≢ 0 → w.direction a ≢ 2 → x (w.head (w.reverse_dart a)) ≡ x (w.head a))
  coordinates =
      let g : (e : ℕ) → Growth (forward w e) = λ e. growth (forward w e) sound.meeting.head_in in
      (coordinate g, grows g, stays g)

pub monotone : (w : DartMap) → IsSound w → IsConnected w → HasBoxFaces w → (x : ℕ → ℕ) × (y : ℕ → ℕ) × IsMonotone w x y
monotone w sound connected cut =
    let (x, x_grows, x_stays) = coordinates w sound connected cut in
    let (y, y_grows, y_stays) = coordinates (rotated w 3) (rotated_sound w 3 sound) connected (rotated_cut w 3 cut) in (
      x,
      y,
      record {
        east = λ a a_in way. (
          x_grows a a_in way,
          y_stays a a_in (λ e. omega (arith, way, e)) (λ e. omega (arith, way, e)),
        );
        north = λ a a_in way. (
          y_grows a a_in (omega (arith, way)),
          x_stays a a_in (λ e. omega (arith, way, e)) (λ e. omega (arith, way, e)),
        );
      },
    )

pub boxes_monotone : (b : BoxesModel) → AreBoxes b → (x : ℕ → ℕ) × (y : ℕ → ℕ) × IsMonotone (dart_map b) x y
boxes_monotone b boxes = monotone (dart_map b) boxes.sound boxes.connected boxes.faces
