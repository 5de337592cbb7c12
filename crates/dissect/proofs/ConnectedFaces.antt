-- The map connected with its rectangle: what becomes of the faces.
use Rattle.std.proofs.Common.{◌≡◌, ◌≢◌, ℕ, zero, suc, ◌+◌, ◌%◌, ◌<◌, ◌∙◌, List, [], ◌∷◌, map, arith, subst, sym, ap, refl, inl, inr}
use Rattle.std.proofs.lemmas.Bool.{cases_eq}
use Rattle.dissect.specs.DartMaps.{DartMap, IsTied, IsCut}
use Rattle.dissect.specs.Surrounds.{IsSurrounded}
use Rattle.dissect.specs.Turning.{total}
use Rattle.dissect.specs.Faces.{StretchesIn, Stretches, Trail, last_of, Ring, IsOutside, In, Below, concatenated, AreRings}
use Rattle.dissect.proofs.Splitting.{split_tied}
use Rattle.dissect.proofs.Stretching.{IsCutting, stretch_more, stretch_direct, split_stretches, Stretches-inside}
use Rattle.dissect.proofs.Rings.{split_ring, chord_stretches, chord_ring}
use Rattle.dissect.proofs.Waiting.{clear_of, ring_last}
use Rattle.dissect.proofs.Listing.{in_left, in_right, in_below, below_left, below_right}
use Rattle.dissect.proofs.Sounding.{surround_tied}

-- a rectangle keeps the stretches of the map
pub surround_stretch : (w new : DartMap) → IsSurrounded w new → IsTied w → (k a c : ℕ) → a < w.darts → StretchesIn w k a c → Stretches new a c
surround_stretch w new s tied zero a c l r =
    let c_in : c < w.darts = omega (arith, tied.next_in a l, r.0) in
    stretch_direct new a c (s.next_old a l ∙ r.0) (λ h. r.1 (sym (s.angle_old c c_in) ∙ h))
surround_stretch w new s tied (suc k) a c l r =
    stretch_more new a (w.next a) c (s.next_old a l) (s.angle_old (w.next a) (tied.next_in a l) ∙ r.0)
    (surround_stretch w new s tied k (w.next a) c (tied.next_in a l) r.1)

pub surround_trail : (w new : DartMap) → IsSurrounded w new → IsTied w → (a : ℕ) (cs : List ℕ) → a < w.darts → Trail w a cs → Trail new a cs
surround_trail w new s tied a [] l trail = tt
surround_trail w new s tied a (c ∷ cs) l trail = (
  surround_stretch w new s tied trail.0.places a c l trail.0.stretch,
  surround_trail w new s tied c cs (Stretches-inside w a c tied l trail.0) trail.1,
)

pub surround_ring : (w new : DartMap) → IsSurrounded w new → IsTied w → (cs : List ℕ) → last_of 0 cs < w.darts → Ring w cs → Ring new cs
surround_ring w new s tied [] l ring = ring
surround_ring w new s tied (c ∷ cs) l ring = surround_trail w new s tied (last_of c cs) (c ∷ cs) l ring

-- the map w in its rectangle, connected by a cut from `right` to one of the rectangle's sides
pub record IsConnecting (w surrounded : DartMap) (right side way : ℕ) (new : DartMap) : Type 0 where
  pub tied : IsTied w
  pub surround : IsSurrounded w surrounded
  pub right_in : right < w.darts
  pub side_in : side < 4
  pub bridge : IsCut surrounded right (w.darts + side) way new

-- the inner dart in front of that side
abbrev pub corner_of : DartMap → ℕ → ℕ
corner_of w side = w.darts + (side + 3) % 4

pub middle_of : (w surrounded : DartMap) (right side way : ℕ) (new : DartMap) → (j : IsConnecting w surrounded right side way new) → IsTied j.bridge.middle
middle_of w surrounded right side way new j =
    split_tied surrounded (w.darts + side) (surrounded.direction (w.darts + side)) 2 j.bridge.middle
    (surround_tied w surrounded j.surround j.tied) j.bridge.e_in j.bridge.subdivide

pub cutting_of : (w surrounded : DartMap) (right side way : ℕ) (new : DartMap) → (j : IsConnecting w surrounded right side way new) →
    IsCutting j.bridge.middle right (corner_of w side) surrounded.darts
cutting_of w surrounded right side way new j =
    let s = j.bridge.subdivide in
    let c_in : corner_of w side < surrounded.darts = omega (arith, j.surround.darts) in
    record {
      d_in = omega (arith, s.darts, j.bridge.d_in);
      c_in = omega (arith, s.darts, c_in);
      f_in = omega (arith, s.darts);
      right = omega (arith, s.angle_old right j.bridge.d_in, j.bridge.right);
      left = s.angle_old (corner_of w side) c_in ∙ j.surround.angle_inside ((side + 3) % 4) (omega arith);
      straight = s.angle_first;
      behind = ap j.bridge.middle.next (sym (j.surround.prev_inside side j.side_in)) ∙ s.next_before;
    }

-- angles after the bridge
pub old_angle : (w surrounded : DartMap) (right side way : ℕ) (new : DartMap) → IsConnecting w surrounded right side way new → (a : ℕ) → a < w.darts →
    a ≢ right → new.angle a ≡ w.angle a
old_angle w surrounded right side way new j a l ne =
    let s = j.bridge.subdivide in
    let a_in : a < surrounded.darts = omega (arith, j.surround.darts, l) in
    j.bridge.chord.angle_other a (omega (arith, s.darts, a_in)) ne (λ h. omega (arith, h, a_in)) ∙ s.angle_old a a_in ∙ j.surround.angle_old a l

pub right_angle : (w surrounded : DartMap) (right side way : ℕ) (new : DartMap) → IsConnecting w surrounded right side way new → new.angle right + 1 ≡ w.angle right
right_angle w surrounded right side way new j =
    j.bridge.chord.angle_d ∙ j.bridge.subdivide.angle_old right j.bridge.d_in ∙ j.surround.angle_old right j.right_in

pub surround_angle : (w surrounded : DartMap) (right side way : ℕ) (new : DartMap) → IsConnecting w surrounded right side way new → (i : ℕ) → i < 8 →
    new.angle (w.darts + i) ≡ surrounded.angle (w.darts + i)
surround_angle w surrounded right side way new j i l =
    let s = j.bridge.subdivide in
    let a_in : w.darts + i < surrounded.darts = omega (arith, j.surround.darts, l) in
    j.bridge.chord.angle_other (w.darts + i) (omega (arith, s.darts, a_in)) (λ h. omega (arith, h, j.right_in)) (λ h. omega (arith, h, a_in))
    ∙ s.angle_old (w.darts + i) a_in

pub inner_angle : (w surrounded : DartMap) (right side way : ℕ) (new : DartMap) → IsConnecting w surrounded right side way new → (k : ℕ) → k < 4 →
    new.angle (w.darts + k) ≡ 1
inner_angle w surrounded right side way new j k l = surround_angle w surrounded right side way new j k (omega arith) ∙ j.surround.angle_inside k l

pub outer_angle : (w surrounded : DartMap) (right side way : ℕ) (new : DartMap) → IsConnecting w surrounded right side way new → (k : ℕ) → k < 4 →
    new.angle (w.darts + 4 + k) ≡ 3
outer_angle w surrounded right side way new j k l =
    let e : w.darts + 4 + k ≡ w.darts + (4 + k) = omega arith in
    ap new.angle e ∙ surround_angle w surrounded right side way new j (4 + k) (omega arith) ∙ ap surrounded.angle (sym e) ∙ j.surround.angle_outside k l

pub new_angles : (w surrounded : DartMap) (right side way : ℕ) (new : DartMap) → IsConnecting w surrounded right side way new →
    (new.angle (w.darts + 8) ≡ 1) × (new.angle (w.darts + 9) ≡ 2) × (new.angle (w.darts + 10) ≡ 1) × (new.angle (w.darts + 11) ≡ 1)
new_angles w surrounded right side way new j =
    let n : ℕ = w.darts in
    let s = j.bridge.subdivide in
    let t = j.bridge.chord in
    let d8 : n + 8 ≡ surrounded.darts = sym j.surround.darts in
    let d9 : n + 9 ≡ surrounded.darts + 1 = omega (arith, d8) in
    let d10 : n + 10 ≡ j.bridge.middle.darts = omega (arith, d8, s.darts) in
    let d11 : n + 11 ≡ j.bridge.middle.darts + 1 = omega (arith, d10) in (
      omega (arith, ap new.angle d8, t.angle_f, s.angle_first),
      ap new.angle d9
          ∙ t.angle_other (surrounded.darts + 1) (omega (arith, s.darts)) (λ h. omega (arith, h, j.bridge.d_in)) (λ h. omega (arith, h))
          ∙ s.angle_second,
      ap new.angle d10 ∙ t.angle_there,
      ap new.angle d11 ∙ t.angle_back,
    )

-- a stretch between two of the rectangle's darts, side by side
pub inside_stretch : (w surrounded : DartMap) (right side way : ℕ) (new : DartMap) → IsConnecting w surrounded right side way new → (i m : ℕ) → i < 8 → m < 8 →
    surrounded.next (w.darts + i) ≡ w.darts + m → surrounded.angle (w.darts + m) ≢ 2 → surrounded.angle (w.darts + i) ≢ 2 →
    i ≢ (side + 3) % 4 → Stretches new (w.darts + i) (w.darts + m)
inside_stretch w surrounded right side way new j i m il ml to corner here ne =
    let s = j.bridge.subdivide in
    let tied = surround_tied w surrounded j.surround j.tied in
    let i_in : w.darts + i < surrounded.darts = omega (arith, j.surround.darts, il) in
    let stretches : Stretches j.bridge.middle (w.darts + i) (w.darts + m) =
    split_stretches surrounded (w.darts + side) (surrounded.direction (w.darts + side)) (w.darts + i) (w.darts + m) j.bridge.middle s tied j.bridge.e_in
    i_in (stretch_direct surrounded (w.darts + i) (w.darts + m) to corner) in
    chord_stretches j.bridge.middle right (corner_of w side) surrounded.darts way (w.darts + i) (w.darts + m) new j.bridge.chord
    (middle_of w surrounded right side way new j) (cutting_of w surrounded right side way new j) (omega (arith, s.darts, i_in))
    (λ h. here (sym (s.angle_old (w.darts + i) i_in) ∙ h)) (λ h. omega (arith, h, j.right_in)) (λ h. ne (omega (arith, h)))
    (λ h. omega (arith, h, j.right_in)) stretches

-- the outside of the rectangle
pub outside_stretch : (w surrounded : DartMap) (right side way : ℕ) (new : DartMap) → IsConnecting w surrounded right side way new → (k m : ℕ) → k < 4 →
    m ≡ (k + 3) % 4 → Stretches new (w.darts + 4 + k) (w.darts + 4 + m)
outside_stretch w surrounded right side way new j k m l e =
    let a : w.darts + (4 + k) ≡ w.darts + 4 + k = omega arith in
    let b : w.darts + (4 + m) ≡ w.darts + 4 + m = omega arith in
    let c : w.darts + 4 + (k + 3) % 4 ≡ w.darts + (4 + m) = omega (arith, e) in
    let m_angle : surrounded.angle (w.darts + (4 + m)) ≡ 3 = ap surrounded.angle b ∙ j.surround.angle_outside m (omega (arith, e)) in
    let k_angle : surrounded.angle (w.darts + (4 + k)) ≡ 3 = ap surrounded.angle a ∙ j.surround.angle_outside k l in
    subst (λ (z : ℕ). Stretches new z (w.darts + 4 + m)) a
    (subst (λ (z : ℕ). Stretches new (w.darts + (4 + k)) z) b
    (inside_stretch w surrounded right side way new j (4 + k) (4 + m) (omega arith) (omega (arith, e)) (ap surrounded.next a ∙ j.surround.next_outside k l ∙ c)
    (λ h. omega (arith, h, m_angle)) (λ h. omega (arith, h, k_angle)) (λ h. omega (arith, h))))

round_holds : (n o k : ℕ) → o < 4 → k < 4 →
    In (n + 4 + o) ((n + 4 + k) ∷ (n + 4 + (k + 3) % 4) ∷ (n + 4 + (k + 2) % 4) ∷ (n + 4 + (k + 1) % 4) ∷ [])
round_holds n o k o_in l =
    elim (cases_eq o k) [
      | inl e ↦ inl (omega (arith, e))
      | inr n0 ↦ elim (cases_eq o ((k + 3) % 4)) [
        | inl e ↦ inr (inl (omega (arith, e)))
        | inr n1 ↦ elim (cases_eq o ((k + 2) % 4)) [
          | inl e ↦ inr (inr (inl (omega (arith, e))))
          | inr n2 ↦ inr (inr (inr (inl (omega (arith, n0, n1, n2, o_in, l)))))
        ]
      ]
    ]

-- each of its corners with each other
pub outside_four : (w surrounded : DartMap) (right side way : ℕ) (new : DartMap) → IsConnecting w surrounded right side way new → (o : ℕ) → o < 4 →
    (k : ℕ) → k < 4 → IsOutside new (w.darts + 4 + o) (w.darts + 4 + k)
outside_four w surrounded right side way new j o o_in k l = record {
  four = record {
    second = w.darts + 4 + (k + 3) % 4;
    third = w.darts + 4 + (k + 2) % 4;
    fourth = w.darts + 4 + (k + 1) % 4;
    to_second = outside_stretch w surrounded right side way new j k ((k + 3) % 4) l refl;
    to_third = outside_stretch w surrounded right side way new j ((k + 3) % 4) ((k + 2) % 4) (omega arith) (omega arith);
    to_fourth = outside_stretch w surrounded right side way new j ((k + 2) % 4) ((k + 1) % 4) (omega arith) (omega arith);
    back = outside_stretch w surrounded right side way new j ((k + 1) % 4) k (omega arith) (omega arith);
    angle_first = outer_angle w surrounded right side way new j k l;
    angle_second = outer_angle w surrounded right side way new j ((k + 3) % 4) (omega arith);
    angle_third = outer_angle w surrounded right side way new j ((k + 2) % 4) (omega arith);
    angle_fourth = outer_angle w surrounded right side way new j ((k + 1) % 4) (omega arith);
  };
  holds = round_holds w.darts o k o_in l;
}

-- a face that the cut does not touch
pub other_ring : (w surrounded : DartMap) (right side way : ℕ) (new : DartMap) → IsConnecting w surrounded right side way new → (r : List ℕ) →
    Below w.darts r → (In right r → ⊥) → Ring w r → Ring new r
other_ring w surrounded right side way new j r below out ring =
    let s = j.bridge.subdivide in
    let n : ℕ = w.darts in
    let end : last_of 0 r < n = ring_last w r ring below in
    let in_surround : Ring surrounded r = surround_ring w surrounded j.surround j.tied r end ring in
    let in_middle : Ring j.bridge.middle r = split_ring surrounded (n + side) (surrounded.direction (n + side)) j.bridge.middle s
    (surround_tied w surrounded j.surround j.tied) j.bridge.e_in r (omega (arith, j.surround.darts, end)) in_surround in
    chord_ring j.bridge.middle right (corner_of w side) surrounded.darts way new j.bridge.chord (middle_of w surrounded right side way new j)
    (cutting_of w surrounded right side way new j) r
    (clear_of n j.bridge.middle.darts right (corner_of w side) r (omega (arith, s.darts, j.surround.darts)) below out
    (λ h. omega (arith, in_below n (corner_of w side) r below h))) in_middle

pub totals_same : (w surrounded : DartMap) (right side way : ℕ) (new : DartMap) → IsConnecting w surrounded right side way new → (r : List ℕ) →
    Below w.darts r → (In right r → ⊥) → total (map new.angle r) ≡ total (map w.angle r)
totals_same w surrounded right side way new j [] below out = refl
totals_same w surrounded right side way new j (a ∷ r) below out =
    omega (
      arith,
      old_angle w surrounded right side way new j a below.0 (λ h. out (inl (sym h))),
      totals_same w surrounded right side way new j r below.1 (λ h. out (inr h)),
    )

pub other_rings : (w surrounded : DartMap) (right side way : ℕ) (new : DartMap) → IsConnecting w surrounded right side way new → (rs : List (List ℕ)) →
    Below w.darts (concatenated rs) → (In right (concatenated rs) → ⊥) → AreRings w rs → AreRings new rs
other_rings w surrounded right side way new j [] below out rings = tt
other_rings w surrounded right side way new j (r ∷ rs) below out rings =
    let below_r : Below w.darts r = below_left w.darts r (concatenated rs) below in
    let out_r : In right r → ⊥ = λ h. out (in_left right r (concatenated rs) h) in (
      (
        other_ring w surrounded right side way new j r below_r out_r rings.0.0,
        omega (arith, totals_same w surrounded right side way new j r below_r out_r, rings.0.1),
      ),
      other_rings w surrounded right side way new j rs (below_right w.darts r (concatenated rs) below) (λ h. out (in_right right r (concatenated rs) h)) rings.1,
    )
