-- How the cutting of a face begins and how it ends.
use Rattle.std.proofs.Common.{◌≡◌, ℕ, suc, ◌+◌, ◌*◌, ◌<◌, ◌∙◌, List, [], ◌∷◌, ◌++◌, length, length-append, map, append-nil, arith, subst, sym, ap, refl, inl, inr}
use Rattle.dissect.specs.Turning.{total, HasNoHook, AreCornerAngles, AreLefts}
use Rattle.dissect.specs.DartMaps.{DartMap, IsSound}
use Rattle.dissect.specs.Faces.{IsCorner, Trail, last_of, Ring, HasFourCorners, In, concatenated, AreWaiting}
use Rattle.dissect.specs.FaceCutting.{down, IsFaceCutting}
use Rattle.dissect.proofs.Stretching.{Stretches-corner}
use Rattle.dissect.proofs.Rings.{ring_turned, four_turned}
use Rattle.dissect.proofs.LeftTurns.{all_left, four_lefts}
use Rattle.dissect.proofs.Listing.{in_left, in_right, in_append, in_below, below_left, below_right, below_append, distinct_turned}
use Rattle.dissect.proofs.Waiting.{total-append}
use Rattle.dissect.proofs.Scanning.{down_append}

pub trail_corners : (w : DartMap) (a b : ℕ) (cs : List ℕ) → Trail w a cs → In b cs → IsCorner w b
trail_corners w a b [] trail here = absurd here
trail_corners w a b (c ∷ cs) trail here =
    elim here [
      | inl e ↦ λ h. Stretches-corner w a c trail.0 (ap w.angle (sym e) ∙ h)
      | inr later ↦ trail_corners w c b cs trail.1 later
    ]

pub ring_corners : (w : DartMap) (b : ℕ) (cs : List ℕ) → Ring w cs → In b cs → IsCorner w b
ring_corners w b [] ring here = absurd here
ring_corners w b (c ∷ cs) ring here = trail_corners w (last_of c cs) b (c ∷ cs) ring here

pub turns_of : (w : DartMap) (st : List ℕ) → IsSound w → ((a : ℕ) → In a st → (a < w.darts) × IsCorner w a) → AreCornerAngles (map w.angle st)
turns_of w [] sound each = tt
turns_of w (c ∷ st) sound each =
    let here = each c (inl refl) in
    (sound.meeting.some c here.0, sound.meeting.most c here.0, here.1, turns_of w st sound (λ a h. each a (inr h)))

pub total-down : (f : ℕ → ℕ) (st rest : List ℕ) → total (map f (down st rest)) ≡ total (map f st) + total (map f rest)
total-down f [] rest = omega arith
total-down f (c ∷ st) rest = omega (arith, total-down f st (c ∷ rest))

pub length-down : (st rest : List ℕ) → length (down st rest) ≡ length st + length rest
length-down [] rest = omega arith
length-down (c ∷ st) rest = omega (arith, length-down st (c ∷ rest))

pub length-map_angle : (f : ℕ → ℕ) (xs : List ℕ) → length (map f xs) ≡ length xs
length-map_angle f [] = refl
length-map_angle f (x ∷ xs) = ap suc (length-map_angle f xs)

pub in_down_back : (a : ℕ) (st rest : List ℕ) → In a st → In a (down st rest)
in_down_back a [] rest here = absurd here
in_down_back a (c ∷ st) rest here =
    elim here [
      | inl e ↦ subst (λ (zs : List ℕ). In a zs) (sym (down_append st (c ∷ rest))) (in_right a (down st []) (c ∷ rest) (inl e))
      | inr later ↦ in_down_back a st (c ∷ rest) later
    ]

-- a face with four left corners is done
pub four_done : (w : DartMap) (a b c d : ℕ) (o : ℕ) (rs : List (List ℕ)) → w.angle a ≡ 1 → w.angle b ≡ 1 → w.angle c ≡ 1 → w.angle d ≡ 1 →
    AreWaiting w o ((a ∷ b ∷ c ∷ d ∷ []) ∷ rs) → AreWaiting w o rs
four_done w a b c d o rs left_a left_b left_c left_d waiting =
    let ring = waiting.rings.0.0 in
    let box1 : HasFourCorners w 1 a = record {
      second = b;
      third = c;
      fourth = d;
      to_second = ring.1.0;
      to_third = ring.1.1.0;
      to_fourth = ring.1.1.1.0;
      back = ring.0;
      angle_first = left_a;
      angle_second = left_b;
      angle_third = left_c;
      angle_fourth = left_d;
    } in
    let box2 : HasFourCorners w 1 b = four_turned w 1 a box1 in
    let box3 : HasFourCorners w 1 c = four_turned w 1 b box2 in
    let box4 : HasFourCorners w 1 d = four_turned w 1 c box3 in
    record {
      rings = waiting.rings.1;
      distinct = waiting.distinct.1.1.1.1;
      below = waiting.below.1.1.1.1;
      inside = waiting.inside;
      outside = waiting.outside;
      placed = λ k l corner.
          elim (waiting.placed k l corner) [
            | inl listed ↦ elim listed [
              | inl e ↦ inr (inl (subst (λ (z : ℕ). HasFourCorners w 1 z) (sym e) box1))
              | inr l1 ↦ elim l1 [
                | inl e ↦ inr (inl (subst (λ (z : ℕ). HasFourCorners w 1 z) (sym e) box2))
                | inr l2 ↦ elim l2 [
                  | inl e ↦ inr (inl (subst (λ (z : ℕ). HasFourCorners w 1 z) (sym e) box3))
                  | inr l3 ↦ elim l3 [
                    | inl e ↦ inr (inl (subst (λ (z : ℕ). HasFourCorners w 1 z) (sym e) box4))
                    | inr others ↦ inl others
                  ]
                ]
              ]
            ]
            | inr four ↦ inr four
          ];
    }

-- with nothing unread and a hookless stack, the face is done
pub scan_done : (w0 : DartMap) (face : List ℕ) (w : DartMap) (st : List ℕ) → IsFaceCutting w0 face w st [] → HasNoHook 0 (map w.angle st) →
    (o : ℕ) (rs : List (List ℕ)) → AreWaiting w0 o (face ∷ rs) → AreWaiting w o rs
scan_done w0 face w st face_cutting hookless o rs wait =
    let waiting = face_cutting.waiting o rs wait in
    let each : (a : ℕ) → In a st → (a < w.darts) × IsCorner w a = λ a h.
    let there : In a (down st []) = in_down_back a st [] h in (
      in_below w.darts a (down st []) (below_left w.darts (down st []) (concatenated rs) waiting.below) there,
      ring_corners w a (down st []) waiting.rings.0.0 there,
    ) in
    let lefts : AreLefts (map w.angle st) = all_left 0 (map w.angle st) (turns_of w st face_cutting.sound each) face_cutting.hopeful hookless in
    let once : total (map w.angle st) + 4 ≡ 2 * length (map w.angle st) =
    omega (arith, waiting.rings.0.1, total-down w.angle st [], length-down st [], length-map_angle w.angle st) in
    let four : length (map w.angle st) ≡ 4 = four_lefts (map w.angle st) lefts once in
    close w st o rs lefts (omega (arith, four, length-map_angle w.angle st)) waiting
  where
    close : (w : DartMap) (st : List ℕ) (o : ℕ) (rs : List (List ℕ)) → AreLefts (map w.angle st) → length st ≡ 4 →
        AreWaiting w o (down st [] ∷ rs) → AreWaiting w o rs
    close w [] o rs lefts four waiting = absurd (omega (arith, four))
    close w (d ∷ []) o rs lefts four waiting = absurd (omega (arith, four))
    close w (d ∷ c ∷ []) o rs lefts four waiting = absurd (omega (arith, four))
    close w (d ∷ c ∷ b ∷ []) o rs lefts four waiting = absurd (omega (arith, four))
    close w (d ∷ c ∷ b ∷ a ∷ []) o rs lefts four waiting =
        four_done w a b c d o rs lefts.1.1.1.0 lefts.1.1.0 lefts.1.0 lefts.0 waiting
    close w (d ∷ c ∷ b ∷ a ∷ e ∷ st) o rs lefts four waiting = absurd (omega (arith, four))

-- a face with four corners turns left at each of them, and is done
pub four_corners_done : (w : DartMap) (face : List ℕ) (o : ℕ) (rs : List (List ℕ)) → IsSound w → length face ≡ 4 →
    AreWaiting w o (face ∷ rs) → AreWaiting w o rs
four_corners_done w [] o rs sound four waiting = absurd (omega (arith, four))
four_corners_done w (a ∷ []) o rs sound four waiting = absurd (omega (arith, four))
four_corners_done w (a ∷ b ∷ []) o rs sound four waiting = absurd (omega (arith, four))
four_corners_done w (a ∷ b ∷ c ∷ []) o rs sound four waiting = absurd (omega (arith, four))
four_corners_done w (a ∷ b ∷ c ∷ d ∷ []) o rs sound four waiting =
    let some_a = sound.meeting.some a waiting.below.0 in
    let some_b = sound.meeting.some b waiting.below.1.0 in
    let some_c = sound.meeting.some c waiting.below.1.1.0 in
    let some_d = sound.meeting.some d waiting.below.1.1.1.0 in
    let once : w.angle a + (w.angle b + (w.angle c + (w.angle d + 0))) + 4 ≡ 2 * 4 = waiting.rings.0.1 in
    four_done w a b c d o rs (omega (arith, some_b, some_c, some_d, some_a, once)) (omega (arith, some_a, some_b, some_c, some_d, once))
    (omega (arith, some_a, some_b, some_c, some_d, once)) (omega (arith, some_a, some_b, some_c, some_d, once)) waiting
four_corners_done w (a ∷ b ∷ c ∷ d ∷ e ∷ rest) o rs sound four waiting = absurd (omega (arith, four))

-- a face can be read from another corner on
pub turned_waiting : (w : DartMap) (xs ys : List ℕ) (o : ℕ) (rs : List (List ℕ)) → AreWaiting w o ((xs ++ ys) ∷ rs) → AreWaiting w o ((ys ++ xs) ∷ rs)
turned_waiting w xs ys o rs waiting = record {
  rings = (
    (
      turn w xs ys waiting.rings.0.0,
      omega (arith, waiting.rings.0.1, total-append w.angle xs ys, total-append w.angle ys xs, length-append xs ys, length-append ys xs),
    ),
    waiting.rings.1,
  );
  distinct = distinct_turned xs ys (concatenated rs) waiting.distinct;
  below = below_append w.darts (ys ++ xs) (concatenated rs)
      (below_append w.darts ys xs (below_right w.darts xs ys (below_left w.darts (xs ++ ys) (concatenated rs) waiting.below))
      (below_left w.darts xs ys (below_left w.darts (xs ++ ys) (concatenated rs) waiting.below)))
      (below_right w.darts (xs ++ ys) (concatenated rs) waiting.below);
  inside = waiting.inside;
  outside = waiting.outside;
  placed = λ a l corner.
      elim (waiting.placed a l corner) [
        | inl listed ↦ inl (elim (in_append a (xs ++ ys) (concatenated rs) listed) [
          | inl here ↦ in_left a (ys ++ xs) (concatenated rs) (elim (in_append a xs ys here) [
            | inl left ↦ in_right a ys xs left
            | inr right ↦ in_left a ys xs right
          ])
          | inr there ↦ in_right a (ys ++ xs) (concatenated rs) there
        ])
        | inr four ↦ inr four
      ];
}
  where
    turn : (w : DartMap) (xs ys : List ℕ) → Ring w (xs ++ ys) → Ring w (ys ++ xs)
    turn w [] [] ring = ring
    turn w [] (y ∷ ys) ring = subst (Ring w) (sym (append-nil (y ∷ ys))) ring
    turn w (x ∷ xs) [] ring = subst (Ring w) (append-nil (x ∷ xs)) ring
    turn w (x ∷ xs) (y ∷ ys) ring = ring_turned w x y xs ys ring
