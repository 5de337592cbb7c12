-- Faces told by their corners, and what one cut makes of them.
use Rattle.std.proofs.Common.{◌≡◌, ◌≢◌, ℕ, zero, suc, ◌+◌, ◌<◌, ◌∙◌, List, [], ◌∷◌, ◌++◌, arith, subst, sym, ap, refl}
use Rattle.dissect.specs.DartMaps.{DartMap, IsTied, IsSubdivided, IsChord}
use Rattle.dissect.specs.Faces.{IsCorner, StretchesIn, Stretches, Trail, last_of, Ring, HasFourCorners, IsOutside}
use Rattle.dissect.proofs.Stretching.{IsCutting, split_stretches, chord_stretch, chord_stretch_there, chord_stretch_to, chord_stretch_there_to, chord_stretch_back, stretch_direct, Stretches-one, Stretches-from_one, Stretches-inside, Stretches-corner}

-- each of the darts is below n, and none is d or c
abbrev pub Clear : ℕ → ℕ → ℕ → List ℕ → Type 0
Clear n d c [] = Unit {0}
Clear n d c (b ∷ bs) = (b < n) × (b ≢ d) × (b ≢ c) × Clear n d c bs

pub trail_append : (w : DartMap) (a : ℕ) (xs ys : List ℕ) → Trail w a xs → Trail w (last_of a xs) ys → Trail w a (xs ++ ys)
trail_append w a [] ys first second = second
trail_append w a (x ∷ xs) ys first second = (first.0, trail_append w x xs ys first.1 second)

pub trail_front : (w : DartMap) (a : ℕ) (xs ys : List ℕ) → Trail w a (xs ++ ys) → Trail w a xs
trail_front w a [] ys both = tt
trail_front w a (x ∷ xs) ys both = (both.0, trail_front w x xs ys both.1)

pub trail_rest : (w : DartMap) (a : ℕ) (xs ys : List ℕ) → Trail w a (xs ++ ys) → Trail w (last_of a xs) ys
trail_rest w a [] ys both = both
trail_rest w a (x ∷ xs) ys both = trail_rest w x xs ys both.1

pub last_of-append : (a : ℕ) (xs ys : List ℕ) → last_of a (xs ++ ys) ≡ last_of (last_of a xs) ys
last_of-append a [] ys = refl
last_of-append a (x ∷ xs) ys = last_of-append x xs ys

-- a ring can be read from any of its corners on
pub ring_turned : (w : DartMap) (x y : ℕ) (xs ys : List ℕ) → Ring w ((x ∷ xs) ++ (y ∷ ys)) → Ring w ((y ∷ ys) ++ (x ∷ xs))
ring_turned w x y xs ys ring =
    let whole : Trail w (last_of y ys) ((x ∷ xs) ++ (y ∷ ys)) =
    subst (λ (a : ℕ). Trail w a ((x ∷ xs) ++ (y ∷ ys))) (last_of-append x xs (y ∷ ys)) ring in
    let first : Trail w (last_of y ys) (x ∷ xs) = trail_front w (last_of y ys) (x ∷ xs) (y ∷ ys) whole in
    let second : Trail w (last_of x xs) (y ∷ ys) = trail_rest w (last_of y ys) (x ∷ xs) (y ∷ ys) whole in
    subst (λ (a : ℕ). Trail w a ((y ∷ ys) ++ (x ∷ xs))) (sym (last_of-append y ys (x ∷ xs)))
    (trail_append w (last_of x xs) (y ∷ ys) (x ∷ xs) second first)

-- each corner of a trail is a dart
pub split_trail : (w : DartMap) (e way : ℕ) (new : DartMap) → IsSubdivided w e way 2 new → IsTied w → e < w.darts →
    (a : ℕ) (cs : List ℕ) → a < w.darts → Trail w a cs → Trail new a cs
split_trail w e way new s tied e_in a [] l trail = tt
split_trail w e way new s tied e_in a (c ∷ cs) l trail = (
  split_stretches w e way a c new s tied e_in l trail.0,
  split_trail w e way new s tied e_in c cs (Stretches-inside w a c tied l trail.0) trail.1,
)

pub split_ring : (w : DartMap) (e way : ℕ) (new : DartMap) → IsSubdivided w e way 2 new → IsTied w → e < w.darts →
    (cs : List ℕ) → last_of 0 cs < w.darts → Ring w cs → Ring new cs
split_ring w e way new s tied e_in [] l ring = ring
split_ring w e way new s tied e_in (c ∷ cs) l ring = split_trail w e way new s tied e_in (last_of c cs) (c ∷ cs) l ring

pub split_four : (w : DartMap) (e way angle a : ℕ) (new : DartMap) → IsSubdivided w e way 2 new → IsTied w → e < w.darts →
    a < w.darts → HasFourCorners w angle a → HasFourCorners new angle a
split_four w e way angle a new s tied e_in l four =
    let l2 : four.second < w.darts = Stretches-inside w a four.second tied l four.to_second in
    let l3 : four.third < w.darts = Stretches-inside w four.second four.third tied l2 four.to_third in
    let l4 : four.fourth < w.darts = Stretches-inside w four.third four.fourth tied l3 four.to_fourth in
    record {
      second = four.second;
      third = four.third;
      fourth = four.fourth;
      to_second = split_stretches w e way a four.second new s tied e_in l four.to_second;
      to_third = split_stretches w e way four.second four.third new s tied e_in l2 four.to_third;
      to_fourth = split_stretches w e way four.third four.fourth new s tied e_in l3 four.to_fourth;
      back = split_stretches w e way four.fourth a new s tied e_in l4 four.back;
      angle_first = s.angle_old a l ∙ four.angle_first;
      angle_second = s.angle_old four.second l2 ∙ four.angle_second;
      angle_third = s.angle_old four.third l3 ∙ four.angle_third;
      angle_fourth = s.angle_old four.fourth l4 ∙ four.angle_fourth;
    }

-- the outside of the rectangle stays one
pub split_outside : (w : DartMap) (o e way a : ℕ) (new : DartMap) → IsSubdivided w e way 2 new → IsTied w → e < w.darts →
    a < w.darts → IsOutside w o a → IsOutside new o a
unfolding split_four
split_outside w o e way a new s tied e_in l outside = record {
  four = split_four w e way 3 a new s tied e_in l outside.four;
  holds = outside.holds;
}

-- d turns right, then c1 and c turn left, one after the other; f is the straight place right after c
pub record IsHook (w : DartMap) (d c1 c f : ℕ) : Type 0 where
  pub cutting : IsCutting w d c f
  pub c1_in : c1 < w.darts
  pub to_first : Stretches w d c1
  pub to_second : Stretches w c1 c
  pub left : w.angle c1 ≡ 1
  pub apart : c1 ≢ c

-- a dart that is neither of the cut's corners and no straight place is not f
pub corner_not_f : (w : DartMap) (d c f a : ℕ) → IsCutting w d c f → IsCorner w a → a ≢ f
corner_not_f w d c f a here corner h = corner (ap w.angle h ∙ here.straight)

pub chord_stretches : (w : DartMap) (d c f way a b : ℕ) (new : DartMap) → IsChord w d f way new → IsTied w → IsCutting w d c f →
    a < w.darts → IsCorner w a → a ≢ d → a ≢ c → b ≢ d → Stretches w a b → Stretches new a b
chord_stretches w d c f way a b new s tied here l corner nd nc bd r =
    chord_stretch w d c f way new s tied here r.places a b l nd nc (corner_not_f w d c f a here corner) bd r.stretch

-- a trail through corners that are not the cut's is kept
pub chord_trail : (w : DartMap) (d c f way : ℕ) (new : DartMap) → IsChord w d f way new → IsTied w → IsCutting w d c f →
    (a : ℕ) (cs : List ℕ) → a < w.darts → IsCorner w a → a ≢ d → a ≢ c → Clear w.darts d c cs →
    Trail w a cs → Trail new a cs
chord_trail w d c f way new s tied here a [] l corner nd nc clear trail = tt
chord_trail w d c f way new s tied here a (b ∷ bs) l corner nd nc clear trail = (
  chord_stretches w d c f way a b new s tied here l corner nd nc clear.1 trail.0,
  chord_trail w d c f way new s tied here b bs clear.0 (Stretches-corner w a b trail.0) clear.1 clear.2 clear.3 trail.1,
)

pub clear_last : (n d c a : ℕ) (cs : List ℕ) → a < n → a ≢ d → a ≢ c → Clear n d c cs →
    (last_of a cs < n) × (last_of a cs ≢ d) × (last_of a cs ≢ c)
clear_last n d c a [] l nd nc clear = (l, nd, nc)
clear_last n d c a (b ∷ bs) l nd nc clear = clear_last n d c b bs clear.0 clear.1 clear.2 clear.3

pub trail_corner : (w : DartMap) (a : ℕ) (cs : List ℕ) → IsCorner w a → Trail w a cs → IsCorner w (last_of a cs)
trail_corner w a [] corner trail = corner
trail_corner w a (b ∷ bs) corner trail = trail_corner w b bs (Stretches-corner w a b trail.0) trail.1

-- a ring through corners that are not the cut's is kept
pub chord_ring : (w : DartMap) (d c f way : ℕ) (new : DartMap) → IsChord w d f way new → IsTied w → IsCutting w d c f →
    (cs : List ℕ) → Clear w.darts d c cs → Ring w cs → Ring new cs
chord_ring w d c f way new s tied here [] clear ring = ring
chord_ring w d c f way new s tied here (b ∷ bs) clear ring =
    let end = clear_last w.darts d c b bs clear.0 clear.1 clear.2 clear.3 in
    chord_trail w d c f way new s tied here (last_of b bs) (b ∷ bs) end.0
    (trail_corner w b bs (Stretches-corner w (last_of b bs) b ring.0) ring.1) end.1 end.2 clear ring

pub Clear-append : (n d c : ℕ) (xs ys : List ℕ) → Clear n d c xs → Clear n d c ys → Clear n d c (xs ++ ys)
Clear-append n d c [] ys first second = second
Clear-append n d c (x ∷ xs) ys first second = (first.0, first.1, first.2, Clear-append n d c xs ys first.3 second)

-- a stretch from c goes through f
pub from_straight : (w : DartMap) (d c f b : ℕ) → IsCutting w d c f → Stretches w c b → (k : ℕ) × StretchesIn w k f b
from_straight w d c f b here r = go w d c f b here r.places r.stretch
  where
    go : (w : DartMap) (d c f b : ℕ) → IsCutting w d c f → (k : ℕ) → StretchesIn w k c b → (j : ℕ) × StretchesIn w j f b
    go w d c f b here zero r = absurd (r.1 (ap w.angle (sym r.0 ∙ here.behind) ∙ here.straight))
    go w d c f b here (suc k) r = (k, subst (λ (m : ℕ). StretchesIn w k m b) here.behind r.1)

-- a cut at the head of a ring takes c1 and c off it, and puts the chord in their place
pub cut_ring : (w : DartMap) (d c1 c f way : ℕ) (rs : List ℕ) (new : DartMap) → IsChord w d f way new → IsTied w →
    IsHook w d c1 c f → Clear w.darts d c rs → Ring w (d ∷ c1 ∷ c ∷ rs) →
    (IsCorner new d → Ring new (d ∷ w.darts ∷ rs)) × (new.angle d ≡ 2 → Ring new (w.darts ∷ rs))
cut_ring w d c1 c f way [] new s tied hook clear ring =
    let here = hook.cutting in
    let to_d : (k : ℕ) × StretchesIn w k f d = from_straight w d c f d here ring.0 in
    let both = chord_stretch_there_to w d c f way new s tied here to_d.0 to_d.1 in
    let away : Stretches new d w.darts = stretch_direct new d w.darts s.next_d (λ h. omega (arith, s.angle_there, h)) in
    (λ corner. (both.0 corner, (away, tt)), λ straight. (both.1 straight, tt))
cut_ring w d c1 c f way (b ∷ bs) new s tied hook clear ring =
    let here = hook.cutting in
    let to_b : (k : ℕ) × StretchesIn w k f b = from_straight w d c f b here ring.1.1.1.0 in
    let from_x : Stretches new w.darts b = chord_stretch_there w d c f way new s tied here to_b.0 b clear.1 to_b.1 in
    let b_corner : IsCorner w b = Stretches-corner w c b ring.1.1.1.0 in
    let rest : Trail new b bs = chord_trail w d c f way new s tied here b bs clear.0 b_corner clear.1 clear.2 clear.3 ring.1.1.1.1 in
    let end = clear_last w.darts d c b bs clear.0 clear.1 clear.2 clear.3 in
    let end_corner : IsCorner w (last_of b bs) = trail_corner w b bs b_corner ring.1.1.1.1 in
    let back : Stretches w (last_of b bs) d = ring.0 in
    let both = chord_stretch_to w d c f way new s tied here back.places (last_of b bs) end.0 end.1 end.2
    (corner_not_f w d c f (last_of b bs) here end_corner) back.stretch in
    let away : Stretches new d w.darts = stretch_direct new d w.darts s.next_d (λ h. omega (arith, s.angle_there, h)) in
    (λ corner. (both.0 corner, (away, (from_x, rest))), λ straight. (both.1 straight, (from_x, rest)))

-- the same anywhere on a ring
pub cut_ring_within : (w : DartMap) (d c1 c f way : ℕ) (before rs : List ℕ) (new : DartMap) → IsChord w d f way new → IsTied w →
    IsHook w d c1 c f → Clear w.darts d c before → Clear w.darts d c rs → Ring w (before ++ (d ∷ c1 ∷ c ∷ rs)) →
    (IsCorner new d → Ring new (before ++ (d ∷ w.darts ∷ rs))) × (new.angle d ≡ 2 → Ring new (before ++ (w.darts ∷ rs)))
cut_ring_within w d c1 c f way [] rs new s tied hook clear_before clear ring =
    cut_ring w d c1 c f way rs new s tied hook clear ring
cut_ring_within w d c1 c f way (b ∷ bs) rs new s tied hook clear_before clear ring =
    let turned : Ring w (d ∷ c1 ∷ c ∷ (rs ++ (b ∷ bs))) = ring_turned w b d bs (c1 ∷ c ∷ rs) ring in
    let both = cut_ring w d c1 c f way (rs ++ (b ∷ bs)) new s tied hook
    (Clear-append w.darts d c rs (b ∷ bs) clear clear_before) turned in (
      λ corner. ring_turned new d b (w.darts ∷ rs) bs (both.0 corner),
      λ straight. ring_turned new w.darts b rs bs (both.1 straight),
    )

-- what is cut off: c1, c, the straight place that became a corner, and the chord's way back
pub cut_four : (w : DartMap) (d c1 c f way : ℕ) (new : DartMap) → IsChord w d f way new → IsTied w → IsHook w d c1 c f →
    d ≢ c → HasFourCorners new 1 c1
cut_four w d c1 c f way new s tied hook dc =
    let here = hook.cutting in
    let c1d : c1 ≢ d = λ h. omega (arith, ap w.angle h, here.right, hook.left) in
    let c1f : c1 ≢ f = λ h. omega (arith, ap w.angle h, here.straight, hook.left) in
    let cd : c ≢ d = λ h. dc (sym h) in
    let cf : c ≢ f = λ h. omega (arith, ap w.angle h, here.straight, here.left) in
    let f_one : new.angle f ≡ 1 = omega (arith, s.angle_f, here.straight) in
    record {
      second = c;
      third = f;
      fourth = w.darts + 1;
      to_second = chord_stretch w d c f way new s tied here hook.to_second.places c1 c hook.c1_in c1d hook.apart c1f cd hook.to_second.stretch;
      to_third = stretch_direct new c f (s.next_other c here.c_in cd cf ∙ here.behind) (λ h. omega (arith, f_one, h));
      to_fourth = stretch_direct new f (w.darts + 1) s.next_f (λ h. omega (arith, s.angle_back, h));
      back = chord_stretch_back w d c f way new s tied here hook.to_first.places c1 c1d dc hook.to_first.stretch;
      angle_first = s.angle_other c1 hook.c1_in c1d c1f ∙ hook.left;
      angle_second = s.angle_other c here.c_in cd cf ∙ here.left;
      angle_third = f_one;
      angle_fourth = s.angle_back;
    }

-- a face of four can be read from its second corner on
abbrev pub four_turned : (w : DartMap) (g a : ℕ) (four : HasFourCorners w g a) → HasFourCorners w g four.second
four_turned w g a four = record {
  second = four.third;
  third = four.fourth;
  fourth = a;
  to_second = four.to_third;
  to_third = four.to_fourth;
  to_fourth = four.back;
  back = four.to_second;
  angle_first = four.angle_second;
  angle_second = four.angle_third;
  angle_third = four.angle_fourth;
  angle_fourth = four.angle_first;
}

-- the corners of a box are not the cut's
pub box_clear : (w : DartMap) (d c1 c f a : ℕ) → IsTied w → IsHook w d c1 c f → a < w.darts → HasFourCorners w 1 a → (a ≢ d) × (a ≢ c)
box_clear w d c1 c f a tied hook l four =
    let l2 : four.second < w.darts = Stretches-inside w a four.second tied l four.to_second in
    let l3 : four.third < w.darts = Stretches-inside w four.second four.third tied l2 four.to_third in
    let l4 : four.fourth < w.darts = Stretches-inside w four.third four.fourth tied l3 four.to_fourth in (
      λ h. omega (arith, ap w.angle h, four.angle_first, hook.cutting.right),
      λ h.
          let to_c : Stretches w four.fourth c = subst (λ (b : ℕ). Stretches w four.fourth b) h four.back in
          let is_c1 : four.fourth ≡ c1 = Stretches-from_one w four.fourth c1 c tied l4 hook.c1_in
          (λ e. omega (arith, four.angle_fourth, e)) (λ e. omega (arith, hook.left, e)) to_c hook.to_second in
          let to_c1 : Stretches w four.third c1 = subst (λ (b : ℕ). Stretches w four.third b) is_c1 four.to_fourth in
          let is_d : four.third ≡ d = Stretches-from_one w four.third d c1 tied l3 hook.cutting.d_in
          (λ e. omega (arith, four.angle_third, e)) (λ e. omega (arith, hook.cutting.right, e)) to_c1 hook.to_first in
          omega (arith, ap w.angle is_d, four.angle_third, hook.cutting.right),
    )

-- the corners of a face of four rights are not the cut's
pub surround_clear : (w : DartMap) (d c1 c f a : ℕ) → IsHook w d c1 c f → HasFourCorners w 3 a → (a ≢ d) × (a ≢ c)
surround_clear w d c1 c f a hook four = (
  λ h.
      let from_d : Stretches w d four.second = subst (λ (b : ℕ). Stretches w b four.second) h four.to_second in
      let is_c1 : four.second ≡ c1 = Stretches-one w d four.second c1 from_d hook.to_first in
      omega (arith, ap w.angle is_c1, four.angle_second, hook.left),
  λ h. omega (arith, ap w.angle h, four.angle_first, hook.cutting.left),
)

pub chord_four : (w : DartMap) (d c f way g a : ℕ) (new : DartMap) → IsChord w d f way new → IsTied w → IsCutting w d c f →
    a < w.darts → g ≢ 2 → (four : HasFourCorners w g a) → (a ≢ d) × (a ≢ c) → (four.second ≢ d) × (four.second ≢ c) →
    (four.third ≢ d) × (four.third ≢ c) → (four.fourth ≢ d) × (four.fourth ≢ c) → HasFourCorners new g a
chord_four w d c f way g a new s tied here l turns four clear1 clear2 clear3 clear4 =
    let l2 : four.second < w.darts = Stretches-inside w a four.second tied l four.to_second in
    let l3 : four.third < w.darts = Stretches-inside w four.second four.third tied l2 four.to_third in
    let l4 : four.fourth < w.darts = Stretches-inside w four.third four.fourth tied l3 four.to_fourth in
    let c_1 : IsCorner w a = λ h. turns (sym four.angle_first ∙ h) in
    let c_2 : IsCorner w four.second = λ h. turns (sym four.angle_second ∙ h) in
    let c_3 : IsCorner w four.third = λ h. turns (sym four.angle_third ∙ h) in
    let c_4 : IsCorner w four.fourth = λ h. turns (sym four.angle_fourth ∙ h) in
    record {
      second = four.second;
      third = four.third;
      fourth = four.fourth;
      to_second = chord_stretches w d c f way a four.second new s tied here l c_1 clear1.0 clear1.1 clear2.0 four.to_second;
      to_third = chord_stretches w d c f way four.second four.third new s tied here l2 c_2 clear2.0 clear2.1 clear3.0 four.to_third;
      to_fourth = chord_stretches w d c f way four.third four.fourth new s tied here l3 c_3 clear3.0 clear3.1 clear4.0 four.to_fourth;
      back = chord_stretches w d c f way four.fourth a new s tied here l4 c_4 clear4.0 clear4.1 clear1.0 four.back;
      angle_first = s.angle_other a l clear1.0 (corner_not_f w d c f a here c_1) ∙ four.angle_first;
      angle_second = s.angle_other four.second l2 clear2.0 (corner_not_f w d c f four.second here c_2) ∙ four.angle_second;
      angle_third = s.angle_other four.third l3 clear3.0 (corner_not_f w d c f four.third here c_3) ∙ four.angle_third;
      angle_fourth = s.angle_other four.fourth l4 clear4.0 (corner_not_f w d c f four.fourth here c_4) ∙ four.angle_fourth;
    }

-- a box stays one
pub cut_box : (w : DartMap) (d c1 c f way a : ℕ) (new : DartMap) → IsChord w d f way new → IsTied w → IsHook w d c1 c f →
    a < w.darts → HasFourCorners w 1 a → HasFourCorners new 1 a
cut_box w d c1 c f way a new s tied hook l four =
    let l2 : four.second < w.darts = Stretches-inside w a four.second tied l four.to_second in
    let l3 : four.third < w.darts = Stretches-inside w four.second four.third tied l2 four.to_third in
    let l4 : four.fourth < w.darts = Stretches-inside w four.third four.fourth tied l3 four.to_fourth in
    let two = four_turned w 1 a four in
    let three = four_turned w 1 four.second two in
    let last = four_turned w 1 four.third three in
    chord_four w d c f way 1 a new s tied hook.cutting l (λ h. omega (arith, h)) four
    (box_clear w d c1 c f a tied hook l four) (box_clear w d c1 c f four.second tied hook l2 two)
    (box_clear w d c1 c f four.third tied hook l3 three) (box_clear w d c1 c f four.fourth tied hook l4 last)

-- the outside of the rectangle stays one where its corners are not the cut's
pub chord_outside : (w : DartMap) (o d c f way a : ℕ) (new : DartMap) → IsChord w d f way new → IsTied w → IsCutting w d c f →
    a < w.darts → (outside : IsOutside w o a) → (a ≢ d) × (a ≢ c) → (outside.four.second ≢ d) × (outside.four.second ≢ c) →
    (outside.four.third ≢ d) × (outside.four.third ≢ c) → (outside.four.fourth ≢ d) × (outside.four.fourth ≢ c) → IsOutside new o a
unfolding chord_four
chord_outside w o d c f way a new s tied here l outside clear1 clear2 clear3 clear4 = record {
  four = chord_four w d c f way 3 a new s tied here l (λ h. omega (arith, h)) outside.four clear1 clear2 clear3 clear4;
  holds = outside.holds;
}

pub cut_outside : (w : DartMap) (o d c1 c f way a : ℕ) (new : DartMap) → IsChord w d f way new → IsTied w → IsHook w d c1 c f →
    a < w.darts → IsOutside w o a → IsOutside new o a
cut_outside w o d c1 c f way a new s tied hook l outside =
    let four = outside.four in
    let two = four_turned w 3 a four in
    let three = four_turned w 3 four.second two in
    let last = four_turned w 3 four.third three in
    chord_outside w o d c f way a new s tied hook.cutting l outside
    (surround_clear w d c1 c f a hook four) (surround_clear w d c1 c f four.second hook two)
    (surround_clear w d c1 c f four.third hook three) (surround_clear w d c1 c f four.fourth hook last)

-- the four corners of what is cut off
pub cut_boxes : (w : DartMap) (d c1 c f way : ℕ) (new : DartMap) → IsChord w d f way new → IsTied w → IsHook w d c1 c f →
    d ≢ c → HasFourCorners new 1 c1 × HasFourCorners new 1 c × HasFourCorners new 1 f × HasFourCorners new 1 (w.darts + 1)
unfolding cut_four
cut_boxes w d c1 c f way new s tied hook dc =
    let box1 : HasFourCorners new 1 c1 = cut_four w d c1 c f way new s tied hook dc in
    let box2 : HasFourCorners new 1 c = four_turned new 1 c1 box1 in
    let box3 : HasFourCorners new 1 f = four_turned new 1 c box2 in
    let box4 : HasFourCorners new 1 (w.darts + 1) = four_turned new 1 f box3 in
    (box1, box2, box3, box4)
