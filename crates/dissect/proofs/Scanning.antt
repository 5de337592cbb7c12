-- The steps of cutting a face.
use Rattle.std.proofs.Common.{◌≡◌, ◌≢◌, ℕ, zero, suc, ◌+◌, ◌-◌, ◌%◌, ◌<◌, ◌≤◌, ◌∙◌, List, [], ◌∷◌, ◌++◌, length, append_assoc, map, arith, subst, sym, ap, refl, inl, inr}
use Rattle.std.proofs.lemmas.Bool.{cases_eq}
use Rattle.common.specs.Sums.{sum_below}
use Rattle.common.proofs.Sums.{sum_below-more, sum_below-changed, sum_below-member}
use Rattle.dissect.specs.Turning.{total, Rising, Hopeful}
use Rattle.dissect.specs.DartMaps.{DartMap, IsTied, IsSubdivided, IsChord, HasChordAngles, IsSound, IsCut, AreOfOneFace, further, reflex_turns}
use Rattle.dissect.specs.Faces.{IsCorner, StretchesIn, Stretches, Trail, last_of, Ring, In, Distinct, Below, concatenated, AreWaiting}
use Rattle.dissect.specs.FaceCutting.{down, IsFaceCutting, CanCut, HasRoom}
use Rattle.dissect.proofs.Splitting.{split_tied, split_meeting, split_straight}
use Rattle.dissect.proofs.Chords.{chord_tied, chord_meeting, chord_straight}
use Rattle.dissect.proofs.Stretching.{stretch_level}
use Rattle.dissect.proofs.Rings.{trail_rest}
use Rattle.dissect.proofs.LeftTurns.{hopeful_reads, hopeful_cut_straight, hopeful_cut_turning}
use Rattle.dissect.proofs.Listing.{in_right, in_below, below_left, below_right, distinct_left, distinct_right, distinct_apart}
use Rattle.dissect.proofs.Waiting.{IsBite, kept_waiting, gone_waiting, bite_angle, bite_angle_d}

-- along a stretch directions stay
pub stretch_direction : (w : DartMap) → IsSound w → (k a b : ℕ) → a < w.darts → StretchesIn w k a b →
    (w.direction b + w.angle a) % 4 ≡ (w.direction a + 2) % 4
stretch_direction w sound k a b l r =
    let next_in : w.next a < w.darts = sound.tied.next_in a l in
    let across = sound.straight (w.next a) next_in in
    let turns = sound.meeting.turns a l in
    let q1 = sound.meeting.quarter (w.next a) next_in in
    let q2 = sound.meeting.quarter a l in
    let step : (w.direction (w.next a) + w.angle a) % 4 ≡ (w.direction a + 2) % 4 = omega (arith, across, turns, q1, q2) in
    go w sound k a b l r step
  where
    go : (w : DartMap) → IsSound w → (k a b : ℕ) → a < w.darts → StretchesIn w k a b →
        (w.direction (w.next a) + w.angle a) % 4 ≡ (w.direction a + 2) % 4 →
        (w.direction b + w.angle a) % 4 ≡ (w.direction a + 2) % 4
    go w sound zero a b l r step = subst (λ (m : ℕ). (w.direction m + w.angle a) % 4 ≡ (w.direction a + 2) % 4) r.0 step
    go w sound (suc k) a b l r step =
        let m : ℕ = w.next a in
        let m_in : m < w.darts = sound.tied.next_in a l in
        let n_in : w.next m < w.darts = sound.tied.next_in m m_in in
        let onward : (w.direction (w.next m) + w.angle m) % 4 ≡ (w.direction m + 2) % 4 =
        omega (arith, sound.straight (w.next m) n_in, sound.meeting.turns m m_in, sound.meeting.quarter (w.next m) n_in, sound.meeting.quarter m m_in) in
        let rest : (w.direction b + w.angle m) % 4 ≡ (w.direction m + 2) % 4 = go w sound k m b m_in r.1 onward in
        omega (arith, rest, r.0, step)

-- a right and two lefts after it lead back along the right's way
pub hook_faces : (w : DartMap) (d c1 c : ℕ) → IsSound w → d < w.darts → c1 < w.darts → c < w.darts → Stretches w d c1 → Stretches w c1 c →
    w.angle c1 ≡ 1 → w.angle c ≡ 1 → (w.direction (w.next c) + w.angle d) % 4 ≡ w.direction d
hook_faces w d c1 c sound d_in c1_in c_in to_first to_second left_first left =
    let one = stretch_direction w sound to_first.places d c1 d_in to_first.stretch in
    let two = stretch_direction w sound to_second.places c1 c c1_in to_second.stretch in
    let n_in : w.next c < w.darts = sound.tied.next_in c c_in in
    let three : (w.direction (w.next c) + w.angle c) % 4 ≡ (w.direction c + 2) % 4 =
    omega (arith, sound.straight (w.next c) n_in, sound.meeting.turns c c_in, sound.meeting.quarter (w.next c) n_in, sound.meeting.quarter c c_in) in
    omega (
      arith,
      one,
      two,
      three,
      left_first,
      left,
      sound.meeting.quarter d d_in,
      sound.meeting.quarter c c_in,
      sound.meeting.quarter c1 c1_in,
      sound.meeting.quarter (w.next c) n_in,
    )

-- after the subdivision, the chord fits
pub chord_fits : (w : DartMap) (d c way : ℕ) (mid : DartMap) → IsSound w → CanCut w d c → way ≡ (w.direction d + 7 - w.angle d) % 4 →
    IsSubdivided w (w.next c) (w.direction (w.next c)) 2 mid → HasChordAngles mid d w.darts way
chord_fits w d c way mid sound can way_is s =
    let most : w.angle d ≤ 4 = sound.meeting.most d can.d_in in
    let q : w.direction d < 4 = sound.meeting.quarter d can.d_in in
    let qe : w.direction (w.next c) < 4 = sound.meeting.quarter (w.next c) (sound.tied.next_in c can.c_in) in
    record {
      d_in = omega (arith, s.darts, can.d_in);
      f_in = omega (arith, s.darts);
      apart = λ h. omega (arith, h, can.d_in);
      direction_quarter = omega (arith, way_is);
      from_d = omega (arith, way_is, s.angle_old d can.d_in, s.direction_old d can.d_in, most, q);
      to_f = omega (arith, way_is, s.angle_first, s.direction_first, can.faces, most, q, qe);
      divides_d = omega (arith, s.angle_old d can.d_in, can.right);
      divides_f = omega (arith, s.angle_first);
    }

pub cut_sound : (w : DartMap) (d e way : ℕ) (new : DartMap) → IsSound w → IsCut w d e way new → IsSound new
cut_sound w d e way new sound cut =
    let l1 = split_tied w e (w.direction e) 2 cut.middle sound.tied cut.e_in cut.subdivide in
    let m1 = split_meeting w e (w.direction e) 2 cut.middle sound.tied sound.meeting cut.e_in (sound.meeting.quarter e cut.e_in)
    (omega arith) (omega arith) cut.subdivide in
    let s1 = split_straight w e cut.middle sound.tied sound.meeting cut.e_in sound.straight cut.subdivide in
    record {
      tied = chord_tied cut.middle d w.darts way new l1 cut.fits cut.chord;
      meeting = chord_meeting cut.middle d w.darts way new l1 m1 cut.fits cut.chord;
      straight = chord_straight cut.middle d w.darts way new l1 s1 cut.fits cut.chord;
    }

-- a cut adds a vertex and four darts, and takes one from what goes beyond straight
pub cut_reflex_turns : (w : DartMap) (d e way : ℕ) (new : DartMap) → IsCut w d e way new → reflex_turns new + 1 ≡ reflex_turns w
cut_reflex_turns w d e way new cut =
    let s = cut.subdivide in
    let t = cut.chord in
    let n : ℕ = w.darts in
    let F : ℕ → ℕ = λ a. new.angle a - 2 in
    let G : ℕ → ℕ = λ a. w.angle a - 2 in
    let four : new.darts ≡ n + 1 + 1 + 1 + 1 = omega (arith, t.darts, s.darts) in
    let all : sum_below new.darts F ≡ sum_below (n + 1 + 1 + 1 + 1) F = ap (λ (k : ℕ). sum_below k F) four in
    let p4 = sum_below-more (n + 1 + 1 + 1) F in
    let p3 = sum_below-more (n + 1 + 1) F in
    let p2 = sum_below-more (n + 1) F in
    let p1 = sum_below-more n F in
    let f_zero : new.angle n ≡ 1 = omega (arith, t.angle_f, s.angle_first) in
    let g_zero : new.angle (n + 1) ≡ 2 =
    t.angle_other (n + 1) (omega (arith, s.darts)) (λ h. omega (arith, h, cut.d_in)) (λ h. omega (arith, h)) ∙ s.angle_second in
    let x_zero : new.angle (n + 1 + 1) ≡ 1 = ap new.angle (omega (arith, s.darts)) ∙ t.angle_there in
    let y_zero : new.angle (n + 1 + 1 + 1) ≡ 1 = ap new.angle (omega (arith, s.darts)) ∙ t.angle_back in
    let same : (a : ℕ) → a < n → (a ≡ d → ⊥) → F a ≡ G a = λ a l nd.
    ap (λ (k : ℕ). k - 2) (t.angle_other a (omega (arith, s.darts, l)) nd (λ h. omega (arith, h, l)) ∙ s.angle_old a l) in
    let changed : sum_below n F + G d ≡ sum_below n G + F d = sum_below-changed n d F G cut.d_in same in
    omega (arith, all, p4, p3, p2, p1, f_zero, g_zero, x_zero, y_zero, changed, t.angle_d, s.angle_old d cut.d_in, cut.right)

pub cut_room : (w : DartMap) (d e way room : ℕ) (new : DartMap) → IsCut w d e way new → HasRoom w room → HasRoom new room
cut_room w d e way room new cut has =
    omega (arith, cut_reflex_turns w d e way new cut, cut.chord.darts, cut.subdivide.darts, has)

-- where a right is left, there is room for a cut
pub right_room : (w : DartMap) (d room : ℕ) → d < w.darts → 2 < w.angle d → HasRoom w room → w.darts + 4 ≤ room
right_room w d room d_in right has =
    omega (arith, sum_below-member w.darts d (λ a. w.angle a - 2) d_in, right, has)

pub down_append : (st rest : List ℕ) → down st rest ≡ down st [] ++ rest
down_append [] rest = refl
down_append (c ∷ st) rest =
    down_append st (c ∷ rest) ∙ sym (append_assoc (down st []) (c ∷ []) rest)
    ∙ ap (λ (zs : List ℕ). zs ++ rest) (sym (down_append st (c ∷ [])))

-- reading one more corner
pub scan_reads : (w0 w : DartMap) (face : List ℕ) (c : ℕ) (st rest : List ℕ) → IsFaceCutting w0 face w st (c ∷ rest) →
    IsFaceCutting w0 face w (c ∷ st) rest
scan_reads w0 w face c st rest face_cutting = record {
  sound = face_cutting.sound;
  cut_up = face_cutting.cut_up;
  waiting = face_cutting.waiting;
  hopeful = subst (λ (k : ℕ). Hopeful (total (map w.angle rest)) k (map w.angle (c ∷ st))) (length-map_angle w rest)
      (hopeful_reads (w.angle c) (map w.angle rest) (map w.angle st)
      (subst (λ (k : ℕ). Hopeful (total (map w.angle (c ∷ rest))) k (map w.angle st)) (sym (length-map_angle w (c ∷ rest))) face_cutting.hopeful)
      face_cutting.rising);
  rising = face_cutting.rising.1;
}
  where
    length-map_angle : (w : DartMap) (xs : List ℕ) → length (map w.angle xs) ≡ length xs
    length-map_angle w [] = refl
    length-map_angle w (x ∷ xs) = ap suc (length-map_angle w xs)

pub ring_stretches : (w : DartMap) (before : List ℕ) (d c1 c : ℕ) (rest : List ℕ) → Ring w (before ++ (d ∷ c1 ∷ c ∷ rest)) →
    Stretches w d c1 × Stretches w c1 c
ring_stretches w [] d c1 c rest ring = (ring.1.0, ring.1.1.0)
ring_stretches w (b ∷ bs) d c1 c rest ring =
    let trail : Trail w (last_of (last_of b (bs ++ (d ∷ c1 ∷ c ∷ rest))) (b ∷ bs)) (d ∷ c1 ∷ c ∷ rest) =
    trail_rest w (last_of b (bs ++ (d ∷ c1 ∷ c ∷ rest))) (b ∷ bs) (d ∷ c1 ∷ c ∷ rest) ring in
    (trail.1.0, trail.1.1.0)

-- the three uppermost corners of the stack, where they are a right below two lefts
pub scan_bites : (w0 : DartMap) (face : List ℕ) (w : DartMap) (d c1 c way : ℕ) (st rest : List ℕ) (o : ℕ) (rs : List (List ℕ)) (new : DartMap) →
    IsFaceCutting w0 face w (c ∷ c1 ∷ d ∷ st) rest → AreWaiting w0 o (face ∷ rs) → w.angle c1 ≡ 1 → w.angle c ≡ 1 →
    IsCut w d (w.next c) way new → IsBite w d c1 c (w.next c) way new
scan_bites w0 face w d c1 c way st rest o rs new face_cutting wait left_first left cut =
    let waiting = face_cutting.waiting o rs wait in
    let same : down st (d ∷ c1 ∷ c ∷ rest) ≡ down st [] ++ (d ∷ c1 ∷ c ∷ rest) = down_append st (d ∷ c1 ∷ c ∷ rest) in
    let stretches = ring_stretches w (down st []) d c1 c rest (subst (Ring w) same waiting.rings.0.0) in
    let below : Below w.darts (down st [] ++ (d ∷ c1 ∷ c ∷ rest)) =
    subst (Below w.darts) same (below_left w.darts (down st (d ∷ c1 ∷ c ∷ rest)) (concatenated rs) waiting.below) in
    let distinct : Distinct (down st [] ++ (d ∷ c1 ∷ c ∷ rest)) =
    subst Distinct same (distinct_left (down st (d ∷ c1 ∷ c ∷ rest)) (concatenated rs) waiting.distinct) in
    let tail = below_right w.darts (down st []) (d ∷ c1 ∷ c ∷ rest) below in
    let apart = distinct_right (down st []) (d ∷ c1 ∷ c ∷ rest) distinct in
    record {
      tied = face_cutting.sound.tied;
      cut = cut;
      c1_in = tail.1.0;
      c_in = tail.1.1.0;
      to_first = stretches.0;
      to_second = stretches.1;
      left_first = left_first;
      left = left;
      apart = λ h. apart.1.0 (inl h);
      behind = refl;
    }

-- the cut goes across one face
bite_one_face : (w : DartMap) (d c1 c way : ℕ) (new : DartMap) → IsBite w d c1 c (w.next c) way new → AreOfOneFace w d (w.next c)
bite_one_face w d c1 c way new bite g round =
    round c bite.c_in
    ∙ stretch_level w g bite.tied round bite.to_second.places c1 c bite.c1_in bite.to_second.stretch
    ∙ stretch_level w g bite.tied round bite.to_first.places d c1 bite.cut.d_in bite.to_first.stretch

-- the same three corners can be cut
pub scan_can : (w0 : DartMap) (face : List ℕ) (w : DartMap) (d c1 c : ℕ) (st rest : List ℕ) (o : ℕ) (rs : List (List ℕ)) →
    IsFaceCutting w0 face w (c ∷ c1 ∷ d ∷ st) rest → AreWaiting w0 o (face ∷ rs) → w.angle c1 ≡ 1 → w.angle c ≡ 1 → 2 < w.angle d →
    CanCut w d c
scan_can w0 face w d c1 c st rest o rs face_cutting wait left_first left right =
    let waiting = face_cutting.waiting o rs wait in
    let same : down st (d ∷ c1 ∷ c ∷ rest) ≡ down st [] ++ (d ∷ c1 ∷ c ∷ rest) = down_append st (d ∷ c1 ∷ c ∷ rest) in
    let stretches = ring_stretches w (down st []) d c1 c rest (subst (Ring w) same waiting.rings.0.0) in
    let below : Below w.darts (down st [] ++ (d ∷ c1 ∷ c ∷ rest)) =
    subst (Below w.darts) same (below_left w.darts (down st (d ∷ c1 ∷ c ∷ rest)) (concatenated rs) waiting.below) in
    let tail = below_right w.darts (down st []) (d ∷ c1 ∷ c ∷ rest) below in
    record {
      d_in = tail.0;
      c_in = tail.1.1.0;
      right = right;
      faces = hook_faces w d c1 c face_cutting.sound tail.0 tail.1.0 tail.1.1.0 stretches.0 stretches.1 left_first left;
    }

pub map_kept : (w : DartMap) (d c1 c e way : ℕ) (new : DartMap) → IsBite w d c1 c e way new → (xs : List ℕ) → Below w.darts xs →
    (In d xs → ⊥) → map new.angle xs ≡ map w.angle xs
map_kept w d c1 c e way new bite [] below out_d = refl
map_kept w d c1 c e way new bite (x ∷ xs) below out_d =
    ap (λ (k : ℕ). k ∷ map new.angle xs) (bite_angle w d c1 c e way x new bite below.0 (λ h. out_d (inl (sym h))))
    ∙ ap (λ (zs : List ℕ). w.angle x ∷ zs) (map_kept w d c1 c e way new bite xs below.1 (λ h. out_d (inr h)))

pub in_down : (a : ℕ) (st rest : List ℕ) → In a st → In a (down st rest)
in_down a [] rest here = absurd here
in_down a (c ∷ st) rest here =
    elim here [
      | inl e ↦ subst (λ (zs : List ℕ). In a zs) (sym (down_append st (c ∷ rest))) (in_right a (down st []) (c ∷ rest) (inl e))
      | inr later ↦ in_down a st (c ∷ rest) later
    ]

pub below_down : (n : ℕ) (st rest : List ℕ) → ((a : ℕ) → In a st → a < n) → Below n st
below_down n [] rest each = tt
below_down n (c ∷ st) rest each = (each c (inl refl), below_down n st rest (λ a h. each a (inr h)))

-- what a cut keeps of angles on the stack and of those unread
pub record Kept (w new : DartMap) (d : ℕ) (st rest : List ℕ) : Type 0 where
  pub stack : map new.angle st ≡ map w.angle st
  pub unread : map new.angle rest ≡ map w.angle rest

pub scan_kept : (w0 : DartMap) (face : List ℕ) (w : DartMap) (d c1 c way : ℕ) (st rest : List ℕ) (o : ℕ) (rs : List (List ℕ)) (new : DartMap) →
    IsFaceCutting w0 face w (c ∷ c1 ∷ d ∷ st) rest → AreWaiting w0 o (face ∷ rs) → IsBite w d c1 c (w.next c) way new →
    Kept w new d st rest
scan_kept w0 face w d c1 c way st rest o rs new face_cutting wait bite =
    let waiting = face_cutting.waiting o rs wait in
    let same : down st (d ∷ c1 ∷ c ∷ rest) ≡ down st [] ++ (d ∷ c1 ∷ c ∷ rest) = down_append st (d ∷ c1 ∷ c ∷ rest) in
    let below : Below w.darts (down st [] ++ (d ∷ c1 ∷ c ∷ rest)) =
    subst (Below w.darts) same (below_left w.darts (down st (d ∷ c1 ∷ c ∷ rest)) (concatenated rs) waiting.below) in
    let distinct : Distinct (down st [] ++ (d ∷ c1 ∷ c ∷ rest)) =
    subst Distinct same (distinct_left (down st (d ∷ c1 ∷ c ∷ rest)) (concatenated rs) waiting.distinct) in
    let below_front : Below w.darts (down st []) = below_left w.darts (down st []) (d ∷ c1 ∷ c ∷ rest) below in
    let below_tail = below_right w.darts (down st []) (d ∷ c1 ∷ c ∷ rest) below in
    let after = distinct_right (down st []) (d ∷ c1 ∷ c ∷ rest) distinct in
    let out_st : In d st → ⊥ = λ h. distinct_apart d (down st []) (d ∷ c1 ∷ c ∷ rest) distinct (in_down d st [] h) (inl refl) in
    record {
      stack = map_kept w d c1 c (w.next c) way new bite st
          (below_down w.darts st [] (λ a h. in_below w.darts a (down st []) below_front (in_down a st [] h))) out_st;
      unread = map_kept w d c1 c (w.next c) way new bite rest below_tail.1.1.1 (λ h. after.0 (inr (inr h)));
    }

pub scan_cut_straight : (w0 : DartMap) (face : List ℕ) (w : DartMap) (d c1 c way : ℕ) (st rest : List ℕ) (o : ℕ) (rs : List (List ℕ)) (new : DartMap) →
    IsFaceCutting w0 face w (c ∷ c1 ∷ d ∷ st) rest → AreWaiting w0 o (face ∷ rs) → w.angle c1 ≡ 1 → w.angle c ≡ 1 →
    IsCut w d (w.next c) way new → new.angle d ≡ 2 → IsFaceCutting w0 face new ((w.darts + 2) ∷ st) rest
scan_cut_straight w0 face w d c1 c way st rest o rs new face_cutting wait left_first left cut straight =
    let bite = scan_bites w0 face w d c1 c way st rest o rs new face_cutting wait left_first left cut in
    let kept = scan_kept w0 face w d c1 c way st rest o rs new face_cutting wait bite in
    let three : w.angle d ≡ 3 = omega (arith, bite_angle_d w d c1 c (w.next c) way new bite, straight) in
    let x_one : new.angle (w.darts + 2) ≡ 1 = ap new.angle (sym cut.subdivide.darts) ∙ cut.chord.angle_there in
    let hopeful : Hopeful (total (map w.angle rest)) (length rest) (1 ∷ 1 ∷ w.angle d ∷ map w.angle st) =
    subst (λ (k : ℕ). Hopeful (total (map w.angle rest)) (length rest) (1 ∷ k ∷ w.angle d ∷ map w.angle st)) left_first
    (subst (λ (k : ℕ). Hopeful (total (map w.angle rest)) (length rest) (k ∷ w.angle c1 ∷ w.angle d ∷ map w.angle st)) left face_cutting.hopeful) in
    let after : Hopeful (total (map w.angle rest)) (length rest) (1 ∷ map w.angle st) =
    hopeful_cut_straight (total (map w.angle rest)) (length rest) (w.angle d) (map w.angle st) three hopeful in
    record {
      sound = cut_sound w d (w.next c) way new face_cutting.sound cut;
      cut_up = further w new d (w.next c) way face_cutting.cut_up cut (bite_one_face w d c1 c way new bite);
      waiting = λ o2 rs2 wait2.
          let bite2 = scan_bites w0 face w d c1 c way st rest o2 rs2 new face_cutting wait2 left_first left cut in
          subst (λ (zs : List ℕ). AreWaiting new o2 (zs ∷ rs2)) (sym (down_append st ((w.darts + 2) ∷ rest)))
          (gone_waiting w d c1 c (w.next c) way new (down st []) rest o2 rs2 bite2 straight
          (subst (λ (zs : List ℕ). AreWaiting w o2 (zs ∷ rs2)) (down_append st (d ∷ c1 ∷ c ∷ rest)) (face_cutting.waiting o2 rs2 wait2)));
      hopeful = subst (λ (k : ℕ). Hopeful (total (map new.angle rest)) (length rest) (k ∷ map new.angle st)) (sym x_one)
          (subst (λ (zs : List ℕ). Hopeful (total zs) (length rest) (1 ∷ map new.angle st)) (sym kept.unread)
          (subst (λ (zs : List ℕ). Hopeful (total (map w.angle rest)) (length rest) (1 ∷ zs)) (sym kept.stack) after));
      rising = subst Rising (sym kept.unread) face_cutting.rising;
    }

pub scan_cut_turning : (w0 : DartMap) (face : List ℕ) (w : DartMap) (d c1 c way : ℕ) (st rest : List ℕ) (o : ℕ) (rs : List (List ℕ)) (new : DartMap) →
    IsFaceCutting w0 face w (c ∷ c1 ∷ d ∷ st) rest → AreWaiting w0 o (face ∷ rs) → w.angle c1 ≡ 1 → w.angle c ≡ 1 →
    IsCut w d (w.next c) way new → IsCorner new d → IsFaceCutting w0 face new ((w.darts + 2) ∷ d ∷ st) rest
scan_cut_turning w0 face w d c1 c way st rest o rs new face_cutting wait left_first left cut corner =
    let bite = scan_bites w0 face w d c1 c way st rest o rs new face_cutting wait left_first left cut in
    let kept = scan_kept w0 face w d c1 c way st rest o rs new face_cutting wait bite in
    let less = bite_angle_d w d c1 c (w.next c) way new bite in
    let four : w.angle d ≡ 4 = pick (w.angle d) (new.angle d) less cut.right (face_cutting.sound.meeting.most d cut.d_in) corner in
    let three : new.angle d ≡ 3 = omega (arith, less, four) in
    let x_one : new.angle (w.darts + 2) ≡ 1 = ap new.angle (sym cut.subdivide.darts) ∙ cut.chord.angle_there in
    let hopeful : Hopeful (total (map w.angle rest)) (length rest) (1 ∷ 1 ∷ w.angle d ∷ map w.angle st) =
    subst (λ (k : ℕ). Hopeful (total (map w.angle rest)) (length rest) (1 ∷ k ∷ w.angle d ∷ map w.angle st)) left_first
    (subst (λ (k : ℕ). Hopeful (total (map w.angle rest)) (length rest) (k ∷ w.angle c1 ∷ w.angle d ∷ map w.angle st)) left face_cutting.hopeful) in
    let after : Hopeful (total (map w.angle rest)) (length rest) (1 ∷ new.angle d ∷ map w.angle st) =
    hopeful_cut_turning (total (map w.angle rest)) (length rest) (w.angle d) (new.angle d) (map w.angle st) four three hopeful in
    record {
      sound = cut_sound w d (w.next c) way new face_cutting.sound cut;
      cut_up = further w new d (w.next c) way face_cutting.cut_up cut (bite_one_face w d c1 c way new bite);
      waiting = λ o2 rs2 wait2.
          let bite2 = scan_bites w0 face w d c1 c way st rest o2 rs2 new face_cutting wait2 left_first left cut in
          subst (λ (zs : List ℕ). AreWaiting new o2 (zs ∷ rs2)) (sym (down_append st (d ∷ (w.darts + 2) ∷ rest)))
          (kept_waiting w d c1 c (w.next c) way new (down st []) rest o2 rs2 bite2 corner
          (subst (λ (zs : List ℕ). AreWaiting w o2 (zs ∷ rs2)) (down_append st (d ∷ c1 ∷ c ∷ rest)) (face_cutting.waiting o2 rs2 wait2)));
      hopeful = subst (λ (k : ℕ). Hopeful (total (map new.angle rest)) (length rest) (k ∷ new.angle d ∷ map new.angle st)) (sym x_one)
          (subst (λ (zs : List ℕ). Hopeful (total zs) (length rest) (1 ∷ new.angle d ∷ map new.angle st)) (sym kept.unread)
          (subst (λ (zs : List ℕ). Hopeful (total (map w.angle rest)) (length rest) (1 ∷ new.angle d ∷ zs)) (sym kept.stack) after));
      rising = subst Rising (sym kept.unread) face_cutting.rising;
    }
  where
    pick : (a b : ℕ) → b + 1 ≡ a → 2 < a → a ≤ 4 → b ≢ 2 → a ≡ 4
    pick a b less right most other =
        elim (cases_eq a 3) [ inl three ↦ absurd (other (omega (arith, less, three))) | inr not_three ↦ omega arith ]

-- what the code reads before a cut, and what it then may rest on
pub record IsRead (w : DartMap) (d c e facing one two : ℕ) : Type 0 where
  pub e_is : e ≡ w.next c
  pub facing_is : facing ≡ w.direction e
  pub direction_is : one ≡ w.direction d
  pub angle_is : two ≡ w.angle d

pub read_split : (w : DartMap) (d c e facing one two : ℕ) (mid : DartMap) → IsRead w d c e facing one two → IsSubdivided w e facing 2 mid →
    IsSubdivided w (w.next c) (w.direction (w.next c)) 2 mid
read_split w d c e facing one two mid read s =
    subst (λ (k : ℕ). IsSubdivided w k (w.direction k) 2 mid) read.e_is
    (subst (λ (k : ℕ). IsSubdivided w e k 2 mid) read.facing_is s)

pub read_fits : (w : DartMap) (d c e facing one two : ℕ) (mid : DartMap) → IsRead w d c e facing one two → IsSound w → CanCut w d c →
    IsSubdivided w e facing 2 mid → HasChordAngles mid d w.darts ((one + 7 - two) % 4)
read_fits w d c e facing one two mid read sound can s =
    chord_fits w d c ((one + 7 - two) % 4) mid sound can
    (ap (λ (k : ℕ). (k + 7 - two) % 4) read.direction_is ∙ ap (λ (k : ℕ). (w.direction d + 7 - k) % 4) read.angle_is)
    (read_split w d c e facing one two mid read s)

pub read_tied : (w : DartMap) (d c e facing one two : ℕ) (mid : DartMap) → IsRead w d c e facing one two → IsSound w → CanCut w d c →
    IsSubdivided w e facing 2 mid → IsTied mid
read_tied w d c e facing one two mid read sound can s =
    split_tied w (w.next c) (w.direction (w.next c)) 2 mid sound.tied (sound.tied.next_in c can.c_in)
    (read_split w d c e facing one two mid read s)

pub read_cut : (w : DartMap) (d c e facing one two : ℕ) (mid new : DartMap) → IsRead w d c e facing one two → IsSound w → CanCut w d c →
    IsSubdivided w e facing 2 mid → IsChord mid d w.darts ((one + 7 - two) % 4) new →
    IsCut w d (w.next c) ((one + 7 - two) % 4) new
read_cut w d c e facing one two mid new read sound can s chord = record {
  middle = mid;
  e_in = sound.tied.next_in c can.c_in;
  d_in = can.d_in;
  right = can.right;
  subdivide = read_split w d c e facing one two mid read s;
  fits = read_fits w d c e facing one two mid read sound can s;
  chord = chord;
}
