-- The whole: the map in its rectangle, connected and cut.
use Rattle.std.proofs.Common.{◌≡◌, ◌≢◌, ℕ, ◌+◌, ◌-◌, ◌*◌, ◌%◌, ◌<◌, ◌≤◌, ◌∙◌, List, [], ◌∷◌, ◌++◌, Bool, true, false, cond, eqb, length, map, sum, take, drop, length-append, arith, subst, sym, ap, refl, inl, inr}
use Rattle.std.specs.List.{list_any}
use Rattle.std.proofs.lemmas.List.Sums.{sum_by-cons}
use Rattle.common.specs.Sums.{sum_below}
use Rattle.common.proofs.Sums.{sum_below-le}
use Rattle.dissect.specs.declared.table.TheConstants.{RECTANGLE_ROOM}
use Rattle.dissect.specs.DartMaps.{DartMap, IsTied, IsSound, IsCut, IsCutUp, reflex_turns}
use Rattle.dissect.specs.Surrounds.{IsSurrounded, IsEnclosed}
use Rattle.dissect.specs.FaceNumbers.{AreFaceNumbers, HasTurns}
use Rattle.dissect.specs.FaceCutting.{CanCut, HasRoom}
use Rattle.dissect.specs.Turning.{total}
use Rattle.dissect.specs.Faces.{Stretches, HasFourCorners, In, Distinct, Below, concatenated, AreWaiting, ReachesCorners, slices_of}
use Rattle.dissect.proofs.Stretching.{stretch_direct, Stretches-inside}
use Rattle.dissect.proofs.Scanning.{stretch_direction, cut_sound, cut_reflex_turns}
use Rattle.dissect.proofs.Reaching.{cut_reaches, cut_up_sound, cut_up_reaches, cut_vertices, cut_up_vertices}
use Rattle.dissect.specs.Listed.{AreFlat, AreMergedFaces, AreListed, detour}
use Rattle.dissect.proofs.Orbits.{distinct_few}
use Rattle.dissect.proofs.Turns.{listed_sum, turns_reach}
use Rattle.dissect.proofs.Sounding.{by_side, surround_tied, surround_sound, surround_reflex_turns}
use Rattle.dissect.proofs.ConnectedFaces.{surround_stretch, IsConnecting}
use Rattle.dissect.proofs.Merging.{bridge_waits}

take_own : (r s : List ℕ) → take (length r) (r ++ s) ≡ r
take_own [] s = refl
take_own (x ∷ r) s = ap (λ (xs : List ℕ). x ∷ xs) (take_own r s)

drop_own : (r s : List ℕ) → drop (length r) (r ++ s) ≡ s
drop_own [] s = refl
drop_own (x ∷ r) s = drop_own r s

-- flat lists are cut up into the faces that they hold
pub pieces_of_flat : (faces : List (List ℕ)) → slices_of (concatenated faces) (map (λ (r : List ℕ). length r) faces) ≡ faces
pieces_of_flat [] = refl
pieces_of_flat (r ∷ rs) =
    let lengths : List ℕ = map (λ (q : List ℕ). length q) rs in
    ap (λ (xs : List ℕ). xs ∷ slices_of (drop (length r) (r ++ concatenated rs)) lengths) (take_own r (concatenated rs))
    ∙ ap (λ (xs : List ℕ). r ∷ slices_of xs lengths) (drop_own r (concatenated rs))
    ∙ ap (λ (qs : List (List ℕ)). r ∷ qs) (pieces_of_flat rs)

pub sum_flat : (faces : List (List ℕ)) → sum (map (λ (r : List ℕ). length r) faces) ≡ length (concatenated faces)
sum_flat [] = refl
sum_flat (r ∷ rs) = omega (arith, sum_by-cons (λ (k : ℕ). k) (length r) (map (λ (q : List ℕ). length q) rs), sum_flat rs, length-append r (concatenated rs))

-- what a table of flat lists says of the faces that wait
pub record AreReady (w : DartMap) (o : ℕ) (corners counts : List ℕ) : Type 0 where
  pub waiting : AreWaiting w o (slices_of corners counts)
  pub all : sum counts ≡ length corners
  pub few : length corners ≤ w.darts

pub flat_ready : (w : DartMap) (o : ℕ) (corners counts : List ℕ) (faces : List (List ℕ)) → AreFlat corners counts faces → AreWaiting w o faces →
    AreReady w o corners counts
flat_ready w o corners counts faces flat waiting =
    let few : length (concatenated faces) ≤ w.darts = distinct_few w.darts (concatenated faces) waiting.distinct waiting.below in
    let lengths : List ℕ = map (λ (r : List ℕ). length r) faces in
    let ready : AreReady w o (concatenated faces) lengths = record {
      waiting = subst (AreWaiting w o) (sym (pieces_of_flat faces)) waiting;
      all = sum_flat faces;
      few = few;
    } in
    subst (λ (xs : List ℕ). AreReady w o xs counts) (sym flat.flat)
    (subst (λ (ns : List ℕ). AreReady w o (concatenated faces) ns) (sym flat.lengths) ready)

-- a face of four rights has four different corners
four_distinct : (w : DartMap) (o : ℕ) → IsSound w → o < w.darts → (four : HasFourCorners w 3 o) →
    Distinct (o ∷ four.second ∷ four.third ∷ four.fourth ∷ []) × Below w.darts (o ∷ four.second ∷ four.third ∷ four.fourth ∷ [])
four_distinct w o sound l four =
    let l2 : four.second < w.darts = Stretches-inside w o four.second sound.tied l four.to_second in
    let l3 : four.third < w.darts = Stretches-inside w four.second four.third sound.tied l2 four.to_third in
    let l4 : four.fourth < w.darts = Stretches-inside w four.third four.fourth sound.tied l3 four.to_fourth in
    let d1 = stretch_direction w sound four.to_second.places o four.second l four.to_second.stretch in
    let d2 = stretch_direction w sound four.to_third.places four.second four.third l2 four.to_third.stretch in
    let d3 = stretch_direction w sound four.to_fourth.places four.third four.fourth l3 four.to_fourth.stretch in
    let q1 = sound.meeting.quarter o l in
    let q2 = sound.meeting.quarter four.second l2 in
    let q3 = sound.meeting.quarter four.third l3 in
    let q4 = sound.meeting.quarter four.fourth l4 in
    let e2 : w.direction four.second ≡ (w.direction o + 3) % 4 = omega (arith, d1, q1, q2, four.angle_first) in
    let e3 : w.direction four.third ≡ (w.direction o + 2) % 4 = omega (arith, d2, e2, q1, q3, four.angle_second) in
    let e4 : w.direction four.fourth ≡ (w.direction o + 1) % 4 = omega (arith, d3, e3, q1, q4, four.angle_third) in
    let n12 : o ≢ four.second = λ h. omega (arith, ap w.direction h, e2, q1) in
    let n13 : o ≢ four.third = λ h. omega (arith, ap w.direction h, e3, q1) in
    let n14 : o ≢ four.fourth = λ h. omega (arith, ap w.direction h, e4, q1) in
    let n23 : four.second ≢ four.third = λ h. omega (arith, ap w.direction h, e2, e3, q1) in
    let n24 : four.second ≢ four.fourth = λ h. omega (arith, ap w.direction h, e2, e4, q1) in
    let n34 : four.third ≢ four.fourth = λ h. omega (arith, ap w.direction h, e3, e4, q1) in (
      (
        (λ here. out3 o four.second four.third four.fourth n12 n13 n14 here),
        ((λ here. out2 four.second four.third four.fourth n23 n24 here), ((λ here. out1 four.third four.fourth n34 here), ((λ here. here), tt))),
      ),
      (l, (l2, (l3, (l4, tt)))),
    )
  where
    out1 : (a b : ℕ) → a ≢ b → In a (b ∷ []) → ⊥
    out1 a b ne here = elim here [ inl e ↦ ne e | inr none ↦ none ]

    out2 : (a b c : ℕ) → a ≢ b → a ≢ c → In a (b ∷ c ∷ []) → ⊥
    out2 a b c nb nc here = elim here [ inl e ↦ nb e | inr later ↦ out1 a c nc later ]

    out3 : (a b c d : ℕ) → a ≢ b → a ≢ c → a ≢ d → In a (b ∷ c ∷ d ∷ []) → ⊥
    out3 a b c d nb nc nd here = elim here [ inl e ↦ nb e | inr later ↦ out2 a c d nc nd later ]

pub four_reflex_turns : (w : DartMap) (o : ℕ) → IsSound w → o < w.darts → HasFourCorners w 3 o → 4 ≤ reflex_turns w
four_reflex_turns w o sound l four =
    let xs : List ℕ = o ∷ four.second ∷ four.third ∷ four.fourth ∷ [] in
    let f : ℕ → ℕ = λ a. w.angle a - 2 in
    let apart = four_distinct w o sound l four in
    let listed : sum_below w.darts (λ x. cond (list_any (eqb x) xs) (f x) 0) ≡ total (map f xs) = listed_sum w.darts f xs apart.0 apart.1 in
    let less : sum_below w.darts (λ x. cond (list_any (eqb x) xs) (f x) 0) ≤ reflex_turns w =
    sum_below-le w.darts (λ x. cond (list_any (eqb x) xs) (f x) 0) f (λ x x_in. at_most (list_any (eqb x) xs) (f x)) in
    omega (arith, listed, less, four.angle_first, four.angle_second, four.angle_third, four.angle_fourth)
  where
    at_most : (b : Bool) (k : ℕ) → cond b k 0 ≤ k
    at_most true k = omega arith
    at_most false k = omega arith

pub surround_reaches : (w new : DartMap) → IsSurrounded w new → IsTied w → ReachesCorners w → ReachesCorners new
surround_reaches w new s tied reaches = λ a l.
    by_side w.darts (λ a. (c : ℕ) × Stretches new a c)
    (λ a l. ((reaches a l).0, surround_stretch w new s tied (reaches a l).1.places a (reaches a l).0 l (reaches a l).1.stretch))
    (λ k l. (
      w.darts + (k + 1) % 4,
      stretch_direct new (w.darts + k) (w.darts + (k + 1) % 4) (s.next_inside k l)
          (λ h. omega (arith, h, s.angle_inside ((k + 1) % 4) (omega arith))),
    ))
    (λ k l. (
      w.darts + 4 + (k + 3) % 4,
      stretch_direct new (w.darts + 4 + k) (w.darts + 4 + (k + 3) % 4) (s.next_outside k l)
          (λ h. omega (arith, h, s.angle_outside ((k + 3) % 4) (omega arith))),
    ))
    a (omega (arith, s.darts, l))

-- the side that the right turn faces can be cut
pub cut_side_can : (w surrounded : DartMap) (right side : ℕ) → IsSound w → IsSurrounded w surrounded → right < w.darts → 2 < w.angle right → side < 4 →
    (side + w.angle right) % 4 ≡ w.direction right → CanCut surrounded right (w.darts + (side + 3) % 4)
cut_side_can w surrounded right side sound s right_in turn side_in faces =
    let behind : surrounded.next (w.darts + (side + 3) % 4) ≡ w.darts + side = omega (arith, s.next_inside ((side + 3) % 4) (omega arith)) in
    record {
      d_in = omega (arith, s.darts, right_in);
      c_in = omega (arith, s.darts);
      right = omega (arith, s.angle_old right right_in, turn);
      faces = omega (
        arith,
        ap surrounded.direction behind,
        s.direction_inside side side_in,
        s.angle_old right right_in,
        s.direction_old right right_in,
        faces,
      );
    }

-- what the rectangle and the cut make of the map
pub bridging_of : (w surrounded : DartMap) (right side way : ℕ) (new : DartMap) → IsSound w → IsSurrounded w surrounded → right < w.darts → side < 4 →
    IsCut surrounded right (surrounded.next (w.darts + (side + 3) % 4)) way new → IsConnecting w surrounded right side way new
bridging_of w surrounded right side way new sound s right_in side_in cut =
    let behind : surrounded.next (w.darts + (side + 3) % 4) ≡ w.darts + side = omega (arith, s.next_inside ((side + 3) % 4) (omega arith)) in
    record {
      tied = sound.tied;
      surround = s;
      right_in = right_in;
      side_in = side_in;
      bridge = subst (λ (e : ℕ). IsCut surrounded right e way new) behind cut;
    }

pub bridge_sound : (w surrounded : DartMap) (right side way : ℕ) (new : DartMap) → IsSound w → IsConnecting w surrounded right side way new → IsSound new
bridge_sound w surrounded right side way new sound j =
    cut_sound surrounded right (w.darts + side) way new (surround_sound w surrounded j.surround sound) j.bridge

pub bridge_room : (w surrounded : DartMap) (right side way room : ℕ) (new : DartMap) → IsConnecting w surrounded right side way new →
    w.darts + 4 * reflex_turns w + RECTANGLE_ROOM ≤ room → HasRoom new room
bridge_room w surrounded right side way room new j space =
    omega (
      arith,
      cut_reflex_turns surrounded right (w.darts + side) way new j.bridge,
      surround_reflex_turns w surrounded j.surround,
      j.bridge.chord.darts,
      j.bridge.subdivide.darts,
      j.surround.darts,
      space,
    )

pub bridge_ready : (w surrounded : DartMap) (right side way : ℕ) (new : DartMap) → IsSound w → IsConnecting w surrounded right side way new →
    (inner : List (List ℕ)) (outer corners counts : List ℕ) → (listed : AreListed w right inner outer) →
    AreMergedFaces w right side listed.front inner corners counts → (k : ℕ) → k < 4 → AreReady new (w.darts + 4 + k) corners counts
bridge_ready w surrounded right side way new sound j inner outer corners counts listed made k k_in =
    flat_ready new (w.darts + 4 + k) corners counts (inner ++ ((made.kept ++ detour w.darts side) ∷ [])) made.flat
    (bridge_waits w surrounded right side way new j k k_in inner outer made.kept listed (sound.meeting.most right j.right_in) made.is_kept)

pub enclosed_by : (w : DartMap) (outside : ℕ) (surrounded : DartMap) (right side way : ℕ) (new last : DartMap) →
    ((face_number : ℕ → ℕ) → AreFaceNumbers w face_number → face_number right ≡ face_number outside) → IsConnecting w surrounded right side way new → IsCutUp new last →
    IsEnclosed w outside last
enclosed_by w outside surrounded right side way new last same_face j cut_up = record {
  surrounded = surrounded;
  surround = j.surround;
  bridged = new;
  right = right;
  side = side;
  direction = way;
  right_in = j.right_in;
  same_face = same_face;
  side_in = j.side_in;
  bridge = j.bridge;
  cut_up = cut_up;
}

pub enclosed_reaches : (w surrounded : DartMap) (right side way : ℕ) (new last : DartMap) (face_number : ℕ → ℕ) (outer : ℕ) → IsSound w → HasTurns w face_number outer →
    IsConnecting w surrounded right side way new → IsCutUp new last → ReachesCorners last
enclosed_reaches w surrounded right side way new last face_number outer sound turns j cut_up =
    cut_up_reaches new last (bridge_sound w surrounded right side way new sound j) cut_up
    (cut_reaches surrounded right (w.darts + side) way new (surround_tied w surrounded j.surround sound.tied) j.bridge
    (surround_reaches w surrounded j.surround sound.tied (turns_reach w face_number outer sound.tied turns)))

pub enclosed_few : (w surrounded : DartMap) (right side way : ℕ) (new last : DartMap) → IsSound w → IsConnecting w surrounded right side way new → IsCutUp new last →
    AreWaiting last (w.darts + 4) [] → last.vertices ≤ w.vertices + reflex_turns w + 4
enclosed_few w surrounded right side way new last sound j cut_up done =
    let last_sound = cut_up_sound new last (bridge_sound w surrounded right side way new sound j) cut_up in
    omega (
      arith,
      cut_up_vertices new last cut_up,
      cut_vertices surrounded right (w.darts + side) way new j.bridge,
      surround_reflex_turns w surrounded j.surround,
      j.surround.vertices,
      four_reflex_turns last (w.darts + 4) last_sound done.inside done.outside,
    )
