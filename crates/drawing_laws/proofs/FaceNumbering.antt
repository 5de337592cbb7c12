-- Each face of boxes is named by one of its corners: a box by that at which the walk arrives to the north.
use Rattle.std.proofs.Common.{◌≡◌, ◌≢◌, ℕ, zero, suc, ◌+◌, ◌%◌, ◌<◌, ◌≤◌, ◌⊎◌, Bool, arith, refl, sym, ap, ◌∙◌, subst, inl, inr}
use Rattle.std.proofs.lemmas.Bool.{cases_eq}
use Rattle.dissect.specs.DartMaps.{DartMap, IsSound}
use Rattle.dissect.specs.Faces.{IsCorner, StretchesIn, Stretches}
use Rattle.dissect.specs.Boxes.{HasBoxFaces}
use Rattle.drawing_laws.proofs.Sides.{Keeps, IsOn, on_itself}
use Rattle.drawing_laws.proofs.Rounds.{IsRound, AreFaces, are_faces, box_same}
use Rattle.dissect.proofs.Trees.{put}
use Rattle.drawing_laws.proofs.Growing.{put-here, put-other}

-- the same answer for all darts of a face
abbrev pub OfFaces : DartMap → (ℕ → Bool) → Type 0
OfFaces w s = (a : ℕ) → a < w.darts → s (w.next a) ≡ s a

pub record FaceNumbering (w : DartMap) (o : ℕ) : Type 0 where
  pub face_number : ℕ → ℕ
  pub inside : (a : ℕ) → a < w.darts → face_number a < w.darts
  pub stays : (a : ℕ) → a < w.darts → face_number (w.next a) ≡ face_number a
  pub held : (s : ℕ → Bool) → OfFaces w s → (a : ℕ) → a < w.darts → s a ≡ s (face_number a)
  -- the corner of a box at which the walk arrives to the north names it
  pub own : (c : ℕ) → c < w.darts → w.direction c ≡ 1 → w.angle c ≡ 1 → face_number c ≡ c
  -- a corner of the outside names it
  pub out : ℕ
  pub out_in : out < w.darts
  pub out_own : face_number out ≡ out
  pub out_angle : w.angle out ≡ 3
  pub out_held : (s : ℕ → Bool) → OfFaces w s → s o ≡ s out
  -- another one, at which the walk arrives to the west
  pub west : ℕ
  pub west_in : west < w.darts
  pub west_direction : w.direction west ≡ 2
  pub west_angle : w.angle west ≡ 3
  pub west_held : (s : ℕ → Bool) → OfFaces w s → s west ≡ s out
  pub angles : (a : ℕ) → a < w.darts → (1 ≤ w.angle a) × (w.angle a ≤ 3)

-- what there is for each number below n is chosen for all of them
choose : (n : ℕ) (P : ℕ → ℕ → Type 0) → ((a : ℕ) → a < n → (c : ℕ) × P a c) → (f : ℕ → ℕ) × ((a : ℕ) → a < n → P a (f a))
choose zero P each = ((λ _. 0), λ a l. absurd (omega (arith, l)))
choose (suc n) P each =
    let rest = choose n P (λ a l. each a (omega (arith, l))) in
    let new = each n (omega arith) in
    let f : ℕ → ℕ = put rest.0 n new.0 in (
      f,
      λ a l. elim (cases_eq a n) [
        | inl e ↦ subst (λ (u : ℕ). P u (f u)) (sym e) (subst (P n) (sym (put-here rest.0 n new.0)) new.1)
        | inr ne ↦ subst (P a) (sym (put-other rest.0 n new.0 a ne)) (rest.1 a (omega (arith, l, ne)))
      ],
    )

stretch_behind : (w : DartMap) (k a c : ℕ) → StretchesIn w k a c → Keeps w k (w.next a) c
stretch_behind w zero a c stretch = stretch.0
stretch_behind w (suc k) a c stretch = (stretch.0, stretch_behind w k (w.next a) c stretch.1)

keeps_one : (w : DartMap) (j k a b c : ℕ) → IsCorner w b → IsCorner w c → Keeps w j a b → Keeps w k a c → b ≡ c
keeps_one w zero zero a b c cb cc one two = sym one ∙ two
keeps_one w zero (suc k) a b c cb cc one two = absurd (cb (ap w.angle (sym one) ∙ two.0))
keeps_one w (suc j) zero a b c cb cc one two = absurd (cc (ap w.angle (sym two) ∙ one.0))
keeps_one w (suc j) (suc k) a b c cb cc one two = keeps_one w j k (w.next a) b c cb cc one.1 two.1

-- the dart a is on a side of the face with these corners
record IsRoundOf (w : DartMap) (back angle : ℕ) (corner : ℕ → ℕ) (a : ℕ) : Type 0 where
  round : IsRound w back angle corner
  side : ℕ
  few : side < 4
  on : IsOn w a (corner side)

-- c names the box of the dart a
record IsOfBox (w : DartMap) (a c : ℕ) : Type 0 where
  corner : ℕ → ℕ
  box : IsRoundOf w 3 1 corner a
  name : corner 1 ≡ c

record IsOfOutside (w : DartMap) (around : ℕ → ℕ) (a c : ℕ) : Type 0 where
  outside : IsRoundOf w 1 3 around a
  name : around 1 ≡ c

abbrev IsOf : (w : DartMap) (around : ℕ → ℕ) → ℕ → ℕ → Type 0
IsOf w around a c = IsOfBox w a c ⊎ IsOfOutside w around a c

module _ (w : DartMap) (sound : IsSound w) (faces : AreFaces w) where
  -- the next dart is on the same side, or on the next one
  next_of : (back ahead angle : ℕ) (corner : ℕ → ℕ) → back + ahead ≡ 4 → IsRound w back angle corner → (k a side : ℕ) → side < 4
      → Keeps w k a (corner side) → IsRoundOf w back angle corner (w.next a)
  next_of back ahead angle corner four round zero a side few keeps =
      let s : ℕ = (side + ahead) % 4 in
      let s_few : s < 4 = omega arith in
      let from : (s + back) % 4 ≡ side = omega (arith, four, few) in
      let stretch = round.sides s s_few in
      let at : corner ((s + back) % 4) ≡ a = ap corner from ∙ sym keeps in
      let stretch' : Stretches w a (corner s) = subst (λ (c : ℕ). Stretches w c (corner s)) at stretch in
      record { round = round; side = s; few = s_few; on = record { places = stretch'.places; keeps = stretch_behind w stretch'.places a (corner s) stretch'.stretch } }
  next_of back ahead angle corner four round (suc k) a side few keeps =
      record { round = round; side = side; few = few; on = record { places = k; keeps = keeps.1 } }

  of_next : (a c : ℕ) → IsOf w faces.around a c → IsOf w faces.around (w.next a) c
  of_next a c (inl r) =
      inl (record { corner = r.corner; box = next_of 3 1 1 r.corner refl r.box.round r.box.on.places a r.box.side r.box.few r.box.on.keeps; name = r.name })
  of_next a c (inr r) =
      inr (record { outside = next_of 1 3 3 faces.around refl r.outside.round r.outside.on.places a r.outside.side r.outside.few r.outside.on.keeps; name = r.name })

  corner_of : (back angle : ℕ) (corner : ℕ → ℕ) → IsRound w back angle corner → angle ≢ 2 → (k : ℕ) → k < 4 → IsCorner w (corner k)
  corner_of back angle corner round turning k few straight = turning (sym (round.angles k few) ∙ straight)

  one_not_two : (x : ℕ) → x ≡ 1 → x ≢ 2
  one_not_two x e two = omega (arith, e, two)

  three_not_two : (x : ℕ) → x ≡ 3 → x ≢ 2
  three_not_two x e two = omega (arith, e, two)

  box_out : (a c e : ℕ) → IsOfBox w a c → IsOfOutside w faces.around a e → ⊥
  box_out a c e r t =
      let same = keeps_one w r.box.on.places t.outside.on.places a (r.corner r.box.side) (faces.around t.outside.side)
      (corner_of 3 1 r.corner r.box.round (one_not_two 1 refl) r.box.side r.box.few)
      (corner_of 1 3 faces.around t.outside.round (three_not_two 3 refl) t.outside.side t.outside.few) r.box.on.keeps t.outside.on.keeps in
      omega (arith, r.box.round.angles r.box.side r.box.few, t.outside.round.angles t.outside.side t.outside.few, ap w.angle same)

  box_box : (a c e : ℕ) → IsOfBox w a c → IsOfBox w a e → c ≡ e
  box_box a c e r t =
      let same = keeps_one w r.box.on.places t.box.on.places a (r.corner r.box.side) (t.corner t.box.side)
      (corner_of 3 1 r.corner r.box.round (one_not_two 1 refl) r.box.side r.box.few)
      (corner_of 3 1 t.corner t.box.round (one_not_two 1 refl) t.box.side t.box.few) r.box.on.keeps t.box.on.keeps in
      let sides : t.box.side ≡ r.box.side =
      sym (t.box.round.ways t.box.side t.box.few) ∙ ap w.direction (sym same) ∙ r.box.round.ways r.box.side r.box.few in
      let meet : r.corner r.box.side ≡ t.corner r.box.side = same ∙ ap t.corner sides in
      sym r.name ∙ box_same w r.corner t.corner r.box.round t.box.round r.box.side 1 r.box.few (omega arith) meet ∙ t.name

  of_one : (a c e : ℕ) → IsOf w faces.around a c → IsOf w faces.around a e → c ≡ e
  of_one a c e (inl r) (inl t) = box_box a c e r t
  of_one a c e (inl r) (inr t) = absurd (box_out a c e r t)
  of_one a c e (inr r) (inl t) = absurd (box_out a e c t r)
  of_one a c e (inr r) (inr t) = sym r.name ∙ t.name

  inside_of : (a c : ℕ) → IsOf w faces.around a c → c < w.darts
  inside_of a c (inl r) = subst (λ (d : ℕ). d < w.darts) r.name (r.box.round.inside 1 (omega arith))
  inside_of a c (inr r) = subst (λ (d : ℕ). d < w.darts) r.name (r.outside.round.inside 1 (omega arith))

  face_of : (a : ℕ) → a < w.darts → (c : ℕ) × IsOf w faces.around a c
  face_of a a_in =
      let (c, c_in, corner, on) = faces.ends a a_in in
      elim (faces.each c c_in corner) [
        | inl box ↦ (
          box.0 1,
          inl (record {
            corner = box.0;
            box = record { round = box.1; side = w.direction c; few = sound.meeting.quarter c c_in; on = subst (λ (d : ℕ). IsOn w a d) (sym box.2) on };
            name = refl;
          }),
        )
        | inr out ↦ (
          faces.around 1,
          inr (record {
            outside = record { round = faces.outside; side = w.direction c; few = sound.meeting.quarter c c_in; on = subst (λ (d : ℕ). IsOn w a d) (sym out) on };
            name = refl;
          }),
        )
      ]

  module _ (s : ℕ → Bool) (of : OfFaces w s) where
    held_keeps : (k a c : ℕ) → a < w.darts → Keeps w k a c → s a ≡ s c
    held_keeps zero a c a_in keeps = ap s keeps
    held_keeps (suc k) a c a_in keeps = sym (of a a_in) ∙ held_keeps k (w.next a) c (sound.tied.next_in a a_in) keeps.1

    held_stretches : (a c : ℕ) → a < w.darts → Stretches w a c → s a ≡ s c
    held_stretches a c a_in stretch = sym (of a a_in) ∙ held_keeps stretch.places (w.next a) c (sound.tied.next_in a a_in) (stretch_behind w stretch.places a c stretch.stretch)

    held_side : (back angle : ℕ) (corner : ℕ → ℕ) → IsRound w back angle corner → (k : ℕ) → k < 4 → s (corner ((k + back) % 4)) ≡ s (corner k)
    held_side back angle corner round k few =
        held_stretches (corner ((k + back) % 4)) (corner k) (round.inside ((k + back) % 4) (omega arith)) (round.sides k few)

    held_box : (corner : ℕ → ℕ) → IsRound w 3 1 corner → (k : ℕ) → k < 4 → s (corner k) ≡ s (corner 1)
    held_box corner round zero few = held_side 3 1 corner round 1 (omega arith)
    held_box corner round (suc zero) few = refl
    held_box corner round (suc (suc zero)) few = sym (held_side 3 1 corner round 2 (omega arith))
    held_box corner round (suc (suc (suc zero))) few = held_side 3 1 corner round 0 (omega arith) ∙ held_side 3 1 corner round 1 (omega arith)
    held_box corner round (suc (suc (suc (suc k)))) few = absurd (omega (arith, few))

    held_out : (corner : ℕ → ℕ) → IsRound w 1 3 corner → (k : ℕ) → k < 4 → s (corner k) ≡ s (corner 1)
    held_out corner round zero few = sym (held_side 1 3 corner round 0 (omega arith))
    held_out corner round (suc zero) few = refl
    held_out corner round (suc (suc zero)) few = held_side 1 3 corner round 1 (omega arith)
    held_out corner round (suc (suc (suc zero))) few = held_side 1 3 corner round 2 (omega arith) ∙ held_side 1 3 corner round 1 (omega arith)
    held_out corner round (suc (suc (suc (suc k)))) few = absurd (omega (arith, few))

    held_of : (a c : ℕ) → a < w.darts → IsOf w faces.around a c → s a ≡ s c
    held_of a c a_in (inl r) =
        held_keeps r.box.on.places a (r.corner r.box.side) a_in r.box.on.keeps ∙ held_box r.corner r.box.round r.box.side r.box.few ∙ ap s r.name
    held_of a c a_in (inr r) =
        held_keeps r.outside.on.places a (faces.around r.outside.side) a_in r.outside.on.keeps ∙ held_out faces.around r.outside.round r.outside.side r.outside.few ∙ ap s r.name

  angles_of : (a : ℕ) → a < w.darts → (1 ≤ w.angle a) × (w.angle a ≤ 3)
  angles_of a a_in =
      elim (cases_eq (w.angle a) 2) [
        | inl straight ↦ (omega (arith, straight), omega (arith, straight))
        | inr corner ↦ elim (faces.each a a_in corner) [
          | inl box ↦
              let one : w.angle a ≡ 1 = ap w.angle (sym box.2) ∙ box.1.angles (w.direction a) (sound.meeting.quarter a a_in) in
              (omega (arith, one), omega (arith, one))
          | inr out ↦
              let three : w.angle a ≡ 3 = ap w.angle (sym out) ∙ faces.outside.angles (w.direction a) (sound.meeting.quarter a a_in) in
              (omega (arith, three), omega (arith, three))
        ]
      ]

  own_of : (c : ℕ) → c < w.darts → w.direction c ≡ 1 → w.angle c ≡ 1 → IsOf w faces.around c c
  own_of c c_in way one =
      elim (faces.each c c_in (one_not_two (w.angle c) one)) [
        | inl box ↦
            let at : box.0 1 ≡ c = ap box.0 (sym way) ∙ box.2 in
            inl (record { corner = box.0; box = record { round = box.1; side = 1; few = omega arith; on = subst (λ (d : ℕ). IsOn w c d) (sym at) (on_itself w c) }; name = at })
        | inr out ↦
            absurd (omega (arith, one, ap w.angle (sym out), faces.outside.angles (w.direction c) (sound.meeting.quarter c c_in)))
      ]

  out_of : IsOf w faces.around (faces.around 1) (faces.around 1)
  out_of = inr (record { outside = record { round = faces.outside; side = 1; few = omega arith; on = on_itself w (faces.around 1) }; name = refl })

  -- a corner of three right angles is of the outside
  right_out : (o : ℕ) → o < w.darts → w.angle o ≡ 3 → (s : ℕ → Bool) → OfFaces w s → s o ≡ s (faces.around 1)
  right_out o o_in three s of =
      elim (faces.each o o_in (three_not_two (w.angle o) three)) [
        | inl box ↦ absurd (omega (arith, three, ap w.angle (sym box.2), box.1.angles (w.direction o) (sound.meeting.quarter o o_in)))
        | inr out ↦ ap s (sym out) ∙ held_out s of faces.around faces.outside (w.direction o) (sound.meeting.quarter o o_in)
      ]

  numbering_of : (o : ℕ) → o < w.darts → w.angle o ≡ 3 → FaceNumbering w o
  numbering_of o o_in three =
      let (face_number, of) = choose w.darts (IsOf w faces.around) face_of in
      record {
        face_number = face_number;
        inside = λ a a_in. inside_of a (face_number a) (of a a_in);
        stays = λ a a_in. of_one (w.next a) (face_number (w.next a)) (face_number a) (of (w.next a) (sound.tied.next_in a a_in)) (of_next a (face_number a) (of a a_in));
        held = λ s same a a_in. held_of s same a (face_number a) a_in (of a a_in);
        own = λ c c_in way one. of_one c (face_number c) c (of c c_in) (own_of c c_in way one);
        out = faces.around 1;
        out_in = faces.outside.inside 1 (omega arith);
        out_own = of_one (faces.around 1) (face_number (faces.around 1)) (faces.around 1) (of (faces.around 1) (faces.outside.inside 1 (omega arith))) out_of;
        out_angle = faces.outside.angles 1 (omega arith);
        out_held = right_out o o_in three;
        west = faces.around 2;
        west_in = faces.outside.inside 2 (omega arith);
        west_direction = faces.outside.ways 2 (omega arith);
        west_angle = faces.outside.angles 2 (omega arith);
        west_held = λ s same. held_out s same faces.around faces.outside 2 (omega arith);
        angles = angles_of;
      }

pub face_numbers : (w : DartMap) → IsSound w → (cut : HasBoxFaces w) → FaceNumbering w cut.outside
face_numbers w sound cut = numbering_of w sound (are_faces w sound cut) cut.outside cut.outside_in cut.around.angle_first
