-- The map of a plane after its last bend.
use Rattle.std.proofs.Common.{◌≡◌, ℕ, ◌+◌, ◌*◌, ◌%◌, ◌<◌, eqb, List, [], length, ◌∙◌, arith, sym, ap, inl, inr, refl}
use Rattle.std.proofs.lemmas.Bool.{cases_eq, eq-eqb, ne_eqb, cond-true, cond-false}
use Rattle.common.specs.Sums.{sum_below}
use Rattle.common.proofs.Sums.{sum_below-same, sum_below-none, sum_below-times}
use Rattle.faces.specs.Planes.{PlaneModel, IsPlane, HasEnds, darts, reverse_dart, next, face_at}
use Rattle.ortho_rep.specs.declared.turn_strings.Turn.{Turn}
use Rattle.ortho_rep.specs.Turns.{lefts, rights}
use Rattle.ortho_rep.specs.Representation.{Rep, bends_of}
use Rattle.dissect.specs.Directions.{AreDirections}
use Rattle.dissect.specs.DartMaps.{DartMap, IsSound}
use Rattle.dissect.specs.FaceNumbers.{HasTurns, angles_around_face, darts_around_face}
use Rattle.dissect.proofs.Splitting.{part, part_here, part_elsewhere}
use Rattle.dissect.specs.Bare.{IsBare}
use Rattle.dissect.specs.Steps.{AreBent}
use Rattle.dissect.specs.Bends.{KeepsDarts, KeepsFaces, CountsBends}
use Rattle.dissect.proofs.EdgeTurns.{bends_twice}
use Rattle.dissect.proofs.OwedTurns.{IsOwing, owing, gained, lost}
use Rattle.dissect.proofs.Stepping.{edges_on}
use Rattle.dissect.proofs.Starting.{owing_begins, behind_begins}

module _ (p : PlaneModel) (a h : ℕ → ℕ) (total : ℕ) (w : DartMap) (face_number : ℕ → ℕ) (owed : ℕ → List Turn)
    (owing_w : IsOwing p a h total w face_number owed) (paid : (x : ℕ) → x < w.darts → owed x ≡ []) where
  pub sound_ends : IsSound w
  sound_ends = record {
    tied = owing_w.tied;
    meeting = owing_w.meeting;
    straight = λ x l.
        let t_in = owing_w.tied.reverse_dart_in x l in
        omega (
          arith,
          owing_w.ways x l,
          ap lefts (paid x l),
          ap rights (paid x l),
          owing_w.meeting.quarter x l,
          owing_w.meeting.quarter (w.reverse_dart x) t_in,
        );
  }

  none_owed : owing w owed ≡ 0
  none_owed = sum_below-none w.darts (λ x. length (owed x)) (λ x l. ap (length {A = Turn}) (paid x l))

  gained_is : (f : ℕ) → gained w face_number owed f ≡ 2 * darts_around_face w face_number f
  gained_is f =
      sum_below-same w.darts (part face_number (λ x. 2 + lefts (owed x)) f) (λ x. 2 * part face_number (λ _. 1) f x) (λ x l. same x l)
      ∙ sum_below-times w.darts 2 (part face_number (λ _. 1) f)
    where
      same : (x : ℕ) → x < w.darts → part face_number (λ x. 2 + lefts (owed x)) f x ≡ 2 * part face_number (λ _. 1) f x
      same x l =
          elim (cases_eq (face_number x) f) [
            | inl at ↦ omega (arith, part_here face_number (λ x. 2 + lefts (owed x)) f x at, part_here face_number (λ _. 1) f x at, ap lefts (paid x l))
            | inr off ↦ omega (arith, part_elsewhere face_number (λ x. 2 + lefts (owed x)) f x off, part_elsewhere face_number (λ _. 1) f x off)
          ]

  lost_is : (f : ℕ) → lost w face_number owed f ≡ angles_around_face w face_number f
  lost_is f = sum_below-same w.darts (part face_number (λ x. w.angle x + rights (owed x)) f) (part face_number w.angle f) (λ x l. same x l)
    where
      same : (x : ℕ) → x < w.darts → part face_number (λ x. w.angle x + rights (owed x)) f x ≡ part face_number w.angle f x
      same x l =
          elim (cases_eq (face_number x) f) [
            | inl at ↦ omega (arith, part_here face_number (λ x. w.angle x + rights (owed x)) f x at, part_here face_number w.angle f x at, ap rights (paid x l))
            | inr off ↦ omega (arith, part_elsewhere face_number (λ x. w.angle x + rights (owed x)) f x off, part_elsewhere face_number w.angle f x off)
          ]

  pub turns_end : p.outer < p.faces → HasTurns w face_number p.outer
  turns_end outer_in = record {
    face_numbers = owing_w.face_numbers;
    inner = λ x l off.
        let f : ℕ = face_number x in
        let test = ne_eqb f p.outer off in
        omega (
          arith,
          owing_w.turns f (owing_w.named x l),
          gained_is f,
          lost_is f,
          cond-false {A = ℕ} (eqb f p.outer) 4 0 test,
          cond-false {A = ℕ} (eqb f p.outer) 0 4 test,
        );
    outer_turns =
        let test = eq-eqb p.outer p.outer refl in
        omega (
          arith,
          owing_w.turns p.outer outer_in,
          gained_is p.outer,
          lost_is p.outer,
          cond-true {A = ℕ} (eqb p.outer p.outer) 4 0 test,
          cond-true {A = ℕ} (eqb p.outer p.outer) 0 4 test,
        );
  }

  pub counts_end : (s : ℕ → List Turn) → HasEnds p → Rep p a s → total ≡ sum_below (darts p) (λ d. length (s d)) → CountsBends p s w
  counts_end s ends rep total_is =
      let twice : 2 * bends_of (darts p) s ≡ total = bends_twice p a s ends rep ∙ sym total_is in
      record {
        dart_count = omega (arith, owing_w.dart_count, none_owed, twice);
        vertex_count = omega (arith, owing_w.vertex_count, none_owed, twice);
        right_turns = omega (arith, owing_w.right_turns, none_owed, twice);
      }

  pub darts_end : KeepsDarts p a w
  darts_end = record {
    few = owing_w.old;
    heads = λ x l. omega (arith, owing_w.heads x l);
    angles = owing_w.angles;
  }

-- the map of a plane whose edges have all their bends
pub record HasBends (p : PlaneModel) (a : ℕ → ℕ) (s : ℕ → List Turn) (w : DartMap) : Type 0 where
  pub sound : IsSound w
  pub darts : KeepsDarts p a w
  pub directions : AreDirections p a s w.direction
  pub faces : KeepsFaces p w
  pub counts : CountsBends p s w

pub all_bends : (p : PlaneModel) (a : ℕ → ℕ) (s : ℕ → List Turn) (h : ℕ → ℕ) (w new : DartMap) → IsPlane p → HasEnds p → Rep p a s →
    AreDirections p a s h → IsBare p a h w → AreBent p s 0 w new → HasBends p a s new
all_bends p a s h w new plane ends rep directions bare steps =
    let total : ℕ = sum_below (darts p) (λ d. length (s d)) in
    let (face_number, owed, owing_new, paid) = edges_on p a h total s 0 w new ends steps (face_at p) s
    (owing_begins p a s h w plane ends rep directions bare) (behind_begins p a s h w plane ends rep directions bare) in
    record {
      sound = sound_ends p a h total new face_number owed owing_new paid;
      darts = darts_end p a h total new face_number owed owing_new paid;
      directions = record {
        quarter = λ d l. omega (arith, owing_new.directions d l, directions.quarter d l);
        angles = λ d l.
            let there = owing_new.directions (reverse_dart p (next p d)) (ends.reverse_dart_in_range (next p d) (ends.next_one.inside d l)) in
            ap (λ (k : ℕ). (k + a d) % 4) there ∙ directions.angles d l ∙ sym (owing_new.directions d l);
        strings = λ d l.
            ap (λ (k : ℕ). (k + 2 + lefts (s d)) % 4) (owing_new.directions (reverse_dart p d) (ends.reverse_dart_in_range d l)) ∙ directions.strings d l
            ∙ sym (ap (λ (k : ℕ). (k + rights (s d)) % 4) (owing_new.directions d l));
      };
      faces = record {
        face_number = face_number;
        turns = turns_end p a h total new face_number owed owing_new paid plane.outer;
        faces = owing_new.faces;
      };
      counts = counts_end p a h total new face_number owed owing_new paid s ends rep refl;
    }
