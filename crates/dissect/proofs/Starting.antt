-- The map of a plane before its first bend.
use Rattle.std.proofs.Common.{◌≡◌, ℕ, ◌+◌, ◌-◌, ◌*◌, ◌%◌, ◌<◌, ◌≤◌, cond, eqb, Bool, true, false, List, length, ◌∙◌, arith, subst, sym, ap, inl, inr, refl}
use Rattle.std.specs.Prelude.{pos, negsuc, ◌-ℤ◌}
use Rattle.std.proofs.lemmas.Bool.{cases_eq, eq-eqb, ne_eqb, cond-true, cond-false}
use Rattle.std.proofs.lemmas.Int.{ints}
use Rattle.common.specs.Sums.{sum_below}
use Rattle.common.proofs.Sums.{sum_below-same, sum_below-le, sum_below-times, sum_below-constant, exchanged}
use Rattle.faces.specs.Planes.{PlaneModel, IsPlane, HasEnds, darts, vertices, head, reverse_dart, next, face_at}
use Rattle.ortho_rep.specs.declared.turn_strings.Turn.{Turn}
use Rattle.ortho_rep.specs.Turns.{lefts, rights}
use Rattle.ortho_rep.specs.Representation.{Rep}
use Rattle.ortho_rep.proofs.WeakDuality.{left_sums, right_sums, turning-split}
use Rattle.dissect.specs.Directions.{AreDirections}
use Rattle.dissect.specs.DartMaps.{DartMap, IsTied, IsMeeting, around, reflex_turns}
use Rattle.dissect.specs.FaceNumbers.{AreFaceNumbers}
use Rattle.dissect.proofs.Splitting.{part, part_same}
use Rattle.dissect.specs.Bare.{IsBare}
use Rattle.dissect.proofs.SumsAndMaps.{onto}
use Rattle.dissect.proofs.OwedTurns.{IsOwing, owing, gained, lost, Turns}
use Rattle.dissect.proofs.Stepping.{IsBehind}

module _ (p : PlaneModel) (a : ℕ → ℕ) (s : ℕ → List Turn) (h : ℕ → ℕ) (w : DartMap) (plane : IsPlane p) (ends : HasEnds p) (rep : Rep p a s)
    (directions : AreDirections p a s h) (bare : IsBare p a h w) where
  in_plane : (x : ℕ) → x < w.darts → x < darts p
  in_plane x l = omega (arith, bare.dart_count)

  pub tied : IsTied w
  tied =
      let behind : (x : ℕ) → x < w.darts → (d : ℕ) × (d < darts p) × (next p d ≡ x) × (w.prev x ≡ d) = λ x l.
      let (d, inside, at) = onto (darts p) (next p) ends.next_one x (in_plane x l) in
      (d, inside, at, sym (ap w.prev at) ∙ bare.prevs d inside) in
      record {
        next_in = λ x l. omega (arith, bare.nexts x (in_plane x l), ends.next_one.inside x (in_plane x l), bare.dart_count);
        prev_in = λ x l. let (d, inside, at, back) = behind x l in omega (arith, inside, back, bare.dart_count);
        next_back = λ x l. ap w.prev (bare.nexts x (in_plane x l)) ∙ bare.prevs x (in_plane x l);
        prev_back = λ x l. let (d, inside, at, back) = behind x l in ap w.next back ∙ bare.nexts d inside ∙ at;
        reverse_dart_in = λ x l. omega (arith, bare.reverse_darts x (in_plane x l), ends.reverse_dart_in_range x (in_plane x l), bare.dart_count);
        reverse_dart_back = λ x l. ap w.reverse_dart (bare.reverse_darts x (in_plane x l)) ∙ bare.reverse_darts (reverse_dart p x) (ends.reverse_dart_in_range x (in_plane x l))
            ∙ ends.reverse_dart_back x (in_plane x l);
        reverse_dart_apart = λ x l same. ends.reverse_dart_apart x (in_plane x l) (sym (bare.reverse_darts x (in_plane x l)) ∙ same);
      }

  -- the dart that arrives next clockwise
  arrives : (x : ℕ) → x < darts p → w.reverse_dart (w.next x) ≡ reverse_dart p (next p x)
  arrives x l = ap w.reverse_dart (bare.nexts x l) ∙ bare.reverse_darts (next p x) (ends.next_one.inside x l)

  whole : (u : ℕ) → u < w.vertices → around w u ≡ 4
  whole u l =
      let plain : around w u ≡ sum_below (darts p) (part w.head w.angle u) = ap (λ (k : ℕ). sum_below k (part w.head w.angle u)) bare.dart_count in
      plain
      ∙ sum_below-same (darts p) (part w.head w.angle u) (part (head p) a (u + 1)) (λ x b. same x b)
      ∙ rep.around (u + 1) (omega arith) (omega (arith, bare.vertex_count))
    where
      same : (x : ℕ) → x < darts p → part w.head w.angle u x ≡ part (head p) a (u + 1) x
      same x b =
          elim (cases_eq (w.head x) u) [
            | inl at ↦ cond-true {A = ℕ} (eqb (w.head x) u) (w.angle x) 0 (eq-eqb (w.head x) u at) ∙ bare.angles x b
                ∙ sym (cond-true {A = ℕ} (eqb (head p x) (u + 1)) (a x) 0 (eq-eqb (head p x) (u + 1) (omega (arith, at, bare.heads x b))))
            | inr off ↦ cond-false {A = ℕ} (eqb (w.head x) u) (w.angle x) 0 (ne_eqb (w.head x) u off)
                ∙ sym (cond-false {A = ℕ} (eqb (head p x) (u + 1)) (a x) 0
                (ne_eqb (head p x) (u + 1) (λ at. off (omega (arith, at, bare.heads x b)))))
          ]

  pub meeting : IsMeeting w
  meeting = record {
    head_in = λ x l. omega (arith, bare.heads x (in_plane x l), ends.head_to x (in_plane x l), bare.vertex_count);
    meets = λ x l.
        let b = in_plane x l in
        let n_in = ends.next_one.inside x b in
        omega (
          arith,
          ap w.head (arrives x b),
          bare.heads (reverse_dart p (next p x)) (ends.reverse_dart_in_range (next p x) n_in),
          ends.reverse_dart_head (next p x) n_in,
          ends.next_tail x b,
          bare.heads x b,
        );
    quarter = λ x l. omega (arith, bare.directions x (in_plane x l), directions.quarter x (in_plane x l));
    turns = λ x l.
        let b = in_plane x l in
        let n_in = ends.next_one.inside x b in
        let there : w.direction (w.reverse_dart (w.next x)) ≡ h (reverse_dart p (next p x)) =
        ap w.direction (arrives x b) ∙ bare.directions (reverse_dart p (next p x)) (ends.reverse_dart_in_range (next p x) n_in) in
        omega (arith, there, bare.angles x b, bare.directions x b, directions.angles x b);
    some = λ x l. omega (arith, bare.angles x (in_plane x l), (rep.angles x (in_plane x l)).0);
    most = λ x l. omega (arith, bare.angles x (in_plane x l), (rep.angles x (in_plane x l)).1);
    whole = whole;
  }

  face_numbers : AreFaceNumbers w (face_at p)
  face_numbers = record {
    stays = λ x l. ap (face_at p) (bare.nexts x (in_plane x l)) ∙ plane.faces.closed x (in_plane x l);
    least = λ set closed x y x_in y_in same held. plane.faces.least set
        (λ d l here. subst (λ (k : ℕ). set k ≡ true) (bare.nexts d l) (closed d (omega (arith, l, bare.dart_count)) here))
        x y (in_plane x x_in) (in_plane y y_in) same held;
  }

  -- the turns round each face are those of the shape
  turns : (f : ℕ) → f < p.faces → Turns p w (face_at p) s f
  turns f l =
      let left_sum : gained w (face_at p) s f ≡ left_sums p a s f =
      ap (λ (k : ℕ). sum_below k (part (face_at p) (λ x. 2 + lefts (s x)) f)) bare.dart_count in
      let right_sum : lost w (face_at p) s f ≡ right_sums p a s f =
      ap (λ (k : ℕ). sum_below k (part (face_at p) (λ x. w.angle x + rights (s x)) f)) bare.dart_count
      ∙ sum_below-same (darts p) (part (face_at p) (λ x. w.angle x + rights (s x)) f) (part (face_at p) (λ x. a x + rights (s x)) f)
      (λ x b. part_same (face_at p) (face_at p) (λ x. a x + rights (s x)) (λ x. w.angle x + rights (s x)) f x refl
      (ap (λ (k : ℕ). k + rights (s x)) (bare.angles x b))) in
      balance (eqb f p.outer) (gained w (face_at p) s f) (lost w (face_at p) s f) (left_sums p a s f) (right_sums p a s f) left_sum right_sum
      (sym (turning-split p a s f) ∙ rep.faces f l)
    where
      balance : (outer : Bool) (g l g' l' : ℕ) → g ≡ g' → l ≡ l' → pos g' -ℤ pos l' ≡ cond outer (negsuc 3) (pos 4) →
          g + cond outer 4 0 ≡ l + cond outer 0 4
      balance true g l g' l' one two three = omega (arith, ints)
      balance false g l g' l' one two three = omega (arith, ints)

  -- no vertex turns right by more than two right angles
  few_right : 2 * reflex_turns w ≤ 4 * vertices p
  few_right =
      let n : ℕ = darts p in
      let at : ℕ → ℕ = w.head in
      let all : sum_below w.vertices (λ v. 1 * around w v) ≡ sum_below w.darts (λ x. 1 * w.angle x) =
      exchanged w.darts w.vertices at w.angle (λ _. 1) meeting.head_in in
      let four : sum_below w.vertices (λ v. 1 * around w v) ≡ sum_below w.vertices (λ _. 4) =
      sum_below-same w.vertices (λ v. 1 * around w v) (λ _. 4) (λ v b. omega (arith, whole v b)) in
      let twice : sum_below w.darts (λ x. 2 * (w.angle x - 2)) ≡ 2 * reflex_turns w = sum_below-times w.darts 2 (λ x. w.angle x - 2) in
      let less : sum_below w.darts (λ x. 2 * (w.angle x - 2)) ≤ sum_below w.darts (λ x. 1 * w.angle x) =
      sum_below-le w.darts (λ x. 2 * (w.angle x - 2)) (λ x. 1 * w.angle x) (λ x b. omega (arith, meeting.most x b)) in
      omega (arith, all, four, twice, less, sum_below-constant w.vertices 4, bare.vertex_count)

  pub owing_begins : IsOwing p a h (sum_below (darts p) (λ d. length (s d))) w (face_at p) s
  owing_begins =
      let total : owing w s ≡ sum_below (darts p) (λ d. length (s d)) = ap (λ (k : ℕ). sum_below k (λ d. length (s d))) bare.dart_count in
      record {
        old = omega (arith, bare.dart_count);
        tied = tied;
        meeting = meeting;
        mirrors = λ x l. ap s (bare.reverse_darts x (in_plane x l)) ∙ rep.strings x (in_plane x l);
        ways = λ x l.
            let b = in_plane x l in
            let there : w.direction (w.reverse_dart x) ≡ h (reverse_dart p x) =
            ap w.direction (bare.reverse_darts x b) ∙ bare.directions (reverse_dart p x) (ends.reverse_dart_in_range x b) in
            ap (λ (k : ℕ). (k + 2 + lefts (s x)) % 4) there ∙ directions.strings x b
            ∙ sym (ap (λ (k : ℕ). (k + rights (s x)) % 4) (bare.directions x b));
        face_numbers = face_numbers;
        named = λ x l. ends.face_named x (in_plane x l);
        turns = turns;
        dart_count = omega (arith, total, bare.dart_count);
        vertex_count = omega (arith, total, bare.vertex_count);
        right_turns = omega (arith, total, few_right);
        heads = bare.heads;
        angles = bare.angles;
        directions = bare.directions;
        faces = λ x l. refl;
      }

  pub behind_begins : IsBehind p s 0 w s
  behind_begins = record {
    waits = λ x l low low_reverse_dart. (refl, bare.reverse_darts x l);
    done = λ x l. inr (in_plane x l, omega arith, omega arith);
  }
