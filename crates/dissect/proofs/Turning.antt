-- One more bend: what is counted over the darts of the map.
use Rattle.std.proofs.Common.{◌≡◌, ◌≢◌, ℕ, ◌+◌, ◌-◌, ◌%◌, ◌<◌, ◌≤◌, List, ◌∷◌, length, ◌∙◌, arith, sym, ap, inl, inr}
use Rattle.std.proofs.lemmas.Bool.{cases_eq}
use Rattle.common.specs.Sums.{sum_below}
use Rattle.ortho_rep.specs.declared.turn_strings.Turn.{Turn}
use Rattle.ortho_rep.specs.Turns.{mirrored, lefts, rights}
use Rattle.ortho_rep.proofs.TurnCounts.{lefts-mirrored}
use Rattle.ortho_rep.proofs.Mirrors.{length-mirrored}
use Rattle.dissect.specs.DartMaps.{DartMap, IsTied, IsSubdivided, reflex_turns}
use Rattle.dissect.proofs.Splitting.{by_place, part, part_here, part_elsewhere, part_same}
use Rattle.dissect.specs.Steps.{angle_of, start_direction}
use Rattle.dissect.proofs.SumsAndMaps.{sum_below-two_more}
use Rattle.dissect.proofs.Mirroring.{mirrored-mirrored, rights-mirrored, turn_counts}
use Rattle.dissect.proofs.OwedTurns.{owing, gained, lost, IsOwedNext, IsNumberedNext}

module _ (w : DartMap) (e way : ℕ) (turn : Turn) (turns : List Turn) (new : DartMap) (face_number face_number' : ℕ → ℕ) (owed owed' : ℕ → List Turn)
    (tied : IsTied w) (e_in : e < w.darts) (s : IsSubdivided w e way (angle_of turn) new)
    (owes : owed e ≡ turn ∷ turns) (mirrors : owed (w.reverse_dart e) ≡ mirrored (owed e))
    (named : IsNumberedNext w e face_number face_number') (next : IsOwedNext w e turns owed owed') where
  -- two turns less are owed
  pub owing_less : owing new owed' + 2 ≡ owing w owed
  owing_less =
      let n : ℕ = w.darts in
      let t : ℕ = w.reverse_dart e in
      let sums : sum_below (n + 2) (λ x. length (owed' x)) + (length (owed e) + length (owed t))
      ≡ sum_below n (λ x. length (owed x)) + (length (owed' e) + length (owed' t)) + (length (owed' n) + length (owed' (n + 1))) =
      sum_below-two_more n e t (λ x. length (owed x)) (λ x. length (owed' x)) e_in (tied.reverse_dart_in e e_in) (tied.reverse_dart_apart e e_in)
      (λ x l not_e not_t. ap (length {A = Turn}) (next.others x l not_e not_t)) in
      let all : owing new owed' ≡ sum_below (n + 2) (λ x. length (owed' x)) = ap (λ (k : ℕ). sum_below k (λ x. length (owed' x))) s.darts in
      let at_e : length (owed e) ≡ length turns + 1 = ap (length {A = Turn}) owes ∙ omega arith in
      let at_t : length (owed t) ≡ length turns + 1 = ap (length {A = Turn}) mirrors ∙ length-mirrored (owed e) ∙ at_e in
      let new_e : length (owed' e) ≡ length turns = ap (length {A = Turn}) next.at_e in
      let new_t : length (owed' t) ≡ 0 = ap (length {A = Turn}) next.at_reverse_dart in
      let first : length (owed' n) ≡ 0 = ap (length {A = Turn}) next.at_first in
      let second : length (owed' (n + 1)) ≡ length turns = ap (length {A = Turn}) next.at_second ∙ length-mirrored turns in
      omega (arith, sums, all, at_e, at_t, new_e, new_t, first, second)

  -- one right turn more, at one of the two new darts
  pub reflex_turns_more : reflex_turns new ≡ reflex_turns w + 1
  reflex_turns_more =
      let n : ℕ = w.darts in
      let t : ℕ = w.reverse_dart e in
      let t_in : t < n = tied.reverse_dart_in e e_in in
      let sums : sum_below (n + 2) (λ x. new.angle x - 2) + ((w.angle e - 2) + (w.angle t - 2))
      ≡ sum_below n (λ x. w.angle x - 2) + ((new.angle e - 2) + (new.angle t - 2)) + ((new.angle n - 2) + (new.angle (n + 1) - 2)) =
      sum_below-two_more n e t (λ x. w.angle x - 2) (λ x. new.angle x - 2) e_in t_in (tied.reverse_dart_apart e e_in)
      (λ x l not_e not_t. ap (λ (k : ℕ). k - 2) (s.angle_old x l)) in
      let all : reflex_turns new ≡ sum_below (n + 2) (λ x. new.angle x - 2) = ap (λ (k : ℕ). sum_below k (λ x. new.angle x - 2)) s.darts in
      let counts = turn_counts turn turns in
      let apart : angle_of turn ≢ 2 = counts.4 in
      let one : (angle_of turn - 2) + (4 - angle_of turn - 2) ≡ 1 = one_of (angle_of turn) counts.2 counts.3 apart in
      omega (arith, sums, all, s.angle_old e e_in, s.angle_old t t_in, s.angle_first, s.angle_second, one)
    where
      one_of : (b : ℕ) → 1 ≤ b → b ≤ 3 → b ≢ 2 → (b - 2) + (4 - b - 2) ≡ 1
      one_of b some most off =
          elim (cases_eq b 1) [
            | inl one ↦ omega (arith, one)
            | inr other ↦ three b some most off other
          ]
        where
          three : (b : ℕ) → 1 ≤ b → b ≤ 3 → b ≢ 2 → b ≢ 1 → (b - 2) + (4 - b - 2) ≡ 1
          three b some most off other = let e : b ≡ 3 = omega arith in omega (arith, e)

  -- what e and the new dart in front of it turn, against what e turned
  side_e : (f : ℕ) → let left_sum = part face_number (λ x. 2 + lefts (owed x)) f in
      let right_sum = part face_number (λ x. w.angle x + rights (owed x)) f in
      let left_sum' = part face_number' (λ x. 2 + lefts (owed' x)) f in
      let right_sum' = part face_number' (λ x. new.angle x + rights (owed' x)) f in
      left_sum' e + left_sum' w.darts + right_sum e ≡ right_sum' e + right_sum' w.darts + left_sum e
  side_e f =
      let n : ℕ = w.darts in
      let counts = turn_counts turn turns in
      let old_face_number : face_number' e ≡ face_number e = named.old e e_in in
      elim (cases_eq (face_number e) f) [
        | inl at ↦
            let one = part_here face_number (λ x. 2 + lefts (owed x)) f e at in
            let two = part_here face_number (λ x. w.angle x + rights (owed x)) f e at in
            let three = part_here face_number' (λ x. 2 + lefts (owed' x)) f e (old_face_number ∙ at) in
            let four = part_here face_number' (λ x. new.angle x + rights (owed' x)) f e (old_face_number ∙ at) in
            let five = part_here face_number' (λ x. 2 + lefts (owed' x)) f n (named.at_first ∙ at) in
            let six = part_here face_number' (λ x. new.angle x + rights (owed' x)) f n (named.at_first ∙ at) in
            let left_e : lefts (owed e) ≡ lefts (turn ∷ turns) = ap lefts owes in
            let right_e : rights (owed e) ≡ rights (turn ∷ turns) = ap rights owes in
            let left_e' : lefts (owed' e) ≡ lefts turns = ap lefts next.at_e in
            let right_e' : rights (owed' e) ≡ rights turns = ap rights next.at_e in
            let left_n : lefts (owed' n) ≡ 0 = ap lefts next.at_first in
            let right_n : rights (owed' n) ≡ 0 = ap rights next.at_first in
            omega (
              arith,
              one,
              two,
              three,
              four,
              five,
              six,
              left_e,
              right_e,
              left_e',
              right_e',
              left_n,
              right_n,
              counts.0,
              counts.1,
              s.angle_old e e_in,
              s.angle_first,
            )
        | inr off ↦
            let one = part_elsewhere face_number (λ x. 2 + lefts (owed x)) f e off in
            let two = part_elsewhere face_number (λ x. w.angle x + rights (owed x)) f e off in
            let three = part_elsewhere face_number' (λ x. 2 + lefts (owed' x)) f e (λ h. off (sym old_face_number ∙ h)) in
            let four = part_elsewhere face_number' (λ x. new.angle x + rights (owed' x)) f e (λ h. off (sym old_face_number ∙ h)) in
            let five = part_elsewhere face_number' (λ x. 2 + lefts (owed' x)) f n (λ h. off (sym named.at_first ∙ h)) in
            let six = part_elsewhere face_number' (λ x. new.angle x + rights (owed' x)) f n (λ h. off (sym named.at_first ∙ h)) in
            omega (arith, one, two, three, four, five, six)
      ]

  -- the same on the other side of the edge
  side_reverse_dart : (f : ℕ) → let left_sum = part face_number (λ x. 2 + lefts (owed x)) f in
      let right_sum = part face_number (λ x. w.angle x + rights (owed x)) f in
      let left_sum' = part face_number' (λ x. 2 + lefts (owed' x)) f in
      let right_sum' = part face_number' (λ x. new.angle x + rights (owed' x)) f in
      left_sum' (w.reverse_dart e) + left_sum' (w.darts + 1) + right_sum (w.reverse_dart e) ≡ right_sum' (w.reverse_dart e) + right_sum' (w.darts + 1) + left_sum (w.reverse_dart e)
  side_reverse_dart f =
      let n : ℕ = w.darts in
      let t : ℕ = w.reverse_dart e in
      let t_in : t < n = tied.reverse_dart_in e e_in in
      let counts = turn_counts turn turns in
      let old_face_number : face_number' t ≡ face_number t = named.old t t_in in
      elim (cases_eq (face_number t) f) [
        | inl at ↦
            let one = part_here face_number (λ x. 2 + lefts (owed x)) f t at in
            let two = part_here face_number (λ x. w.angle x + rights (owed x)) f t at in
            let three = part_here face_number' (λ x. 2 + lefts (owed' x)) f t (old_face_number ∙ at) in
            let four = part_here face_number' (λ x. new.angle x + rights (owed' x)) f t (old_face_number ∙ at) in
            let five = part_here face_number' (λ x. 2 + lefts (owed' x)) f (n + 1) (named.at_second ∙ at) in
            let six = part_here face_number' (λ x. new.angle x + rights (owed' x)) f (n + 1) (named.at_second ∙ at) in
            let left_t : lefts (owed t) ≡ rights (turn ∷ turns) = ap lefts mirrors ∙ lefts-mirrored (owed e) ∙ ap rights owes in
            let right_t : rights (owed t) ≡ lefts (turn ∷ turns) = ap rights mirrors ∙ rights-mirrored (owed e) ∙ ap lefts owes in
            let left_t' : lefts (owed' t) ≡ 0 = ap lefts next.at_reverse_dart in
            let right_t' : rights (owed' t) ≡ 0 = ap rights next.at_reverse_dart in
            let left_n : lefts (owed' (n + 1)) ≡ rights turns = ap lefts next.at_second ∙ lefts-mirrored turns in
            let right_n : rights (owed' (n + 1)) ≡ lefts turns = ap rights next.at_second ∙ rights-mirrored turns in
            omega (
              arith,
              one,
              two,
              three,
              four,
              five,
              six,
              left_t,
              right_t,
              left_t',
              right_t',
              left_n,
              right_n,
              counts.0,
              counts.1,
              counts.3,
              s.angle_old t t_in,
              s.angle_second,
            )
        | inr off ↦
            let one = part_elsewhere face_number (λ x. 2 + lefts (owed x)) f t off in
            let two = part_elsewhere face_number (λ x. w.angle x + rights (owed x)) f t off in
            let three = part_elsewhere face_number' (λ x. 2 + lefts (owed' x)) f t (λ h. off (sym old_face_number ∙ h)) in
            let four = part_elsewhere face_number' (λ x. new.angle x + rights (owed' x)) f t (λ h. off (sym old_face_number ∙ h)) in
            let five = part_elsewhere face_number' (λ x. 2 + lefts (owed' x)) f (n + 1) (λ h. off (sym named.at_second ∙ h)) in
            let six = part_elsewhere face_number' (λ x. new.angle x + rights (owed' x)) f (n + 1) (λ h. off (sym named.at_second ∙ h)) in
            omega (arith, one, two, three, four, five, six)
      ]

  -- round each face left and right turns grow alike
  pub turned_alike : (f : ℕ) → gained new face_number' owed' f + lost w face_number owed f ≡ gained w face_number owed f + lost new face_number' owed' f
  turned_alike f =
      let n : ℕ = w.darts in
      let t : ℕ = w.reverse_dart e in
      let t_in : t < n = tied.reverse_dart_in e e_in in
      let left_sum : ℕ → ℕ = part face_number (λ x. 2 + lefts (owed x)) f in
      let right_sum : ℕ → ℕ = part face_number (λ x. w.angle x + rights (owed x)) f in
      let left_sum' : ℕ → ℕ = part face_number' (λ x. 2 + lefts (owed' x)) f in
      let right_sum' : ℕ → ℕ = part face_number' (λ x. new.angle x + rights (owed' x)) f in
      let left_sums : sum_below (n + 2) left_sum' + (left_sum e + left_sum t) ≡ sum_below n left_sum + (left_sum' e + left_sum' t) + (left_sum' n + left_sum' (n + 1)) =
      sum_below-two_more n e t left_sum left_sum' e_in t_in (tied.reverse_dart_apart e e_in)
      (λ x l not_e not_t. part_same face_number face_number' (λ x. 2 + lefts (owed x)) (λ x. 2 + lefts (owed' x)) f x (named.old x l)
      (ap (λ (ts : List Turn). 2 + lefts ts) (next.others x l not_e not_t))) in
      let right_sums : sum_below (n + 2) right_sum' + (right_sum e + right_sum t) ≡ sum_below n right_sum + (right_sum' e + right_sum' t) + (right_sum' n + right_sum' (n + 1)) =
      sum_below-two_more n e t right_sum right_sum' e_in t_in (tied.reverse_dart_apart e e_in)
      (λ x l not_e not_t. part_same face_number face_number' (λ x. w.angle x + rights (owed x)) (λ x. new.angle x + rights (owed' x)) f x (named.old x l)
      (ap (λ (k : ℕ). k + rights (owed' x)) (s.angle_old x l) ∙ ap (λ (ts : List Turn). w.angle x + rights ts) (next.others x l not_e not_t))) in
      let all_left_sums : gained new face_number' owed' f ≡ sum_below (n + 2) left_sum' = ap (λ (k : ℕ). sum_below k left_sum') s.darts in
      let all_right_sums : lost new face_number' owed' f ≡ sum_below (n + 2) right_sum' = ap (λ (k : ℕ). sum_below k right_sum') s.darts in
      omega (arith, left_sums, right_sums, all_left_sums, all_right_sums, side_e f, side_reverse_dart f)

  -- what the new map's darts owe mirrors what their reverses owe
  pub mirrors_on : ((x : ℕ) → x < w.darts → owed (w.reverse_dart x) ≡ mirrored (owed x)) →
      (x : ℕ) → x < new.darts → owed' (new.reverse_dart x) ≡ mirrored (owed' x)
  mirrors_on all x l =
      let n : ℕ = w.darts in
      let t : ℕ = w.reverse_dart e in
      let t_in : t < n = tied.reverse_dart_in e e_in in
      by_place n e t (λ x. owed' (new.reverse_dart x) ≡ mirrored (owed' x))
      (ap owed' s.reverse_dart_e ∙ next.at_second ∙ sym (ap mirrored next.at_e))
      (ap owed' s.reverse_dart_reverse_dart ∙ next.at_first ∙ sym (ap mirrored next.at_reverse_dart))
      (λ x l not_e not_t.
      let other_e : w.reverse_dart x ≢ e = λ h. not_t (sym (tied.reverse_dart_back x l) ∙ ap w.reverse_dart h) in
      let other_t : w.reverse_dart x ≢ t = λ h. not_e (sym (tied.reverse_dart_back x l) ∙ ap w.reverse_dart h ∙ tied.reverse_dart_back e e_in) in
      ap owed' (s.reverse_dart_other x l not_e not_t) ∙ next.others (w.reverse_dart x) (tied.reverse_dart_in x l) other_e other_t ∙ all x l
      ∙ sym (ap mirrored (next.others x l not_e not_t)))
      (ap owed' s.reverse_dart_first ∙ next.at_reverse_dart ∙ sym (ap mirrored next.at_first))
      (ap owed' s.reverse_dart_second ∙ next.at_e ∙ sym (mirrored-mirrored turns) ∙ sym (ap mirrored next.at_second))
      x (omega (arith, s.darts))

  -- the directions of reverses differ as what they owe says
  pub ways_on : way ≡ start_direction w e → ((x : ℕ) → x < w.darts → w.direction x < 4) →
      ((x : ℕ) → x < w.darts → (w.direction (w.reverse_dart x) + 2 + lefts (owed x)) % 4 ≡ (w.direction x + rights (owed x)) % 4) →
      (x : ℕ) → x < new.darts → (new.direction (new.reverse_dart x) + 2 + lefts (owed' x)) % 4 ≡ (new.direction x + rights (owed' x)) % 4
  ways_on way_is quarter all x l =
      let n : ℕ = w.darts in
      let t : ℕ = w.reverse_dart e in
      let t_in : t < n = tied.reverse_dart_in e e_in in
      let counts = turn_counts turn turns in
      let at_e : (w.direction t + 2 + lefts (turn ∷ turns)) % 4 ≡ (w.direction e + rights (turn ∷ turns)) % 4 =
      ap (λ (ts : List Turn). (w.direction t + 2 + lefts ts) % 4) (sym owes) ∙ all e e_in
      ∙ ap (λ (ts : List Turn). (w.direction e + rights ts) % 4) owes in
      let left_second : lefts (owed' (n + 1)) ≡ rights turns = ap lefts next.at_second ∙ lefts-mirrored turns in
      let right_second : rights (owed' (n + 1)) ≡ lefts turns = ap rights next.at_second ∙ rights-mirrored turns in
      by_place n e t (λ x. (new.direction (new.reverse_dart x) + 2 + lefts (owed' x)) % 4 ≡ (new.direction x + rights (owed' x)) % 4)
      (omega (
        arith,
        at_e,
        counts.0,
        counts.1,
        counts.2,
        counts.3,
        way_is,
        ap new.direction s.reverse_dart_e ∙ s.direction_second,
        s.direction_old e e_in,
        ap lefts next.at_e,
        ap rights next.at_e,
      ))
      (omega (
        arith,
        way_is,
        ap new.direction s.reverse_dart_reverse_dart ∙ s.direction_first,
        s.direction_old t t_in,
        quarter t t_in,
        ap lefts next.at_reverse_dart,
        ap rights next.at_reverse_dart,
      ))
      (λ x l not_e not_t. ap (λ (k : ℕ). (k + 2 + lefts (owed' x)) % 4)
      (ap new.direction (s.reverse_dart_other x l not_e not_t) ∙ s.direction_old (w.reverse_dart x) (tied.reverse_dart_in x l))
      ∙ ap (λ (ts : List Turn). (w.direction (w.reverse_dart x) + 2 + lefts ts) % 4) (next.others x l not_e not_t) ∙ all x l
      ∙ sym (ap (λ (ts : List Turn). (w.direction x + rights ts) % 4) (next.others x l not_e not_t))
      ∙ sym (ap (λ (k : ℕ). (k + rights (owed' x)) % 4) (s.direction_old x l)))
      (omega (
        arith,
        way_is,
        ap new.direction s.reverse_dart_first ∙ s.direction_old t t_in,
        s.direction_first,
        quarter t t_in,
        ap lefts next.at_first,
        ap rights next.at_first,
      ))
      (omega (
        arith,
        at_e,
        counts.0,
        counts.1,
        counts.2,
        counts.3,
        way_is,
        ap new.direction s.reverse_dart_second ∙ s.direction_old e e_in,
        s.direction_second,
        left_second,
        right_second,
      ))
      x (omega (arith, s.darts))
