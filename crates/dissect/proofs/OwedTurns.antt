-- A map some of whose edges still have to get turns: what each subdivision keeps.
use Rattle.std.proofs.Common.{◌≡◌, ◌≢◌, ℕ, ◌+◌, ◌*◌, ◌%◌, ◌<◌, ◌≤◌, ◌==◌, if◌then◌else◌, cond, eqb, true, List, [], length, ◌∙◌, arith, subst, sym, ap, inl, inr, refl}
use Rattle.std.proofs.lemmas.Bool.{cases_eq, eq-eqb, ne_eqb, cond-true, cond-false}
use Rattle.common.specs.Sums.{sum_below}
use Rattle.faces.specs.Planes.{PlaneModel, darts, vertices, head, face_at}
use Rattle.ortho_rep.specs.declared.turn_strings.Turn.{Turn}
use Rattle.ortho_rep.specs.Turns.{mirrored, lefts, rights}
use Rattle.dissect.specs.DartMaps.{DartMap, IsTied, IsMeeting, IsSubdivided, reflex_turns}
use Rattle.dissect.specs.FaceNumbers.{AreFaceNumbers}
use Rattle.dissect.proofs.Splitting.{by_place, by_age, part}

-- how many turns all darts of the map owe
abbrev pub owing : DartMap → (ℕ → List Turn) → ℕ
owing w owed = sum_below w.darts (λ x. length (owed x))

-- what the face f turns to the left, what to the right, at the darts of the map and by what they owe
abbrev pub gained : DartMap → (ℕ → ℕ) → (ℕ → List Turn) → ℕ → ℕ
gained w face_number owed f = sum_below w.darts (part face_number (λ x. 2 + lefts (owed x)) f)

abbrev pub lost : DartMap → (ℕ → ℕ) → (ℕ → List Turn) → ℕ → ℕ
lost w face_number owed f = sum_below w.darts (part face_number (λ x. w.angle x + rights (owed x)) f)

-- four more to the left round a face, four more to the right round the outer one
abbrev pub Turns : PlaneModel → DartMap → (ℕ → ℕ) → (ℕ → List Turn) → ℕ → Type 0
Turns p w face_number owed f =
    gained w face_number owed f + (if f == p.outer then 4 else 0) ≡ lost w face_number owed f + (if f == p.outer then 0 else 4)

-- the map of the plane p on the way to its bends, `total` in all, each counted at both darts: dart x still owes the turns
-- `owed x`, and is of the face `face_number x`
pub record IsOwing (p : PlaneModel) (a h : ℕ → ℕ) (total : ℕ) (w : DartMap) (face_number : ℕ → ℕ) (owed : ℕ → List Turn) : Type 0 where
  pub old : darts p ≤ w.darts
  pub tied : IsTied w
  pub meeting : IsMeeting w
  pub mirrors : (x : ℕ) → x < w.darts → owed (w.reverse_dart x) ≡ mirrored (owed x)
  pub ways : (x : ℕ) → x < w.darts → (w.direction (w.reverse_dart x) + 2 + lefts (owed x)) % 4 ≡ (w.direction x + rights (owed x)) % 4
  pub face_numbers : AreFaceNumbers w face_number
  pub named : (x : ℕ) → x < w.darts → face_number x < p.faces
  pub turns : (f : ℕ) → f < p.faces → Turns p w face_number owed f
  pub dart_count : w.darts + owing w owed ≡ darts p + total
  pub vertex_count : 2 * w.vertices + owing w owed ≡ 2 * vertices p + total
  pub right_turns : 2 * reflex_turns w + owing w owed ≤ 4 * vertices p + total
  pub heads : (x : ℕ) → x < darts p → w.head x + 1 ≡ head p x
  pub angles : (x : ℕ) → x < darts p → w.angle x ≡ a x
  pub directions : (x : ℕ) → x < darts p → w.direction x ≡ h x
  pub faces : (x : ℕ) → x < darts p → face_number x ≡ face_at p x

-- once the edge of e has its first turn, e and the new dart after it owe the others, and no one else of its four darts
pub record IsOwedNext (w : DartMap) (e : ℕ) (turns : List Turn) (owed next : ℕ → List Turn) : Type 0 where
  pub at_e : next e ≡ turns
  pub at_reverse_dart : next (w.reverse_dart e) ≡ []
  pub at_first : next w.darts ≡ []
  pub at_second : next (w.darts + 1) ≡ mirrored turns
  pub others : (x : ℕ) → x < w.darts → x ≢ e → x ≢ w.reverse_dart e → next x ≡ owed x

-- each new dart is of the face of the dart that it stands in front of
pub record IsNumberedNext (w : DartMap) (e : ℕ) (face_number next : ℕ → ℕ) : Type 0 where
  pub at_first : next w.darts ≡ face_number e
  pub at_second : next (w.darts + 1) ≡ face_number (w.reverse_dart e)
  pub old : (x : ℕ) → x < w.darts → next x ≡ face_number x

-- there are such functions
pub owed_next : (w : DartMap) (e : ℕ) (turns : List Turn) (owed : ℕ → List Turn) → IsTied w → e < w.darts →
    (next : ℕ → List Turn) × IsOwedNext w e turns owed next
owed_next w e turns owed tied e_in =
    let t : ℕ = w.reverse_dart e in
    let n : ℕ = w.darts in
    let t_in : t < n = tied.reverse_dart_in e e_in in
    let apart : t ≢ e = tied.reverse_dart_apart e e_in in
    let new : ℕ → List Turn = λ x. cond (eqb x (n + 1)) (mirrored turns) (cond (eqb x n) [] (cond (eqb x t) [] (cond (eqb x e) turns (owed x)))) in
    let skip : (x y : ℕ) (v r : List Turn) → x ≢ y → cond (eqb x y) v r ≡ r = λ x y v r off. cond-false {A = List Turn} (eqb x y) v r (ne_eqb x y off) in
    let take : (x y : ℕ) (v r : List Turn) → x ≡ y → cond (eqb x y) v r ≡ v = λ x y v r at. cond-true {A = List Turn} (eqb x y) v r (eq-eqb x y at) in (
      new,
      record {
        at_e = skip e (n + 1) _ _ (λ h. omega (arith, h, e_in)) ∙ skip e n _ _ (λ h. omega (arith, h, e_in))
            ∙ skip e t _ _ (λ h. apart (sym h)) ∙ take e e _ _ refl;
        at_reverse_dart = skip t (n + 1) _ _ (λ h. omega (arith, h, t_in)) ∙ skip t n _ _ (λ h. omega (arith, h, t_in)) ∙ take t t _ _ refl;
        at_first = skip n (n + 1) _ _ (λ h. omega (arith, h)) ∙ take n n _ _ refl;
        at_second = take (n + 1) (n + 1) _ _ refl;
        others = λ x l not_e not_t. skip x (n + 1) _ _ (λ h. omega (arith, h, l)) ∙ skip x n _ _ (λ h. omega (arith, h, l))
            ∙ skip x t _ _ not_t ∙ skip x e _ _ not_e;
      },
    )

pub numbered_next : (w : DartMap) (e : ℕ) (face_number : ℕ → ℕ) → (next : ℕ → ℕ) × IsNumberedNext w e face_number next
numbered_next w e face_number =
    let n : ℕ = w.darts in
    let new : ℕ → ℕ = λ x. cond (eqb x (n + 1)) (face_number (w.reverse_dart e)) (cond (eqb x n) (face_number e) (face_number x)) in
    let skip : (x y v r : ℕ) → x ≢ y → cond (eqb x y) v r ≡ r = λ x y v r off. cond-false {A = ℕ} (eqb x y) v r (ne_eqb x y off) in
    let take : (x y v r : ℕ) → x ≡ y → cond (eqb x y) v r ≡ v = λ x y v r at. cond-true {A = ℕ} (eqb x y) v r (eq-eqb x y at) in (
      new,
      record {
        at_first = skip n (n + 1) _ _ (λ h. omega (arith, h)) ∙ take n n _ _ refl;
        at_second = take (n + 1) (n + 1) _ _ refl;
        old = λ x l. skip x (n + 1) _ _ (λ h. omega (arith, h, l)) ∙ skip x n _ _ (λ h. omega (arith, h, l));
      },
    )

-- the numbers of a map stay numbers under a subdivision
pub split_face_numbers : (w : DartMap) (e way bend : ℕ) (new : DartMap) (face_number next : ℕ → ℕ) → IsTied w → e < w.darts →
    IsSubdivided w e way bend new → IsNumberedNext w e face_number next → AreFaceNumbers w face_number → AreFaceNumbers new next
split_face_numbers w e way bend new face_number next tied e_in s named face_numbers =
    let n : ℕ = w.darts in
    let t : ℕ = w.reverse_dart e in
    let t_in : t < n = tied.reverse_dart_in e e_in in
    let c : ℕ = w.prev e in
    let p : ℕ = w.prev t in
    let c_in : c < n = tied.prev_in e e_in in
    let p_in : p < n = tied.prev_in t t_in in
    let front : (x : ℕ) → x < n → face_number (w.prev x) ≡ face_number x = λ x l.
    sym (face_numbers.stays (w.prev x) (tied.prev_in x l)) ∙ ap face_number (tied.prev_back x l) in
    record {
      stays = λ x l. by_place n c p (λ x. next (new.next x) ≡ next x)
          (ap next s.next_before ∙ named.at_first ∙ sym (front e e_in) ∙ sym (named.old c c_in))
          (ap next s.next_back ∙ named.at_second ∙ sym (front t t_in) ∙ sym (named.old p p_in))
          (λ x l not_c not_p. ap next (s.next_other x l not_c not_p) ∙ named.old (w.next x) (tied.next_in x l) ∙ face_numbers.stays x l
          ∙ sym (named.old x l))
          (ap next s.next_first ∙ named.old e e_in ∙ sym named.at_first)
          (ap next s.next_second ∙ named.old t t_in ∙ sym named.at_second)
          x (omega (arith, s.darts));
      least = λ set closed x y x_in y_in same held.
          let shut : (x : ℕ) → x < n → set x ≡ true → set (w.next x) ≡ true = λ x l held.
          elim (cases_eq x c) [
            | inl at ↦
                let one : set n ≡ true = subst (λ (k : ℕ). set k ≡ true) (ap new.next at ∙ s.next_before) (closed x (omega (arith, s.darts, l)) held) in
                let two : set e ≡ true = subst (λ (k : ℕ). set k ≡ true) s.next_first (closed n (omega (arith, s.darts)) one) in
                subst (λ (k : ℕ). set k ≡ true) (sym (ap w.next at ∙ tied.prev_back e e_in)) two
            | inr not_c ↦
                elim (cases_eq x p) [
                  | inl at ↦
                      let one : set (n + 1) ≡ true = subst (λ (k : ℕ). set k ≡ true) (ap new.next at ∙ s.next_back) (closed x (omega (arith, s.darts, l)) held) in
                      let two : set t ≡ true = subst (λ (k : ℕ). set k ≡ true) s.next_second (closed (n + 1) (omega (arith, s.darts)) one) in
                      subst (λ (k : ℕ). set k ≡ true) (sym (ap w.next at ∙ tied.prev_back t t_in)) two
                  | inr not_p ↦ subst (λ (k : ℕ). set k ≡ true) (s.next_other x l not_c not_p) (closed x (omega (arith, s.darts, l)) held)
                ]
          ] in
          -- a dart of the old map that has the number of x, and is held where x is
          let before : (x : ℕ) → x < n + 2 → (z : ℕ) × (z < n) × (face_number z ≡ next x) × (set x ≡ true → set z ≡ true) = λ x l.
          by_age n (λ x. (z : ℕ) × (z < n) × (face_number z ≡ next x) × (set x ≡ true → set z ≡ true))
          (λ x l. (x, l, sym (named.old x l), λ held. held))
          (e, e_in, sym named.at_first, λ held. subst (λ (k : ℕ). set k ≡ true) s.next_first (closed n (omega (arith, s.darts)) held))
          (t, t_in, sym named.at_second, λ held. subst (λ (k : ℕ). set k ≡ true) s.next_second (closed (n + 1) (omega (arith, s.darts)) held))
          x l in
          let (z, z_in, z_face_number, z_held) = before x (omega (arith, s.darts, x_in)) in
          let reach : (y : ℕ) → y < n → face_number z ≡ face_number y → set y ≡ true = λ y l same. face_numbers.least set shut z y z_in l same (z_held held) in
          by_age n (λ y. next x ≡ next y → set y ≡ true)
          (λ y l same. reach y l (z_face_number ∙ same ∙ named.old y l))
          (λ same. subst (λ (k : ℕ). set k ≡ true) s.next_before
          (closed c (omega (arith, s.darts, c_in)) (reach c c_in (z_face_number ∙ same ∙ named.at_first ∙ sym (front e e_in)))))
          (λ same. subst (λ (k : ℕ). set k ≡ true) s.next_back
          (closed p (omega (arith, s.darts, p_in)) (reach p p_in (z_face_number ∙ same ∙ named.at_second ∙ sym (front t t_in)))))
          y (omega (arith, s.darts, y_in)) same;
    }
