-- What the writes of a subdivision and of a chord make of a table.
use Rattle.std.proofs.Common.{◌≡◌, ◌≢◌, ℕ, ◌+◌, ◌-◌, ◌%◌, ◌<◌, ◌≤◌, ◌∙◌, List, length, get_or, set, arith, subst, sym, ap, refl, get_or-set_same, get_or-set_other}
use Rattle.std.proofs.Math.ListN.{length-set}
use Rattle.dissect.specs.DartMaps.{DartMap, IsTied, IsSubdivided}

-- the map of plain lists
abbrev pub dart_map_from : (n v : ℕ) (next prev reverse_dart head direction angle before : List ℕ) → DartMap
dart_map_from n v next prev reverse_dart head direction angle before = record {
  darts = n;
  vertices = v;
  next = λ a. get_or next a 0;
  prev = λ a. get_or prev a 0;
  reverse_dart = λ a. get_or reverse_dart a 0;
  head = λ a. get_or head a 0;
  direction = λ a. get_or direction a 0;
  angle = λ a. get_or angle a 0;
  before = λ a. get_or before a 0;
}

-- two writes at different places
pub record Twice (xs : List ℕ) (i x j y : ℕ) (ys : List ℕ) : Type 0 where
  pub length : length ys ≡ length xs
  pub first : get_or ys i 0 ≡ x
  pub second : get_or ys j 0 ≡ y
  pub other : (a : ℕ) → a ≢ i → a ≢ j → get_or ys a 0 ≡ get_or xs a 0

pub twice : (xs ys : List ℕ) (i x j y : ℕ) → i ≢ j → i < length xs → j < length xs → ys ≡ set (set xs i x) j y → Twice xs i x j y ys
twice xs ys i x j y apart i_in j_in said =
    subst (λ (zs : List ℕ). Twice xs i x j y zs) (sym said) (record {
      length = length-set (set xs i x) j y ∙ length-set xs i x;
      first = get_or-set_other (set xs i x) j i y 0 apart ∙ get_or-set_same xs i x 0 i_in;
      second = get_or-set_same (set xs i x) j y 0 (omega (arith, length-set xs i x, j_in));
      other = λ a ni nj. get_or-set_other (set xs i x) j a y 0 nj ∙ get_or-set_other xs i a x 0 ni;
    })

pub split_made : (n v e t way bend : ℕ) (N N1 N2 P P1 P2 T T1 T2 H H2 D D2 A A2 B B1 B2 : List ℕ) →
    IsTied (dart_map_from n v N P T H D A B) → e < n → t ≡ get_or T e 0 →
    n + 2 ≤ length N → n + 2 ≤ length P → n + 2 ≤ length T → n + 2 ≤ length H → n + 2 ≤ length D → n + 2 ≤ length A → n + 2 ≤ length B →
    N1 ≡ set (set N (get_or P e 0) n) n e → P1 ≡ set (set P n (get_or P e 0)) e n →
    N2 ≡ set (set N1 (get_or P1 t 0) (n + 1)) (n + 1) t → P2 ≡ set (set P1 (n + 1) (get_or P1 t 0)) t (n + 1) →
    T1 ≡ set (set T e (n + 1)) (n + 1) e → T2 ≡ set (set T1 t n) n t →
    B1 ≡ set (set B n (get_or B e 0)) e n → B2 ≡ set (set B1 (n + 1) (get_or B1 t 0)) t (n + 1) →
    H2 ≡ set (set H n v) (n + 1) v → D2 ≡ set (set D n way) (n + 1) ((way + 4 - bend) % 4) → A2 ≡ set (set A n bend) (n + 1) (4 - bend) →
    IsSubdivided (dart_map_from n v N P T H D A B) e way bend (dart_map_from (n + 2) (v + 1) N2 P2 T2 H2 D2 A2 B2)
split_made n v e t way bend N N1 N2 P P1 P2 T T1 T2 H H2 D D2 A A2 B B1 B2 tied e_in t_is
    long_N long_P long_T long_H long_D long_A long_B said_N1 said_P1 said_N2 said_P2 said_T1 said_T2 said_B1 said_B2 said_H said_D said_A =
    let c : ℕ = get_or P e 0 in
    let t_in : t < n = omega (arith, tied.reverse_dart_in e e_in, t_is) in
    let te : t ≢ e = λ h. tied.reverse_dart_apart e e_in (sym t_is ∙ h) in
    let c_in : c < n = tied.prev_in e e_in in
    let p : ℕ = get_or P t 0 in
    let p_in : p < n = tied.prev_in t t_in in
    let cp : c ≢ p = λ h. te (sym (tied.prev_back t t_in) ∙ ap (λ (k : ℕ). get_or N k 0) (sym h) ∙ tied.prev_back e e_in) in
    let two_N = twice N N1 c n n e (λ h. omega (arith, h, c_in)) (omega (arith, c_in, long_N)) (omega (arith, long_N)) said_N1 in
    let two_P = twice P P1 n c e n (λ h. omega (arith, h, e_in)) (omega (arith, long_P)) (omega (arith, e_in, long_P)) said_P1 in
    let p_same : get_or P1 t 0 ≡ p = two_P.other t (λ h. omega (arith, h, t_in)) te in
    let said_N2' : N2 ≡ set (set N1 p (n + 1)) (n + 1) t = subst (λ (k : ℕ). N2 ≡ set (set N1 k (n + 1)) (n + 1) t) p_same said_N2 in
    let said_P2' : P2 ≡ set (set P1 (n + 1) p) t (n + 1) = subst (λ (k : ℕ). P2 ≡ set (set P1 (n + 1) k) t (n + 1)) p_same said_P2 in
    let more_N = twice N1 N2 p (n + 1) (n + 1) t (λ h. omega (arith, h, p_in)) (omega (arith, p_in, long_N, two_N.length))
    (omega (arith, long_N, two_N.length)) said_N2' in
    let more_P = twice P1 P2 (n + 1) p t (n + 1) (λ h. omega (arith, h, t_in)) (omega (arith, long_P, two_P.length))
    (omega (arith, t_in, long_P, two_P.length)) said_P2' in
    let two_T = twice T T1 e (n + 1) (n + 1) e (λ h. omega (arith, h, e_in)) (omega (arith, e_in, long_T)) (omega (arith, long_T)) said_T1 in
    let more_T = twice T1 T2 t n n t (λ h. omega (arith, h, t_in)) (omega (arith, t_in, long_T, two_T.length))
    (omega (arith, long_T, two_T.length)) said_T2 in
    let two_B = twice B B1 n (get_or B e 0) e n (λ h. omega (arith, h, e_in)) (omega (arith, long_B)) (omega (arith, e_in, long_B)) said_B1 in
    let b_same : get_or B1 t 0 ≡ get_or B t 0 = two_B.other t (λ h. omega (arith, h, t_in)) te in
    let more_B = twice B1 B2 (n + 1) (get_or B1 t 0) t (n + 1) (λ h. omega (arith, h, t_in)) (omega (arith, long_B, two_B.length))
    (omega (arith, t_in, long_B, two_B.length)) said_B2 in
    let two_H = twice H H2 n v (n + 1) v (λ h. omega (arith, h)) (omega (arith, long_H)) (omega (arith, long_H)) said_H in
    let two_D = twice D D2 n way (n + 1) ((way + 4 - bend) % 4) (λ h. omega (arith, h)) (omega (arith, long_D)) (omega (arith, long_D)) said_D in
    let two_A = twice A A2 n bend (n + 1) (4 - bend) (λ h. omega (arith, h)) (omega (arith, long_A)) (omega (arith, long_A)) said_A in
    let not_new : (a : ℕ) → a < n → (a ≢ n) × (a ≢ n + 1) = λ a l. ((λ h. omega (arith, h, l)), (λ h. omega (arith, h, l))) in
    record {
      darts = refl;
      vertices = refl;
      next_before = more_N.other c cp (not_new c c_in).1 ∙ two_N.first;
      next_first = more_N.other n (λ h. (not_new p p_in).0 (sym h)) (λ h. omega (arith, h)) ∙ two_N.second;
      next_back = ap (λ (k : ℕ). get_or N2 (get_or P k 0) 0) (sym t_is) ∙ more_N.first;
      next_second = more_N.second ∙ t_is;
      next_other = λ a l nc np.
          let np' : a ≢ p = λ h. np (h ∙ ap (λ (k : ℕ). get_or P k 0) t_is) in
          more_N.other a np' (not_new a l).1 ∙ two_N.other a nc (not_new a l).0;
      prev_first = more_P.other n (λ h. omega (arith, h)) (λ h. (not_new t t_in).0 (sym h)) ∙ two_P.first;
      prev_e = more_P.other e (not_new e e_in).1 (λ h. te (sym h)) ∙ two_P.second;
      prev_second = more_P.first ∙ ap (λ (k : ℕ). get_or P k 0) t_is;
      prev_reverse_dart = ap (λ (k : ℕ). get_or P2 k 0) (sym t_is) ∙ more_P.second;
      prev_other = λ a l ne nt.
          more_P.other a (not_new a l).1 (λ h. nt (h ∙ t_is)) ∙ two_P.other a (not_new a l).0 ne;
      reverse_dart_e = more_T.other e (λ h. te (sym h)) (not_new e e_in).0 ∙ two_T.first;
      reverse_dart_second = more_T.other (n + 1) (λ h. (not_new t t_in).1 (sym h)) (λ h. omega (arith, h)) ∙ two_T.second;
      reverse_dart_reverse_dart = ap (λ (k : ℕ). get_or T2 k 0) (sym t_is) ∙ more_T.first;
      reverse_dart_first = more_T.second ∙ t_is;
      reverse_dart_other = λ a l ne nt. more_T.other a (λ h. nt (h ∙ t_is)) (not_new a l).0 ∙ two_T.other a ne (not_new a l).1;
      head_old = λ a l. two_H.other a (not_new a l).0 (not_new a l).1;
      head_first = two_H.first;
      head_second = two_H.second;
      direction_old = λ a l. two_D.other a (not_new a l).0 (not_new a l).1;
      direction_first = two_D.first;
      direction_second = two_D.second;
      angle_old = λ a l. two_A.other a (not_new a l).0 (not_new a l).1;
      angle_first = two_A.first;
      angle_second = two_A.second;
      before_e = more_B.other e (not_new e e_in).1 (λ h. te (sym h)) ∙ two_B.second;
      before_first = more_B.other n (λ h. omega (arith, h)) (λ h. (not_new t t_in).0 (sym h)) ∙ two_B.first;
      before_reverse_dart = ap (λ (k : ℕ). get_or B2 k 0) (sym t_is) ∙ more_B.second;
      before_second = more_B.first ∙ b_same ∙ ap (λ (k : ℕ). get_or B k 0) t_is;
      before_other = λ a l ne nt. more_B.other a (not_new a l).1 (λ h. nt (h ∙ t_is)) ∙ two_B.other a (not_new a l).0 ne;
    }
