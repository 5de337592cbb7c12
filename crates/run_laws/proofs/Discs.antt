-- What lies inside a rim: twice the vertices and faces strictly inside are the darts strictly inside and two, as of a disc.
use Rattle.std.proofs.Common.{◌≡◌, ◌≤◌, ◌<◌, ℕ, zero, suc, ◌+◌, ◌*◌, cond, eqb, Bool, true, false, not, ◌&&◌, refl, sym, ◌∙◌, ap, subst, inl, inr, arith}
use Rattle.std.proofs.lemmas.Bool.{cases_eq, cases_Bool, both_ways, and_parts, and_from, not-true, not_from_false, false_from_ne_true, cond-true, cond-false, eq-eqb, eqb-true, ne_eqb}
use Rattle.common.specs.Sums.{sum_below}
use Rattle.common.proofs.Sums.{sum_below-same, sum_below-add, sum_below-none, sum_below-one, sum_below-constant, sum_below-swapped, sum_below-turned}
use Rattle.faces.specs.Planes.{PlaneModel, IsPlane, darts, vertices, tail, head, reverse_dart, face_at}
use Rattle.faces.proofs.Ends.{plane_ends}
use Rattle.flow_network.proofs.Flowing.{chosen, chosen_arrives}
use Rattle.run_laws.specs.Frames.{FaceSet, IsRim, IsCycle, IsOnRim}
use Rattle.run_laws.proofs.Trees.{count_below}
use Rattle.run_laws.proofs.Rounds.{turned_cycle}
use Rattle.run_laws.proofs.Halves.{touches, touches_from, touched, on_rim, rim_touched, is_outside, enough_outside}

-- the faces outside
abbrev pub beyond : FaceSet → FaceSet
beyond inside f = not (inside f)

abbrev pub is_rim : PlaneModel → FaceSet → ℕ → Bool
is_rim p inside d = inside (face_at p d) && not (inside (face_at p (reverse_dart p d)))

pub rim_is : (p : PlaneModel) (inside : FaceSet) (d : ℕ) → d < darts p → is_rim p inside d ≡ true → IsRim p inside d
rim_is p inside d below on =
    let both = and_parts (inside (face_at p d)) (not (inside (face_at p (reverse_dart p d)))) on in
    record { dart = below; here = both.0; across = not-true (inside (face_at p (reverse_dart p d))) both.1 }

pub is_rim_from : (p : PlaneModel) (inside : FaceSet) (d : ℕ) → IsRim p inside d → is_rim p inside d ≡ true
is_rim_from p inside d rim = and_from (inside (face_at p d)) (not (inside (face_at p (reverse_dart p d)))) rim.here (not_from_false (inside (face_at p (reverse_dart p d))) rim.across)

-- how many rim darts arrive at a vertex
abbrev pub rims_at : PlaneModel → FaceSet → ℕ → ℕ
rims_at p inside v = sum_below (darts p) (λ d. cond (eqb (head p d) v) (cond (is_rim p inside d) 1 0) 0)

-- one at a vertex of the rim
pub one_at : (p : PlaneModel) (inside : FaceSet) → IsCycle p inside → (v : ℕ) → IsOnRim p inside v → rims_at p inside v ≡ 1
one_at p inside cycle v on =
    let rim = on.rim in
    sum_below-same (darts p) (λ d. cond (eqb (head p d) v) (cond (is_rim p inside d) 1 0) 0) (λ d. cond (eqb on.arrives d) 1 0)
    (λ d l. elim (cases_eq on.arrives d) [
      | inl is ↦ subst (λ (x : ℕ). cond {A = ℕ} (eqb (head p x) v) (cond (is_rim p inside x) 1 0) 0 ≡ cond {A = ℕ} (eqb on.arrives x) 1 0) is
          (cond-true {A = ℕ} (eqb (head p on.arrives) v) (cond (is_rim p inside on.arrives) 1 0) 0 (eq-eqb (head p on.arrives) v on.here)
          ∙ cond-true {A = ℕ} (is_rim p inside on.arrives) 1 0 (is_rim_from p inside on.arrives rim)
          ∙ sym (cond-true {A = ℕ} (eqb on.arrives on.arrives) 1 0 (eq-eqb on.arrives on.arrives refl)))
      | inr other ↦
          none (eqb (head p d) v) (is_rim p inside d)
          (λ at is. other (cycle.arrives_once on.arrives d rim (rim_is p inside d l is) (on.here ∙ sym (eqb-true (head p d) v at))))
          ∙ sym (cond-false {A = ℕ} (eqb on.arrives d) 1 0 (ne_eqb on.arrives d other))
    ])
    ∙ sum_below-one (darts p) on.arrives (λ _. 1) rim.dart
  where
    none : (a b : Bool) → (a ≡ true → b ≡ true → ⊥) → cond {A = ℕ} a (cond b 1 0) 0 ≡ 0
    none true true not_both = absurd (not_both refl refl)
    none true false not_both = refl
    none false b not_both = refl

-- none elsewhere
pub none_at : (p : PlaneModel) (inside : FaceSet) (v : ℕ) → ((d : ℕ) → IsRim p inside d → head p d ≡ v → ⊥) → rims_at p inside v ≡ 0
none_at p inside v away =
    sum_below-none (darts p) (λ d. cond (eqb (head p d) v) (cond (is_rim p inside d) 1 0) 0)
    (λ d l. none (eqb (head p d) v) (is_rim p inside d) (λ at is. away d (rim_is p inside d l is) (eqb-true (head p d) v at)))
  where
    none : (a b : Bool) → (a ≡ true → b ≡ true → ⊥) → cond {A = ℕ} a (cond b 1 0) 0 ≡ 0
    none true true not_both = absurd (not_both refl refl)
    none true false not_both = refl
    none false b not_both = refl

-- a vertex lies inside, outside or on the rim; place 0 is no vertex and counts on both sides
vertex_parts : (p : PlaneModel) → IsPlane p → (inside : FaceSet) → IsCycle p inside → (v : ℕ) → v < vertices p + 1
    → cond (not (touches p inside v)) 1 0 + cond (not (touches p (beyond inside) v)) 1 0 + rims_at p inside v ≡ 1 + cond (eqb 0 v) 1 0
vertex_parts p plane inside cycle zero below =
    two (cond (not (touches p inside 0)) 1 0) (cond (not (touches p (beyond inside) 0)) 1 0) (rims_at p inside 0) (cond (eqb 0 0) 1 0)
    (cond-true {A = ℕ} (not (touches p inside 0)) 1 0 (not_from_false (touches p inside 0) (untouched_zero inside)))
    (cond-true {A = ℕ} (not (touches p (beyond inside) 0)) 1 0 (not_from_false (touches p (beyond inside) 0) (untouched_zero (beyond inside))))
    (none_at p inside 0 (λ d rim at. let ends = plane_ends p plane in not_zero (head p d) (ends.head_from d rim.dart) at))
    (cond-true {A = ℕ} (eqb 0 0) 1 0 (eq-eqb 0 0 refl))
  where
    two : (a b r z : ℕ) → a ≡ 1 → b ≡ 1 → r ≡ 0 → z ≡ 1 → a + b + r ≡ 1 + z
    two a b r z ea eb er ez = omega arith

    not_zero : (x : ℕ) → 1 ≤ x → x ≡ 0 → ⊥
    not_zero x some none = omega arith

    at_zero : (filled : FaceSet) → ((d : ℕ) × (d < darts p) × (tail p d ≡ 0) × (filled (face_at p d) ≡ true)) → ⊥
    at_zero filled found = let ends = plane_ends p plane in not_zero (tail p found.0) (ends.tail_from found.0 found.1) found.2

    untouched_zero : (filled : FaceSet) → touches p filled 0 ≡ false
    untouched_zero filled = false_from_ne_true (touches p filled 0) (λ on. at_zero filled (touched p filled 0 on))
vertex_parts p plane inside cycle (suc k) below =
    let ends = plane_ends p plane in
    let zero_not : cond {A = ℕ} (eqb 0 (suc k)) 1 0 ≡ 0 = cond-false {A = ℕ} (eqb 0 (suc k)) 1 0 (ne_eqb 0 (suc k) (λ e. omega arith)) in
    elim (cases_Bool (touches p inside (suc k))) [
      | inl within ↦ elim (cases_Bool (touches p (beyond inside) (suc k))) [
        | inl without ↦
            let (e, e_in, e_at, e_on) = touched p (beyond inside) (suc k) without in
            let on : IsOnRim p inside (suc k) = on_rim p plane inside (suc k) e within e_in e_at (not-true (inside (face_at p e)) e_on) in
            one (cond (not (touches p inside (suc k))) 1 0) (cond (not (touches p (beyond inside) (suc k))) 1 0) (rims_at p inside (suc k)) (cond (eqb 0 (suc k)) 1 0) 0 0 1
            (shut (touches p inside (suc k)) within) (shut (touches p (beyond inside) (suc k)) without) (one_at p inside cycle (suc k) on) zero_not refl
        | inr free ↦
            one (cond (not (touches p inside (suc k))) 1 0) (cond (not (touches p (beyond inside) (suc k))) 1 0) (rims_at p inside (suc k)) (cond (eqb 0 (suc k)) 1 0) 0 1 0
            (shut (touches p inside (suc k)) within) (open_ (touches p (beyond inside) (suc k)) free)
            (none_at p inside (suc k) (λ d rim at. both_ways (touches p (beyond inside) (suc k)) free
            (subst (λ (u : ℕ). touches p (beyond inside) u ≡ true) (ends.reverse_dart_tail d rim.dart ∙ at)
            (touches_from p (beyond inside) (reverse_dart p d) (ends.reverse_dart_in_range d rim.dart) (not_from_false (inside (face_at p (reverse_dart p d))) rim.across)))))
            zero_not refl
      ]
      | inr off ↦
          let (arrives, here) = chosen_arrives p plane (suc k) (omega arith) (omega arith) in
          let e : ℕ = reverse_dart p (chosen p (suc k)) in
          let e_in : e < darts p = ends.reverse_dart_in_range (chosen p (suc k)) arrives in
          let e_at : tail p e ≡ suc k = ends.reverse_dart_tail (chosen p (suc k)) arrives ∙ here in
          let e_out : inside (face_at p e) ≡ false = false_from_ne_true (inside (face_at p e)) (λ on. both_ways (touches p inside (suc k)) off
          (subst (λ (u : ℕ). touches p inside u ≡ true) e_at (touches_from p inside e e_in on))) in
          let without : touches p (beyond inside) (suc k) ≡ true = subst (λ (u : ℕ). touches p (beyond inside) u ≡ true) e_at
          (touches_from p (beyond inside) e e_in (not_from_false (inside (face_at p e)) e_out)) in
          one (cond (not (touches p inside (suc k))) 1 0) (cond (not (touches p (beyond inside) (suc k))) 1 0) (rims_at p inside (suc k)) (cond (eqb 0 (suc k)) 1 0) 1 0 0
          (open_ (touches p inside (suc k)) off) (shut (touches p (beyond inside) (suc k)) without)
          (none_at p inside (suc k) (λ d rim at. both_ways (touches p inside (suc k)) off (rim_touched p plane inside (suc k) (record { arrives = d; rim = rim; here = at }))))
          zero_not refl
    ]
  where
    one : (a b r z x y w : ℕ) → a ≡ x → b ≡ y → r ≡ w → z ≡ 0 → x + y + w ≡ 1 → a + b + r ≡ 1 + z
    one a b r z x y w ea eb er ez all = omega arith

    shut : (t : Bool) → t ≡ true → cond {A = ℕ} (not t) 1 0 ≡ 0
    shut true on = refl
    shut false on = absurd (both_ways false refl on)

    open_ : (t : Bool) → t ≡ false → cond {A = ℕ} (not t) 1 0 ≡ 1
    open_ false off = refl
    open_ true off = absurd (both_ways true off refl)

-- all rim darts
rims_all : (p : PlaneModel) → IsPlane p → (inside : FaceSet) → sum_below (vertices p + 1) (rims_at p inside) ≡ count_below (darts p) (is_rim p inside)
rims_all p plane inside =
    let ends = plane_ends p plane in
    sum_below-swapped (vertices p + 1) (darts p) (λ v d. cond (eqb (head p d) v) (cond (is_rim p inside d) 1 0) 0)
    ∙ sum_below-same (darts p) (λ d. sum_below (vertices p + 1) (λ v. cond (eqb (head p d) v) (cond (is_rim p inside d) 1 0) 0)) (λ d. cond (is_rim p inside d) 1 0)
    (λ d l. sum_below-one (vertices p + 1) (head p d) (λ _. cond (is_rim p inside d) 1 0) (within (head p d) (vertices p) (ends.head_to d l)))
  where
    within : (x n : ℕ) → x ≤ n → x < n + 1
    within x n less = omega arith

vertices_parted : (p : PlaneModel) → IsPlane p → (inside : FaceSet) → IsCycle p inside
    → count_below (vertices p + 1) (λ v. not (touches p inside v)) + count_below (vertices p + 1) (λ v. not (touches p (beyond inside) v)) + count_below (darts p) (is_rim p inside) ≡ vertices p + 2
vertices_parted p plane inside cycle =
    let n : ℕ = vertices p + 1 in
    let a : ℕ → ℕ = λ v. cond (not (touches p inside v)) 1 0 in
    let b : ℕ → ℕ = λ v. cond (not (touches p (beyond inside) v)) 1 0 in
    let r : ℕ → ℕ = rims_at p inside in
    let whole : sum_below n (λ v. a v + b v + r v) ≡ sum_below n (λ v. 1 + cond (eqb 0 v) 1 0) =
    sum_below-same n (λ v. a v + b v + r v) (λ v. 1 + cond (eqb 0 v) 1 0) (vertex_parts p plane inside cycle) in
    close (vertices p) (sum_below n a) (sum_below n b) (count_below (darts p) (is_rim p inside)) (sum_below n r) (sum_below n (λ v. a v + b v)) (sum_below n (λ v. a v + b v + r v))
    (sum_below n (λ v. 1 + cond (eqb 0 v) 1 0)) (sum_below n (λ _. 1)) (sum_below n (λ v. cond (eqb 0 v) 1 0))
    whole (sum_below-add n (λ v. a v + b v) r) (sum_below-add n a b) (rims_all p plane inside)
    (sum_below-add n (λ _. 1) (λ v. cond (eqb 0 v) 1 0)) (sum_below-constant n 1) (sum_below-one n 0 (λ _. 1) (some (vertices p)))
  where
    some : (m : ℕ) → 0 < m + 1
    some m = omega arith

    close : (m a b c r ab abr whole ones zero_one : ℕ) → abr ≡ whole → abr ≡ ab + r → ab ≡ a + b → r ≡ c → whole ≡ ones + zero_one → ones ≡ (m + 1) * 1 → zero_one ≡ 1 → a + b + c ≡ m + 2
    close m a b c r ab abr whole ones zero_one e1 e2 e3 e4 e5 e6 e7 = omega arith

-- a dart lies inside, outside, or on the rim one way or the other
darts_parted : (p : PlaneModel) → IsPlane p → (inside : FaceSet)
    → count_below (darts p) (is_outside p inside) + count_below (darts p) (is_outside p (beyond inside)) + (count_below (darts p) (is_rim p inside) + count_below (darts p) (is_rim p inside)) ≡ darts p
darts_parted p plane inside =
    let ends = plane_ends p plane in
    let n : ℕ = darts p in
    let a : ℕ → ℕ = λ d. cond (is_outside p inside d) 1 0 in
    let b : ℕ → ℕ = λ d. cond (is_outside p (beyond inside) d) 1 0 in
    let r : ℕ → ℕ = λ d. cond (is_rim p inside d) 1 0 in
    let whole : sum_below n (λ d. a d + b d + (r d + r (reverse_dart p d))) ≡ sum_below n (λ _. 1) =
    sum_below-same n (λ d. a d + b d + (r d + r (reverse_dart p d))) (λ _. 1)
    (λ d l. one (inside (face_at p d)) (inside (face_at p (reverse_dart p d))) (inside (face_at p (reverse_dart p (reverse_dart p d)))) (ap (λ (x : ℕ). inside (face_at p x)) (ends.reverse_dart_back d l))) in
    close n (sum_below n a) (sum_below n b) (sum_below n r) (sum_below n (λ d. r (reverse_dart p d))) (sum_below n (λ d. a d + b d)) (sum_below n (λ d. r d + r (reverse_dart p d)))
    (sum_below n (λ d. a d + b d + (r d + r (reverse_dart p d)))) (sum_below n (λ _. 1)) whole
    (sum_below-add n (λ d. a d + b d) (λ d. r d + r (reverse_dart p d))) (sum_below-add n a b) (sum_below-add n r (λ d. r (reverse_dart p d)))
    (sum_below-turned n (reverse_dart p) r ends.reverse_dart_in_range ends.reverse_dart_back) (sum_below-constant n 1)
  where
    one : (x y z : Bool) → z ≡ x → cond (not x && not y) 1 0 + cond (not (not x) && not (not y)) 1 0 + (cond (x && not y) 1 0 + cond (y && not z) 1 0) ≡ 1
    one true true true e = refl
    one true false true e = refl
    one false true false e = refl
    one false false false e = refl
    one true y false e = absurd (both_ways false refl (e))
    one false y true e = absurd (both_ways true e refl)

    close : (n a b r s ab rs all ones : ℕ) → all ≡ ones → all ≡ ab + rs → ab ≡ a + b → rs ≡ r + s → s ≡ r → ones ≡ n * 1 → a + b + (r + r) ≡ n
    close n a b r s ab rs all ones e1 e2 e3 e4 e5 e6 = omega arith

faces_parted : (n : ℕ) (inside : FaceSet) → count_below n (λ f. not (inside f)) + count_below n (λ f. not (beyond inside f)) ≡ n
faces_parted n inside =
    close n (sum_below n (λ f. cond (not (inside f)) 1 0)) (sum_below n (λ f. cond (not (beyond inside f)) 1 0)) (sum_below n (λ f. cond (not (inside f)) 1 0 + cond (not (beyond inside f)) 1 0)) (sum_below n (λ _. 1))
    (sum_below-same n (λ f. cond (not (inside f)) 1 0 + cond (not (beyond inside f)) 1 0) (λ _. 1) (λ f l. one (inside f)))
    (sum_below-add n (λ f. cond (not (inside f)) 1 0) (λ f. cond (not (beyond inside f)) 1 0)) (sum_below-constant n 1)
  where
    one : (x : Bool) → cond (not x) 1 0 + cond (not (not x)) 1 0 ≡ 1
    one true = refl
    one false = refl

    close : (n a b ab ones : ℕ) → ab ≡ ones → ab ≡ a + b → ones ≡ n * 1 → a + b ≡ n
    close n a b ab ones e1 e2 e3 = omega arith

-- inside, with the rim as one place: twice the places and faces are the darts strictly inside and four
pub disc : (p : PlaneModel) → IsPlane p → (inside : FaceSet) → IsCycle p inside
    → (count_below (vertices p + 1) (λ v. not (touches p (beyond inside) v)) + count_below (vertices p + 1) (λ v. not (touches p (beyond inside) v)))
    + (count_below p.faces (λ f. not (beyond inside f)) + count_below p.faces (λ f. not (beyond inside f))) ≡ count_below (darts p) (is_outside p (beyond inside)) + 4
disc p plane inside cycle =
    close (vertices p) p.faces (darts p) (count_below (vertices p + 1) (λ v. not (touches p inside v))) (count_below (vertices p + 1) (λ v. not (touches p (beyond inside) v))) (count_below (darts p) (is_rim p inside))
    (count_below p.faces (λ f. not (inside f))) (count_below p.faces (λ f. not (beyond inside f))) (count_below (darts p) (is_outside p inside)) (count_below (darts p) (is_outside p (beyond inside)))
    (vertices_parted p plane inside cycle) (faces_parted p.faces inside) (darts_parted p plane inside)
    (enough_outside p plane inside cycle) (enough_outside p plane (beyond inside) (turned_cycle p plane inside cycle)) plane.euler
  where
    close : (v f d po pi r fo fi do_ di : ℕ) → po + pi + r ≡ v + 2 → fo + fi ≡ f → do_ + di + (r + r) ≡ d → (po + po) + (fo + fo) ≤ do_ + 4 → (pi + pi) + (fi + fi) ≤ di + 4 → 2 * (v + f) ≡ d + 4
        → (pi + pi) + (fi + fi) ≡ di + 4
    close v f d po pi r fo fi do_ di e1 e2 e3 e4 e5 e6 = omega arith
