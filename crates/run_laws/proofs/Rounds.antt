-- Going round: a vertex from dart to dart, and a rim from vertex to vertex on the other side of its faces.
use Rattle.std.proofs.Common.{◌≡◌, ◌<◌, ℕ, zero, suc, ◌+◌, ◌-◌, eqb, Bool, true, false, not, ◌&&◌, ◌||◌, List, [], length, get_or, refl, sym, ◌∙◌, ap, subst, inl, inr, arith}
use Rattle.std.proofs.lemmas.Bool.{cases_eq, cases_lt, cases_Bool, both_ways, and_parts, and_from, or_cases, or_left, or_right, not-true, not-false, not_from_true, not_from_false, eq-eqb, eqb-true}
use Rattle.embedding.specs.Darts.{first_dart, after_of}
use Rattle.embedding.proofs.Entries.{Stands, stands_at, dart_stands}
use Rattle.embedding.proofs.Rotation.{after_place, tail_at, dart_below}
use Rattle.faces.specs.Planes.{PlaneModel, IsPlane, darts, tail, head, after, reverse_dart, face_at}
use Rattle.faces.proofs.Ends.{plane_ends}
use Rattle.flow_network.proofs.VertexDegrees.{search_below}
use Rattle.run_laws.specs.Frames.{FaceSet, IsRim, IsCycle, IsOnRim}

-- ---- round a vertex

same_dart : (g : List (List ℕ)) (d e k i j : ℕ) → Stands 1 g d k i → Stands 1 g e k j → i ≡ j → d ≡ e
same_dart g d e k i j s t same = omega (arith, s.number, t.number)

-- a set that goes on from each dart of a list to the one after it has the later ones
later : (g : List (List ℕ)) (s : ℕ → Bool) (k : ℕ) → ((i d : ℕ) → Stands 1 g d k i → s d ≡ true → s (after_of g d) ≡ true)
    → (i m d e : ℕ) → Stands 1 g d k i → Stands 1 g e k (i + m) → s d ≡ true → s e ≡ true
later g s k shut i zero d e at to here = subst (λ (x : ℕ). s x ≡ true) (same_dart g d e k i (i + 0) at to (omega arith)) here
later g s k shut i (suc m) d e at to here =
    let (j, next, place) = after_place g d k i at in
    elim place [
      | inl p ↦ later g s k shut j m (after_of g d) e next
          (subst (λ (x : ℕ). Stands 1 g e k x) (omega (arith, p.1)) to) (shut i d at here)
      | inr p ↦ absurd (omega (arith, to.place, p.0))
    ]

-- and the first
to_first : (g : List (List ℕ)) (s : ℕ → Bool) (k : ℕ) → ((i d : ℕ) → Stands 1 g d k i → s d ≡ true → s (after_of g d) ≡ true)
    → (i m d : ℕ) → Stands 1 g d k i → i + m + 1 ≡ length (get_or g k []) → s d ≡ true → s (first_dart g k) ≡ true
to_first g s k shut i m d at last here =
    let end = stands_at 1 g (first_dart g k + (i + m)) k (i + m) at.list (omega arith) refl in
    let there : s (first_dart g k + (i + m)) ≡ true = later g s k shut i m d (first_dart g k + (i + m)) at end here in
    let (j, next, place) = after_place g (first_dart g k + (i + m)) k (i + m) end in
    elim place [
      | inl p ↦ absurd (omega (arith, p.0))
      | inr p ↦ subst (λ (x : ℕ). s x ≡ true) (omega (arith, next.number, p.1)) (shut (i + m) (first_dart g k + (i + m)) end there)
    ]

-- so all of the list
all_of_list : (g : List (List ℕ)) (s : ℕ → Bool) (k : ℕ) → ((i d : ℕ) → Stands 1 g d k i → s d ≡ true → s (after_of g d) ≡ true)
    → (i j d e : ℕ) → Stands 1 g d k i → Stands 1 g e k j → s d ≡ true → s e ≡ true
all_of_list g s k shut i j d e at to here =
    elim (cases_lt i (length (get_or g k []))) [
      | inl h ↦
          let m : (m : ℕ) × (i + m + 1 ≡ length (get_or g k [])) = gap i (length (get_or g k [])) h in
          let first = stands_at 1 g (first_dart g k) k 0 at.list (omega (arith, at.place)) (omega arith) in
          later g s k shut 0 j (first_dart g k) e first (subst (λ (x : ℕ). Stands 1 g e k x) (omega arith) to) (to_first g s k shut i m.0 d at m.1 here)
      | inr h ↦ absurd (omega (arith, at.place))
    ]
  where
    gap : (a b : ℕ) → a < b → (m : ℕ) × (a + m + 1 ≡ b)
    gap a b h = (b - suc a, omega arith)

-- a set that goes on from each dart that leaves a vertex to the one after it has all of them, if it has one
pub around : (p : PlaneModel) (s : ℕ → Bool) (v : ℕ) → ((d : ℕ) → d < darts p → tail p d ≡ v → s d ≡ true → s (after p d) ≡ true)
    → (d e : ℕ) → d < darts p → e < darts p → tail p d ≡ v → tail p e ≡ v → s d ≡ true → s e ≡ true
around p s v shut d e d_in e_in d_at e_at here =
    let (k, i, at) = dart_stands 1 p.lists d d_in in
    let (l, j, to) = dart_stands 1 p.lists e e_in in
    let k_is : suc k ≡ v = sym (tail_at p.lists d k i at) ∙ d_at in
    let l_is : suc l ≡ v = sym (tail_at p.lists e l j to) ∙ e_at in
    all_of_list p.lists s k (λ n x x_at. shut x (dart_below p.lists x k n x_at) (tail_at p.lists x k n x_at ∙ k_is))
    i j d e at (subst (λ (x : ℕ). Stands 1 p.lists e x j) (one_list k l v k_is l_is) to) here
  where
    one_list : (k l v : ℕ) → suc k ≡ v → suc l ≡ v → l ≡ k
    one_list k l v first second = omega arith

-- the face on the left of the dart after d lies on the right of d
pub face_after : (p : PlaneModel) → IsPlane p → (d : ℕ) → d < darts p → face_at p (after p d) ≡ face_at p (reverse_dart p d)
face_after p plane d below =
    let ends = plane_ends p plane in
    subst (λ (x : ℕ). face_at p (after p x) ≡ face_at p (reverse_dart p d)) (ends.reverse_dart_back d below)
    (plane.faces.closed (reverse_dart p d) (ends.reverse_dart_in_range d below))

abbrev pub same : Bool → Bool → Bool
same true b = b
same false b = not b

pub same_is : (a b : Bool) → same a b ≡ true → a ≡ b
same_is true b is = sym is
same_is false b is = sym (not-true b is)

pub same_from : (a b : Bool) → a ≡ b → same a b ≡ true
same_from true b is = sym is
same_from false b is = not_from_false b (sym is)

-- a set of faces that has both sides or none of each edge at a vertex but one has both or none of that one too
pub vertex_round : (p : PlaneModel) → IsPlane p → (s : ℕ → Bool) (e : ℕ) → e < darts p
    → ((d : ℕ) → d < darts p → tail p d ≡ tail p e → (d ≡ e → ⊥) → s (face_at p d) ≡ s (face_at p (reverse_dart p d)))
    → s (face_at p e) ≡ s (face_at p (reverse_dart p e))
vertex_round p plane s e e_in both =
    let ends = plane_ends p plane in
    let b : Bool = s (face_at p (reverse_dart p e)) in
    let t : ℕ → Bool = λ d. same (s (face_at p d)) b in
    let at_e : t (after p e) ≡ true = same_from (s (face_at p (after p e))) b (ap s (face_after p plane e e_in)) in
    let shut : (d : ℕ) → d < darts p → tail p d ≡ tail p e → t d ≡ true → t (after p d) ≡ true =
    λ d l at here. elim (cases_eq d e) [
      | inl is ↦ subst (λ (x : ℕ). t (after p x) ≡ true) (sym is) at_e
      | inr other ↦ same_from (s (face_at p (after p d))) b
          (ap s (face_after p plane d l) ∙ sym (both d l at other) ∙ same_is (s (face_at p d)) b here)
    ] in
    same_is (s (face_at p e)) b (around p t (tail p e) shut (after p e) e (ends.after_in_range e e_in) e_in (ends.after_tail e e_in) refl at_e)

-- ---- round a vertex of a rim, on the side that is not filled

-- a rim dart arrives where one leaves
pub leaves : (p : PlaneModel) → IsPlane p → (filled : FaceSet) (a : ℕ) → IsRim p filled a → (r : ℕ) × IsRim p filled r × (tail p r ≡ head p a)
leaves p plane filled a rim =
    let ends = plane_ends p plane in
    let v : ℕ = head p a in
    let back : ℕ = reverse_dart p a in
    let back_in : back < darts p = ends.reverse_dart_in_range a rim.dart in
    let back_at : tail p back ≡ v = ends.reverse_dart_tail a rim.dart in
    elim (search_below (darts p) (λ d. eqb (tail p d) v && (filled (face_at p d) && not (filled (face_at p (reverse_dart p d)))))) [
      | inl found ↦
          let one = and_parts (eqb (tail p found.0) v) (filled (face_at p found.0) && not (filled (face_at p (reverse_dart p found.0)))) found.2 in
          let two = and_parts (filled (face_at p found.0)) (not (filled (face_at p (reverse_dart p found.0)))) one.1 in
          (found.0, record { dart = found.1; here = two.0; across = not-true (filled (face_at p (reverse_dart p found.0))) two.1 }, eqb-true (tail p found.0) v one.0)
      | inr none ↦
          let shut : (d : ℕ) → d < darts p → tail p d ≡ v → filled (face_at p d) ≡ true → filled (face_at p (after p d)) ≡ true =
          λ d l at here. subst (λ (f : ℕ). filled f ≡ true) (sym (face_after p plane d l))
          (held (eqb (tail p d) v) (filled (face_at p d)) (filled (face_at p (reverse_dart p d))) (none d l) (eq-eqb (tail p d) v at) here) in
          let start : filled (face_at p (after p back)) ≡ true = subst (λ (f : ℕ). filled f ≡ true)
          (sym (face_after p plane back back_in ∙ ap (face_at p) (ends.reverse_dart_back a rim.dart))) rim.here in
          absurd (both_ways (filled (face_at p back)) rim.across
          (around p (λ d. filled (face_at p d)) v shut (after p back) back (ends.after_in_range back back_in) back_in (ends.after_tail back back_in ∙ back_at) back_at start))
    ]
  where
    held : (x y z : Bool) → (x && (y && not z)) ≡ false → x ≡ true → y ≡ true → z ≡ true
    held x y true none on here = refl
    held true true false none on here = sym none
    held true false false none on here = here
    held false y false none on here = on

-- from a rim dart that leaves the vertex on: what is so of the angle after the filled ones, and is kept across edges, is so of all
pub outer_walk : (p : PlaneModel) → IsPlane p → (filled : FaceSet) (s : ℕ → Bool) (b : Bool) (v r : ℕ) → IsRim p filled r → tail p r ≡ v
    → ((d : ℕ) → d < darts p → tail p d ≡ v → filled (face_at p d) ≡ false → filled (face_at p (reverse_dart p d)) ≡ false → s (face_at p d) ≡ b → s (face_at p (reverse_dart p d)) ≡ b)
    → ((d : ℕ) → IsRim p filled d → tail p d ≡ v → s (face_at p (reverse_dart p d)) ≡ b)
    → (d : ℕ) → d < darts p → tail p d ≡ v → filled (face_at p d) ≡ false → s (face_at p d) ≡ b
outer_walk p plane filled s b v r rim r_at crossing first d d_in d_at d_out =
    let t : ℕ → Bool = λ x. filled (face_at p x) || same (s (face_at p x)) b in
    let shut : (x : ℕ) → x < darts p → tail p x ≡ v → t x ≡ true → t (after p x) ≡ true =
    λ x l at here. elim (cases_Bool (filled (face_at p (reverse_dart p x)))) [
      | inl across ↦ or_left (filled (face_at p (after p x))) (same (s (face_at p (after p x))) b) (subst (λ (f : ℕ). filled f ≡ true) (sym (face_after p plane x l)) across)
      | inr across ↦
          let goes : s (face_at p (reverse_dart p x)) ≡ b = elim (cases_Bool (filled (face_at p x))) [
            | inl in_ ↦ first x (record { dart = l; here = in_; across = across }) at
            | inr out ↦ crossing x l at out across (elim (or_cases (filled (face_at p x)) (same (s (face_at p x)) b) here) [
              | inl in_ ↦ absurd (both_ways (filled (face_at p x)) out in_)
              | inr is ↦ same_is (s (face_at p x)) b is
            ])
          ] in
          or_right (filled (face_at p (after p x))) (same (s (face_at p (after p x))) b) (same_from (s (face_at p (after p x))) b (ap s (face_after p plane x l) ∙ goes))
    ] in
    let there : t d ≡ true = around p t v shut r d rim.dart d_in r_at d_at (or_left (filled (face_at p r)) (same (s (face_at p r)) b) rim.here) in
    elim (or_cases (filled (face_at p d)) (same (s (face_at p d)) b) there) [
      | inl in_ ↦ absurd (both_ways (filled (face_at p d)) d_out in_)
      | inr is ↦ same_is (s (face_at p d)) b is
    ]

-- ---- round a rim

-- at a vertex of the rim: a set that has both sides or none of each edge outside has the faces across both rim darts or neither
pub rim_passes : (p : PlaneModel) → IsPlane p → (filled : FaceSet) → IsCycle p filled → (s : ℕ → Bool) (a r : ℕ) → IsRim p filled a → IsRim p filled r → tail p r ≡ head p a
    → ((d : ℕ) → d < darts p → tail p d ≡ head p a → filled (face_at p d) ≡ false → filled (face_at p (reverse_dart p d)) ≡ false → s (face_at p d) ≡ s (face_at p (reverse_dart p d)))
    → s (face_at p (reverse_dart p a)) ≡ s (face_at p (reverse_dart p r))
rim_passes p plane filled cycle s a r a_rim r_rim r_at both =
    let ends = plane_ends p plane in
    outer_walk p plane filled s (s (face_at p (reverse_dart p r))) (head p a) r r_rim r_at
    (λ d l at out across is. sym (both d l at out across) ∙ is)
    (λ d rim at. ap (λ (x : ℕ). s (face_at p (reverse_dart p x))) (cycle.leaves_once d r rim r_rim (at ∙ sym r_at)))
    (reverse_dart p a) (ends.reverse_dart_in_range a a_rim.dart) (ends.reverse_dart_tail a a_rim.dart) a_rim.across

-- a set of faces that has both sides or none of each edge that leaves the rim outside, but one, has both or none of that one too
pub frame_round : (p : PlaneModel) → IsPlane p → (filled : FaceSet) → IsCycle p filled → (s : ℕ → Bool) (e : ℕ) → e < darts p → IsOnRim p filled (tail p e)
    → filled (face_at p e) ≡ false → filled (face_at p (reverse_dart p e)) ≡ false
    → ((d : ℕ) → d < darts p → IsOnRim p filled (tail p d) → filled (face_at p d) ≡ false → filled (face_at p (reverse_dart p d)) ≡ false → (d ≡ e → ⊥) → s (face_at p d) ≡ s (face_at p (reverse_dart p d)))
    → s (face_at p e) ≡ s (face_at p (reverse_dart p e))
frame_round p plane filled cycle s e e_in on e_out e_across both =
    let ends = plane_ends p plane in
    let v : ℕ = tail p e in
    let b : Bool = s (face_at p (reverse_dart p e)) in
    let a : ℕ = on.arrives in
    let (r, r_rim, r_from) = leaves p plane filled a on.rim in
    let r_at : tail p r ≡ v = r_from ∙ on.here in
    let goes_on : (d n : ℕ) → IsRim p filled d → IsRim p filled n → tail p n ≡ head p d
    → same (s (face_at p (reverse_dart p d))) (s (face_at p (reverse_dart p r))) ≡ true → same (s (face_at p (reverse_dart p n))) (s (face_at p (reverse_dart p r))) ≡ true =
    λ d n d_rim n_rim n_at is. elim (cases_eq (tail p n) v) [
      | inl here ↦ same_from (s (face_at p (reverse_dart p n))) (s (face_at p (reverse_dart p r)))
          (ap (λ (x : ℕ). s (face_at p (reverse_dart p x))) (cycle.leaves_once n r n_rim r_rim (here ∙ sym r_at)))
      | inr away ↦ same_from (s (face_at p (reverse_dart p n))) (s (face_at p (reverse_dart p r)))
          (sym (rim_passes p plane filled cycle s d n d_rim n_rim n_at
          (λ x l at out across. both x l (record { arrives = d; rim = d_rim; here = sym at }) out across (λ is_e. away (n_at ∙ sym at ∙ ap (tail p) is_e))))
          ∙ same_is (s (face_at p (reverse_dart p d))) (s (face_at p (reverse_dart p r))) is)
    ] in
    let alike : s (face_at p (reverse_dart p a)) ≡ s (face_at p (reverse_dart p r)) =
    same_is (s (face_at p (reverse_dart p a))) (s (face_at p (reverse_dart p r)))
    (cycle.one (λ x. same (s (face_at p (reverse_dart p x))) (s (face_at p (reverse_dart p r)))) goes_on r a r_rim on.rim (same_from (s (face_at p (reverse_dart p r))) (s (face_at p (reverse_dart p r))) refl)) in
    let crossing : (d : ℕ) → d < darts p → tail p d ≡ v → filled (face_at p d) ≡ false → filled (face_at p (reverse_dart p d)) ≡ false → s (face_at p d) ≡ b → s (face_at p (reverse_dart p d)) ≡ b =
    λ d l at out across is. elim (cases_eq d e) [
      | inl same_e ↦ ap (λ (x : ℕ). s (face_at p (reverse_dart p x))) same_e
      | inr other ↦ sym (both d l (record { arrives = a; rim = on.rim; here = on.here ∙ sym at }) out across other) ∙ is
    ] in
    elim (cases_Bool (same (s (face_at p (reverse_dart p r))) b)) [
      | inl is ↦ outer_walk p plane filled s b v r r_rim r_at crossing
          (λ d rim at. ap (λ (x : ℕ). s (face_at p (reverse_dart p x))) (cycle.leaves_once d r rim r_rim (at ∙ sym r_at)) ∙ same_is (s (face_at p (reverse_dart p r))) b is)
          e e_in refl e_out
      | inr not_b ↦
          let w : ℕ → Bool = λ d. not (filled (face_at p d)) && same (s (face_at p d)) b in
          let put : (d : ℕ) → filled (face_at p d) ≡ false → s (face_at p d) ≡ b → w d ≡ true =
          λ d out is_b. and_from (not (filled (face_at p d))) (same (s (face_at p d)) b) (not_from_false (filled (face_at p d)) out) (same_from (s (face_at p d)) b is_b) in
          let shut : (d : ℕ) → d < darts p → tail p d ≡ v → w d ≡ true → w (after p d) ≡ true =
          λ d l at here.
          let parts = and_parts (not (filled (face_at p d))) (same (s (face_at p d)) b) here in
          let out : filled (face_at p d) ≡ false = not-true (filled (face_at p d)) parts.0 in
          let is_b : s (face_at p d) ≡ b = same_is (s (face_at p d)) b parts.1 in
          elim (cases_Bool (filled (face_at p (reverse_dart p d)))) [
            | inl across ↦
                let back_rim : IsRim p filled (reverse_dart p d) = record {
                  dart = ends.reverse_dart_in_range d l;
                  here = across;
                  across = subst (λ (x : ℕ). filled (face_at p x) ≡ false) (sym (ends.reverse_dart_back d l)) out;
                } in
                let is_a : reverse_dart p d ≡ a = cycle.arrives_once (reverse_dart p d) a back_rim on.rim (ends.reverse_dart_head d l ∙ at ∙ sym on.here) in
                let d_is : d ≡ reverse_dart p a = sym (ends.reverse_dart_back d l) ∙ ap (reverse_dart p) is_a in
                let a_b : s (face_at p (reverse_dart p r)) ≡ b = sym alike ∙ sym (ap (λ (x : ℕ). s (face_at p x)) d_is) ∙ is_b in
                absurd (both_ways (same (s (face_at p (reverse_dart p r))) b) not_b (same_from (s (face_at p (reverse_dart p r))) b a_b))
            | inr across ↦ put (after p d) (subst (λ (f : ℕ). filled f ≡ false) (sym (face_after p plane d l)) across)
                (ap s (face_after p plane d l) ∙ crossing d l at out across is_b)
          ] in
          let start : w (after p e) ≡ true = put (after p e) (subst (λ (f : ℕ). filled f ≡ false) (sym (face_after p plane e e_in)) e_across) (ap s (face_after p plane e e_in)) in
          let at_r : w r ≡ true = around p w v shut (after p e) r (ends.after_in_range e e_in) r_rim.dart (ends.after_tail e e_in) r_at start in
          let no = and_parts (not (filled (face_at p r))) (same (s (face_at p r)) b) at_r in
          absurd (both_ways (filled (face_at p r)) (not-true (filled (face_at p r)) no.0) r_rim.here)
    ]

-- with no edge left out, all faces outside at the rim are in the set, or none
pub outside_alike : (p : PlaneModel) → IsPlane p → (filled : FaceSet) → IsCycle p filled → (s : ℕ → Bool)
    → ((d : ℕ) → d < darts p → IsOnRim p filled (tail p d) → filled (face_at p d) ≡ false → filled (face_at p (reverse_dart p d)) ≡ false → s (face_at p d) ≡ s (face_at p (reverse_dart p d)))
    → (d e : ℕ) → d < darts p → e < darts p → IsOnRim p filled (tail p d) → IsOnRim p filled (tail p e) → filled (face_at p d) ≡ false → filled (face_at p e) ≡ false → s (face_at p d) ≡ s (face_at p e)
outside_alike p plane filled cycle s both d e d_in e_in d_on e_on d_out e_out = at_first d d_in d_on d_out ∙ sym (at_first e e_in e_on e_out)
  where
    first_is : Bool
    first_is = s (face_at p (reverse_dart p cycle.first))

    each_rim : (x : ℕ) → IsRim p filled x → s (face_at p (reverse_dart p x)) ≡ s (face_at p (reverse_dart p cycle.first))
    each_rim x rim = same_is (s (face_at p (reverse_dart p x))) (s (face_at p (reverse_dart p cycle.first)))
        (cycle.one (λ y. same (s (face_at p (reverse_dart p y))) (s (face_at p (reverse_dart p cycle.first))))
        (λ y n y_rim n_rim n_at is. same_from (s (face_at p (reverse_dart p n))) (s (face_at p (reverse_dart p cycle.first)))
        (sym (rim_passes p plane filled cycle s y n y_rim n_rim n_at (λ z l at out across. both z l (record { arrives = y; rim = y_rim; here = sym at }) out across))
        ∙ same_is (s (face_at p (reverse_dart p y))) (s (face_at p (reverse_dart p cycle.first))) is))
        cycle.first x cycle.some rim (same_from (s (face_at p (reverse_dart p cycle.first))) (s (face_at p (reverse_dart p cycle.first))) refl))

    at_first : (x : ℕ) → x < darts p → IsOnRim p filled (tail p x) → filled (face_at p x) ≡ false → s (face_at p x) ≡ s (face_at p (reverse_dart p cycle.first))
    at_first x x_in on out =
        let (r, r_rim, r_from) = leaves p plane filled on.arrives on.rim in
        outer_walk p plane filled s (s (face_at p (reverse_dart p cycle.first))) (tail p x) r r_rim (r_from ∙ on.here)
        (λ y l at out across is. sym (both y l (record { arrives = on.arrives; rim = on.rim; here = on.here ∙ sym at }) out across) ∙ is)
        (λ y rim at. each_rim y rim) x x_in refl out

-- ---- the other side of a rim

-- the faces outside have the same rim, with its darts turned
pub turned_rim : (p : PlaneModel) → IsPlane p → (inside : FaceSet) (d : ℕ) → IsRim p (λ f. not (inside f)) d → IsRim p inside (reverse_dart p d)
turned_rim p plane inside d rim =
    let ends = plane_ends p plane in
    record {
      dart = ends.reverse_dart_in_range d rim.dart;
      here = not-false (inside (face_at p (reverse_dart p d))) rim.across;
      across = subst (λ (x : ℕ). inside (face_at p x) ≡ false) (sym (ends.reverse_dart_back d rim.dart)) (not-true (inside (face_at p d)) rim.here);
    }

pub rim_turned : (p : PlaneModel) → IsPlane p → (inside : FaceSet) (d : ℕ) → IsRim p inside d → IsRim p (λ f. not (inside f)) (reverse_dart p d)
rim_turned p plane inside d rim =
    let ends = plane_ends p plane in
    record {
      dart = ends.reverse_dart_in_range d rim.dart;
      here = not_from_false (inside (face_at p (reverse_dart p d))) rim.across;
      across = subst (λ (x : ℕ). not (inside (face_at p x)) ≡ false) (sym (ends.reverse_dart_back d rim.dart)) (not_from_true (inside (face_at p d)) rim.here);
    }

pub turned_cycle : (p : PlaneModel) → IsPlane p → (inside : FaceSet) → IsCycle p inside → IsCycle p (λ f. not (inside f))
turned_cycle p plane inside cycle = record {
  first = reverse_dart p cycle.first;
  some = rim_turned p plane inside cycle.first cycle.some;
  arrives_once = λ d e d_rim e_rim at. unturned d e d_rim e_rim
      (cycle.leaves_once (reverse_dart p d) (reverse_dart p e) (turned_rim p plane inside d d_rim) (turned_rim p plane inside e e_rim)
      (tail_is d d_rim.dart ∙ at ∙ sym (tail_is e e_rim.dart)));
  leaves_once = λ d e d_rim e_rim at. unturned d e d_rim e_rim
      (cycle.arrives_once (reverse_dart p d) (reverse_dart p e) (turned_rim p plane inside d d_rim) (turned_rim p plane inside e e_rim)
      (head_is d d_rim.dart ∙ at ∙ sym (head_is e e_rim.dart)));
  one = λ s goes d e d_rim e_rim here. elim (cases_Bool (s e)) [
    | inl there ↦ there
    | inr none ↦
        let u : ℕ → Bool = λ x. not (s (reverse_dart p x)) in
        let at_e : u (reverse_dart p e) ≡ true = not_from_false (s (reverse_dart p (reverse_dart p e))) (subst (λ (x : ℕ). s x ≡ false) (sym (back e e_rim.dart)) none) in
        let at_d : u (reverse_dart p d) ≡ true = cycle.one u
        (λ x y x_rim y_rim y_at on. elim (cases_Bool (s (reverse_dart p y))) [
          | inl there ↦ absurd (both_ways (s (reverse_dart p x)) (not-true (s (reverse_dart p x)) on)
              (goes (reverse_dart p y) (reverse_dart p x) (rim_turned p plane inside y y_rim) (rim_turned p plane inside x x_rim)
              (tail_is x x_rim.dart ∙ sym y_at ∙ sym (head_is y y_rim.dart)) there))
          | inr off ↦ not_from_false (s (reverse_dart p y)) off
        ])
        (reverse_dart p e) (reverse_dart p d) (turned_rim p plane inside e e_rim) (turned_rim p plane inside d d_rim) at_e in
        let off : s (reverse_dart p (reverse_dart p d)) ≡ false = not-true (s (reverse_dart p (reverse_dart p d))) at_d in
        absurd (both_ways (s d) (subst (λ (x : ℕ). s x ≡ false) (back d d_rim.dart) off) here)
  ];
}
  where
    back : (d : ℕ) → d < darts p → reverse_dart p (reverse_dart p d) ≡ d
    back d l = let ends = plane_ends p plane in ends.reverse_dart_back d l

    tail_is : (d : ℕ) → d < darts p → tail p (reverse_dart p d) ≡ head p d
    tail_is d l = let ends = plane_ends p plane in ends.reverse_dart_tail d l

    head_is : (d : ℕ) → d < darts p → head p (reverse_dart p d) ≡ tail p d
    head_is d l = let ends = plane_ends p plane in ends.reverse_dart_head d l

    unturned : (d e : ℕ) → IsRim p (λ f. not (inside f)) d → IsRim p (λ f. not (inside f)) e → reverse_dart p d ≡ reverse_dart p e → d ≡ e
    unturned d e d_rim e_rim is = sym (back d d_rim.dart) ∙ ap (reverse_dart p) is ∙ back e e_rim.dart
