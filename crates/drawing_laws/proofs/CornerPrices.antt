-- The darts from one vertex follow one another in a circle of at most four, so the faces at its corners have prices near one another.
use Rattle.std.proofs.Common.{◌≡◌, ◌≢◌, ◌≤◌, ◌<◌, ◌⊎◌, ℕ, suc, ◌+◌, List, [], length, get_or, inl, inr, sym, ap, ◌∙◌, subst, arith}
use Rattle.std.proofs.lemmas.Bool.{cases_eq}
use Rattle.embedding.proofs.Entries.{Stands, dart_stands}
use Rattle.embedding.proofs.Rotation.{after_place}
use Rattle.embedding.proofs.KeptFacts.{list_of-short}
use Rattle.ortho_rep.specs.declared.turn_strings.Turn.{Turn}
use Rattle.faces.specs.Planes.{PlaneModel, IsPlane, HasEnds, darts, tail, reverse_dart, after, face_at}
use Rattle.faces.proofs.Ends.{seven_rules}
use Rattle.drawing_laws.proofs.Shifted.{AreFacePrices}

-- place j comes after place i in a circle of n
abbrev Follows : ℕ → ℕ → ℕ → Type 0
Follows n i j = ((i + 1 < n) × (j ≡ i + 1)) ⊎ ((i + 1 ≡ n) × (j ≡ 0))

-- in a circle of four no place is apart from another, the two after it and the one before it
none_apart : (n i j a b c : ℕ) → n ≤ 4 → i < n → j < n → Follows n i a → Follows n a b → Follows n j c → j ≢ i → j ≢ a → j ≢ b → c ≢ i → ⊥
none_apart n i j a b c few i_in j_in (inl (h1, e1)) (inl (h2, e2)) (inl (h3, e3)) w x y z = omega arith
none_apart n i j a b c few i_in j_in (inl (h1, e1)) (inl (h2, e2)) (inr (h3, e3)) w x y z = omega arith
none_apart n i j a b c few i_in j_in (inl (h1, e1)) (inr (h2, e2)) (inl (h3, e3)) w x y z = omega arith
none_apart n i j a b c few i_in j_in (inl (h1, e1)) (inr (h2, e2)) (inr (h3, e3)) w x y z = omega arith
none_apart n i j a b c few i_in j_in (inr (h1, e1)) (inl (h2, e2)) (inl (h3, e3)) w x y z = omega arith
none_apart n i j a b c few i_in j_in (inr (h1, e1)) (inl (h2, e2)) (inr (h3, e3)) w x y z = omega arith
none_apart n i j a b c few i_in j_in (inr (h1, e1)) (inr (h2, e2)) (inl (h3, e3)) w x y z = omega arith
none_apart n i j a b c few i_in j_in (inr (h1, e1)) (inr (h2, e2)) (inr (h3, e3)) w x y z = omega arith

places : (n i j a b c : ℕ) → n ≤ 4 → i < n → j < n → Follows n i a → Follows n a b → Follows n j c → (j ≡ i) ⊎ ((j ≡ a) ⊎ ((j ≡ b) ⊎ (c ≡ i)))
places n i j a b c few i_in j_in first second back =
    elim (cases_eq j i) [
      | inl e ↦ inl e
      | inr w ↦ elim (cases_eq j a) [
        | inl e ↦ inr (inl e)
        | inr x ↦ elim (cases_eq j b) [
          | inl e ↦ inr (inr (inl e))
          | inr y ↦ elim (cases_eq c i) [
            | inl e ↦ inr (inr (inr e))
            | inr z ↦ absurd (none_apart n i j a b c few i_in j_in first second back w x y z)
          ]
        ]
      ]
    ]

-- a dart from the same vertex is the dart, the first or the second after it, or the one before it
circle : (p : PlaneModel) → IsPlane p → (d e : ℕ) → d < darts p → e < darts p → tail p e ≡ tail p d
    → (e ≡ d) ⊎ ((e ≡ after p d) ⊎ ((e ≡ after p (after p d)) ⊎ (after p e ≡ d)))
circle p plane d e l m same =
    let (k, i, s) = dart_stands 1 p.lists d l in
    let (k', j, t') = dart_stands 1 p.lists e m in
    let list : k' ≡ k = omega (arith, s.tail, t'.tail, same) in
    let t : Stands 1 p.lists e k j = subst (λ (x : ℕ). Stands 1 p.lists e x j) list t' in
    let (a, s1, first) = after_place p.lists d k i s in
    let (b, s2, second) = after_place p.lists (after p d) k a s1 in
    let (c, t1, back) = after_place p.lists e k j t in
    let few : length (get_or p.lists k []) ≤ 4 = list_of-short p.lists (seven_rules p.lists plane.rules) (suc k) in
    elim (places (length (get_or p.lists k [])) i j a b c few s.place t.place first second back) [
      | inl is ↦ inl (omega (arith, s.number, t.number, is))
      | inr (inl is) ↦ inr (inl (omega (arith, s1.number, t.number, is)))
      | inr (inr (inl is)) ↦ inr (inr (inl (omega (arith, s2.number, t.number, is))))
      | inr (inr (inr is)) ↦ inr (inr (inr (omega (arith, t1.number, s.number, is))))
    ]

-- the face of the dart after d is the face across d
after_face : (p : PlaneModel) → IsPlane p → HasEnds p → (d : ℕ) → d < darts p → face_at p (after p d) ≡ face_at p (reverse_dart p d)
after_face p plane ends d l =
    ap (λ (x : ℕ). face_at p (after p x)) (sym (ends.reverse_dart_back d l)) ∙ plane.faces.closed (reverse_dart p d) (ends.reverse_dart_in_range d l)

-- where the two faces of a dart have prices of at most w, the face of each dart from its tail has one of at most w + 1
pub near_tail : (p : PlaneModel) (a : ℕ → ℕ) (s : ℕ → List Turn) (y : ℕ → ℕ) → IsPlane p → HasEnds p → AreFacePrices p a s y
    → (d e w : ℕ) → d < darts p → e < darts p → tail p e ≡ tail p d → y (face_at p d) ≤ w → y (face_at p (reverse_dart p d)) ≤ w → y (face_at p e) ≤ w + 1
near_tail p a s y plane ends prices d e w l m same here across =
    let one : y (face_at p (after p d)) ≡ y (face_at p (reverse_dart p d)) = ap y (after_face p plane ends d l) in
    elim (circle p plane d e l m same) [
      | inl is ↦ omega (arith, here, ap (λ (x : ℕ). y (face_at p x)) is)
      | inr (inl is) ↦ omega (arith, across, one, ap (λ (x : ℕ). y (face_at p x)) is)
      | inr (inr (inl is)) ↦
          let inside = ends.after_in_range d l in
          omega (arith, across, one, ap y (after_face p plane ends (after p d) inside), prices.near (after p d) inside, ap (λ (x : ℕ). y (face_at p x)) is)
      | inr (inr (inr is)) ↦
          let back : y (face_at p (reverse_dart p (reverse_dart p e))) ≡ y (face_at p e) = ap (λ (x : ℕ). y (face_at p x)) (ends.reverse_dart_back e m) in
          omega (arith, here, back, ap y (after_face p plane ends e m), prices.near (reverse_dart p e) (ends.reverse_dart_in_range e m), ap (λ (x : ℕ). y (face_at p x)) is)
    ]
