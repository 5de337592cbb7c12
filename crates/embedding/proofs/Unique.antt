-- The numbering of the faces is unique, and with it their number.
use Rattle.std.proofs.Common.{◌≡◌, ℕ, ◌<◌, ◌==◌, inl, inr, refl, sym, ◌∙◌, arith, zero, suc}
use Rattle.std.proofs.lemmas.Bool.{cases_order, eqb-true, eq-eqb}
use Rattle.embedding.specs.Faces.{HasFaces}

-- darts of one face in one numbering are of one face in each other
together : (n : ℕ) (next face other : ℕ → ℕ) (f g : ℕ) → HasFaces n next face f → HasFaces n next other g
    → (d e : ℕ) → d < n → e < n → face d ≡ face e → other d ≡ other e
together n next face other f g h k d e hd he same =
    sym (eqb-true (other e) (other d)
    (h.least (λ x. other x == other d)
    (λ x hx m. eq-eqb (other (next x)) (other d) (k.closed x hx ∙ eqb-true (other x) (other d) m))
    d e hd he same (eq-eqb (other d) (other d) refl)))

-- no face of dart d is the lesser one, where the darts before d agree
not_below : (n : ℕ) (next face other : ℕ → ℕ) (f g : ℕ) → HasFaces n next face f → HasFaces n next other g
    → (d : ℕ) → d < n → ((e : ℕ) → e < d → face e ≡ other e) → face d < other d → ⊥
not_below n next face other f g h k d hd agree less =
    let e = k.ordered d (face d) hd less in
    let he : e.0 < n = omega (arith, e.1) in
    let same : other e.0 ≡ other d = together n next face other f g h k e.0 d he hd (agree e.0 e.1 ∙ e.2) in
    omega (arith, same, e.2, less)

-- the darts below m have one number
agree_below : (n : ℕ) (next face other : ℕ → ℕ) (f g : ℕ) → HasFaces n next face f → HasFaces n next other g
    → (m d : ℕ) → d < m → d < n → face d ≡ other d
agree_below n next face other f g h k zero d hm hd = absurd (omega arith)
agree_below n next face other f g h k (suc m) d hm hd =
    let before = λ (e : ℕ) (he : e < d). agree_below n next face other f g h k m e (omega arith) (omega arith) in
    elim (cases_order (face d) (other d)) [
      | inl a ↦ a
      | inr b ↦ elim b [
        | inl less ↦ absurd (not_below n next face other f g h k d hd before less)
        | inr more ↦ absurd (not_below n next other face g f k h d hd (λ e he. sym (before e he)) more)
      ]
    ]

-- faces are numbered in one way
pub one_numbering : (n : ℕ) (next face other : ℕ → ℕ) (f g : ℕ) → HasFaces n next face f → HasFaces n next other g
    → (d : ℕ) → d < n → face d ≡ other d
one_numbering n next face other f g h k d hd = agree_below n next face other f g h k n d hd hd

-- no numbering of the same darts has more faces
not_fewer : (n : ℕ) (next face other : ℕ → ℕ) (f g : ℕ) → HasFaces n next face f → HasFaces n next other g → f < g → ⊥
not_fewer n next face other f g h k less =
    let d = k.used f less in
    omega (arith, h.named d.0 d.1, one_numbering n next face other f g h k d.0 d.1, d.2)

-- and there is one number of faces
pub one_count : (n : ℕ) (next face other : ℕ → ℕ) (f g : ℕ) → HasFaces n next face f → HasFaces n next other g → f ≡ g
one_count n next face other f g h k =
    elim (cases_order f g) [
      | inl a ↦ a
      | inr b ↦ elim b [
        | inl less ↦ absurd (not_fewer n next face other f g h k less)
        | inr more ↦ absurd (not_fewer n next other face g f k h more)
      ]
    ]
