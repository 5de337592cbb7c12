-- There is one outer face for each choice.
use Rattle.std.proofs.Common.{◌≡◌, ℕ, zero, suc, ◌<◌, ◌∙◌, arith, sym, ap, inl, inr}
use Rattle.std.proofs.lemmas.Bool.{cases_eq}
use Rattle.faces.specs.Faces.{IsOuter, degree_in}
use Rattle.faces.specs.Planes.{PlaneModel, IsPlane, HasGreatestOuter, darts, face_at, with_outer}
use Rattle.ortho_rep.specs.Best.{IsBest}

-- where a dart below m is of the one of two such faces, it is of the other too, or a dart before it is of both
meet_below : (n : ℕ) (face : ℕ → ℕ) (f o k : ℕ) → IsOuter n face f o → IsOuter n face f k → degree_in n face k ≡ degree_in n face o
    → (m d : ℕ) → d < m → d < n → face d ≡ o → o ≡ k
meet_below n face f o k one two same zero d below inside here = absurd (omega arith)
meet_below n face f o k one two same (suc m) d below inside here =
    let (e, before, there) = two.first o d (sym same) inside here in
    let (c, first, back) = one.first k e same (omega (arith, before)) there in
    elim (cases_eq c d) [
      | inl at ↦
          let stays : e ≡ d = omega (arith, at, before, first) in
          sym here ∙ ap face (sym stays) ∙ there
      | inr other ↦ meet_below n face f o k one two same m c (omega (arith, other, before, first)) (omega (arith, before, first)) back
    ]

pub greatest_once : (p : PlaneModel) (other : ℕ) → IsPlane p → IsPlane (with_outer p other) → HasGreatestOuter p → HasGreatestOuter (with_outer p other) → p.outer ≡ other
greatest_once p other plane plane' one two =
    let (d, inside, here) = plane.faces.used p.outer plane.outer in
    let same : degree_in (darts p) (face_at p) other ≡ degree_in (darts p) (face_at p) p.outer =
    omega (arith, one.most other plane'.outer, two.most p.outer plane.outer) in
    meet_below (darts p) (face_at p) p.faces p.outer other one two same (suc d) d (omega arith) inside here

pub best_once : (p : PlaneModel) (other : ℕ) → IsPlane p → IsPlane (with_outer p other) → IsBest p → IsBest (with_outer p other) → p.outer ≡ other
best_once p other plane plane' one two =
    let (angle, turns, rep, count) = one.some in
    let (angle', turns', rep', count') = two.some in
    let same : one.bends ≡ two.bends =
    omega (arith, one.fewest other plane'.outer angle' turns' rep', count', two.fewest p.outer plane.outer angle turns rep, count) in
    omega (
      arith,
      one.first other plane'.outer (angle', turns', rep', count' ∙ sym same),
      two.first p.outer plane.outer (angle, turns, rep, count ∙ same),
    )
