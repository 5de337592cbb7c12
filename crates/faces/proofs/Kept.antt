-- A plane by any value of its one numbering.
use Rattle.std.proofs.Common.{◌≡◌, ℕ, zero, suc, ◌+◌, ◌-◌, ◌*◌, ◌<◌, ◌≤◌, List, length, subst, inl, inr, arith}
use Rattle.std.proofs.lemmas.Bool.{cases_eq}
use Rattle.common.specs.declared.parameters.TheConstants.{MAX_VERTICES}
use Rattle.embedding.specs.Darts.{dart_count, next_of}
use Rattle.embedding.specs.Faces.{HasFaces}
use Rattle.embedding.specs.Rules.{KeepsBefore}
use Rattle.embedding.specs.Walk.{at}
use Rattle.faces.specs.Numbering.{Numbering, Numbering-prop}
use Rattle.faces.specs.Planes.{IsPlane, HasGreatestOuter, model_of}
use Rattle.faces.specs.Greatest.{IsFirstGreatest}
use Rattle.faces.proofs.Outer.{plane_from, outer_from}

abbrev IsPlaneBy : (g : List (List ℕ)) → ℕ → Numbering g → Type 0
IsPlaneBy g outer x = IsPlane (model_of g x.0.0 x.0.1 outer)

pub plane_by : (g : List (List ℕ)) (faces : List ℕ) (count outer : ℕ) → KeepsBefore g 8 → length g ≤ MAX_VERTICES → length faces ≡ dart_count g → HasFaces (dart_count g) (next_of g) (at faces) count
    → 2 * (length g + count) ≡ dart_count g + 4 → outer < count → (y : Numbering g) → IsPlane (model_of g y.0.0 y.0.1 outer)
plane_by g faces count outer rules order size numbered euler named y =
    let x : Numbering g = ((faces, count), ∣ (size, numbered) ∣₁) in
    subst (IsPlaneBy g outer) (Numbering-prop g x y) (plane_from (model_of g faces count outer) rules order size numbered euler named)

abbrev IsGreatestBy : (g : List (List ℕ)) → ℕ → Numbering g → Type 0
IsGreatestBy g outer x = HasGreatestOuter (model_of g x.0.0 x.0.1 outer)

pub greatest_by : (g : List (List ℕ)) (faces : List ℕ) (count outer : ℕ) → length faces ≡ dart_count g → HasFaces (dart_count g) (next_of g) (at faces) count
    → IsFirstGreatest (dart_count g) (at faces) count outer → (y : Numbering g) → HasGreatestOuter (model_of g y.0.0 y.0.1 outer)
greatest_by g faces count outer size numbered greatest y =
    let x : Numbering g = ((faces, count), ∣ (size, numbered) ∣₁) in
    subst (IsGreatestBy g outer) (Numbering-prop g x y) (outer_from (dart_count g) (next_of g) (at faces) count outer numbered greatest)

-- with another outer face
pub turned : (g : List (List ℕ)) (x y : Numbering g) (outer face : ℕ) → IsPlane (model_of g x.0.0 x.0.1 outer) → face < x.0.1 → IsPlane (model_of g y.0.0 y.0.1 face)
turned g x y outer face is named =
    subst (IsPlaneBy g face) (Numbering-prop g x y) (record {
      order = is.order;
      rules = is.rules;
      size = is.size;
      faces = is.faces;
      euler = is.euler;
      outer = named;
    })

-- a dart's face is no greater than the dart
face_le : (n : ℕ) (next face : ℕ → ℕ) (f : ℕ) → HasFaces n next face f → (m d : ℕ) → d < m → d < n → face d ≤ d
face_le n next face f h zero d less below = absurd (omega arith)
face_le n next face f h (suc m) d less below =
    elim (cases_eq (face d) 0) [
      | inl none ↦ omega (arith, none)
      | inr some ↦
          let (e, before, at_e) = h.ordered d (face d - 1) below (omega (arith, some)) in
          omega (arith, some, at_e, before, face_le n next face f h m e (omega (arith, before, less)) (omega (arith, before, below)))
    ]

-- there are no more faces than darts
pub faces_few : (n : ℕ) (next face : ℕ → ℕ) (f : ℕ) → HasFaces n next face f → f ≤ n
faces_few n next face f h =
    elim (cases_eq f 0) [
      | inl none ↦ omega (arith, none)
      | inr some ↦
          let (d, below, last) = h.used (f - 1) (omega (arith, some)) in
          omega (arith, some, last, below, face_le n next face f h n d below below)
    ]
