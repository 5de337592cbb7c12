-- What is known once the faces are numbered: they make a plane, and the first greatest face is the outer one.
use Rattle.std.proofs.Common.{◌≡◌, ℕ, ◌+◌, ◌*◌, ◌<◌, ◌≤◌, List, length, inl, inr, ◌∙◌, arith}
use Rattle.std.proofs.lemmas.Bool.{cases_order}
use Rattle.common.specs.declared.parameters.TheConstants.{MAX_VERTICES}
use Rattle.embedding.specs.Darts.{dart_count, next_of}
use Rattle.embedding.specs.Faces.{HasFaces}
use Rattle.embedding.specs.Rules.{KeepsBefore}
use Rattle.embedding.proofs.Euler.{keeps_genus, eight_rules}
use Rattle.faces.specs.Faces.{IsOuter}
use Rattle.faces.specs.Planes.{PlaneModel, IsPlane, vertices, darts, next, face_at}
use Rattle.faces.specs.Greatest.{IsFirstGreatest}

-- no rule is broken where the first seven are kept, and vertices and faces are the edges and two more
pub all_rules : (g : List (List ℕ)) (face : ℕ → ℕ) (f : ℕ) → KeepsBefore g 8 → HasFaces (dart_count g) (next_of g) face f → 2 * (length g + f) ≡ dart_count g + 4 → KeepsBefore g 9
all_rules g face f rules faces euler = eight_rules g rules (keeps_genus g face f faces euler)

pub plane_from : (p : PlaneModel) → KeepsBefore p.lists 8 → vertices p ≤ MAX_VERTICES → length p.face ≡ darts p → HasFaces (darts p) (next p) (face_at p) p.faces → 2 * (vertices p + p.faces) ≡ darts p + 4 → p.outer < p.faces → IsPlane p
plane_from p rules order size faces euler outer = record {
  order = order;
  rules = all_rules p.lists (face_at p) p.faces rules faces euler;
  size = size;
  faces = faces;
  euler = euler;
  outer = outer;
}

-- the first face of the greatest degree is the outer one
pub outer_from : (n : ℕ) (next face : ℕ → ℕ) (f o : ℕ) → HasFaces n next face f → IsFirstGreatest n face f o → IsOuter n face f o
outer_from n next face f o faces greatest = record {
  named = greatest.named;
  most = greatest.most;
  first = λ k d same h here. elim (cases_order k o) [
    | inl equal ↦ (d, omega arith, here ∙ equal)
    | inr (inl less) ↦ absurd (omega (arith, greatest.first k less, same))
    | inr (inr more) ↦ let (e, before, is) = faces.ordered d o h (omega (arith, here)) in (e, omega arith, is)
  ];
}
