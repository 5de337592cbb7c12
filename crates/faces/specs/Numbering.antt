-- The numbering of a graph's faces. There is exactly one, so a plane need not keep it.
use Rattle.std.specs.Prelude.{◌≡◌, ◌<◌, ℕ, List, length}
use Rattle.std.specs.Coded.{Coded-set, coded×, coded_list, coded_ℕ}
use Rattle.std.proofs.Common.{sym, ap, ◌∙◌, subst}
use Rattle.std.proofs.lemmas.Grind.{same_number_lists}
use mathlib.Core.HLevel.{Σ_prop_path}
use mathlib.Core.Logic.{∥∥₁_elim, ∥∥₁_prop}
use Rattle.embedding.specs.Darts.{dart_count, next_of}
use Rattle.embedding.specs.Faces.{HasFaces}
use Rattle.embedding.specs.Walk.{at}
use Rattle.embedding.proofs.Unique.{one_numbering, one_count}

-- the faces of all darts, and the number of faces
abbrev pub Numbers : List (List ℕ) → List ℕ × ℕ → Type 0
Numbers g n = (length n.0 ≡ dart_count g) × HasFaces (dart_count g) (next_of g) (at n.0) n.1

abbrev pub Numbering : List (List ℕ) → Type 0
Numbering g = (n : List ℕ × ℕ) × ∥ Numbers g n ∥₁

same : (g : List (List ℕ)) (m n : List ℕ × ℕ) → Numbers g m → Numbers g n → m ≡ n
same g m n a b =
    let faces : m.0 ≡ n.0 =
    same_number_lists m.0 n.0 (a.0 ∙ sym b.0) (λ k below. one_numbering (dart_count g) (next_of g) (at m.0) (at n.0) m.1 n.1 a.1 b.1 k (subst (λ (s : ℕ). k < s) a.0 below)) in
    let count : m.1 ≡ n.1 = one_count (dart_count g) (next_of g) (at m.0) (at n.0) m.1 n.1 a.1 b.1 in
    ap (λ (xs : List ℕ). (xs, m.1)) faces ∙ ap (λ (c : ℕ). (n.0, c)) count

pub Numbering-prop : (g : List (List ℕ)) → IsProp (Numbering g)
Numbering-prop g x y =
    let set = Coded-set (coded× (coded_list coded_ℕ) coded_ℕ) in
    Σ_prop_path (λ (n : List ℕ × ℕ). ∥∥₁_prop) (∥∥₁_elim x.1 (set x.0 y.0) (λ a. ∥∥₁_elim y.1 (set x.0 y.0) (λ b. same g x.0 y.0 a b)))
