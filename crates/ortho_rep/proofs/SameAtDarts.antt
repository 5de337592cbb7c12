-- Angles, strings and prices matter only at darts, vertices and faces of the plane.
use Rattle.std.proofs.Common.{◌≡◌, ◌≤◌, ◌<◌, ℕ, cond, eqb, List, sym, ap, ◌∙◌, arith}
use Rattle.std.specs.Prelude.{ℤ, pos}
use Rattle.common.proofs.Sums.{sum_below-same, total_below-same}
use Rattle.faces.specs.Planes.{PlaneModel, HasEnds, darts, vertices, head, reverse_dart, face_at}
use Rattle.flow_network.specs.Given.{GivenModel, nothing_given, angle_given, turns_given}
use Rattle.ortho_rep.specs.declared.turn_strings.Turn.{Turn}
use Rattle.ortho_rep.specs.Turns.{mirrored}
use Rattle.ortho_rep.specs.Representation.{Rep, turning_of}
use Rattle.ortho_rep.specs.Prices.{ProveKeeping, Prove}
use Rattle.ortho_rep.proofs.Priced.{angle_same, turns_same}

pub rep-alike : (p : PlaneModel) (a b : ℕ → ℕ) (s t : ℕ → List Turn) → HasEnds p → ((d : ℕ) → d < darts p → b d ≡ a d) → ((d : ℕ) → d < darts p → t d ≡ s d) → Rep p a s → Rep p b t
rep-alike p a b s t ends angles strings rep = record {
  angles = λ d c. (omega (arith, angles d c, (rep.angles d c).0), omega (arith, angles d c, (rep.angles d c).1));
  strings = λ d c. strings (reverse_dart p d) (ends.reverse_dart_in_range d c) ∙ (rep.strings d c ∙ ap mirrored (sym (strings d c)));
  around = λ v from to.
      sum_below-same (darts p) (λ d. cond (eqb (head p d) v) (b d) 0) (λ d. cond (eqb (head p d) v) (a d) 0) (λ d c. ap (λ (x : ℕ). cond (eqb (head p d) v) x 0) (angles d c))
      ∙ rep.around v from to;
  faces = λ f c.
      total_below-same (darts p) (λ d. cond (eqb (face_at p d) f) (turning_of (b d) (t d)) (pos 0)) (λ d. cond (eqb (face_at p d) f) (turning_of (a d) (s d)) (pos 0))
      (λ d e. ap (λ (x : ℕ). cond (eqb (face_at p d) f) (turning_of x (t d)) (pos 0)) (angles d e) ∙ ap (λ (x : List Turn). cond (eqb (face_at p d) f) (turning_of (a d) x) (pos 0)) (strings d e))
      ∙ rep.faces f c;
}

pub prove_keeping-alike : (p : PlaneModel) (given : GivenModel) (a b : ℕ → ℕ) (s t : ℕ → List Turn) (v v' q q' : ℕ → ℤ) → HasEnds p → ((d : ℕ) → d < darts p → b d ≡ a d) → ((d : ℕ) → d < darts p → t d ≡ s d) → ((u : ℕ) → 1 ≤ u → u ≤ vertices p → v' u ≡ v u) → ((f : ℕ) → f < p.faces → q' f ≡ q f) → ProveKeeping p given a s v q → ProveKeeping p given b t v' q'
prove_keeping-alike p given a b s t v v' q q' ends angles strings vertex face prove = λ d c.
    let head_at = vertex (head p d) (ends.head_from d c) (ends.head_to d c) in
    let own = face (face_at p d) (ends.face_named d c) in
    let across = face (face_at p (reverse_dart p d)) (ends.face_named (reverse_dart p d) (ends.reverse_dart_in_range d c)) in
    record {
      angle = angle_same (angle_given given d) (a d) (b d) (v (head p d)) (v' (head p d)) (q (face_at p d)) (q' (face_at p d)) (angles d c) head_at own (prove d c).angle;
      turns = turns_same (turns_given p given d) (s d) (t d) (q (face_at p d)) (q' (face_at p d)) (q (face_at p (reverse_dart p d))) (q' (face_at p (reverse_dart p d))) (strings d c) own across (prove d c).turns;
    }

pub prove-alike : (p : PlaneModel) (a b : ℕ → ℕ) (s t : ℕ → List Turn) (v v' q q' : ℕ → ℤ) → HasEnds p → ((d : ℕ) → d < darts p → b d ≡ a d) → ((d : ℕ) → d < darts p → t d ≡ s d) → ((u : ℕ) → 1 ≤ u → u ≤ vertices p → v' u ≡ v u) → ((f : ℕ) → f < p.faces → q' f ≡ q f) → Prove p a s v q → Prove p b t v' q'
prove-alike p a b s t v v' q q' ends angles strings vertex face prove = prove_keeping-alike p nothing_given a b s t v v' q q' ends angles strings vertex face prove
