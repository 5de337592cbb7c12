use Rattle.std.proofs.Common.{ℕ, List, subst, sym, ◌∙◌, arith}
use Rattle.ortho_rep.specs.Tries.{AreBounds}
use Rattle.ortho_rep.proofs.Tries.{no_bounds}
use Rattle.ortho_rep.proofs.best.best_incumbent.Goals as goal

pub try_faces-requires-clause-bounds : goal.try_faces-requires-clause-bounds
try_faces-requires-clause-bounds c =
    subst (λ (bounds : List ℕ). AreBounds c.args.plane.now bounds) (sym (c.deref_mut.ensures.value ∙ c.in_ok-bounds.ensures.items))
    (no_bounds _ _ (omega (arith, c.face_count.ensures.value)))
