-- The best of the faces that were tried in order, of those that are not barred.
use Rattle.std.proofs.Common.{◌≡◌, ◌<◌, ◌+◌, ℕ, Bool, List, ◌∙◌, below_more}
use Rattle.faces.specs.Planes.{PlaneModel, with_outer}
use Rattle.flow_network.specs.Given.{GivenModel}
use Rattle.ortho_rep.specs.declared.best.Incumbent.{Incumbent}
use Rattle.ortho_rep.specs.BestKeeping.{IsOpen, IsBestBefore, IsBestKeeping}

-- what is known of one more face that is not barred, or nothing
one_more : (barred : List Bool) (P : ℕ → Type 0) (n : ℕ) → ((f : ℕ) → f < n → IsOpen barred f → P f) → (IsOpen barred n → P n) → (f : ℕ) → f < n + 1 → IsOpen barred f → P f
one_more barred P n before here = below_more (λ f. IsOpen barred f → P f) n before here

-- when all faces were tried, the best one is the best outer face
pub best_of_tried : (p : PlaneModel) (given : GivenModel) (barred : List Bool) (incumbent : Incumbent) → IsBestBefore p given barred p.faces incumbent → IsBestKeeping (with_outer p incumbent.face) given barred
best_of_tried p given barred incumbent tried = record {
  bends = incumbent.bends;
  open_outer = tried.open_face;
  some = tried.some;
  fewest = λ f b shown. (tried.others f b shown).fewest;
  first = λ f b shown. (tried.others f b shown).first;
}
