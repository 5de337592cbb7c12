-- What C is told of why no shape keeps the angles and turns.
use Rattle.std.specs.Prelude.{◌≡◌, ℕ, ◌<◌, Bool, List, length, slice_index, if◌then◌else◌}
use Rattle.flow_network.specs.Marks.{is_marked}
use Rattle.conditions.specs.declared.cuts.Unkept.{Unkept}
use Rattle.planarbend_c.specs.declared.layout.CutLists.{CutLists}

-- what stands in the lists of a cut
pub record CutModel : Type 0 where
  pub vertices : List ℕ
  pub faces : List ℕ
  pub outer : ℕ

abbrev pub cut_contents : CutLists → CutModel
cut_contents lists = record { vertices = lists.vertices.now; faces = lists.faces.now; outer = lists.outer }

-- 1 for each mark, and 0 everywhere else
abbrev pub HoldsMarks : List ℕ → List Bool → Type 0
HoldsMarks list marks = (k : ℕ) → k < length list → slice_index list k ≡ (if is_marked marks k then 1 else 0)

-- the vertices and faces of the cut, and the outer face
pub record HoldsCut (why : Unkept) (cut : CutModel) : Type 0 where
  pub vertices : HoldsMarks cut.vertices why.cut.vertices.items
  pub faces : HoldsMarks cut.faces why.cut.faces.items
  pub outer : cut.outer ≡ why.outer
