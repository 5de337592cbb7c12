-- The map of a plane whose edges have no bends yet.
use Rattle.std.specs.Prelude.{◌≡◌, ℕ, ◌+◌, ◌*◌, ◌<◌, ◌≤◌, length}
use Rattle.common.specs.Sums.{sum_below}
use Rattle.faces.specs.Planes.{PlaneModel, darts, vertices, head, reverse_dart, next}
use Rattle.ortho_rep.specs.Shapes.{ShapeModel, turns_at}
use Rattle.dissect.specs.declared.table.DartTable.{DartTable}
use Rattle.dissect.specs.declared.table.TheConstants.{RECTANGLE_ROOM}
use Rattle.dissect.specs.DartMaps.{DartMap, no_dart}
use Rattle.dissect.specs.Tables.{room}

-- its darts and vertices are those of the plane p, with the angles a and the directions h; vertex v has the number v - 1
pub record IsBare (p : PlaneModel) (a h : ℕ → ℕ) (w : DartMap) : Type 0 where
  pub dart_count : w.darts ≡ darts p
  pub vertex_count : w.vertices ≡ vertices p
  pub nexts : (d : ℕ) → d < darts p → w.next d ≡ next p d
  pub prevs : (d : ℕ) → d < darts p → w.prev (next p d) ≡ d
  pub reverse_darts : (d : ℕ) → d < darts p → w.reverse_dart d ≡ reverse_dart p d
  pub heads : (d : ℕ) → d < darts p → w.head d + 1 ≡ head p d
  pub directions : (d : ℕ) → d < darts p → w.direction d ≡ h d
  pub angles : (d : ℕ) → d < darts p → w.angle d ≡ a d
  pub befores : (d : ℕ) → d < darts p → w.before d ≡ no_dart

-- how many darts the table of a shape of the plane p needs room for: three for each turn, eight for each vertex, and those
-- of the plane and of a rectangle
abbrev pub room_of : PlaneModel → ShapeModel → ℕ
room_of p shape = darts p + 3 * sum_below (darts p) (λ d. length (turns_at shape d)) + 8 * vertices p + RECTANGLE_ROOM

-- a table of these numbers of darts and vertices, with room for `places` darts at least
pub record IsBlank (dart_number vertex_number places : ℕ) (t : DartTable) : Type 0 where
  pub dart_count : t.darts ≡ dart_number
  pub vertex_count : t.vertices ≡ vertex_number
  pub size : places ≤ room t
