-- The parts of a plane's edges in the boxes that dissect a shape of it.
use Rattle.std.specs.Prelude.{◌≡◌, ℕ, ◌⊎◌}
use Rattle.faces.specs.Planes.{PlaneModel, reverse_dart}
pub use Rattle.dissect.specs.Paths.{IsPart}

-- the two darts run along one edge
abbrev pub IsOneEdge : PlaneModel → ℕ → ℕ → Type 0
IsOneEdge p d e = (d ≡ e) ⊎ (d ≡ reverse_dart p e)
