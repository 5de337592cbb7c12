-- How far faces and vertices are from the outer face, counted in edges to be crossed.
use Rattle.std.specs.Prelude.{ℕ, ◌+◌, ◌-◌, ◌*◌, ◌<◌, ◌≤◌, List, length, slice_index}
use Rattle.common.specs.Sums.{sum_below}
use Rattle.faces.specs.Planes.{PlaneModel, darts, vertices, head, face_at, reverse_dart}
use Rattle.ortho_rep.specs.declared.distances.Distances.{Distances}

-- no face is further away than one across an edge and one edge more
abbrev pub AreSmooth : PlaneModel → List ℕ → Type 0
AreSmooth p far = (d : ℕ) → d < darts p → slice_index far (face_at p d) ≤ slice_index far (face_at p (reverse_dart p d)) + 1

-- no vertex is further away than a face of it
abbrev pub AreNear : PlaneModel → List ℕ → List ℕ → Type 0
AreNear p far near = (d : ℕ) → d < darts p → slice_index near (head p d) ≤ slice_index far (face_at p d)

-- four times all distances, less those of the face and the head of each dart; the list of vertices has a place 0 too
abbrev pub excess_of_distances : PlaneModel → List ℕ → List ℕ → ℕ
excess_of_distances p far near =
    4 * (sum_below p.faces (slice_index far) + sum_below (vertices p + 1) (slice_index near))
    - sum_below (darts p) (λ d. slice_index far (face_at p d) + slice_index near (head p d))

-- room for the distances of all faces and vertices
pub record HasRoomFor (p : PlaneModel) (distances : Distances) : Type 0 where
  pub faces : p.faces ≤ length distances.of_faces.items
  pub vertices : vertices p < length distances.of_vertices.items
  pub queue : p.faces ≤ length distances.queue.items
