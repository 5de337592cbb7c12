-- The supply of the vertices and faces of a plane in its flow network.
use Rattle.std.specs.Prelude.{ℕ, ◌+◌, ◌-◌, ◌==◌, ◌&&◌, not, Bool, if◌then◌else◌}
use Rattle.common.specs.Sums.{sum_below}
use Rattle.faces.specs.Planes.{PlaneModel, vertices, degree}
use Rattle.flow_network.specs.FaceNet.{vertex_degree}

-- an inner face with three darts
abbrev pub is_inner_triangle : PlaneModel → ℕ → Bool
is_inner_triangle p f = (degree p f == 3) && not (f == p.outer)

-- four less the degree, summed over all vertices
abbrev pub supplied_quarters : PlaneModel → ℕ
supplied_quarters p = sum_below (vertices p) (λ k. 4 - vertex_degree p (k + 1))

-- the number of inner faces with three darts
abbrev pub inner_triangles : PlaneModel → ℕ
inner_triangles p = sum_below p.faces (λ f. if is_inner_triangle p f then 1 else 0)
