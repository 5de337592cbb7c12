-- Points of vertices, corners of all edges and the places of each edge's corners, in one list.
use Rattle.std.specs.Prelude.{ℕ, ◌+◌, ◌-◌, ◌≤◌, List, map, length, take, drop, slice_index, slice_range, All}
use Rattle.std.specs.List.{range_with_len}
use Rattle.ortho_rep.specs.declared.grid_points.Point.{Point}
use Rattle.ortho_rep.specs.Points.{PointsModel}

-- where the corners of an edge stand among all: from place x to the one before place y
abbrev pub span_at : List ℕ → ℕ → Point
span_at starts e = record { x = slice_index starts e; y = slice_index starts (e + 1) }

abbrev pub spans_of : List ℕ → List Point
spans_of starts = map (span_at starts) (range_with_len 0 (length starts - 1))

-- the last points of the list are such places
abbrev pub spans_in : List Point → ℕ → List Point
spans_in points edges = drop (length points - edges) points

abbrev pub points_in : List Point → ℕ → ℕ → PointsModel
points_in points vertices edges = record {
  vertices = take vertices points;
  corners = map (λ span. slice_range (drop vertices points) span.x span.y) (spans_in points edges);
}

-- all of them stand in the list
pub record AreConcatenated (points : List Point) (vertices edges : ℕ) : Type 0 where
  pub front : vertices ≤ length points
  pub last : edges ≤ length points
  pub ordered : All (λ span. span.x ≤ span.y) (spans_in points edges)
  pub inside : All (λ span. vertices + span.y ≤ length points) (spans_in points edges)
