-- What callers see of `Boxes`: a map in four directions, and which of its parts are those of a plane.
use Rattle.std.specs.Prelude.{◌≡◌, ℕ, ◌<◌, ◌≤◌, ◌⊎◌, List, [], ◌∷◌, length, slice_index, slice_index_or}
use Rattle.common.specs.declared.parameters.TheConstants.{MAX_VERTICES}
use Rattle.embedding.specs.declared.graphs.TheConstants.{MAX_EDGES}
use Rattle.dissect.specs.declared.table.DartTable.{DartTable}
use Rattle.dissect.specs.DartMaps.{DartMap, IsSound, no_dart}
use Rattle.dissect.specs.Faces.{IsCorner, HasFourCorners, IsOutside, ReachesCorners}
use Rattle.dissect.specs.Paths.{IsPath, IsConnected}

pub record BoxesModel : Type 0 where
  -- how many darts and vertices there are
  pub darts : ℕ
  pub vertices : ℕ
  -- what belongs to dart d stands at place d
  pub next : List ℕ
  pub prev : List ℕ
  pub reverse_dart : List ℕ
  pub head : List ℕ
  pub direction : List ℕ
  pub angle : List ℕ
  pub before : List ℕ
  -- the number of vertices of the plane; vertex v of the plane is the vertex v - 1 of the map
  pub old : ℕ
  -- the lesser darts of the plane's edges, each of which is a dart of the map too: the last one on its edge
  pub edges : List ℕ
  -- the darts that each of these edges is made of, in walking order
  pub paths : List (List ℕ)

-- the map that the parts are
abbrev pub dart_map : BoxesModel → DartMap
dart_map b = record {
  darts = b.darts;
  vertices = b.vertices;
  next = λ a. slice_index b.next a;
  prev = λ a. slice_index b.prev a;
  reverse_dart = λ a. slice_index b.reverse_dart a;
  head = λ a. slice_index b.head a;
  direction = λ a. slice_index b.direction a;
  angle = λ a. slice_index b.angle a;
  before = λ a. slice_index b.before a;
}

-- the boxes that a table holds, for a plane of `old` vertices, these lesser darts, and their paths
abbrev pub parts_of : DartTable → ℕ → List ℕ → List (List ℕ) → BoxesModel
parts_of t old edges paths = record {
  darts = t.darts;
  vertices = t.vertices;
  next = t.next.items;
  prev = t.prev.items;
  reverse_dart = t.reverse_dart.items;
  head = t.head.items;
  direction = t.direction.items;
  angle = t.angle.items;
  before = t.before.items;
  old = old;
  edges = edges;
  paths = paths;
}

-- the edge e of the plane is a path of the map
pub record HasEdge (b : BoxesModel) (e : ℕ) : Type 0 where
  pub first : ℕ
  pub rest : List ℕ
  pub path : IsPath (dart_map b) (slice_index b.edges e) first rest

-- these are the darts of the path that the edge e of the plane is, in walking order
pub record IsEdgePath (b : BoxesModel) (e : ℕ) (darts : List ℕ) : Type 0 where
  pub edge : HasEdge b e
  pub listed : darts ≡ edge.first ∷ edge.rest

-- each face is a box, with four left turns, but for the outside of the whole, which has four right turns
pub record HasBoxFaces (w : DartMap) : Type 0 where
  pub reaches : ReachesCorners w
  -- a dart of the outside
  pub outside : ℕ
  pub outside_in : outside < w.darts
  pub around : HasFourCorners w 3 outside
  pub corners : (a : ℕ) → a < w.darts → IsCorner w a → HasFourCorners w 1 a ⊎ IsOutside w outside a

-- what is kept of all boxes: edges run straight in four directions and meet at vertices; the parts of the plane are there
pub record AreBoxes (b : BoxesModel) : Type 0 where
  pub sound : IsSound (dart_map b)
  pub connected : IsConnected (dart_map b)
  pub faces : HasBoxFaces (dart_map b)
  pub few_darts : b.darts ≤ no_dart
  pub old_in : b.old ≤ b.vertices
  pub old_few : b.old ≤ MAX_VERTICES
  pub few_edges : length b.edges ≤ MAX_EDGES
  pub edges : (e : ℕ) → e < length b.edges → HasEdge b e
  pub path_count : length b.paths ≡ length b.edges
  pub paths : (e : ℕ) → e < length b.edges → IsEdgePath b e (slice_index_or b.paths e [])
