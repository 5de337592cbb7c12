-- Sets of vertices and faces that turn more than can leave them: why no representation keeps what is given. Vertices and
-- faces are marked, in two lists: place v - 1 of the first belongs to vertex v, place f of the second to face f.
use Rattle.std.specs.Prelude.{◌≡◌, ◌⊎◌, ℕ, ◌+◌, ◌-◌, ◌<◌, ℤ, pos, ◌+ℤ◌, ◌≤ℤ◌, ◌<ℤ◌, Bool, true, false, if◌then◌else◌, List, length, None}
use Rattle.common.specs.Sums.{total_below}
use Rattle.faces.specs.Planes.{PlaneModel, darts, vertices, head, reverse_dart, face_at}
use Rattle.flow_network.specs.Marks.{is_marked}
use Rattle.flow_network.specs.Given.{GivenModel, angle_given, turns_given}
use Rattle.flow_network.specs.FaceNet.{vertex_has_to_turn, face_has_to_turn}

-- what all vertices and faces of the set have to turn
abbrev pub has_to_turn : PlaneModel → GivenModel → List Bool → List Bool → ℤ
has_to_turn p given in_vertices in_faces =
    total_below (vertices p) (λ k. if is_marked in_vertices k then vertex_has_to_turn p given (k + 1) else pos 0)
    +ℤ total_below p.faces (λ f. if is_marked in_faces f then face_has_to_turn p given f else pos 0)

-- vertices and faces that turn more than can leave them, with what is given
pub record ShowsNone (p : PlaneModel) (given : GivenModel) (in_vertices in_faces : List Bool) : Type 0 where
  pub vertices_size : length in_vertices ≡ vertices p
  pub faces_size : length in_faces ≡ p.faces
  -- with a vertex the face of each angle that is not given is in the set: a right angle can go there
  pub corners : (d : ℕ) → d < darts p → angle_given given d ≡ None → is_marked in_vertices (head p d - 1) ≡ true → is_marked in_faces (face_at p d) ≡ true
  -- with a face the one across an edge whose turns are not given: a bend can go there
  pub crossings : (d : ℕ) → d < darts p → turns_given p given d ≡ None → is_marked in_faces (face_at p d) ≡ true → is_marked in_faces (face_at p (reverse_dart p d)) ≡ true
  -- and something has to leave it
  pub more : pos 0 <ℤ has_to_turn p given in_vertices in_faces

-- each angle of a vertex that is not given lies in a marked face
abbrev pub HasFacesIn : PlaneModel → GivenModel → List Bool → ℕ → Type 0
HasFacesIn p given in_faces v = (d : ℕ) → d < darts p → head p d ≡ v → angle_given given d ≡ None → is_marked in_faces (face_at p d) ≡ true

-- some angle of it that is not given does not
abbrev pub HasFaceOut : PlaneModel → GivenModel → List Bool → ℕ → Type 0
HasFaceOut p given in_faces v = (d : ℕ) × (d < darts p) × (head p d ≡ v) × (angle_given given d ≡ None) × (is_marked in_faces (face_at p d) ≡ false)

-- a vertex has nothing to turn, or some angle of it is free to turn into a face that is not marked
abbrev pub IsLeftOut : PlaneModel → GivenModel → List Bool → ℕ → Type 0
IsLeftOut p given in_faces v = (vertex_has_to_turn p given v ≤ℤ pos 0) ⊎ HasFaceOut p given in_faces v
