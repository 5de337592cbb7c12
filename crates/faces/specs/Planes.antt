-- The model of a plane: the neighbour lists of its graph, the face of each dart, the outer face.
use Rattle.std.specs.Prelude.{◌≡◌, ℕ, ◌+◌, ◌*◌, ◌<◌, ◌≤◌, ◌≢◌, List, length, slice_index}
use Rattle.common.specs.declared.parameters.TheConstants.{MAX_VERTICES}
use Rattle.embedding.specs.declared.graphs.TheConstants.{MAX_DARTS}
use Rattle.embedding.specs.Darts.{dart_count, head_of, tail_of, reverse_of, after_of, next_of, IsOneToOne}
use Rattle.embedding.specs.Faces.{HasFaces}
use Rattle.embedding.specs.Rules.{KeepsBefore}
use Rattle.faces.specs.declared.plane.TheConstants.{MAX_FACES}
use Rattle.faces.specs.Faces.{IsOuter, degree_in}

pub record PlaneModel : Type 0 where
  pub lists : List (List ℕ)
  -- the face of each dart
  pub face : List ℕ
  -- the number of faces
  pub faces : ℕ
  pub outer : ℕ

abbrev pub model_of : List (List ℕ) → List ℕ → ℕ → ℕ → PlaneModel
model_of lists face faces outer = record { lists = lists; face = face; faces = faces; outer = outer }

-- the same plane with another outer face
abbrev pub with_outer : PlaneModel → ℕ → PlaneModel
with_outer p outer = model_of p.lists p.face p.faces outer

abbrev pub vertices : PlaneModel → ℕ
vertices p = length p.lists

abbrev pub darts : PlaneModel → ℕ
darts p = dart_count p.lists

-- the vertex that dart d comes from
abbrev pub tail : PlaneModel → ℕ → ℕ
tail p d = tail_of p.lists d

-- the vertex that dart d goes to
abbrev pub head : PlaneModel → ℕ → ℕ
head p d = head_of p.lists d

-- the dart along the same edge the other way
abbrev pub reverse_dart : PlaneModel → ℕ → ℕ
reverse_dart p d = reverse_of p.lists d

-- the next dart clockwise from the same vertex
abbrev pub after : PlaneModel → ℕ → ℕ
after p d = after_of p.lists d

-- the next dart of the face on the left
abbrev pub next : PlaneModel → ℕ → ℕ
next p d = next_of p.lists d

-- the face on the left of dart d
abbrev pub face_at : PlaneModel → ℕ → ℕ
face_at p d = slice_index p.face d

-- how many darts face k has
abbrev pub degree : PlaneModel → ℕ → ℕ
degree p k = degree_in (darts p) (face_at p) k

-- a plane: no rule is broken, the faces are those of its darts, and the outer face is one of them
pub record IsPlane (p : PlaneModel) : Type 0 where
  pub order : vertices p ≤ MAX_VERTICES
  pub rules : KeepsBefore p.lists 9
  pub size : length p.face ≡ darts p
  pub faces : HasFaces (darts p) (next p) (face_at p) p.faces
  pub euler : 2 * (vertices p + p.faces) ≡ darts p + 4
  pub outer : p.outer < p.faces

-- the outer face has the most darts, and among equals it holds the least dart
abbrev pub HasGreatestOuter : PlaneModel → Type 0
HasGreatestOuter p = IsOuter (darts p) (face_at p) p.faces p.outer

-- what each dart of a plane has: its ends, its reverse, its next, its face, all within the plane
pub record HasEnds (p : PlaneModel) : Type 0 where
  pub some_darts : 0 < darts p
  pub few_darts : darts p ≤ MAX_DARTS
  pub few_faces : p.faces ≤ MAX_FACES
  pub tail_from : (d : ℕ) → d < darts p → 1 ≤ tail p d
  pub tail_to : (d : ℕ) → d < darts p → tail p d ≤ vertices p
  pub head_from : (d : ℕ) → d < darts p → 1 ≤ head p d
  pub head_to : (d : ℕ) → d < darts p → head p d ≤ vertices p
  pub reverse_dart_in_range : (d : ℕ) → d < darts p → reverse_dart p d < darts p
  pub reverse_dart_back : (d : ℕ) → d < darts p → reverse_dart p (reverse_dart p d) ≡ d
  pub reverse_dart_apart : (d : ℕ) → d < darts p → reverse_dart p d ≢ d
  pub reverse_dart_tail : (d : ℕ) → d < darts p → tail p (reverse_dart p d) ≡ head p d
  pub reverse_dart_head : (d : ℕ) → d < darts p → head p (reverse_dart p d) ≡ tail p d
  pub after_in_range : (d : ℕ) → d < darts p → after p d < darts p
  pub after_tail : (d : ℕ) → d < darts p → tail p (after p d) ≡ tail p d
  pub next_one : IsOneToOne (darts p) (next p)
  pub next_tail : (d : ℕ) → d < darts p → tail p (next p d) ≡ head p d
  pub face_named : (d : ℕ) → d < darts p → face_at p d < p.faces
