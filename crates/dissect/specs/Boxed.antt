-- What it is that boxes dissect an orthogonal representation of a plane.
use Rattle.std.specs.Prelude.{◌≡◌, ℕ, ◌+◌, ◌-◌, ◌*◌, ◌%◌, ◌<◌, ◌≤◌, ◌⊎◌, List, [], ◌∷◌, map, length, reverse}
use Rattle.faces.specs.Planes.{PlaneModel, darts, vertices, head, reverse_dart, next}
use Rattle.ortho_rep.specs.Shapes.{ShapeModel, angle_at, turns_at}
use Rattle.ortho_rep.specs.Edges.{lesser_darts}
use Rattle.ortho_rep.specs.Representation.{bends_of}
use Rattle.dissect.specs.DartMaps.{DartMap, IsSound}
use Rattle.dissect.specs.Faces.{In, Distinct}
use Rattle.dissect.specs.Paths.{HasPaths, IsPath}
use Rattle.dissect.specs.Bends.{AreDirections, CountsBends, KeepsDarts, KeepsFaces}
use Rattle.dissect.specs.Steps.{angle_of}
use Rattle.dissect.specs.Chains.{AreChains}
use Rattle.dissect.specs.Boxes.{BoxesModel, AreBoxes, dart_map}
use Rattle.dissect.specs.Rectangle.{HasRectangle, IsBridgedAt}
use Rattle.dissect.specs.Labels.{IsLabelled}

-- the map of the shape, with straight edges, before anything is put round it: it has the plane's vertices and darts, a
-- vertex at each bend, and the plane's faces
pub record IsMapOfShape (p : PlaneModel) (shape : ShapeModel) (w : DartMap) : Type 0 where
  pub sound : IsSound w
  pub kept : KeepsDarts p (angle_at shape) w
  pub directions : AreDirections p (angle_at shape) (turns_at shape) w.direction
  pub faces : KeepsFaces p w
  pub counts : CountsBends p (turns_at shape) w
  pub paths : HasPaths w (darts p) (reverse_dart p) (λ d. map angle_of (turns_at shape d))

-- the numbers of one list stand on another in the same order, with what else there is between them
abbrev pub StandOn : List ℕ → List ℕ → Type 0
StandOn [] others = Unit {0}
StandOn (a ∷ rest) [] = ⊥
StandOn (a ∷ rest) (b ∷ others) = ((a ≡ b) × StandOn rest others) ⊎ StandOn (a ∷ rest) others

-- the map of the shape stands in the boxes, in a rectangle to which it is connected at a right turn of its outer face
pub record IsEnclosedMap (p : PlaneModel) (shape : ShapeModel) (b : BoxesModel) : Type 0 where
  pub enclosed_map : DartMap
  pub of_shape : IsMapOfShape p shape enclosed_map
  -- its darts arrive where and as they did
  pub heads : (a : ℕ) → a < enclosed_map.darts → (dart_map b).head a ≡ enclosed_map.head a
  pub directions : (a : ℕ) → a < enclosed_map.darts → (dart_map b).direction a ≡ enclosed_map.direction a
  -- a dart of the plane has all darts of its path in the map on its path in the boxes, in their order
  pub through : (d first first' : ℕ) (rest rest' : List ℕ) → d < darts p → IsPath enclosed_map d first rest →
      IsPath (dart_map b) d first' rest' → StandOn (first ∷ rest) (first' ∷ rest')
  pub rectangle : HasRectangle enclosed_map (dart_map b)
  pub right : ℕ
  pub right_in : right < enclosed_map.darts
  pub turns_right : 2 < enclosed_map.angle right
  pub outer : of_shape.faces.face_number right ≡ p.outer
  pub bridge : IsBridgedAt enclosed_map right (dart_map b)
  -- each dart lies in one face of the plane, parts of its darts in theirs, and nothing but these parts divides two faces; the
  -- rectangle lies in the outer one
  pub labelled : IsLabelled p (dart_map b) enclosed_map.darts

-- the paths of the plane's darts lie apart
pub record ArePathsApart (p : PlaneModel) (w : DartMap) : Type 0 where
  -- the path of a dart's reverse has the reverses of its own darts, last first
  pub back : (d first first' : ℕ) (rest rest' : List ℕ) → d < darts p → IsPath w d first rest → IsPath w (reverse_dart p d) first' rest' →
      first' ∷ rest' ≡ map w.reverse_dart (reverse (first ∷ rest))
  -- a path comes to no vertex twice, nor back to where it sets out
  pub once : (d first : ℕ) (rest : List ℕ) → d < darts p → IsPath w d first rest →
      Distinct (w.head (w.reverse_dart first) ∷ map w.head (first ∷ rest))
  -- the paths of two darts of the plane, be they of two edges or of one, share no dart
  pub apart : (d e a first first' : ℕ) (rest rest' : List ℕ) → d < darts p → e < darts p → IsPath w d first rest →
      IsPath w e first' rest' → In a (first ∷ rest) → In a (first' ∷ rest') → d ≡ e

-- the boxes dissect the shape of the plane p
pub record IsBoxed (p : PlaneModel) (shape : ShapeModel) (b : BoxesModel) : Type 0 where
  -- they run straight in four directions round vertices, are connected, and each face of them is a box but the outside
  pub boxes : AreBoxes b
  -- the plane's vertices are the first ones, and its edges are named by their lesser darts
  pub old : b.old ≡ vertices p
  pub edges : b.edges ≡ lesser_darts p
  pub halves : 2 * length b.edges ≡ darts p
  -- there are at most three vertices for one of the plane, two for a bend, and five
  pub few : b.vertices ≤ 3 * vertices p + 2 * bends_of (darts p) (turns_at shape) + 5
  -- each dart of the plane is the last part of a path that sets out where its reverse arrives, and turns as its string says
  pub heads : (d : ℕ) → d < darts p → (dart_map b).head d ≡ head p d - 1
  pub paths : HasPaths (dart_map b) (darts p) (reverse_dart p) (λ d. map angle_of (turns_at shape d))
  -- it comes to no vertex twice, its reverse takes it the other way, and no other dart shares a part of it
  pub apart : ArePathsApart p (dart_map b)
  -- paths meet nowhere but at their ends, which are vertices of the plane: between the darts of a path, of a side of the rectangle and
  -- of the bridge lie vertices that are on no other, and are none of the plane's
  pub chains : AreChains (vertices p) (dart_map b)
  -- at its head it makes its angle with the next dart, whose reverse arrives this many quarters to the right
  pub angles : (d : ℕ) → d < darts p → ((dart_map b).direction (reverse_dart p (next p d)) + angle_at shape d) % 4 ≡ (dart_map b).direction d
  -- round the whole stands a rectangle, connected to it at a right turn of the plane's outer face
  pub enclosed : IsEnclosedMap p shape b
