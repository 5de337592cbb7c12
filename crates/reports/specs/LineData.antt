-- JSON lines: the value of each answer and of each mark, with its keys in byte order, and its line.
use Rattle.std.specs.Prelude.{ℕ, ◌/◌, ℤ, List, [], ◌∷◌, ◌++◌, length, map, codes, Result, Ok, Err}
use Rattle.std.specs.Borrow.{Bor}
use Rattle.std.specs.List.{range_with_len}
use Rattle.serde_json.specs.Data.{Data, null, number, unsigned, string, array, object, Members, no_members, member}
use Rattle.serde_json.specs.Find.{of_integer}
use Rattle.serde_json.specs.View.{items_of}
use Rattle.serde_json.specs.Written.{compact_text}
use Rattle.embedding.specs.Words as rules
use Rattle.faces.specs.Planes.{PlaneModel, vertices, darts}
use Rattle.ortho_rep.specs.declared.turn_strings.Turn.{Turn}
use Rattle.ortho_rep.specs.declared.turn_strings.Turn.TheVariants.{Left, Right}
use Rattle.ortho_rep.specs.declared.grid_points.Point.{Point}
use Rattle.ortho_rep.specs.Shapes.{ShapeModel, turns_at}
use Rattle.ortho_rep.specs.Points.{PointsModel, corners_at}
use Rattle.ortho_rep.specs.Prices.{PricesModel}
use Rattle.ortho_rep.specs.Representation.{bends_of}
use Rattle.reports.specs.declared.answer.Cause.{Cause}
use Rattle.reports.specs.declared.answer.Answer.{Answer}
use Rattle.reports.specs.declared.answer.Answer.TheVariants.{Laid, Refused, NoMemory}
use Rattle.reports.specs.CauseWords as causes

-- ---- numbers, texts, arrays and objects

abbrev pub natural : ℕ → Data
natural n = number (unsigned n)

-- an integer
abbrev pub integer : ℤ → Data
integer z = number (of_integer z)

-- the array of the values of the elements of a list
abbrev pub array_of : {A : Type 0} → (A → Data) → List A → Data
array_of value xs = array (items_of (map value xs))

abbrev pub members_of : List (List ℕ × Data) → Members
members_of [] = no_members
members_of (m ∷ ms) = member m.0 m.1 (members_of ms)

-- the object of these keys with their values
abbrev pub object_of : List (List ℕ × Data) → Data
object_of ms = object (members_of ms)

-- ---- shapes, prices and points

-- L for a left turn, R for a right turn
abbrev pub letter_of : Turn → ℕ
letter_of Left = 76
letter_of Right = 82

-- the turns of a dart in walking order
abbrev pub turns_data : List Turn → Data
turns_data turns = string (map letter_of turns)

abbrev pub prices_data : PricesModel → Data
prices_data prices = object_of (
    (codes "faces", array_of integer prices.faces)
    ∷ (codes "vertices", array_of integer prices.vertices)
    ∷ [])

abbrev pub point_data : Point → Data
point_data point = array_of natural (point.x ∷ point.y ∷ [])

-- the corners of an edge, along its lesser dart
abbrev pub corners_data : PointsModel → ℕ → Data
corners_data points e = array_of point_data (corners_at points e)

-- the points to which a reference leads, or the cause
abbrev pub points_in : Result (Bor PointsModel) Cause → Result PointsModel Cause
points_in (Ok points) = Ok points.now
points_in (Err cause) = Err cause

-- the points of the edges and vertices of a plane with this many edges, or null if there is no drawing
abbrev pub points_data : ℕ → Result PointsModel Cause → Data
points_data edges (Ok points) = object_of (
    (codes "corners", array_of (corners_data points) (range_with_len 0 edges))
    ∷ (codes "vertices", array_of point_data points.vertices)
    ∷ [])
points_data edges (Err cause) = null

-- whether there is a drawing, or the word of the cause
abbrev pub drawn_data : Result PointsModel Cause → Data
drawn_data (Ok points) = string (codes "yes")
drawn_data (Err cause) = string (causes.word_of cause)

-- ---- answers and marks

-- a graph that breaks no rule; angles and turns are by dart
abbrev pub laid_data : ℕ → ℕ → PlaneModel → ShapeModel → PricesModel → Result PointsModel Cause → Data
laid_data file graph plane shape prices drawing = object_of (
    (codes "angles", array_of natural shape.angles)
    ∷ (codes "bends", natural (bends_of (length shape.strings) (turns_at shape)))
    ∷ (codes "drawn", drawn_data drawing)
    ∷ (codes "f", natural plane.faces)
    ∷ (codes "file", natural file)
    ∷ (codes "graph", natural graph)
    ∷ (codes "m", natural (darts plane / 2))
    ∷ (codes "n", natural (vertices plane))
    ∷ (codes "points", points_data (darts plane / 2) drawing)
    ∷ (codes "prices", prices_data prices)
    ∷ (codes "status", string (codes "ok"))
    ∷ (codes "turns", array_of turns_data shape.strings)
    ∷ [])

-- the answer to the graph with this number of the file with this number
abbrev pub answer_data : ℕ → ℕ → Answer → Data
answer_data file graph (Laid plane shape prices drawing) = laid_data file graph plane shape prices drawing
answer_data file graph (Refused rule) = object_of (
    (codes "file", natural file)
    ∷ (codes "graph", natural graph)
    ∷ (codes "rule", string (rules.word_of rule))
    ∷ (codes "status", string (codes "refused"))
    ∷ [])
answer_data file graph NoMemory = object_of (
    (codes "file", natural file)
    ∷ (codes "graph", natural graph)
    ∷ (codes "status", string (codes "memory"))
    ∷ [])

-- the end of the file with this number: the word of its mark, and its number of graphs
abbrev pub end_data : ℕ → List ℕ → ℕ → Data
end_data file word graphs = object_of (
    (codes "end", string word)
    ∷ (codes "file", natural file)
    ∷ (codes "graphs", natural graphs)
    ∷ [])

-- ---- lines

-- the text of a value without spaces, followed by the byte that ends a line
abbrev pub line_of : Data → List ℕ
line_of value = compact_text value ++ codes "\n"
