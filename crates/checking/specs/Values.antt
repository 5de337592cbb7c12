-- The value of a line, and the points that a value says: each point is an array of its two coordinates.
use Rattle.std.specs.Prelude.{◌≡◌, ℕ, ◌^◌, ◌<◌, ℤ, pos, negsuc, ◌≤ℤ◌, List, [], ◌∷◌, map, codes, Option, Some, option_and_then, All, IsUtf8}
use Rattle.serde_json.specs.Data.{Data, number, unsigned, string, array}
use Rattle.serde_json.specs.Find.{get, as_number, as_integer}
use Rattle.serde_json.specs.Read.{read}
use Rattle.serde_json.specs.View.{items_of}
use Rattle.ortho_rep.specs.declared.turn_strings.Turn.{Turn}
use Rattle.ortho_rep.specs.declared.turn_strings.Turn.TheVariants.{Left, Right}
use Rattle.ortho_rep.specs.declared.grid_points.Point.{Point}
use Rattle.ortho_rep.specs.Points.{PointsModel}
use Rattle.ortho_rep.specs.Prices.{PricesModel}

abbrev pub natural : ℕ → Data
natural n = number (unsigned n)

-- the array of the values of the elements of a list
abbrev pub array_of : {A : Type 0} → (A → Data) → List A → Data
array_of value xs = array (items_of (map value xs))

abbrev pub point_data : Point → Data
point_data point = array_of natural (point.x ∷ point.y ∷ [])

abbrev pub list_data : List Point → Data
list_data points = array_of point_data points

abbrev pub lists_data : List (List Point) → Data
lists_data lists = array_of list_data lists

-- a value has a field `points`, in which these are the points of the vertices and the corners of the edges, in order
pub record SaysPoints (value : Data) (points : PointsModel) : Type 0 where
  pub field : Data
  pub named : get (codes "points") value ≡ Some field
  pub vertices : get (codes "vertices") field ≡ Some (list_data points.vertices)
  pub corners : get (codes "corners") field ≡ Some (lists_data points.corners)

-- a line is the JSON text, in UTF-8, of this value
pub record IsTextOf (line : List ℕ) (value : Data) : Type 0 where
  pub utf8 : IsUtf8 line
  pub text : read line ≡ Some value

-- coordinates of 32 bits

abbrev pub IsShort : Point → Type 0
IsShort point = (point.x < 2 ^ 32) × (point.y < 2 ^ 32)

pub record AreShort (points : PointsModel) : Type 0 where
  pub vertices : All IsShort points.vertices
  pub corners : All (All IsShort) points.corners

-- ---- what is claimed of the points

-- L for a left turn, R for a right turn
abbrev pub letter_of : Turn → ℕ
letter_of Left = 76
letter_of Right = 82

-- the turns of a dart in walking order
abbrev pub turns_data : List Turn → Data
turns_data turns = string (map letter_of turns)

-- the integer that a value is, if it is one
abbrev pub integer_of : Data → Option ℤ
integer_of value = option_and_then as_integer (as_number value)

-- a value is an array, and its elements are these integers
pub record AreIntegers (value : Data) (integers : List ℤ) : Type 0 where
  pub elements : List Data
  pub listed : value ≡ array (items_of elements)
  pub each : map integer_of elements ≡ map Some integers

-- a value has these integers in the field of this name
pub record HasIntegers (name : List ℕ) (value : Data) (integers : List ℤ) : Type 0 where
  pub field : Data
  pub named : get name value ≡ Some field
  pub said : AreIntegers field integers

-- a value has the prices of vertices and of faces in its fields
pub record HasPriceLists (value : Data) (prices : PricesModel) : Type 0 where
  pub vertices : HasIntegers (codes "vertices") value prices.vertices
  pub faces : HasIntegers (codes "faces") value prices.faces

-- a value has a field `prices`, in which these are the prices
pub record SaysPrices (value : Data) (prices : PricesModel) : Type 0 where
  pub field : Data
  pub named : get (codes "prices") value ≡ Some field
  pub lists : HasPriceLists field prices

-- integers of 32 bits, with their sign

abbrev pub IsOf32Bits : ℤ → Type 0
IsOf32Bits z = (negsuc 2147483647 ≤ℤ z) × (z ≤ℤ pos 2147483647)

pub record AreOf32Bits (prices : PricesModel) : Type 0 where
  pub vertices : All IsOf32Bits prices.vertices
  pub faces : All IsOf32Bits prices.faces
