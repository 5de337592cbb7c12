-- Which field of a value is wrong. Fields are read in turn, and the elements of a list in their order: the first wrong one
-- decides. None of this speaks of running out of memory.
use Rattle.std.specs.Prelude.{◌≡◌, ◌≢◌, ℕ, ◌≤◌, ◌⊎◌, ℤ, List, [], ◌∷◌, ◌++◌, map, codes, All, Some, MatchOption}
use Rattle.serde_json.specs.Data.{Data, Items, array}
use Rattle.serde_json.specs.Find.{get}
use Rattle.serde_json.specs.View.{items_of}
use Rattle.ortho_rep.specs.declared.turn_strings.Turn.{Turn}
use Rattle.ortho_rep.specs.declared.grid_points.Point.{Point}
use Rattle.checking.specs.declared.json.LineFault.{LineFault}
use Rattle.checking.specs.declared.json.LineFault.TheVariants.{Points, Number, Angles, Turns, Prices}
use Rattle.checking.specs.Values.{natural, array_of, point_data, list_data, IsShort, turns_data, AreIntegers, HasIntegers, IsOf32Bits}

abbrev pub IsArray : Data → Type 0
IsArray value = (items : Items) × (value ≡ array items)

-- a value has a field of this name, which is wrong
abbrev pub IsWrongField : (Data → LineFault → Type 0) → List ℕ → Data → LineFault → Type 0
IsWrongField IsWrong name value fault = (field : Data) × (get name value ≡ Some field) × IsWrong field fault

-- ---- angles: a list of integers from 0 to 255

abbrev pub IsWrongAngles : Data → LineFault → Type 0
IsWrongAngles value Angles = ¬ IsArray value
IsWrongAngles value Number =
    IsArray value × ((angles : List ℕ) → All (λ angle. angle ≤ 255) angles → value ≢ array_of natural angles)
IsWrongAngles value _ = ⊥

-- ---- turns: a list of strings of the letters L and R

abbrev pub IsWrongTurns : Data → LineFault → Type 0
IsWrongTurns value Turns = (strings : List (List Turn)) → value ≢ array_of turns_data strings
IsWrongTurns value _ = ⊥

-- ---- prices: two lists of integers of 32 bits, that of the vertices before that of the faces

-- a value is no list, or a list of other elements; only private contracts speak of it
abbrev pub IsWrongPriceValue : Data → LineFault → Type 0
IsWrongPriceValue value Prices = ¬ IsArray value
IsWrongPriceValue value Number =
    IsArray value × ((prices : List ℤ) → All IsOf32Bits prices → ¬ AreIntegers value prices)
IsWrongPriceValue value _ = ⊥

-- the field of this name is missing or no list, or it is a list of other elements
abbrev pub IsWrongPriceList : List ℕ → Data → LineFault → Type 0
IsWrongPriceList name value Prices = (items : Items) → get name value ≢ Some (array items)
IsWrongPriceList name value Number =
    ((items : Items) × (get name value ≡ Some (array items)))
    × ((prices : List ℤ) → All IsOf32Bits prices → ¬ HasIntegers name value prices)
IsWrongPriceList name value _ = ⊥

-- the field of this name is right
abbrev pub HasPriceList : List ℕ → Data → Type 0
HasPriceList name value = (prices : List ℤ) × All IsOf32Bits prices × HasIntegers name value prices

abbrev pub IsWrongPrices : Data → LineFault → Type 0
IsWrongPrices value fault =
    IsWrongPriceList (codes "vertices") value fault
    ⊎ (HasPriceList (codes "vertices") value × IsWrongPriceList (codes "faces") value fault)

-- ---- points

-- a value is an array: of values that are right, followed by one that is wrong, and by any others
pub record HasWrongElement (A : Type 0) (value_of : A → Data) (IsRight : A → Type 0) (IsWrong : Data → LineFault → Type 0) (value : Data) (fault : LineFault) : Type 0 where
  pub before : List A
  pub right : All IsRight before
  pub element : Data
  pub others : List Data
  pub elements_are : value ≡ array (items_of (map value_of before ++ element ∷ others))
  pub wrong : IsWrong element fault

-- a point is an array of two coordinates, each an integer from 0 to 4,294,967,295
abbrev pub IsPair : Data → Type 0
IsPair value = (x : Data) × (y : Data) × (value ≡ array (items_of (x ∷ y ∷ [])))

abbrev pub IsWrongPoint : Data → LineFault → Type 0
IsWrongPoint value Points = ¬ IsPair value
IsWrongPoint value Number = IsPair value × ((point : Point) → IsShort point → value ≢ point_data point)
IsWrongPoint value _ = ⊥

-- a list of points is no array, or has a wrong one
abbrev pub IsWrongPointList : Data → LineFault → Type 0
IsWrongPointList value fault =
    (¬ IsArray value × (fault ≡ Points)) ⊎ HasWrongElement Point point_data IsShort IsWrongPoint value fault

-- so is a list of lists of points
abbrev pub IsWrongCorners : Data → LineFault → Type 0
IsWrongCorners value fault =
    (¬ IsArray value × (fault ≡ Points))
    ⊎ HasWrongElement (List Point) list_data (All IsShort) IsWrongPointList value fault

-- the field of this name is missing, or wrong
abbrev pub IsMissingOrWrong : (Data → LineFault → Type 0) → List ℕ → Data → LineFault → Type 0
IsMissingOrWrong IsWrong name value fault = MatchOption (get name value) (fault ≡ Points) (λ field. IsWrong field fault)

-- the field `vertices` is right
abbrev pub HasVertexPoints : Data → Type 0
HasVertexPoints value = (points : List Point) × All IsShort points × (get (codes "vertices") value ≡ Some (list_data points))

-- the vertices are read before the corners
abbrev pub IsWrongPointLists : Data → LineFault → Type 0
IsWrongPointLists value fault =
    IsMissingOrWrong IsWrongPointList (codes "vertices") value fault
    ⊎ (HasVertexPoints value × IsMissingOrWrong IsWrongCorners (codes "corners") value fault)

-- a value has no points in its field `points`
abbrev pub IsWrongPoints : Data → LineFault → Type 0
IsWrongPoints value fault = IsMissingOrWrong IsWrongPointLists (codes "points") value fault
