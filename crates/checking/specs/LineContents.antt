-- What a line says.
use Rattle.std.specs.Prelude.{◌≡◌, ◌≢◌, ℕ, ◌^◌, ◌<◌, ◌≤◌, ◌⊎◌, List, Option, Some, None, IfSome, MatchOption, All, Vec, codes, option_map}
use Rattle.serde_json.specs.Data.{Data}
use Rattle.serde_json.specs.Find.{get, as_object}
use Rattle.std.specs.declared.alloc.Global.{Global}
use Rattle.ortho_rep.specs.declared.turn_strings.Turn.{Turn}
use Rattle.ortho_rep.specs.Points.{PointsModel}
use Rattle.ortho_rep.specs.Prices.{PricesModel}
use Rattle.ortho_rep.specs.Storage.{lists_in}
use Rattle.checking.specs.Values.{natural, array_of, turns_data, IsTextOf, SaysPoints, SaysPrices, AreShort, AreOf32Bits}
use Rattle.checking.specs.declared.json.LineFault.{LineFault}
use Rattle.checking.specs.declared.json.LineFault.TheVariants as line
use Rattle.checking.specs.Wrong.{IsWrongField, IsWrongAngles, IsWrongTurns, IsWrongPrices, IsWrongPoints}
use Rattle.referee.specs.declared.claims.Claims.{Claims}
use Rattle.checking.specs.declared.line_content.LineContent.{LineContent}
use Rattle.checking.specs.declared.line_content.LineContent.TheVariants as said

-- a value makes these claims, each in a field of its own; without a field it makes no such claim
pub record HasClaims (value : Data) (claims : Claims) : Type 0 where
  pub angles : get (codes "angles") value ≡ option_map (λ angles. array_of natural angles.items) claims.angles
  pub turns : get (codes "turns") value ≡ option_map (λ strings. array_of turns_data (lists_in strings.items)) claims.turns
  pub prices : MatchOption claims.prices (get (codes "prices") value ≡ None) (SaysPrices value)
  pub bends : get (codes "bends") value ≡ option_map natural claims.bends
  pub outer : get (codes "outer") value ≡ option_map natural claims.outer

-- a value says these points, and makes these claims
pub record HasFields (value : Data) (points : PointsModel) (claims : Claims) : Type 0 where
  pub points_are : SaysPoints value points
  pub claims_are : HasClaims value claims

-- numbers have their ranges: angles have 8 bits, prices 32 with sign, the bends 32, the outer face 16
pub record HasClaimRanges (claims : Claims) : Type 0 where
  pub angles : IfSome claims.angles (λ angles. All (λ angle. angle ≤ 255) angles.items)
  pub prices : IfSome claims.prices AreOf32Bits
  pub bends : IfSome claims.bends (λ bends. bends < 2 ^ 32)
  pub outer : IfSome claims.outer (λ outer. outer < 2 ^ 16)

-- and coordinates have 32 bits
pub record HasRanges (points : PointsModel) (claims : Claims) : Type 0 where
  pub short : AreShort points
  pub claims_fit : HasClaimRanges claims

-- a line is the last one of a run: its value has a field `end`
pub record IsEndLine (line : List ℕ) : Type 0 where
  pub value : Data
  pub text : IsTextOf line value
  pub named : get (codes "end") value ≢ None

-- a line says a drawing: these points, with these claims
pub record SaysDrawing (line : List ℕ) (points : PointsModel) (claims : Claims) : Type 0 where
  pub value : Data
  pub text : IsTextOf line value
  pub goes_on : get (codes "end") value ≡ None
  pub fields : HasFields value points claims

abbrev pub Says : List ℕ → LineContent → Type 0
Says line said.End = IsEndLine line
Says line (said.Drawing drawing) = SaysDrawing line drawing.points drawing.claims

-- a line says neither an end nor a drawing whose numbers have their ranges
pub record SaysNothing (line : List ℕ) : Type 0 where
  pub no_end : ¬ IsEndLine line
  pub no_drawing : (points : PointsModel) (claims : Claims) → HasRanges points claims → SaysDrawing line points claims → ⊥

-- ---- why a line says nothing: the first of its fields that is wrong

-- a value has a field of this name, which is no natural number below this bound
abbrev pub IsWrongNumber : List ℕ → ℕ → Data → LineFault → Type 0
IsWrongNumber name bound value fault =
    (fault ≡ line.Number) × (get name value ≢ None) × ((n : ℕ) → n < bound → get name value ≢ Some (natural n))

abbrev pub SaysAngles : Data → Type 0
SaysAngles value =
    (angles : Option (Vec ℕ Global)) × (get (codes "angles") value ≡ option_map (λ angles. array_of natural angles.items) angles)

abbrev pub SaysTurns : Data → Type 0
SaysTurns value =
    (turns : Option (Vec (Vec Turn Global) Global))
    × (get (codes "turns") value ≡ option_map (λ strings. array_of turns_data (lists_in strings.items)) turns)

abbrev pub SaysOrLacksPrices : Data → Type 0
SaysOrLacksPrices value =
    (prices : Option PricesModel) × MatchOption prices (get (codes "prices") value ≡ None) (SaysPrices value)

-- the claims are read in this order
pub data IsWrongClaim (value : Data) (fault : LineFault) : Type 0 where
  wrong_angles : IsWrongField IsWrongAngles (codes "angles") value fault → IsWrongClaim value fault
  wrong_turns : SaysAngles value → IsWrongField IsWrongTurns (codes "turns") value fault → IsWrongClaim value fault
  wrong_prices : SaysAngles value → SaysTurns value → IsWrongField IsWrongPrices (codes "prices") value fault → IsWrongClaim value fault
  wrong_bends : SaysAngles value → SaysTurns value → SaysOrLacksPrices value → IsWrongNumber (codes "bends") (2 ^ 32) value fault → IsWrongClaim value fault
  wrong_outer :
      SaysAngles value → SaysTurns value → SaysOrLacksPrices value → ((bends : Option ℕ) × (get (codes "bends") value ≡ option_map natural bends))
      → IsWrongNumber (codes "outer") (2 ^ 16) value fault → IsWrongClaim value fault

-- a value is no object, or its points are wrong, or else a claim
pub data IsWrongValue (value : Data) (fault : LineFault) : Type 0 where
  no_object : as_object value ≡ None → fault ≡ line.Malformed → IsWrongValue value fault
  no_points : as_object value ≢ None → IsWrongPoints value fault → IsWrongValue value fault
  no_claims : as_object value ≢ None → ((points : PointsModel) × AreShort points × SaysPoints value points) → IsWrongClaim value fault → IsWrongValue value fault

-- a line is no text of a value, or its value is wrong
abbrev pub IsWrongLine : List ℕ → LineFault → Type 0
IsWrongLine bytes fault =
    ((fault ≡ line.Malformed) × ((value : Data) → ¬ IsTextOf bytes value))
    ⊎ ((value : Data) × IsTextOf bytes value × IsWrongValue value fault)
