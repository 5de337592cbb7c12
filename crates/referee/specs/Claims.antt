-- Whether what a program says of its drawing besides the points holds of the representation that they draw.
use Rattle.std.specs.Prelude.{◌≡◌, ℕ, List, Option, IfSome, Vec, length}
use Rattle.std.specs.declared.alloc.Global.{Global}
use Rattle.faces.specs.Planes.{PlaneModel}
use Rattle.ortho_rep.specs.declared.turn_strings.Turn.{Turn}
use Rattle.ortho_rep.specs.Storage.{lists_in}
use Rattle.ortho_rep.specs.Shapes.{ShapeModel, turns_at}
use Rattle.ortho_rep.specs.Prices.{IsProof}
use Rattle.ortho_rep.specs.Representation.{bends_of}
use Rattle.referee.specs.declared.claims.Claims.{Claims}
use Rattle.referee.specs.declared.claims.FalseClaim.{FalseClaim}
use Rattle.referee.specs.declared.claims.FalseClaim.TheVariants.{Angles, Turns, Prices, Bends, Outer}

-- ---- each claim, where it is made

abbrev pub HasAngles : ShapeModel → Option (Vec ℕ Global) → Type 0
HasAngles shape claim = IfSome claim (λ angles. angles.items ≡ shape.angles)

abbrev pub HasTurns : ShapeModel → Option (Vec (Vec Turn Global) Global) → Type 0
HasTurns shape claim = IfSome claim (λ strings. lists_in strings.items ≡ shape.strings)

abbrev pub HasBends : ShapeModel → Option ℕ → Type 0
HasBends shape claim = IfSome claim (λ bends. bends ≡ bends_of (length shape.strings) (turns_at shape))

abbrev pub Holds : PlaneModel → ShapeModel → Claims → FalseClaim → Type 0
Holds p shape claims Angles = HasAngles shape claims.angles
Holds p shape claims Turns = HasTurns shape claims.turns
Holds p shape claims Prices = IfSome claims.prices (IsProof p shape)
Holds p shape claims Bends = HasBends shape claims.bends
Holds p shape claims Outer = IfSome claims.outer (λ outer. outer ≡ p.outer)

-- all of them hold
abbrev pub Hold : PlaneModel → ShapeModel → Claims → Type 0
Hold p shape claims = (claim : FalseClaim) → Holds p shape claims claim

-- this claim does not hold, and those before it do
abbrev pub IsFirstFalse : PlaneModel → ShapeModel → Claims → FalseClaim → Type 0
IsFirstFalse p shape claims Angles = ¬ Holds p shape claims Angles
IsFirstFalse p shape claims Turns = Holds p shape claims Angles × ¬ Holds p shape claims Turns
IsFirstFalse p shape claims Prices =
    Holds p shape claims Angles × Holds p shape claims Turns × ¬ Holds p shape claims Prices
IsFirstFalse p shape claims Bends =
    Holds p shape claims Angles × Holds p shape claims Turns × Holds p shape claims Prices
    × ¬ Holds p shape claims Bends
IsFirstFalse p shape claims Outer =
    Holds p shape claims Angles × Holds p shape claims Turns × Holds p shape claims Prices
    × Holds p shape claims Bends × ¬ Holds p shape claims Outer
