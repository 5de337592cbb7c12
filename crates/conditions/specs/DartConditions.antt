-- What conditions mean for a plane.
use Rattle.std.specs.Prelude.{ℕ, Bool, List}
use Rattle.flow_network.specs.Given.{GivenModel}

-- what is given of its darts, marks of the faces that are to stay inside, and the greatest face that is not marked
pub record DartConditionsModel : Type 0 where
  pub given : GivenModel
  pub barred : List Bool
  pub greatest : ℕ
