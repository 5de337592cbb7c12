-- The items given at each lane of a fan are those taken of that lane, followed by those that the fan holds of it. At
-- most one pass has a lane, and it has the list of the items given there. At most one pass may take.
use Rattle.std.specs.Prelude.{◌≡◌, ◌==◌, ℕ, ◌<◌, ◌≤◌, Bool, true, false, List, [], ◌∷◌, ◌++◌, map, filter, All}
use mathlib.Core.Option.{some}
use lib.ListN.{get_elem?}
use Rattle.ruled_lanes.specs.declared.fan_channel.FanLog.{FanLog}

module _ {T : Type 0} where
  abbrev pub fan_log : Bool → ℕ → List (ℕ × T) → List (ℕ × List T) → FanLog T
  fan_log takes made taken lanes = record { takes = takes; made = made; taken = taken; lanes = lanes }

  -- the pass that takes, which has made this many lanes
  abbrev pub gatherer : ℕ → List (ℕ × T) → FanLog T
  gatherer made taken = fan_log true made taken []

  -- the pass that gives at this lane
  abbrev pub giver : ℕ → List T → FanLog T
  giver lane given = fan_log false 0 [] ((lane, given) ∷ [])

  abbrev pub nobody : FanLog T
  nobody = fan_log false 0 [] []

  abbrev pub first_given : List (ℕ × List T) → List T
  first_given [] = []
  first_given (l ∷ ls) = l.1

  -- the items given by a pass that has one lane
  abbrev pub given_in : FanLog T → List T
  given_in v = first_given v.lanes

  -- the items of one lane, in order
  abbrev pub of_lane : ℕ → List (ℕ × T) → List T
  of_lane lane items = map (λ (x : ℕ × T). x.1) (filter (λ (x : ℕ × T). x.0 == lane) items)

  -- a lane that a pass has: no other pass has it, it was made, and what was given there is known
  abbrev pub KnowsLane : (ℕ → ℕ) → ℕ → List (ℕ × T) → ℕ → ℕ × List T → Type 0
  KnowsLane pass_of made all pass l = (pass ≡ pass_of l.0) × (l.0 < made) × (of_lane l.0 all ≡ l.1)

  -- what the pass with this number knows, if the pass `taker` may take
  abbrev pub KnowsFan : (ℕ → ℕ) → ℕ → ℕ → List (ℕ × T) → List (ℕ × T) → ℕ → FanLog T → Type 0
  KnowsFan pass_of made taker taken all pass v =
      All (KnowsLane pass_of made all pass) v.lanes × (v.takes ≡ true → (pass ≡ taker) × (v.taken ≡ taken) × (v.made ≡ made))

  -- the items given at each lane of a pass are those taken of it, followed by those that the fan holds of it; a lane
  -- that was not made has none
  abbrev pub Accounts : FanLog T → List (ℕ × T) → Type 0
  Accounts v held = All (λ l. of_lane l.0 (v.taken ++ held) ≡ l.1) v.lanes × ((lane : ℕ) → v.made ≤ lane → of_lane lane (v.taken ++ held) ≡ [])

pub record IsFanned {T : Type 0} (items : List (ℕ × T)) (views : List (FanLog T)) : Type 0 where
  -- the pass that has each lane, and the one that may take
  pub pass_of : ℕ → ℕ
  pub taker : ℕ
  -- the number of lanes that were made
  pub made : ℕ
  pub taken : List (ℕ × T)
  -- all items that were ever given, in the order of the gives
  pub all : List (ℕ × T)
  pub parted : taken ++ items ≡ all
  -- lanes that were not made gave nothing
  pub others : (lane : ℕ) → made ≤ lane → of_lane lane all ≡ []
  pub known : (pass : ℕ) (v : FanLog T) → get_elem? views pass ≡ some v → KnowsFan pass_of made taker taken all pass v
