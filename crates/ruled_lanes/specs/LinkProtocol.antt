-- The items given to a link are those taken, followed by those that it holds. At most one pass may give, and it has the
-- list of the items given. At most one pass may take, and it has the list of the items taken.
use Rattle.std.specs.Prelude.{◌≡◌, ℕ, Bool, true, List, ◌++◌}
use mathlib.Core.Option.{some}
use lib.ListN.{get_elem?}
use Rattle.ruled_lanes.specs.declared.link_channel.Log.{Log}

module _ {T : Type 0} where
  abbrev pub log : Bool → Bool → List T → List T → Log T
  log gives takes given taken = record { gives = gives; takes = takes; given = given; taken = taken }

  -- what the pass with this number knows, if the pass `giver` may give and the pass `taker` may take
  abbrev pub Knows : ℕ → ℕ → List T → List T → ℕ → Log T → Type 0
  Knows giver taker given taken pass v =
      (v.gives ≡ true → (pass ≡ giver) × (v.given ≡ given)) × (v.takes ≡ true → (pass ≡ taker) × (v.taken ≡ taken))

  abbrev pub Lossless : List T → List (Log T) → Type 0
  Lossless items views = (giver : ℕ) × (taker : ℕ) × (given : List T) × (taken : List T) × (taken ++ items ≡ given)
      × ((pass : ℕ) (v : Log T) → get_elem? views pass ≡ some v → Knows giver taker given taken pass v)
