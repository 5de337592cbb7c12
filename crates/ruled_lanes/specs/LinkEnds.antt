-- The knowledge of the ends of a link.
use Rattle.std.specs.Prelude.{◌≡◌, ℕ, List, ◌++◌}
use Rattle.crossbeam_channel.specs.Claims.{view}
use Rattle.crossbeam_channel.specs.Ends.{sends_on, receives_on, ruled_capacity}
use Rattle.ruled_lanes.specs.declared.link_channel.Giver.{Giver}
use Rattle.ruled_lanes.specs.declared.link_channel.Taker.{Taker}

module _ {T : Type 0} where
  -- all items given by this end, first to last
  abbrev pub given : Giver T → List T
  given g = (view g.pass).given

  -- all items taken by this end, first to last
  abbrev pub taken : Taker T → List T
  taken t = (view t.pass).taken

  -- the maximum number of items that the link holds
  abbrev pub capacity_of : Giver T → ℕ
  capacity_of g = ruled_capacity (sends_on g.sender)

  -- the two ends of one link
  abbrev pub AreEnds : Giver T → Taker T → Type 0
  AreEnds g t = receives_on t.receiver ≡ sends_on g.sender

  -- afterwards it gives to the link that it gave to before
  abbrev pub GivesToSame : Giver T → Giver T → Type 0
  GivesToSame before after = sends_on after.sender ≡ sends_on before.sender

  -- afterwards it takes from the link that it took from before
  abbrev pub TakesFromSame : Taker T → Taker T → Type 0
  TakesFromSame before after = receives_on after.receiver ≡ receives_on before.receiver

  -- what was taken, followed by what the link held, is what was given
  abbrev pub Settles : List T → List T → Type 0
  Settles taken given = (held : List T) × (taken ++ held ≡ given)
