-- A stop says nothing about the files of a run.
use Rattle.std.proofs.Common.{ℕ, List, [], ◌∷◌, ◌++◌, Option, refl}
use Rattle.lanes.specs.Notes.{Note, Stop}
use Rattle.lanes.specs.Opening.{Meaning}
use Rattle.collector.specs.Stops.{told_same}
use Rattle.collector.specs.declared.picking.Picks.{Picks}
use Rattle.collector.specs.Arrived.{records_of}
use Rattle.collector.specs.PicksHolding.{PicksHold}

pub held_stop : (meaning : ℕ → Meaning) (start now : Option (List ℕ)) (picks : Picks) (ns : List Note) → PicksHold meaning start now picks ns → PicksHold meaning start now picks (ns ++ Stop ∷ [])
held_stop meaning start now picks ns held = record {
  arrived = held.arrived;
  are = record {
    told = λ k below. told_same k ns Stop (records_of (held.arrived k)) refl (held.are.told k below);
    ordered = held.are.ordered;
    flaws_count = held.are.flaws_count;
    flaws_are = held.are.flaws_are;
  };
  picked = held.picked;
  unended = held.unended;
}
