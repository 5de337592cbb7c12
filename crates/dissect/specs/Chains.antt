-- How the darts that stand before others lie: in chains, two by two, one chain each way along an edge.
use Rattle.std.specs.Prelude.{◌≡◌, ◌≢◌, ℕ, ◌<◌, ◌≤◌, ◌⊎◌}
use Rattle.dissect.specs.DartMaps.{DartMap, no_dart}

-- between the darts of a chain lie vertices of the chain's own, none of them among the first v
pub record AreChains (v : ℕ) (w : DartMap) : Type 0 where
  -- what stands before a dart is a dart
  pub inside : (a : ℕ) → a < w.darts → (w.before a ≡ no_dart) ⊎ (w.before a < w.darts)
  -- after the reverse of a dart comes the reverse of the dart before it
  pub back : (a : ℕ) → a < w.darts → w.before a ≢ no_dart → w.before (w.reverse_dart (w.before a)) ≡ w.reverse_dart a
  -- the vertex between a dart and the one before it is none of the first v
  pub fresh : (a : ℕ) → a < w.darts → w.before a ≢ no_dart → v ≤ w.head (w.before a)
  -- and lies between no other two darts of a chain but their reverses
  pub own : (a b : ℕ) → a < w.darts → b < w.darts → w.before a ≢ no_dart → w.before b ≢ no_dart →
      w.head (w.before a) ≡ w.head (w.before b) → (a ≡ b) ⊎ (a ≡ w.reverse_dart (w.before b))
