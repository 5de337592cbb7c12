-- Paths of one dart, and places of a path where it does not turn.
use Rattle.std.proofs.Common.{◌≡◌, ℕ, ◌+◌, ◌-◌, ◌%◌, ◌<◌, ◌∙◌, [], ◌∷◌, arith, refl, inl}
use Rattle.dissect.specs.DartMaps.{DartMap, no_dart, IsStraight}
use Rattle.dissect.specs.Paths.{HasPaths, turn_to}

-- where no dart stands before another, each dart is a path of its own
pub plain_paths : (w : DartMap) (n : ℕ) (reverse_dart : ℕ → ℕ) → w.darts ≡ n → ((a : ℕ) → a < n → w.before a ≡ no_dart) →
    ((a : ℕ) → a < n → w.reverse_dart a ≡ reverse_dart a) → HasPaths w n reverse_dart (λ _. [])
plain_paths w n reverse_dart all none same = record {
  few = omega (arith, all);
  paths = λ d l. record {
    first = d;
    rest = [];
    path = record { first_in = omega (arith, all); rest_in = tt; start = none d l; follows = tt; ends = refl };
    back = same d l;
    turns = refl;
  };
  ends = λ a l. inl (none a (omega (arith, all)));
}

-- where a path does not turn, the next dart goes on in the same direction
pub straight_on : (w : DartMap) (a b : ℕ) → IsStraight w → w.direction a < 4 → w.direction b < 4 → b < w.darts → turn_to w a b ≡ 0 →
    w.direction b ≡ w.direction a
straight_on w a b straight quarter_a quarter_b l none = omega (arith, straight b l, none, quarter_a, quarter_b)

-- and where it turns, it goes on in that direction
pub turned_on : (w : DartMap) (a b : ℕ) → IsStraight w → w.direction a < 4 → w.direction b < 4 → b < w.darts →
    w.direction b ≡ (w.direction a + turn_to w a b) % 4
turned_on w a b straight quarter_a quarter_b l =
    let turn : ℕ = turn_to w a b in
    let is : turn ≡ (w.direction (w.reverse_dart b) + 6 - w.direction a) % 4 = refl in
    omega (arith, straight b l, quarter_a, quarter_b, is)
