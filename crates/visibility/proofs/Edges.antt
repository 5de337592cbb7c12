-- The number of an edge, by its lesser dart.
use Rattle.std.proofs.Common.{◌≡◌, ◌∙◌, ℕ, ◌+◌, ◌*◌, ◌<◌, ◌≤◌, ap, arith}
use Rattle.std.proofs.lemmas.Bool.{cond-true, cond-false, lt-ltb, le-ltb}
use Rattle.faces.specs.Planes.{PlaneModel, HasEnds, darts, reverse_dart}
use Rattle.ortho_rep.specs.Edges.{is_lesser, edge_number}
use Rattle.ortho_rep.proofs.EdgeNumbers.{edge_total, edge_number-below, edge_number-more}

-- it is less than the number of edges
pub number_below : (p : PlaneModel) (dart count : ℕ) → HasEnds p → 2 * count ≡ darts p → dart < darts p → dart < reverse_dart p dart → edge_number p dart < count
number_below p dart count ends half inside less =
    let lesser = lt-ltb dart (reverse_dart p dart) less in
    omega (arith, edge_total p ends, edge_number-below p (darts p) dart inside lesser)

-- after a lesser dart
pub number_more : (p : PlaneModel) (dart edge : ℕ) → edge ≡ edge_number p dart → dart < reverse_dart p dart → edge + 1 ≡ edge_number p (dart + 1)
number_more p dart edge e less =
    let one = ap (λ (n : ℕ). edge_number p dart + n) (cond-true (is_lesser p dart) 1 0 (lt-ltb dart (reverse_dart p dart) less)) in
    omega (arith, edge_number-more p dart ∙ one, e)

-- after a greater one
pub number_kept : (p : PlaneModel) (dart edge : ℕ) → edge ≡ edge_number p dart → reverse_dart p dart ≤ dart → edge ≡ edge_number p (dart + 1)
number_kept p dart edge e more =
    let none = ap (λ (n : ℕ). edge_number p dart + n) (cond-false (is_lesser p dart) 1 0 (le-ltb dart (reverse_dart p dart) more)) in
    omega (arith, edge_number-more p dart ∙ none, e)
