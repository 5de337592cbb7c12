-- The frontier of a sweep, step by step.
use Rattle.std.proofs.Common.{◌≡◌, ℕ, ◌+◌, ◌<◌, ◌≤◌, ◌⊎◌, List, length, get_or, sym, ◌∙◌, ap, subst, inl, inr, ⊎_elim, arith, rules, AllPairs, EachIndex, ◌-◌, replicate, drop}
use Rattle.std.specs.List.Sorted.{IsNonDecreasingBy}
use Rattle.std.proofs.lemmas.Bool.{cases_lt, cases_eq}
use Rattle.std.proofs.lemmas.List.{get_or_default, get_or-take, get_or-drop, places, length-replicate, get_or-replicate}
use borrow.Rule.Slice.PartMut.{put_mid, mid_of}
use Rattle.geometry.specs.declared.plane_sweep.Rectangle.{Rectangle}
use Rattle.geometry.specs.Rectangles.{IsNonempty, AreApart}
use Rattle.geometry.specs.Frontier.{HasRow, MovesPast, IsBeyond}
use Rattle.geometry.proofs.Holdings.{none_there, at}

-- The sweep has met the first i of the list, which are apart, and in each row the frontier is one past the
-- right column of one of them and past that of each of them.
pub record IsFrontier (frontier : List ℕ) (xs : List Rectangle) (i : ℕ) : Type 0 where
  pub past : (m y : ℕ) → m < i → HasRow (at xs m) y → (at xs m).right < get_or frontier y 0
  pub behind : (y : ℕ) → 0 < get_or frontier y 0 → (m : ℕ) × (m < i) × HasRow (at xs m) y × (get_or frontier y 0 ≡ (at xs m).right + 1)
  pub apart : (m n : ℕ) → m < n → n < i → AreApart (at xs m) (at xs n)

-- Whether a row is one of a rectangle's.
has_row : (r : Rectangle) (y : ℕ) → HasRow r y ⊎ (HasRow r y → ⊥)
has_row r y =
    ⊎_elim
    (λ low. inr (λ row. omega arith))
    (λ above. ⊎_elim (λ high. inr (λ row. omega arith)) (λ within. inl (above, within)) (cases_lt r.top y))
    (cases_lt y r.bottom)

pub IsFrontier-more : (before after : List ℕ) (xs : List Rectangle) (i : ℕ) → IsFrontier before xs i → IsNonempty (at xs i) → MovesPast before after (at xs i) → IsFrontier after xs (i + 1)
IsFrontier-more before after xs i f full p =
    record {
      past = λ m y lt row. ⊎_elim (λ same. newest m y same row) (λ ne. earlier m y (omega arith) row) (cases_eq m i);
      behind = λ y some.
          ⊎_elim
          (λ row. (i, omega arith, row, p.taken y row))
          (λ no. let e = p.others y no in let m = f.behind y (omega arith) in (m.0, omega (arith, m.1), m.2, e ∙ m.3))
          (has_row (at xs i) y);
      apart = λ m n lt below.
          ⊎_elim (λ same. subst (λ (k : ℕ). AreApart (at xs m) (at xs k)) (sym same) (apart_new m (omega arith))) (λ ne. f.apart m n lt (omega arith)) (cases_eq n i);
    }
  where
    newest : (m y : ℕ) → m ≡ i → HasRow (at xs m) y → (at xs m).right < get_or after y 0
    newest m y same row =
        let here : HasRow (at xs i) y = subst (λ (k : ℕ). HasRow (at xs k) y) same row in
        let taken = p.taken y here in
        subst (λ (k : ℕ). (at xs k).right < get_or after y 0) (sym same) (omega arith)

    earlier : (m y : ℕ) → m < i → HasRow (at xs m) y → (at xs m).right < get_or after y 0
    earlier m y lt row =
        let old = f.past m y lt row in
        ⊎_elim
        (λ here. let taken = p.taken y here in let free = p.free y here in omega arith)
        (λ no. let e = p.others y no in omega arith)
        (has_row (at xs i) y)

    apart_new : (m : ℕ) → m < i → AreApart (at xs m) (at xs i)
    apart_new m lt = λ x y one other.
        let old = f.past m y lt (one.2, one.3) in let free = p.free y (other.2, other.3) in omega arith

-- Where the frontier is beyond the left column of the next one, that has a point in common with one before it.
pub reached_not_apart : (frontier : List ℕ) (xs : List Rectangle) (i : ℕ) → IsFrontier frontier xs i → i < length xs → IsNonDecreasingBy (λ r. r.left) xs → IsNonempty (at xs i) → IsBeyond frontier (at xs i) → AllPairs AreApart xs → ⊥
reached_not_apart frontier xs i f within sorted full reached apart =
    let y = reached.0 in
    let m = f.behind y (omega (arith, reached.2)) in
    let earlier = sorted m.0 i none_there (omega (arith, m.1)) within in
    apart m.0 i none_there m.1 within (at xs i).left y (earlier, omega (arith, m.3, reached.2), m.2.0, m.2.1) (omega arith, omega arith, reached.1.0, reached.1.1)

pub AllPairs-frontier : (frontier : List ℕ) (xs : List Rectangle) (i : ℕ) → IsFrontier frontier xs i → length xs ≤ i → AllPairs AreApart xs
AllPairs-frontier frontier xs i f all = λ m n d lt within.
    rw (get_or_default xs m d none_there (omega arith), get_or_default xs n d none_there within) (f.apart m n lt (omega arith))

-- A write to the part of a list from a on that k elements make up.
module _ (a k : ℕ) (xs ys : List ℕ) (within : a + k ≤ length xs) (same : length ys ≡ k) where
  pub written : (y : ℕ) → a ≤ y → y < a + k → get_or (put_mid a k xs ys) y 0 ≡ get_or ys (y - a) 0
  written y low high = search (rules, places)

  pub below : (y : ℕ) → y < a → get_or (put_mid a k xs ys) y 0 ≡ get_or xs y 0
  below y low = search (rules, places)

  pub above : (y : ℕ) → a + k ≤ y → get_or (put_mid a k xs ys) y 0 ≡ get_or xs y 0
  above y high = search (rules, places)

pub MovesPast-part : (frontier part : List ℕ) (r : Rectangle) → IsNonempty r → r.top < length frontier → EachIndex (mid_of r.bottom (r.top + 1 - r.bottom) frontier) (λ k. get_or (mid_of r.bottom (r.top + 1 - r.bottom) frontier) k 0 ≤ r.left) → part ≡ replicate (length (mid_of r.bottom (r.top + 1 - r.bottom) frontier)) (r.right + 1) → MovesPast frontier (put_mid r.bottom (r.top + 1 - r.bottom) frontier part) r
MovesPast-part frontier part r full low free is =
    record {
      free = λ y row.
          let e : get_or (mid_of r.bottom rows frontier) (y - r.bottom) 0 ≡ get_or frontier y 0 = let back : r.bottom + (y - r.bottom) ≡ y = omega arith in get_or-take rows (drop r.bottom frontier) (y - r.bottom) 0 (omega arith) ∙ get_or-drop r.bottom frontier (y - r.bottom) 0 ∙ ap (λ (k : ℕ). get_or frontier k 0) back in
          let most = free (y - r.bottom) (omega (arith, long)) in
          omega arith;
      taken = λ y row.
          written r.bottom rows frontier part inside same y (omega arith) (omega arith) ∙ (rw is (get_or-replicate _ (y - r.bottom) (r.right + 1) 0 (omega (arith, long))));
      others = λ y no.
          ⊎_elim
          (λ lt. below r.bottom rows frontier part inside same y lt)
          (λ ge. above r.bottom rows frontier part inside same y (⊎_elim (λ high. omega arith) (λ within. absurd (no (ge, within))) (cases_lt r.top y)))
          (cases_lt y r.bottom);
    }
  where
    rows : ℕ
    rows = r.top + 1 - r.bottom

    inside : r.bottom + rows ≤ length frontier
    inside = omega arith

    long : length (mid_of r.bottom rows frontier) ≡ rows
    long = search (rules, places)

    same : length part ≡ rows
    same = rw is (length-replicate _ (r.right + 1) ∙ long)
