-- Any two darts of a connected graph are connected: a set of darts that is closed under "next" and under
-- "reverse" and holds one dart holds them all.
use Rattle.std.proofs.Common.{◌≡◌, ℕ, zero, suc, ◌+◌, ◌-◌, ◌<◌, Bool, true, false, not, List, [], length, get_or, inl, inr, refl, sym, ap, ◌∙◌, subst, arith}
use Rattle.std.proofs.lemmas.Bool.{cases_lt, cases_Bool, both_ways, not-true, not_from_false}
use Rattle.std.proofs.lemmas.List.{get_or_default}
use Rattle.embedding.specs.declared.breaks.Rule.TheVariants.{Disconnected}
use Rattle.embedding.specs.Lists.{list_of}
use Rattle.embedding.specs.Darts.{dart_count, first_dart, head_of, tail_of, reverse_of, after_of, next_of}
use Rattle.embedding.specs.Rules.{KeepsBefore, IsClosed}
use Rattle.embedding.proofs.Entries.{Stands, stands_at, dart_stands}
use Rattle.embedding.proofs.Rotation.{reverse_is, reverse_involution, after_place, tail_at, dart_below, list_of-place, tail_within}
use Rattle.faces.specs.Faces.{IsClosedUnder}
use Rattle.faces.specs.Planes.{PlaneModel, IsPlane, darts, reverse_dart, face_at}
use Rattle.faces.proofs.Ends.{seven_rules}

-- a set that is closed under "next" and "reverse" is closed under "after"
shut_after : (g : List (List ℕ)) → KeepsBefore g 8 → (s : ℕ → Bool) → IsClosedUnder (dart_count g) (next_of g) s → IsClosedUnder (dart_count g) (reverse_of g) s → IsClosedUnder (dart_count g) (after_of g) s
shut_after g rules s next reverse d h m =
    let turns = reverse_involution g rules in
    subst (λ e. s (after_of g e) ≡ true) (turns.back d h) (next (reverse_of g d) (turns.inside d h) (reverse d h m))

-- a dart is given by its place
same_dart : (g : List (List ℕ)) (d e k i j : ℕ) → Stands 1 g d k i → Stands 1 g e k j → i ≡ j → d ≡ e
same_dart g d e k i j s t same = omega (arith, s.number, t.number)

-- from one place of a list such a set goes on to the later ones
later : (g : List (List ℕ)) (s : ℕ → Bool) → IsClosedUnder (dart_count g) (after_of g) s → (k i m d e : ℕ) → Stands 1 g d k i → Stands 1 g e k (i + m) → s d ≡ true → s e ≡ true
later g s shut k i zero d e at to here = subst (λ x. s x ≡ true) (same_dart g d e k i (i + 0) at to (omega arith)) here
later g s shut k i (suc m) d e at to here =
    let (j, next, place) = after_place g d k i at in
    elim place [
      | inl p ↦ later g s shut k j m (after_of g d) e next
          (subst (λ x. Stands 1 g e k x) (omega (arith, p.1)) to) (shut d (dart_below g d k i at) here)
      | inr p ↦ absurd (omega (arith, to.place, p.0))
    ]

-- and from each place to the first
to_first : (g : List (List ℕ)) (s : ℕ → Bool) → IsClosedUnder (dart_count g) (after_of g) s → (k i m d : ℕ) → Stands 1 g d k i → i + m + 1 ≡ length (get_or g k []) → s d ≡ true → s (first_dart g k) ≡ true
to_first g s shut k i m d at last here =
    let end = stands_at 1 g (first_dart g k + (i + m)) k (i + m) at.list (omega arith) refl in
    let there : s (first_dart g k + (i + m)) ≡ true = later g s shut k i m d (first_dart g k + (i + m)) at end here in
    let (j, next, place) = after_place g (first_dart g k + (i + m)) k (i + m) end in
    elim place [
      | inl p ↦ absurd (omega (arith, p.0))
      | inr p ↦ subst (λ x. s x ≡ true) (omega (arith, next.number, p.1)) (shut _ (dart_below g _ k (i + m) end) there)
    ]

-- with one dart of a vertex it holds the first
first_held : (g : List (List ℕ)) (s : ℕ → Bool) → IsClosedUnder (dart_count g) (after_of g) s → (k i d : ℕ) → Stands 1 g d k i → s d ≡ true → s (first_dart g k) ≡ true
first_held g s shut k i d at here =
    elim (cases_lt i (length (get_or g k []))) [
      | inl h ↦ let m : (m : ℕ) × (i + m + 1 ≡ length (get_or g k [])) = gap i (length (get_or g k [])) h in to_first g s shut k i m.0 d at m.1 here
      | inr h ↦ absurd (omega (arith, at.place))
    ]
  where
    gap : (a b : ℕ) → a < b → (m : ℕ) × (a + m + 1 ≡ b)
    gap a b h = (b - suc a, omega arith)

-- and with the first all
all_held : (g : List (List ℕ)) (s : ℕ → Bool) → IsClosedUnder (dart_count g) (after_of g) s → (k i d : ℕ) → Stands 1 g d k i → s (first_dart g k) ≡ true → s d ≡ true
all_held g s shut k i d at here =
    let first = stands_at 1 g (first_dart g k) k 0 at.list (omega (arith, at.place)) (omega arith) in
    later g s shut k 0 i (first_dart g k) d first (subst (λ x. Stands 1 g d k x) (omega arith) at) here

-- the vertices whose first dart is held
abbrev firsts : List (List ℕ) → (ℕ → Bool) → ℕ → Bool
firsts g s zero = false
firsts g s (suc k) = s (first_dart g k)

-- a dart is held where its tail is
tail_held : (g : List (List ℕ)) (s : ℕ → Bool) → IsClosedUnder (dart_count g) (after_of g) s → (d : ℕ) → d < dart_count g → s d ≡ true → firsts g s (tail_of g d) ≡ true
tail_held g s shut d h here =
    let (k, i, at) = dart_stands 1 g d h in
    subst (λ u. firsts g s u ≡ true) (sym (tail_at g d k i at)) (first_held g s shut k i d at here)

held_tail : (g : List (List ℕ)) (s : ℕ → Bool) → IsClosedUnder (dart_count g) (after_of g) s → (d : ℕ) → d < dart_count g → firsts g s (tail_of g d) ≡ true → s d ≡ true
held_tail g s shut d h here =
    let (k, i, at) = dart_stands 1 g d h in
    all_held g s shut k i d at (subst (λ u. firsts g s u ≡ true) (tail_at g d k i at) here)

-- the ends of a dart are held together
crossed : (g : List (List ℕ)) → KeepsBefore g 8 → (s : ℕ → Bool) → IsClosedUnder (dart_count g) (after_of g) s → IsClosedUnder (dart_count g) (reverse_of g) s → (d : ℕ) → d < dart_count g → firsts g s (tail_of g d) ≡ true → firsts g s (head_of g d) ≡ true
crossed g rules s shut reverse d h here =
    let o = reverse_is g rules d h in
    subst (λ u. firsts g s u ≡ true) o.tail (tail_held g s shut (reverse_of g d) o.inside (reverse d h (held_tail g s shut d h here)))

crossed_back : (g : List (List ℕ)) → KeepsBefore g 8 → (s : ℕ → Bool) → IsClosedUnder (dart_count g) (after_of g) s → IsClosedUnder (dart_count g) (reverse_of g) s → (d : ℕ) → d < dart_count g → firsts g s (head_of g d) ≡ true → firsts g s (tail_of g d) ≡ true
crossed_back g rules s shut reverse d h here =
    let o = reverse_is g rules d h in
    subst (λ u. firsts g s u ≡ true) o.head
    (crossed g rules s shut reverse (reverse_of g d) o.inside (subst (λ u. firsts g s u ≡ true) (sym o.tail) here))

-- each entry of a list is the head of a dart whose tail is the list's vertex
entry_dart : (g : List (List ℕ)) (u i other : ℕ) → i < length (list_of g u) → (d : ℕ) × (d < dart_count g) × (tail_of g d ≡ u) × (head_of g d ≡ get_or (list_of g u) i other)
entry_dart g u i other inside =
    let (k, vertex, list) = list_of-place g u i inside in
    let at : list_of g u ≡ get_or g k [] = ap (list_of g) vertex in
    let inside' : i < length (get_or g k []) = subst (λ (l : List ℕ). i < length l) at inside in
    let s = stands_at 1 g (first_dart g k + i) k i list inside' refl in (
      first_dart g k + i,
      dart_below g _ k i s,
      tail_at g _ k i s ∙ sym vertex,
      s.head ∙ get_or_default (get_or g k []) i 0 other inside' ∙ ap (λ (l : List ℕ). get_or l i other) (sym at),
    )

-- the vertices that are held are a closed set, and so are the others
closed_held : (g : List (List ℕ)) → KeepsBefore g 8 → (s : ℕ → Bool) → IsClosedUnder (dart_count g) (after_of g) s → IsClosedUnder (dart_count g) (reverse_of g) s → IsClosed g (firsts g s)
closed_held g rules s shut reverse u here i other inside =
    let (d, below, tail, head) = entry_dart g u i other inside in
    subst (λ v. firsts g s v ≡ true) head
    (crossed g rules s shut reverse d below (subst (λ v. firsts g s v ≡ true) (sym tail) here))

closed_rest : (g : List (List ℕ)) → KeepsBefore g 8 → (s : ℕ → Bool) → IsClosedUnder (dart_count g) (after_of g) s → IsClosedUnder (dart_count g) (reverse_of g) s → IsClosed g (λ u. not (firsts g s u))
closed_rest g rules s shut reverse u absent i other inside =
    let (d, below, tail, head) = entry_dart g u i other inside in
    let v = get_or (list_of g u) i other in
    elim (cases_Bool (firsts g s v)) [
      | inl there ↦
          let back : firsts g s u ≡ true = subst (λ w. firsts g s w ≡ true) tail
          (crossed_back g rules s shut reverse d below (subst (λ w. firsts g s w ≡ true) (sym head) there)) in
          absurd (both_ways (firsts g s u) (not-true (firsts g s u) absent) back)
      | inr none ↦ not_from_false (firsts g s v) none
    ]

-- a closed set of vertices that holds vertex 1 holds each tail
reaches_tails : (g : List (List ℕ)) → KeepsBefore g 8 → (t : ℕ → Bool) → IsClosed g t → t 1 ≡ true → (d : ℕ) → d < dart_count g → t (tail_of g d) ≡ true
reaches_tails g rules t closed one d h =
    let within = tail_within g d h in
    elim (cases_Bool (t (tail_of g d))) [
      | inl there ↦ there
      | inr none ↦ absurd (rules Disconnected (omega arith) (t, one, closed, (tail_of g d, omega (arith, within.0), within.1, none)))
    ]

-- a set that is closed under "next" and "reverse" and holds one dart holds them all
pub all_connected : (g : List (List ℕ)) → KeepsBefore g 8 → (s : ℕ → Bool) → IsClosedUnder (dart_count g) (next_of g) s → IsClosedUnder (dart_count g) (reverse_of g) s
    → (d e : ℕ) → d < dart_count g → e < dart_count g → s d ≡ true → s e ≡ true
all_connected g rules s next reverse d e hd he here =
    let shut = shut_after g rules s next reverse in
    elim (cases_Bool (firsts g s 1)) [
      | inl one ↦ held_tail g s shut e he (reaches_tails g rules (firsts g s) (closed_held g rules s shut reverse) one e he)
      | inr none ↦
          let rest = reaches_tails g rules (λ u. not (firsts g s u)) (closed_rest g rules s shut reverse) (not_from_false (firsts g s 1) none) d hd in
          absurd (both_ways (firsts g s (tail_of g d)) (not-true (firsts g s (tail_of g d)) rest) (tail_held g s shut d hd here))
    ]

-- any two faces of a plane are connected: a set of faces that holds with each dart's face the face across holds
-- them all, if it holds one
pub faces_connected : (p : PlaneModel) → IsPlane p → (t : ℕ → Bool)
    → ((d : ℕ) → d < darts p → t (face_at p d) ≡ true → t (face_at p (reverse_dart p d)) ≡ true)
    → (k j : ℕ) → k < p.faces → j < p.faces → t k ≡ true → t j ≡ true
faces_connected p is t across k j hk hj here =
    let (d, in-d, face-d) = is.faces.used k hk in
    let (e, in-e, face-e) = is.faces.used j hj in
    subst (λ i. t i ≡ true) face-e
    (all_connected p.lists (seven_rules p.lists is.rules) (λ x. t (face_at p x))
    (λ x h m. subst (λ i. t i ≡ true) (sym (is.faces.closed x h)) m) across d e in-d in-e
    (subst (λ i. t i ≡ true) (sym face-d) here))
