-- What a sweep holds, step by step.
use Rattle.std.proofs.Common.{◌≡◌, ℕ, ◌+◌, ◌<◌, ◌≤◌, ◌⊎◌, false, Option, None, Some, List, length, get_or, refl, sym, ◌∙◌, ap, subst, inl, inr, ⊎_elim, arith, AllPairs}
use Rattle.std.specs.Ordering.{nat_cmp, is_eq}
use Rattle.std.specs.BTreeMap.{BTreeMap, get, Updates}
use Rattle.std.specs.List.Sorted.{IsNonDecreasingBy}
use Rattle.std.proofs.lemmas.Bool.{cases_lt, cases_eq, lt-ltb, le-ltb, ne_eqb}
use Rattle.std.proofs.lemmas.List.{get_or_default}
use Rattle.geometry.specs.declared.plane_sweep.Rectangle.{Rectangle}
use Rattle.geometry.specs.Rectangles.{IsNonempty, AreApart}
use Rattle.geometry.specs.Dictionary.{IsSweepDictionary, Clears, IsFree, IsMet}

-- The look-up `after` is `before` with w at the key k.
pub record IsUpdate (before after : ℕ → Option Rectangle) (k : ℕ) (w : Option Rectangle) : Type 0 where
  pub here : after k ≡ w
  pub others : (q : ℕ) → (k ≡ q → ⊥) → after q ≡ before q

differ : (k q : ℕ) → (k ≡ q → ⊥) → is_eq (nat_cmp k q) ≡ false
differ k q ne =
    ⊎_elim (λ lt. rw (lt-ltb k q lt) refl) (λ ge. rw (le-ltb k q ge, ne_eqb k q ne) refl) (cases_lt k q)

pub is_update : (m n : BTreeMap ℕ Rectangle) (k : ℕ) (w : Option Rectangle) → Updates nat_cmp m n k w → IsUpdate (get nat_cmp m) (get nat_cmp n) k w
is_update m n k w h = record { here = h.1; others = λ q ne. h.2 q (differ k q ne) }

-- ---- taking out

taken : (before after : ℕ → Option Rectangle) (k : ℕ) → IsUpdate before after k None → (q : ℕ) (r : Rectangle) → after q ≡ Some r → before q ≡ Some r
taken before after k u q r e =
    ⊎_elim (λ same. let gone : after q ≡ None = subst (λ (n : ℕ). after n ≡ None) same u.here in cc) (λ ne. sym (u.others q ne) ∙ e) (cases_eq k q)

pub IsSweepDictionary-taken : (before after : ℕ → Option Rectangle) (k : ℕ) → IsUpdate before after k None → IsSweepDictionary before → IsSweepDictionary after
IsSweepDictionary-taken before after k u s =
    record {
      keyed = λ q r e. s.keyed q r (taken before after k u q r e);
      filled = λ q r e. s.filled q r (taken before after k u q r e);
      disjoint = λ i j r t lt e f. s.disjoint i j r t lt (taken before after k u i r e) (taken before after k u j t f);
    }

pub Clears-taken : (before mid after : ℕ → Option Rectangle) (k : ℕ) (new found : Rectangle) → Clears before mid new → mid k ≡ Some found → found.right < new.left → IsUpdate mid after k None → Clears before after new
Clears-taken before mid after k new found c there ends u =
    record {
      kept = λ q r e. c.kept q r (taken mid after k u q r e);
      stays = λ q r e reaches.
          let still = c.stays q r e reaches in
          ⊎_elim
          (λ same. let one : Some found ≡ Some r = sym there ∙ (subst (λ (n : ℕ). mid n ≡ Some r) (sym same) still) in
          let equal : found ≡ r = cc in
          absurd (let far : r.right < new.left = subst (λ (s : Rectangle). s.right < new.left) equal ends in omega arith))
          (λ ne. u.others q ne ∙ still)
          (cases_eq k q);
    }

-- ---- one more rectangle

-- What a look-up past the end of a list gives.
abbrev pub none_there : Rectangle
none_there = record { left = 0; right = 0; bottom = 0; top = 0 }

-- The element at k.
abbrev pub at : List Rectangle → ℕ → Rectangle
at xs k = get_or xs k none_there

-- The sweep has met the first i of the list, which are apart, and holds each of them that a later left
-- column still reaches.
pub record IsSwept (held : ℕ → Option Rectangle) (xs : List Rectangle) (i : ℕ) : Type 0 where
  pub dictionary : IsSweepDictionary held
  pub among : (k : ℕ) (r : Rectangle) → held k ≡ Some r → (m : ℕ) × (m < i) × (at xs m ≡ r)
  pub live : (m j : ℕ) → m < i → i ≤ j → j < length xs → (at xs j).left ≤ (at xs m).right → held (at xs m).bottom ≡ Some (at xs m)
  pub apart : (m n : ℕ) → m < n → n < i → AreApart (at xs m) (at xs n)

-- The new one is apart from all before it: those that still reach it are held, and above or below it.
apart_new : (held room : ℕ → Option Rectangle) (xs : List Rectangle) (i : ℕ) → IsSwept held xs i → i < length xs → Clears held room (at xs i) → IsFree room (at xs i) → (m : ℕ) → m < i → AreApart (at xs m) (at xs i)
apart_new held room xs i s within c free m lt = λ x y inside also.
    let reaches : (at xs i).left ≤ (at xs m).right = omega arith in
    let there = c.stays _ _ (s.live m i lt (omega arith) within reaches) reaches in
    let below = free _ _ there in
    omega arith

-- The look-up after an insert of r at its bottom row.
inserted : {room after : ℕ → Option Rectangle} {r : Rectangle} → IsUpdate room after r.bottom (Some r) → (k : ℕ) (t : Rectangle) → after k ≡ Some t → ((r.bottom ≡ k) × (t ≡ r)) ⊎ (room k ≡ Some t)
inserted {room} {after} {r} u k t e =
    ⊎_elim
    (λ same. let one : Some t ≡ Some r = sym e ∙ (ap after (sym same) ∙ u.here) in inl (same, cc))
    (λ ne. inr (sym (u.others k ne) ∙ e))
    (cases_eq r.bottom k)

IsSweepDictionary-insert : (room after : ℕ → Option Rectangle) (r : Rectangle) → IsSweepDictionary room → IsNonempty r → IsFree room r → IsUpdate room after r.bottom (Some r) → IsSweepDictionary after
IsSweepDictionary-insert room after r s full free u =
    record {
      keyed = λ k t e. ⊎_elim (λ p. ap (λ (q : Rectangle). q.bottom) p.1 ∙ p.0) (λ h. s.keyed k t h) (inserted u k t e);
      filled = λ k t e. ⊎_elim (λ p. subst (λ (q : Rectangle). IsNonempty q) (sym p.1) full) (λ h. s.filled k t h) (inserted u k t e);
      disjoint = λ j k t v lt e f.
          ⊎_elim
          (λ p. let top : t.top ≡ r.top = ap (λ (q : Rectangle). q.top) p.1 in
          ⊎_elim
          (λ q. absurd (let k_is = q.0 in let j_is = p.0 in omega arith))
          (λ h. above j k t v lt p.0 top h)
          (inserted u k v f))
          (λ g. ⊎_elim
          (λ q. let k_is = q.0 in let clear = free j t g in omega arith)
          (λ h. s.disjoint j k t v lt g h)
          (inserted u k v f))
          (inserted u j t e);
    }
  where
    above : (j k : ℕ) (t v : Rectangle) → j < k → r.bottom ≡ j → t.top ≡ r.top → room k ≡ Some v → t.top < k
    above j k t v lt j_is top h =
        ⊎_elim
        (λ up. omega arith)
        (λ down. absurd (let clear = free k v h down in let keyed = s.keyed k v h in let one = s.filled k v h in omega arith))
        (cases_lt r.top k)

pub IsSwept-more : (held room after : ℕ → Option Rectangle) (xs : List Rectangle) (i : ℕ) → IsSwept held xs i → i < length xs → IsNonDecreasingBy (λ r. r.left) xs → IsNonempty (at xs i) → Clears held room (at xs i) → IsFree room (at xs i) → IsUpdate room after (at xs i).bottom (Some (at xs i)) → IsSwept after xs (i + 1)
IsSwept-more held room after xs i s within sorted full c free u =
    record {
      dictionary = IsSweepDictionary-insert room after (at xs i) kept_dictionary full free u;
      among = λ k r e. ⊎_elim (λ p. (i, omega arith, sym p.1)) (λ h. let m = s.among k r (c.kept k r h) in (m.0, omega arith, m.2)) (inserted u k r e);
      live = λ m j lt ge inside reaches.
          ⊎_elim (λ same. subst (λ (n : ℕ). after (at xs n).bottom ≡ Some (at xs n)) (sym same) u.here) (λ ne. old m j (omega arith) ge inside reaches) (cases_eq m i);
      apart = λ m n lt below.
          ⊎_elim (λ same. subst (λ (k : ℕ). AreApart (at xs m) (at xs k)) (sym same) (apart_new held room xs i s within c free m (omega arith))) (λ ne. s.apart m n lt (omega arith)) (cases_eq n i);
    }
  where
    kept_dictionary : IsSweepDictionary room
    kept_dictionary = record {
      keyed = λ k r e. s.dictionary.keyed k r (c.kept k r e);
      filled = λ k r e. s.dictionary.filled k r (c.kept k r e);
      disjoint = λ j k r t lt e f. s.dictionary.disjoint j k r t lt (c.kept j r e) (c.kept k t f);
    }

    old : (m j : ℕ) → m < i → i + 1 ≤ j → j < length xs → (at xs j).left ≤ (at xs m).right → after (at xs m).bottom ≡ Some (at xs m)
    old m j lt ge inside reaches =
        let earlier = sorted i j none_there (omega arith) inside in
        let there = c.stays _ _ (s.live m j lt (omega arith) inside reaches) (omega arith) in
        ⊎_elim
        (λ same. absurd (let clear = free (at xs m).bottom (at xs m) there (omega arith) in let one = s.dictionary.filled (at xs m).bottom (at xs m) (c.kept _ _ there) in omega arith))
        (λ ne. u.others (at xs m).bottom ne ∙ there)
        (cases_eq (at xs i).bottom (at xs m).bottom)

-- Two that share a row, and of which the first reaches the second's left column, have a point in common.
common_point : (r t : Rectangle) → IsNonempty r → IsNonempty t → r.left ≤ t.left → t.left ≤ r.right → r.bottom ≤ t.top → t.bottom ≤ r.top → AreApart r t → ⊥
common_point r t one other left right low high apart =
    ⊎_elim
    (λ lt. apart t.left t.bottom (omega arith, omega arith, omega arith, omega arith) (omega arith, omega arith, omega arith, omega arith))
    (λ ge. apart t.left r.bottom (omega arith, omega arith, omega arith, omega arith) (omega arith, omega arith, omega arith, omega arith))
    (cases_lt r.bottom t.bottom)

pub met_not_apart : (held : ℕ → Option Rectangle) (xs : List Rectangle) (i : ℕ) → IsSwept held xs i → i < length xs → IsNonDecreasingBy (λ r. r.left) xs → IsNonempty (at xs i) → IsMet held (at xs i) → AllPairs AreApart xs → ⊥
met_not_apart held xs i s within sorted full met apart =
    let m = s.among met.0 met.1 met.2 in
    let earlier = sorted m.0 i none_there (omega (arith, m.1)) within in
    let key = s.dictionary.keyed met.0 met.1 met.2 in
    let some : IsNonempty (at xs m.0) = subst (λ (t : Rectangle). IsNonempty t) (sym m.2) (s.dictionary.filled met.0 met.1 met.2) in
    let right = ap (λ (t : Rectangle). t.right) m.2 in
    let bottom = ap (λ (t : Rectangle). t.bottom) m.2 in
    let top = ap (λ (t : Rectangle). t.top) m.2 in
    common_point (at xs m.0) (at xs i) some full earlier (omega (arith, met.5)) (omega (arith, met.3)) (omega (arith, met.4)) (apart m.0 i none_there m.1 within)

pub AllPairs-swept : (held : ℕ → Option Rectangle) (xs : List Rectangle) (i : ℕ) → IsSwept held xs i → length xs ≤ i → AllPairs AreApart xs
AllPairs-swept held xs i s all = λ m n d lt within.
    rw (get_or_default xs m d none_there (omega arith), get_or_default xs n d none_there within) (s.apart m n lt (omega arith))
