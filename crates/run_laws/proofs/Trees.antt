-- Trees in a graph. Places that edges join are reached by one edge fewer than there are places. The edges left still join the
-- sides that all edges join, where one can go round each place from any edge back to it; so there are at least one fewer of
-- them than sides.
use Rattle.std.proofs.Common.{◌≡◌, ◌≤◌, ◌<◌, ℕ, zero, suc, ◌+◌, cond, eqb, Bool, true, false, not, ◌&&◌, ◌||◌, refl, sym, ◌∙◌, ap, subst, inl, inr, arith}
use Rattle.std.specs.Prelude.{◌⊎◌}
use Rattle.std.proofs.lemmas.Bool.{cases_Bool, both_ways, and_parts, and_from, or_cases, or_from, or_left, or_right, not-true, not_from_false, false_from_ne_true, cond-true, cond-false, eq-eqb, eqb-true, ne_eqb}
use Rattle.common.specs.Sums.{sum_below}
use Rattle.common.proofs.Sums.{sum_below-same, sum_below-add, sum_below-le, sum_below-none, sum_below-one, sum_below-member, sum_below-changed}
use Rattle.flow_network.proofs.VertexDegrees.{search_below}

-- ---- sets of numbers

-- how many numbers below n are in the set
abbrev pub count_below : ℕ → (ℕ → Bool) → ℕ
count_below n s = sum_below n (λ i. cond (s i) 1 0)

-- the set with one number more
abbrev pub with_one : (ℕ → Bool) → ℕ → ℕ → Bool
with_one s a i = s i || eqb a i

or_none : (x y : Bool) → y ≡ false → (x || y) ≡ x
or_none true y none = refl
or_none false y none = none

has_new : (s : ℕ → Bool) (a : ℕ) → with_one s a a ≡ true
has_new s a = or_right (s a) (eqb a a) (eq-eqb a a refl)

has_old : (s : ℕ → Bool) (a d : ℕ) → s d ≡ true → with_one s a d ≡ true
has_old s a d on = or_left (s d) (eqb a d) on

in_two : (s : ℕ → Bool) (a b d : ℕ) → with_one (with_one s a) b d ≡ true → (s d ≡ true) ⊎ ((d ≡ a) ⊎ (d ≡ b))
in_two s a b d on =
    elim (or_cases (with_one s a d) (eqb b d) on) [
      | inl one ↦ elim (or_cases (s d) (eqb a d) one) [
        | inl old ↦ inl old
        | inr is ↦ inr (inl (sym (eqb-true a d is)))
      ]
      | inr is ↦ inr (inr (sym (eqb-true b d is)))
    ]

-- a number that is put in is one more
pub count_one : (n a : ℕ) (s : ℕ → Bool) → a < n → s a ≡ false → count_below n (with_one s a) ≡ count_below n s + 1
count_one n a s below out =
    let f : ℕ → ℕ = λ i. cond (with_one s a i) 1 0 in
    let g : ℕ → ℕ = λ i. cond (s i) 1 0 in
    let changed : sum_below n f + g a ≡ sum_below n g + f a =
    sum_below-changed n a f g below (λ i l other. ap (λ (b : Bool). cond b 1 0) (or_none (s i) (eqb a i) (ne_eqb a i (λ e. other (sym e))))) in
    added (sum_below n f) (sum_below n g) (g a) (f a) changed (cond-false {A = ℕ} (s a) 1 0 out) (cond-true {A = ℕ} (with_one s a a) 1 0 (has_new s a))
  where
    added : (x y p q : ℕ) → x + p ≡ y + q → p ≡ 0 → q ≡ 1 → x ≡ y + 1
    added x y p q both none once = omega arith

-- a smaller set has no more numbers
pub count_le : (n : ℕ) (s t : ℕ → Bool) → ((i : ℕ) → i < n → s i ≡ true → t i ≡ true) → count_below n s ≤ count_below n t
count_le n s t inside = sum_below-le n (λ i. cond (s i) 1 0) (λ i. cond (t i) 1 0) (λ i l. no_more (s i) (t i) (inside i l))
  where
    no_more : (a b : Bool) → (a ≡ true → b ≡ true) → cond a 1 0 ≤ cond b 1 0
    no_more false true h = omega arith
    no_more false false h = omega arith
    no_more true true h = omega arith
    no_more true false h = absurd (both_ways false refl (h refl))

-- the larger of two sets has a number that the smaller lacks
some_left : (n : ℕ) (s t : ℕ → Bool) → count_below n s < count_below n t → (v : ℕ) × (v < n) × (t v ≡ true) × (s v ≡ false)
some_left n s t fewer =
    elim (search_below n (λ v. t v && not (s v))) [
      | inl found ↦
          let both = and_parts (t found.0) (not (s found.0)) found.2 in
          (found.0, found.1, both.0, not-true (s found.0) both.1)
      | inr none ↦ absurd (too_many (count_below n s) (count_below n t) fewer (count_le n t s (λ v l on. has (t v) (s v) (none v l) on)))
    ]
  where
    too_many : (x y : ℕ) → x < y → y ≤ x → ⊥
    too_many x y less more = omega arith

    has : (a b : Bool) → (a && not b) ≡ false → a ≡ true → b ≡ true
    has a true off on = refl
    has true false off on = sym off
    has false false off on = on

-- a set and the rest of a larger one
count_parts : (n : ℕ) (s t : ℕ → Bool) → ((i : ℕ) → i < n → t i ≡ true → s i ≡ true) → count_below n s ≡ count_below n (λ i. s i && not (t i)) + count_below n t
count_parts n s t inside =
    sum_below-same n (λ i. cond (s i) 1 0) (λ i. cond (s i && not (t i)) 1 0 + cond (t i) 1 0) (λ i l. pieces (s i) (t i) (inside i l))
    ∙ sum_below-add n (λ i. cond (s i && not (t i)) 1 0) (λ i. cond (t i) 1 0)
  where
    pieces : (a b : Bool) → (b ≡ true → a ≡ true) → cond a 1 0 ≡ cond (a && not b) 1 0 + cond b 1 0
    pieces true true h = refl
    pieces true false h = refl
    pieces false false h = refl
    pieces false true h = absurd (both_ways false refl (h refl))

-- ---- places that edges join

-- edges and places. Dart d, if it is one, leaves place from d; reverse d is the other dart of its edge
pub record JoinModel : Type 0 where
  pub darts : ℕ
  pub places : ℕ
  pub is_dart : ℕ → Bool
  pub is_place : ℕ → Bool
  pub from : ℕ → ℕ
  pub reverse : ℕ → ℕ

-- any two places are joined: a set that has both ends or none of each edge, and has one place, has all
pub record IsJoined (g : JoinModel) : Type 0 where
  pub inside : (d : ℕ) → d < g.darts → g.is_dart d ≡ true → g.reverse d < g.darts
  pub back : (d : ℕ) → d < g.darts → g.is_dart d ≡ true → g.reverse (g.reverse d) ≡ d
  pub pair : (d : ℕ) → d < g.darts → g.is_dart d ≡ true → g.is_dart (g.reverse d) ≡ true
  pub named : (d : ℕ) → d < g.darts → g.is_dart d ≡ true → g.from d < g.places
  pub all : (s : ℕ → Bool) → ((d : ℕ) → d < g.darts → g.is_dart d ≡ true → s (g.from d) ≡ s (g.from (g.reverse d)))
      → (u v : ℕ) → u < g.places → v < g.places → g.is_place u ≡ true → g.is_place v ≡ true → s u ≡ true → s v ≡ true

pub alike : (a b : Bool) → (a ≡ true → b ≡ true) → (b ≡ true → a ≡ true) → a ≡ b
alike true b go back = sym (go refl)
alike false true go back = back refl
alike false false go back = refl

held : (a b c : Bool) → (a && (b && not c)) ≡ false → a ≡ true → b ≡ true → c ≡ true
held a b true none on here = refl
held true true false none on here = sym none
held true false false none on here = here
held false b false none on here = on

-- an edge leaves a set that has one place and lacks another
leaving : (g : JoinModel) → IsJoined g → (s : ℕ → Bool) → (u v : ℕ) → u < g.places → v < g.places → g.is_place u ≡ true → g.is_place v ≡ true → s u ≡ true → s v ≡ false
    → (e : ℕ) × (e < g.darts) × (g.is_dart e ≡ true) × (s (g.from e) ≡ true) × (s (g.from (g.reverse e)) ≡ false)
leaving g is s u v u_in v_in u_place v_place on off =
    elim (search_below g.darts (λ d. g.is_dart d && (s (g.from d) && not (s (g.from (g.reverse d)))))) [
      | inl found ↦
          let e : ℕ = found.0 in
          let one = and_parts (g.is_dart e) (s (g.from e) && not (s (g.from (g.reverse e)))) found.2 in
          let two = and_parts (s (g.from e)) (not (s (g.from (g.reverse e)))) one.1 in
          (e, found.1, one.0, two.0, not-true (s (g.from (g.reverse e))) two.1)
      | inr none ↦
          let goes : (d : ℕ) → d < g.darts → g.is_dart d ≡ true → s (g.from d) ≡ true → s (g.from (g.reverse d)) ≡ true =
          λ d l dart here. held (g.is_dart d) (s (g.from d)) (s (g.from (g.reverse d))) (none d l) dart here in
          let both : (d : ℕ) → d < g.darts → g.is_dart d ≡ true → s (g.from d) ≡ s (g.from (g.reverse d)) =
          λ d l dart. alike (s (g.from d)) (s (g.from (g.reverse d))) (goes d l dart)
          (λ there. subst (λ (x : ℕ). s (g.from x) ≡ true) (is.back d l dart) (goes (g.reverse d) (is.inside d l dart) (is.pair d l dart) there)) in
          absurd (both_ways (s v) off (is.all s both u v u_in v_in u_place v_place on))
    ]

-- ---- a tree that grows

-- k + 1 places seen, which k edges join; Good is kept of these edges
record Grown (g : JoinModel) (Good : (ℕ → Bool) → Type 0) (k : ℕ) : Type 0 where
  seen : ℕ → Bool
  tree : ℕ → Bool
  reached : count_below g.places seen ≡ k + 1
  used : count_below g.darts tree ≡ k + k
  start : (u : ℕ) × (u < g.places) × (g.is_place u ≡ true) × (seen u ≡ true)
  edges : (d : ℕ) → d < g.darts → tree d ≡ true → g.is_dart d ≡ true
  pair : (d : ℕ) → d < g.darts → tree d ≡ true → tree (g.reverse d) ≡ true
  ends : (d : ℕ) → d < g.darts → tree d ≡ true → seen (g.from d) ≡ true
  good : Good tree

-- what is kept when an edge to a place that was not seen is put in
abbrev Stays : (g : JoinModel) → ((ℕ → Bool) → Type 0) → Type 0
Stays g Good = (seen tree : ℕ → Bool) → ((d : ℕ) → d < g.darts → tree d ≡ true → seen (g.from d) ≡ true)
    → (e : ℕ) → e < g.darts → g.is_dart e ≡ true → seen (g.from e) ≡ true → seen (g.from (g.reverse e)) ≡ false
    → Good tree → Good (with_one (with_one tree e) (g.reverse e))

-- one edge more
extended : (g : JoinModel) → IsJoined g → (Good : (ℕ → Bool) → Type 0) → Stays g Good → (k : ℕ) → (old : Grown g Good k)
    → (e : ℕ) → e < g.darts → g.is_dart e ≡ true → old.seen (g.from e) ≡ true → old.seen (g.from (g.reverse e)) ≡ false → Grown g Good (suc k)
extended g is Good stays k old e e_in dart here there =
    let r : ℕ = g.reverse e in
    let r_in : r < g.darts = is.inside e e_in dart in
    let r_dart : g.is_dart r ≡ true = is.pair e e_in dart in
    let new : ℕ = g.from r in
    let e_out : old.tree e ≡ false = false_from_ne_true (old.tree e) (λ on. both_ways (old.seen new) there (old.ends r r_in (old.pair e e_in on))) in
    let r_out : old.tree r ≡ false = false_from_ne_true (old.tree r) (λ on. both_ways (old.seen new) there (old.ends r r_in on)) in
    let apart : e ≡ r → ⊥ = λ same. both_ways (old.seen new) there (subst (λ (x : ℕ). old.seen (g.from x) ≡ true) same here) in
    let one : ℕ → Bool = with_one old.tree e in
    let two : ℕ → Bool = with_one one r in
    let out_one : one r ≡ false = or_from (old.tree r) (eqb e r) r_out (ne_eqb e r apart) in
    record {
      seen = with_one old.seen new;
      tree = two;
      reached = one_more (count_below g.places (with_one old.seen new)) (count_below g.places old.seen) k (count_one g.places new old.seen (is.named r r_in r_dart) there) old.reached;
      used = two_more (count_below g.darts two) (count_below g.darts one) (count_below g.darts old.tree) k (count_one g.darts r one r_in out_one) (count_one g.darts e old.tree e_in e_out) old.used;
      start = (old.start.0, old.start.1, old.start.2, has_old old.seen new old.start.0 old.start.3);
      edges = λ d l on. elim (in_two old.tree e r d on) [
        | inl had ↦ old.edges d l had
        | inr put ↦ elim put [
          | inl first ↦ subst (λ (x : ℕ). g.is_dart x ≡ true) (sym first) dart
          | inr second ↦ subst (λ (x : ℕ). g.is_dart x ≡ true) (sym second) r_dart
        ]
      ];
      pair = λ d l on. elim (in_two old.tree e r d on) [
        | inl had ↦ has_old one r (g.reverse d) (has_old old.tree e (g.reverse d) (old.pair d l had))
        | inr put ↦ elim put [
          | inl first ↦ subst (λ (x : ℕ). two (g.reverse x) ≡ true) (sym first) (has_new one r)
          | inr second ↦ subst (λ (x : ℕ). two (g.reverse x) ≡ true) (sym second)
              (subst (λ (x : ℕ). two x ≡ true) (sym (is.back e e_in dart)) (has_old one r e (has_new old.tree e)))
        ]
      ];
      ends = λ d l on. elim (in_two old.tree e r d on) [
        | inl had ↦ has_old old.seen new (g.from d) (old.ends d l had)
        | inr put ↦ elim put [
          | inl first ↦ has_old old.seen new (g.from d) (subst (λ (x : ℕ). old.seen (g.from x) ≡ true) (sym first) here)
          | inr second ↦ subst (λ (x : ℕ). with_one old.seen new (g.from x) ≡ true) (sym second) (has_new old.seen new)
        ]
      ];
      good = stays old.seen old.tree old.ends e e_in dart here there old.good;
    }
  where
    one_more : (x y k : ℕ) → x ≡ y + 1 → y ≡ k + 1 → x ≡ suc k + 1
    one_more x y k more had = omega arith

    two_more : (x y z k : ℕ) → x ≡ y + 1 → y ≡ z + 1 → z ≡ k + k → x ≡ suc k + suc k
    two_more x y z k more less had = omega arith

-- as far as there are places
grow : (g : JoinModel) → IsJoined g → (Good : (ℕ → Bool) → Type 0) → Good (λ _. false) → Stays g Good
    → (root : ℕ) → root < g.places → g.is_place root ≡ true → (k : ℕ) → k + 1 ≤ count_below g.places g.is_place → Grown g Good k
grow g is Good none stays root below place zero enough = record {
  seen = eqb root;
  tree = λ _. false;
  reached = sum_below-one g.places root (λ _. 1) below;
  used = sum_below-none g.darts (λ _. 0) (λ _ _. refl);
  start = (root, below, place, eq-eqb root root refl);
  edges = λ d l on. absurd (both_ways false refl on);
  pair = λ d l on. absurd (both_ways false refl on);
  ends = λ d l on. absurd (both_ways false refl on);
  good = none;
}
grow g is Good none stays root below place (suc k) enough =
    let old : Grown g Good k = grow g is Good none stays root below place k (omega arith) in
    let more : count_below g.places old.seen < count_below g.places g.is_place = fewer (count_below g.places old.seen) (count_below g.places g.is_place) k old.reached enough in
    let next = some_left g.places old.seen g.is_place more in
    let edge = leaving g is old.seen old.start.0 next.0 old.start.1 next.1 old.start.2 next.2 old.start.3 next.3 in
    extended g is Good stays k old edge.0 edge.1 edge.2 edge.3 edge.4
  where
    fewer : (x y k : ℕ) → x ≡ k + 1 → suc k + 1 ≤ y → x < y
    fewer x y k had enough = omega arith

-- ---- two trees

-- edges also have sides: dart d has side d on its left, so that of its reverse on its right. All edges join all sides; and going
-- round a place joins the sides of each edge there but loops, with the other edges there
pub record HasSides (g : JoinModel) (sides : ℕ) (is_side : ℕ → Bool) (side : ℕ → ℕ) : Type 0 where
  pub named : (d : ℕ) → d < g.darts → g.is_dart d ≡ true → side d < sides
  pub all : (s : ℕ → Bool) → ((d : ℕ) → d < g.darts → g.is_dart d ≡ true → s (side d) ≡ s (side (g.reverse d)))
      → (u v : ℕ) → u < sides → v < sides → is_side u ≡ true → is_side v ≡ true → s u ≡ true → s v ≡ true
  pub round : (e : ℕ) → e < g.darts → g.is_dart e ≡ true → (g.from (g.reverse e) ≡ g.from e → ⊥) → (s : ℕ → Bool)
      → ((d : ℕ) → d < g.darts → g.is_dart d ≡ true → g.from d ≡ g.from e → (d ≡ e → ⊥) → s (side d) ≡ s (side (g.reverse d)))
      → s (side e) ≡ s (side (g.reverse e))

-- the edges outside the tree join all sides
abbrev StillJoined : (g : JoinModel) → ℕ → (ℕ → Bool) → (ℕ → ℕ) → (ℕ → Bool) → Type 0
StillJoined g sides is_side side tree = (s : ℕ → Bool)
    → ((d : ℕ) → d < g.darts → g.is_dart d ≡ true → tree d ≡ false → s (side d) ≡ s (side (g.reverse d)))
    → (u v : ℕ) → u < sides → v < sides → is_side u ≡ true → is_side v ≡ true → s u ≡ true → s v ≡ true

-- they do so after an edge to a new place too: one can go round that place
still : (g : JoinModel) → IsJoined g → (sides : ℕ) (is_side : ℕ → Bool) (side : ℕ → ℕ) → HasSides g sides is_side side → Stays g (StillJoined g sides is_side side)
still g is sides is_side side has seen tree ends e e_in dart here there good s both =
    let r : ℕ = g.reverse e in
    let r_in : r < g.darts = is.inside e e_in dart in
    let r_dart : g.is_dart r ≡ true = is.pair e e_in dart in
    let back : g.reverse r ≡ e = is.back e e_in dart in
    let unseen : (x : ℕ) → seen (g.from x) ≡ true → g.from x ≡ g.from r → ⊥ =
    λ x on same. both_ways (seen (g.from r)) there (subst (λ (y : ℕ). seen y ≡ true) same on) in
    let no_loop : g.from (g.reverse r) ≡ g.from r → ⊥ = λ same. unseen (g.reverse r) (subst (λ (x : ℕ). seen (g.from x) ≡ true) (sym back) here) same in
    let outside : (d : ℕ) → d < g.darts → g.from d ≡ g.from r → (d ≡ r → ⊥) → with_one (with_one tree e) r d ≡ false =
    λ d l at other. false_from_ne_true (with_one (with_one tree e) r d) (λ on. elim (in_two tree e r d on) [
      | inl had ↦ unseen d (ends d l had) at
      | inr put ↦ elim put [
        | inl first ↦ unseen d (subst (λ (x : ℕ). seen (g.from x) ≡ true) (sym first) here) at
        | inr second ↦ other second
      ]
    ]) in
    let at_r : s (side r) ≡ s (side (g.reverse r)) = has.round r r_in r_dart no_loop s (λ d l d_dart at other. both d l d_dart (outside d l at other)) in
    let at_e : s (side e) ≡ s (side r) = sym (subst (λ (x : ℕ). s (side r) ≡ s (side x)) back at_r) in
    good s (λ d l d_dart left. elim (cases_Bool (with_one (with_one tree e) r d)) [
      | inl on ↦ elim (in_two tree e r d on) [
        | inl had ↦ absurd (both_ways (tree d) left had)
        | inr put ↦ elim put [
          | inl first ↦ subst (λ (x : ℕ). s (side x) ≡ s (side (g.reverse x))) (sym first) at_e
          | inr second ↦ subst (λ (x : ℕ). s (side x) ≡ s (side (g.reverse x))) (sym second) at_r
        ]
      ]
      | inr off ↦ both d l d_dart off
    ])

-- the sides, with the edges outside the tree
abbrev left_over : JoinModel → ℕ → (ℕ → Bool) → (ℕ → ℕ) → (ℕ → Bool) → JoinModel
left_over g sides is_side side tree = record {
  darts = g.darts;
  places = sides;
  is_dart = λ d. g.is_dart d && not (tree d);
  is_place = is_side;
  from = side;
  reverse = g.reverse;
}

left_joined : (g : JoinModel) → IsJoined g → (sides : ℕ) (is_side : ℕ → Bool) (side : ℕ → ℕ) → HasSides g sides is_side side
    → (k : ℕ) → (t : Grown g (StillJoined g sides is_side side) k) → IsJoined (left_over g sides is_side side t.tree)
left_joined g is sides is_side side has k t = record {
  inside = λ d l on. is.inside d l (dart d on);
  back = λ d l on. is.back d l (dart d on);
  pair = λ d l on. and_from (g.is_dart (g.reverse d)) (not (t.tree (g.reverse d))) (is.pair d l (dart d on))
      (not_from_false (t.tree (g.reverse d)) (false_from_ne_true (t.tree (g.reverse d)) (λ there. both_ways (t.tree d) (out d on)
      (subst (λ (x : ℕ). t.tree x ≡ true) (is.back d l (dart d on)) (t.pair (g.reverse d) (is.inside d l (dart d on)) there)))));
  named = λ d l on. has.named d l (dart d on);
  all = λ s both. t.good s (λ d l d_dart off. both d l (and_from (g.is_dart d) (not (t.tree d)) d_dart (not_from_false (t.tree d) off)));
}
  where
    dart : (d : ℕ) → (g.is_dart d && not (t.tree d)) ≡ true → g.is_dart d ≡ true
    dart d on = let both = and_parts (g.is_dart d) (not (t.tree d)) on in both.0

    out : (d : ℕ) → (g.is_dart d && not (t.tree d)) ≡ true → t.tree d ≡ false
    out d on = let both = and_parts (g.is_dart d) (not (t.tree d)) on in not-true (t.tree d) both.1

-- so places and sides together are at most the edges and two: each edge has two darts
pub enough_edges : (g : JoinModel) → IsJoined g → (sides : ℕ) (is_side : ℕ → Bool) (side : ℕ → ℕ) → HasSides g sides is_side side
    → (root : ℕ) → root < g.places → g.is_place root ≡ true → (f : ℕ) → f < sides → is_side f ≡ true
    → (count_below g.places g.is_place + count_below g.places g.is_place) + (count_below sides is_side + count_below sides is_side) ≤ count_below g.darts g.is_dart + 4
enough_edges g is sides is_side side has root root_in root_place f f_in f_side =
    let p : ℕ = count_below g.places g.is_place in
    let q : ℕ = count_below sides is_side in
    let few = less_one p (some g.places g.is_place root root_in root_place) in
    let fewer = less_one q (some sides is_side f f_in f_side) in
    let t : Grown g (StillJoined g sides is_side side) few.0 =
    grow g is (StillJoined g sides is_side side) (λ s both. has.all s (λ d l dart. both d l dart refl)) (still g is sides is_side side has) root root_in root_place few.0 (at_most few.0 p few.1) in
    let h : JoinModel = left_over g sides is_side side t.tree in
    let u : Grown h (λ _. Unit {0}) fewer.0 =
    grow h (left_joined g is sides is_side side has few.0 t) (λ _. Unit {0}) tt (λ _ _ _ _ _ _ _ _ _. tt) f f_in f_side fewer.0 (at_most fewer.0 q fewer.1) in
    close p q few.0 fewer.0 (count_below g.darts g.is_dart) (count_below h.darts h.is_dart) (count_below g.darts t.tree) (count_below h.darts u.tree) few.1 fewer.1
    (count_parts g.darts g.is_dart t.tree t.edges) t.used (count_le h.darts u.tree h.is_dart u.edges) u.used
  where
    some : (n : ℕ) (s : ℕ → Bool) (a : ℕ) → a < n → s a ≡ true → 1 ≤ count_below n s
    some n s a below on = one_at_least (cond (s a) 1 0) (count_below n s) (cond-true {A = ℕ} (s a) 1 0 on) (sum_below-member n a (λ i. cond (s i) 1 0) below)
      where
        one_at_least : (x y : ℕ) → x ≡ 1 → x ≤ y → 1 ≤ y
        one_at_least x y one less = omega arith

    less_one : (x : ℕ) → 1 ≤ x → (k : ℕ) × (k + 1 ≡ x)
    less_one zero more = absurd (omega arith)
    less_one (suc k) more = (k, omega arith)

    at_most : (k x : ℕ) → k + 1 ≡ x → k + 1 ≤ x
    at_most k x same = omega arith

    close : (p q j i d l t u : ℕ) → j + 1 ≡ p → i + 1 ≡ q → d ≡ l + t → t ≡ j + j → u ≤ l → u ≡ i + i → (p + p) + (q + q) ≤ d + 4
    close p q j i d l t u p_is q_is parts t_is less u_is = omega arith
