-- Reverse, after and next, on lists that keep the rules.
use Rattle.std.proofs.Common.{◌≡◌, ◌≢◌, ℕ, zero, suc, ◌+◌, ◌*◌, ◌<◌, ◌≤◌, cond, eqb, ltb, ◌&&◌, ◌⊎◌, List, [], ◌∷◌, length, get_or, refl, sym, ap, ◌∙◌, subst, inl, inr, arith}
use Rattle.std.specs.List.{Contains}
use Rattle.std.proofs.lemmas.List.{get_or_default, get_or_past, length-append}
use Rattle.std.proofs.lemmas.Bool.{cases_eq, cases_lt, cases_order, eq-eqb, ne_eqb, eqb-true, and_parts, and_from, lt-ltb, le-ltb, cond-true, cond-false}
use Rattle.common.specs.Sums.{sum_below}
use Rattle.common.proofs.Sums.{sum_below-same, sum_below-add, sum_below-constant, sum_below-turned}
use Rattle.embedding.specs.declared.breaks.Rule.TheVariants.{Loop, Multi, Asymmetric, Edgeless, Degree}
use Rattle.embedding.specs.Lists.{list_of}
use Rattle.embedding.specs.Darts.{heads, tails_from, dart_count, head_of, tail_of, first_below, first_dart, reverse_of, after_of, next_of, IsInvolution, IsOneToOne}
use Rattle.embedding.specs.Rules.{Breaks, KeepsBefore}
use Rattle.embedding.proofs.Entries.{Stands, stands_at, dart_stands, stands_below, length-tails_from}
use Rattle.embedding.proofs.FirstBelow.{first_below-is, first_below-passes}

-- ---- lists

-- a list of numbers holds x or does not
pub contains_or_not : (xs : List ℕ) (x : ℕ) → Contains xs x ⊎ (Contains xs x → ⊥)
contains_or_not [] x = inr (λ h. absurd (omega (arith, h.1)))
contains_or_not (y ∷ ys) x =
    elim (cases_eq y x) [
      | inl here ↦ inl (0, omega arith, here)
      | inr differs ↦
          elim (contains_or_not ys x) [
            | inl later ↦ inl (suc later.0, omega (arith, later.1), later.2)
            | inr nowhere ↦ inr (not_there y ys x differs nowhere)
          ]
    ]
  where
    not_there : (y : ℕ) (ys : List ℕ) (x : ℕ) → (y ≡ x → ⊥) → (Contains ys x → ⊥) → Contains (y ∷ ys) x → ⊥
    not_there y ys x differs nowhere (zero, below, e) = differs e
    not_there y ys x differs nowhere (suc k, below, e) = nowhere (k, omega arith, e)

-- the list at a place that is none is empty
pub list_of-place : (g : List (List ℕ)) (v j : ℕ) → j < length (list_of g v) → (k : ℕ) × (v ≡ suc k) × (k < length g)
list_of-place g zero j inside = absurd (omega arith)
list_of-place g (suc k) j inside =
    elim (cases_lt k (length g)) [
      | inl below ↦ (k, refl, below)
      | inr past ↦
          let none : get_or g k [] ≡ [] = get_or_past g k [] past in
          let short : length (get_or g k []) ≡ 0 = ap length none in
          absurd (omega (arith, short, inside))
    ]

-- ---- darts

-- a dart's tail is the vertex of its list, and no other number has that tail
pub tail_at : (g : List (List ℕ)) (d k i : ℕ) → Stands 1 g d k i → tail_of g d ≡ suc k
tail_at g d k i s = s.tail ∙ omega arith

pub tail_past : (g : List (List ℕ)) (d : ℕ) → dart_count g ≤ d → tail_of g d ≡ 0
tail_past g d past = get_or_past (tails_from 1 g) d 0 (omega (arith, length-tails_from 1 g))

pub dart_below : (g : List (List ℕ)) (d k i : ℕ) → Stands 1 g d k i → d < dart_count g
dart_below g d k i s = omega (arith, stands_below g k i s.list s.place, s.number)

-- two places of one list hold different entries
same_place : (g : List (List ℕ)) → (Breaks g Multi → ⊥) → (k i j : ℕ) → i < length (get_or g k []) → j < length (get_or g k []) → get_or (get_or g k []) i 0 ≡ get_or (get_or g k []) j 0 → i ≡ j
same_place g keeps k i j in-i in-j e =
    elim (cases_order i j) [
      | inl same ↦ same
      | inr (inl before) ↦ absurd (keeps (suc k, (i, j, before, in-j, e)))
      | inr (inr behind) ↦ absurd (keeps (suc k, (j, i, behind, in-i, sym e)))
    ]

-- two darts with the same ends are one
pub one_dart : (g : List (List ℕ)) → KeepsBefore g 8 → (d e : ℕ) → d < dart_count g → e < dart_count g → tail_of g d ≡ tail_of g e → head_of g d ≡ head_of g e → d ≡ e
one_dart g rules d e in-d in-e tails heads =
    let (k, i, s) = dart_stands 1 g d in-d in
    let (m, j, t) = dart_stands 1 g e in-e in
    let list : m ≡ k = omega (arith, s.tail, t.tail, tails) in
    let t' : Stands 1 g e k j = subst (λ (n : ℕ). Stands 1 g e n j) list t in
    let place : i ≡ j =
    same_place g (rules Multi (omega arith)) k i j s.place t'.place (sym s.head ∙ heads ∙ t'.head) in
    omega (arith, s.number, t'.number)

-- e is dart d the other way
pub record IsOpposite (g : List (List ℕ)) (d e : ℕ) : Type 0 where
  pub inside : e < dart_count g
  pub tail : tail_of g e ≡ head_of g d
  pub head : head_of g e ≡ tail_of g d

opposite_from : (g : List (List ℕ)) (d k i v : ℕ) → Stands 1 g d k i → head_of g d ≡ v → Contains (list_of g v) (suc k) → (e : ℕ) × IsOpposite g d e
opposite_from g d k i v s heads (j, inside, entry) =
    let (m, vertex, list) = list_of-place g v j inside in
    let at : list_of g v ≡ get_or g m [] = ap (list_of g) vertex in
    let inside' : j < length (get_or g m []) = subst (λ (l : List ℕ). j < length l) at inside in
    let entry' : get_or (get_or g m []) j (suc k) ≡ suc k = subst (λ (l : List ℕ). get_or l j (suc k) ≡ suc k) at entry in
    let t = stands_at 1 g (first_dart g m + j) m j list inside' refl in (
      first_dart g m + j,
      record {
        inside = stands_below g m j list inside';
        tail = tail_at g _ m j t ∙ sym (heads ∙ vertex);
        head = t.head ∙ get_or_default (get_or g m []) j 0 (suc k) inside' ∙ entry' ∙ sym (tail_at g d k i s);
      },
    )

-- each dart has one
some_opposite : (g : List (List ℕ)) → KeepsBefore g 8 → (d : ℕ) → d < dart_count g → (e : ℕ) × IsOpposite g d e
some_opposite g rules d in-d =
    let (k, i, s) = dart_stands 1 g d in-d in
    elim (contains_or_not (list_of g (head_of g d)) (suc k)) [
      | inl there ↦ opposite_from g d k i (head_of g d) s refl there
      | inr missing ↦
          let entry : get_or (get_or g k []) i (head_of g d) ≡ head_of g d =
          get_or_default (get_or g k []) i (head_of g d) 0 s.place ∙ sym s.head in
          absurd (rules Asymmetric (omega arith) (suc k, (i, head_of g d, s.place, entry, missing)))
    ]

-- and "reverse" finds it
pub reverse_is : (g : List (List ℕ)) → KeepsBefore g 8 → (d : ℕ) → d < dart_count g → IsOpposite g d (reverse_of g d)
reverse_is g rules d in-d =
    let (e, o) = some_opposite g rules d in-d in
    let passes = first_below-passes (dart_count g) e (λ e. eqb (tail_of g e) (head_of g d) && eqb (head_of g e) (tail_of g d)) o.inside (and_from _ _ (eq-eqb _ _ o.tail) (eq-eqb _ _ o.head)) in
    let both = and_parts _ _ passes.1 in
    record {
      inside = passes.0;
      tail = eqb-true _ _ both.0;
      head = eqb-true _ _ both.1;
    }

pub reverse_involution : (g : List (List ℕ)) → KeepsBefore g 8 → IsInvolution (dart_count g) (reverse_of g)
reverse_involution g rules =
    record {
      inside = λ d in-d. (reverse_is g rules d in-d).inside;
      back = λ d in-d.
          let there = reverse_is g rules d in-d in
          let back = reverse_is g rules (reverse_of g d) there.inside in
          one_dart g rules _ d back.inside in-d (back.tail ∙ there.head) (back.head ∙ there.tail);
    }

-- no dart is its own reverse
pub reverse_apart : (g : List (List ℕ)) → KeepsBefore g 8 → (d : ℕ) → d < dart_count g → reverse_of g d ≡ d → ⊥
reverse_apart g rules d in-d e =
    let (k, i, s) = dart_stands 1 g d in-d in
    let o = reverse_is g rules d in-d in
    let loops : head_of g d ≡ suc k = sym o.tail ∙ ap (tail_of g) e ∙ tail_at g d k i s in
    let entry : get_or (get_or g k []) i (suc k) ≡ suc k =
    get_or_default (get_or g k []) i (suc k) 0 s.place ∙ sym s.head ∙ loops in
    rules Loop (omega arith) (suc k, (i, s.place, entry))

-- the ends of a dart are vertices
pub tail_within : (g : List (List ℕ)) (d : ℕ) → d < dart_count g → (0 < tail_of g d) × (tail_of g d ≤ length g)
tail_within g d in-d =
    let (k, i, s) = dart_stands 1 g d in-d in (omega (arith, s.tail), omega (arith, s.tail, s.list))

pub head_within : (g : List (List ℕ)) → KeepsBefore g 8 → (d : ℕ) → d < dart_count g → (0 < head_of g d) × (head_of g d ≤ length g)
head_within g rules d in-d =
    let o = reverse_is g rules d in-d in
    let within = tail_within g (reverse_of g d) o.inside in
    (omega (arith, within.0, o.tail), omega (arith, within.1, o.tail))

-- ---- after

after-inner : (g : List (List ℕ)) (d : ℕ) → tail_of g (d + 1) ≡ tail_of g d → after_of g d ≡ d + 1
after-inner g d same = cond-true _ _ _ (eq-eqb _ _ same)

after-last : (g : List (List ℕ)) (d : ℕ) → (tail_of g (d + 1) ≡ tail_of g d → ⊥) → after_of g d ≡ first_below (dart_count g) (λ e. eqb (tail_of g e) (tail_of g d))
after-last g d apart = cond-false _ _ _ (ne_eqb _ _ apart)

-- after the last dart of a list comes another list, or nothing
last_apart : (g : List (List ℕ)) (d k i : ℕ) → Stands 1 g d k i → length (get_or g k []) ≤ i + 1 → tail_of g (d + 1) ≡ tail_of g d → ⊥
last_apart g d k i s last same =
    elim (cases_lt (d + 1) (dart_count g)) [
      | inl below ↦
          let (m, j, t) = dart_stands 1 g (d + 1) below in
          let list : m ≡ k = omega (arith, t.tail, s.tail, same) in
          let t' : Stands 1 g (d + 1) k j = subst (λ (n : ℕ). Stands 1 g (d + 1) n j) list t in
          omega (arith, t'.number, s.number, t'.place, last)
      | inr past ↦ omega (arith, tail_past g (d + 1) past, s.tail, same)
    ]

-- the first dart of a list is the first with its tail
first_dart_is : (g : List (List ℕ)) (k u : ℕ) → k < length g → 0 < length (get_or g k []) → u ≡ suc k → first_below (dart_count g) (λ e. eqb (tail_of g e) u) ≡ first_dart g k
first_dart_is g k u list some vertex =
    let s = stands_at 1 g (first_dart g k) k 0 list some (omega arith) in
    first_below-is (dart_count g) (first_dart g k) (λ e. eqb (tail_of g e) u) (dart_below g _ k 0 s) (eq-eqb _ _ (tail_at g _ k 0 s ∙ sym vertex))
    (λ e before. ne_eqb _ _ (λ same. other g k u list some vertex e before same))
  where
    other : (g : List (List ℕ)) (k u : ℕ) (list : k < length g) (some : 0 < length (get_or g k [])) → u ≡ suc k → (e : ℕ) → e < first_dart g k → tail_of g e ≡ u → ⊥
    other g k u list some vertex e before same =
        let below : e < dart_count g = omega (arith, stands_below g k 0 list some) in
        let (m, j, t) = dart_stands 1 g e below in
        let same_list : m ≡ k = omega (arith, t.tail, same, vertex) in
        let number : e ≡ first_dart g k + j = subst (λ (n : ℕ). e ≡ first_dart g n + j) same_list t.number in
        omega (arith, number)

-- "after" leads to the next place of the list, and from the last one to the first
pub after_place : (g : List (List ℕ)) (d k i : ℕ) → Stands 1 g d k i → (j : ℕ) × Stands 1 g (after_of g d) k j × (((i + 1 < length (get_or g k [])) × (j ≡ i + 1)) ⊎ ((i + 1 ≡ length (get_or g k [])) × (j ≡ 0)))
after_place g d k i s =
    elim (cases_lt (i + 1) (length (get_or g k []))) [
      | inl more ↦
          let t = stands_at 1 g (d + 1) k (i + 1) s.list more (omega (arith, s.number)) in
          let is = after-inner g d (tail_at g _ k _ t ∙ sym (tail_at g d k i s)) in
          (i + 1, subst (λ (e : ℕ). Stands 1 g e k (i + 1)) (sym is) t, inl (more, refl))
      | inr last ↦
          let some : 0 < length (get_or g k []) = omega (arith, s.place) in
          let t = stands_at 1 g (first_dart g k) k 0 s.list some (omega arith) in
          let is = after-last g d (last_apart g d k i s last) ∙ first_dart_is g k (tail_of g d) s.list some (tail_at g d k i s) in
          (0, subst (λ (e : ℕ). Stands 1 g e k 0) (sym is) t, inr (omega (arith, s.place), refl))
    ]

pub after_tail : (g : List (List ℕ)) (d : ℕ) → d < dart_count g → (after_of g d < dart_count g) × (tail_of g (after_of g d) ≡ tail_of g d)
after_tail g d in-d =
    let (k, i, s) = dart_stands 1 g d in-d in
    let (j, t, where-j) = after_place g d k i s in
    (dart_below g _ k j t, tail_at g _ k j t ∙ sym (tail_at g d k i s))

pub after_one : (g : List (List ℕ)) → IsOneToOne (dart_count g) (after_of g)
after_one g = record { inside = λ d in-d. (after_tail g d in-d).0; one = apart g }
  where
    places : (n i j i' j' : ℕ) → i < n → i' < n → (((i + 1 < n) × (j ≡ i + 1)) ⊎ ((i + 1 ≡ n) × (j ≡ 0))) → (((i' + 1 < n) × (j' ≡ i' + 1)) ⊎ ((i' + 1 ≡ n) × (j' ≡ 0))) → j ≡ j' → i ≡ i'
    places n i j i' j' a b (inl (c, e)) (inl (c', e')) same = omega arith
    places n i j i' j' a b (inl (c, e)) (inr (c', e')) same = absurd (omega arith)
    places n i j i' j' a b (inr (c, e)) (inl (c', e')) same = absurd (omega arith)
    places n i j i' j' a b (inr (c, e)) (inr (c', e')) same = omega arith

    apart : (g : List (List ℕ)) (d e : ℕ) → d < dart_count g → e < dart_count g → after_of g d ≡ after_of g e → d ≡ e
    apart g d e in-d in-e same =
        let (k, i, s) = dart_stands 1 g d in-d in
        let (m, i', t) = dart_stands 1 g e in-e in
        let (j, s', at-j) = after_place g d k i s in
        let (j', t', at-j') = after_place g e m i' t in
        let list : m ≡ k = omega (arith, s'.tail, t'.tail, ap (tail_of g) same) in
        let number : first_dart g m ≡ first_dart g k = ap (first_dart g) list in
        let long : length (get_or g m []) ≡ length (get_or g k []) = ap (λ (n : ℕ). length (get_or g n [])) list in
        let place : i ≡ i' =
        places (length (get_or g k [])) i j i' j' s.place (omega (arith, t.place)) at-j (subst (λ (n : ℕ). ((i' + 1 < n) × (j' ≡ i' + 1)) ⊎ ((i' + 1 ≡ n) × (j' ≡ 0))) long at-j') (omega (arith, s'.number, t'.number)) in
        omega (arith, s.number, t.number)

pub next_one : (g : List (List ℕ)) → KeepsBefore g 8 → IsOneToOne (dart_count g) (next_of g)
next_one g rules =
    record {
      inside = λ d in-d. (after_tail g _ ((reverse_involution g rules).inside d in-d)).0;
      one = apart g rules;
    }
  where
    apart : (g : List (List ℕ)) → KeepsBefore g 8 → (d e : ℕ) → d < dart_count g → e < dart_count g → next_of g d ≡ next_of g e → d ≡ e
    apart g rules d e in-d in-e same =
        let turned = reverse_involution g rules in
        let reverse_darts : reverse_of g d ≡ reverse_of g e =
        (after_one g).one _ _ (turned.inside d in-d) (turned.inside e in-e) same in
        sym (turned.back d in-d) ∙ ap (reverse_of g) reverse_darts ∙ turned.back e in-e

-- ---- how many darts

-- the darts are two for each edge
pub darts_even : (g : List (List ℕ)) → KeepsBefore g 8 → (m : ℕ) × (2 * m ≡ dart_count g)
darts_even g rules =
    let n = dart_count g in
    let lesser : ℕ → ℕ = λ d. cond (ltb d (reverse_of g d)) 1 0 in
    let m = sum_below n lesser in
    let turned : sum_below n (λ d. lesser (reverse_of g d)) ≡ m =
    sum_below-turned n (reverse_of g) lesser (reverse_involution g rules).inside (reverse_involution g rules).back in
    let ones : sum_below n (λ d. lesser d + lesser (reverse_of g d)) ≡ sum_below n (λ _. 1) =
    sum_below-same n (λ d. lesser d + lesser (reverse_of g d)) (λ _. 1) (λ d b. each g rules d b) in
    (m, omega (arith, turned, ones, sum_below-add n lesser (λ d. lesser (reverse_of g d)), sum_below-constant n 1))
  where
    one_of : (a b c : ℕ) → a ≢ b → c ≡ a → cond (ltb a b) 1 0 + cond (ltb b c) 1 0 ≡ 1
    one_of a b c apart same =
        elim (cases_lt a b) [
          | inl less ↦ rw (lt-ltb a b less, le-ltb b c (omega arith)) refl
          | inr more ↦ rw (le-ltb a b more, lt-ltb b c (omega arith)) refl
        ]

    each : (g : List (List ℕ)) → KeepsBefore g 8 → (d : ℕ) → d < dart_count g → cond (ltb d (reverse_of g d)) 1 0 + cond (ltb (reverse_of g d) (reverse_of g (reverse_of g d))) 1 0 ≡ 1
    each g rules d in-d =
        one_of d (reverse_of g d) (reverse_of g (reverse_of g d)) (λ e. reverse_apart g rules d in-d (sym e)) ((reverse_involution g rules).back d in-d)

short_lists : (c : ℕ) (g : List (List ℕ)) → ((k : ℕ) → k < length g → length (get_or g k []) ≤ c) → length (heads g) ≤ c * length g
short_lists c [] each = omega arith
short_lists c (l ∷ ls) each =
    omega (arith, length-append l (heads ls), each 0 (omega arith), short_lists c ls (λ k b. each (suc k) (omega arith)))

-- at most four for each vertex
pub darts_few : (g : List (List ℕ)) → KeepsBefore g 8 → dart_count g ≤ 4 * length g
darts_few g rules = short_lists 4 g (λ k b. four g rules k)
  where
    four : (g : List (List ℕ)) → KeepsBefore g 8 → (k : ℕ) → length (get_or g k []) ≤ 4
    four g rules k =
        elim (cases_lt 4 (length (get_or g k []))) [
          | inl long ↦ absurd (rules Degree (omega arith) (suc k, long))
          | inr short ↦ short
        ]

-- and at least one
pub darts_some : (g : List (List ℕ)) → KeepsBefore g 8 → 0 < dart_count g
darts_some g rules =
    elim (cases_lt 0 (dart_count g)) [
      | inl some ↦ some
      | inr none ↦ absurd (rules Edgeless (omega arith) (λ u. empty g u none))
    ]
  where
    nil : (l : List ℕ) → (0 < length l → ⊥) → l ≡ []
    nil [] h = refl
    nil (x ∷ xs) h = absurd (h (omega arith))

    empty : (g : List (List ℕ)) (u : ℕ) → dart_count g ≤ 0 → list_of g u ≡ []
    empty g u none =
        nil (list_of g u) (λ some. full g u some none)
      where
        full : (g : List (List ℕ)) (u : ℕ) → 0 < length (list_of g u) → dart_count g ≤ 0 → ⊥
        full g zero some none = omega arith
        full g (suc k) some none =
            let place = list_of-place g (suc k) 0 some in
            omega (arith, stands_below g k 0 (omega (arith, place.1, place.2)) some)

-- who stands in a list has the list's vertex in its own
pub listed_back : (g : List (List ℕ)) → KeepsBefore g 8 → (u v : ℕ) → Contains (list_of g u) v → Contains (list_of g v) u
listed_back g rules u v (i, inside, entry) =
    elim (contains_or_not (list_of g v) u) [
      | inl there ↦ there
      | inr missing ↦ absurd (rules Asymmetric (omega arith) (u, (i, v, inside, entry, missing)))
    ]
