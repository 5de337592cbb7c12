-- Tables that grow list by list and dart by dart.
use Rattle.std.proofs.Common.{◌≡◌, ℕ, zero, suc, ◌+◌, ◌*◌, ◌<◌, ◌≤◌, List, [], ◌∷◌, ◌++◌, length, get_or, take, refl, sym, ap, ◌∙◌, inl, inr, arith}
use Rattle.std.proofs.lemmas.List.{length-append, get_or_append_left, get_or_at, take_all}
use Rattle.std.proofs.lemmas.Bool.{cases_eq, cases_lt}
use Rattle.std.proofs.lemmas.Grind.{same_number_lists}
use Rattle.embedding.specs.Darts.{heads, dart_count, first_dart, head_of, tail_of, reverse_of, after_of}
use Rattle.embedding.specs.Rules.{KeepsBefore}
use Rattle.embedding.specs.Tables.{IsTable, IsRotation}
use Rattle.embedding.proofs.Entries.{Stands, stands_at, stands_below}
use Rattle.embedding.proofs.Rotation.{one_dart, reverse_is, after_place, tail_at}

-- ---- tables

pub table_push : (n : ℕ) (f : ℕ → ℕ) (table : List ℕ) (x m : ℕ) → m ≡ n + 1 → x ≡ f n → IsTable n f table → IsTable m f (table ++ x ∷ [])
table_push n f table x m next is t =
    record {
      size = length-append table (x ∷ []) ∙ omega (arith, t.size);
      each = λ d b. elim (cases_eq d n) [
        | inl e ↦ rw (e, get_or_at table x [] 0 n t.size) is
        | inr other ↦
            let inside : d < length table = omega (arith, t.size) in
            rw (get_or_append_left table (x ∷ []) 0 d inside) (t.each d (omega arith))
      ];
    }

-- ---- the rotation

pub ties_none : (g : List (List ℕ)) (n : ℕ) (rotation : List ℕ) → n ≡ 0 → rotation ≡ [] → IsRotation g n rotation
ties_none g n rotation none empty =
    record {
      size = omega (arith, ap length empty);
      reverses = λ d b. absurd (omega arith);
      afters = λ d b. absurd (omega arith);
    }

pub ties_push : (g : List (List ℕ)) (n : ℕ) (rotation : List ℕ) (x y m : ℕ) → m ≡ n + 1 → x ≡ reverse_of g n → y ≡ after_of g n → IsRotation g n rotation
    → IsRotation g m ((rotation ++ x ∷ []) ++ y ∷ [])
ties_push g n rotation x y m next turned follows l =
    let half = rotation ++ x ∷ [] in
    let long : length half ≡ 2 * n + 1 = length-append rotation (x ∷ []) ∙ omega (arith, l.size) in
    let kept : (i : ℕ) → i < length rotation → get_or (half ++ y ∷ []) i 0 ≡ get_or rotation i 0 =
    λ i b. get_or_append_left half (y ∷ []) 0 i (omega (arith, long, l.size)) ∙ get_or_append_left rotation (x ∷ []) 0 i b in
    let here : get_or (half ++ y ∷ []) (2 * n) 0 ≡ x =
    get_or_append_left half (y ∷ []) 0 (2 * n) (omega (arith, long)) ∙ get_or_at rotation x [] 0 (2 * n) l.size in
    let there : get_or (half ++ y ∷ []) (2 * n + 1) 0 ≡ y = get_or_at half y [] 0 (2 * n + 1) long in
    record {
      size = length-append half (y ∷ []) ∙ omega (arith, long);
      reverses = λ d b. elim (cases_eq d n) [
        | inl e ↦ rw e (here ∙ turned)
        | inr other ↦ kept (2 * d) (omega (arith, l.size)) ∙ l.reverses d (omega arith)
      ];
      afters = λ d b. elim (cases_eq d n) [
        | inl e ↦ rw e (there ∙ follows)
        | inr other ↦ kept (2 * d + 1) (omega (arith, l.size)) ∙ l.afters d (omega arith)
      ];
    }

-- ---- lists and heads

pub first_dart-more : (g : List (List ℕ)) (k : ℕ) → k < length g → first_dart g (k + 1) ≡ first_dart g k + length (get_or g k [])
first_dart-more [] k below = absurd (omega arith)
first_dart-more (l ∷ ls) zero below = omega (arith, length-append l [])
first_dart-more (l ∷ ls) (suc k) below =
    let one : suc k + 1 ≡ suc (k + 1) = omega arith in
    rw one (omega (arith, length-append l (heads (take (k + 1) ls)), length-append l (heads (take k ls)), first_dart-more ls k (omega arith)))

pub first_dart-all : (g : List (List ℕ)) (n : ℕ) → length g ≤ n → first_dart g n ≡ dart_count g
first_dart-all g n past = ap dart_count (take_all n g past)

-- ---- darts

-- the dart from `head` to `tail` is the reverse of the one from `tail` to `head`
pub reverse_found : (g : List (List ℕ)) → KeepsBefore g 8 → (tail head m i e : ℕ) → head ≡ suc m → m < length g → i < length (get_or g m []) → get_or (get_or g m []) i 0 ≡ tail → e ≡ first_dart g m + i → (d : ℕ) → d < dart_count g → tail_of g d ≡ tail → head_of g d ≡ head → e ≡ reverse_of g d
reverse_found g rules tail head m i e vertex list inside entry number d below at-tail at-head =
    let s : Stands 1 g e m i = stands_at 1 g e m i list inside number in
    let o = reverse_is g rules d below in
    let in-e : e < dart_count g = omega (arith, stands_below g m i list inside) in
    one_dart g rules e (reverse_of g d) in-e o.inside (tail_at g e m i s ∙ sym (o.tail ∙ at-head ∙ vertex)) (s.head ∙ entry ∙ sym (o.head ∙ at-tail))

-- the dart after the one at place i of list k
pub after_is : (g : List (List ℕ)) (k i : ℕ) → k < length g → i < length (get_or g k []) → (i + 1 < length (get_or g k []) → after_of g (first_dart g k + i) ≡ first_dart g k + i + 1) × (length (get_or g k []) ≤ i + 1 → after_of g (first_dart g k + i) ≡ first_dart g k)
after_is g k i list inside =
    let s = stands_at 1 g (first_dart g k + i) k i list inside refl in
    let (j, t, at) = after_place g (first_dart g k + i) k i s in
    elim at [
      | inl w ↦ (λ _. omega (arith, t.number, w.1), λ last. absurd (omega (arith, w.0)))
      | inr w ↦ (λ more. absurd (omega (arith, w.0)), λ _. omega (arith, t.number, w.1))
    ]

-- `next` counts on from the dart at place i of list k, which ends before `end`, and the last dart turns back to the first
pub after_found : (g : List (List ℕ)) (k i next first end found : ℕ) → k < length g → i < length (get_or g k []) → next ≡ first_dart g k + i → first ≡ first_dart g k → end ≡ first + length (get_or g k []) → (next + 1 < end → found ≡ next + 1) → (end ≤ next + 1 → found ≡ first) → found ≡ after_of g (first_dart g k + i)
after_found g k i next first end found list inside at begins ends within last =
    let is = after_is g k i list inside in
    elim (cases_lt (i + 1) (length (get_or g k []))) [
      | inl more ↦ omega (arith, within (omega arith), is.0 more)
      | inr done ↦ omega (arith, last (omega arith), is.1 done)
    ]

-- a table of all heads is their list
pub heads_found : (g : List (List ℕ)) (n : ℕ) (table : List ℕ) → n ≡ dart_count g → IsTable n (head_of g) table → table ≡ heads g
heads_found g n table all t =
    same_number_lists table (heads g) (t.size ∙ all) (λ k below. t.each k (omega (arith, t.size)))
