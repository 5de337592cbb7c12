-- Lists that are written one after another, each ended by a 0.
use Rattle.std.proofs.Common.{◌≡◌, ℕ, zero, suc, ◌+◌, ◌-◌, ◌*◌, ◌<◌, ◌≤◌, List, [], ◌∷◌, ◌++◌, length, get_or, take, drop, refl, sym, ap, ◌∙◌, arith}
use Rattle.std.specs.List.{flat_map, slice_range, All}
use Rattle.std.proofs.lemmas.List.{length-append, append_assoc, take_at, drop_at, get_or_append_left, get_or_at, drop-drop}
use Rattle.std.proofs.lemmas.List.Concat.{get_or-flat_map}
use Rattle.embedding.specs.declared.wide_record.TheConstants.{MAX_ENTRIES}
use Rattle.planar_code.specs.Stream.{IsList, ended, before_first, lists_in, lists_of}
use Rattle.common.specs.declared.parameters.TheConstants.{MAX_VERTICES}
use Rattle.embedding.specs.Darts.{heads, first_dart}
use Rattle.embedding.specs.Split.{AreStarts, HoldsLists, start_of}

pub length-ended : (l : List ℕ) → length (ended l) ≡ length l + 1
length-ended l = length-append l (0 ∷ [])

-- where the next list begins
pub start_of-more : (g : List (List ℕ)) (k : ℕ) → k < length g → start_of g (k + 1) ≡ start_of g k + length (get_or g k []) + 1
start_of-more [] k below = absurd (omega arith)
start_of-more (l ∷ ls) zero below =
    omega (arith, length-append (ended l) [], length-ended l)
start_of-more (l ∷ ls) (suc k) below =
    let one : suc k + 1 ≡ suc (k + 1) = omega arith in
    rw one (omega (arith, length-append (ended l) (flat_map ended (take (k + 1) ls)), length-append (ended l) (flat_map ended (take k ls)), start_of-more ls k (omega arith)))

-- the entries end after the last list
pub start_of-all : (g : List (List ℕ)) (n : ℕ) → length g ≤ n → start_of g n ≡ length (flat_map ended g)
start_of-all [] zero past = refl
start_of-all [] (suc n) past = refl
start_of-all (l ∷ ls) zero past = absurd (omega arith)
start_of-all (l ∷ ls) (suc n) past =
    omega (arith, length-append (ended l) (flat_map ended (take n ls)), length-append (ended l) (flat_map ended ls), start_of-all ls n (omega arith))

-- a start lies within the entries
pub start_of-within : (g : List (List ℕ)) (k : ℕ) → start_of g k ≤ length (flat_map ended g)
start_of-within [] zero = omega arith
start_of-within [] (suc k) = omega arith
start_of-within (l ∷ ls) zero = omega arith
start_of-within (l ∷ ls) (suc k) =
    omega (arith, length-append (ended l) (flat_map ended (take k ls)), length-append (ended l) (flat_map ended ls), start_of-within ls k)

-- a list and its 0 lie within the entries
pub list_within : (g : List (List ℕ)) (k : ℕ) → k < length g → start_of g k + length (get_or g k []) + 1 ≤ length (flat_map ended g)
list_within g k below = omega (arith, start_of-more g k below, start_of-within g (k + 1))

-- a list is the part of the entries from its start up to its 0
pub part_is : (g : List (List ℕ)) (k : ℕ) → k < length g → slice_range (flat_map ended g) (start_of g k) (start_of g (k + 1) - 1) ≡ get_or g k []
part_is g k below =
    let n : start_of g (k + 1) - 1 - start_of g k ≡ length (get_or g k []) = omega (arith, start_of-more g k below) in
    ap (λ (m : ℕ). take m (drop (start_of g k) (flat_map ended g))) n ∙ front g k below
  where
    front : (g : List (List ℕ)) (k : ℕ) → k < length g → take (length (get_or g k [])) (drop (start_of g k) (flat_map ended g)) ≡ get_or g k []
    front [] k below = absurd (omega arith)
    front (l ∷ ls) zero below =
        rw (append_assoc l (0 ∷ []) (flat_map ended ls)) (take_at l _ (length l) refl)
    front (l ∷ ls) (suc k) below =
        let far : start_of (l ∷ ls) (suc k) ≡ length (ended l) + start_of ls k =
        length-append (ended l) (flat_map ended (take k ls)) in
        let behind : drop (start_of (l ∷ ls) (suc k)) (ended l ++ flat_map ended ls) ≡ drop (start_of ls k) (flat_map ended ls) =
        ap (λ (m : ℕ). drop m (ended l ++ flat_map ended ls)) far
        ∙ sym (drop-drop (start_of ls k) (length (ended l)) (ended l ++ flat_map ended ls))
        ∙ ap (drop (start_of ls k)) (drop_at (ended l) (flat_map ended ls) (length (ended l)) refl) in
        ap (take (length (get_or ls k []))) behind ∙ front ls k (omega arith)

-- no list holds a 0
abbrev pub HasNoZero : List (List ℕ) → Type 0
HasNoZero g = (k i : ℕ) → i < length (get_or g k []) → 0 < get_or (get_or g k []) i 0

before_first-no_zero : (x : ℕ) (g : List (List ℕ)) → HasNoZero g → HasNoZero (before_first (suc x) g)
before_first-no_zero x [] none k i inside = none k i inside
before_first-no_zero x (l ∷ ls) none zero zero inside = omega arith
before_first-no_zero x (l ∷ ls) none zero (suc i) inside = none zero i (omega arith)
before_first-no_zero x (l ∷ ls) none (suc k) i inside = none (suc k) i inside

-- the lists that entries hold are those between the zeros
pub lists_in-no_zero : (entries : List ℕ) → HasNoZero (lists_in entries)
lists_in-no_zero [] k i inside = absurd (omega arith)
lists_in-no_zero (zero ∷ more) zero i inside = absurd (omega arith)
lists_in-no_zero (zero ∷ more) (suc k) i inside = lists_in-no_zero more k i inside
lists_in-no_zero (suc x ∷ more) k i inside = before_first-no_zero x (lists_in more) (lists_in-no_zero more) k i inside

-- an entry before the end of its list is not 0, and the one after the list is 0
pub entry_in : (g : List (List ℕ)) (k i : ℕ) → k < length g → HasNoZero g → start_of g k ≤ i → i < start_of g k + length (get_or g k []) → 0 < get_or (flat_map ended g) i 0
entry_in g k i below none from to =
    let l = get_or g k [] in
    let j = i - start_of g k in
    let at : i ≡ start_of g k + j = omega arith in
    let inside : j < length l = omega arith in
    let longer : j < length (ended l) = omega (arith, length-ended l) in
    let is : get_or (flat_map ended g) i 0 ≡ get_or l j 0 =
    ap (λ (m : ℕ). get_or (flat_map ended g) m 0) at ∙ get_or-flat_map ended g k j [] 0 below longer ∙ get_or_append_left l (0 ∷ []) 0 j inside in
    rw is (none k j inside)

pub entry_behind : (g : List (List ℕ)) (k i : ℕ) → k < length g → i ≡ start_of g k + length (get_or g k []) → get_or (flat_map ended g) i 0 ≡ 0
entry_behind g k i below at =
    let l = get_or g k [] in
    let longer : length l < length (ended l) = omega (arith, length-ended l) in
    ap (λ (m : ℕ). get_or (flat_map ended g) m 0) at ∙ get_or-flat_map ended g k (length l) [] 0 below longer ∙ get_or_at l 0 [] 0 (length l) refl

-- the first dart of a list: the entries before the list, less a 0 for each list
pub first_dart-start : (g : List (List ℕ)) (k : ℕ) → k ≤ length g → start_of g k ≡ first_dart g k + k
first_dart-start [] zero below = refl
first_dart-start [] (suc k) below = absurd (omega arith)
first_dart-start (l ∷ ls) zero below = refl
first_dart-start (l ∷ ls) (suc k) below =
    omega (arith, length-append (ended l) (flat_map ended (take k ls)), length-append l (heads (take k ls)), length-ended l, first_dart-start ls k (omega arith))

-- lists of at most 254 entries are written in few
pub written_few : (g : List (List ℕ)) → All IsList g → length (flat_map ended g) ≤ 255 * length g
written_few [] each = omega arith
written_few (l ∷ ls) each =
    omega (arith, length-append (ended l) (flat_map ended ls), length-ended l, (each 0 [] (omega arith)).short, written_few ls (λ k d b. each (suc k) d (omega arith)))

-- the lists of a record are those of its entries after the first
pub lists_of-rest : (entries : List ℕ) → lists_of entries ≡ lists_in (drop 1 entries)
lists_of-rest [] = refl
lists_of-rest (order ∷ rest) = refl

-- what is known of a record's entries after the first, once it is known where its lists begin
pub written : (entries rest starts : List ℕ) (g : List (List ℕ)) (count : ℕ) → rest ≡ drop 1 entries → lists_of entries ≡ g → entries ≡ length g ∷ flat_map ended g → length rest < MAX_ENTRIES → count ≡ length g → 0 < count → count ≤ MAX_VERTICES → length g < length starts → AreStarts (lists_in rest) starts
    → (lists_in rest ≡ g) × HoldsLists rest starts count
written entries rest starts g count is same spelt short counted some few room begins =
    let lists : lists_in rest ≡ g = ap lists_in is ∙ sym (lists_of-rest entries) ∙ same in
    let written_is : rest ≡ flat_map ended g = is ∙ ap (drop 1) spelt in (
      lists,
      record {
        spelt = written_is ∙ ap (flat_map ended) (sym lists);
        short = short;
        size = ap length lists ∙ sym counted;
        some = some;
        few = few;
        room = omega arith;
        starts_are = begins;
      },
    )
