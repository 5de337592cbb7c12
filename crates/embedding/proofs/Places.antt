-- What a record's split says of the list at one place.
use Rattle.std.proofs.Common.{◌≡◌, ℕ, zero, suc, ◌+◌, ◌-◌, ◌*◌, ◌<◌, ◌≤◌, List, [], ◌∷◌, length, get_or, take, drop, sym, ap, ◌∙◌, subst, arith}
use Rattle.std.specs.List.{flat_map}
use Rattle.embedding.specs.declared.wide_record.TheConstants.{MAX_ENTRIES}
use Rattle.planar_code.specs.Stream.{ended, lists_in}
use Rattle.embedding.specs.Darts.{dart_count, first_dart}
use Rattle.embedding.specs.Split.{HoldsLists, start_of}
use Rattle.embedding.proofs.WrittenLists.{start_of-more, start_of-all, list_within, part_is, first_dart-start}
use Rattle.std.proofs.lemmas.List.{take_all, get_or-take, get_or-drop}

-- list k of g stands in the entries from `from` up to the 0 before `to`
pub record IsPlace (entries : List ℕ) (g : List (List ℕ)) (k from to : ℕ) : Type 0 where
  pub ends : to ≡ from + length (get_or g k []) + 1
  pub within : to ≤ length entries
  pub part : take (to - 1 - from) (drop from entries) ≡ get_or g k []
  pub short : length (get_or g k []) < MAX_ENTRIES
  pub first : from ≡ first_dart g k + k

pub place_is : (entries starts : List ℕ) (count : ℕ) → HoldsLists entries starts count → (g : List (List ℕ)) → lists_in entries ≡ g → (k from to : ℕ) → k < length g → from ≡ get_or starts k 0 → to ≡ get_or starts (k + 1) 0 → IsPlace entries g k from to
place_is entries starts count split g same k from to below reads-from reads-to =
    subst (λ (h : List (List ℕ)). IsPlace entries h k from to) same (here entries starts count split k from to (omega (arith, ap length same)) reads-from reads-to)
  where
    here : (entries starts : List ℕ) (count : ℕ) → HoldsLists entries starts count → (k from to : ℕ) → k < length (lists_in entries) → from ≡ get_or starts k 0 → to ≡ get_or starts (k + 1) 0 → IsPlace entries (lists_in entries) k from to
    here entries starts count split k from to below reads-from reads-to =
        let g = lists_in entries in
        let from-is : from ≡ start_of g k = reads-from ∙ split.starts_are k (omega (arith, split.size)) in
        let to-is : to ≡ start_of g (k + 1) = reads-to ∙ split.starts_are (k + 1) (omega (arith, split.size)) in
        let more = start_of-more g k below in
        record {
          ends = omega arith;
          within = omega (arith, list_within g k below, ap length split.spelt);
          part =
              rw (from-is, to-is) (ap (λ (b : List ℕ). take (start_of g (k + 1) - 1 - start_of g k) (drop (start_of g k) b)) split.spelt ∙ part_is g k below);
          short = omega (arith, list_within g k below, ap length split.spelt, split.short);
          first = from-is ∙ first_dart-start g k (omega arith);
        }

-- how many entries the lists take
pub entries_are : (entries starts : List ℕ) (count : ℕ) → HoldsLists entries starts count → (g : List (List ℕ)) → lists_in entries ≡ g → (length entries ≡ dart_count g + count) × (dart_count g < MAX_ENTRIES)
entries_are entries starts count split g same =
    let size : length g ≡ count = sym (ap length same) ∙ split.size in
    let spelt : length entries ≡ length (flat_map ended g) = ap length split.spelt ∙ ap (λ (h : List (List ℕ)). length (flat_map ended h)) same in
    let all = start_of-all g (length g) (omega arith) in
    let darts = first_dart-start g (length g) (omega arith) in
    let whole : first_dart g (length g) ≡ dart_count g = ap (λ (h : List (List ℕ)). dart_count h) (take_all (length g) g (omega arith)) in
    let short = split.short in
    let bound = ap (λ (h : List (List ℕ)). length (flat_map ended h)) same in
    let sizes = ap length same in
    (omega arith, omega arith)

-- an entry of the list is in all entries after the place where the list begins
entry_is : (entries : List ℕ) (g : List (List ℕ)) (k from to i : ℕ) → IsPlace entries g k from to → i < length (get_or g k []) → get_or entries (from + i) 0 ≡ get_or (get_or g k []) i 0
entry_is entries g k from to i p inside =
    let below : i < to - 1 - from = omega (arith, p.ends) in
    sym (get_or-drop from entries i 0) ∙ sym (get_or-take (to - 1 - from) (drop from entries) i 0 below) ∙ ap (λ (l : List ℕ). get_or l i 0) p.part

-- after the first entry of a list comes another one, or its 0
pub three_entries-some : (entries : List ℕ) (g : List (List ℕ)) (k place from to : ℕ) → IsPlace entries g k from to → k ≡ place → 0 < length (get_or g place []) → from + 1 < length entries
three_entries-some entries g k place from to p same some =
    omega (arith, some, ap (λ (j : ℕ). length (get_or g j [])) same, p.ends, p.within)

-- the three entries from where the list begins are its own, as far as it goes
pub three_entries : (entries : List ℕ) (g : List (List ℕ)) (k place from to third : ℕ) → IsPlace entries g k from to → k ≡ place → (from + 2 < length entries → third ≡ from + 2)
    → (i : ℕ) → i < 3 → i < length (get_or g place []) → get_or (get_or entries from 0 ∷ get_or entries (from + 1) 0 ∷ get_or entries third 0 ∷ []) i 0 ≡ get_or (get_or g place []) i 0
three_entries entries g k place from to third p same far i three inside =
    subst (λ (j : ℕ). i < length (get_or g j []) → get_or (get_or entries from 0 ∷ get_or entries (from + 1) 0 ∷ get_or entries third 0 ∷ []) i 0 ≡ get_or (get_or g j []) i 0) same (here i three) inside
  where
    here : (i : ℕ) → i < 3 → i < length (get_or g k []) → get_or (get_or entries from 0 ∷ get_or entries (from + 1) 0 ∷ get_or entries third 0 ∷ []) i 0 ≡ get_or (get_or g k []) i 0
    here zero three inside =
        let at : from ≡ from + 0 = omega arith in ap (λ (j : ℕ). get_or entries j 0) at ∙ entry_is entries g k from to 0 p inside
    here (suc zero) three inside = entry_is entries g k from to 1 p inside
    here (suc (suc zero)) three inside =
        let at : third ≡ from + 2 = far (omega (arith, inside, p.ends, p.within)) in
        ap (λ (j : ℕ). get_or entries j 0) at ∙ entry_is entries g k from to 2 p inside
    here (suc (suc (suc i))) three inside = absurd (omega (arith, three))
