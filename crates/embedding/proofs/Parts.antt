-- Lists that stand one after another, and their parts between the places where they start.
use Rattle.std.proofs.Common.{◌≡◌, ℕ, zero, suc, ◌+◌, ◌-◌, ◌*◌, ◌<◌, ◌≤◌, List, [], ◌∷◌, ◌++◌, length, get_or, take, drop, refl, sym, ap, ◌∙◌, subst, arith}
use Rattle.std.specs.List.{slice_range}
use Rattle.std.proofs.lemmas.List.{length-append, take_at, drop_at, drop-drop, ext_get_or, get_or_append_left, get_or_read, get_or-drop}
use Rattle.std.proofs.lemmas.List.FromFn.{get_or-map-range_with_len, length-map-range_with_len}
use Rattle.common.specs.declared.parameters.TheConstants.{MAX_VERTICES}
use Rattle.embedding.specs.Lists.{list_of}
use Rattle.embedding.specs.Darts.{heads, dart_count, first_dart, next_of}
use Rattle.embedding.specs.Walk.{HasFaceTable, next_in}
use Rattle.embedding.proofs.Faced.{tied, next_is, same_faces, same_degree}
use Rattle.embedding.specs.Rules.{KeepsBefore}
use Rattle.embedding.specs.Tables.{slices_at, IsTable, IsRotation, AreTables}
use Rattle.embedding.proofs.EachList.{list_of-add}
use Rattle.embedding.proofs.Building.{first_dart-more}

-- a list is the part of all heads from its first dart up to that of the next list
pub part_of-heads : (g : List (List ℕ)) (k : ℕ) → k < length g → slice_range (heads g) (first_dart g k) (first_dart g (k + 1)) ≡ get_or g k []
part_of-heads g k below =
    let n : first_dart g (k + 1) - first_dart g k ≡ length (get_or g k []) = omega (arith, first_dart-more g k below) in
    ap (λ (m : ℕ). take m (drop (first_dart g k) (heads g))) n ∙ front g k below
  where
    front : (g : List (List ℕ)) (k : ℕ) → k < length g → take (length (get_or g k [])) (drop (first_dart g k) (heads g)) ≡ get_or g k []
    front [] k below = absurd (omega arith)
    front (l ∷ ls) zero below = take_at l (heads ls) (length l) refl
    front (l ∷ ls) (suc k) below =
        let far : first_dart (l ∷ ls) (suc k) ≡ length l + first_dart ls k = length-append l (heads (take k ls)) in
        let behind : drop (first_dart (l ∷ ls) (suc k)) (l ++ heads ls) ≡ drop (first_dart ls k) (heads ls) =
        ap (λ (m : ℕ). drop m (l ++ heads ls)) far
        ∙ sym (drop-drop (first_dart ls k) (length l) (l ++ heads ls))
        ∙ ap (drop (first_dart ls k)) (drop_at l (heads ls) (length l) refl) in
        ap (take (length (get_or ls k []))) behind ∙ front ls k (omega arith)

-- no list begins after all heads
pub first_dart-within : (g : List (List ℕ)) (k : ℕ) → first_dart g k ≤ length (heads g)
first_dart-within [] zero = omega arith
first_dart-within [] (suc k) = omega arith
first_dart-within (l ∷ ls) zero = omega arith
first_dart-within (l ∷ ls) (suc k) =
    omega (arith, length-append l (heads (take k ls)), length-append l (heads ls), first_dart-within ls k)

-- the ends from place `from` up to place `to` are the list
pub record IsPart (ends list : List ℕ) (from to : ℕ) : Type 0 where
  pub ordered : from ≤ to
  pub within : to ≤ length ends
  pub part : slice_range ends from to ≡ list

pub part_between : (g : List (List ℕ)) (ends : List ℕ) (k from to : ℕ) → ends ≡ heads g → k < length g → from ≡ first_dart g k → to ≡ first_dart g (k + 1) → IsPart ends (get_or g k []) from to
part_between g ends k from to same below is-from is-to =
    record {
      ordered = omega (arith, first_dart-more g k below);
      within = omega (arith, first_dart-within g (k + 1), ap length same);
      part =
          ap (λ (l : List ℕ). slice_range l from to) same
          ∙ ap (λ (m : ℕ). slice_range (heads g) m to) is-from
          ∙ ap (slice_range (heads g) (first_dart g k)) is-to
          ∙ part_of-heads g k below;
    }

-- a start, read after the rotation
start_read : (g : List (List ℕ)) {ends table : List ℕ} {count : ℕ} → AreTables g ends count table → (k j x : ℕ) → k ≤ length g → j ≡ 3 * length ends + count + k → x ≡ get_or table j x → x ≡ first_dart g k
start_read g {ends} {table} {count} kept k j x within at read =
    let inside : j < length table = omega (arith, kept.size, ap length kept.heads_are) in
    get_or_read table j x inside read 0
    ∙ ap (λ (i : ℕ). get_or table i 0) at
    ∙ sym (get_or-drop (3 * length ends + count) table k 0)
    ∙ kept.starts_are.each k (omega arith)

-- the list of a vertex, between what is read from the table of starts
pub vertex_part : (g : List (List ℕ)) {ends table : List ℕ} {count : ℕ} → AreTables g ends count table → (v i j from to : ℕ) → j ≡ 3 * length ends + count + i → i + 1 ≡ v → v ≤ length g → from ≡ get_or table j from → to ≡ get_or table (j + 1) to → IsPart ends (list_of g v) from to
vertex_part g {ends} kept v i j from to place at within read-from read-to =
    let here : list_of g v ≡ get_or g i [] = ap (list_of g) (sym at) ∙ list_of-add g i in
    rw here (part_between g ends i from to kept.heads_are (omega arith) (start_read g kept i j from (omega arith) place read-from) (start_read g kept (i + 1) (j + 1) to (omega arith) (omega arith) read-to))

-- split where they start, the heads are the lists
pub parts_whole : (g : List (List ℕ)) (starts ends : List ℕ) → IsTable (length g + 1) (first_dart g) starts → ends ≡ heads g → slices_at starts ends ≡ g
parts_whole g starts ends table same =
    let part : ℕ → List ℕ = λ k. slice_range ends (get_or starts k 0) (get_or starts (k + 1) 0) in
    let n = length starts - 1 in
    let long : length (slices_at starts ends) ≡ n = length-map-range_with_len part 0 n in
    let count : n ≡ length g = omega (arith, table.size) in
    ext_get_or [] (slices_at starts ends) g (long ∙ count) (λ k b.
    let inside : k < n = omega (arith, long) in
    get_or-map-range_with_len part 0 n k k [] inside (omega arith)
    ∙ (part_between g ends k (get_or starts k 0) (get_or starts (k + 1) 0) same (omega (arith, count)) (table.each k (omega (arith, count))) (table.each (k + 1) (omega (arith, count)))).part)

-- the table in which the rotation, faces and degrees stand before the starts
pub kept_whole : (g : List (List ℕ)) (ends rotation front starts table : List ℕ) (count : ℕ) → KeepsBefore g 8 → length g ≤ MAX_VERTICES → ends ≡ heads g
    → IsRotation g (dart_count g) rotation → HasFaceTable (dart_count g) rotation count front → IsTable (length g + 1) (first_dart g) starts → table ≡ front ++ starts
    → (slices_at (drop (3 * length ends + count) table) ends ≡ g) × AreTables g ends count table
kept_whole g ends rotation front starts table count rules order same l f s is =
    let n = dart_count g in
    let size : length front ≡ 3 * length ends + count = omega (arith, f.size, ap length same) in
    let behind : drop (3 * length ends + count) table ≡ starts =
    ap (drop (3 * length ends + count)) is ∙ drop_at front starts (3 * length ends + count) size in
    let read : (i : ℕ) → i < 3 * n + count → get_or table i 0 ≡ get_or front i 0 =
    λ i below. ap (λ (t : List ℕ). get_or t i 0) is ∙ get_or_append_left front starts 0 i (omega (arith, f.size, below)) in
    let face_is : (d : ℕ) → d < n → get_or table (2 * n + d) 0 ≡ get_or front (2 * n + d) 0 = λ d b. read (2 * n + d) (omega (arith, b)) in
    let walk = tied g rules rotation l in (
      ap (λ (t : List ℕ). slices_at t ends) behind ∙ parts_whole g starts ends s same,
      record {
        rules = rules;
        order = order;
        heads_are = same;
        size = omega (arith, ap length is, length-append front starts, f.size, s.size);
        starts_are = subst (IsTable (length g + 1) (first_dart g)) (sym behind) s;
        reverses_are = λ d below. read (2 * d) (omega (arith, below)) ∙ f.rotation_is (2 * d) (omega (arith, below)) ∙ l.reverses d below;
        afters_are = λ d below. read (2 * d + 1) (omega (arith, below)) ∙ f.rotation_is (2 * d + 1) (omega (arith, below)) ∙ l.afters d below;
        faces_are = same_faces n (next_in rotation) (next_of g) (λ d. get_or front (2 * n + d) 0) (λ d. get_or table (2 * n + d) 0) count walk.walked.inside (λ d b. sym (next_is g rules rotation l d b)) face_is f.faces_are;
        degrees_are = λ k b. read (3 * n + k) (omega (arith, b)) ∙ f.degrees_are k b ∙ sym (same_degree n (λ d. get_or front (2 * n + d) 0) (λ d. get_or table (2 * n + d) 0) k face_is);
      },
    )
