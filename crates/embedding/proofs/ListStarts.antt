-- One pass over the entries of lists, which finds where each list begins.
use Rattle.std.proofs.Common.{◌≡◌, ℕ, ◌+◌, ◌<◌, ◌≤◌, eqb, List, [], length, get_or, set, ap, subst, ◌∙◌, inl, inr, arith}
use mir.Val.{bool_byte}
use Rattle.std.specs.List.{flat_map}
use Rattle.std.proofs.lemmas.List.{get_or-set_same, get_or-set_other, length-set}
use Rattle.std.proofs.lemmas.Bool.{cases_lt, cases_eq, eq-eqb, ne_eqb}
use Rattle.planar_code.specs.Stream.{ended}
use Rattle.embedding.specs.Split.{start_of}
use Rattle.embedding.proofs.WrittenLists.{HasNoZero, start_of-more, start_of-all, start_of-within, entry_in, entry_behind}

-- before entry i, `count` lists are whole, and the starts are known up to that of the next one
pub record IsReading (g : List (List ℕ)) (starts : List ℕ) (i count : ℕ) : Type 0 where
  pub room : length g < length starts
  pub few : count ≤ length g
  pub from : start_of g count ≤ i
  pub to : count < length g → i < start_of g (count + 1)
  pub starts_are : (k : ℕ) → k ≤ count → get_or starts k 0 ≡ start_of g k

-- there is a next list before the end
pub next_list : (g : List (List ℕ)) (starts : List ℕ) (i count : ℕ) → IsReading g starts i count → i < length (flat_map ended g) → count < length g
next_list g starts i count r below =
    elim (cases_lt count (length g)) [
      | inl less ↦ less
      | inr past ↦ absurd (omega (arith, start_of-all g count past, r.from, below))
    ]

-- a 0 ends a list
pub reading_end : (g : List (List ℕ)) (starts : List ℕ) (i count : ℕ) → HasNoZero g → IsReading g starts i count → i < length (flat_map ended g) → get_or (flat_map ended g) i 0 ≡ 0 → IsReading g (set starts (count + 1) (i + 1)) (i + 1) (count + 1)
reading_end g starts i count none r below zeros =
    let less = next_list g starts i count r below in
    let more = start_of-more g count less in
    let before = r.to less in
    let from = r.from in
    let at : i ≡ start_of g count + length (get_or g count []) =
    elim (cases_lt i (start_of g count + length (get_or g count []))) [
      | inl within ↦ absurd (omega (arith, entry_in g count i less none from within, zeros))
      | inr past ↦ omega arith
    ] in
    let next : i + 1 ≡ start_of g (count + 1) = omega arith in
    let inside : count + 1 < length starts = omega (arith, r.room) in
    record {
      room = omega (arith, r.room, length-set starts (count + 1) (i + 1));
      few = omega arith;
      from = omega arith;
      to = λ again. omega (arith, start_of-more g (count + 1) again);
      starts_are = λ k b. elim (cases_eq k (count + 1)) [
        | inl last ↦ rw (last, get_or-set_same starts (count + 1) (i + 1) 0 inside) next
        | inr other ↦ rw (get_or-set_other starts (count + 1) k (i + 1) 0 other) (r.starts_are k (omega arith))
      ];
    }

-- another entry does not
pub reading_entry : (g : List (List ℕ)) (starts : List ℕ) (i count : ℕ) → IsReading g starts i count → i < length (flat_map ended g) → (get_or (flat_map ended g) i 0 ≡ 0 → ⊥) → IsReading g starts (i + 1) count
reading_entry g starts i count r below entry =
    let less = next_list g starts i count r below in
    let more = start_of-more g count less in
    let before = r.to less in
    record {
      room = r.room;
      few = r.few;
      from = omega (arith, r.from);
      to = λ _. elim (cases_eq i (start_of g count + length (get_or g count []))) [
        | inl behind ↦ absurd (entry (entry_behind g count i less behind))
        | inr other ↦ omega arith
      ];
      starts_are = r.starts_are;
    }

-- after the last entry all lists are whole
pub reading_all : (g : List (List ℕ)) (starts : List ℕ) (i count : ℕ) → IsReading g starts i count → length (flat_map ended g) ≤ i → count ≡ length g
reading_all g starts i count r past =
    elim (cases_lt count (length g)) [
      | inl less ↦ absurd (omega (arith, r.to less, start_of-more g count less, within g count less, past))
      | inr all ↦ omega (arith, r.few)
    ]
  where
    within : (g : List (List ℕ)) (count : ℕ) → count < length g → start_of g (count + 1) ≤ length (flat_map ended g)
    within g count less = start_of-within g (count + 1)

-- before the first entry
pub reading_none : (g : List (List ℕ)) (starts : List ℕ) → length g < length starts → get_or starts 0 0 ≡ 0 → IsReading g starts 0 0
reading_none g starts room first =
    record {
      room = room;
      few = omega arith;
      from = omega arith;
      to = λ some. omega (arith, start_of-more g 0 some);
      starts_are = λ k b. let none : k ≡ 0 = omega arith in rw none first;
    }

-- what is written after the last known start changes nothing
pub reading_ahead : (g : List (List ℕ)) (starts : List ℕ) (i count x : ℕ) → IsReading g starts i count → IsReading g (set starts (count + 1) x) i count
reading_ahead g starts i count x r =
    record {
      room = omega (arith, r.room, length-set starts (count + 1) x);
      few = r.few;
      from = r.from;
      to = r.to;
      starts_are = λ k b.
          let other : k ≡ count + 1 → ⊥ = λ e. absurd (omega arith) in
          get_or-set_other starts (count + 1) k x 0 other ∙ r.starts_are k b;
    }

-- the place after an entry is written, and counts where the entry is 0
pub reading_step : (g : List (List ℕ)) (starts : List ℕ) (i count n : ℕ) → HasNoZero g → IsReading g starts i count → i < length (flat_map ended g) → n ≡ bool_byte (eqb (get_or (flat_map ended g) i 0) 0) → IsReading g (set starts (count + 1) (i + 1)) (i + 1) (count + n)
reading_step g starts i count n none r below is =
    elim (cases_eq (get_or (flat_map ended g) i 0) 0) [
      | inl zeros ↦
          let one : n ≡ 1 = is ∙ ap bool_byte (eq-eqb _ _ zeros) in
          rw one (reading_end g starts i count none r below zeros)
      | inr other ↦
          let no : n ≡ 0 = is ∙ ap bool_byte (ne_eqb _ _ other) in
          let same : count ≡ count + n = omega arith in
          subst (λ (m : ℕ). IsReading g (set starts (count + 1) (i + 1)) (i + 1) m) same
          (reading_ahead g starts (i + 1) count (i + 1) (reading_entry g starts i count r below other))
    ]
