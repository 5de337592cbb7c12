-- What a sweep over segments in the order of their coordinates knows.
use Rattle.std.proofs.Common.{◌≡◌, ◌≤◌, ◌<◌, ℕ, ◌+◌, List, length, ap, subst, inl, inr, arith}
use Rattle.std.proofs.lemmas.Bool.{cases_eq, cases_order}
use Rattle.least_length.specs.declared.segments.Segment.{Segment}
use Rattle.least_length.specs.Lengths.{segment_at, HasLevel, KeepsOrder}

-- of the first segments: none has a coordinate above the last, they are in the order of their coordinates, each has met its levels, and
-- those on one level keep their order
pub record IsSwept (segments : List Segment) (coordinates met : ℕ → ℕ) (place last : ℕ) : Type 0 where
  pub below : (r : ℕ) → r < place → (segment_at segments r).coordinate ≤ last
  pub sorted : (r s : ℕ) → r ≤ s → s < place → (segment_at segments r).coordinate ≤ (segment_at segments s).coordinate
  pub frontier : (r level : ℕ) → r < place → HasLevel (segment_at segments r) level → coordinates r < met level
  pub kept : (r s level : ℕ) → r < s → s < place → HasLevel (segment_at segments r) level → HasLevel (segment_at segments s) level → coordinates r < coordinates s

below_more : (segments : List Segment) (coordinates met : ℕ → ℕ) (place last : ℕ) → IsSwept segments coordinates met place last → last ≤ (segment_at segments place).coordinate → (r : ℕ) → r < place + 1 → (segment_at segments r).coordinate ≤ (segment_at segments place).coordinate
below_more segments coordinates met place last swept next r h =
    elim (cases_eq r place) [
      | inl e ↦ let same : (segment_at segments r).coordinate ≡ (segment_at segments place).coordinate = ap (λ (k : ℕ). (segment_at segments k).coordinate) e in omega arith
      | inr ne ↦ let old : (segment_at segments r).coordinate ≤ last = swept.below r (omega arith) in omega arith
    ]

-- one more segment
pub swept_more : (segments : List Segment) (coordinates met after : ℕ → ℕ) (place last : ℕ) → IsSwept segments coordinates met place last → last ≤ (segment_at segments place).coordinate → ((level : ℕ) → HasLevel (segment_at segments place) level → met level ≤ coordinates place) → ((level : ℕ) → HasLevel (segment_at segments place) level → after level ≡ coordinates place + 1) → ((level : ℕ) → met level ≤ after level) → IsSwept segments coordinates after (place + 1) (segment_at segments place).coordinate
swept_more segments coordinates met after place last swept next passed now risen = record {
  below = below_more segments coordinates met place last swept next;
  sorted = λ r s le h. elim (cases_eq s place) [
    | inl e ↦ let same : (segment_at segments s).coordinate ≡ (segment_at segments place).coordinate = ap (λ (k : ℕ). (segment_at segments k).coordinate) e in
        let low : (segment_at segments r).coordinate ≤ (segment_at segments place).coordinate = below_more segments coordinates met place last swept next r (omega arith) in
        omega arith
    | inr ne ↦ swept.sorted r s le (omega arith)
  ];
  frontier = λ r level h crosses. elim (cases_eq r place) [
    | inl e ↦ let same : coordinates r ≡ coordinates place = ap coordinates e in
        let top : after level ≡ coordinates place + 1 = now level (subst (λ (k : ℕ). HasLevel (segment_at segments k) level) e crosses) in
        omega arith
    | inr ne ↦ let old : coordinates r < met level = swept.frontier r level (omega arith) crosses in
        let up : met level ≤ after level = risen level in
        omega arith
  ];
  kept = λ r s level less h here there. elim (cases_eq s place) [
    | inl e ↦ let same : coordinates s ≡ coordinates place = ap coordinates e in
        let old : coordinates r < met level = swept.frontier r level (omega arith) here in
        let top : met level ≤ coordinates place = passed level (subst (λ (k : ℕ). HasLevel (segment_at segments k) level) e there) in
        omega arith
    | inr ne ↦ swept.kept r s level less (omega arith) here there
  ];
}

-- all segments
pub swept_keeps : (segments : List Segment) (coordinates met : ℕ → ℕ) (place last : ℕ) → IsSwept segments coordinates met place last → length segments ≤ place → KeepsOrder segments coordinates
swept_keeps segments coordinates met place last swept all r s b d before =
    elim (cases_order r s) [
      | inl e ↦ let same : (segment_at segments r).coordinate ≡ (segment_at segments s).coordinate = ap (λ (k : ℕ). (segment_at segments k).coordinate) e in
          let less : (segment_at segments r).coordinate < (segment_at segments s).coordinate = before.less in
          absurd (omega arith)
      | inr o ↦ elim o [
        | inl l ↦ swept.kept r s before.level l (omega arith) before.here before.there
        | inr l ↦ let back : (segment_at segments s).coordinate ≤ (segment_at segments r).coordinate = swept.sorted s r (omega arith) (omega arith) in
            let less : (segment_at segments r).coordinate < (segment_at segments s).coordinate = before.less in
            absurd (omega arith)
      ]
    ]
