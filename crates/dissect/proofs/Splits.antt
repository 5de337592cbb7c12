-- A subdivision leaves each edge its path, with a turn more in the paths that go through the new vertex where it turns.
use Rattle.std.proofs.Common.{◌≡◌, ◌≢◌, ℕ, ◌+◌, ◌-◌, ◌%◌, ◌<◌, ◌≤◌, ◌⊎◌, ◌∙◌, List, [], ◌∷◌, arith, subst, sym, ap, refl, inl, inr}
use Rattle.std.proofs.lemmas.Bool.{cases_eq}
use Rattle.dissect.specs.DartMaps.{DartMap, no_dart, IsTied, IsSubdivided}
use Rattle.dissect.specs.Faces.{Below}
use Rattle.dissect.specs.Paths.{Follows, HasPath, HasPaths, path_quarters}
use Rattle.dissect.proofs.Splitting.{by_place}
use Rattle.dissect.proofs.Lengthening.{KeepsHeads, IsKept, IsDoubled, IsLonger, longer_end, longer_kept, longer_doubled, path_kept, path_doubled, longer_turns}

pub split_keeps : (w : DartMap) (e way bend : ℕ) (new : DartMap) → IsSubdivided w e way bend new → KeepsHeads w new
split_keeps w e way bend new subdivide = record {
  more = omega (arith, subdivide.darts);
  head = subdivide.head_old;
  direction = subdivide.direction_old;
}

pub split_kept : (w : DartMap) (e way bend : ℕ) (new : DartMap) → IsTied w → IsSubdivided w e way bend new →
    (b : ℕ) → b < w.darts → b ≢ e → b ≢ w.reverse_dart e → IsKept w new b
split_kept w e way bend new tied subdivide b l not_e not_t = record {
  inside = omega (arith, subdivide.darts);
  before = subdivide.before_other b l not_e not_t;
  reverse_dart = subdivide.reverse_dart_other b l not_e not_t;
  head = ap new.head (subdivide.reverse_dart_other b l not_e not_t) ∙ subdivide.head_old (w.reverse_dart b) (tied.reverse_dart_in b l);
  direction = ap new.direction (subdivide.reverse_dart_other b l not_e not_t) ∙ subdivide.direction_old (w.reverse_dart b) (tied.reverse_dart_in b l);
}

-- the first new dart stands before e, and the edge turns there by this much
pub split_doubled : (w : DartMap) (e way bend turn : ℕ) (new : DartMap) → IsTied w → e < w.darts → way < 4 → bend ≤ 4 →
    turn ≡ (10 - bend) % 4 → IsSubdivided w e way bend new → IsDoubled w new e w.darts turn
split_doubled w e way bend turn new tied e_in quarter few turn_is subdivide = record {
  inside = omega (arith, subdivide.darts);
  front_in = omega (arith, subdivide.darts);
  before = subdivide.before_first;
  behind = subdivide.before_e;
  reverse_dart = subdivide.reverse_dart_first;
  head = ap new.head subdivide.reverse_dart_first ∙ subdivide.head_old (w.reverse_dart e) (tied.reverse_dart_in e e_in);
  direction = ap new.direction subdivide.reverse_dart_first ∙ subdivide.direction_old (w.reverse_dart e) (tied.reverse_dart_in e e_in);
  meets = ap new.head subdivide.reverse_dart_e ∙ subdivide.head_second ∙ sym subdivide.head_first;
  turns = omega (arith, ap new.direction subdivide.reverse_dart_e, subdivide.direction_second, subdivide.direction_first);
}

-- and the second one before its reverse
pub split_doubled_back : (w : DartMap) (e way bend turn : ℕ) (new : DartMap) → IsTied w → e < w.darts → way < 4 → bend ≤ 4 →
    turn ≡ (2 + bend) % 4 → IsSubdivided w e way bend new → IsDoubled w new (w.reverse_dart e) (w.darts + 1) turn
split_doubled_back w e way bend turn new tied e_in quarter few turn_is subdivide = record {
  inside = omega (arith, subdivide.darts, tied.reverse_dart_in e e_in);
  front_in = omega (arith, subdivide.darts);
  before = subdivide.before_second;
  behind = subdivide.before_reverse_dart;
  reverse_dart = subdivide.reverse_dart_second ∙ sym (tied.reverse_dart_back e e_in);
  head = ap new.head subdivide.reverse_dart_second ∙ subdivide.head_old e e_in ∙ sym (ap w.head (tied.reverse_dart_back e e_in));
  direction = ap new.direction subdivide.reverse_dart_second ∙ subdivide.direction_old e e_in ∙ sym (ap w.direction (tied.reverse_dart_back e e_in));
  meets = ap new.head subdivide.reverse_dart_reverse_dart ∙ subdivide.head_first ∙ sym subdivide.head_second;
  turns = omega (arith, ap new.direction subdivide.reverse_dart_reverse_dart, subdivide.direction_second, subdivide.direction_first);
}

-- what is before a dart is still nothing, or none of the first n darts
pub split_ends : (w : DartMap) (n e way bend : ℕ) (new : DartMap) → n ≤ w.darts → e < w.darts → IsTied w → IsSubdivided w e way bend new →
    ((a : ℕ) → a < w.darts → (w.before a ≡ no_dart) ⊎ ((n ≤ w.before a) × (w.before a < w.darts))) →
    (a : ℕ) → a < new.darts → (new.before a ≡ no_dart) ⊎ ((n ≤ new.before a) × (new.before a < new.darts))
split_ends w n e way bend new few e_in tied subdivide ends a l =
    by_place w.darts e (w.reverse_dart e) (λ (a : ℕ). (new.before a ≡ no_dart) ⊎ ((n ≤ new.before a) × (new.before a < new.darts)))
    (inr (omega (arith, subdivide.before_e), omega (arith, subdivide.before_e, subdivide.darts)))
    (inr (omega (arith, subdivide.before_reverse_dart), omega (arith, subdivide.before_reverse_dart, subdivide.darts)))
    (λ a l not_e not_t. as_before a a (subdivide.before_other a l not_e not_t) (ends a l))
    (as_before w.darts e subdivide.before_first (ends e e_in))
    (as_before (w.darts + 1) (w.reverse_dart e) subdivide.before_second (ends (w.reverse_dart e) (tied.reverse_dart_in e e_in)))
    a (omega (arith, subdivide.darts))
  where
    as_before : (a b : ℕ) → new.before a ≡ w.before b → (w.before b ≡ no_dart) ⊎ ((n ≤ w.before b) × (w.before b < w.darts)) →
        (new.before a ≡ no_dart) ⊎ ((n ≤ new.before a) × (new.before a < new.darts))
    as_before a b same (inl none) = inl (same ∙ none)
    as_before a b same (inr inside) = inr (omega (arith, same, inside.0), omega (arith, same, inside.1, subdivide.darts))

-- where the subdivision does not turn, the rest of a path has the turns that it had
pub split_longer : (w : DartMap) (e way : ℕ) (new : DartMap) → IsTied w → e < w.darts → way < 4 → IsSubdivided w e way 2 new →
    (a : ℕ) (rest : List ℕ) → a < w.darts → Below w.darts rest → Follows w a rest → IsLonger w new a rest (path_quarters w a rest)
split_longer w e way new tied e_in quarter subdivide a [] a_in below follows = longer_end w new a
split_longer w e way new tied e_in quarter subdivide a (b ∷ bs) a_in below follows =
    let longer = split_longer w e way new tied e_in quarter subdivide b bs below.0 below.1 follows.2 in
    let keeps = split_keeps w e way 2 new subdivide in
    elim (cases_eq b e) [
      | inl at ↦ longer_doubled w new a b w.darts 0 bs (path_quarters w b bs) keeps a_in follows
          (subst (λ (k : ℕ). IsDoubled w new k w.darts 0) (sym at)
          (split_doubled w e way 2 0 new tied e_in quarter (omega arith) refl subdivide)) longer
      | inr not_e ↦ elim (cases_eq b (w.reverse_dart e)) [
        | inl at ↦ longer_doubled w new a b (w.darts + 1) 0 bs (path_quarters w b bs) keeps a_in follows
            (subst (λ (k : ℕ). IsDoubled w new k (w.darts + 1) 0) (sym at)
            (split_doubled_back w e way 2 0 new tied e_in quarter (omega arith) refl subdivide)) longer
        | inr not_t ↦ longer_kept w new a b bs (path_quarters w b bs) keeps a_in follows
            (split_kept w e way 2 new tied subdivide b below.0 not_e not_t) longer
      ]
    ]

-- a subdivision that does not turn keeps all paths
pub split_paths : (w : DartMap) (e way : ℕ) (new : DartMap) (n : ℕ) (reverse_dart : ℕ → ℕ) (quarters : ℕ → List ℕ) → IsTied w → e < w.darts →
    way < 4 → IsSubdivided w e way 2 new → HasPaths w n reverse_dart quarters → HasPaths new n reverse_dart quarters
split_paths w e way new n reverse_dart quarters tied e_in quarter subdivide has = record {
  few = omega (arith, has.few, subdivide.darts);
  paths = λ d l. path d (reverse_dart d) (quarters d) (has.paths d l);
  ends = split_ends w n e way 2 new has.few e_in tied subdivide has.ends;
}
  where
    path : (d reverse_dart : ℕ) (turns : List ℕ) → HasPath w d reverse_dart turns → HasPath new d reverse_dart turns
    path d reverse_dart turns old =
        let f : ℕ = old.first in
        let longer = longer_turns w new f old.rest (path_quarters w f old.rest) turns old.turns
        (split_longer w e way new tied e_in quarter subdivide f old.rest old.path.first_in old.path.rest_in old.path.follows) in
        elim (cases_eq f e) [
          | inl at ↦ path_doubled w new d reverse_dart f w.darts 0 old.rest turns old.path old.back
              (subst (λ (k : ℕ). IsDoubled w new k w.darts 0) (sym at)
              (split_doubled w e way 2 0 new tied e_in quarter (omega arith) refl subdivide)) longer
          | inr not_e ↦ elim (cases_eq f (w.reverse_dart e)) [
            | inl at ↦ path_doubled w new d reverse_dart f (w.darts + 1) 0 old.rest turns old.path old.back
                (subst (λ (k : ℕ). IsDoubled w new k (w.darts + 1) 0) (sym at)
                (split_doubled_back w e way 2 0 new tied e_in quarter (omega arith) refl subdivide)) longer
            | inr not_t ↦ path_kept w new d reverse_dart f old.rest turns old.path old.back
                (split_kept w e way 2 new tied subdivide f old.path.first_in not_e not_t) longer
          ]
        ]
