-- A subdivision that turns puts the turn at the end of the path of its edge, and the opposite one at the start of the way back.
use Rattle.std.proofs.Common.{◌≡◌, ◌≢◌, ℕ, ◌+◌, ◌-◌, ◌%◌, ◌<◌, ◌≤◌, ◌⊎◌, ◌∙◌, List, [], ◌∷◌, ◌++◌, arith, subst, sym, ap, refl, inl, inr}
use Rattle.std.proofs.lemmas.Bool.{cases_eq}
use Rattle.dissect.specs.DartMaps.{DartMap, no_dart, IsTied, IsSubdivided}
use Rattle.dissect.specs.Faces.{last_of, Below}
use Rattle.dissect.specs.Paths.{Follows, HasPath, HasPaths, turn_to, path_quarters}
use Rattle.dissect.proofs.Lengthening.{
  turn_then,
  turn_then-some,
  turn_then-append,
  IsDoubled,
  IsLonger,
  longer_end,
  longer_kept,
  longer_doubled,
  path_kept,
  path_doubled,
  longer_turns,
  path_turns,
}
use Rattle.dissect.proofs.Splits.{split_keeps, split_kept, split_doubled, split_doubled_back, split_ends}

-- the edge of e turns; e is the last dart of its path, and its reverse the first one of the way back
pub record IsBent (w : DartMap) (e way bend : ℕ) (new : DartMap) : Type 0 where
  pub tied : IsTied w
  pub e_in : e < w.darts
  pub darts_fit : w.darts ≤ no_dart
  pub quarter : way < 4
  pub turn : (bend ≡ 1) ⊎ (bend ≡ 3)
  pub subdivide : IsSubdivided w e way bend new
  pub first : w.before (w.reverse_dart e) ≡ no_dart
  pub last : (b : ℕ) → b < w.darts → w.before b ≢ e

pub bend_doubled : (w : DartMap) (e way bend : ℕ) (new : DartMap) → IsBent w e way bend new → IsDoubled w new e w.darts bend
bend_doubled w e way bend new bent =
    split_doubled w e way bend bend new bent.tied bent.e_in bent.quarter (few bend bent.turn) (is bend bent.turn) bent.subdivide
  where
    few : (bend : ℕ) → (bend ≡ 1) ⊎ (bend ≡ 3) → bend ≤ 4
    few bend (inl left) = omega (arith, left)
    few bend (inr right) = omega (arith, right)

    is : (bend : ℕ) → (bend ≡ 1) ⊎ (bend ≡ 3) → bend ≡ (10 - bend) % 4
    is bend (inl left) = omega (arith, left)
    is bend (inr right) = omega (arith, right)

pub bend_doubled_back : (w : DartMap) (e way bend : ℕ) (new : DartMap) → IsBent w e way bend new →
    IsDoubled w new (w.reverse_dart e) (w.darts + 1) (4 - bend)
bend_doubled_back w e way bend new bent =
    split_doubled_back w e way bend (4 - bend) new bent.tied bent.e_in bent.quarter (few bend bent.turn) (is bend bent.turn) bent.subdivide
  where
    few : (bend : ℕ) → (bend ≡ 1) ⊎ (bend ≡ 3) → bend ≤ 4
    few bend (inl left) = omega (arith, left)
    few bend (inr right) = omega (arith, right)

    is : (bend : ℕ) → (bend ≡ 1) ⊎ (bend ≡ 3) → 4 - bend ≡ (2 + bend) % 4
    is bend (inl left) = omega (arith, left)
    is bend (inr right) = omega (arith, right)

pub bend_turns : (bend : ℕ) (ts : List ℕ) → (bend ≡ 1) ⊎ (bend ≡ 3) → turn_then bend ts ≡ bend ∷ ts
bend_turns bend ts (inl left) = turn_then-some bend ts (λ h. omega (arith, left, h))
bend_turns bend ts (inr right) = turn_then-some bend ts (λ h. omega (arith, right, h))

pub bend_turns_back : (bend : ℕ) (ts : List ℕ) → (bend ≡ 1) ⊎ (bend ≡ 3) → turn_then (4 - bend) ts ≡ (4 - bend) ∷ ts
bend_turns_back bend ts (inl left) = turn_then-some (4 - bend) ts (λ h. omega (arith, left, h))
bend_turns_back bend ts (inr right) = turn_then-some (4 - bend) ts (λ h. omega (arith, right, h))

-- the reverse of e has nothing before it
pub not_first : (w : DartMap) (e way bend : ℕ) (new : DartMap) → IsBent w e way bend new → (a b : ℕ) → a < w.darts → w.before b ≡ a →
    b ≢ w.reverse_dart e
not_first w e way bend new bent a b l before at =
    let none : w.before b ≡ no_dart = ap w.before at ∙ bent.first in
    let darts_fit = bent.darts_fit in
    omega (arith, before, none, l, darts_fit)

-- nothing follows e
pub after_last : (w : DartMap) (e way bend : ℕ) (new : DartMap) → IsBent w e way bend new → (a : ℕ) (rest : List ℕ) → a ≡ e →
    Below w.darts rest → Follows w a rest → rest ≡ []
after_last w e way bend new bent a [] at below follows = refl
after_last w e way bend new bent a (b ∷ bs) at below follows = absurd (bent.last b below.0 (follows.0 ∙ at))

-- the rest of a path that does not end with e
pub other_longer : (w : DartMap) (e way bend : ℕ) (new : DartMap) → IsBent w e way bend new → (a : ℕ) (rest : List ℕ) → a < w.darts →
    Below w.darts rest → Follows w a rest → last_of a rest ≢ e → IsLonger w new a rest (path_quarters w a rest)
other_longer w e way bend new bent a [] a_in below follows other = longer_end w new a
other_longer w e way bend new bent a (b ∷ bs) a_in below follows other =
    let longer = other_longer w e way bend new bent b bs below.0 below.1 follows.2 other in
    let not_e : b ≢ e = λ at. other (ap (last_of b) (after_last w e way bend new bent b bs at below.1 follows.2) ∙ at) in
    let not_t : b ≢ w.reverse_dart e = not_first w e way bend new bent a b a_in follows.0 in
    longer_kept w new a b bs (path_quarters w b bs) (split_keeps w e way bend new bent.subdivide) a_in follows
    (split_kept w e way bend new bent.tied bent.subdivide b below.0 not_e not_t) longer

-- the rest of the path that ends with e
pub last_longer : (w : DartMap) (e way bend : ℕ) (new : DartMap) → IsBent w e way bend new → (a : ℕ) (rest : List ℕ) → a < w.darts →
    Below w.darts rest → Follows w a rest → a ≢ e → last_of a rest ≡ e → IsLonger w new a rest (path_quarters w a rest ++ (bend ∷ []))
last_longer w e way bend new bent a [] a_in below follows not_e last = absurd (not_e last)
last_longer w e way bend new bent a (b ∷ bs) a_in below follows not_e last =
    let keeps = split_keeps w e way bend new bent.subdivide in
    let turn : ℕ = turn_to w a b in
    elim (cases_eq b e) [
      | inl at ↦
          let end : bs ≡ [] = after_last w e way bend new bent b bs at below.1 follows.2 in
          let doubled : IsDoubled w new b w.darts bend =
          subst (λ (k : ℕ). IsDoubled w new k w.darts bend) (sym at) (bend_doubled w e way bend new bent) in
          let longer : IsLonger w new b bs [] = subst (λ (zs : List ℕ). IsLonger w new b zs []) (sym end) (longer_end w new b) in
          let same : turn_then turn (turn_then bend []) ≡ path_quarters w a (b ∷ bs) ++ (bend ∷ []) =
          ap (turn_then turn) (bend_turns bend [] bent.turn)
          ∙ turn_then-append turn [] (bend ∷ [])
          ∙ ap (λ (zs : List ℕ). turn_then turn (path_quarters w b zs) ++ (bend ∷ [])) (sym end) in
          longer_turns w new a (b ∷ bs) (turn_then turn (turn_then bend [])) (path_quarters w a (b ∷ bs) ++ (bend ∷ [])) same
          (longer_doubled w new a b w.darts bend bs [] keeps a_in follows doubled longer)
      | inr other ↦
          let longer = last_longer w e way bend new bent b bs below.0 below.1 follows.2 other last in
          let not_t : b ≢ w.reverse_dart e = not_first w e way bend new bent a b a_in follows.0 in
          longer_turns w new a (b ∷ bs) (turn_then turn (path_quarters w b bs ++ (bend ∷ []))) (path_quarters w a (b ∷ bs) ++ (bend ∷ []))
          (turn_then-append turn (path_quarters w b bs) (bend ∷ []))
          (longer_kept w new a b bs (path_quarters w b bs ++ (bend ∷ [])) keeps a_in follows
          (split_kept w e way bend new bent.tied bent.subdivide b below.0 other not_t) longer)
    ]

-- the path of e
pub bend_path : (w : DartMap) (e way bend : ℕ) (new : DartMap) → IsBent w e way bend new → (reverse_dart : ℕ) (turns : List ℕ) → reverse_dart ≢ e →
    HasPath w e reverse_dart turns → HasPath new e reverse_dart (turns ++ (bend ∷ []))
bend_path w e way bend new bent reverse_dart turns apart old =
    let f : ℕ = old.first in
    elim (cases_eq f e) [
      | inl at ↦
          let end : old.rest ≡ [] =
          after_last w e way bend new bent f old.rest at old.path.rest_in old.path.follows in
          let doubled : IsDoubled w new f w.darts bend =
          subst (λ (k : ℕ). IsDoubled w new k w.darts bend) (sym at) (bend_doubled w e way bend new bent) in
          let longer : IsLonger w new f old.rest [] =
          subst (λ (zs : List ℕ). IsLonger w new f zs []) (sym end) (longer_end w new f) in
          let none : [] ≡ turns = ap (path_quarters w f) (sym end) ∙ old.turns in
          path_turns new e reverse_dart (turn_then bend []) (turns ++ (bend ∷ []))
          (bend_turns bend [] bent.turn ∙ ap (λ (ts : List ℕ). ts ++ (bend ∷ [])) none)
          (path_doubled w new e reverse_dart f w.darts bend old.rest [] old.path old.back doubled longer)
      | inr not_e ↦
          let not_t : f ≢ w.reverse_dart e = λ at. apart (sym old.back ∙ ap w.reverse_dart at ∙ bent.tied.reverse_dart_back e bent.e_in) in
          path_kept w new e reverse_dart f old.rest (turns ++ (bend ∷ [])) old.path old.back
          (split_kept w e way bend new bent.tied bent.subdivide f old.path.first_in not_e not_t)
          (longer_turns w new f old.rest (path_quarters w f old.rest ++ (bend ∷ [])) (turns ++ (bend ∷ []))
          (ap (λ (ts : List ℕ). ts ++ (bend ∷ [])) old.turns)
          (last_longer w e way bend new bent f old.rest old.path.first_in old.path.rest_in old.path.follows not_e old.path.ends))
    ]

-- the path that sets out with its reverse
pub bend_path_back : (w : DartMap) (e way bend : ℕ) (new : DartMap) → IsBent w e way bend new → (d : ℕ) (turns : List ℕ) → d ≢ e →
    HasPath w d e turns → HasPath new d e ((4 - bend) ∷ turns)
bend_path_back w e way bend new bent d turns apart old =
    let f : ℕ = old.first in
    let at : f ≡ w.reverse_dart e = sym (bent.tied.reverse_dart_back f old.path.first_in) ∙ ap w.reverse_dart old.back in
    let doubled : IsDoubled w new f (w.darts + 1) (4 - bend) =
    subst (λ (k : ℕ). IsDoubled w new k (w.darts + 1) (4 - bend)) (sym at) (bend_doubled_back w e way bend new bent) in
    path_turns new d e (turn_then (4 - bend) turns) ((4 - bend) ∷ turns) (bend_turns_back bend turns bent.turn)
    (path_doubled w new d e f (w.darts + 1) (4 - bend) old.rest turns old.path old.back doubled
    (longer_turns w new f old.rest (path_quarters w f old.rest) turns old.turns
    (other_longer w e way bend new bent f old.rest old.path.first_in old.path.rest_in old.path.follows
    (λ h. apart (sym old.path.ends ∙ h)))))

-- the other paths
pub bend_path_other : (w : DartMap) (e way bend : ℕ) (new : DartMap) → IsBent w e way bend new → (d reverse_dart : ℕ) (turns : List ℕ) → d ≢ e →
    reverse_dart ≢ e → HasPath w d reverse_dart turns → HasPath new d reverse_dart turns
bend_path_other w e way bend new bent d reverse_dart turns apart reverse_dart_apart old =
    let f : ℕ = old.first in
    let not_e : f ≢ e = λ at.
    apart (sym old.path.ends ∙ ap (last_of f) (after_last w e way bend new bent f old.rest at old.path.rest_in old.path.follows) ∙ at) in
    let not_t : f ≢ w.reverse_dart e = λ at. reverse_dart_apart (sym old.back ∙ ap w.reverse_dart at ∙ bent.tied.reverse_dart_back e bent.e_in) in
    path_kept w new d reverse_dart f old.rest turns old.path old.back
    (split_kept w e way bend new bent.tied bent.subdivide f old.path.first_in not_e not_t)
    (longer_turns w new f old.rest (path_quarters w f old.rest) turns old.turns
    (other_longer w e way bend new bent f old.rest old.path.first_in old.path.rest_in old.path.follows
    (λ h. apart (sym old.path.ends ∙ h))))

-- the paths after a turn in the edge of e
pub bend_paths : (w : DartMap) (e way bend : ℕ) (new : DartMap) (n : ℕ) (reverse_dart : ℕ → ℕ) (quarters quarters' : ℕ → List ℕ) →
    IsTied w → e < n → w.darts ≤ no_dart → way < 4 → (bend ≡ 1) ⊎ (bend ≡ 3) → IsSubdivided w e way bend new →
    ((d : ℕ) → d < n → reverse_dart d < n) → ((d : ℕ) → d < n → reverse_dart (reverse_dart d) ≡ d) → reverse_dart e ≢ e →
    quarters' e ≡ quarters e ++ (bend ∷ []) → quarters' (reverse_dart e) ≡ (4 - bend) ∷ quarters (reverse_dart e) →
    ((d : ℕ) → d < n → d ≢ e → d ≢ reverse_dart e → quarters' d ≡ quarters d) →
    HasPaths w n reverse_dart quarters → HasPaths new n reverse_dart quarters'
bend_paths w e way bend new n reverse_dart quarters quarters' tied e_in darts_fit quarter turn subdivide reverse_dart_in reverse_dart_back apart at_e at_reverse_dart at_other has =
    let e_old : e < w.darts = omega (arith, e_in, has.few) in
    let back : HasPath w (reverse_dart e) (reverse_dart (reverse_dart e)) (quarters (reverse_dart e)) = has.paths (reverse_dart e) (reverse_dart_in e e_in) in
    let start : back.first ≡ w.reverse_dart e =
    sym (tied.reverse_dart_back back.first back.path.first_in) ∙ ap w.reverse_dart (back.back ∙ reverse_dart_back e e_in) in
    let bent : IsBent w e way bend new = record {
      tied = tied;
      e_in = e_old;
      darts_fit = darts_fit;
      quarter = quarter;
      turn = turn;
      subdivide = subdivide;
      first = ap w.before (sym start) ∙ back.path.start;
      last = λ b l at. last b at (has.ends b l);
    } in
    record {
      few = omega (arith, has.few, subdivide.darts);
      paths = λ d l. elim (cases_eq d e) [
        | inl at ↦ subst (λ (k : ℕ). HasPath new k (reverse_dart k) (quarters' k)) (sym at)
            (path_turns new e (reverse_dart e) (quarters e ++ (bend ∷ [])) (quarters' e) (sym at_e)
            (bend_path w e way bend new bent (reverse_dart e) (quarters e) apart (has.paths e e_in)))
        | inr not_e ↦ elim (cases_eq d (reverse_dart e)) [
          | inl at ↦ subst (λ (k : ℕ). HasPath new k (reverse_dart k) (quarters' k)) (sym at)
              (subst (λ (k : ℕ). HasPath new (reverse_dart e) k (quarters' (reverse_dart e))) (sym (reverse_dart_back e e_in))
              (path_turns new (reverse_dart e) e ((4 - bend) ∷ quarters (reverse_dart e)) (quarters' (reverse_dart e)) (sym at_reverse_dart)
              (bend_path_back w e way bend new bent (reverse_dart e) (quarters (reverse_dart e)) apart
              (subst (λ (k : ℕ). HasPath w (reverse_dart e) k (quarters (reverse_dart e))) (reverse_dart_back e e_in) back))))
          | inr not_reverse_dart ↦ path_turns new d (reverse_dart d) (quarters d) (quarters' d) (sym (at_other d l not_e not_reverse_dart))
              (bend_path_other w e way bend new bent d (reverse_dart d) (quarters d) not_e
              (λ h. not_reverse_dart (sym (reverse_dart_back d l) ∙ ap reverse_dart h)) (has.paths d l))
        ]
      ];
      ends = split_ends w n e way bend new has.few e_old tied subdivide has.ends;
    }
  where
    last : (b : ℕ) → w.before b ≡ e → (w.before b ≡ no_dart) ⊎ ((n ≤ w.before b) × (w.before b < w.darts)) → ⊥
    last b at (inl none) = omega (arith, at, none, e_in, darts_fit, has.few)
    last b at (inr inside) = omega (arith, at, inside.0, e_in)
