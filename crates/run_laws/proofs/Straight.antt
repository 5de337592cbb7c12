-- Straight chains of darts, in numbers that are in the order of the darts.
use Rattle.std.proofs.Common.{◌≡◌, ℕ, zero, suc, ◌+◌, ◌%◌, ◌<◌, ◌≤◌, ◌⊎◌, ◌∙◌, List, [], ◌∷◌, arith, subst, sym, ap, refl, inl, inr, eqb}
use Rattle.std.proofs.lemmas.Bool.{cases_eq, eq-eqb, ne_eqb, cond-true, cond-false}
use Rattle.dissect.specs.DartMaps.{DartMap, IsSound, no_dart}
use Rattle.dissect.specs.Faces.{last_of, Below, In}
use Rattle.dissect.specs.Paths.{Follows, HasPath, turn_to, path_quarters}
use Rattle.dissect.proofs.StraightPaths.{straight_on}
use Rattle.dissect.proofs.Backwards.{path_unique}
use Rattle.dissect.specs.Monotone.{IsMonotone, tail}
use Rattle.dissect.specs.Rectangle.{IsInsideChain}

-- the vertex v lies from u in the direction k, straight
abbrev pub Goes : ℕ → (ℕ → ℕ) → (ℕ → ℕ) → ℕ → ℕ → Type 0
Goes zero x y u v = (x u < x v) × (y u ≡ y v)
Goes (suc zero) x y u v = (y u < y v) × (x u ≡ x v)
Goes (suc (suc zero)) x y u v = (x v < x u) × (y u ≡ y v)
Goes (suc (suc (suc k))) x y u v = (y v < y u) × (x u ≡ x v)

goes_on : (k : ℕ) (x y : ℕ → ℕ) (u v t : ℕ) → Goes k x y u v → Goes k x y v t → Goes k x y u t
goes_on zero x y u v t one two = (omega (arith, one.0, two.0), one.1 ∙ two.1)
goes_on (suc zero) x y u v t one two = (omega (arith, one.0, two.0), one.1 ∙ two.1)
goes_on (suc (suc zero)) x y u v t one two = (omega (arith, one.0, two.0), one.1 ∙ two.1)
goes_on (suc (suc (suc k))) x y u v t one two = (omega (arith, one.0, two.0), one.1 ∙ two.1)

module _ (w : DartMap) (x y : ℕ → ℕ) (sound : IsSound w) (monotone : IsMonotone w x y) where
  reverse_way : (a : ℕ) → a < w.darts → (k m : ℕ) → w.direction a ≡ k → (k + 2) % 4 ≡ m → w.direction (w.reverse_dart a) ≡ m
  reverse_way a a_in k m way is = sound.straight a a_in ∙ ap (λ (d : ℕ). (d + 2) % 4) way ∙ is

  tail_back : (a : ℕ) → a < w.darts → tail w (w.reverse_dart a) ≡ w.head a
  tail_back a a_in = ap w.head (sound.tied.reverse_dart_back a a_in)

  -- a dart goes in its direction
  dart_goes : (k a : ℕ) → a < w.darts → w.direction a ≡ k → k < 4 → Goes k x y (tail w a) (w.head a)
  dart_goes zero a a_in way few = monotone.east a a_in way
  dart_goes (suc zero) a a_in way few = monotone.north a a_in way
  dart_goes (suc (suc zero)) a a_in way few =
      let back = monotone.east (w.reverse_dart a) (sound.tied.reverse_dart_in a a_in) (reverse_way a a_in 2 0 way refl) in
      (omega (arith, back.0, ap x (tail_back a a_in)), omega (arith, back.1, ap y (tail_back a a_in)))
  dart_goes (suc (suc (suc zero))) a a_in way few =
      let back = monotone.north (w.reverse_dart a) (sound.tied.reverse_dart_in a a_in) (reverse_way a a_in 3 1 way refl) in
      (omega (arith, back.0, ap y (tail_back a a_in)), omega (arith, back.1, ap x (tail_back a a_in)))
  dart_goes (suc (suc (suc (suc k)))) a a_in way few = absurd (omega (arith, few))

  -- where the walk from a to b does not turn, and goes on without a turn
  no_turn : (a b : ℕ) (bs : List ℕ) → path_quarters w a (b ∷ bs) ≡ [] → (turn_to w a b ≡ 0) × (path_quarters w b bs ≡ [])
  no_turn a b bs straight =
      let t : ℕ = turn_to w a b in
      elim (cases_eq t 0) [
        | inl none ↦ (none, sym (cond-true {A = List ℕ} (eqb t 0) (path_quarters w b bs) (t ∷ path_quarters w b bs) (eq-eqb t 0 none)) ∙ straight)
        | inr some ↦
            let first : t ∷ path_quarters w b bs ≡ [] =
            sym (cond-false {A = List ℕ} (eqb t 0) (path_quarters w b bs) (t ∷ path_quarters w b bs) (ne_eqb t 0 some)) ∙ straight in
            absurd (cc first)
      ]

  on_way : (k a b : ℕ) → a < w.darts → b < w.darts → turn_to w a b ≡ 0 → w.direction a ≡ k → w.direction b ≡ k
  on_way k a b a_in b_in none way =
      straight_on w a b sound.straight (sound.meeting.quarter a a_in) (sound.meeting.quarter b b_in) b_in none ∙ way

  -- a chain goes in the direction of its first dart, and its last dart has that direction too
  chain_goes : (k a : ℕ) (rest : List ℕ) → a < w.darts → Below w.darts rest → Follows w a rest → path_quarters w a rest ≡ [] → w.direction a ≡ k → k < 4
      → (w.direction (last_of a rest) ≡ k) × Goes k x y (tail w a) (w.head (last_of a rest))
  chain_goes k a [] a_in below follows straight way few = (way, dart_goes k a a_in way few)
  chain_goes k a (b ∷ bs) a_in below follows straight way few =
      let (none, further) = no_turn a b bs straight in
      let (end, goes) = chain_goes k b bs below.0 below.1 follows.2 further (on_way k a b a_in below.0 none way) few in (
        end,
        goes_on k x y (tail w a) (w.head a) (w.head (last_of b bs)) (dart_goes k a a_in way few)
            (subst (λ (v : ℕ). Goes k x y v (w.head (last_of b bs))) follows.1 goes),
      )

  -- a place before its end lies between
  chain_passes : (k a z : ℕ) (rest : List ℕ) → a < w.darts → Below w.darts rest → Follows w a rest → path_quarters w a rest ≡ [] → w.direction a ≡ k → k < 4
      → In z (a ∷ rest) → (z ≡ last_of a rest) ⊎ (Goes k x y (tail w a) (w.head z) × Goes k x y (w.head z) (w.head (last_of a rest)))
  chain_passes k a z [] a_in below follows straight way few here = elim here [ inl at ↦ inl at | inr none ↦ absurd none ]
  chain_passes k a z (b ∷ bs) a_in below follows straight way few (inl at) =
      let (none, further) = no_turn a b bs straight in
      let first = dart_goes k a a_in way few in
      let goes = (chain_goes k b bs below.0 below.1 follows.2 further (on_way k a b a_in below.0 none way) few).1 in
      let from : tail w b ≡ w.head z = follows.1 ∙ ap w.head (sym at) in
      inr (
        subst (λ (v : ℕ). Goes k x y (tail w a) v) (ap w.head (sym at)) first,
        subst (λ (v : ℕ). Goes k x y v (w.head (last_of b bs))) from goes,
      )
  chain_passes k a z (b ∷ bs) a_in below follows straight way few (inr there) =
      let (none, further) = no_turn a b bs straight in
      elim (chain_passes k b z bs below.0 below.1 follows.2 further (on_way k a b a_in below.0 none way) few there) [
        | inl last ↦ inl last
        | inr (to, on) ↦ inr (
          goes_on k x y (tail w a) (w.head a) (w.head z) (dart_goes k a a_in way few)
              (subst (λ (v : ℕ). Goes k x y v (w.head z)) follows.1 to),
          on,
        )
      ]

  -- the direction of the first dart of a straight path is that of its end
  first_way : (k end back : ℕ) (chain : HasPath w end back []) → w.direction end ≡ k → w.direction chain.first ≡ k
  first_way k end back chain way =
      sym ((chain_goes (w.direction chain.first) chain.first chain.rest chain.path.first_in chain.path.rest_in chain.path.follows chain.turns refl
      (sound.meeting.quarter chain.first chain.path.first_in)).0)
      ∙ ap w.direction chain.path.ends ∙ way

  -- a straight path goes from where its way back ends to where it ends
  pub path_goes : (k end back : ℕ) → HasPath w end back [] → w.direction end ≡ k → k < 4 → Goes k x y (w.head back) (w.head end)
  path_goes k end back chain way few =
      subst (λ (v : ℕ). Goes k x y v (w.head end)) (ap w.head chain.back)
      (subst (λ (e : ℕ). Goes k x y (tail w chain.first) (w.head e)) chain.path.ends
      (chain_goes k chain.first chain.rest chain.path.first_in chain.path.rest_in chain.path.follows chain.turns (first_way k end back chain way) few).1)

  -- and a place on it lies between them
  pub path_passes : (k end back at : ℕ) → w.darts ≤ no_dart → HasPath w end back [] → w.direction end ≡ k → k < 4 → IsInsideChain w end at
      → Goes k x y (w.head back) (w.head at) × Goes k x y (w.head at) (w.head end)
  path_passes k end back at darts_fit chain way few place =
      let same = path_unique w end place.first chain.first place.rest chain.rest darts_fit place.path chain.path in
      let on : In at (chain.first ∷ chain.rest) =
      subst (λ (xs : List ℕ). In at (chain.first ∷ xs)) same.rests (subst (λ (c : ℕ). In at (c ∷ place.rest)) same.first place.passes) in
      elim (chain_passes k chain.first at chain.rest chain.path.first_in chain.path.rest_in chain.path.follows chain.turns (first_way k end back chain way) few on) [
        | inl last ↦ absurd (place.before_end (last ∙ chain.path.ends))
        | inr (to, from) ↦ (
          subst (λ (v : ℕ). Goes k x y v (w.head at)) (ap w.head chain.back) to,
          subst (λ (e : ℕ). Goes k x y (w.head at) (w.head e)) chain.path.ends from,
        )
      ]
