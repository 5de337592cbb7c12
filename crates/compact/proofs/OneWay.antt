-- Two darts that leave one vertex leave it in different directions, as the angles there go once round.
use Rattle.std.proofs.Common.{◌≡◌, ℕ, zero, suc, ◌+◌, ◌%◌, ◌<◌, ◌≤◌, ◌∙◌, List, [], ◌∷◌, map, cond, eqb, arith, sym, ap, refl, inl, inr}
use Rattle.std.proofs.lemmas.Bool.{cases_eq, eq-eqb, ne_eqb, cond-true, cond-false}
use Rattle.common.specs.Sums.{sum_below}
use Rattle.common.proofs.Sums.{sum_below-changed}
use Rattle.dissect.specs.DartMaps.{DartMap, IsSound}
use Rattle.dissect.specs.Faces.{In, Distinct, Below}
use Rattle.dissect.specs.Turning.{total}
use Rattle.compact.specs.Monotone.{tail}

-- the summands at some places, none of them twice, come to no more than the sum
some_summands : (n : ℕ) (f : ℕ → ℕ) (xs : List ℕ) → Distinct xs → Below n xs → total (map f xs) ≤ sum_below n f
some_summands n f [] distinct below = omega arith
some_summands n f (x ∷ xs) distinct below =
    let rest : ℕ → ℕ = λ i. cond (eqb i x) 0 (f i) in
    let without : sum_below n rest + f x ≡ sum_below n f + rest x =
    sum_below-changed n x rest f below.0 (λ i i_in other. cond-false (eqb i x) 0 (f i) (ne_eqb i x other)) in
    let none : rest x ≡ 0 = cond-true (eqb x x) 0 (f x) (eq-eqb x x refl) in
    omega (arith, without, none, elsewhere f x xs distinct.0, some_summands n rest xs distinct.1 below.1)
  where
    elsewhere : (f : ℕ → ℕ) (x : ℕ) (xs : List ℕ) → (In x xs → ⊥) → total (map (λ i. cond (eqb i x) 0 (f i)) xs) ≡ total (map f xs)
    elsewhere f x [] out = refl
    elsewhere f x (y ∷ ys) out =
        omega (arith, cond-false (eqb y x) 0 (f y) (ne_eqb y x (λ e. out (inl (sym e)))), elsewhere f x ys (λ here. out (inr here)))

-- the angle of a dart that arrives at the vertex u, and 0 for others
abbrev angle_at : DartMap → ℕ → ℕ → ℕ
angle_at w u a = cond (eqb (w.head a) u) (w.angle a) 0

angle_there : (w : DartMap) (u a : ℕ) → w.head a ≡ u → angle_at w u a ≡ w.angle a
angle_there w u a there = cond-true (eqb (w.head a) u) (w.angle a) 0 (eq-eqb (w.head a) u there)

-- the dart x was passed on the way clockwise to c, at most `most` right angles ago
record IsPassed (w : DartMap) (c most x : ℕ) : Type 0 where
  ago : ℕ
  some : 1 ≤ ago
  few : ago ≤ most
  turned : (w.direction c + ago) % 4 ≡ w.direction x

-- clockwise round the head of b: the darts of the list were passed, b and others with these angles, and c comes next
record IsSweep (w : DartMap) (b c angles : ℕ) (xs : List ℕ) : Type 0 where
  inside : c < w.darts
  there : w.head c ≡ w.head b
  below : Below w.darts xs
  distinct : Distinct xs
  sum : total (map (angle_at w (w.head b)) xs) ≡ angles + w.angle b
  passed : (x : ℕ) → In x xs → IsPassed w c angles x

-- the dart that arrives next clockwise
abbrev clockwise : DartMap → ℕ → ℕ
clockwise w a = w.reverse_dart (w.next a)

clockwise_in : (w : DartMap) (a : ℕ) → IsSound w → a < w.darts → clockwise w a < w.darts
clockwise_in w a sound a_in = sound.tied.reverse_dart_in (w.next a) (sound.tied.next_in a a_in)

-- one dart further
sweep_on : (w : DartMap) (b c angles : ℕ) (xs : List ℕ) → IsSound w → angles < 4 → IsSweep w b c angles xs →
    IsSweep w b (clockwise w c) (angles + w.angle c) (c ∷ xs)
sweep_on w b c angles xs sound less sweep =
    let is = sound.meeting in
    let c_in = sweep.inside in
    let turns = is.turns c c_in in
    let some = is.some c c_in in
    let quarter = is.quarter c c_in in
    record {
      inside = clockwise_in w c sound c_in;
      there = is.meets c c_in ∙ sweep.there;
      below = (c_in, sweep.below);
      distinct = (
        λ here. let back = sweep.passed c here in omega (arith, back.turned, back.some, back.few, less, quarter),
        sweep.distinct,
      );
      sum = omega (arith, sweep.sum, angle_there w (w.head b) c sweep.there);
      passed = λ x here. elim here [
        | inl same ↦ record { ago = w.angle c; some = some; few = omega arith; turned = turns ∙ ap w.direction (sym same) }
        | inr before ↦
            let back = sweep.passed x before in
            record { ago = back.ago + w.angle c; some = omega (arith, some); few = omega (arith, back.few); turned = omega (arith, back.turned, turns) }
      ];
    }

-- the angles at a vertex are four right angles together, and b has one of them
sweep_less : (w : DartMap) (b c angles : ℕ) (xs : List ℕ) → IsSound w → b < w.darts → IsSweep w b c angles xs → angles < 4
sweep_less w b c angles xs sound b_in sweep =
    let is = sound.meeting in
    let most = some_summands w.darts (angle_at w (w.head b)) xs sweep.distinct sweep.below in
    omega (arith, most, sweep.sum, is.whole (w.head b) (is.head_in b b_in), is.some b b_in)

-- so there is no sweep, since it could go on
no_sweep : (w : DartMap) (room b c angles : ℕ) (xs : List ℕ) → IsSound w → b < w.darts → 4 ≤ room + angles → IsSweep w b c angles xs → ⊥
no_sweep w zero b c angles xs sound b_in enough sweep = omega (arith, enough, sweep_less w b c angles xs sound b_in sweep)
no_sweep w (suc room) b c angles xs sound b_in enough sweep =
    no_sweep w room b (clockwise w c) (angles + w.angle c) (c ∷ xs) sound b_in
    (omega (arith, enough, sound.meeting.some c sweep.inside))
    (sweep_on w b c angles xs sound (sweep_less w b c angles xs sound b_in sweep) sweep)

-- darts that arrive at one vertex in one direction are one
one_arrives : (w : DartMap) (a b : ℕ) → IsSound w → a < w.darts → b < w.darts → w.head a ≡ w.head b → w.direction a ≡ w.direction b → a ≡ b
one_arrives w a b sound a_in b_in there way =
    elim (cases_eq a b) [
      | inl same ↦ same
      | inr other ↦
          let is = sound.meeting in
          let u = w.head b in
          let turns = is.turns a a_in in
          let first : IsSweep w b (clockwise w a) (w.angle a) (b ∷ a ∷ []) = record {
            inside = clockwise_in w a sound a_in;
            there = is.meets a a_in ∙ there;
            below = (b_in, (a_in, tt));
            distinct = (λ here. elim here [ inl same ↦ other (sym same) | inr nowhere ↦ nowhere ], ((λ here. here), tt));
            sum = omega (arith, angle_there w u a there, angle_there w u b refl);
            passed = λ x here. record {
              ago = w.angle a;
              some = is.some a a_in;
              few = omega arith;
              turned = elim here [
                | inl same ↦ turns ∙ way ∙ ap w.direction (sym same)
                | inr later ↦ elim later [ inl same ↦ turns ∙ ap w.direction (sym same) | inr nowhere ↦ absurd nowhere ]
              ];
            };
          } in
          absurd (no_sweep w 4 b (clockwise w a) (w.angle a) (b ∷ a ∷ []) sound b_in (omega arith) first)
    ]

-- and so are darts that leave it in one direction, as their reverses arrive in one
pub one_leaves : (w : DartMap) (a b : ℕ) → IsSound w → a < w.darts → b < w.darts → tail w a ≡ tail w b → w.direction a ≡ w.direction b → a ≡ b
one_leaves w a b sound a_in b_in from way =
    let tied = sound.tied in
    let same : w.reverse_dart a ≡ w.reverse_dart b =
    one_arrives w (w.reverse_dart a) (w.reverse_dart b) sound (tied.reverse_dart_in a a_in) (tied.reverse_dart_in b b_in) from
    (sound.straight a a_in ∙ ap (λ (d : ℕ). (d + 2) % 4) way ∙ sym (sound.straight b b_in)) in
    sym (tied.reverse_dart_back a a_in) ∙ ap w.reverse_dart same ∙ tied.reverse_dart_back b b_in
