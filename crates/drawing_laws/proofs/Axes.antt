-- Coordinates that grow along the darts in one direction and stay along those in another.
use Rattle.std.proofs.Common.{◌≡◌, ◌≢◌, ◌⊎◌, ℕ, zero, suc, ◌+◌, ◌-◌, ◌<◌, ◌≤◌, ◌∙◌, cond, ltb, arith, sym, ap, subst, inl, inr, lt-ltb, le-ltb}
use Rattle.std.proofs.lemmas.Bool.{cases_eq, cases_lt, cond-true, cond-false}
use Rattle.dissect.specs.DartMaps.{DartMap}
use Rattle.dissect.specs.Monotone.{tail}
use Rattle.common.specs.Sums.{sum_below}
use Rattle.drawing_laws.specs.Least.{HasNoGap}
use Rattle.drawing_laws.proofs.Raising.{AreLow, IsShort, least_above}
use Rattle.drawing_laws.proofs.Gaps.{Occurs, occurs, no_more}

-- the coordinates of the ends of the first m darts: they grow along darts in direction `ahead`, and stay along those in direction `aside`
pub record Follow (w : DartMap) (ahead aside m : ℕ) (x : ℕ → ℕ) : Type 0 where
  pub grow : (a : ℕ) → a < m → w.direction a ≡ ahead → x (tail w a) < x (w.head a)
  pub stay : (a : ℕ) → a < m → w.direction a ≡ aside → x (tail w a) ≡ x (w.head a)

-- the ends of a dart are vertices
pub record HasEnds (w : DartMap) : Type 0 where
  pub tail_in : (a : ℕ) → a < w.darts → tail w a < w.vertices
  pub head_in : (a : ℕ) → a < w.darts → w.head a < w.vertices

-- the same of one dart
record FollowsAt (w : DartMap) (ahead aside a : ℕ) (x : ℕ → ℕ) : Type 0 where
  grow : w.direction a ≡ ahead → x (tail w a) < x (w.head a)
  stay : w.direction a ≡ aside → x (tail w a) ≡ x (w.head a)

abbrev All-darts : DartMap → ℕ → ℕ → (ℕ → ℕ) → Type 0
All-darts w ahead aside x = Follow w ahead aside w.darts x

at_ahead : (w : DartMap) (ahead aside a : ℕ) (x : ℕ → ℕ) → HasEnds w → ahead ≢ aside → a < w.darts → w.direction a ≡ ahead
    → FollowsAt w ahead aside a x ⊎ IsShort w.vertices (All-darts w ahead aside) x
at_ahead w ahead aside a x ends apart inside goes =
    elim (cases_lt (x (tail w a)) (x (w.head a))) [
      | inl less ↦ inl (record { grow = λ _. less; stay = λ across. absurd (apart (sym goes ∙ across)) })
      | inr not_less ↦ inr (record {
        place = w.head a;
        need = x (tail w a) + 1;
        inside = ends.head_in a inside;
        short = omega (arith, not_less);
        enough = λ y has under. omega (arith, has.grow a inside goes, under (tail w a) (ends.tail_in a inside));
      })
    ]

at_aside : (w : DartMap) (ahead aside a : ℕ) (x : ℕ → ℕ) → HasEnds w → ahead ≢ aside → a < w.darts → w.direction a ≡ aside
    → FollowsAt w ahead aside a x ⊎ IsShort w.vertices (All-darts w ahead aside) x
at_aside w ahead aside a x ends apart inside across =
    elim (cases_lt (x (tail w a)) (x (w.head a))) [
      | inl less ↦ inr (record {
        place = tail w a;
        need = x (w.head a);
        inside = ends.tail_in a inside;
        short = less;
        enough = λ y has under. omega (arith, has.stay a inside across, under (w.head a) (ends.head_in a inside));
      })
      | inr not_less ↦
          elim (cases_lt (x (w.head a)) (x (tail w a))) [
            | inl more ↦ inr (record {
              place = w.head a;
              need = x (tail w a);
              inside = ends.head_in a inside;
              short = more;
              enough = λ y has under. omega (arith, has.stay a inside across, under (tail w a) (ends.tail_in a inside));
            })
            | inr not_more ↦ inl (record { grow = λ goes. absurd (apart (sym goes ∙ across)); stay = λ _. omega (arith, not_less, not_more) })
          ]
    ]

at_dart : (w : DartMap) (ahead aside a : ℕ) (x : ℕ → ℕ) → HasEnds w → ahead ≢ aside → a < w.darts
    → FollowsAt w ahead aside a x ⊎ IsShort w.vertices (All-darts w ahead aside) x
at_dart w ahead aside a x ends apart inside =
    elim (cases_eq (w.direction a) ahead) [
      | inl goes ↦ at_ahead w ahead aside a x ends apart inside goes
      | inr not_ahead ↦
          elim (cases_eq (w.direction a) aside) [
            | inl across ↦ at_aside w ahead aside a x ends apart inside across
            | inr not_aside ↦ inl (record { grow = λ e. absurd (not_ahead e); stay = λ e. absurd (not_aside e) })
          ]
    ]

one_more : (w : DartMap) (ahead aside m : ℕ) (x : ℕ → ℕ) → Follow w ahead aside m x → FollowsAt w ahead aside m x → Follow w ahead aside (suc m) x
one_more w ahead aside m x before last = record {
  grow = λ a inside goes. elim (cases_eq a m) [
    | inl is ↦ subst (λ (k : ℕ). x (tail w k) < x (w.head k)) (sym is) (last.grow (ap w.direction (sym is) ∙ goes))
    | inr other ↦ before.grow a (omega (arith, inside, other)) goes
  ];
  stay = λ a inside across. elim (cases_eq a m) [
    | inl is ↦ subst (λ (k : ℕ). x (tail w k) ≡ x (w.head k)) (sym is) (last.stay (ap w.direction (sym is) ∙ across))
    | inr other ↦ before.stay a (omega (arith, inside, other)) across
  ];
}

-- the first m darts are followed, or some coordinate is short
along : (w : DartMap) (ahead aside m : ℕ) (x : ℕ → ℕ) → HasEnds w → ahead ≢ aside → m ≤ w.darts
    → Follow w ahead aside m x ⊎ IsShort w.vertices (All-darts w ahead aside) x
along w ahead aside zero x ends apart within = inl (record { grow = λ a inside _. absurd (omega (arith, inside)); stay = λ a inside _. absurd (omega (arith, inside)) })
along w ahead aside (suc m) x ends apart within =
    elim (along w ahead aside m x ends apart (omega (arith, within))) [
      | inr short ↦ inr short
      | inl before ↦
          elim (at_dart w ahead aside m x ends apart (omega (arith, within))) [
            | inr short ↦ inr short
            | inl last ↦ inl (one_more w ahead aside m x before last)
          ]
    ]

-- where any coordinates follow the darts, there are least ones
pub least_following : (w : DartMap) (ahead aside : ℕ) (top : ℕ → ℕ) → HasEnds w → ahead ≢ aside → Follow w ahead aside w.darts top
    → (l : ℕ → ℕ) × Follow w ahead aside w.darts l × AreLow w.vertices (λ x. Follow w ahead aside w.darts x) l
least_following w ahead aside top ends apart has =
    least_above w.vertices (sum_below w.vertices top) (All-darts w ahead aside)
    (λ x. along w ahead aside w.darts x ends apart (omega arith)) top has (λ _. 0) (λ y is v inside. omega arith) (omega arith)

-- ---- no gap

-- coordinates above k lowered by one
abbrev lowered : (ℕ → ℕ) → ℕ → ℕ → ℕ
lowered x k v = cond (ltb k (x v)) (x v - 1) (x v)

lowered_above : (x : ℕ → ℕ) (k v : ℕ) → k < x v → lowered x k v ≡ x v - 1
lowered_above x k v above = cond-true (ltb k (x v)) (x v - 1) (x v) (lt-ltb k (x v) above)

lowered_below : (x : ℕ → ℕ) (k v : ℕ) → x v ≤ k → lowered x k v ≡ x v
lowered_below x k v below = cond-false (ltb k (x v)) (x v - 1) (x v) (le-ltb k (x v) below)

-- of two coordinates that are not k the less one stays less
still_less : (x : ℕ → ℕ) (k t h : ℕ) → x t ≢ k → x t < x h → lowered x k t < lowered x k h
still_less x k t h other less =
    elim (cases_lt k (x t)) [
      | inl above ↦ omega (arith, lowered_above x k t above, lowered_above x k h (omega (arith, above, less)), above, less)
      | inr below ↦
          elim (cases_lt k (x h)) [
            | inl above ↦ omega (arith, lowered_below x k t below, lowered_above x k h above, other, below, above)
            | inr below' ↦ omega (arith, lowered_below x k t below, lowered_below x k h below', less)
          ]
    ]

lowered_follow : (w : DartMap) (ahead aside : ℕ) (x : ℕ → ℕ) (k : ℕ) → HasEnds w → Follow w ahead aside w.darts x
    → ((u : ℕ) → u < w.vertices → x u ≢ k) → Follow w ahead aside w.darts (lowered x k)
lowered_follow w ahead aside x k ends has none = record {
  grow = λ a inside goes. still_less x k (tail w a) (w.head a) (none (tail w a) (ends.tail_in a inside)) (has.grow a inside goes);
  stay = λ a inside across. ap (λ (n : ℕ). cond (ltb k n) (n - 1) n) (has.stay a inside across);
}

-- so each coordinate up to that of a vertex is that of some vertex
pub no_gap : (w : DartMap) (ahead aside : ℕ) (x : ℕ → ℕ) → HasEnds w → Follow w ahead aside w.darts x → AreLow w.vertices (λ y. Follow w ahead aside w.darts y) x
    → HasNoGap w.vertices x
no_gap w ahead aside x ends has low v k inside within =
    elim (occurs w.vertices x k) [
      | inl o ↦ (o.place, o.inside, o.is)
      | inr none ↦
          let least = low (lowered x k) (lowered_follow w ahead aside x k ends has none) v inside in
          let above : k < x v = omega (arith, within, none v inside) in
          absurd (let never : ⊥ = omega (arith, least, lowered_above x k v above, above) in never)
    ]

-- so there are no more coordinates up to that of a vertex than vertices
pub few_numbers : (n : ℕ) (x : ℕ → ℕ) → HasNoGap n x → (v : ℕ) → v < n → x v < n
few_numbers n x gapless v inside =
    let each : (k : ℕ) → k < x v + 1 → Occurs n x k = λ k within.
    (let met = gapless v k inside (omega (arith, within)) in record { place = met.0; inside = met.1; is = met.2 }) in
    omega (arith, no_more (x v + 1) n x each)
