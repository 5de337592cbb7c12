-- Strong duality: a representation has prices that prove it, or there is one with fewer bends. The prices begin at 0; for one
-- dart after the other that turns left the price across is raised, with all that has no slack, until it is one more than that
-- of the dart's face. If a unit can move on to that face, it can move round and save a bend.
use Rattle.std.proofs.Common.{◌≡◌, ◌≤◌, ◌<◌, ◌⊎◌, ℕ, zero, suc, ◌+◌, ◌-◌, Bool, true, false, cond, eqb, List, map, inl, inr, refl, sym, ap, ◌∙◌, subst, arith}
use Rattle.std.specs.List.{range_with_len}
use Rattle.std.proofs.lemmas.List.FromFn.{length-map-range_with_len, get_or-map-range_with_len}
use Rattle.std.specs.Prelude.{ℤ, pos, ◌-ℤ◌}
use Rattle.std.proofs.lemmas.Bool.{cases_eq, cases_lt, cases_Bool, ne_eqb, both_ways, cond-true, cond-false}
use Rattle.std.proofs.lemmas.Int.{ints}
use Rattle.common.specs.Sums.{sum_below}
use Rattle.common.proofs.Sums.{sum_below-same}
use Rattle.ortho_rep.specs.declared.turn_strings.Turn.{Turn}
use Rattle.faces.specs.Planes.{PlaneModel, IsPlane, HasEnds, darts, vertices, head, reverse_dart, face_at}
use Rattle.faces.proofs.Ends.{plane_ends}
use Rattle.ortho_rep.specs.Turns.{lefts, rights}
use Rattle.ortho_rep.specs.OfFlow.{lefts_then_rights}
use Rattle.ortho_rep.specs.Shapes.{ShapeModel, angle_at, turns_at}
use Rattle.ortho_rep.specs.Representation.{Rep, Least, IsShape, IsLeast, bends_of}
use Rattle.ortho_rep.specs.Prices.{PricesModel, Prove, IsProof, vertex_price, face_price}
use Rattle.ortho_rep.proofs.Priced.{plain_priced}
use Rattle.ortho_rep.proofs.SameAtDarts.{prove-alike}
use Rattle.ortho_rep.proofs.FlowStrings.{lefts-lefts_then_rights, rights-lefts_then_rights, mirrored-lefts_then_rights}
use Rattle.ortho_rep.proofs.WeakDuality.{part_at, left_sums, right_sums, turning-split, lefts_of, rights_are, lengths-twice, least_by_prices}
use Rattle.drawing_laws.proofs.Moving.{corner_at, across_at, one_at, left_sum_at, right_sum_at, put, put-here, put-other, left_sum-lefts, right_sum-lefts, total-lefts, Moved}
use Rattle.drawing_laws.proofs.Reaching.{IsClosed, reach}

-- ---- a representation with fewer bends

-- each dart turns left l d times, and then right as often as its reverse turns left
abbrev strings : PlaneModel → (ℕ → ℕ) → ℕ → List Turn
strings p l d = lefts_then_rights (l d) (l (reverse_dart p d))

-- angles and left turns by which vertices and faces have what they had
other_rep : (p : PlaneModel) (a : ℕ → ℕ) (s : ℕ → List Turn) (b l : ℕ → ℕ) → HasEnds p → Rep p a s → ((d : ℕ) → d < darts p → (1 ≤ b d) × (b d ≤ 4))
    → ((v : ℕ) → 1 ≤ v → v ≤ vertices p → part_at (darts p) (head p) b v ≡ part_at (darts p) (head p) a v)
    → ((f : ℕ) → f < p.faces → left_sum_at p l f + right_sum_at p a (lefts_of s) f ≡ left_sum_at p (lefts_of s) f + right_sum_at p b l f)
    → Rep p b (strings p l)
other_rep p a s b l ends rep sizes around faces = record {
  angles = sizes;
  strings = λ d in_d.
      ap (lefts_then_rights (l (reverse_dart p d))) (ap l (ends.reverse_dart_back d in_d))
      ∙ sym (mirrored-lefts_then_rights (l d) (l (reverse_dart p d)));
  around = λ v from to. around v from to ∙ rep.around v from to;
  faces = λ f in_f.
      let left_sum : left_sums p b (strings p l) f ≡ left_sum_at p l f =
      sum_below-same (darts p) (λ d. cond (eqb (face_at p d) f) (2 + lefts (strings p l d)) 0) (λ d. cond (eqb (face_at p d) f) (2 + l d) 0)
      (λ d in_d. ap (λ (x : ℕ). cond (eqb (face_at p d) f) (2 + x) 0) (lefts-lefts_then_rights (l d) (l (reverse_dart p d)))) in
      let right_sum : right_sums p b (strings p l) f ≡ right_sum_at p b l f =
      sum_below-same (darts p) (λ d. cond (eqb (face_at p d) f) (b d + rights (strings p l d)) 0) (λ d. cond (eqb (face_at p d) f) (b d + l (reverse_dart p d)) 0)
      (λ d in_d. ap (λ (x : ℕ). cond (eqb (face_at p d) f) (b d + x) 0) (rights-lefts_then_rights (l d) (l (reverse_dart p d)))) in
      let old : right_sums p a s f ≡ right_sum_at p a (lefts_of s) f =
      sum_below-same (darts p) (λ d. cond (eqb (face_at p d) f) (a d + rights (s d)) 0) (λ d. cond (eqb (face_at p d) f) (a d + lefts_of s (reverse_dart p d)) 0)
      (λ d in_d. ap (λ (x : ℕ). cond (eqb (face_at p d) f) (a d + x) 0) (rights_are p a s rep d in_d)) in
      turning-split p b (strings p l) f
      ∙ same_turn (left_sums p b (strings p l) f) (right_sums p b (strings p l) f) (left_sums p a s f) (right_sums p a s f) (omega (arith, left_sum, right_sum, old, faces f in_f))
      ∙ sym (turning-split p a s f)
      ∙ rep.faces f in_f;
}
  where
    same_turn : (g r g' r' : ℕ) → g + r' ≡ g' + r → (pos g -ℤ pos r) ≡ (pos g' -ℤ pos r')
    same_turn g r g' r' e = omega (arith, ints)

-- some representation has fewer bends
abbrev pub Better : PlaneModel → (ℕ → List Turn) → Type 0
Better p s = (b : ℕ → ℕ) × (t : ℕ → List Turn) × (Rep p b t) × (bends_of (darts p) t < bends_of (darts p) s)

-- one with fewer left turns
better : (p : PlaneModel) (a : ℕ → ℕ) (s : ℕ → List Turn) (b l : ℕ → ℕ) → HasEnds p → Rep p a s → Rep p b (strings p l) → sum_below (darts p) l < sum_below (darts p) (lefts_of s) → Better p s
better p a s b l ends rep other less =
    let lefts_are : sum_below (darts p) (lefts_of (strings p l)) ≡ sum_below (darts p) l =
    sum_below-same (darts p) (lefts_of (strings p l)) l (λ d in_d. lefts-lefts_then_rights (l d) (l (reverse_dart p d))) in
    (b, strings p l, other, omega (arith, less, lengths-twice p a s ends rep, lengths-twice p b (strings p l) ends other, lefts_are))

-- a unit that has come to the face of dart k from the face across, where that is no dearer, saves a bend
way_round : (p : PlaneModel) (a : ℕ → ℕ) (s : ℕ → List Turn) (y : ℕ → ℕ) (k : ℕ) (reached : ℕ → Bool) → HasEnds p → Rep p a s → k < darts p
    → 0 < lefts_of s k → y (across_at p k) ≤ y (face_at p k) → Moved p a (lefts_of s) y k reached (face_at p k) → Better p s
way_round p a s y k reached ends rep inside some cheap m =
    let new : ℕ → ℕ = put m.lefts k (m.lefts k - 1) in
    let here : m.lefts k ≡ new k + 1 = omega (arith, put-here m.lefts k (m.lefts k - 1), m.kept, some) in
    let others : (e : ℕ) → e < darts p → (e ≡ k → ⊥) → new e ≡ m.lefts e = λ e b ne. put-other m.lefts k (m.lefts k - 1) e ne in
    let below : face_at p k < p.faces = ends.face_named k inside in
    let other : Rep p m.angles (strings p new) =
    other_rep p a s m.angles new ends rep m.sizes
    (λ v from to. omega (arith, m.around v, apart (face_at p k) (p.faces + v) (omega arith)))
    (λ f b. omega (arith, left_sum-lefts p new m.lefts k inside others here f, right_sum-lefts p m.angles new m.lefts k ends inside others here f, m.faces f b)) in
    better p a s m.angles new ends rep other (omega (arith, total-lefts p new m.lefts k inside others here, m.total, cheap))
  where
    apart : (w u : ℕ) → w < u → one_at w u ≡ 0
    apart w u h = cond-false {A = ℕ} (eqb w u) 1 0 (ne_eqb w u (λ e. omega arith))

-- ---- prices

-- prices of faces and vertices that fit angles and crossings, and the left turns of the darts before dart k
pub record ArePrices (p : PlaneModel) (a l y : ℕ → ℕ) (k : ℕ) : Type 0 where
  pub wider : (d : ℕ) → d < darts p → a d < 4 → y (face_at p d) ≤ y (corner_at p d)
  pub narrower : (d : ℕ) → d < darts p → 1 < a d → y (corner_at p d) ≤ y (face_at p d)
  pub crossed : (d : ℕ) → d < darts p → y (across_at p d) ≤ y (face_at p d) + 1
  pub tight : (d : ℕ) → d < darts p → d < k → 0 < l d → y (face_at p d) + 1 ≤ y (across_at p d)

-- the nodes of the set are dearer by one
abbrev raised : (ℕ → ℕ) → (ℕ → Bool) → ℕ → ℕ
raised y reached x = y x + cond (reached x) 1 0

-- where all of a closed set is raised the prices still fit
raise : (p : PlaneModel) (a l y : ℕ → ℕ) (k : ℕ) (reached : ℕ → Bool) → ArePrices p a l y k → IsClosed p a l y k reached → ArePrices p a l (raised y reached) k
raise p a l y k reached prices closed = record {
  wider = λ d b room. up_le (y (face_at p d)) (y (corner_at p d)) (reached (face_at p d)) (reached (corner_at p d)) (prices.wider d b room) (closed.wide d b room);
  narrower = λ d b some. up_le (y (corner_at p d)) (y (face_at p d)) (reached (corner_at p d)) (reached (face_at p d)) (prices.narrower d b some) (λ e. closed.narrow d b some (sym e));
  crossed = λ d b. up_near (y (across_at p d)) (y (face_at p d)) (reached (across_at p d)) (reached (face_at p d)) (prices.crossed d b) (closed.bent d b);
  tight = λ d b before some. up_tight (y (face_at p d)) (y (across_at p d)) (reached (face_at p d)) (reached (across_at p d)) (prices.tight d b before some) (λ e. closed.straight d b before some (sym e));
}
  where
    up_le : (x z : ℕ) (c e : Bool) → x ≤ z → (x ≡ z → c ≡ true → e ≡ true) → x + cond c 1 0 ≤ z + cond e 1 0
    up_le x z false e h k = omega (arith, h)
    up_le x z true true h k = omega (arith, h)
    up_le x z true false h k = elim (cases_eq x z) [ inl q ↦ absurd (both_ways false refl (k q refl)) | inr ne ↦ omega (arith, h) ]

    up_near : (x z : ℕ) (c e : Bool) → x ≤ z + 1 → (x ≡ z + 1 → c ≡ true → e ≡ true) → x + cond c 1 0 ≤ z + cond e 1 0 + 1
    up_near x z c e h k = omega (arith, up_le x (z + 1) c e h k)

    up_tight : (x z : ℕ) (c e : Bool) → x + 1 ≤ z → (x + 1 ≡ z → c ≡ true → e ≡ true) → x + cond c 1 0 + 1 ≤ z + cond e 1 0
    up_tight x z c e h k = omega (arith, up_le (x + 1) z c e h k)

-- of the next dart too
next_fits : (p : PlaneModel) (a l y : ℕ → ℕ) (k : ℕ) → ArePrices p a l y k → (0 < l k → y (face_at p k) + 1 ≤ y (across_at p k)) → ArePrices p a l y (k + 1)
next_fits p a l y k prices here = record {
  wider = prices.wider;
  narrower = prices.narrower;
  crossed = prices.crossed;
  tight = λ d b before some. elim (cases_eq d k) [
    | inl e ↦ subst (λ (i : ℕ). 0 < l i → y (face_at p i) + 1 ≤ y (across_at p i)) (sym e) here some
    | inr ne ↦ prices.tight d b (omega arith) some
  ];
}

-- the face across dart k is raised until it is dear enough, or there is a better representation
lift : (p : PlaneModel) (a : ℕ → ℕ) (s : ℕ → List Turn) (k : ℕ) → HasEnds p → Rep p a s → k < darts p → (fuel : ℕ) (y : ℕ → ℕ) → ArePrices p a (lefts_of s) y k
    → y (face_at p k) + 1 ≤ y (across_at p k) + fuel → Better p s ⊎ ((z : ℕ → ℕ) × ArePrices p a (lefts_of s) z (k + 1))
lift p a s k ends rep inside zero y prices near = inr (y, next_fits p a (lefts_of s) y k prices (λ some. omega arith))
lift p a s k ends rep inside (suc fuel) y prices near =
    elim (cases_eq (lefts_of s k) 0) [
      | inl none ↦ inr (y, next_fits p a (lefts_of s) y k prices (λ some. omega arith))
      | inr some ↦ elim (cases_lt (y (face_at p k)) (y (across_at p k))) [
        | inl dear ↦ inr (y, next_fits p a (lefts_of s) y k prices (λ more. omega arith))
        | inr cheap ↦
            let r = reach p a (lefts_of s) y k ends inside rep.angles in
            elim (cases_Bool (r.reached (face_at p k))) [
              | inl there ↦ inl (way_round p a s y k r.reached ends rep inside (omega arith) cheap (r.moved (face_at p k) there))
              | inr away ↦
                  let face : raised y r.reached (face_at p k) ≡ y (face_at p k) = omega (arith, cond-false {A = ℕ} (r.reached (face_at p k)) 1 0 away) in
                  let across : raised y r.reached (across_at p k) ≡ y (across_at p k) + 1 = omega (arith, cond-true {A = ℕ} (r.reached (across_at p k)) 1 0 r.start) in
                  lift p a s k ends rep inside fuel (raised y r.reached) (raise p a (lefts_of s) y k r.reached prices r.closed) (omega (arith, face, across, near))
            ]
      ]
    ]

-- the darts before dart k
prices_before : (p : PlaneModel) (a : ℕ → ℕ) (s : ℕ → List Turn) → HasEnds p → Rep p a s → (k : ℕ) → k ≤ darts p → Better p s ⊎ ((y : ℕ → ℕ) × ArePrices p a (lefts_of s) y k)
prices_before p a s ends rep zero most = inr (λ x. 0, record { wider = λ d b room. omega arith; narrower = λ d b some. omega arith; crossed = λ d b. omega arith; tight = λ d b before some. absurd (omega arith) })
prices_before p a s ends rep (suc k) most =
    elim (prices_before p a s ends rep k (omega arith)) [
      | inl other ↦ inl other
      | inr (y, prices) ↦ elim (lift p a s k ends rep (omega arith) (y (face_at p k) + 1) y prices (omega arith)) [
        | inl other ↦ inl other
        | inr (z, next) ↦ inr (z, subst (λ (i : ℕ). ArePrices p a (lefts_of s) z i) (omega arith) next)
      ]
    ]

-- of a representation there is a better one, or prices prove it
pub better_or_priced : (p : PlaneModel) (a : ℕ → ℕ) (s : ℕ → List Turn) → IsPlane p → Rep p a s → Better p s ⊎ ((v q : ℕ → ℤ) × Prove p a s v q)
better_or_priced p a s plane rep =
    elim (prices_before p a s (plane_ends p plane) rep (darts p) (omega arith)) [
      | inl other ↦ inl other
      | inr (y, prices) ↦ inr (
        λ v. pos (y (p.faces + v)),
        λ f. pos (y f),
        λ d b. plain_priced p a s (λ v. pos (y (p.faces + v))) (λ f. pos (y f)) d
            (record {
              wider = λ room. let h = prices.wider d b room in omega (arith, ints, h);
              narrower = λ some. let h = prices.narrower d b some in omega (arith, ints, h);
            })
            (record {
              crossed = let h = prices.crossed d b in omega (arith, ints, h);
              tight = λ some. let h = prices.crossed d b in let g = prices.tight d b b some in omega (arith, ints, h, g);
            }),
      )
    ]

-- a least one has no better one
pub prices_exist : (p : PlaneModel) (a : ℕ → ℕ) (s : ℕ → List Turn) → IsPlane p → Least p a s → (v q : ℕ → ℤ) × Prove p a s v q
prices_exist p a s plane least =
    elim (better_or_priced p a s plane least.rep) [
      | inl (b, t, rep, less) ↦ absurd (omega (arith, less, least.least b t rep))
      | inr priced ↦ priced
    ]

-- and from each one better ones lead to a least one
pub least_below : (p : PlaneModel) → IsPlane p → (most : ℕ) (a : ℕ → ℕ) (s : ℕ → List Turn) → Rep p a s → bends_of (darts p) s < most → (b : ℕ → ℕ) × (t : ℕ → List Turn) × Least p b t
least_below p plane zero a s rep few = absurd (omega arith)
least_below p plane (suc most) a s rep few =
    elim (better_or_priced p a s plane rep) [
      | inl (b, t, other, less) ↦ least_below p plane most b t other (omega (arith, less, few))
      | inr (v, q, prove) ↦ (a, s, least_by_prices p a s v q (plane_ends p plane) rep prove)
    ]

-- ---- of a shape

pub least_priced : (p : PlaneModel) (shape : ShapeModel) → IsPlane p → IsShape p shape → IsLeast p shape → (t : PricesModel) × IsProof p shape t
least_priced p shape plane is least =
    let (v, q, prove) = prices_exist p (angle_at shape) (turns_at shape) plane least in
    let t : PricesModel = record { vertices = map (λ i. v (i + 1)) (range_with_len 0 (vertices p)); faces = map q (range_with_len 0 p.faces) } in (
      t,
      record {
        lengths = is.lengths;
        prices = record { vertices = length-map-range_with_len (λ i. v (i + 1)) 0 (vertices p); faces = length-map-range_with_len q 0 p.faces };
        prove = prove-alike p (angle_at shape) (angle_at shape) (turns_at shape) (turns_at shape) v (vertex_price t) q (face_price t) (plane_ends p plane)
            (λ d l. refl)
            (λ d l. refl)
            (λ u from to. get_or-map-range_with_len (λ i. v (i + 1)) 0 (vertices p) (u - 1) (u - 1) (pos 0) (omega arith) (omega arith) ∙ ap v (omega arith))
            (λ f l. get_or-map-range_with_len q 0 p.faces f f (pos 0) l (omega arith))
            prove;
      },
    )
