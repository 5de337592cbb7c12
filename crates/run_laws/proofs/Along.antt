-- The cells on either side of an edge are joined along it.
use Rattle.std.proofs.Common.{◌≡◌, ℕ, zero, suc, ◌+◌, ◌<◌, ◌≤◌, ◌⊎◌, ◌∙◌, length, arith, subst, sym, ap, refl, inl, inr, true, Bool}
use Rattle.std.specs.Prelude.{slice_index_or}
use Rattle.std.proofs.lemmas.Bool.{cases_eq, cases_lt}
use Rattle.geometry.specs.declared.direction.Direction.{Direction}
use Rattle.geometry.specs.declared.direction.Direction.TheVariants.{East, North, West, South}
use Rattle.geometry.specs.Directions.{right_of, opposite_of, quarters}
use Rattle.faces.specs.Planes.{PlaneModel, IsPlane, darts, vertices}
use Rattle.ortho_rep.specs.declared.turn_strings.Turn.{Turn}
use Rattle.ortho_rep.specs.declared.turn_strings.Turn.TheVariants.{Left, Right}
use Rattle.ortho_rep.specs.declared.grid_points.Point.{Point}
use Rattle.ortho_rep.specs.Points.{PointsModel}
use Rattle.ortho_rep.specs.Shapes.{ShapeModel, turns_at}
use Rattle.ortho_rep.specs.Edges.{is_lesser}
use Rattle.drawing_check.specs.Paths.{path_along, paths, point_of}
use Rattle.drawing_check.specs.Draws.{IsAxis, AreOnAxes, MeetNowhere, IsTurning, TurnAsSaid, direction_between, turned}
use Rattle.drawing_check.proofs.Routing.{each_lesser}
use Rattle.run_laws.specs.Cells.{IsUndivided}
use Rattle.run_laws.proofs.Places.{Inner}
use Rattle.run_laws.proofs.CellSides.{RunsBy, runs_swapped, LiesOn, where_on, corner_inner, leaves_by, IsFree, corner, across, none_free, part_axis, own_sides}

-- along a line
run : (f : ℕ → Bool) (low high : ℕ) → ((i : ℕ) → low < i → i < high → f i ≡ f (i + 1)) → (i : ℕ) → low < i → i ≤ high → f i ≡ f (low + 1)
run f low high step zero above below = absurd (omega (arith, above))
run f low high step (suc i) above below =
    elim (cases_eq i low) [
      | inl at ↦ ap f (let e : suc i ≡ low + 1 = omega (arith, at) in e)
      | inr other ↦
          let e : suc i ≡ i + 1 = omega arith in
          ap f e ∙ sym (step i (omega (arith, above, other)) (omega (arith, below))) ∙ run f low high step i (omega (arith, above, other)) (omega (arith, below))
    ]

runs_between : (f : ℕ → Bool) (low high : ℕ) → ((i : ℕ) → low < i → i < high → f i ≡ f (i + 1)) → (i k : ℕ) → low < i → i ≤ high → low < k → k ≤ high → f i ≡ f k
runs_between f low high step i k from to from' to' = run f low high step i from to ∙ sym (run f low high step k from' to')

-- round a corner
turns_cells : (g : Direction → Bool) (way : Direction) (turn : Turn)
    → ((other : Direction) → (other ≡ opposite_of way → ⊥) → (other ≡ turned turn way → ⊥) → g (right_of other) ≡ g other)
    → (g (turned turn way) ≡ g (right_of (opposite_of way))) × (g (right_of (turned turn way)) ≡ g (opposite_of way))
turns_cells g East Left free =
    (refl, sym (free East (λ e. omega (arith, ap quarters e)) (λ e. omega (arith, ap quarters e))) ∙ sym (free South (λ e. omega (arith, ap quarters e)) (λ e. omega (arith, ap quarters e))))
turns_cells g North Left free =
    (refl, sym (free North (λ e. omega (arith, ap quarters e)) (λ e. omega (arith, ap quarters e))) ∙ sym (free East (λ e. omega (arith, ap quarters e)) (λ e. omega (arith, ap quarters e))))
turns_cells g West Left free =
    (refl, sym (free West (λ e. omega (arith, ap quarters e)) (λ e. omega (arith, ap quarters e))) ∙ sym (free North (λ e. omega (arith, ap quarters e)) (λ e. omega (arith, ap quarters e))))
turns_cells g South Left free =
    (refl, sym (free South (λ e. omega (arith, ap quarters e)) (λ e. omega (arith, ap quarters e))) ∙ sym (free West (λ e. omega (arith, ap quarters e)) (λ e. omega (arith, ap quarters e))))
turns_cells g East Right free =
    (free East (λ e. omega (arith, ap quarters e)) (λ e. omega (arith, ap quarters e)) ∙ free North (λ e. omega (arith, ap quarters e)) (λ e. omega (arith, ap quarters e)), refl)
turns_cells g North Right free =
    (free North (λ e. omega (arith, ap quarters e)) (λ e. omega (arith, ap quarters e)) ∙ free West (λ e. omega (arith, ap quarters e)) (λ e. omega (arith, ap quarters e)), refl)
turns_cells g West Right free =
    (free West (λ e. omega (arith, ap quarters e)) (λ e. omega (arith, ap quarters e)) ∙ free South (λ e. omega (arith, ap quarters e)) (λ e. omega (arith, ap quarters e)), refl)
turns_cells g South Right free =
    (free South (λ e. omega (arith, ap quarters e)) (λ e. omega (arith, ap quarters e)) ∙ free East (λ e. omega (arith, ap quarters e)) (λ e. omega (arith, ap quarters e)), refl)

-- the way of a part runs from its beginning, and back from its end
pub starts : (a b : Point) → IsAxis a b → RunsBy (direction_between a b) a b a
starts a b (inl (line, off)) =
    elim (cases_lt a.y b.y) [
      | inl up ↦
          let runs : RunsBy North a b a = (refl, sym line, inl (omega arith, up)) in
          subst (λ (way : Direction). RunsBy way a b a) (sym (leaves_by North a b runs)) runs
      | inr down ↦
          let runs : RunsBy South a b a = (refl, sym line, inr (omega (arith, down, off), omega arith)) in
          subst (λ (way : Direction). RunsBy way a b a) (sym (leaves_by South a b runs)) runs
    ]
starts a b (inr (off, line)) =
    elim (cases_lt a.x b.x) [
      | inl up ↦
          let runs : RunsBy East a b a = (refl, sym line, inl (omega arith, up)) in
          subst (λ (way : Direction). RunsBy way a b a) (sym (leaves_by East a b runs)) runs
      | inr down ↦
          let runs : RunsBy West a b a = (refl, sym line, inr (omega (arith, down, off), omega arith)) in
          subst (λ (way : Direction). RunsBy way a b a) (sym (leaves_by West a b runs)) runs
    ]

pub ends_by : (way : Direction) (a b : Point) → RunsBy way a b a → RunsBy (opposite_of way) a b b
ends_by East a b (one, two, inl is) = (sym two, refl, inl (is.1, omega arith))
ends_by East a b (one, two, inr is) = absurd (omega (arith, is.1))
ends_by North a b (one, two, inl is) = (sym two, refl, inl (is.1, omega arith))
ends_by North a b (one, two, inr is) = absurd (omega (arith, is.1))
ends_by West a b (one, two, inl is) = absurd (omega (arith, is.0))
ends_by West a b (one, two, inr is) = (sym two, refl, inr (omega arith, is.0))
ends_by South a b (one, two, inl is) = absurd (omega (arith, is.0))
ends_by South a b (one, two, inr is) = (sym two, refl, inr (omega arith, is.0))

module _ (p : PlaneModel) (points : PointsModel) (plane : IsPlane p) (axes : AreOnAxes (paths p points)) (apart : MeetNowhere points (paths p points))
    (whole : length points.vertices ≡ vertices p) (s : ℕ → ℕ → Bool) (undivided : IsUndivided p points s) where
  abbrev pub place : ℕ → ℕ → Point
  place d k = point_of (path_along p points d) k

  abbrev pub way_of : ℕ → ℕ → Direction
  way_of d k = direction_between (place d k) (place d (suc k))

  abbrev pub cell : Point → Direction → Bool
  cell q way = corner p points s q way

  -- the cells on the left of a way from a point and on its right are those of another
  abbrev pub Follow : Point → Direction → Point → Direction → Type 0
  Follow q way a other = (cell q way ≡ cell a other) × (cell q (right_of way) ≡ cell a (right_of other))

  -- or those of its other side
  abbrev pub Oppose : Point → Direction → Point → Direction → Type 0
  Oppose q way a other = (cell q way ≡ cell a (right_of other)) × (cell q (right_of way) ≡ cell a other)

  -- no edge leaves a part between its ends
  level_free : (d k i : ℕ) → d < darts p → is_lesser p d ≡ true → suc k < length (path_along p points d)
      → (place d k).y ≡ (place d (suc k)).y → (((place d k).x < i) × (i < (place d (suc k)).x)) ⊎ (((place d (suc k)).x < i) × (i < (place d k).x))
      → let q : Point = record { x = i; y = (place d k).y } in IsFree p points North q × IsFree p points South q
  level_free d k i d_in lesser inside line between =
      let q : Point = record { x = i; y = (place d k).y } in
      let off : (i ≡ (place d k).x → ⊥) × (i ≡ (place d (suc k)).x → ⊥) = elim between [
        | inl is ↦ ((λ e. omega (arith, e, is.0)), (λ e. omega (arith, e, is.1)))
        | inr is ↦ ((λ e. omega (arith, e, is.1)), (λ e. omega (arith, e, is.0)))
      ] in
      let on : LiesOn (place d k) (place d (suc k)) q = inl (
        refl,
        sym line,
        elim between [
          | inl is ↦ inl (omega (arith, is.0), omega (arith, is.1), omega (arith, is.0, is.1))
          | inr is ↦ inr (omega (arith, is.0), omega (arith, is.1), omega (arith, is.0, is.1))
        ],
      ) in
      let inner : Inner (path_along p points d) k q = elim (where_on (path_along p points d) k q inside on) [
        | inl first ↦ absurd (off.0 (ap (λ (c : Point). c.x) first))
        | inr (inl here) ↦ here
        | inr (inr last) ↦ absurd (off.1 (ap (λ (c : Point). c.x) last.0))
      ] in (
        none_free p points plane North q (λ by. elim (own_sides p points plane axes apart whole North d k q d_in lesser inner by) [
          | inl runs ↦ off.0 (sym runs.0)
          | inr there ↦ off.1 (ap (λ (c : Point). c.x) there.0)
        ]),
        none_free p points plane South q (λ by. elim (own_sides p points plane axes apart whole South d k q d_in lesser inner by) [
          | inl runs ↦ off.0 (sym runs.0)
          | inr there ↦ off.1 (ap (λ (c : Point). c.x) there.0)
        ]),
      )

  upright_free : (d k i : ℕ) → d < darts p → is_lesser p d ≡ true → suc k < length (path_along p points d)
      → (place d k).x ≡ (place d (suc k)).x → (((place d k).y < i) × (i < (place d (suc k)).y)) ⊎ (((place d (suc k)).y < i) × (i < (place d k).y))
      → let q : Point = record { x = (place d k).x; y = i } in IsFree p points East q × IsFree p points West q
  upright_free d k i d_in lesser inside line between =
      let q : Point = record { x = (place d k).x; y = i } in
      let off : (i ≡ (place d k).y → ⊥) × (i ≡ (place d (suc k)).y → ⊥) = elim between [
        | inl is ↦ ((λ e. omega (arith, e, is.0)), (λ e. omega (arith, e, is.1)))
        | inr is ↦ ((λ e. omega (arith, e, is.1)), (λ e. omega (arith, e, is.0)))
      ] in
      let on : LiesOn (place d k) (place d (suc k)) q = inr (
        refl,
        sym line,
        elim between [
          | inl is ↦ inl (omega (arith, is.0), omega (arith, is.1), omega (arith, is.0, is.1))
          | inr is ↦ inr (omega (arith, is.0), omega (arith, is.1), omega (arith, is.0, is.1))
        ],
      ) in
      let inner : Inner (path_along p points d) k q = elim (where_on (path_along p points d) k q inside on) [
        | inl first ↦ absurd (off.0 (ap (λ (c : Point). c.y) first))
        | inr (inl here) ↦ here
        | inr (inr last) ↦ absurd (off.1 (ap (λ (c : Point). c.y) last.0))
      ] in (
        none_free p points plane East q (λ by. elim (own_sides p points plane axes apart whole East d k q d_in lesser inner by) [
          | inl runs ↦ off.0 (sym runs.0)
          | inr there ↦ off.1 (ap (λ (c : Point). c.y) there.0)
        ]),
        none_free p points plane West q (λ by. elim (own_sides p points plane axes apart whole West d k q d_in lesser inner by) [
          | inl runs ↦ off.0 (sym runs.0)
          | inr there ↦ off.1 (ap (λ (c : Point). c.y) there.0)
        ]),
      )

  -- so the cells along a part are joined
  abbrev Spans : ℕ → ℕ → ℕ → ℕ → Type 0
  Spans from to low high = ((from ≡ low) × (to ≡ high)) ⊎ ((to ≡ low) × (from ≡ high))

  level_at : (d k low high i m : ℕ) (q : Point) → d < darts p → is_lesser p d ≡ true → suc k < length (path_along p points d)
      → (place d k).y ≡ (place d (suc k)).y → Spans (place d k).x (place d (suc k)).x low high → (place d k).y ≡ q.y
      → low < i → i ≤ high → low < m → m ≤ high
      → (s i (q.y + 1) ≡ s m ((place d k).y + 1)) × (s i q.y ≡ s m (place d k).y)
  level_at d k low high i m q d_in lesser inside line spans row from to from' to' =
      let y : ℕ = (place d k).y in
      let free : (c : ℕ) → low < c → c < high → let o : Point = record { x = c; y = y } in IsFree p points North o × IsFree p points South o = λ c above below.
      level_free d k c d_in lesser inside line (elim spans [
        | inl is ↦ inl (omega (arith, is.0, above), omega (arith, is.1, below))
        | inr is ↦ inr (omega (arith, is.0, above), omega (arith, is.1, below))
      ]) in (
        ap (λ (j : ℕ). s i (j + 1)) (sym row)
            ∙ runs_between (λ c. s c (y + 1)) low high (λ c above below. undivided.beside c (y + 1) (free c above below).0) i m from to from' to',
        ap (λ (j : ℕ). s i j) (sym row)
            ∙ runs_between (λ c. s c y) low high (λ c above below. undivided.beside c y (free c above below).1) i m from to from' to',
      )

  upright_at : (d k low high i m : ℕ) (q : Point) → d < darts p → is_lesser p d ≡ true → suc k < length (path_along p points d)
      → (place d k).x ≡ (place d (suc k)).x → Spans (place d k).y (place d (suc k)).y low high → (place d k).x ≡ q.x
      → low < i → i ≤ high → low < m → m ≤ high
      → (s q.x i ≡ s (place d k).x m) × (s (q.x + 1) i ≡ s ((place d k).x + 1) m)
  upright_at d k low high i m q d_in lesser inside line spans column from to from' to' =
      let x : ℕ = (place d k).x in
      let free : (c : ℕ) → low < c → c < high → let o : Point = record { x = x; y = c } in IsFree p points East o × IsFree p points West o = λ c above below.
      upright_free d k c d_in lesser inside line (elim spans [
        | inl is ↦ inl (omega (arith, is.0, above), omega (arith, is.1, below))
        | inr is ↦ inr (omega (arith, is.0, above), omega (arith, is.1, below))
      ]) in (
        ap (λ (j : ℕ). s j i) (sym column)
            ∙ runs_between (λ c. s x c) low high (λ c above below. undivided.above x c (free c above below).1) i m from to from' to',
        ap (λ (j : ℕ). s (j + 1) i) (sym column)
            ∙ runs_between (λ c. s (x + 1) c) low high (λ c above below. undivided.above (x + 1) c (free c above below).0) i m from to from' to',
      )

  -- the cells at any side of a part are those at its beginning
  pub part_cells : (first way : Direction) (d k : ℕ) (q : Point) → d < darts p → is_lesser p d ≡ true → suc k < length (path_along p points d)
      → RunsBy first (place d k) (place d (suc k)) (place d k) → RunsBy way (place d k) (place d (suc k)) q
      → ((way ≡ first) × Follow q way (place d k) first) ⊎ ((way ≡ opposite_of first) × Oppose q way (place d k) first)
  part_cells East East d k q d_in lesser inside (one, two, is) (one', two', is') =
      let span : (place d k).x < (place d (suc k)).x = elim is [ inl on ↦ omega (arith, on.0, on.1) | inr on ↦ omega (arith, on.0, on.1) ] in
      let bounds : ((place d k).x < (q.x + 1)) × ((q.x + 1) ≤ (place d (suc k)).x) = elim is' [ inl on ↦ (omega (arith, on.0, on.1, span), omega (arith, on.0, on.1, span)) | inr on ↦ (omega (arith, on.0, on.1, span), omega (arith, on.0, on.1, span)) ] in
      let same = level_at d k (place d k).x (place d (suc k)).x (q.x + 1) ((place d k).x + 1) q d_in lesser inside (sym two) (inl (refl, refl)) one' bounds.0 bounds.1 (omega (arith, span)) (omega (arith, span)) in
      inl (refl, (same.0, same.1))
  part_cells East North d k q d_in lesser inside (one, two, is) (one', two', is') = absurd (elim is [ inl on ↦ omega (arith, one', two', on.0, on.1) | inr on ↦ omega (arith, one', two', on.0, on.1) ])
  part_cells East West d k q d_in lesser inside (one, two, is) (one', two', is') =
      let span : (place d k).x < (place d (suc k)).x = elim is [ inl on ↦ omega (arith, on.0, on.1) | inr on ↦ omega (arith, on.0, on.1) ] in
      let bounds : ((place d k).x < q.x) × (q.x ≤ (place d (suc k)).x) = elim is' [ inl on ↦ (omega (arith, on.0, on.1, span), omega (arith, on.0, on.1, span)) | inr on ↦ (omega (arith, on.0, on.1, span), omega (arith, on.0, on.1, span)) ] in
      let same = level_at d k (place d k).x (place d (suc k)).x q.x ((place d k).x + 1) q d_in lesser inside (sym two) (inl (refl, refl)) one' bounds.0 bounds.1 (omega (arith, span)) (omega (arith, span)) in
      inr (refl, (same.1, same.0))
  part_cells East South d k q d_in lesser inside (one, two, is) (one', two', is') = absurd (elim is [ inl on ↦ omega (arith, one', two', on.0, on.1) | inr on ↦ omega (arith, one', two', on.0, on.1) ])
  part_cells North East d k q d_in lesser inside (one, two, is) (one', two', is') = absurd (elim is [ inl on ↦ omega (arith, one', two', on.0, on.1) | inr on ↦ omega (arith, one', two', on.0, on.1) ])
  part_cells North North d k q d_in lesser inside (one, two, is) (one', two', is') =
      let span : (place d k).y < (place d (suc k)).y = elim is [ inl on ↦ omega (arith, on.0, on.1) | inr on ↦ omega (arith, on.0, on.1) ] in
      let bounds : ((place d k).y < (q.y + 1)) × ((q.y + 1) ≤ (place d (suc k)).y) = elim is' [ inl on ↦ (omega (arith, on.0, on.1, span), omega (arith, on.0, on.1, span)) | inr on ↦ (omega (arith, on.0, on.1, span), omega (arith, on.0, on.1, span)) ] in
      let same = upright_at d k (place d k).y (place d (suc k)).y (q.y + 1) ((place d k).y + 1) q d_in lesser inside (sym two) (inl (refl, refl)) one' bounds.0 bounds.1 (omega (arith, span)) (omega (arith, span)) in
      inl (refl, (same.0, same.1))
  part_cells North West d k q d_in lesser inside (one, two, is) (one', two', is') = absurd (elim is [ inl on ↦ omega (arith, one', two', on.0, on.1) | inr on ↦ omega (arith, one', two', on.0, on.1) ])
  part_cells North South d k q d_in lesser inside (one, two, is) (one', two', is') =
      let span : (place d k).y < (place d (suc k)).y = elim is [ inl on ↦ omega (arith, on.0, on.1) | inr on ↦ omega (arith, on.0, on.1) ] in
      let bounds : ((place d k).y < q.y) × (q.y ≤ (place d (suc k)).y) = elim is' [ inl on ↦ (omega (arith, on.0, on.1, span), omega (arith, on.0, on.1, span)) | inr on ↦ (omega (arith, on.0, on.1, span), omega (arith, on.0, on.1, span)) ] in
      let same = upright_at d k (place d k).y (place d (suc k)).y q.y ((place d k).y + 1) q d_in lesser inside (sym two) (inl (refl, refl)) one' bounds.0 bounds.1 (omega (arith, span)) (omega (arith, span)) in
      inr (refl, (same.1, same.0))
  part_cells West East d k q d_in lesser inside (one, two, is) (one', two', is') =
      let span : (place d (suc k)).x < (place d k).x = elim is [ inl on ↦ omega (arith, on.0, on.1) | inr on ↦ omega (arith, on.0, on.1) ] in
      let bounds : ((place d (suc k)).x < (q.x + 1)) × ((q.x + 1) ≤ (place d k).x) = elim is' [ inl on ↦ (omega (arith, on.0, on.1, span), omega (arith, on.0, on.1, span)) | inr on ↦ (omega (arith, on.0, on.1, span), omega (arith, on.0, on.1, span)) ] in
      let same = level_at d k (place d (suc k)).x (place d k).x (q.x + 1) (place d k).x q d_in lesser inside (sym two) (inr (refl, refl)) one' bounds.0 bounds.1 (omega (arith, span)) (omega (arith, span)) in
      inr (refl, (same.0, same.1))
  part_cells West North d k q d_in lesser inside (one, two, is) (one', two', is') = absurd (elim is [ inl on ↦ omega (arith, one', two', on.0, on.1) | inr on ↦ omega (arith, one', two', on.0, on.1) ])
  part_cells West West d k q d_in lesser inside (one, two, is) (one', two', is') =
      let span : (place d (suc k)).x < (place d k).x = elim is [ inl on ↦ omega (arith, on.0, on.1) | inr on ↦ omega (arith, on.0, on.1) ] in
      let bounds : ((place d (suc k)).x < q.x) × (q.x ≤ (place d k).x) = elim is' [ inl on ↦ (omega (arith, on.0, on.1, span), omega (arith, on.0, on.1, span)) | inr on ↦ (omega (arith, on.0, on.1, span), omega (arith, on.0, on.1, span)) ] in
      let same = level_at d k (place d (suc k)).x (place d k).x q.x (place d k).x q d_in lesser inside (sym two) (inr (refl, refl)) one' bounds.0 bounds.1 (omega (arith, span)) (omega (arith, span)) in
      inl (refl, (same.1, same.0))
  part_cells West South d k q d_in lesser inside (one, two, is) (one', two', is') = absurd (elim is [ inl on ↦ omega (arith, one', two', on.0, on.1) | inr on ↦ omega (arith, one', two', on.0, on.1) ])
  part_cells South East d k q d_in lesser inside (one, two, is) (one', two', is') = absurd (elim is [ inl on ↦ omega (arith, one', two', on.0, on.1) | inr on ↦ omega (arith, one', two', on.0, on.1) ])
  part_cells South North d k q d_in lesser inside (one, two, is) (one', two', is') =
      let span : (place d (suc k)).y < (place d k).y = elim is [ inl on ↦ omega (arith, on.0, on.1) | inr on ↦ omega (arith, on.0, on.1) ] in
      let bounds : ((place d (suc k)).y < (q.y + 1)) × ((q.y + 1) ≤ (place d k).y) = elim is' [ inl on ↦ (omega (arith, on.0, on.1, span), omega (arith, on.0, on.1, span)) | inr on ↦ (omega (arith, on.0, on.1, span), omega (arith, on.0, on.1, span)) ] in
      let same = upright_at d k (place d (suc k)).y (place d k).y (q.y + 1) (place d k).y q d_in lesser inside (sym two) (inr (refl, refl)) one' bounds.0 bounds.1 (omega (arith, span)) (omega (arith, span)) in
      inr (refl, (same.0, same.1))
  part_cells South West d k q d_in lesser inside (one, two, is) (one', two', is') = absurd (elim is [ inl on ↦ omega (arith, one', two', on.0, on.1) | inr on ↦ omega (arith, one', two', on.0, on.1) ])
  part_cells South South d k q d_in lesser inside (one, two, is) (one', two', is') =
      let span : (place d (suc k)).y < (place d k).y = elim is [ inl on ↦ omega (arith, on.0, on.1) | inr on ↦ omega (arith, on.0, on.1) ] in
      let bounds : ((place d (suc k)).y < q.y) × (q.y ≤ (place d k).y) = elim is' [ inl on ↦ (omega (arith, on.0, on.1, span), omega (arith, on.0, on.1, span)) | inr on ↦ (omega (arith, on.0, on.1, span), omega (arith, on.0, on.1, span)) ] in
      let same = upright_at d k (place d (suc k)).y (place d k).y q.y (place d k).y q d_in lesser inside (sym two) (inr (refl, refl)) one' bounds.0 bounds.1 (omega (arith, span)) (omega (arith, span)) in
      inl (refl, (same.1, same.0))

  -- the way back from the end of a part
  pub back_way : (d k : ℕ) → d < darts p → is_lesser p d ≡ true → suc k < length (path_along p points d)
      → direction_between (place d (suc k)) (place d k) ≡ opposite_of (way_of d k)
  back_way d k d_in lesser inside =
      let a : Point = place d k in
      let b : Point = place d (suc k) in
      leaves_by (opposite_of (way_of d k)) b a (runs_swapped (opposite_of (way_of d k)) a b b
      (ends_by (way_of d k) a b (starts a b (part_axis p points plane axes apart whole d k d_in lesser inside))))

  -- at a corner, no edge but this one
  corner_free : (d k : ℕ) (other : Direction) → d < darts p → is_lesser p d ≡ true → suc (suc k) < length (path_along p points d)
      → (other ≡ opposite_of (way_of d k) → ⊥) → (other ≡ way_of d (suc k) → ⊥) → IsFree p points other (place d (suc k))
  corner_free d k other d_in lesser inside no_back no_on =
      let within : suc k < length (path_along p points d) = omega (arith, inside) in
      let axis = part_axis p points plane axes apart whole d k d_in lesser within in
      let a : Point = place d k in
      let b : Point = place d (suc k) in
      let back = back_way d k d_in lesser within in
      none_free p points plane other b (λ by. elim (own_sides p points plane axes apart whole other d k b d_in lesser (corner_inner (path_along p points d) k inside axis) by) [
        | inl runs ↦ no_back (sym (leaves_by other b a (runs_swapped other a b b runs)) ∙ back)
        | inr there ↦ no_on (sym (leaves_by other b (place d (suc (suc k))) there.1))
      ])

  not_same : (way : Direction) → opposite_of way ≡ way → ⊥
  not_same East e = omega (arith, ap quarters e)
  not_same North e = omega (arith, ap quarters e)
  not_same West e = omega (arith, ap quarters e)
  not_same South e = omega (arith, ap quarters e)

  pub end_cells : (way : Direction) (d k : ℕ) → d < darts p → is_lesser p d ≡ true → suc k < length (path_along p points d)
      → RunsBy way (place d k) (place d (suc k)) (place d k) → Oppose (place d (suc k)) (opposite_of way) (place d k) way
  end_cells way d k d_in lesser inside runs =
      elim (part_cells way (opposite_of way) d k (place d (suc k)) d_in lesser inside runs (ends_by way (place d k) (place d (suc k)) runs)) [
        | inl same ↦ absurd (not_same way same.0)
        | inr is ↦ is.1
      ]

  module _ (shape : ShapeModel) (said : TurnAsSaid p shape points) where
    turn_of : (d k : ℕ) → d < darts p → is_lesser p d ≡ true → suc (suc k) < length (path_along p points d)
        → (turn : Turn) × (way_of d (suc k) ≡ turned turn (way_of d k))
    turn_of d k d_in lesser inside =
        let is : IsTurning (path_along p points d) (turns_at shape d) =
        (each_lesser (λ e. IsTurning (path_along p points e) (turns_at shape e)) p).0 said.edges d d_in lesser in
        let each = is.each k (omega (arith, inside, is.corners)) in
        let one : k + 1 ≡ suc k = omega arith in
        let turn : Turn = slice_index_or (turns_at shape d) k Left in (
          turn,
          subst (λ (m : ℕ). direction_between (place d m) (place d (suc m)) ≡ turned turn (direction_between (place d k) (place d m))) one
              (subst (λ (m : ℕ). direction_between (place d (k + 1)) (place d m) ≡ turned turn (direction_between (place d k) (place d (k + 1)))) (let two : k + 1 + 1 ≡ suc (k + 1) = omega arith in two) each),
        )

    -- the cells at the beginning of each part are those at the beginning of the path
    pub path_cells : (d k : ℕ) → d < darts p → is_lesser p d ≡ true → suc k < length (path_along p points d) → Follow (place d k) (way_of d k) (place d 0) (way_of d 0)
    path_cells d zero d_in lesser inside = (refl, refl)
    path_cells d (suc k) d_in lesser inside =
        let within : suc k < length (path_along p points d) = omega (arith, inside) in
        let axis = part_axis p points plane axes apart whole d k d_in lesser within in
        let b : Point = place d (suc k) in
        let before = path_cells d k d_in lesser within in
        let end : Oppose b (opposite_of (way_of d k)) (place d k) (way_of d k) =
        end_cells (way_of d k) d k d_in lesser within (starts (place d k) b axis) in
        let (turn, at) = turn_of d k d_in lesser inside in
        let round = turns_cells (cell b) (way_of d k) turn (λ other no_back no_on.
        across p points s undivided other b (corner_free d k other d_in lesser inside no_back (λ e. no_on (e ∙ at)))) in (
          ap (cell b) at ∙ round.0 ∙ end.1 ∙ before.0,
          ap (λ (w : Direction). cell b (right_of w)) at ∙ round.1 ∙ end.0 ∙ before.1,
        )
