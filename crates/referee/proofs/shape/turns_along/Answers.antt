use Rattle.std.proofs.Common.{◌≡◌, ℕ, ◌+◌, ◌<◌, ◌⊎◌, inl, inr, refl, List, [], ◌∷◌, ◌++◌, length, length-append, get_or, sym, ap, ◌∙◌, below_more, arith}
use Rattle.std.proofs.lemmas.List.{get_or_append_left, get_or_push}
use Rattle.geometry.specs.declared.direction.Direction.{Direction}
use Rattle.geometry.specs.Directions.{opposite_of}
use Rattle.ortho_rep.specs.declared.grid_points.Point.{Point}
use Rattle.ortho_rep.specs.declared.turn_strings.Turn.{Turn}
use Rattle.ortho_rep.specs.declared.turn_strings.Turn.TheVariants.{Left}
use Rattle.drawing_check.specs.Paths.{point_of}
use Rattle.drawing_check.specs.Draws.{direction_between, direction_of, turned}
use Rattle.drawing_check.specs.Routes.{path_of}
use Rattle.referee.proofs.FirstFaults.{none_straight}
use Rattle.referee.proofs.shape.turns_along.Goals as goal

-- the direction after corner k
onward_is : (path : List Point) (k : ℕ) (p q : Point) (d : Direction) → p ≡ point_of path (k + 1) → q ≡ point_of path (k + 2) → d ≡ direction_between p q → d ≡ direction_of path (k + 1)
onward_is path k p q d is_p is_q is_d =
    let two : k + 2 ≡ k + 1 + 1 = omega arith in
    is_d ∙ ap (λ (u : Point). direction_between u q) is_p ∙ ap (λ (v : Point). direction_between (point_of path (k + 1)) v) (is_q ∙ ap (point_of path) two)

-- one turn more
turn_more : (path : List Point) (old new : List Turn) (k : ℕ) (turn : Turn) (heading onward : Direction) → new ≡ old ++ turn ∷ [] → length old ≡ k → heading ≡ direction_of path k → onward ≡ direction_of path (k + 1) → onward ≡ turned turn heading
    → ((j : ℕ) → j < k → direction_of path (j + 1) ≡ turned (get_or old j Left) (direction_of path j)) → (j : ℕ) → j < k + 1 → direction_of path (j + 1) ≡ turned (get_or new j Left) (direction_of path j)
turn_more path old new k turn heading onward is_new size is_heading is_onward is_turn before =
    let here : (j : ℕ) → j < k → get_or new j Left ≡ get_or old j Left = λ j lt. ap (λ (ts : List Turn). get_or ts j Left) is_new ∙ get_or_append_left old (turn ∷ []) Left j (omega (arith, size, lt)) in
    let last : get_or new k Left ≡ turn = ap (λ (ts : List Turn). get_or ts k Left) is_new ∙ get_or_push old turn Left k size in
    below_more _ _
    (λ j lt. before j lt ∙ ap (λ (t : Turn). turned t (direction_of path j)) (sym (here j lt)))
    (sym is_onward ∙ is_turn ∙ ap (turned turn) is_heading ∙ ap (λ (t : Turn). turned t (direction_of path k)) (sym last))

-- a corner where the direction goes on or turns back
straight_here : (path : List Point) (k : ℕ) (heading onward : Direction) → heading ≡ direction_of path k → onward ≡ direction_of path (k + 1) → (onward ≡ heading) ⊎ (onward ≡ opposite_of heading)
    → (direction_of path (k + 1) ≡ direction_of path k) ⊎ (direction_of path (k + 1) ≡ opposite_of (direction_of path k))
straight_here path k heading onward is_heading is_onward (inl on) = inl (sym is_onward ∙ on ∙ is_heading)
straight_here path k heading onward is_heading is_onward (inr back) = inr (sym is_onward ∙ back ∙ ap opposite_of is_heading)

pub loop-corner-preserved : goal.loop-corner-preserved
loop-corner-preserved c =
    let path = path_of c.args.route.now in
    let old = c.loop-corner.invariant in
    let added : c.add.new.list.items ≡ c.loop-corner.turns.items ++ c.in-Some.turn ∷ [] = c.in_ok-add-in-Some.ensures in
    let onward = onward_is path c.loop-corner.corner c.point_at-in-loop-corner.result c.point_at-in-loop-corner-2.result c.direction_from-onward.result c.point_at-in-loop-corner.ensures c.point_at-in-loop-corner-2.ensures c.direction_from-onward.ensures in
    record {
      count = ap length added ∙ length-append c.loop-corner.turns.items (c.in-Some.turn ∷ []) ∙ ap (λ (n : ℕ). n + 1) old.count;
      heading = onward;
      each = turn_more path c.loop-corner.turns.items c.add.new.list.items c.loop-corner.corner c.in-Some.turn c.loop-corner.heading c.direction_from-onward.result added old.count old.heading onward c.in-Some.ensures.some old.each;
    }

pub returns-in-None-clause-refused : goal.returns-in-None-clause-refused
returns-in-None-clause-refused c = λ _ turns is.
    let path = path_of c.args.route.now in
    let k : ℕ = c.loop-corner.corner in
    let onward = onward_is path k c.point_at-in-loop-corner.result c.point_at-in-loop-corner-2.result c.direction_from-onward.result c.point_at-in-loop-corner.ensures c.point_at-in-loop-corner-2.ensures c.direction_from-onward.ensures in
    let inside : k < length turns = omega (arith, is.corners, length-append c.args.route.now.corners.now (c.args.route.now.end ∷ [])) in
    c.in-None.ensures.none (get_or turns k Left)
    (onward ∙ is.each k inside ∙ ap (turned (get_or turns k Left)) (sym c.loop-corner.invariant.heading))

pub returns-in-None-clause-first : goal.returns-in-None-clause-first
returns-in-None-clause-first c = λ _.
    let path = path_of c.args.route.now in
    let k : ℕ = c.loop-corner.corner in
    let onward = onward_is path k c.point_at-in-loop-corner.result c.point_at-in-loop-corner-2.result c.direction_from-onward.result c.point_at-in-loop-corner.ensures c.point_at-in-loop-corner-2.ensures c.direction_from-onward.ensures in
    let inside : k + 2 < length path = omega (arith, length-append c.args.route.now.corners.now (c.args.route.now.end ∷ [])) in (
      refl,
      record {
        here = (inside, straight_here path k c.loop-corner.heading c.direction_from-onward.result c.loop-corner.invariant.heading onward c.in-None.ensures.straight);
        before = none_straight path c.loop-corner.turns.items k c.loop-corner.invariant.each;
      },
    )
