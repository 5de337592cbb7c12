use Rattle.std.proofs.Common.{◌≡◌, ◌+◌, ◌-◌, ◌∙◌, ◌++◌, ℕ, List, [], ◌∷◌, map, take, slice_index, ap, sym, inl, inr, append-nil, append_assoc}
use Rattle.std.proofs.lemmas.Bool.{cases_eq, both_ways}
use Rattle.std.proofs.lemmas.List.{map_push, take_all}
use Rattle.ortho_rep.specs.declared.grid_points.Point.{Point}
use Rattle.dissect.specs.Paths.{turn_to}
use Rattle.dissect.specs.Boxes.{dart_map}
use Rattle.compact.specs.Monotone.{point_at, vertices_along}
use Rattle.compact.proofs.Walking.{vertex_between, between_straight, between_turn, vertices_more, vertices_one}
use Rattle.compact.proofs.points.push_corners.Goals as goal
use Rattle.compact.proofs.points.push_corners.Goals.{then-is_turn+in_ok-push, else-is_turn}

pub loop-k-init : goal.loop-k-init
loop-k-init c =
    let w = dart_map c.args.boxes.now in
    let point = point_at (λ v. slice_index c.args.x.now v) (λ v. slice_index c.args.y.now v) in
    sym (append-nil c.args.corners.now.items)
    ∙ ap (λ (ds : List ℕ). c.args.corners.now.items ++ map point ds) (sym (vertices_one w c.args.path.now))

pub loop-k-preserved : goal.loop-k-preserved
loop-k-preserved c =
    let w = dart_map c.args.boxes.now in
    let ds = c.args.path.now in
    let k = c.loop-k.k in
    let old = c.args.corners.now.items in
    let before : ℕ = slice_index ds (k - 1) in
    let dart : ℕ = slice_index ds k in
    let point = point_at (λ v. slice_index c.args.x.now v) (λ v. slice_index c.args.y.now v) in
    let met = vertices_along w (take k ds) in
    let more : vertices_along w (take (k + 1) ds) ≡ met ++ vertex_between w before dart = vertices_more w ds k c.loop-k.auto.k c.loop-k-test.true in
    elim c.if-is_turn.branch [
      | then-is_turn+in_ok-push b ↦
          let all : vertices_along w (take (k + 1) ds) ≡ met ++ (w.head before ∷ []) =
          more ∙ ap (λ (ps : List ℕ). met ++ ps) (between_turn w before dart (c.is_turn.ensures.0 b.if-is_turn.true)) in
          rw b.corners-is (b.in_ok-push.ensures.items
          ∙ ap (λ (ps : List Point). ps ++ (b.point_of.result ∷ [])) c.loop-k.invariant
          ∙ append_assoc old (map point met) (b.point_of.result ∷ [])
          ∙ ap (λ (p : Point). old ++ (map point met ++ (p ∷ []))) (b.point_of.ensures ∙ ap point b.head.ensures.value)
          ∙ ap (λ (ps : List Point). old ++ ps) (sym (map_push point met (w.head before)))
          ∙ ap (λ (ps : List ℕ). old ++ map point ps) (sym all))
      | else-is_turn b ↦
          let straight : turn_to w before dart ≡ 0 = elim (cases_eq (turn_to w before dart) 0) [
            | inl e ↦ e
            | inr turns ↦ absurd (both_ways c.is_turn.result b.if-is_turn.false (c.is_turn.ensures.1 turns))
          ] in
          let all : vertices_along w (take (k + 1) ds) ≡ met =
          more ∙ ap (λ (ps : List ℕ). met ++ ps) (between_straight w before dart straight) ∙ append-nil met in
          rw b.corners-is (c.loop-k.invariant ∙ ap (λ (ps : List ℕ). old ++ map point ps) (sym all))
    ]

pub returns : goal.returns
returns c =
    let point = point_at (λ v. slice_index c.args.x.now v) (λ v. slice_index c.args.y.now v) in
    c.loop-k.invariant
    ∙ ap (λ (ds : List ℕ). c.args.corners.now.items ++ map point (vertices_along (dart_map c.args.boxes.now) ds)) (take_all c.loop-k.k c.args.path.now c.loop-k-test.false)
