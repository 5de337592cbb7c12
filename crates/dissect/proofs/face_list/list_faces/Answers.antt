use Rattle.std.proofs.Common.{false, ◌-◌, ◌∙◌, ℕ, [], arith, sym, subst, inl, inr}
use Rattle.std.proofs.lemmas.List.{get_or_read}
use Rattle.std.proofs.lemmas.Bool.{both_ways}
use Rattle.dissect.specs.Tables.{dart_map_of}
use Rattle.dissect.specs.Walks.{IsFlagged, IsWalked}
use Rattle.dissect.proofs.Tracing.{unflagged, trace_begins, trace_skips, trace_more, trace_done, walked_few}
use Rattle.dissect.proofs.face_list.list_faces.Goals as goal
use Rattle.dissect.proofs.face_list.list_faces.Goals.{then-not-index+then-index-ne2+in_ok-walk-2+in_ok-push, else-not-index, else-not-index-via-then-not-index+else-index-ne2, else-not-index-via-else-not-index}

pub darts-init : goal.darts-init
darts-init c =
    let w = dart_map_of c.args.table.now in
    let walked : IsWalked w c.args.right c.in_ok-seen.seen.items c.walk.new.seen.items [] c.walk.new.corners.items =
    subst (λ xs. IsWalked w c.args.right c.in_ok-seen.seen.items c.walk.new.seen.items xs c.walk.new.corners.items)
    c.in_ok-outer.ensures.items c.in_ok-walk.ensures.walked in
    let blank : (a : ℕ) → IsFlagged c.in_ok-seen.seen.items a → ⊥ =
    λ a m. unflagged c.args.table.now.darts a
    (subst (λ flags. IsFlagged flags a) (c.in_ok-seen.ensures.items) m) in
    rw (c.in_ok-corners.ensures.items, c.in_ok-counts.ensures.items)
    (trace_begins w c.args.right c.in_ok-seen.seen.items c.walk.new.seen.items c.walk.new.corners.items blank
    (omega (arith, c.in_ok-seen.ensures.len, c.in_ok-walk.ensures.size, c.walk.new.seen.ok.0)) walked)

pub overflow_cast-len : goal.overflow_cast-len
overflow_cast-len c =
    omega (
      arith,
      walked_few (dart_map_of c.args.table.now) _ _ _ _ _ c.in_ok-walk-2.ensures.walked,
      c.len.ensures,
      c.len-before.ensures,
      c.darts.corners.ok.0,
      c.walk-then-index-ne2.new.corners.ok.0,
    )

pub darts-preserved : goal.darts-preserved
darts-preserved c =
    let w0 = dart_map_of c.args.table.now in
    elim c.if-not-index.branch [
      | then-not-index+then-index-ne2+in_ok-walk-2+in_ok-push w ↦
          let flags = c.darts.seen.items in
          let d = c.darts.start in
          let read = get_or_read flags d c.index.result.now (omega (arith, c.darts.invariant.size)) c.index.ensures false in
          let angle = get_or_read c.args.table.now.angle.items d w.index-then-not-index.result.now (omega arith) w.index-then-not-index.ensures 0 in
          let more = trace_more w0 c.args.right c.requires.turns.0 flags w.walk-then-index-ne2.new.seen.items c.darts.corners.items
          c.darts.counts.items c.walk.new.corners.items w.walk-then-index-ne2.new.corners.items d (w.len.result - w.len-before.result)
          c.requires.tied c.requires.inside c.requires.turns.1 (omega arith) (λ h. w.if-index-ne2.true (angle ∙ h))
          (λ m. both_ways c.index.result.now w.if-not-index.true (read ∙ m))
          (omega (arith, w.in_ok-walk-2.ensures.size, w.walk-then-index-ne2.new.seen.ok.0, c.darts.seen.ok.0))
          (omega (arith, w.len.ensures, w.len-before.ensures, w.walk-then-index-ne2.new.corners.ok.0, c.darts.corners.ok.0))
          c.darts.invariant w.in_ok-walk-2.ensures.walked in
          rw (w.seen-is, w.corners-is, w.counts-is, w.in_ok-push.ensures.items) more
      | else-not-index w ↦ elim w.else-not-index.branch [
        | else-not-index-via-then-not-index+else-index-ne2 v ↦
            let angle = get_or_read c.args.table.now.angle.items c.darts.start v.index-then-not-index.result.now (omega arith)
            v.index-then-not-index.ensures 0 in
            rw (w.seen-is, w.corners-is, w.counts-is)
            (trace_skips w0 c.args.right _ _ _ _ c.darts.start c.darts.invariant (inr (sym angle ∙ v.if-index-ne2.false)))
        | else-not-index-via-else-not-index v ↦
            let read = get_or_read c.darts.seen.items c.darts.start c.index.result.now (omega (arith, c.darts.invariant.size)) c.index.ensures false in
            rw (w.seen-is, w.corners-is, w.counts-is)
            (trace_skips w0 c.args.right _ _ _ _ c.darts.start c.darts.invariant (inl (sym read ∙ v.if-not-index.false)))
      ]
    ]

pub returns : goal.returns
returns c = record {
  listed = trace_done (dart_map_of c.args.table.now) c.args.right c.requires.turns.0 _ _ _ _ _ c.requires.tied c.requires.inside
      c.requires.turn c.requires.turns.1 (omega arith) c.darts.invariant;
}
