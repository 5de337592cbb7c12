-- One piece more: the framer stands where all pieces up to it have led to.
use Rattle.std.proofs.Common.{[], ◌∷◌, ◌++◌, take, sym, ap, subst, ◌∙◌}
use Rattle.std.proofs.lemmas.List.{take_more, flat_map_more}
use Rattle.std.specs.List.{flat_map}
use Rattle.planar_code.specs.FramerState.{StandsAt}
use Rattle.planar_code.proofs.Feeding.{stands-feeds}
use Rattle.test_tools.proofs.splitting.frame.Goals as goal

pub loop-piece-preserved : goal.loop-piece-preserved
loop-piece-preserved c =
    let i = c.loop-piece.piece-index in
    let all = c.args.pieces.now in
    let so_far = flat_map (λ piece. piece.items) (take i all) in
    let fed = stands-feeds c.loop-piece.framer c.feed.new.self c.as_slice.result.now c.loop-piece.records.items c.feed.new.out.items c.feed.result c.feed.ensures.feeds so_far c.loop-piece.invariant c.in_ok-check_memory.ensures.ok in
    let concatenated = ap (λ z. so_far ++ z) c.as_slice.ensures.value
    ∙ flat_map_more (λ piece. piece.items) [] (take i all) c.piece-item.result
    ∙ ap (flat_map (λ piece. piece.items)) (ap (λ z. take i all ++ z ∷ []) c.piece-item.is ∙ sym (take_more all i c.piece-item.result c.loop-piece-test.true)) in
    subst (λ z. StandsAt z c.feed.new.out.items c.feed.new.self) concatenated fed
