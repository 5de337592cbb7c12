use Rattle.std.proofs.Common.{◌≡◌, ℕ, ◌<◌, get_or, false, sym, ap, ◌∙◌, arith}
use Rattle.embedding.proofs.Reached.{queue_room, queue_more, flags_others}
use Rattle.embedding.proofs.adjacency.reach.Goals as goal

pub bounds-vertices-vertices : goal.bounds-vertices-vertices
bounds-vertices-vertices c =
    let new : get_or c.args.vertices.now.reached c.args.vertex false ≡ false =
    ap (λ (k : ℕ). get_or c.args.vertices.now.reached k false) (sym c.from.ensures) ∙ c.if-not-vertices-from.true in
    let room = queue_room _ _ _ c.args.vertex c.requires.small new c.requires.queue in
    omega (arith, room)

pub offset_bounds-vertices-vertices : goal.offset_bounds-vertices-vertices
offset_bounds-vertices-vertices c =
    let new : get_or c.args.vertices.now.reached c.args.vertex false ≡ false =
    ap (λ (k : ℕ). get_or c.args.vertices.now.reached k false) (sym c.from.ensures) ∙ c.if-not-vertices-from.true in
    let room = queue_room _ _ _ c.args.vertex c.requires.small new c.requires.queue in
    omega (arith, room)

pub overflow_add-vertices : goal.overflow_add-vertices
overflow_add-vertices c =
    let new : get_or c.args.vertices.now.reached c.args.vertex false ≡ false =
    ap (λ (k : ℕ). get_or c.args.vertices.now.reached k false) (sym c.from.ensures) ∙ c.if-not-vertices-from.true in
    let room = queue_room _ _ _ c.args.vertex c.requires.small new c.requires.queue in
    omega (arith, room)

pub returns-then-not-vertices-from-clause-queue : goal.returns-then-not-vertices-from-clause-queue
returns-then-not-vertices-from-clause-queue c =
    let new : get_or c.args.vertices.now.reached c.args.vertex false ≡ false =
    ap (λ (k : ℕ). get_or c.args.vertices.now.reached k false) (sym c.from.ensures) ∙ c.if-not-vertices-from.true in
    rw c.from-then-not-vertices-from.ensures (queue_more _ _ _ c.args.vertex c.requires.small new c.requires.queue)

pub returns-then-not-vertices-from-clause-others : goal.returns-then-not-vertices-from-clause-others
returns-then-not-vertices-from-clause-others c =
    rw c.from-then-not-vertices-from.ensures (λ v holds. flags_others c.args.vertices.now.reached c.args.vertex v holds)
