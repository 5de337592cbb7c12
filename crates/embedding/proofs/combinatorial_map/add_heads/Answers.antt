use Rattle.std.proofs.Common.{◌≡◌, ℕ, ◌+◌, ◌<◌, List, [], length, get_or, refl, sym, ap, ◌∙◌, subst, arith}
use Rattle.embedding.specs.Darts.{first_dart, head_of}
use Rattle.embedding.specs.Tables.{IsTable}
use Rattle.embedding.proofs.Entries.{Stands, stands_at, stands_below}
use Rattle.embedding.proofs.Building.{table_push, first_dart-more}
use Rattle.embedding.proofs.combinatorial_map.add_heads.Goals as goal

pub push_reserved-requires : goal.push_reserved-requires
push_reserved-requires c =
    let g = c.args.lists.now in
    let i = c.darts.head-index in
    let inside : i < length (get_or g c.args.place []) = omega (arith, c.darts-test.true, ap length c.at-list.ensures.value) in
    omega (arith, c.darts.heads.ok.0, c.darts.invariant.heads.size, c.darts.invariant.room, stands_below g c.args.place i c.requires.within inside)

pub darts-preserved : goal.darts-preserved
darts-preserved c =
    let g = c.args.lists.now in
    let k = c.args.place in
    let i = c.darts.head-index in
    let inside : i < length (get_or g k []) = omega (arith, c.darts-test.true, ap length c.at-list.ensures.value) in
    let s : Stands 1 g (first_dart g k + i) k i = stands_at 1 g (first_dart g k + i) k i c.requires.within inside refl in
    let head : head_of g (first_dart g k + i) ≡ get_or c.at-list.result.now i 0 =
    s.head ∙ ap (λ (l : List ℕ). get_or l i 0) (sym c.at-list.ensures.value) in
    record {
      heads = rw c.push_reserved.ensures.items (table_push _ (head_of g) _ _ _ (omega arith) (sym head) c.darts.invariant.heads);
      room = omega (arith, c.darts.invariant.room, c.push_reserved.ensures.capacity);
    }

pub returns-clause-heads : goal.returns-clause-heads
returns-clause-heads c =
    let g = c.args.lists.now in
    let all : first_dart g c.args.place + c.darts.head-index ≡ first_dart g (c.args.place + 1) =
    omega (arith, first_dart-more g c.args.place c.requires.within, ap length c.at-list.ensures.value, c.darts-test.false, c.darts.auto.head-index-end) in
    subst (λ (n : ℕ). IsTable n (head_of g) c.darts.heads.items) all c.darts.invariant.heads
