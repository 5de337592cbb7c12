use Rattle.std.proofs.Common.{◌≡◌, ℕ, ◌+◌, ◌*◌, ◌<◌, List, [], ◌∷◌, ◌++◌, length, get_or, set, take, refl, sym, ap, ◌∙◌, subst, arith}
use Rattle.std.proofs.lemmas.List.{length-set}
use Rattle.std.proofs.lemmas.Grind.{take-set_at}
use Rattle.embedding.specs.Darts.{first_dart, head_of, reverse_of, after_of}
use Rattle.embedding.specs.Tables.{IsRotation}
use Rattle.embedding.proofs.Entries.{Stands, stands_at, stands_below}
use Rattle.embedding.proofs.Parts.{first_dart-within}
use Rattle.embedding.proofs.Building.{ties_push, first_dart-more, after_found}
use Rattle.embedding.proofs.combinatorial_map.write_list_rotation.Goals as goal

-- the rotation of the first n darts, and then of one more
one_more : (g : List (List ℕ)) (n p q x y m : ℕ) (rotation : List ℕ) → p ≡ 2 * n → q ≡ p + 1 → q < length rotation → m ≡ n + 1 → x ≡ reverse_of g n → y ≡ after_of g n
    → IsRotation g n (take (2 * n) rotation) → IsRotation g m (take (2 * m) (set (set rotation p x) q y))
one_more g n p q x y m rotation here there inside more turned follows l =
    let half = set rotation p x in
    let first : take p rotation ≡ take (2 * n) rotation = ap (λ (k : ℕ). take k rotation) here in
    let one : take q half ≡ take p rotation ++ x ∷ [] = take-set_at rotation p q x there (omega arith) in
    let all : take (2 * m) (set half q y) ≡ take q half ++ y ∷ [] =
    take-set_at half q (2 * m) y (omega arith) (omega (arith, length-set rotation p x)) in
    rw (all, one, first) (ties_push g n (take (2 * n) rotation) x y m more turned follows l)

pub overflow_add-end : goal.overflow_add-end
overflow_add-end c =
    let g = c.args.lists.now in
    let k = c.args.place in
    omega (arith, first_dart-more g k c.requires.within, first_dart-within g (k + 1), ap length c.at-list.ensures.value, c.first_dart-first.ensures.value, c.first_dart-first.ensures.few)

pub overflow_add-next : goal.overflow_add-next
overflow_add-next c =
    let g = c.args.lists.now in
    let i = c.darts.head-index in
    let inside : i < length (get_or g c.args.place []) = omega (arith, c.darts-test.true, ap length c.at-list.ensures.value) in
    omega (arith, c.darts.invariant.next, stands_below g c.args.place i c.requires.within inside, c.first_dart-first.ensures.few)

pub bounds-rotation-pair : goal.bounds-rotation-pair
bounds-rotation-pair c =
    let g = c.args.lists.now in
    let i = c.darts.head-index in
    let inside : i < length (get_or g c.args.place []) = omega (arith, c.darts-test.true, ap length c.at-list.ensures.value) in
    omega (arith, c.darts.invariant.next, c.from-pair.ensures, c.requires.size, c.darts.auto.rotation, stands_below g c.args.place i c.requires.within inside)

pub bounds-rotation-pair-in-darts : goal.bounds-rotation-pair-in-darts
bounds-rotation-pair-in-darts c =
    let g = c.args.lists.now in
    let i = c.darts.head-index in
    let inside : i < length (get_or g c.args.place []) = omega (arith, c.darts-test.true, ap length c.at-list.ensures.value) in
    omega (arith, c.darts.invariant.next, c.from-pair.ensures, c.requires.size, c.darts.auto.rotation, length-set c.darts.rotation (2 * c.from-pair.result) c.reverse_between.result, stands_below g c.args.place i c.requires.within inside)

pub darts-preserved : goal.darts-preserved
darts-preserved c =
    let g = c.args.lists.now in
    let k = c.args.place in
    let i = c.darts.head-index in
    let long = ap length c.at-list.ensures.value in
    let inside : i < length (get_or g k []) = omega (arith, c.darts-test.true, long) in
    let below = stands_below g k i c.requires.within inside in
    let s : Stands 1 g (first_dart g k + i) k i = stands_at 1 g (first_dart g k + i) k i c.requires.within inside refl in
    let head : head_of g (first_dart g k + i) ≡ get_or c.at-list.result.now i 0 =
    s.head ∙ ap (λ (l : List ℕ). get_or l i 0) (sym c.at-list.ensures.value) in
    let back = c.reverse_between.ensures (first_dart g k + i) below (s.tail ∙ omega arith) head in
    let turned = after_found g k i c.darts.next c.first_dart-first.result (c.first_dart-first.result + length c.at-list.result.now) c.after_in.result c.requires.within inside c.darts.invariant.next c.first_dart-first.ensures.value (omega (arith, long)) c.after_in.ensures.inside c.after_in.ensures.last in
    let pair : 2 * c.from-pair.result ≡ 2 * (first_dart g k + i) = omega (arith, c.from-pair.ensures, c.darts.invariant.next) in
    record {
      next = omega (arith, c.darts.invariant.next);
      written = one_more g (first_dart g k + i) _ _ c.reverse_between.result c.after_in.result _ c.darts.rotation pair refl (omega (arith, pair, c.requires.size, c.darts.auto.rotation, below)) (omega arith) back turned c.darts.invariant.written;
    }

pub returns : goal.returns
returns c =
    let g = c.args.lists.now in
    let all : first_dart g c.args.place + c.darts.head-index ≡ first_dart g (c.args.place + 1) =
    omega (arith, first_dart-more g c.args.place c.requires.within, ap length c.at-list.ensures.value, c.darts-test.false, c.darts.auto.head-index-end) in
    subst (λ (n : ℕ). IsRotation g n (take (2 * n) c.darts.rotation)) all c.darts.invariant.written
