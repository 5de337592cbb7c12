use Rattle.std.proofs.Common.{◌≡◌, ◌↔◌, Bool, true, AllPairs, rules}
use Rattle.std.proofs.lemmas.Result.{IfOk-weaker}
use Rattle.std.proofs.lemmas.List.Sorted.{IsNonDecreasingBy-from_sort_by_key, All-permutation, IsPermutation-sym}
use Rattle.geometry.specs.declared.plane_sweep.Rectangle.{Rectangle}
use Rattle.geometry.specs.Rectangles.{IsNonempty, AreApart}
use Rattle.geometry.proofs.Pairs.{AllPairs-permutation}
use Rattle.geometry.proofs.plane_sweep.all_apart_in.Goals as goal

pub sweep-requires-clause-filled : goal.sweep-requires-clause-filled
sweep-requires-clause-filled c =
    rw c.deref-in-None.ensures.value (All-permutation IsNonempty _ _ c.sort_unstable_by_key.ensures.permutation c.requires)

pub sweep-requires-clause-ordered : goal.sweep-requires-clause-ordered
sweep-requires-clause-ordered c =
    rw c.deref-in-None.ensures.value (IsNonDecreasingBy-from_sort_by_key (λ (r : Rectangle). r.left) _ c.sort_unstable_by_key.ensures.sorted (λ a r q k. search rules))

pub returns-in-None : goal.returns-in-None
returns-in-None c =
    let moved = c.sort_unstable_by_key.ensures.permutation in
    let mirror : (r s : Rectangle) → AreApart r s → AreApart s r = λ r s apart x y in_s in_r. apart x y in_r in_s in
    let sorted = c.sort_unstable_by_key.new.self.items in
    IfOk-weaker c.sweep.result _ _
    (λ (b : Bool) (h : (b ≡ true) ↔ AllPairs AreApart sorted).
    (λ t. AllPairs-permutation AreApart mirror _ _ (IsPermutation-sym _ _ moved) (h.0 t), λ apart. h.1 (AllPairs-permutation AreApart mirror _ _ moved apart)))
    (rw c.deref-in-None.ensures.value at c.sweep.ensures)

pub returns-in-Some : goal.returns-in-Some
returns-in-Some c = rw c.deref-in-Some.ensures.value at c.flag_all.ensures
