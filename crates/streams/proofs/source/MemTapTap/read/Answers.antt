use Rattle.std.proofs.Common.{◌≡◌, ℕ, ◌+◌, ◌-◌, ◌≤◌, List, ◌++◌, length, take, drop, refl, sym, ◌∙◌, ap, arith}
use Rattle.std.proofs.lemmas.List.{take-append-drop, drop-drop, take_at, length-take}
use Rattle.streams.proofs.source.MemTapTap.read.Goals as goal

-- what stood at a place was copied to the beginning of a buffer
copied_given : (bytes copied rest : List ℕ) (at count end : ℕ) → copied ≡ take (end - at) (drop at bytes) → end ≡ at + count → length copied ≡ count
    → drop at bytes ≡ take count (copied ++ rest) ++ drop end bytes
copied_given bytes copied rest at count end is ends long =
    let n : end - at ≡ count = omega arith in
    sym (take-append-drop count (drop at bytes))
    ∙ ap (λ l. l ++ drop count (drop at bytes)) (ap (λ k. take k (drop at bytes)) (sym n) ∙ sym is ∙ sym (take_at copied rest count long))
    ∙ ap (λ l. take count (copied ++ rest) ++ l) (drop-drop count at bytes ∙ ap (λ k. drop k bytes) (sym ends))

pub returns-clause-given : goal.returns-clause-given
returns-clause-given c =
    let at = c.args.self.now.at in
    let count = c.min-count.result in
    let bytes = c.args.self.now.bytes.items in
    let buffer = c.args.buf.now in
    let fits : count ≤ length buffer = omega (arith, c.min-count.ensures) in
    let long : length c.copy_from_slice.new.self ≡ count = omega (arith, c.copy_from_slice.ensures.len, length-take count buffer) in
    copied_given bytes c.copy_from_slice.new.self (drop count buffer) at count (at + count)
    (c.copy_from_slice.ensures.after ∙ ap (λ l. take (at + count - at) (drop at l)) c.deref.ensures.value) refl long
