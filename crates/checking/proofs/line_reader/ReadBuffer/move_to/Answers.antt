use Rattle.std.proofs.Common.{◌≡◌, ℕ, ◌+◌, ◌-◌, ◌≤◌, ◌<◌, List, [], ◌∷◌, ◌++◌, length, take, drop, sym, ap, subst, ◌∙◌, length-take, arith}
use Rattle.std.proofs.lemmas.List.{drop-drop, drop-take}
use Rattle.checking.specs.Lines.{IsNoEnd, IsCollected}
use Rattle.checking.proofs.line_reader.ReadBuffer.move_to.Goals as goal

-- what is left after place k of a part of the items
left_behind : (items : List ℕ) (at end k : ℕ) → k + 1 ≤ end - at → drop (k + 1) (take (end - at) (drop at items)) ≡ take (end - (at + (k + 1))) (drop (at + (k + 1)) items)
left_behind items at end k few =
    let all : end - at ≡ (k + 1) + (end - (at + (k + 1))) = omega arith in
    ap (λ n. drop (k + 1) (take n (drop at items))) all
    ∙ drop-take (k + 1) (end - (at + (k + 1))) (drop at items)
    ∙ ap (take (end - (at + (k + 1)))) (drop-drop (k + 1) at items)

-- a place of a part lies in it
inside_part : (items : List ℕ) (n k : ℕ) → k < length (take n items) → k + 1 ≤ n
inside_part items n k h = omega (arith, length-take n items)

-- nothing is left where the end is the beginning
none_left : (items : List ℕ) (end : ℕ) → take (end - end) (drop end items) ≡ []
none_left items end = ap (λ n. take n (drop end items)) (let e : end - end ≡ 0 = omega arith in e)

pub returns-in-Some-clause-ended : goal.returns-in-Some-clause-ended
returns-in-Some-clause-ended c = λ _.
    let at = c.self.inside.at in
    let end = c.self.inside.end in
    let items = c.self.inside.piece.items in
    let k = c.in-Some.count in
    let bytes = take (end - at) (drop at c.deref.result.now) in
    let same : bytes ≡ c.args.self.now = ap (λ l. take (end - at) (drop at l)) c.deref.ensures.value ∙ c.self.view_is in
    let few = inside_part (drop at c.deref.result.now) (end - at) k c.in-Some.ensures.some in
    let left : drop (k + 1) bytes ≡ take (end - (at + (k + 1))) (drop (at + (k + 1)) items) =
    ap (λ l. drop (k + 1) (take (end - at) (drop at l))) c.deref.ensures.value ∙ left_behind items at end k few in
    (take k bytes, c.in-Some.ensures.before, sym same ∙ c.in-Some.ensures.ended ∙ ap (λ l. take k bytes ++ 10 ∷ l) left, c.add.ensures)

pub returns-in-None-clause-open : goal.returns-in-None-clause-open
returns-in-None-clause-open c = λ _.
    let at = c.self.inside.at in
    let end = c.self.inside.end in
    let bytes = take (end - at) (drop at c.deref.result.now) in
    let same : bytes ≡ c.args.self.now = ap (λ l. take (end - at) (drop at l)) c.deref.ensures.value ∙ c.self.view_is in (
      none_left c.self.inside.piece.items end,
      subst IsNoEnd same c.in-None.ensures.none,
      λ seen kept. subst (λ (l : List ℕ). IsCollected (seen ++ l) c.add-in-None.new.self.bytes.items c.add-in-None.new.self.long) same (c.add-in-None.ensures seen kept),
    )
