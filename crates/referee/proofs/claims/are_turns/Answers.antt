use Rattle.std.proofs.Common.{◌≡◌, ◌<◌, ℕ, List, [], Vec, Global, length, get_or, refl, sym, ap, ◌∙◌, below_more, arith}
use Rattle.std.proofs.lemmas.Bool.{false≢true, iff_false}
use Rattle.std.proofs.lemmas.List.{ext_get_or, get_or-map, length-map}
use Rattle.ortho_rep.specs.declared.turn_strings.Turn.{Turn}
use Rattle.ortho_rep.specs.Storage.{lists_in}
use Rattle.referee.proofs.claims.are_turns.Goals as goal

items_at : (vectors : List (Vec Turn Global)) (k : ℕ) (v : Vec Turn Global) → k < length vectors → v ≡ get_or vectors k v → get_or (lists_in vectors) k [] ≡ v.items
items_at vectors k v inside is =
    get_or-map (λ (w : Vec Turn Global). w.items) vectors k v [] inside ∙ ap (λ (w : Vec Turn Global). w.items) (sym is)

pub loop-dart-preserved : goal.loop-dart-preserved
loop-dart-preserved c =
    let vectors = c.args.strings.now in
    let inside : c.loop-dart.dart < length vectors = omega arith in
    let same = c.same_turns.ensures.0 c.if-not-same_turns.false in
    below_more _ _ c.loop-dart.invariant
    (items_at vectors c.loop-dart.dart c.index-strings-dart.result inside c.index-strings-dart.is ∙ sym c.as_slice.ensures.value ∙ same ∙ c.turns.ensures.value)

pub returns-then-not-same_turns : goal.returns-then-not-same_turns
returns-then-not-same_turns c =
    let vectors = c.args.strings.now in
    let dart = c.loop-dart.dart in
    let inside : dart < length vectors = omega arith in (
      λ e. absurd (false≢true e),
      λ h. absurd (iff_false c.same_turns.ensures c.if-not-same_turns.true
          (c.as_slice.ensures.value ∙ sym (items_at vectors dart c.index-strings-dart.result inside c.index-strings-dart.is)
          ∙ ap (λ (l : List (List Turn)). get_or l dart []) h ∙ sym c.turns.ensures.value)),
    )

pub returns : goal.returns
returns c =
    let vectors = c.args.strings.now in
    let theirs : List (List Turn) = c.args.shape.now.strings in
    let count : length vectors ≡ length theirs = omega arith in
    let size : length (lists_in vectors) ≡ length theirs = length-map vectors (λ (w : Vec Turn Global). w.items) ∙ count in (
      λ _. ext_get_or [] (lists_in vectors) theirs size (λ k lt. c.loop-dart.invariant k (omega (arith, lt, size, count))),
      λ _. refl,
    )
