use Rattle.std.proofs.Common.{ℕ, List, ◌++◌, ◌∷◌, [], ◌∙◌, ap, append-nil, map, sym, take}
use Rattle.std.proofs.lemmas.List.{map_more, take_all}
use Rattle.reports.specs.LineData.{letter_of}
use Rattle.reports.proofs.Steps.{then}
use Rattle.reports.proofs.json_text.put_letters.Goals as goal

pub loop-turn-init : goal.loop-turn-init
loop-turn-init c = sym (append-nil c.args.out.now.items)

pub loop-turn-preserved : goal.loop-turn-preserved
loop-turn-preserved c =
    let turns = c.args.turns.now in
    let letters = map letter_of (take c.loop-turn.turn-index turns) in
    then c.args.out.now.items c.loop-turn.out.items c.put_bytes.new.out.items letters (c.letter.result ∷ []) c.loop-turn.invariant c.in_ok-put_bytes.ensures
    ∙ ap (λ (letter : ℕ). c.args.out.now.items ++ (letters ++ letter ∷ [])) c.letter.ensures
    ∙ ap (λ (text : List ℕ). c.args.out.now.items ++ text) (sym (map_more letter_of turns c.loop-turn.turn-index _ c.loop-turn-test.true))

pub returns : goal.returns
returns c = c.loop-turn.invariant ∙ ap (λ turns. c.args.out.now.items ++ map letter_of turns) (take_all c.loop-turn.turn-index c.args.turns.now c.loop-turn-test.false)
