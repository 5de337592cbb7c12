use Rattle.std.proofs.Common.{◌≡◌, ℕ, ◌+◌, ◌<◌, List, [], ◌∷◌, ◌++◌, length, get_or, sym, ap, ◌∙◌, arith}
use Rattle.std.proofs.lemmas.List.{take_more}
use Rattle.ortho_rep.specs.declared.turn_strings.Turn.{Turn}
use Rattle.ortho_rep.specs.declared.turn_strings.Turn.TheVariants.{Left}
use Rattle.ortho_rep.specs.Turns.{mirrored}
use Rattle.ortho_rep.proofs.Mirrors.{length-mirrored, get_or-mirrored}
use Rattle.referee.proofs.shape.mirror.Goals as goal

pub loop-k-preserved : goal.loop-k-preserved
loop-k-preserved c =
    let turns = c.args.turns.now in
    let k = c.loop-k.k in
    let all : List Turn = mirrored turns in
    let inside : k < length turns = omega arith in
    let within : k < length all = omega (arith, length-mirrored turns) in
    c.in_ok-add.ensures
    ∙ ap (λ (t : Turn). c.loop-k.back.items ++ t ∷ []) (c.opposite.ensures ∙ sym (get_or-mirrored turns k inside))
    ∙ ap (λ (ts : List Turn). ts ++ get_or all k Left ∷ []) c.loop-k.invariant
    ∙ sym (take_more all k Left within)
