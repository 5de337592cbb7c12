use Rattle.std.proofs.Common.{◌∙◌, replicate, ap, sym, arith}
use Rattle.std.proofs.lemmas.List.{take-replicate}
use Rattle.ortho_rep.specs.declared.turn_strings.TheConstants.{MAX_REPEATS}
use Rattle.ortho_rep.specs.declared.turn_strings.Turn.TheVariants.{Left, Right}
use Rattle.ortho_rep.proofs.turn_strings.repeat.Goals as goal

pub returns-in-Left : goal.returns-in-Left
returns-in-Left c =
    take-replicate c.from.result MAX_REPEATS Left (omega (arith, c.from.ensures))
    ∙ (ap (λ n. replicate n Left) c.from.ensures ∙ ap (replicate c.args.count) (sym c.in-Left.is))

pub returns-in-Right : goal.returns-in-Right
returns-in-Right c =
    take-replicate c.from-in-Right.result MAX_REPEATS Right (omega (arith, c.from-in-Right.ensures))
    ∙ (ap (λ n. replicate n Right) c.from-in-Right.ensures ∙ ap (replicate c.args.count) (sym c.in-Right.is))
