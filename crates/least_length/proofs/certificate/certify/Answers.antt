use Rattle.std.proofs.Common.{◌≡◌, ◌∙◌, sym, true, rules}
use Rattle.std.proofs.lemmas.Result.{IfOk-weaker}
use Rattle.least_length.specs.Lengths.{coordinates_in}
use Rattle.least_length.proofs.Weighing.{certified, certificate_parts}
use Rattle.least_length.proofs.certificate.certify.Goals as goal

pub returns-clause-exact : goal.returns-clause-exact
returns-clause-exact c =
    let joined : c.have_ends.result ≡ true = search rules in
    let seen : c.are_sights.result ≡ true = search rules in
    IfOk-weaker c.is_balanced.result _ _
    (λ found even. certificate_parts c.args.segments.now c.args.wires.now (coordinates_in c.args.coordinates.now) c.args.sights.now found (c.in_ok-kept.ensures.0 (search rules)) (c.have_ends.ensures.0 joined) (c.are_sights.ensures.0 seen) (sym c.weigh.ensures ∙ c.if-weigh-length_of_wires.false ∙ c.length_of_wires.ensures) even)
    c.is_balanced.ensures

pub returns-clause-least : goal.returns-clause-least
returns-clause-least c =
    IfOk-weaker c.is_balanced.result _ _ (λ found exact h. certified c.args.segments.now c.args.wires.now (coordinates_in c.args.coordinates.now) c.args.sights.now (exact.0 h)) (returns-clause-exact c)
