use Rattle.std.proofs.Common.{map, ◌∙◌}
use Rattle.serde_json.specs.View.{view}
use Rattle.checking.specs.Values.{letter_of}
use Rattle.checking.proofs.Parts.{same_texts, weaker}
use Rattle.checking.proofs.claims.turns_of.Goals as goal

pub returns-clause-none : goal.returns-clause-none
returns-clause-none c = weaker c.turns_of_letters.result
    (λ fault none memory turns said. none memory turns
    (c.as_bytes.ensures.value ∙ same_texts (view c.args.value.now) c.in_ok-text.text.now (map letter_of turns) c.in_ok-text.ensures.ok said))
    c.turns_of_letters.ensures.none
