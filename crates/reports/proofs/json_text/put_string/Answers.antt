use Rattle.std.proofs.Common.{ℕ, List, ◌++◌, ◌∷◌, [], ◌∙◌, ap, map, sym}
use Rattle.std.proofs.lemmas.Result.{on_ok_weaker}
use Rattle.serde_json.specs.Written.{comma_if}
use Rattle.reports.specs.LineData.{letter_of}
use Rattle.reports.proofs.Steps.{then, plain_letters}
use Rattle.reports.proofs.json_text.put_string.Goals as goal

pub returns : goal.returns
returns c =
    let old = c.args.out.now.items in
    let letters = map letter_of c.args.turns.now in
    on_ok_weaker c.put_bytes-3.result (λ last.
    then old c.put_comma.new.out.items c.put_bytes-3.new.out.items (comma_if c.args.later) (34 ∷ (letters ++ 34 ∷ [])) c.in_ok-put_comma.ensures
    (then c.put_comma.new.out.items c.put_bytes-2.new.out.items c.put_bytes-3.new.out.items (34 ∷ []) (letters ++ 34 ∷ []) c.in_ok-put_bytes.ensures
    (then c.put_bytes-2.new.out.items c.put_letters.new.out.items c.put_bytes-3.new.out.items letters (34 ∷ []) c.in_ok-put_letters.ensures last))
    ∙ ap (λ (text : List ℕ). old ++ (comma_if c.args.later ++ 34 ∷ (text ++ 34 ∷ []))) (sym (plain_letters c.args.turns.now))) c.put_bytes-3.ensures
