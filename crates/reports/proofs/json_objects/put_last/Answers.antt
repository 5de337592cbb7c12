use Rattle.std.proofs.Common.{◌++◌, ◌∷◌, [], ℕ, List}
use Rattle.std.proofs.lemmas.Result.{on_ok_weaker}
use Rattle.json.specs.Print.{escape_byte}
use Rattle.serde_json.specs.Written.{compact_text}
use Rattle.reports.specs.LineData.{array_of, turns_data}
use Rattle.reports.proofs.Steps.{then}
use Rattle.reports.proofs.json_objects.put_last.Goals as goal

pub returns : goal.returns
unfolding escape_byte
returns c =
    let end = c.put_bytes-2.new.out.items in
    let turns : List ℕ = compact_text (array_of turns_data c.args.shape.now.strings) in
    on_ok_weaker c.put_bytes-2.result (λ last.
    then c.args.out.now.items c.put_bytes.new.out.items end _ (turns ++ 125 ∷ []) c.in_ok-put_bytes.ensures
    (then c.put_bytes.new.out.items c.put_turns.new.out.items end turns (125 ∷ []) c.in_ok-put_turns.ensures last)) c.put_bytes-2.ensures
