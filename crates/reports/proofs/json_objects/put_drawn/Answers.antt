use Rattle.std.proofs.Common.{◌≡◌, ◌∙◌, ◌++◌, ◌∷◌, [], ℕ, List, codes, sym}
use Rattle.std.proofs.lemmas.Result.{on_ok_weaker}
use Rattle.json.specs.Print.{escape_byte}
use Rattle.reports.specs.CauseWords.{word_of}
use Rattle.reports.proofs.Steps.{then, plain_word}
use Rattle.reports.proofs.json_objects.put_drawn.Goals as goal

pub returns-in-Ok : goal.returns-in-Ok
unfolding escape_byte
returns-in-Ok c = rw c.in-Ok.is c.put_bytes.ensures

pub returns-in_ok-put_bytes-in-Err-2 : goal.returns-in_ok-put_bytes-in-Err-2
unfolding escape_byte
returns-in_ok-put_bytes-in-Err-2 c =
    let old = c.args.out.now.items in
    let end = c.put_bytes-in-Err-3.new.out.items in
    let word : c.as_bytes.result.now ≡ word_of c.in-Err.cause = c.as_bytes.ensures.value ∙ c.word.ensures in
    let key : List ℕ = 44 ∷ 34 ∷ (codes "drawn" ++ 34 ∷ 58 ∷ 34 ∷ []) in
    rw (c.in-Err.is, plain_word c.in-Err.cause, sym word) (on_ok_weaker c.put_bytes-in-Err-3.result (λ last.
    then old c.put_bytes-in-Err.new.out.items end key (c.as_bytes.result.now ++ 34 ∷ []) c.in_ok-put_bytes-in-Err.ensures
    (then c.put_bytes-in-Err.new.out.items c.put_bytes-in-Err-2.new.out.items end c.as_bytes.result.now (34 ∷ []) c.in_ok-put_bytes-in-Err-2.ensures last)) c.put_bytes-in-Err-3.ensures)
