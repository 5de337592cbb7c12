use Rattle.std.proofs.Common.{◌≡◌, ℕ, List, ◌++◌, codes, refl, append_assoc}
use Rattle.streams.specs.declared.frames.Form.{Form}
use Rattle.streams.specs.declared.frames.Form.TheVariants.{Report, Json}
use Rattle.checking.specs.declared.judging.Verdict.{Verdict}
use Rattle.checking.specs.declared.judging.Verdict.TheVariants as verdict
use Rattle.checking.specs.Words.{word_of}
use Rattle.checking.specs.Text.{result_text}
use Rattle.checking.proofs.verdict_lines.push_result.Goals as goal

-- what is said of all but `Ok`
result_not_ok : (form : Form) (v : Verdict) → form ≡ Json → ((bends fewest : ℕ) → v ≡ verdict.Ok bends fewest → ⊥)
    → result_text form v ≡ codes ",\"ok\":false,\"fault\":\"" ++ word_of v ++ codes "\""
result_not_ok Report v is other = absurd (let e : Report ≡ Json = is in cc)
result_not_ok Json (verdict.Ok bends fewest) is other = absurd (other bends fewest refl)
result_not_ok Json _ is other = refl

-- three texts, one after another
three_pushed : (old first second third a b c word said : List ℕ) → first ≡ old ++ a → second ≡ first ++ b → third ≡ second ++ c → b ≡ word
    → said ≡ a ++ word ++ c → third ≡ old ++ said
three_pushed old first second third a b c word said one two three same is =
    let e : ((old ++ a) ++ word) ++ c ≡ old ++ (a ++ word ++ c) = simp append_assoc in
    let f : third ≡ ((old ++ a) ++ word) ++ c = rw (three, two, one, same) in
    let g : old ++ said ≡ old ++ (a ++ word ++ c) = rw is in
    cc

pub returns-in_default-clause-text : goal.returns-in_default-clause-text
returns-in_default-clause-text c =
    three_pushed _ _ _ _ _ _ _ (word_of c.args.verdict) _ c.push-in_default.ensures c.push_word-in_default.ensures.text c.push-in_default-2.ensures refl
    (result_not_ok c.args.form c.args.verdict c.in-Json.is c.in_default.not-Ok)
