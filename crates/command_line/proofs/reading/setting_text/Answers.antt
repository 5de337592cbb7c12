use Rattle.std.proofs.Common.{◌≡◌, ◌∙◌, ◌∷◌, ◌+◌, ◌<◌, ℕ, List, Option, None, Some, Bor, String, Global, option_map, string_bytes, get_or, length, drop, ap, sym}
use Rattle.std.proofs.lemmas.List.{at_drop_more, at_drop_all}
use Rattle.command_line.specs.declared.reading.Role.{Role}
use Rattle.command_line.specs.declared.reading.Setting.{Setting}
use Rattle.command_line.specs.Requests.{role_after, setting_text, setting_text_from, text_or}
use Rattle.command_line.proofs.reading.setting_text.Goals as goal

-- what is left gives what its first word does, or else what the rest does
step : (n : Setting) (role : Role) (words : List (String Global)) (i : ℕ) (word : String Global) (text : List ℕ) (given : Option (Bor (List ℕ))) →
    i < length words → word ≡ get_or words i word → text ≡ string_bytes word → option_map (λ t. t.now) given ≡ setting_text n role text →
    setting_text_from n role (drop i words) ≡ text_or (option_map (λ t. t.now) given) (setting_text_from n (role_after role text) (drop (i + 1) words))
step n role words i word text given inside read says is = at_drop_more (setting_text_from n role) words i word inside
    ∙ ap (λ (x : String Global). setting_text_from n role (x ∷ drop (i + 1) words)) (sym read)
    ∙ ap (λ (t : List ℕ). text_or (setting_text n role t) (setting_text_from n (role_after role t) (drop (i + 1) words))) (sym says)
    ∙ ap (λ (g : Option (List ℕ)). text_or g (setting_text_from n (role_after role text) (drop (i + 1) words))) (sym is)

pub returns-in-Some : goal.returns-in-Some
returns-in-Some c =
    let more = step c.args.setting c.loop-word.role c.args.words.now c.loop-word.word-index c.word-item.result c.as_str-text.result.now (Some c.in-Some.given)
    c.loop-word-test.true c.word-item.is c.as_str-text.ensures.value c.in-Some.ensures in
    sym more ∙ c.loop-word.invariant

pub loop-word-preserved : goal.loop-word-preserved
loop-word-preserved c =
    let more = step c.args.setting c.loop-word.role c.args.words.now c.loop-word.word-index c.word-item.result c.as_str-text.result.now None
    c.loop-word-test.true c.word-item.is c.as_str-text.ensures.value c.in_default.ensures in
    ap (λ (p : Role). setting_text_from c.args.setting p (drop (c.loop-word.word-index + 1) c.args.words.now)) c.role_after-role.ensures
    ∙ sym more ∙ c.loop-word.invariant

pub returns : goal.returns
returns c = sym (at_drop_all (setting_text_from c.args.setting c.loop-word.role) c.args.words.now c.loop-word.word-index c.loop-word-test.false) ∙ c.loop-word.invariant
