use Rattle.std.proofs.Common.{◌≡◌, ◌∙◌, ◌∷◌, ◌+◌, ◌<◌, if◌then◌else◌, ℕ, Bool, false, List, String, Global, string_bytes, get_or, length, drop, ap, sym}
use Rattle.std.proofs.lemmas.List.{at_drop_more, at_drop_all}
use Rattle.command_line.specs.declared.reading.Role.{Role}
use Rattle.command_line.specs.declared.reading.Keyword.{Keyword}
use Rattle.command_line.specs.Requests.{role_after, fits, fit_from}
use Rattle.command_line.proofs.reading.all_fit.Goals as goal

-- what is left fits where its first word does, and the rest
step : (w : Keyword) (role : Role) (words : List (String Global)) (i : ℕ) (word : String Global) (text : List ℕ) (fit : Bool) →
    i < length words → word ≡ get_or words i word → text ≡ string_bytes word → fit ≡ fits w role text →
    fit_from w role (drop i words) ≡ (if fit then fit_from w (role_after role text) (drop (i + 1) words) else false)
step w role words i word text fit inside read says is = at_drop_more (fit_from w role) words i word inside
    ∙ ap (λ (x : String Global). fit_from w role (x ∷ drop (i + 1) words)) (sym read)
    ∙ ap (λ (t : List ℕ). if fits w role t then fit_from w (role_after role t) (drop (i + 1) words) else false) (sym says)
    ∙ ap (λ (b : Bool). if b then fit_from w (role_after role text) (drop (i + 1) words) else false) (sym is)

pub returns-then-not-fits : goal.returns-then-not-fits
returns-then-not-fits c =
    let more = step c.args.command c.loop-word.role c.args.words.now c.loop-word.word-index c.word-item.result c.as_str-text.result.now c.fits.result
    c.loop-word-test.true c.word-item.is c.as_str-text.ensures.value c.fits.ensures in
    ap (λ (b : Bool). if b then fit_from c.args.command (role_after c.loop-word.role c.as_str-text.result.now) (drop (c.loop-word.word-index + 1) c.args.words.now) else false) (sym c.if-not-fits.true)
    ∙ sym more ∙ c.loop-word.invariant

pub loop-word-preserved : goal.loop-word-preserved
loop-word-preserved c =
    let more = step c.args.command c.loop-word.role c.args.words.now c.loop-word.word-index c.word-item.result c.as_str-text.result.now c.fits.result
    c.loop-word-test.true c.word-item.is c.as_str-text.ensures.value c.fits.ensures in
    ap (λ (p : Role). fit_from c.args.command p (drop (c.loop-word.word-index + 1) c.args.words.now)) c.role_after-role.ensures
    ∙ ap (λ (b : Bool). if b then fit_from c.args.command (role_after c.loop-word.role c.as_str-text.result.now) (drop (c.loop-word.word-index + 1) c.args.words.now) else false) (sym c.if-not-fits.false)
    ∙ sym more ∙ c.loop-word.invariant

pub returns : goal.returns
returns c = c.may_end.ensures ∙ sym (at_drop_all (fit_from c.args.command c.loop-word.role) c.args.words.now c.loop-word.word-index c.loop-word-test.false) ∙ c.loop-word.invariant
