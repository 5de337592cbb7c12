use Rattle.std.proofs.Common.{◌≡◌, ◌∙◌, ◌∷◌, ◌+◌, ◌<◌, if◌then◌else◌, ℕ, Bool, true, List, String, Global, string_bytes, get_or, length, drop, ap, sym}
use Rattle.std.proofs.lemmas.List.{at_drop_more, at_drop_all}
use Rattle.command_line.specs.declared.reading.Role.{Role}
use Rattle.command_line.specs.declared.reading.Keyword.{Keyword}
use Rattle.command_line.specs.Requests.{role_after, asks, asks_from}
use Rattle.command_line.proofs.reading.asks.Goals as goal

-- what is left asks for it where its first word does, or else where the rest does
step : (w : Keyword) (role : Role) (words : List (String Global)) (i : ℕ) (word : String Global) (text : List ℕ) (asked : Bool) →
    i < length words → word ≡ get_or words i word → text ≡ string_bytes word → asked ≡ asks w role text →
    asks_from w role (drop i words) ≡ (if asked then true else asks_from w (role_after role text) (drop (i + 1) words))
step w role words i word text asked inside read says is = at_drop_more (asks_from w role) words i word inside
    ∙ ap (λ (x : String Global). asks_from w role (x ∷ drop (i + 1) words)) (sym read)
    ∙ ap (λ (t : List ℕ). if asks w role t then true else asks_from w (role_after role t) (drop (i + 1) words)) (sym says)
    ∙ ap (λ (b : Bool). if b then true else asks_from w (role_after role text) (drop (i + 1) words)) (sym is)

pub returns-then-asks : goal.returns-then-asks
returns-then-asks c =
    let more = step c.args.keyword c.loop-word.role c.args.words.now c.loop-word.word-index c.word-item.result c.as_str-text.result.now c.asks.result
    c.loop-word-test.true c.word-item.is c.as_str-text.ensures.value c.asks.ensures in
    ap (λ (b : Bool). if b then true else asks_from c.args.keyword (role_after c.loop-word.role c.as_str-text.result.now) (drop (c.loop-word.word-index + 1) c.args.words.now)) (sym c.if-asks.true)
    ∙ sym more ∙ c.loop-word.invariant

pub loop-word-preserved : goal.loop-word-preserved
loop-word-preserved c =
    let more = step c.args.keyword c.loop-word.role c.args.words.now c.loop-word.word-index c.word-item.result c.as_str-text.result.now c.asks.result
    c.loop-word-test.true c.word-item.is c.as_str-text.ensures.value c.asks.ensures in
    ap (λ (p : Role). asks_from c.args.keyword p (drop (c.loop-word.word-index + 1) c.args.words.now)) c.role_after-role.ensures
    ∙ ap (λ (b : Bool). if b then true else asks_from c.args.keyword (role_after c.loop-word.role c.as_str-text.result.now) (drop (c.loop-word.word-index + 1) c.args.words.now)) (sym c.if-asks.false)
    ∙ sym more ∙ c.loop-word.invariant

pub returns : goal.returns
returns c = sym (at_drop_all (asks_from c.args.keyword c.loop-word.role) c.args.words.now c.loop-word.word-index c.loop-word-test.false) ∙ c.loop-word.invariant
