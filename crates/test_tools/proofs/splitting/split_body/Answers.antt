use Rattle.std.proofs.Common.{List, ℕ, ◌≡◌, ◌≢◌, ◌∷◌, [], ◌++◌, ◌<◌, length, take, sym, ap, subst, ◌∙◌, arith}
use Rattle.std.proofs.lemmas.Bool.{eqb-true, eqb-false}
use Rattle.std.proofs.lemmas.List.{take_rest}
use Rattle.planar_code.specs.declared.TheConstants.{MAX_RECORDS}
use Rattle.planar_code.specs.Plain.{HasSplit}
use Rattle.planar_code.proofs.Plains.{split-complete, split-large, split-truncated, split-oversize, has_split-more, none-remaining}
use Rattle.test_tools.proofs.splitting.split_body.Goals as goal

pub returns-then-rest-eq0 : goal.returns-then-rest-eq0
returns-then-rest-eq0 c =
    let some : 0 < length c.loop-rest.rest.now = omega (arith, eqb-false _ _ (sym c.loop-rest-test.ensures)) in
    let room : length c.loop-rest.records.items ≢ MAX_RECORDS = λ e. c.if-len.false (c.len.ensures ∙ c.loop-rest.records.ok.0 ∙ e) in
    split-large c.args.body.now c.loop-rest.records.items c.loop-rest.rest.now c.loop-rest.invariant some room c.if-rest-eq0.true

pub loop-rest-preserved : goal.loop-rest-preserved
loop-rest-preserved c =
    let room : length c.loop-rest.records.items ≢ MAX_RECORDS = λ e. c.if-len.false (c.len.ensures ∙ c.loop-rest.records.ok.0 ∙ e) in
    let pushed : c.push.new.self.items ≡ c.loop-rest.records.items ++ take c.in-After.end c.loop-rest.rest.now ∷ []
    = ◌∙◌ {A = List (List ℕ)} c.in_ok-push-in-After.ensures.items (ap (λ z. c.loop-rest.records.items ++ z ∷ []) c.in-Ok.ensures.record) in
    subst (λ z. HasSplit c.args.body.now c.push.new.self.items z) (sym (take_rest c.loop-rest.rest.now c.in-After.end))
    (has_split-more c.args.body.now c.loop-rest.records.items c.loop-rest.rest.now c.loop-rest.invariant c.in-After.end c.push.new.self.items room c.in-After.ensures.2 pushed)

pub returns-in-Truncated : goal.returns-in-Truncated
returns-in-Truncated c =
    let some : 0 < length c.loop-rest.rest.now = omega (arith, eqb-false _ _ (sym c.loop-rest-test.ensures)) in
    let room : length c.loop-rest.records.items ≢ MAX_RECORDS = λ e. c.if-len.false (c.len.ensures ∙ c.loop-rest.records.ok.0 ∙ e) in
    split-truncated c.args.body.now c.loop-rest.records.items c.loop-rest.rest.now c.loop-rest.invariant some room c.in-Truncated.ensures

pub returns-in-Oversize : goal.returns-in-Oversize
returns-in-Oversize c =
    let room : length c.loop-rest.records.items ≢ MAX_RECORDS = λ e. c.if-len.false (c.len.ensures ∙ c.loop-rest.records.ok.0 ∙ e) in
    split-oversize c.args.body.now c.loop-rest.records.items c.loop-rest.rest.now c.loop-rest.invariant room c.in-Oversize.ensures

pub returns : goal.returns
returns c =
    split-complete c.args.body.now c.loop-rest.records.items c.loop-rest.rest.now c.loop-rest.invariant
    (none-remaining c.loop-rest.rest.now (eqb-true _ _ (sym c.loop-rest-test.ensures)))
