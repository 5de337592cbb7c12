-- With no byte of a record so far, the text begins it.
use Rattle.std.proofs.Common.{◌≡◌, ◌<◌, [], ◌++◌, get_or, sym, subst, ◌∙◌, arith}
use Rattle.std.proofs.lemmas.Bool.{eqb-true}
use Rattle.planar_code.specs.Split.{BeginsWithZero}
use Rattle.planar_code.specs.Started.{IsStarted}
use Rattle.planar_code.specs.Scan.{Scans}
use Rattle.planar_code.proofs.Started.{started-first}
use Rattle.planar_code.proofs.Scanning.{empty-length, take-first, zero_first}
use Rattle.planar_code.proofs.partial_record.PartialRecord.scan.Goals as goal
use Rattle.planar_code.proofs.partial_record.PartialRecord.scan.Goals.{Else-not-is_empty}

pub returns-then-order-eq0 : goal.returns-then-order-eq0
returns-then-order-eq0 c =
    let len = eqb-true _ _ (sym c.if-not-is_empty.ensures) in
    let none : [] ≡ c.args.self.now = sym (empty-length c.self.inside.bytes.items (omega (arith, c.self.inside.bytes.ok.0))) ∙ c.self.view_is in
    subst (λ z. BeginsWithZero (z ++ c.args.text.now)) none (zero_first c.args.text.now c.requires c.if-order-eq0.true)

pub returns : goal.returns
returns c =
    let len = eqb-true _ _ (sym c.if-not-is_empty.ensures) in
    let none : [] ≡ c.args.self.now = sym (empty-length c.self.inside.bytes.items (omega (arith, c.self.inside.bytes.ok.0))) ∙ c.self.view_is in
    let nonzero : 0 < get_or c.args.text.now 0 0 = omega (arith, c.if-order-eq0.false) in
    let started = started-first (get_or c.args.text.now 0 0) nonzero (omega (arith, c.type_inv.text 0)) in
    subst (λ z. Scans z c.args.text.now c.scan_lists-2.result) none
    (c.scan_lists-2.ensures [] (subst (λ z. IsStarted z (get_or c.args.text.now 0 0) 0) (sym (take-first c.args.text.now c.requires)) started))
