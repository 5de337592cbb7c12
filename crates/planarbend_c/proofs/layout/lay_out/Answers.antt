use Rattle.std.proofs.Common.{◌≡◌, List, ℕ, IfErr, IfOk, subst, sym}
use Rattle.std.proofs.lemmas.Result.{IfErr-weaker, IfOk-weaker, err_from_is_err_and}
use Rattle.planarbend_c.specs.declared.request.Layout.{Layout}
use Rattle.planarbend_c.specs.declared.request.Outcome.{Outcome}
use Rattle.planarbend_c.specs.Faults.{IsFault, IsFaultOf, IsUnparsed}
use Rattle.planarbend_c.specs.Found.{IsAsAsked, IsFound, finding_of}
use Rattle.planarbend_c.specs.Sources.{Input, IsOneRecord, input_lists, input_of}
use Rattle.planarbend_c.proofs.Told.{of_record, unparsed_anyhow}
use Rattle.planarbend_c.proofs.layout.lay_out.Goals as goal

unparsed_told : (input : Input) (it told : Outcome) → it ≡ told → IsUnparsed input told → IsFaultOf IsFault input it
unparsed_told input it told same shown = unparsed_anyhow IsFault input it (subst (IsUnparsed input) (sym same) shown)

pub returns-in_err-rec-clause-found : goal.returns-in_err-rec-clause-found
returns-in_err-rec-clause-found c = let p = err_from_is_err_and c.from_residual.result c.from_residual.ensures.1 in rw p.1 tt

pub returns-in_err-rec-clause-asked : goal.returns-in_err-rec-clause-asked
returns-in_err-rec-clause-asked c = let p = err_from_is_err_and c.from_residual.result c.from_residual.ensures.1 in rw p.1 tt

pub returns-in_err-rec-clause-is_record : goal.returns-in_err-rec-clause-is_record
returns-in_err-rec-clause-is_record c = let p = err_from_is_err_and c.from_residual.result c.from_residual.ensures.1 in rw p.1 tt

pub returns-in_err-rec-clause-fault : goal.returns-in_err-rec-clause-fault
returns-in_err-rec-clause-fault c =
    let p = err_from_is_err_and c.from_residual.result c.from_residual.ensures.1 in
    rw p.1 (unparsed_told (input_of c.args.source.now) p.0 _ p.2 c.in_err-rec.ensures.fault)

pub returns-clause-found : goal.returns-clause-found
returns-clause-found c =
    subst (λ (g : List (List ℕ)). IfOk c.laid_record.result (λ (layout : Layout). IsFound c.args.choice g (finding_of layout))) c.in_ok-rec.ensures.lists
    c.laid_record.ensures.found

pub returns-clause-asked : goal.returns-clause-asked
returns-clause-asked c = c.laid_record.ensures.asked

pub returns-clause-is_record : goal.returns-clause-is_record
returns-clause-is_record c =
    IfOk-weaker c.laid_record.result (λ (layout : Layout). IsAsAsked c.args.kind (finding_of layout)) (λ _. IsOneRecord (input_of c.args.source.now))
    (λ _ _. c.in_ok-rec.ensures.is_record) c.laid_record.ensures.asked

pub returns-clause-fault : goal.returns-clause-fault
returns-clause-fault c =
    IfErr-weaker c.laid_record.result (IsFault (input_lists (input_of c.args.source.now))) (IsFaultOf IsFault (input_of c.args.source.now))
    (λ it shown. of_record IsFault (input_of c.args.source.now) it c.in_ok-rec.ensures.is_record (λ never. never) (λ never. never) shown)
    (subst (λ (g : List (List ℕ)). IfErr c.laid_record.result (IsFault g)) c.in_ok-rec.ensures.lists c.laid_record.ensures.fault)
