use Rattle.std.proofs.Common.{List, ℕ, IfErr, IfOk, subst}
use Rattle.std.proofs.lemmas.Result.{IfErr-weaker, IfOk-weaker}
use Rattle.planarbend_c.specs.declared.request.Layout.{Layout}
use Rattle.planarbend_c.specs.Cuts.{cut_contents}
use Rattle.planarbend_c.specs.Faults.{IsKeepingFault, IsKeepingFaultOf}
use Rattle.planarbend_c.specs.Found.{IsAsAsked, IsFoundKeeping, finding_of}
use Rattle.planarbend_c.specs.Sources.{IsOneRecord, input_lists, input_of}
use Rattle.planarbend_c.proofs.Told.{of_record, unparsed_anyhow}
use Rattle.planarbend_c.proofs.layout.lay_out_keeping.Goals as goal

pub returns-in-Err-clause-fault : goal.returns-in-Err-clause-fault
returns-in-Err-clause-fault c =
    unparsed_anyhow (λ g shown. IsKeepingFault c.args.conditions.now c.args.choice g (cut_contents c.args.cut.now) shown) (input_of c.args.source.now) c.in-Err.outcome c.in-Err.ensures.fault

pub returns-in-Ok-clause-found : goal.returns-in-Ok-clause-found
returns-in-Ok-clause-found c =
    subst (λ (g : List (List ℕ)). IfOk c.laid_keeping.result (λ (layout : Layout). IsFoundKeeping c.args.conditions.now c.args.choice g (finding_of layout)))
    c.in-Ok.ensures.lists c.laid_keeping.ensures.found

pub returns-in-Ok-clause-is_record : goal.returns-in-Ok-clause-is_record
returns-in-Ok-clause-is_record c =
    IfOk-weaker c.laid_keeping.result (λ (layout : Layout). IsAsAsked c.args.kind (finding_of layout)) (λ (layout : Layout). IsOneRecord (input_of c.args.source.now))
    (λ layout known. c.in-Ok.ensures.is_record) c.laid_keeping.ensures.asked

pub returns-in-Ok-clause-fault : goal.returns-in-Ok-clause-fault
returns-in-Ok-clause-fault c =
    let input = input_of c.args.source.now in
    let now = cut_contents c.laid_keeping.new.cut in
    IfErr-weaker c.laid_keeping.result (IsKeepingFault c.args.conditions.now c.args.choice (input_lists input) now) (IsKeepingFaultOf c.args.conditions.now c.args.choice input now)
    (λ it shown. of_record (λ g outcome. IsKeepingFault c.args.conditions.now c.args.choice g now outcome) input it c.in-Ok.ensures.is_record (λ never. never) (λ never. never) shown)
    (subst (λ (g : List (List ℕ)). IfErr c.laid_keeping.result (IsKeepingFault c.args.conditions.now c.args.choice g now)) c.in-Ok.ensures.lists c.laid_keeping.ensures.fault)
