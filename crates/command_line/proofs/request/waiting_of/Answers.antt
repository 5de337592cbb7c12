use Rattle.std.proofs.Common.{inl, inr, subst, arith}
use Rattle.command_line.specs.declared.reading.Setting.TheVariants as setting
use Rattle.command_line.specs.Requests.{IsNumberOf, IsWaiting, setting_text_in}
use Rattle.command_line.proofs.Asking.{same_number}
use Rattle.command_line.proofs.request.waiting_of.Goals as goal

pub returns-clause-none : goal.returns-clause-none
returns-clause-none c = λ waiting asked in_range.
    let text = setting_text_in setting.Waiting c.args.words.now in
    let number = subst (λ t. IsNumberOf 64 t c.number_or-waiting.result) c.setting_text.ensures c.number_or-waiting.ensures in
    let same = same_number 64 text waiting c.number_or-waiting.result asked number in
    let range : IsWaiting c.number_or-waiting.result = subst IsWaiting same in_range in
    elim c.else-waiting-ge1.either [ inl more ↦ omega (arith, range, more) | inr few ↦ omega (arith, range, few) ]
