use Rattle.std.proofs.Common.{◌<◌, ◌≤◌, length, get_or, Some, ap, ◌∙◌, arith}
use Rattle.lanes.proofs.MemFiles.{opens_there, opens_past}
use Rattle.lanes.proofs.run.MemOpenerOpener.open.Goals as goal

pub returns-in_default-clause-opens : goal.returns-in_default-clause-opens
returns-in_default-clause-opens c =
    let files = c.args.self.now.files.items in
    let past : length files ≤ c.args.file = omega (arith, ap length c.deref.ensures.value, c.in_default.ensures.lookup.3) in
    opens_past _ _ files c.args.file _ past

pub returns-in-Ok-clause-opens : goal.returns-in-Ok-clause-opens
returns-in-Ok-clause-opens c =
    let files = c.args.self.now.files.items in
    let bytes = c.in-Some.bytes.now in
    let found = c.in-Some.ensures.lookup in
    let below : c.args.file < length files = omega (arith, ap length c.deref.ensures.value, found.3.0) in
    let there = found.1 ∙ ap (λ all. get_or all c.args.file bytes) c.deref.ensures.value in
    let tells = c.new.ensures.tells ∙ ap Some (c.in-Ok.ensures.items ∙ c.deref-2.ensures.value) in
    opens_there _ _ files c.args.file c.new.result bytes below there tells c.new.ensures.ends
