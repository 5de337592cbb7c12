use Rattle.std.proofs.Common.{sym}
use Rattle.std.proofs.lemmas.Result.{on_ok_weaker}
use Rattle.json.specs.Print.{escape_byte}
use Rattle.reports.proofs.Steps.{then}
use Rattle.reports.proofs.json_objects.put_place.Goals as goal

pub returns : goal.returns
unfolding escape_byte
returns c = on_ok_weaker c.put_number-2.result (λ last. rw (sym c.from.ensures) (then c.args.out.now.items c.put_number.new.out.items c.put_number-2.new.out.items _ _ c.in_ok-put_number.ensures last)) c.put_number-2.ensures
