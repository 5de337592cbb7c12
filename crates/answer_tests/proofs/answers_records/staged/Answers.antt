-- The bytes of a record are one record, as its type guarantees.
use Rattle.std.proofs.Common.{sym, subst, ◌<◌, length}
use Rattle.planar_code.proofs.Lists.{lists_of-record, spelt-record, each-record}
use Rattle.answer_tests.proofs.answers_records.staged.Goals as goal

pub invariant_of-framed : goal.invariant_of-framed
invariant_of-framed c =
    let rec_is = c.bytes.ensures.is_record in
    record {
      known = ∣ (
        tt,
        record {
          spelt = spelt-record _ rec_is;
          each = each-record _ rec_is;
          some = subst (λ lists. 0 < length lists) (sym (lists_of-record _ rec_is)) rec_is.some;
          few = subst (λ lists. length lists < 256) (sym (lists_of-record _ rec_is)) rec_is.few;
        },
      ) ∣₁;
      made = ∣ tt ∣₁;
    }
