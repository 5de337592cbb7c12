-- What the end of the first record says of all the bytes.
use Rattle.std.proofs.Common.{◌≡◌, [], sym, subst}
use Rattle.std.proofs.lemmas.Bool.{eqb-true}
use Rattle.planar_code.specs.Stream.{IsUnfinished}
use Rattle.planar_code.proofs.Records.{no_record-unfinished}
use Rattle.planar_code.proofs.Scanning.{empty-length}
use Rattle.planar_code.proofs.LeadsTo.{unfinished-none, no_record-oversize}
use Rattle.planar_code.proofs.Parsing.{no_record-first, no_record-after, bytes_after}
use Rattle.planar_code.proofs.record.Record.parse.Goals as goal

pub returns-then-is_empty-clause-fault : goal.returns-then-is_empty-clause-fault
returns-then-is_empty-clause-fault c =
    let none : c.args.bytes.now ≡ [] = empty-length c.args.bytes.now (eqb-true _ _ (sym c.if-is_empty.ensures)) in
    subst IsUnfinished (sym none) unfinished-none

pub returns-in-Truncated-clause-ok_where_record : goal.returns-in-Truncated-clause-ok_where_record
returns-in-Truncated-clause-ok_where_record c = λ other.
    ((λ e. absurd (cc)), (λ r. absurd (no_record-first c.args.bytes.now (no_record-unfinished c.args.bytes.now c.in-Truncated.ensures) r)))

pub returns-in-Oversize-clause-ok_where_record : goal.returns-in-Oversize-clause-ok_where_record
returns-in-Oversize-clause-ok_where_record c = λ other.
    ((λ e. absurd (cc)), (λ r. absurd (no_record-first c.args.bytes.now (no_record-oversize c.args.bytes.now c.in-Oversize.ensures) r)))

pub returns-in-After-clause-ok_where_record : goal.returns-in-After-clause-ok_where_record
returns-in-After-clause-ok_where_record c = λ other. (
  (λ e. absurd (cc)),
  (λ r. absurd (no_record-after c.args.bytes.now (bytes_after c.args.bytes.now c.in-After.end c.in-After.ensures.2 c.if-end-bytes.true) r)),
)

pub returns-in-After-clause-fault : goal.returns-in-After-clause-fault
returns-in-After-clause-fault c =
    bytes_after c.args.bytes.now c.in-After.end c.in-After.ensures.2 c.if-end-bytes.true
