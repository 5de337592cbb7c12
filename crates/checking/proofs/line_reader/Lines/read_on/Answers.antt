use Rattle.std.proofs.Common.{◌≢◌, [], ◌++◌, refl, ◌∙◌}
use Rattle.std.specs.Io.KnownBytes.{prepend_known}
use Rattle.std.proofs.KnownBytes.{Consumes-nil}
use Rattle.std.proofs.lemmas.List.Elements.{All-nil, All-append}
use Rattle.checking.proofs.Giving.{took_held, given_more, gives_whole, gives_last, gives_none}
use Rattle.checking.proofs.line_reader.Lines.read_on.Goals as goal

pub loop-init : goal.loop-init
loop-init g c = record {
  reads = c.requires;
  seen = [];
  none = All-nil (λ b. b ≢ 10);
  kept = c.clear.ensures;
  took = Consumes-nil _;
  same = refl;
}

pub returns-then-move_to : goal.returns-then-move_to
returns-then-move_to g c = λ known fails given has.
    let inv = c.loop.invariant in
    let m = c.move_to.ensures.ended c.if-move_to.true in
    let more = given_more known _ _ fails _ _ given inv.seen _ m.0 _ has inv.none m.1 inv.took m.2 inv.same in
    gives_whole known _ fails _ _ given (inv.seen ++ m.0) _ _ _ inv.reads more (m.3 inv.seen inv.kept) c.ended_line.ensures

pub loop-preserved : goal.loop-preserved
loop-preserved g c =
    let inv = c.loop.invariant in
    let o = c.move_to.ensures.open c.if-move_to.false in
    let more = rw c.in-Open.is at c.refill-self.ensures in
    record {
      reads = c.in-Open.is;
      seen = inv.seen ++ c.loop.self.held;
      none = All-append (λ b. b ≢ 10) inv.seen c.loop.self.held inv.none o.1;
      kept = o.2 inv.seen inv.kept;
      took = took_held _ _ _ inv.seen _ _ inv.took more.0;
      same = more.1 ∙ inv.same;
    }

pub returns-in-Ended : goal.returns-in-Ended
returns-in-Ended g c = λ known fails given has.
    let inv = c.loop.invariant in
    let o = c.move_to.ensures.open c.if-move_to.false in
    rw c.in-Ended.is (gives_last known _ _ (prepend_known c.refill-self.new.self (g.T.Tap.to_come c.refill-self.new.source)) fails _ _ (g.T.Tap.fails c.refill-self.new.source) given inv.seen _ _ _ _ has inv.none o.1 inv.took inv.same (rw c.in-Ended.is at c.refill-self.ensures) (o.2 inv.seen inv.kept) c.last_line.ensures)

pub returns-in-Failed : goal.returns-in-Failed
returns-in-Failed g c = λ known fails given has.
    let inv = c.loop.invariant in
    let o = c.move_to.ensures.open c.if-move_to.false in
    rw c.in-Failed.is (gives_none known _ _ (prepend_known c.refill-self.new.self (g.T.Tap.to_come c.refill-self.new.source)) fails _ _ (g.T.Tap.fails c.refill-self.new.source) given inv.seen _ c.move_to.new.line.bytes.items has inv.none o.1 inv.took inv.same (rw c.in-Failed.is at c.refill-self.ensures))
