use Rattle.std.proofs.Common.{rules, ◌<◌, ℕ, List, ◌+◌, [], ◌++◌, Ok, Err, length, take, refl, ap, sym, subst, length-append, arith}
use Rattle.streams.specs.declared.frames.Mark.TheVariants.{Ended}
use Rattle.std.proofs.lemmas.List.{length-take}
use Rattle.streams.proofs.Bounds.{few_rounds}
use Rattle.streams.proofs.Pieces.{nothing_read, fed_piece, found_nothing, found_ended, found_failed, found_as}
use Rattle.streams.proofs.Placed.{first_step, placed_from, found_so_far}
use Rattle.streams.proofs.Receiving.{received_from}
use Rattle.std.proofs.lemmas.Result.{err_from_is_err_and}
use Rattle.planar_code.specs.declared.partial_record.Ending.TheVariants.{Memory}
use Rattle.streams.specs.Tap.{IsAtItsEnd}
use Rattle.streams.specs.Reading.{IsFoundIn}
use Rattle.streams.proofs.source.read_source.Goals as goal

pub returns-in_default-clause-found : goal.returns-in_default-clause-found
returns-in_default-clause-found g c = ([], g.met.V.Receiver.received_none _, refl, found_nothing _ _ _ refl)

pub loop-init : goal.loop-init
loop-init g c = record {
  room = c.requires.room;
  none = c.new-records.ensures.items;
  found = [];
  next = refl;
  received = g.met.V.Receiver.received_none _;
  ready = c.requires.ready;
  stays = g.met.V.Receiver.stays_itself _;
  being_read = nothing_read _ _ [] _ refl c.in-Ok.ensures.early;
}

pub overflow_cast-next : goal.overflow_cast-next
overflow_cast-next g c =
    let inv = c.loop.invariant in
    let few = c.feed-fed.ensures.few inv.being_read.read inv.found inv.being_read.stands in
    omega (arith, few, ap length inv.none)

pub overflow_add-next : goal.overflow_add-next
overflow_add-next g c =
    let inv = c.loop.invariant in
    let few = c.feed-fed.ensures.few inv.being_read.read inv.found inv.being_read.stands in
    omega (arith, few, ap length inv.none, inv.next)

pub receive-requires-clause-few : goal.receive-requires-clause-few
receive-requires-clause-few g c =
    let inv = c.loop.invariant in
    let few = c.feed-fed.ensures.few inv.being_read.read inv.found inv.being_read.stands in
    omega (arith, few, ap length inv.none, inv.next)

pub receive-requires-clause-accepted : goal.receive-requires-clause-accepted
receive-requires-clause-accepted g c =
    let inv = c.loop.invariant in
    let n = c.in-Ok-read.size in
    let some : 0 < length (take n c.read.new.buf) = omega (arith, length-take n c.read.new.buf, c.in-Ok-read.size-test, c.in-Ok-read.ensures.bound) in
    let new = c.feed-fed.new.out.items in
    let leads = fed_piece _ _ _ _ _ _ c.loop.counter inv.found _ _ _ _ _ c.feed-fed.result inv.none some inv.being_read c.in-Ok-read.ensures.given c.in-Ok-read.ensures.stays c.feed-fed.ensures.feeds in
    let first = first_step _ _ _ _ _ _ _ _ leads in
    g.met.V.Receiver.accepts_on _ _ _ _ inv.stays (c.requires.accepted _ new (placed_from _ inv.found new _ inv.next first))

pub returns-in-Ok-eq0-clause-found : goal.returns-in-Ok-eq0-clause-found
returns-in-Ok-eq0-clause-found g c =
    let inv = c.loop.invariant in
    let at : IsAtItsEnd (g.T.Tap.to_come c.loop.source) (g.T.Tap.fails c.loop.source) = search (rules, inv.room) in
    (inv.found, inv.received, inv.next, found_ended _ _ _ _ _ _ _ _ inv.being_read at c.finish.ensures.split)

pub returns-in-Err-clause-found : goal.returns-in-Err-clause-found
returns-in-Err-clause-found g c =
    let inv = c.loop.invariant in
    (inv.found, inv.received, inv.next, found_failed _ _ _ _ _ _ _ inv.being_read c.in-Err.ensures.failed)

pub returns-in-Err-fed-clause-found : goal.returns-in-Err-fed-clause-found
returns-in-Err-fed-clause-found g c =
    let inv = c.loop.invariant in
    let n = c.in-Ok-read.size in
    let some : 0 < length (take n c.read.new.buf) = omega (arith, length-take n c.read.new.buf, c.in-Ok-read.size-test, c.in-Ok-read.ensures.bound) in
    let stopped = fed_piece _ _ _ _ _ _ c.loop.counter inv.found _ _ _ _ _ (Err c.in-Err-fed.fault) inv.none some inv.being_read c.in-Ok-read.ensures.given c.in-Ok-read.ensures.stays c.in-Err-fed.ensures.feeds in
    let then = received_from g.V.Receiver.received _ _ _ _ _ inv.next c.in_ok-receive.ensures.received in
    (_, g.met.V.Receiver.received_on _ _ _ _ _ inv.received then, omega (arith, inv.next, length-append inv.found c.feed-fed.new.out.items), found_as _ _ _ _ _ _ refl (ap Ended c.from.ensures) stopped)

pub returns-in_err-receive-clause-refused : goal.returns-in_err-receive-clause-refused
returns-in_err-receive-clause-refused g c =
    let q = err_from_is_err_and c.from_residual.result c.from_residual.ensures.1 in
    let inv = c.loop.invariant in
    let n = c.in-Ok-read.size in
    let some : 0 < length (take n c.read.new.buf) = omega (arith, length-take n c.read.new.buf, c.in-Ok-read.size-test, c.in-Ok-read.ensures.bound) in
    let leads = fed_piece _ _ _ _ _ _ c.loop.counter inv.found _ _ _ _ _ c.feed-fed.result inv.none some inv.being_read c.in-Ok-read.ensures.given c.in-Ok-read.ensures.stays c.feed-fed.ensures.feeds in
    let then = received_from (λ first records x y. g.V.Receiver.refused first records x y c.in_err-receive.field-0.0) _ _ _ _ _ inv.next c.in_err-receive.ensures.refused in
    rw q.1 (subst (λ refusal. (records : List (List ℕ)) × g.V.Receiver.refused 0 records c.args.receiver.now c.receive.new.self refusal
    × IsFoundIn (g.T.Tap.to_come c.args.source) (g.T.Tap.fails c.args.source) records (Ended Memory)) (sym q.2)
    (_, g.met.V.Receiver.refused_on _ _ _ _ _ _ inv.received then, found_so_far _ _ _ _ _ _ _ _ leads))

pub loop-preserved : goal.loop-preserved
loop-preserved g c =
    let inv = c.loop.invariant in
    let n = c.in-Ok-read.size in
    let some : 0 < length (take n c.read.new.buf) = omega (arith, length-take n c.read.new.buf, c.in-Ok-read.size-test, c.in-Ok-read.ensures.bound) in
    let then = received_from g.V.Receiver.received _ _ _ _ _ inv.next c.in_ok-receive.ensures.received in
    record {
      room = search rules;
      none = c.in_ok-receive.ensures.empties;
      found = inv.found ++ c.feed-fed.new.out.items;
      next = omega (arith, inv.next, length-append inv.found c.feed-fed.new.out.items);
      received = g.met.V.Receiver.received_on _ _ _ _ _ inv.received then;
      ready = c.in_ok-receive.ensures.ready;
      stays = g.met.V.Receiver.stays_on _ _ _ inv.stays c.in_ok-receive.ensures.stays;
      being_read = fed_piece _ _ _ _ _ _ c.loop.counter inv.found _ _ _ _ _ (Ok c.in_default-fed.field-0) inv.none some inv.being_read c.in-Ok-read.ensures.given c.in-Ok-read.ensures.stays c.in_default-fed.ensures.feeds;
    }

pub unreachable-requires : goal.unreachable-requires
unreachable-requires g c =
    let few = few_rounds _ _ _ _ _ _ _ c.loop.invariant.being_read in omega (arith, few, c.loop-test.false)
