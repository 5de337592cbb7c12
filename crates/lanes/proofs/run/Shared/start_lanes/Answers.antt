use Rattle.std.proofs.Common.{rules, ◌≡◌, ◌++◌, [], List, length, Some, arith, ap, sym, ◌∙◌, append-nil}
use Rattle.std.proofs.lemmas.List.{nil_from_length}
use Rattle.std.proofs.lemmas.List.Elements.{All-head, All-rest, All-same, All-push, All-pop}
use Rattle.ruled_lanes.specs.FanEnds.{given_at}
use Rattle.ruled_lanes.specs.TicketSeats.{IsSeatOf, IsUnused}
use Rattle.lanes.specs.Lanes.{StartsLane}
use Rattle.lanes.proofs.RunningLanes.{one_started}
use Rattle.lanes.proofs.run.Shared.start_lanes.Goals as goal

pub loop-giver-preserved : goal.loop-giver-preserved
loop-giver-preserved g c =
    let inv = c.loop-giver.invariant in
    let promise = c.in-Ok-spawn_with.ensures.ok in
    let pushed = c.push_reserved.ensures in
    record {
      each = omega (arith, inv.each, ap length c.in-Some.ensures.steps.0, c.in-Some-pop.ensures.cases);
      count = omega (arith, inv.count, c.in-Some-pop.ensures.cases, pushed.len);
      room = omega (arith, inv.room, pushed.capacity);
      none_given = All-rest (λ giver. given_at giver ≡ []) c.in-Some.giver _ _ c.in-Some.ensures.steps.0 inv.none_given;
      givers = one_started (λ r. r.promise.giver.value) _ _ _ _ _ _ _ pushed.items c.in-Some.ensures.steps.0 (ap (λ p. p.giver.value) promise ∙ c.of-in-loop-giver-2.ensures) inv.givers;
      choice = All-same (λ r. r.promise.choice ≡ c.args.self.now.run.now.choice) _ _ pushed.items (All-push (λ r. r.promise.choice ≡ c.args.self.now.run.now.choice) _ _ inv.choice (ap (λ p. p.choice) promise));
      opener = All-same (λ r. r.promise.opener.value ≡ c.args.self.now.run.now.opener.now) _ _ pushed.items (All-push (λ r. r.promise.opener.value ≡ c.args.self.now.run.now.opener.now) _ _ inv.opener (ap (λ p. p.opener.value) promise ∙ c.of.ensures));
      tickets = All-same (λ r. r.promise.tickets.value ≡ c.args.self.now.tickets.now) _ _ pushed.items (All-push (λ r. r.promise.tickets.value ≡ c.args.self.now.tickets.now) _ _ inv.tickets (ap (λ p. p.tickets.value) promise ∙ c.of-in-loop-giver.ensures));
      sits = (All-pop (IsSeatOf c.args.self.now.tickets.now) _ _ (Some c.in-Some-pop.seat) c.in-Some-pop.ensures.items inv.sits).0;
      unused = (All-pop IsUnused _ _ (Some c.in-Some-pop.seat) c.in-Some-pop.ensures.items inv.unused).0;
    }

pub spawn_with-requires-clause-runs : goal.spawn_with-requires-clause-runs
spawn_with-requires-clause-runs g c κs within =
    let inv = c.loop-giver.invariant in
    let ready : StartsLane c.args.self.now.tickets.now c.in-Some-pop.seat c.in-Some.giver = record {
      seat_of = (All-pop (IsSeatOf c.args.self.now.tickets.now) _ _ (Some c.in-Some-pop.seat) c.in-Some-pop.ensures.items inv.sits).1;
      unused = (All-pop IsUnused _ _ (Some c.in-Some-pop.seat) c.in-Some-pop.ensures.items inv.unused).1;
      none_given = All-head (λ giver. given_at giver ≡ []) c.in-Some.giver _ (All-same (λ giver. given_at giver ≡ []) _ _ (sym c.in-Some.ensures.steps.0) inv.none_given);
    } in
    ((ready, c.requires.accepts), search rules)

pub push_reserved-requires : goal.push_reserved-requires
push_reserved-requires g c =
    let inv = c.loop-giver.invariant in omega (arith, inv.count, inv.room, c.in-Some-pop.ensures.cases)

-- nothing is left to add
all_added : {X : Type 0} (xs left ys : List X) → xs ++ left ≡ ys → length left ≡ 0 → xs ≡ ys
all_added xs left ys all none = sym (append-nil xs) ∙ ap (λ l. xs ++ l) (sym (nil_from_length left none)) ∙ all

pub returns-clause-givers : goal.returns-clause-givers
returns-clause-givers g c =
    let inv = c.loop-giver.invariant in
    all_added _ c.loop-giver.giver-iterator.rest.items _ inv.givers (omega (arith, c.in-None.ensures.steps.0, c.loop-giver.giver-iterator.rest.ok.0))
