-- Lanes that are started, that run, and that have run.
use Rattle.std.proofs.Common.{◌≡◌, ℕ, zero, suc, ◌+◌, List, take, drop, [], ◌∷◌, ◌++◌, length, map, append_assoc, All, Some, Result, Ok, IfOk, OnOk, slice_get, refl, sym, ap, subst, ◌∙◌, arith}
use Rattle.std.proofs.lemmas.List.{map-append}
use Rattle.std.proofs.lemmas.List.Elements.{All-nil, All-cons, All-head, All-tail, All-append}
use Rattle.std.specs.PromisedHandle.{KeepsEach}
use Rattle.std.specs.declared.thread.PromisedHandle.{PromisedHandle}
use Rattle.std.specs.declared.thread.Promise as Promise
use Rattle.crossbeam_channel.specs.Ends.{sends_on, receives_on}
use Rattle.common.specs.declared.parameters.Choice.{Choice}
use Rattle.ruled_lanes.specs.declared.fan_channel.LaneGiver.{LaneGiver}
use Rattle.ruled_lanes.specs.declared.fan_channel.Gatherer.{Gatherer}
use Rattle.ruled_lanes.specs.declared.tickets.Tickets.{Tickets}
use Rattle.ruled_lanes.specs.declared.tickets.Seat.{Seat}
use Rattle.ruled_lanes.specs.declared.channel.Closed.{Closed}
use Rattle.ruled_lanes.specs.FanEnds.{lane_of, given_at, AreGiversOf, TakesFromSameFan}
use Rattle.lanes.specs.declared.message.Message.{Message}
use Rattle.lanes.specs.Notes.{About}
use Rattle.lanes.specs.Opening.{Meaning}
use Rattle.lanes.specs.Lanes.{TellsSeat, LeavesLane}
use Rattle.lanes.specs.Running.{AreNumbered, AreMatched, GivesAt, IsIdle, IsRunning, HasEnded, HasRun, HaveRun}

module _ {X : Type 0} where
  pub numbered_weaker : (fits suits : ℕ → X → Type 0) → ((k : ℕ) (x : X) → fits k x → suits k x) → (first : ℕ) (xs : List X) → AreNumbered fits first xs → AreNumbered suits first xs
  numbered_weaker fits suits weaker first [] are = tt
  numbered_weaker fits suits weaker first (x ∷ xs) (is, are) = (weaker first x is, numbered_weaker fits suits weaker (first + 1) xs are)

  pub numbered_front : (fits : ℕ → X → Type 0) (first n : ℕ) (xs : List X) → AreNumbered fits first xs → AreNumbered fits first (take n xs)
  numbered_front fits first zero xs are = tt
  numbered_front fits first (suc n) [] are = tt
  numbered_front fits first (suc n) (x ∷ xs) (is, are) = (is, numbered_front fits (first + 1) n xs are)

  pub numbered_back : (fits : ℕ → X → Type 0) (first n : ℕ) (xs : List X) → AreNumbered fits first xs → AreNumbered fits (first + n) (drop n xs)
  numbered_back fits first zero xs are = let e : first ≡ first + 0 = omega arith in subst (λ k. AreNumbered fits k xs) e are
  numbered_back fits first (suc n) [] are = tt
  numbered_back fits first (suc n) (x ∷ xs) (is, are) =
      let e : first + 1 + n ≡ first + suc n = omega arith in subst (λ k. AreNumbered fits k (drop n xs)) e (numbered_back fits (first + 1) n xs are)

module _ {E : Type 0} where
  -- the fan after some takes is the same
  gives_still : (fan after : Gatherer E) (lane : ℕ) (g : LaneGiver E) → TakesFromSameFan fan after → GivesAt fan lane g → GivesAt after lane g
  gives_still fan after lane g same gives = record { to_fan = same ∙ gives.to_fan; at_lane = gives.at_lane }

  pub idle_still : (fan after : Gatherer E) (first : ℕ) (givers : List (LaneGiver E)) → TakesFromSameFan fan after → AreNumbered (IsIdle fan) first givers → AreNumbered (IsIdle after) first givers
  idle_still fan after first givers same are =
      numbered_weaker (IsIdle fan) (IsIdle after) (λ k g is. record { gives_at = gives_still fan after k g same is.gives_at; none_given = is.none_given }) first givers are

  pub running_still : {O : Type 0} (fan after : Gatherer E) (choice : Choice) (opener : O) (tickets : Tickets) (lane : ℕ) (promised_choice : Choice) (promised : O) (promised_tickets : Tickets) (g : LaneGiver E)
      → TakesFromSameFan fan after → IsRunning fan choice opener tickets lane promised_choice promised promised_tickets g
      → IsRunning after choice opener tickets lane promised_choice promised promised_tickets g
  running_still fan after choice opener tickets lane promised_choice promised promised_tickets g same is =
      record { gives_at = gives_still fan after lane g same is.gives_at; same_choice = is.same_choice; same_opener = is.same_opener; same_tickets = is.same_tickets }

  -- the givers of a new fan are idle
  pub new_idle : (fan : Gatherer E) (first : ℕ) (givers : List (LaneGiver E)) → AreGiversOf fan givers → ((k : ℕ) (g : LaneGiver E) → slice_get givers k ≡ Some g → lane_of g ≡ first + k)
      → All (λ g. given_at g ≡ []) givers → AreNumbered (IsIdle fan) first givers
  new_idle fan first [] to order none = tt
  new_idle fan first (g ∷ givers) to order none =
      let To : LaneGiver E → Type 0 = λ g. receives_on fan.receiver ≡ sends_on g.sender in
      let None : LaneGiver E → Type 0 = λ g. given_at g ≡ [] in (
        record { gives_at = record { to_fan = All-head To g givers to; at_lane = order 0 g refl ∙ omega arith }; none_given = All-head None g givers none },
        new_idle fan (first + 1) givers (All-tail To g givers to) (λ k h at. order (suc k) h at ∙ omega arith) (All-tail None g givers none),
      )

  pub idle_givers : (fan : Gatherer E) (first : ℕ) (givers : List (LaneGiver E)) → AreNumbered (IsIdle fan) first givers → AreGiversOf fan givers
  idle_givers fan first [] are = All-nil (λ (g : LaneGiver E). receives_on fan.receiver ≡ sends_on g.sender)
  idle_givers fan first (g ∷ givers) (is, are) =
      All-cons (λ (h : LaneGiver E). receives_on fan.receiver ≡ sends_on h.sender) g givers is.gives_at.to_fan (idle_givers fan (first + 1) givers are)

module _ {E M : Type 0} (about : E → About) where
  pub ran_givers : (choice : Choice) (meaning : ℕ → Meaning) (tickets : Tickets) (fan : Gatherer (Message E M)) (first : ℕ) (givers : List (LaneGiver (Message E M))) (seats : List Seat)
      → HaveRun about choice meaning tickets fan first givers seats → AreGiversOf fan givers
  ran_givers choice meaning tickets fan first [] [] run = All-nil (λ (g : LaneGiver (Message E M)). receives_on fan.receiver ≡ sends_on g.sender)
  ran_givers choice meaning tickets fan first [] (s ∷ seats) run = absurd run
  ran_givers choice meaning tickets fan first (g ∷ givers) [] run = absurd run
  ran_givers choice meaning tickets fan first (g ∷ givers) (s ∷ seats) (is, run) =
      All-cons (λ (h : LaneGiver (Message E M)). receives_on fan.receiver ≡ sends_on h.sender) g givers is.gives_at.to_fan (ran_givers choice meaning tickets fan (first + 1) givers seats run)

  -- all givers, idle or not, are those of the fan
  pub all_givers : (choice : Choice) (meaning : ℕ → Meaning) (tickets : Tickets) (fan : Gatherer (Message E M)) (running : ℕ) (all idle ran : List (LaneGiver (Message E M))) (seats : List Seat) → all ≡ idle ++ ran
      → AreNumbered (IsIdle fan) running idle → HaveRun about choice meaning tickets fan 0 ran seats → AreGiversOf fan all
  all_givers choice meaning tickets fan running all idle ran seats are still run =
      subst (AreGiversOf fan) (sym are)
      (All-append (λ (g : LaneGiver (Message E M)). receives_on fan.receiver ≡ sends_on g.sender) idle ran (idle_givers fan running idle still) (ran_givers choice meaning tickets fan 0 ran seats run))

  -- one lane more has run
  pub run_more : (choice : Choice) (meaning : ℕ → Meaning) (tickets : Tickets) (fan : Gatherer (Message E M)) (first : ℕ) (givers : List (LaneGiver (Message E M))) (seats : List Seat) (g : LaneGiver (Message E M)) (s : Seat)
      → HaveRun about choice meaning tickets fan first givers seats → HasRun about choice meaning tickets fan (first + length seats) g s → HaveRun about choice meaning tickets fan first (givers ++ g ∷ []) (seats ++ s ∷ [])
  run_more choice meaning tickets fan first [] [] g s run is = (let e : first + 0 ≡ first = omega arith in subst (λ k. HasRun about choice meaning tickets fan k g s) e is, tt)
  run_more choice meaning tickets fan first [] (z ∷ seats) g s run is = absurd run
  run_more choice meaning tickets fan first (h ∷ givers) [] g s run is = absurd run
  run_more choice meaning tickets fan first (h ∷ givers) (z ∷ seats) g s (was, run) is =
      (was, run_more choice meaning tickets fan (first + 1) givers seats g s run (let e : first + length (z ∷ seats) ≡ first + 1 + length seats = omega arith in subst (λ k. HasRun about choice meaning tickets fan k g s) e is))

  -- a lane that has ended and lost nothing has run
  pub ended_run : {R F : Type 0} (choice : Choice) (meaning : ℕ → Meaning) (tickets : Tickets) (fan : Gatherer (Message E M)) (lane : ℕ) (after giver : LaneGiver (Message E M)) (stop : Result R (Closed (Message E M))) (ended : Result Seat F) (r : R) (seat : Seat)
      → HasEnded about fan choice meaning tickets lane after stop ended → giver ≡ after → stop ≡ Ok r → ended ≡ Ok seat → HasRun about choice meaning tickets fan lane giver seat
  ended_run choice meaning tickets fan lane after giver stop ended r seat has same stopped seated =
      let tells = λ (s : Seat). TellsSeat about choice meaning tickets s (given_at after) in
      subst (λ g. HasRun about choice meaning tickets fan lane g seat) (sym same) (record {
        gives_at = record { to_fan = has.gives_at.to_fan ∙ sym has.leaves.to_same.0; at_lane = has.leaves.to_same.1 ∙ has.gives_at.at_lane };
        tells = subst (λ x. IfOk x tells) seated (subst (λ x. OnOk x (IfOk ended tells)) stopped has.leaves.tells);
      })

  -- lanes that run have ended if their threads kept what they promised
  pub lanes_ended : {R F H X O : Type 0} (choice_of : H → Choice) (opener_of : H → O) (tickets_of : H → Tickets) (giver_of : H → LaneGiver (Message E M)) (after_of : X → LaneGiver (Message E M)) (stop_of : X → Result R (Closed (Message E M))) (ended_of : X → Result Seat F)
      (meaning_of : O → ℕ → Meaning) (fan : Gatherer (Message E M)) (choice : Choice) (opener : O) (tickets : Tickets) (first : ℕ) (hs : List H) (xs : List X)
      → AreNumbered (λ lane h. IsRunning fan choice opener tickets lane (choice_of h) (opener_of h) (tickets_of h) (giver_of h)) first hs
      → AreMatched (λ h x. LeavesLane about (choice_of h) (meaning_of (opener_of h)) (tickets_of h) (giver_of h) (after_of x) (stop_of x) (ended_of x)) hs xs
      → AreNumbered (λ lane x. HasEnded about fan choice (meaning_of opener) tickets lane (after_of x) (stop_of x) (ended_of x)) first xs
  lanes_ended choice_of opener_of tickets_of giver_of after_of stop_of ended_of meaning_of fan choice opener tickets first [] [] are left = tt
  lanes_ended choice_of opener_of tickets_of giver_of after_of stop_of ended_of meaning_of fan choice opener tickets first [] (x ∷ xs) are left = absurd left
  lanes_ended choice_of opener_of tickets_of giver_of after_of stop_of ended_of meaning_of fan choice opener tickets first (h ∷ hs) [] are left = absurd left
  lanes_ended choice_of opener_of tickets_of giver_of after_of stop_of ended_of meaning_of fan choice opener tickets first (h ∷ hs) (x ∷ xs) (is, are) (one, left) = (
    record {
      giver = giver_of h;
      gives_at = is.gives_at;
      leaves = subst (λ t. LeavesLane about choice (meaning_of opener) t (giver_of h) (after_of x) (stop_of x) (ended_of x)) is.same_tickets
          (subst (λ o. LeavesLane about choice (meaning_of o) (tickets_of h) (giver_of h) (after_of x) (stop_of x) (ended_of x)) is.same_opener
          (subst (λ z. LeavesLane about z (meaning_of (opener_of h)) (tickets_of h) (giver_of h) (after_of x) (stop_of x) (ended_of x)) is.same_choice one));
    },
    lanes_ended choice_of opener_of tickets_of giver_of after_of stop_of ended_of meaning_of fan choice opener tickets (first + 1) hs xs are left,
  )

  -- each lane that has run has its seat
  pub many_ran : (choice : Choice) (meaning : ℕ → Meaning) (tickets : Tickets) (fan : Gatherer (Message E M)) (first : ℕ) (givers : List (LaneGiver (Message E M))) (seats : List Seat)
      → HaveRun about choice meaning tickets fan first givers seats → length givers ≡ length seats
  many_ran choice meaning tickets fan first [] [] run = refl
  many_ran choice meaning tickets fan first [] (s ∷ seats) run = absurd run
  many_ran choice meaning tickets fan first (g ∷ givers) [] run = absurd run
  many_ran choice meaning tickets fan first (g ∷ givers) (s ∷ seats) (is, run) = omega (arith, many_ran choice meaning tickets fan (first + 1) givers seats run)

module _ {X : Type 0} where
  pub numbered_as : (fits : ℕ → X → Type 0) (n m : ℕ) (xs ys : List X) → n ≡ m → xs ≡ ys → AreNumbered fits n xs → AreNumbered fits m ys
  numbered_as fits n m xs ys e same are = subst (AreNumbered fits m) same (subst (λ k. AreNumbered fits k xs) e are)

module _ {E : Type 0} where
  -- none of them has given anything
  pub idle_unused : (fan : Gatherer E) (first : ℕ) (givers : List (LaneGiver E)) → AreNumbered (IsIdle fan) first givers → All (λ g. given_at g ≡ []) givers
  idle_unused fan first [] are = All-nil (λ (g : LaneGiver E). given_at g ≡ [])
  idle_unused fan first (g ∷ givers) (is, are) =
      All-cons (λ (h : LaneGiver E). given_at h ≡ []) g givers is.none_given (idle_unused fan (first + 1) givers are)

module _ {E X : Type 0} (giver_of : X → LaneGiver E) where
  -- lanes run whose givers were idle
  pub all_started : {O : Type 0} (choice_of : X → Choice) (opener_of : X → O) (tickets_of : X → Tickets) (fan : Gatherer E) (choice : Choice) (opener : O) (tickets : Tickets) (first : ℕ) (rs : List X)
      → AreNumbered (IsIdle fan) first (map giver_of rs) → All (λ r. choice_of r ≡ choice) rs → All (λ r. opener_of r ≡ opener) rs → All (λ r. tickets_of r ≡ tickets) rs
      → AreNumbered (λ lane r. IsRunning fan choice opener tickets lane (choice_of r) (opener_of r) (tickets_of r) (giver_of r)) first rs
  all_started choice_of opener_of tickets_of fan choice opener tickets first [] are chosen opens deals = tt
  all_started choice_of opener_of tickets_of fan choice opener tickets first (r ∷ rs) (is, are) chosen opens deals = (
    record {
      gives_at = is.gives_at;
      same_choice = All-head (λ z. choice_of z ≡ choice) r rs chosen;
      same_opener = All-head (λ z. opener_of z ≡ opener) r rs opens;
      same_tickets = All-head (λ z. tickets_of z ≡ tickets) r rs deals;
    },
    all_started choice_of opener_of tickets_of fan choice opener tickets (first + 1) rs are (All-tail (λ z. choice_of z ≡ choice) r rs chosen)
        (All-tail (λ z. opener_of z ≡ opener) r rs opens) (All-tail (λ z. tickets_of z ≡ tickets) r rs deals),
  )

module _ {X G : Type 0} where
  -- the next giver is that of one lane more
  pub one_started : (giver_of : X → G) (rs more : List X) (r : X) (rest rest' all : List G) (giver : G) → more ≡ rs ++ r ∷ []
      → rest ≡ giver ∷ rest' → giver_of r ≡ giver → map giver_of rs ++ rest ≡ all → map giver_of more ++ rest' ≡ all
  one_started giver_of rs more r rest rest' all giver pushed next is same =
      ap (λ (zs : List X). map giver_of zs ++ rest') pushed ∙ ap (λ (zs : List G). zs ++ rest') (map-append giver_of rs (r ∷ []))
      ∙ append_assoc (map giver_of rs) (giver_of r ∷ []) rest' ∙ ap (λ (g : G). map giver_of rs ++ g ∷ rest') is
      ∙ ap (λ (zs : List G). map giver_of rs ++ zs) (sym next) ∙ same

module _ {T P : Type 0} (g : Promise.Ghosts P T) where
  -- each thread that was joined kept what it promised
  pub kept_each : (handles : List (PromisedHandle T P)) (ended : List T) → length ended ≡ length handles → KeepsEach g (length handles) handles ended
      → AreMatched (λ h end. g.kept_by h.promise end) handles ended
  kept_each [] [] same each = tt
  kept_each [] (x ∷ xs) same each = absurd (omega (arith, same))
  kept_each (h ∷ hs) [] same each = absurd (omega (arith, same))
  kept_each (h ∷ hs) (x ∷ xs) same each =
      let first = (each 0 x (omega arith)).1 in (
        subst (λ z. g.kept_by z.promise x) first.handle_is first.kept,
        kept_each hs xs (omega (arith, same)) (λ k d below.
            let one = (each (suc k) d (omega (arith, below))).1 in
            (refl, record { handle = one.handle; handle_is = one.handle_is; kept = one.kept })),
      )
