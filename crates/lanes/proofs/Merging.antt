-- What was taken of all lanes, in whatever order, tells each file that one lane drew.
use Rattle.std.proofs.Common.{◌≡◌, ◌≢◌, ℕ, zero, suc, ◌+◌, ◌-◌, ◌==◌, ◌<◌, ◌≤◌, Bool, cond, List, [], ◌∷◌, ◌++◌, map, filter, length, All, inl, inr, refl, sym, ap, subst, ◌∙◌, arith}
use Rattle.std.proofs.lemmas.Bool.{cases_eq, cases_lt, eq-eqb, ne_eqb}
use Rattle.std.proofs.lemmas.List.Elements.{filter-append, All-nil, All-cons, All-head, All-tail}
use Rattle.common.specs.declared.parameters.Choice.{Choice}
use Rattle.ruled_lanes.specs.declared.channel.TheConstants.{LANES}
use Rattle.ruled_lanes.specs.declared.fan_channel.LaneGiver.{LaneGiver}
use Rattle.ruled_lanes.specs.declared.fan_channel.Gatherer.{Gatherer}
use Rattle.ruled_lanes.specs.declared.tickets.Tickets.{Tickets}
use Rattle.ruled_lanes.specs.declared.tickets.Seat.{Seat}
use Rattle.ruled_lanes.specs.FanProtocol.{of_lane}
use Rattle.ruled_lanes.specs.FanEnds.{lane_of, given_at, SettlesFan}
use Rattle.ruled_lanes.specs.TicketProtocol.{times}
use Rattle.ruled_lanes.specs.TicketSeats.{all_drawn}
use Rattle.lanes.specs.declared.message.Message.{Message}
use Rattle.lanes.specs.Notes.{About, Note, notes_of, notes, is_of, of_file}
use Rattle.lanes.specs.Opening.{Meaning}
use Rattle.lanes.specs.Files.{HasFile, HasDrawn}
use Rattle.lanes.specs.Fans.{HasStop, untagged, HaveStopped}
use Rattle.lanes.proofs.Passing.{notes-append}
use Rattle.lanes.proofs.Dealing.{stop_last}
use Rattle.lanes.specs.Running.{AreNumbered, IsIdle, HaveRun}
use Rattle.lanes.proofs.Telling.{file_as, nothing_drawn}
use Rattle.lanes.proofs.Seats.{drawn_at, drawn_past, one_drew}

no_parts : {X : Type 0} (xs ys : List X) → xs ++ ys ≡ [] → xs ≡ []
no_parts [] ys e = refl
no_parts (x ∷ xs) ys e = absurd (cc)

no_rest : {X : Type 0} (xs ys : List X) → xs ++ ys ≡ [] → ys ≡ []
no_rest [] ys e = e
no_rest (x ∷ xs) ys e = absurd (cc)

module _ {T : Type 0} where
  -- the items of a lane, where one more stands first
  lane_mine : (lane : ℕ) (x : ℕ × T) (items : List (ℕ × T)) → x.0 ≡ lane → of_lane lane (x ∷ items) ≡ x.1 ∷ of_lane lane items
  lane_mine lane x items e = let f : ℕ × T → T = λ y. y.1 in let p : ℕ × T → Bool = λ y. y.0 == lane in
      ap (λ t. map f (cond t (x ∷ filter p items) (filter p items))) (eq-eqb x.0 lane e)

  lane_other : (lane : ℕ) (x : ℕ × T) (items : List (ℕ × T)) → x.0 ≢ lane → of_lane lane (x ∷ items) ≡ of_lane lane items
  lane_other lane x items n = let f : ℕ × T → T = λ y. y.1 in let p : ℕ × T → Bool = λ y. y.0 == lane in
      ap (λ t. map f (cond t (x ∷ filter p items) (filter p items))) (ne_eqb x.0 lane n)

module _ {E M : Type 0} (about : E → About) where
  -- of a file of which one lane alone has something, all lanes together have what that lane has
  one_lane : (file one : ℕ) (items : List (ℕ × Message E M)) → ((lane : ℕ) → lane ≢ one → of_file file (notes about (of_lane lane items)) ≡ [])
      → of_file file (notes about (untagged items)) ≡ of_file file (notes about (of_lane one items))
  one_lane file one [] none = refl
  one_lane file one (x ∷ items) none =
      let ns : List Note = notes_of about x.1 in
      let told : List (Message E M) → List Note = λ ms. of_file file (notes about ms) in
      let parts : (ms : List (Message E M)) → told (x.1 ∷ ms) ≡ of_file file ns ++ told ms = λ ms. filter-append (is_of file) ns (notes about ms) in
      let others : (lane : ℕ) → lane ≢ one → x.0 ≢ lane → told (of_lane lane items) ≡ [] = λ lane apart away. ap told (sym (lane_other lane x items away)) ∙ none lane apart in
      elim (cases_eq x.0 one) [
        | inl here ↦ parts (untagged items) ∙ ap (λ l. of_file file ns ++ l) (one_lane file one items (λ lane apart. others lane apart (λ e. apart (sym e ∙ here))))
            ∙ sym (parts (of_lane one items)) ∙ ap told (sym (lane_mine one x items here))
        | inr away ↦ (let silent : of_file file ns ++ told (of_lane x.0 items) ≡ [] = sym (parts (of_lane x.0 items)) ∙ ap told (sym (lane_mine x.0 x items refl)) ∙ none x.0 away in
            parts (untagged items) ∙ ap (λ l. l ++ told (untagged items)) (no_parts (of_file file ns) (told (of_lane x.0 items)) silent)
            ∙ one_lane file one items (λ lane apart.
            elim (cases_eq x.0 lane) [
              | inl same ↦ subst (λ k. told (of_lane k items) ≡ []) same (no_rest (of_file file ns) (told (of_lane x.0 items)) silent)
              | inr other ↦ others lane apart other
            ])
            ∙ ap told (sym (lane_other one x items away)))
      ]

  -- so a file that was drawn once is told whole
  file_whole : (choice : Choice) (meaning : ℕ → Meaning) (items : List (ℕ × Message E M)) (seats : List Seat) → ((lane : ℕ) → HasDrawn choice meaning (drawn_at seats lane) (notes about (of_lane lane items)))
      → (file : ℕ) → times file (all_drawn seats) ≡ 1 → HasFile choice (meaning file) file (notes about (untagged items))
  file_whole choice meaning items seats has file once =
      let drew = one_drew file seats once in
      file_as choice (meaning file) file (notes about (of_lane drew.0 items)) (notes about (untagged items))
      (one_lane file drew.0 items (λ lane apart. (has lane).others file (drew.2 lane apart))) ((has drew.0).own file drew.1)

  -- of a giver's lane, what was taken and then what was held is what was given
  abbrev Settled : List (ℕ × Message E M) → List (ℕ × Message E M) → LaneGiver (Message E M) → Type 0
  Settled items held g = of_lane (lane_of g) items ++ of_lane (lane_of g) held ≡ given_at g

  ran_at : (choice : Choice) (meaning : ℕ → Meaning) (tickets : Tickets) (fan : Gatherer (Message E M)) (items held : List (ℕ × Message E M)) (first : ℕ) (givers : List (LaneGiver (Message E M))) (seats : List Seat)
      → HaveRun about choice meaning tickets fan first givers seats → All (Settled items held) givers → (n lane : ℕ) → n < length seats → lane ≡ first + n
      → HasStop (notes about (of_lane lane items)) → HasDrawn choice meaning (drawn_at seats n) (notes about (of_lane lane items))
  ran_at choice meaning tickets fan items held first [] [] run settled n lane below is stop = absurd (omega (arith, below))
  ran_at choice meaning tickets fan items held first [] (s ∷ seats) run settled n lane below is stop = absurd run
  ran_at choice meaning tickets fan items held first (g ∷ givers) [] run settled n lane below is stop = absurd run
  ran_at choice meaning tickets fan items held first (g ∷ givers) (s ∷ seats) run settled zero lane below is stop =
      let here : lane_of g ≡ lane = run.0.gives_at.at_lane ∙ omega (arith, is) in
      let whole : of_lane lane items ++ of_lane lane held ≡ given_at g =
      subst (λ k. of_lane k items ++ of_lane k held ≡ given_at g) here (All-head (Settled items held) g givers settled) in
      let same : notes about (of_lane lane items) ≡ notes about (given_at g) =
      stop_last (notes about (of_lane lane items)) (notes about (of_lane lane held)) (notes about (given_at g))
      (sym (notes-append about (of_lane lane items) (of_lane lane held)) ∙ ap (notes about) whole) stop run.0.tells.tells.stopped in
      subst (HasDrawn choice meaning (drawn_at (s ∷ seats) zero)) (sym same) run.0.tells.tells.told
  ran_at choice meaning tickets fan items held first (g ∷ givers) (s ∷ seats) run settled (suc n) lane below is stop =
      ran_at choice meaning tickets fan items held (first + 1) givers seats run.1 (All-tail (Settled items held) g givers settled) n lane (omega (arith, below)) (omega (arith, is)) stop

  idle_at : (fan : Gatherer (Message E M)) (items held : List (ℕ × Message E M)) (first : ℕ) (givers : List (LaneGiver (Message E M)))
      → AreNumbered (IsIdle fan) first givers → All (Settled items held) givers → (n lane : ℕ) → n < length givers → lane ≡ first + n → of_lane lane items ≡ []
  idle_at fan items held first [] idle settled n lane below is = absurd (omega (arith, below))
  idle_at fan items held first (g ∷ givers) idle settled zero lane below is =
      let here : lane_of g ≡ lane = idle.0.gives_at.at_lane ∙ omega (arith, is) in
      no_parts (of_lane lane items) (of_lane lane held)
      (subst (λ k. of_lane k items ++ of_lane k held ≡ given_at g) here (All-head (Settled items held) g givers settled) ∙ idle.0.none_given)
  idle_at fan items held first (g ∷ givers) idle settled (suc n) lane below is =
      idle_at fan items held (first + 1) givers idle.1 (All-tail (Settled items held) g givers settled) n lane (omega (arith, below)) (omega (arith, is))

  -- each lane has told of what its seat drew
  each_lane : (choice : Choice) (meaning : ℕ → Meaning) (tickets : Tickets) (fan : Gatherer (Message E M)) (items held : List (ℕ × Message E M)) (idle ran : List (LaneGiver (Message E M))) (seats : List Seat) (running : ℕ)
      → length seats ≡ running → running + length idle ≡ LANES → HaveRun about choice meaning tickets fan 0 ran seats → AreNumbered (IsIdle fan) running idle
      → All (Settled items held) idle → All (Settled items held) ran → ((lane : ℕ) → LANES ≤ lane → of_lane lane items ≡ [])
      → HaveStopped about running items → (lane : ℕ) → HasDrawn choice meaning (drawn_at seats lane) (notes about (of_lane lane items))
  each_lane choice meaning tickets fan items held idle ran seats running many lanes run still settled-idle settled-ran past stopped lane =
      elim (cases_lt lane running) [
        | inl below ↦ ran_at choice meaning tickets fan items held 0 ran seats run settled-ran lane lane (omega (arith, below, many)) (omega arith) (stopped lane below)
        | inr above ↦ (let none : of_lane lane items ≡ [] = elim (cases_lt lane LANES) [
          | inl known ↦ idle_at fan items held running idle still settled-idle (lane - running) lane (omega (arith, known, above, lanes)) (omega (arith, above))
          | inr unknown ↦ past lane unknown
        ] in
            nothing_drawn choice meaning (drawn_at seats lane) (notes about (of_lane lane items)) (drawn_past seats lane (omega (arith, above, many))) (ap (notes about) none))
      ]

module _ {X : Type 0} (P : X → Type 0) where
  all_front : (xs ys : List X) → All P (xs ++ ys) → All P xs
  all_front [] ys all = All-nil P
  all_front (x ∷ xs) ys all = All-cons P x xs (All-head P x (xs ++ ys) all) (all_front xs ys (All-tail P x (xs ++ ys) all))

  all_back : (xs ys : List X) → All P (xs ++ ys) → All P ys
  all_back [] ys all = all
  all_back (x ∷ xs) ys all = all_back xs ys (All-tail P x (xs ++ ys) all)

module _ {E M : Type 0} (about : E → About) where
  -- a fan that was settled tells each file that was drawn once
  pub settled_whole : (choice : Choice) (meaning : ℕ → Meaning) (tickets : Tickets) (fan : Gatherer (Message E M)) (items : List (ℕ × Message E M)) (givers idle ran : List (LaneGiver (Message E M))) (seats : List Seat) (running : ℕ)
      → givers ≡ idle ++ ran → length seats ≡ running → running + length idle ≡ LANES → HaveRun about choice meaning tickets fan 0 ran seats → AreNumbered (IsIdle fan) running idle
      → SettlesFan items givers → HaveStopped about running items
      → (file : ℕ) → times file (all_drawn seats) ≡ 1 → HasFile choice (meaning file) file (notes about (untagged items))
  settled_whole choice meaning tickets fan items givers idle ran seats running are many lanes run still settled stopped =
      let held = settled.0 in
      let all : All (Settled about items held) (idle ++ ran) = subst (All (Settled about items held)) are settled.1 in
      file_whole about choice meaning items seats
      (each_lane about choice meaning tickets fan items held idle ran seats running many lanes run still
      (all_front (Settled about items held) idle ran all) (all_back (Settled about items held) idle ran all) (λ lane past. (settled.2 lane past).0) stopped)
