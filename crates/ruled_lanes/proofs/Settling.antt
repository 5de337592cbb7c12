-- A gatherer that takes in its givers, one after the other, from the last to the first.
use Rattle.std.proofs.Common.{◌≡◌, ℕ, true, List, [], ◌∷◌, ◌++◌, map, length, All, refl, sym, ap, ◌∙◌, subst, append_assoc, append-nil}
use Rattle.std.proofs.lemmas.List.Elements.{All-nil, All-cons, All-head, All-tail, All-weaker, All-same}
use Rattle.crossbeam_channel.specs.Claims.{view}
use Rattle.ruled_lanes.specs.declared.channel.TheConstants.{LANES}
use Rattle.ruled_lanes.specs.declared.fan_channel.LaneGiver.{LaneGiver}
use Rattle.ruled_lanes.specs.declared.fan_channel.FanLog.{FanLog}
use Rattle.ruled_lanes.specs.FanProtocol.{fan_log, of_lane, Accounts}
use Rattle.ruled_lanes.specs.FanEnds.{lane_of, given_at, SettlesFan}
use Rattle.ruled_lanes.proofs.Fans.{of_lane-append}

all_of_map : {X Y : Type 0} (P : Y → Type 0) (f : X → Y) (xs : List X) → All P (map f xs) → All (λ x. P (f x)) xs
all_of_map P f [] all = All-nil (λ x. P (f x))
all_of_map P f (x ∷ xs) all = All-cons (λ y. P (f y)) x xs (All-head P (f x) (map f xs) all) (all_of_map P f xs (All-tail P (f x) (map f xs) all))

no_parts : {X : Type 0} (xs ys : List X) → xs ++ ys ≡ [] → (xs ≡ []) × (ys ≡ [])
no_parts [] ys e = (refl, e)
no_parts (x ∷ xs) ys e = absurd (cc)

no_items : {X : Type 0} (xs : List X) → length xs ≡ 0 → xs ≡ []
no_items [] e = refl
no_items (x ∷ xs) e = absurd (cc)

module _ {T : Type 0} where
  -- a lane with what was given there
  abbrev pub lane_given : LaneGiver T → ℕ × List T
  lane_given g = (lane_of g, given_at g)

  -- of all givers the last ones were taken in, and the first, the rest, were not
  abbrev pub HasMerged : List (ℕ × T) → List (LaneGiver T) → List (LaneGiver T) → FanLog T → Type 0
  HasMerged taken all rest v = (done : List (LaneGiver T)) × (all ≡ rest ++ done) × (v ≡ fan_log true LANES taken (map lane_given done))

  pub none_merged : (taken : List (ℕ × T)) (all : List (LaneGiver T)) (v : FanLog T) → v ≡ fan_log true LANES taken [] → HasMerged taken all all v
  none_merged taken all v is = ([], sym (append-nil all), is)

  -- one more is taken in
  pub one_merged : (taken : List (ℕ × T)) (all before rest : List (LaneGiver T)) (g : LaneGiver T) (v w : FanLog T) → before ≡ rest ++ g ∷ []
      → w ≡ fan_log v.takes v.made v.taken ((view g.pass).lanes ++ v.lanes) → HasMerged taken all before v → HasMerged taken all rest w
  one_merged taken all before rest g v w popped made h = (
    g ∷ h.0,
    h.1 ∙ ap (λ l. l ++ h.0) popped ∙ append_assoc rest (g ∷ []) h.0,
    made ∙ ap (λ (u : FanLog T). fan_log v.takes v.made v.taken (u.lanes ++ v.lanes)) g.role ∙ ap (λ (u : FanLog T). fan_log u.takes u.made u.taken (lane_given g ∷ u.lanes)) h.2,
  )

  -- what the gatherer then learns settles the fan
  pub all_merged : (taken items : List (ℕ × T)) (all rest : List (LaneGiver T)) (v : FanLog T) → length rest ≡ 0 → HasMerged taken all rest v
      → Accounts v items → SettlesFan taken all
  all_merged taken items all rest v none h fact =
      let learnt : Accounts (fan_log true LANES taken (map lane_given h.0)) items = subst (λ u. Accounts u items) h.2 fact in
      let Whole : LaneGiver T → Type 0 = λ g. of_lane (lane_of g) (taken ++ items) ≡ given_at g in
      let Settled : LaneGiver T → Type 0 = λ g. of_lane (lane_of g) taken ++ of_lane (lane_of g) items ≡ given_at g in
      let whole : All Whole h.0 = all_of_map (λ (l : ℕ × List T). of_lane l.0 (taken ++ items) ≡ l.1) lane_given h.0 learnt.0 in (
        items,
        All-same Settled all h.0 (h.1 ∙ ap (λ l. l ++ h.0) (no_items rest none)) (All-weaker Whole Settled (λ g e. sym (of_lane-append (lane_of g) taken items) ∙ e) h.0 whole),
        λ lane le. no_parts (of_lane lane taken) (of_lane lane items) (sym (of_lane-append lane taken items) ∙ learnt.1 lane le),
      )
