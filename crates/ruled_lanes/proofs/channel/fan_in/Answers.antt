use Rattle.std.proofs.Common.{◌≡◌, ◌+◌, ◌⊎◌, ℕ, zero, suc, List, [], ◌∷◌, ◌++◌, length, Some, slice_get, All, refl, sym, ap, ◌∙◌, subst, inl, inr, ⊎_elim, rules, arith, length-append}
use Rattle.std.proofs.lemmas.List.Elements.{All-push}
use Rattle.crossbeam_channel.specs.Claims.{view}
use Rattle.crossbeam_channel.specs.Ends.{sends_on}
use Rattle.ruled_lanes.specs.declared.fan_channel.LaneGiver.{LaneGiver}
use Rattle.ruled_lanes.specs.FanProtocol.{fan_log, given_in}
use Rattle.ruled_lanes.specs.FanEnds.{lane_of, given_at, StandInOrder}
use Rattle.ruled_lanes.proofs.Fans.{begins, forks}
use Rattle.ruled_lanes.proofs.channel.fan_in.Goals as goal

module _ {X : Type 0} where
  got_more : (l : List X) (a b : X) (j : ℕ) → slice_get (l ++ a ∷ []) j ≡ Some b → (slice_get l j ≡ Some b) ⊎ ((j ≡ length l) × (a ≡ b))
  got_more [] a b zero e = inr (refl, cc)
  got_more [] a b (suc j) e = absurd (cc)
  got_more (x ∷ xs) a b zero e = inl e
  got_more (x ∷ xs) a b (suc j) e =
      ⊎_elim (λ (t : slice_get xs j ≡ Some b). inl t) (λ (t : (j ≡ length xs) × (a ≡ b)). inr (ap suc t.0, t.1)) (got_more xs a b j e)

-- givers in order stay so with the giver of the next lane
stand_more : {T : Type 0} (givers : List (LaneGiver T)) (g : LaneGiver T) → lane_of g ≡ length givers → StandInOrder givers → StandInOrder (givers ++ g ∷ [])
stand_more givers g next order k h e = ⊎_elim (λ (x : slice_get givers k ≡ Some h). order k h x)
    (λ (x : (k ≡ length givers) × (g ≡ h)). ap lane_of (sym x.1) ∙ next ∙ sym x.0) (got_more givers g h k e)

pub bounded_with-requires-clause-rule : goal.bounded_with-requires-clause-rule
bounded_with-requires-clause-rule g c = begins

pub another-gives-requires-clause-rule : goal.another-gives-requires-clause-rule
another-gives-requires-clause-rule g c = forks _ _ (ap (λ v. v.takes) c.loop-lane.invariant.role)

pub loop-lane-preserved : goal.loop-lane-preserved
loop-lane-preserved g c =
    let was = c.loop-lane.invariant in
    let left = c.another-gives.ensures.rule.0 in
    let right = c.another-gives.ensures.rule.1 in
    let Same : LaneGiver g.row.T.Denot → Type 0 = λ h. sends_on h.sender ≡ sends_on c.in_ok-sender.sender in
    let Unused : LaneGiver g.row.T.Denot → Type 0 = λ h. given_at h ≡ [] in
    let items : c.push_reserved.new.self.items ≡ c.loop-lane.givers.items ++ c.of.result ∷ [] = c.push_reserved.ensures.items in record {
      room = omega arith;
      many = ap length items ∙ length-append c.loop-lane.givers.items (c.of.result ∷ []) ∙ ap (λ n. n + 1) was.many;
      seated = search rules;
      role = left ∙ ap (λ v. fan_log v.takes (v.made + 1) v.taken v.lanes) was.role;
      fan = subst (All Same) (sym items) (All-push Same c.loop-lane.givers.items c.of.result was.fan (ap sends_on c.of.ensures.0 ∙ c.in_ok-own.ensures));
      order = subst StandInOrder (sym items) (stand_more c.loop-lane.givers.items c.of.result (omega (arith, c.of.ensures)) was.order);
      unused = subst (All Unused) (sym items) (All-push Unused c.loop-lane.givers.items c.of.result was.unused (ap (λ p. given_in (view p)) c.of.ensures.1 ∙ ap given_in right));
    }
