-- One message more of a fan.
use Rattle.std.proofs.Common.{◌≡◌, ◌⊎◌, ℕ, zero, suc, ◌<◌, Bool, true, false, cond, List, [], ◌∷◌, ◌++◌, map, length, replicate, inl, inr, refl, sym, ap, subst, ◌∙◌, arith, append-nil, append_assoc}
use Rattle.std.specs.Prelude.{slice_index_or}
use Rattle.std.specs.List.{AllWithin}
use Rattle.std.proofs.lemmas.Bool.{eq-eqb, false≢true}
use Rattle.std.proofs.lemmas.List.{map-append}
use Rattle.std.proofs.lemmas.List.Elements.{All-from_all_within}
use Rattle.ruled_lanes.specs.FanProtocol.{of_lane}
use Rattle.ruled_lanes.proofs.Fans.{of_lane-append}
use Rattle.lanes.specs.declared.message.Message.{Message}
use Rattle.lanes.specs.declared.message.Message.TheVariants as message
use Rattle.lanes.specs.Notes.{About, Note, Stop, notes_of, notes}
use Rattle.lanes.specs.Fans.{HasStop, untagged, HaveStopped, AreStops}
use Rattle.lanes.proofs.Passing.{notes-append}

-- a stop stays
stop_stays : (ns ms : List Note) → HasStop ns → HasStop (ns ++ ms)
stop_stays ns ms (front, rest, is) = (front, rest ++ ms, ap (λ l. l ++ ms) is ∙ append_assoc front (Stop ∷ rest) ms)

none_true : (n k : ℕ) → slice_index_or (replicate n false) k false ≡ true → ⊥
none_true zero k is = false≢true is
none_true (suc n) zero is = false≢true is
none_true (suc n) (suc k) is = none_true n k is

not_false : (Passes : Bool → Type 0) → (Passes false → ⊥) → (b : Bool) → Passes b → b ≡ true
not_false Passes never true passes = refl
not_false Passes never false passes = absurd (never passes)

all_true : (Passes : Bool → Type 0) → (Passes false → ⊥) → (stops : List Bool) → AllWithin Passes stops 0 (length stops)
    → (k : ℕ) → k < length stops → slice_index_or stops k false ≡ true
all_true Passes never stops all k below = not_false Passes never (slice_index_or stops k false) (All-from_all_within Passes stops all k false below)

module _ {T M : Type 0} where
  -- the notes of a lane, of one message more
  lane_parts : (about : T → About) (lane : ℕ) (before after : List (ℕ × Message T M)) (x : ℕ × Message T M) → after ≡ before ++ x ∷ []
      → notes about (of_lane lane after) ≡ notes about (of_lane lane before) ++ notes about (of_lane lane (x ∷ []))
  lane_parts about lane before after x more =
      ap (λ l. notes about (of_lane lane l)) more ∙ ap (notes about) (of_lane-append lane before (x ∷ []))
      ∙ notes-append about (of_lane lane before) (of_lane lane (x ∷ []))

  pub lane_more : (about : T → About) (lane : ℕ) (before after : List (ℕ × Message T M)) (x : ℕ × Message T M) → after ≡ before ++ x ∷ []
      → HasStop (notes about (of_lane lane before)) → HasStop (notes about (of_lane lane after))
  lane_more about lane before after x more has =
      subst HasStop (sym (lane_parts about lane before after x more)) (stop_stays (notes about (of_lane lane before)) (notes about (of_lane lane (x ∷ []))) has)

  lane_stops : (about : T → About) (lane : ℕ) (before after : List (ℕ × Message T M)) (x : ℕ × Message T M) → after ≡ before ++ x ∷ [] → lane ≡ x.0 → x.1 ≡ message.Stop
      → HasStop (notes about (of_lane lane after))
  lane_stops about lane before after x more mine stop =
      let f : ℕ × Message T M → Message T M = λ y. y.1 in (
        notes about (of_lane lane before),
        [],
        lane_parts about lane before after x more
            ∙ ap (λ l. notes about (of_lane lane before) ++ notes about l) (ap (λ t. map f (cond t (x ∷ []) [])) (eq-eqb x.0 lane (sym mine)))
            ∙ ap (λ m. notes about (of_lane lane before) ++ notes about (m ∷ [])) stop,
      )

  -- what is noted of stops, after one message more
  pub stops_more : (about : T → About) (stops : List Bool) (before after : List (ℕ × Message T M)) (x : ℕ × Message T M) → after ≡ before ++ x ∷ []
      → AreStops about before stops → AreStops about after stops
  stops_more about stops before after x more are = λ lane is. lane_more about lane before after x more (are lane is)

  pub stop_noted : (about : T → About) (stops stops' : List Bool) (before after : List (ℕ × Message T M)) (x : ℕ × Message T M) → after ≡ before ++ x ∷ [] → x.1 ≡ message.Stop
      → ((k : ℕ) → slice_index_or stops' k false ≡ true → (k ≡ x.0) ⊎ (slice_index_or stops k false ≡ true))
      → AreStops about before stops → AreStops about after stops'
  stop_noted about stops stops' before after x more stop noted are = λ lane is.
      elim (noted lane is) [
        | inl mine ↦ lane_stops about lane before after x more mine stop
        | inr was ↦ lane_more about lane before after x more (are lane was)
      ]

  pub none_noted : (about : T → About) (items : List (ℕ × Message T M)) (n : ℕ) → AreStops about items (replicate n false)
  none_noted about items n = λ lane is. absurd (none_true n lane is)

  -- the notes of one message more, whatever its lane
  pub told_more : (about : T → About) (before after : List (ℕ × Message T M)) (x : ℕ × Message T M) (ns : List Note)
      → after ≡ before ++ x ∷ [] → notes_of about x.1 ≡ ns → notes about (untagged after) ≡ notes about (untagged before) ++ ns
  told_more about before after x ns more is =
      let f : ℕ × Message T M → Message T M = λ y. y.1 in
      ap (λ l. notes about (untagged l)) more ∙ ap (notes about) (map-append f before (x ∷ [])) ∙ notes-append about (untagged before) (x.1 ∷ [])
      ∙ ap (λ l. notes about (untagged before) ++ l) (append-nil (notes_of about x.1) ∙ is)

  -- where no lane is left, each has stopped
  pub all_stopped : (about : T → About) (items : List (ℕ × Message T M)) (Passes : Bool → Type 0) → (Passes false → ⊥) → (stops : List Bool) (lanes : ℕ) → length stops ≡ lanes
      → AllWithin Passes stops 0 (length stops) → AreStops about items stops → HaveStopped about lanes items
  all_stopped about items Passes never stops lanes count all are = λ lane below. are lane (all_true Passes never stops all lane (omega (arith, below, count)))
