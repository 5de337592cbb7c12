-- The connected face is added to the faces.
use Rattle.std.proofs.Common.{◌≡◌, ◌≢◌, ℕ, ◌+◌, ◌-◌, ◌≤◌, ◌∙◌, List, [], ◌∷◌, ◌++◌, length, take, length-append, append_assoc, arith, sym, ap, refl, inl, inr}
use Rattle.std.proofs.lemmas.Bool.{cases_eq}
use Rattle.std.proofs.lemmas.List.{length-take}
use Rattle.dissect.specs.DartMaps.{DartMap}
use Rattle.dissect.specs.Faces.{concatenated}
use Rattle.dissect.proofs.Listing.{distinct_right, below_right}
use Rattle.dissect.specs.Listed.{AreFlat, AreListed, AreMergedFaces, AreKeptCorners, detour}
use Rattle.dissect.proofs.Orbits.{distinct_few}
use Rattle.dissect.proofs.Tracing.{concatenated_more, lengths_more}

pub listed_few : (w : DartMap) (right : ℕ) (inner : List (List ℕ)) (outer : List ℕ) → AreListed w right inner outer → length outer ≤ w.darts
listed_few w right inner outer listed =
    distinct_few w.darts outer (distinct_right (concatenated inner) outer listed.distinct) (below_right w.darts (concatenated inner) outer listed.below)

take_front : (front : List ℕ) (x : ℕ) → take (length front) (front ++ (x ∷ [])) ≡ front
take_front [] x = refl
take_front (y ∷ front) x = ap (λ (xs : List ℕ). y ∷ xs) (take_front front x)

-- all but the last
pub kept_popped : (front outer kept : List ℕ) (right : ℕ) → outer ≡ front ++ (right ∷ []) → kept ≡ take (length outer - 1) outer → kept ≡ front
kept_popped front outer kept right ends popped =
    let less : length outer - 1 ≡ length front = omega (arith, ap length ends, length-append front (right ∷ [])) in
    popped ∙ ap (λ (k : ℕ). take k outer) less ∙ ap (take (length front)) ends ∙ take_front front right

pub connected_made : (w : DartMap) (right side : ℕ) (front kept : List ℕ) (inner : List (List ℕ)) (corners counts corners' counts' : List ℕ) (count : ℕ) →
    AreKeptCorners w right front kept → AreFlat corners counts inner → corners' ≡ (corners ++ kept) ++ detour w.darts side →
    counts' ≡ counts ++ (count ∷ []) → count ≡ length kept + 7 → AreMergedFaces w right side front inner corners' counts'
connected_made w right side front kept inner corners counts corners' counts' count is flat corners_are counts_are count_is =
    let big : List ℕ = kept ++ detour w.darts side in
    let long : count ≡ length big = omega (arith, count_is, length-append kept (detour w.darts side)) in
    record {
      kept = kept;
      is_kept = is;
      flat = record {
        flat = corners_are ∙ append_assoc corners kept (detour w.darts side) ∙ ap (λ (xs : List ℕ). xs ++ big) flat.flat ∙ sym (concatenated_more inner big);
        lengths = counts_are ∙ ap (λ (k : ℕ). counts ++ (k ∷ [])) long ∙ ap (λ (xs : List ℕ). xs ++ (length big ∷ [])) flat.lengths
            ∙ sym (lengths_more inner big);
      };
    }

-- the outer face's corners, of which the last went where the angle there was 3
pub record IsRemaining (angle : ℕ) (outer after : List ℕ) : Type 0 where
  pub popped : angle ≡ 3 → after ≡ take (length outer - 1) outer
  pub whole : angle ≢ 3 → after ≡ outer

pub left_few : (angle : ℕ) (outer after : List ℕ) → IsRemaining angle outer after → length after ≤ length outer
left_few angle outer after left =
    elim (cases_eq angle 3) [
      | inl e ↦ omega (arith, ap length (left.popped e), length-take (length outer - 1) outer)
      | inr ne ↦ omega (arith, ap length (left.whole ne))
    ]

pub left_kept : (w : DartMap) (right : ℕ) (inner : List (List ℕ)) (outer after : List ℕ) (angle : ℕ) → angle ≡ w.angle right → IsRemaining angle outer after →
    (listed : AreListed w right inner outer) → AreKeptCorners w right listed.front after
left_kept w right inner outer after angle angle_is left listed = record {
  straight = λ h. kept_popped listed.front outer after right listed.ends (left.popped (angle_is ∙ h));
  turning = λ h. left.whole (λ e. h (sym angle_is ∙ e)) ∙ listed.ends;
}
