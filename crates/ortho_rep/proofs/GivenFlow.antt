-- What a flow carries and what is given, of one dart: an angle and its turns are the two together, since nothing flows where
-- something is given.
use Rattle.std.proofs.Common.{◌≡◌, ℕ, zero, suc, ◌+◌, ◌-◌, ◌<◌, ◌≤◌, List, length, replicate, ◌∙◌, refl, sym, ap, subst, inl, inr, arith}
use Rattle.std.specs.Prelude.{ℤ, pos, negsuc, neg_ℤ, nat_abs, ◌<ℤ◌, ◌≤ℤ◌, Option, Some, None}
use Rattle.std.proofs.lemmas.Bool.{cases_lt}
use Rattle.std.proofs.lemmas.Int.{ints}
use Rattle.std.proofs.lemmas.List.{get_or_past, length-replicate}
use Rattle.min_cost_flow.specs.Flow.{IsWithinCap}
use Rattle.ortho_rep.specs.declared.turn_strings.Turn.{Turn}
use Rattle.ortho_rep.specs.declared.turn_strings.Turn.TheVariants.{Left, Right}
use Rattle.faces.specs.Planes.{PlaneModel, darts}
use Rattle.flow_network.specs.Given.{GivenModel, CanBeGiven, IsAngle, nothing_given, angle_given, walked_back, beyond_first}
use Rattle.flow_network.specs.FaceNet.{corner_cap, crossing_cap}
use Rattle.flow_network.proofs.GivenParts.{left_part, right_part}
use Rattle.ortho_rep.specs.Turns.{mirrored, lefts, rights}
use Rattle.ortho_rep.specs.Keeping.{one_way}
use Rattle.ortho_rep.specs.OfFlow.{angle_or, turns_or}
use Rattle.ortho_rep.proofs.TurnCounts.{lefts-all, lefts-none, lefts-lefts_only, lefts-rights_only, rights-lefts_only, rights-rights_only}
use Rattle.ortho_rep.proofs.FlowStrings.{same-exchanged, lefts-lefts_then_rights, rights-lefts_then_rights, mirrored-lefts_then_rights}

-- an angle that is given can be, and so can none
pub angle_can : (given : GivenModel) → CanBeGiven given.angles given.turns → (d : ℕ) → IsAngle (angle_given given d)
angle_can given can d =
    elim (cases_lt d (length given.angles)) [
      | inl inside ↦ can.are_angles d None inside
      | inr past ↦ subst IsAngle (sym (get_or_past given.angles d None past)) tt
    ]

-- each given angle of the plane's darts is 1 to 4 right angles
abbrev pub AnglesCan : PlaneModel → GivenModel → Type 0
AnglesCan p given = (d : ℕ) → d < darts p → IsAngle (angle_given given d)

-- nothing can be given
pub nothing_can : CanBeGiven nothing_given.angles nothing_given.turns
nothing_can = record {
  are_angles = λ k d inside. absurd (omega (arith, inside));
  few = omega arith;
}

-- an angle has one right angle, what its corner arc carries, and what is given beyond
pub angle_units : (given : Option ℕ) (units : ℕ) → IsAngle given → IsWithinCap (corner_cap given) units → angle_or given units ≡ units + 1 + beyond_first given
angle_units None units is within = omega arith
angle_units (Some k) units is within =
    let none : units ≤ 0 = within in
    omega (arith, is.0, none)

-- so it is 1 to 4
pub angle_within : (given : Option ℕ) (units : ℕ) → IsAngle given → IsWithinCap (corner_cap given) units → (1 ≤ angle_or given units) × (angle_or given units ≤ 4)
angle_within None units is within =
    let few : units ≤ 3 = within in
    (omega arith, omega (arith, few))
angle_within (Some k) units is within = is

-- a dart turns to the left what its crossing arc carries, and what is given
pub left_units : (given : Option ℤ) (l r : ℕ) → IsWithinCap (crossing_cap given) l → lefts (turns_or given l r) ≡ l + left_part given
left_units None l r within = omega (arith, lefts-lefts_then_rights l r)
left_units (Some (pos n)) l r within =
    let none : l ≤ 0 = within in
    omega (arith, none, lefts-lefts_only n)
left_units (Some (negsuc n)) l r within =
    let none : l ≤ 0 = within in
    omega (arith, none, lefts-rights_only (n + 1))

-- and to the right what that of its reverse carries, and what is given
pub right_units : (given : Option ℤ) (l r : ℕ) → IsWithinCap (crossing_cap (walked_back given)) r → rights (turns_or given l r) ≡ r + right_part given
right_units None l r within = omega (arith, rights-lefts_then_rights l r)
right_units (Some (pos n)) l r within =
    let none : r ≤ 0 = within in
    omega (arith, none, rights-lefts_only n)
right_units (Some (negsuc n)) l r within =
    let none : r ≤ 0 = within in
    omega (arith, none, rights-rights_only (n + 1))

-- turns one way are walked back the other way
pub mirrored-one_way : (t : ℤ) → mirrored (one_way t) ≡ one_way (neg_ℤ t)
mirrored-one_way (pos zero) = refl
mirrored-one_way (pos (suc n)) = same-exchanged (suc n) Left ∙ ap (λ (k : ℕ). replicate k Right) (one_more n)
  where
    one_more : (n : ℕ) → suc n ≡ n + 1
    one_more n = omega arith
mirrored-one_way (negsuc n) = same-exchanged (n + 1) Right ∙ ap (λ (k : ℕ). replicate k Left) (one_less n)
  where
    one_less : (n : ℕ) → n + 1 ≡ suc n
    one_less n = omega arith

pub mirrored-turns_or : (given : Option ℤ) (l r : ℕ) → turns_or (walked_back given) r l ≡ mirrored (turns_or given l r)
mirrored-turns_or None l r = sym (mirrored-lefts_then_rights l r)
mirrored-turns_or (Some t) l r = sym (mirrored-one_way t)

-- given turns to the left are as many as are given, and so are all
pub lefts_one_way : (t : ℤ) → lefts (one_way t) ≡ left_part (Some t)
lefts_one_way (pos n) = lefts-lefts_only n
lefts_one_way (negsuc n) = lefts-rights_only (n + 1)

pub length-one_way : (t : ℤ) → length (one_way t) ≡ nat_abs t
length-one_way (pos n) = length-replicate n Left
length-one_way (negsuc n) = length-replicate (n + 1) Right ∙ more n
  where
    more : (n : ℕ) → n + 1 ≡ nat_abs (negsuc n)
    more n = omega arith

-- so a string is known by how many turns it has, and how many to the left
pub one_way_by_counts : (t : ℤ) (turns : List Turn) → length turns ≡ nat_abs t → lefts turns ≡ left_part (Some t) → turns ≡ one_way t
one_way_by_counts (pos n) turns long left = lefts-all turns (omega (arith, long, left)) ∙ ap (λ (k : ℕ). replicate k Left) long
one_way_by_counts (negsuc n) turns long left = lefts-none turns left ∙ ap (λ (k : ℕ). replicate k Right) (long ∙ more n)
  where
    more : (n : ℕ) → nat_abs (negsuc n) ≡ n + 1
    more n = omega arith

pub left_part_right : (t : ℤ) → t <ℤ pos 0 → left_part (Some t) ≡ 0
left_part_right (pos n) less = absurd (omega (arith, ints, less))
left_part_right (negsuc n) less = refl

pub left_part_left : (t : ℤ) → pos 0 ≤ℤ t → left_part (Some t) ≡ nat_abs t
left_part_left (pos n) more = refl
left_part_left (negsuc n) more = absurd (omega (arith, ints, more))
