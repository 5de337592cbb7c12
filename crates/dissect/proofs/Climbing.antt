-- Finding the first place in front of which the walk has turned left most.
use Rattle.std.proofs.Common.{◌≡◌, ℕ, ◌+◌, ◌-◌, ◌*◌, ◌<◌, ◌≤◌, ◌⊎◌, List, length, take, get_or, arith, subst, sym, inl, inr}
use Rattle.std.proofs.lemmas.Bool.{cases_eq}
use Rattle.dissect.specs.Turning.{total}
use Rattle.dissect.proofs.Rotating.{total-take_more}

-- after the corners below `done` the walk is `behind` quarter turns behind the best place
pub record IsClimb (xs : List ℕ) (done best behind : ℕ) : Type 0 where
  pub low : best ≤ done
  pub here : 2 * done + total (take best xs) + behind ≡ 2 * best + total (take done xs)
  pub first : (j : ℕ) → j < best → 2 * j + total (take best xs) + 1 ≤ 2 * best + total (take j xs)
  pub most : (j : ℕ) → j ≤ done → 2 * j + total (take best xs) ≤ 2 * best + total (take j xs)
  pub small : behind ≤ 2 * done

-- a new best place
pub climb_higher : (xs : List ℕ) (done best behind x : ℕ) → done < length xs → x ≡ get_or xs done 0 →
    behind + x < 2 → IsClimb xs done best behind → IsClimb xs (done + 1) (done + 1) 0
climb_higher xs done best behind x more x_is higher climb =
    let next : total (take (done + 1) xs) ≡ total (take done xs) + x = omega (arith, total-take_more xs done more, x_is) in
    record {
      low = omega arith;
      here = omega arith;
      first = λ j l. omega (arith, climb.most j (omega (arith, l)), climb.here, higher, next);
      most = λ j l. elim (cases_eq j (done + 1)) [
        | inl e ↦ subst (λ (k : ℕ). 2 * k + total (take (done + 1) xs) ≤ 2 * (done + 1) + total (take k xs)) (sym e) (omega arith)
        | inr other ↦ omega (arith, climb.most j (last done j l other), climb.here, higher, next)
      ];
      small = omega arith;
    }
  where
    last : (done j : ℕ) → j ≤ done + 1 → (j ≡ done + 1 → ⊥) → j ≤ done
    last done j l other = omega arith

-- the best place stays
pub climb_stays : (xs : List ℕ) (done best behind x : ℕ) → done < length xs → x ≡ get_or xs done 0 → x ≤ 4 →
    2 ≤ behind + x → IsClimb xs done best behind → IsClimb xs (done + 1) best (behind + x - 2)
climb_stays xs done best behind x more x_is x_small lower climb =
    let next : total (take (done + 1) xs) ≡ total (take done xs) + x = omega (arith, total-take_more xs done more, x_is) in
    record {
      low = omega (arith, climb.low);
      here = omega (arith, climb.here, next, lower);
      first = climb.first;
      most = λ j l. elim (cases_eq j (done + 1)) [
        | inl e ↦ subst (λ (k : ℕ). 2 * k + total (take best xs) ≤ 2 * best + total (take k xs)) (sym e) (omega (arith, next, lower, climb.here))
        | inr other ↦ climb.most j (last done j l other)
      ];
      small = omega (arith, climb.small, x_small);
    }
  where
    last : (done j : ℕ) → j ≤ done + 1 → (j ≡ done + 1 → ⊥) → j ≤ done
    last done j l other = omega arith

-- one corner read, with what the branch made of the best place
pub climb_either : (xs : List ℕ) (done best behind x best' behind' : ℕ) → done < length xs → x ≡ get_or xs done 0 → x ≤ 4 →
    IsClimb xs done best behind →
    ((behind + x < 2) × (best' ≡ done + 1) × (behind' ≡ 0)) ⊎ ((2 ≤ behind + x) × (best' ≡ best) × (behind' ≡ behind + x - 2)) →
    IsClimb xs (done + 1) best' behind'
climb_either xs done best behind x best' behind' more x_is x_small climb either =
    elim either [
      | inl new ↦
          subst (λ (b : ℕ). IsClimb xs (done + 1) b behind') (sym new.1)
          (subst (λ (s : ℕ). IsClimb xs (done + 1) (done + 1) s) (sym new.2)
          (climb_higher xs done best behind x more x_is new.0 climb))
      | inr old ↦
          subst (λ (b : ℕ). IsClimb xs (done + 1) b behind') (sym old.1)
          (subst (λ (s : ℕ). IsClimb xs (done + 1) best s) (sym old.2)
          (climb_stays xs done best behind x more x_is x_small old.0 climb))
    ]
