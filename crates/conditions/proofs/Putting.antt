-- Items of a list, met one after another, and values that are put at places.
use Rattle.std.proofs.Common.{◌≡◌, ◌∙◌, ◌↔◌, ◌⊎◌, ℕ, ◌+◌, ◌<◌, List, ◌++◌, length, take, drop, get_or, set, sym, ap, subst, inl, inr, arith}
use Rattle.std.specs.Prelude.{Option, Some, None, All, Any, ℤ, pos, negsuc, nat_abs, ◌≤◌, ◌^◌}
use Rattle.std.proofs.lemmas.Bool.{cases_eq}
use Rattle.std.proofs.lemmas.List.{get_or-take, get_or_default, get_or-set_same, get_or-set_other, set-get_or, length-take, length-take-le, take-append-le, take_all}
use Rattle.std.proofs.lemmas.Int.{to_z-of_z}
use mir.Val.{SFits, of_z, to_z}
use mir.Syntax.{w32}
use Rattle.conditions.specs.Asking.{IsPut, HoldsOther}

-- some of the first i + 1 items has P if one of the first i has, or item i
pub any_more : {X : Type 0} (P : X → Type 0) (xs : List X) (i : ℕ) (d : X) → i < length xs → Any P (take (i + 1) xs) ↔ (Any P (take i xs) ⊎ P (get_or xs i d))
any_more {X} P xs i d lt =
    let fewer : length (take i xs) ≡ i = length-take-le i xs (omega arith) in
    let more : length (take (i + 1) xs) ≡ i + 1 = length-take-le (i + 1) xs (omega arith) in (
      λ (k, x, below, is, holds).
          let at : get_or xs k x ≡ x = sym (get_or-take (i + 1) xs k x (omega arith)) ∙ is in
          elim (cases_eq k i) [
            | inl last ↦ inr (subst P (sym at ∙ get_or_default xs k x d (omega arith) ∙ ap (λ (j : ℕ). get_or xs j d) last) holds)
            | inr other ↦ inl (k, x, omega arith, get_or-take i xs k x (omega arith) ∙ at, holds)
          ],
      λ some. elim some [
        | inl (k, x, below, is, holds) ↦ (k, x, omega arith, get_or-take (i + 1) xs k x (omega arith) ∙ (sym (get_or-take i xs k x (omega arith)) ∙ is), holds)
        | inr holds ↦ (i, get_or xs i d, omega arith, get_or-take (i + 1) xs i (get_or xs i d) (omega arith) ∙ get_or_default xs i (get_or xs i d) d lt, holds)
      ],
    )

-- one of the first items is one of all
pub any_whole : {X : Type 0} (P : X → Type 0) (xs : List X) (n : ℕ) → Any P (take n xs) → Any P xs
any_whole P xs n (k, x, below, is, holds) = (k, x, omega (arith, length-take n xs), sym (get_or-take n xs k x (omega (arith, length-take n xs))) ∙ is, holds)

-- none of the first 0 has anything
pub none_yet : {X : Type 0} (P : X → Type 0) (xs : List X) → Any P (take 0 xs) → ⊥
none_yet P xs (k, x, below, is, holds) = absurd (omega (arith, length-take 0 xs))

-- an item with Q, where all have P
pub any_all : {X : Type 0} (P Q : X → Type 0) (xs : List X) → All P xs → Any Q xs → (x : X) × P x × Q x
any_all P Q xs all (k, x, below, is, holds) = (x, subst P is (all k x below), holds)

-- one value more is put in a list, at a place that counts; R asks for it there, and for nothing else at a place that counts
pub put_more : {A : Type 0} (n e : ℕ) (v : A) (Counts : ℕ → Type 0) (Q R : ℕ → A → Type 0) (old new : List (Option A)) → length old ≡ n → e < n →
    ((d : ℕ) → d < n → Counts d → (k : A) → R d k → (d ≡ e) × (k ≡ v)) → R e v → IsPut e v old new →
    ((d : ℕ) → d < n → Counts d → (k : A) → (get_or old d None ≡ Some k) ↔ Q d k) →
    (d : ℕ) → d < n → Counts d → (k : A) → (get_or new d None ≡ Some k) ↔ (Q d k ⊎ R d k)
put_more {A} n e v Counts Q R old new long room only asks is before d lt counts k =
    elim (cases_eq d e) [
      | inl here ↦
          let at : get_or new d None ≡ Some v =
          ap (λ (l : List (Option A)). get_or l d None) is.put
          ∙ (ap (λ (j : ℕ). get_or (set old e (Some v)) j None) here ∙ get_or-set_same old e (Some v) None (omega arith)) in (
            λ found.
                let joined : Some v ≡ Some k = sym at ∙ found in
                let same : v ≡ k = cc in
                inr (subst (λ (j : ℕ). R j k) (sym here) (subst (λ (w : A). R e w) same asks)),
            λ asked. elim asked [
              | inl earlier ↦ at ∙ ap (λ (w : A). Some w) (sym (is.no_other k (subst (λ (j : ℕ). get_or old j None ≡ Some k) here ((before d lt counts k).1 earlier))))
              | inr now ↦ at ∙ ap (λ (w : A). Some w) (sym (only d lt counts k now).1)
            ],
          )
      | inr other ↦
          let at : get_or new d None ≡ get_or old d None =
          ap (λ (l : List (Option A)). get_or l d None) is.put ∙ get_or-set_other old e d (Some v) None other in (
            λ found. inl ((before d lt counts k).0 (sym at ∙ found)),
            λ asked. elim asked [
              | inl earlier ↦ at ∙ (before d lt counts k).1 earlier
              | inr now ↦ absurd (other (only d lt counts k now).0)
            ],
          )
    ]

-- a value that is there already
pub held_already : {A : Type 0} (found : List (Option A)) (place : ℕ) (held value : A) → get_or found place None ≡ Some held → held ≡ value → IsPut place value found found
held_already {A} found place held value is same = record {
  put = sym (set-get_or found place None) ∙ ap (λ (o : Option A). set found place o) (is ∙ ap (λ (w : A). Some w) same);
  no_other = λ other at.
      let joined : Some held ≡ Some other = sym is ∙ at in
      let one : held ≡ other = cc in
      sym one ∙ same;
}

pub held_other : {A : Type 0} (found : List (Option A)) (place : ℕ) (held value : A) → get_or found place None ≡ Some held → (held ≡ value → ⊥) → HoldsOther place value found
held_other found place held value is other = record { held = held; is_held = is; differs = other }

-- turns that fit 32 bits and are alike there are the same
pub small_fits : (z : ℤ) → nat_abs z ≤ 2 ^ 15 → SFits w32 z
small_fits (pos n) few = record { sfits = omega arith }
small_fits (negsuc n) few = record { sfits = omega arith }

pub same_turns : (x y : ℤ) → nat_abs x ≤ 2 ^ 15 → nat_abs y ≤ 2 ^ 15 → of_z w32 x ≡ of_z w32 y → x ≡ y
same_turns x y few less same = sym (to_z-of_z w32 x (small_fits x few)) ∙ ap (to_z w32) same ∙ to_z-of_z w32 y (small_fits y less)

-- a small number is the same where it was passed on
pub passed : (z : ℤ) → nat_abs z ≤ 2 ^ 15 → to_z w32 (of_z w32 z) ≡ z
passed z few = to_z-of_z w32 z (small_fits z few)

-- a slice of a whole list, written back into it
pub take_written : {A : Type 0} (n : ℕ) (new old : List A) → n ≡ length old → length new ≡ length old → take n (new ++ drop (length new) old) ≡ new
take_written n new old all same = take-append-le n new (drop (length new) old) (omega arith) ∙ take_all n new (omega arith)
