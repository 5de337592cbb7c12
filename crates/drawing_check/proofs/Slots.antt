-- The quarters round a vertex: each belongs to one of the darts that arrive there.
use Rattle.std.proofs.Common.{◌≡◌, ◌≤◌, ◌<◌, ℕ, zero, suc, ◌+◌, ◌-◌, Bool, true, false, cond, eqb, refl, sym, ap, ◌∙◌, subst, inl, inr, arith}
use Rattle.std.proofs.lemmas.Bool.{cases_eq, eq-eqb, cond-true}
use Rattle.common.specs.Sums.{sum_below}
use Rattle.common.proofs.Sums.{sum_below-same, sum_below-add, sum_below-member}
use Rattle.geometry.specs.declared.direction.Direction.{Direction}
use Rattle.geometry.specs.declared.direction.Direction.TheVariants.{East, North, West, South}
use Rattle.geometry.specs.Directions.{left_of, right_of, quarters, left_quarters}
use Rattle.geometry.proofs.Quarters.{quarters_of_lefts}

pub left_right : (q : Direction) → left_of (right_of q) ≡ q
left_right East = refl
left_right North = refl
left_right West = refl
left_right South = refl

pub right_left : (q : Direction) → right_of (left_of q) ≡ q
right_left East = refl
right_left North = refl
right_left West = refl
right_left South = refl

-- 1 where two directions are the same, else 0
abbrev hit : Direction → Direction → ℕ
hit East East = 1
hit North North = 1
hit West West = 1
hit South South = 1
hit _ _ = 0

hit_self : (q : Direction) → hit q q ≡ 1
hit_self East = refl
hit_self North = refl
hit_self West = refl
hit_self South = refl

hit_all : (q : Direction) → hit q East + hit q North + hit q West + hit q South ≡ 1
hit_all East = refl
hit_all North = refl
hit_all West = refl
hit_all South = refl

-- how many of a quarters to the left of b are s
abbrev met : ℕ → Direction → Direction → ℕ
met zero b s = 0
met (suc a) b s = hit (left_quarters a b) s + met a b s

met_all : (a : ℕ) (b : Direction) → met a b East + met a b North + met a b West + met a b South ≡ a
met_all zero b = refl
met_all (suc a) b = omega (arith, hit_all (left_quarters a b), met_all a b)

met_some : (a j : ℕ) (b s : Direction) → j < a → left_quarters j b ≡ s → 1 ≤ met a b s
met_some zero j b s less is = absurd (omega arith)
met_some (suc a) j b s less is =
    elim (cases_eq j a) [
      | inl e ↦
          let here : hit (left_quarters a b) s ≡ 1 = ap (λ (k : ℕ). hit (left_quarters k b) s) (sym e) ∙ ap (λ (q : Direction). hit q s) is ∙ hit_self s in
          omega (arith, here)
      | inr ne ↦ omega (arith, met_some a j b s (omega arith) is)
    ]

-- two summands are no more than the sum
two_members : (n a b : ℕ) (f : ℕ → ℕ) → a < n → b < n → (a ≡ b → ⊥) → f a + f b ≤ sum_below n f
two_members zero a b f a_in b_in apart = absurd (omega arith)
two_members (suc n) a b f a_in b_in apart =
    elim (cases_eq a n) [
      | inl e ↦
          let off : b ≡ n → ⊥ = λ k. apart (e ∙ sym k) in
          let last : f a ≡ f n = ap f e in
          omega (arith, last, sum_below-member n b f (omega (arith, off, b_in)))
      | inr ne ↦ elim (cases_eq b n) [
        | inl e ↦
            let last : f b ≡ f n = ap f e in
            omega (arith, last, sum_below-member n a f (omega (arith, ne, a_in)))
        | inr ne' ↦ omega (arith, two_members n a b f (omega (arith, ne, a_in)) (omega (arith, ne', b_in)) apart)
      ]
    ]

-- darts with the directions in which they leave their tails, and the angles at their heads
pub record AreTurning (n : ℕ) (head reverse_dart next angle : ℕ → ℕ) (leaving : ℕ → Direction) : Type 0 where
  pub back_in : (d : ℕ) → d < n → reverse_dart d < n
  pub back_back : (d : ℕ) → d < n → reverse_dart (reverse_dart d) ≡ d
  pub next_in : (d : ℕ) → d < n → next d < n
  pub next_head : (d : ℕ) → d < n → head (reverse_dart (next d)) ≡ head d
  pub some : (d : ℕ) → d < n → 1 ≤ angle d
  pub most : (d : ℕ) → d < n → angle d ≤ 4
  pub turns : (d : ℕ) → d < n → leaving (reverse_dart d) ≡ left_quarters (angle d) (leaving (next d))
  pub around : (d : ℕ) → d < n → sum_below n (λ e. cond (eqb (head e) (head d)) (angle e) 0) ≡ 4

module _ (n : ℕ) (head reverse_dart next angle : ℕ → ℕ) (leaving : ℕ → Direction) (are : AreTurning n head reverse_dart next angle leaving) where
  -- how often a quarter at vertex v is met, by one dart and by all
  abbrev meets : ℕ → Direction → ℕ → ℕ
  meets v s d = cond (eqb (head d) v) (met (angle d) (leaving (next d)) s) 0

  abbrev all : ℕ → Direction → ℕ
  all v s = sum_below n (meets v s)

  four : (v : ℕ) → all v East + all v North + all v West + all v South ≡ sum_below n (λ e. cond (eqb (head e) v) (angle e) 0)
  four v =
      let en = sum_below-add n (meets v East) (meets v North) in
      let enw = sum_below-add n (λ d. meets v East d + meets v North d) (meets v West) in
      let enws = sum_below-add n (λ d. meets v East d + meets v North d + meets v West d) (meets v South) in
      let same = sum_below-same n (λ d. meets v East d + meets v North d + meets v West d + meets v South d) (λ e. cond (eqb (head e) v) (angle e) 0)
      (λ d d_in. each (eqb (head d) v) (angle d) (leaving (next d))) in
      omega (arith, en, enw, enws, same)
    where
      each : (t : Bool) (a : ℕ) (b : Direction)
          → cond t (met a b East) 0 + cond t (met a b North) 0 + cond t (met a b West) 0 + cond t (met a b South) 0 ≡ cond t a 0
      each true a b = met_all a b
      each false a b = refl

  -- a quarter that dart d meets at its head
  pub record Meets (v : ℕ) (s : Direction) : Type 0 where
    pub d : ℕ
    pub j : ℕ
    pub dart_in : d < n
    pub at : head d ≡ v
    pub within : j < angle d
    pub is : left_quarters j (leaving (next d)) ≡ s

  meets_some : (v : ℕ) (s : Direction) (d j : ℕ) → d < n → head d ≡ v → j < angle d → left_quarters j (leaving (next d)) ≡ s → 1 ≤ meets v s d
  meets_some v s d j d_in at within is =
      subst (λ (k : ℕ). 1 ≤ k) (sym (cond-true {A = ℕ} (eqb (head d) v) (met (angle d) (leaving (next d)) s) 0 (eq-eqb (head d) v at)))
      (met_some (angle d) j (leaving (next d)) s within is)

  one_more : (v : ℕ) (s : Direction) → Meets v s → 1 ≤ all v s
  one_more v s m =
      omega (arith, meets_some v s m.d m.j m.dart_in m.at m.within m.is, sum_below-member n m.d (meets v s) m.dart_in)

  -- with a quarter the one on its right is met, too
  to_right : (v : ℕ) (s : Direction) → Meets v s → Meets v (right_of s)
  to_right v s m = by_place m.j refl
    where
      by_place : (j : ℕ) → m.j ≡ j → Meets v (right_of s)
      by_place (suc j) e = record {
        d = m.d;
        j = j;
        dart_in = m.dart_in;
        at = m.at;
        within = omega (arith, m.within, e);
        is = sym (right_left (left_quarters j (leaving (next m.d)))) ∙ ap right_of (ap (λ (k : ℕ). left_quarters k (leaving (next m.d))) (sym e) ∙ m.is);
      }
      by_place zero e =
          let c : ℕ = next m.d in
          let c_in = are.next_in m.d m.dart_in in
          let r : ℕ = reverse_dart c in
          let r_in = are.back_in c c_in in
          let some = are.some r r_in in
          let a : ℕ = angle r - 1 in
          let up : suc a ≡ angle r = omega (arith, some) in
          let is_s : left_of (left_quarters a (leaving (next r))) ≡ s =
          ap (λ (k : ℕ). left_quarters k (leaving (next r))) up ∙ sym (are.turns r r_in) ∙ ap leaving (are.back_back c c_in)
          ∙ ap (λ (k : ℕ). left_quarters k (leaving (next m.d))) (sym e) ∙ m.is in
          record {
            d = r;
            j = a;
            dart_in = r_in;
            at = are.next_head m.d m.dart_in ∙ m.at;
            within = omega (arith, some);
            is = sym (right_left (left_quarters a (leaving (next r)))) ∙ ap right_of is_s;
          }

  each_met : (v : ℕ) (s t : Direction) → Meets v s → Meets v t
  each_met v East East m = m
  each_met v East South m = to_right v East m
  each_met v East West m = to_right v South (to_right v East m)
  each_met v East North m = to_right v West (to_right v South (to_right v East m))
  each_met v South South m = m
  each_met v South West m = to_right v South m
  each_met v South North m = to_right v West (to_right v South m)
  each_met v South East m = to_right v North (to_right v West (to_right v South m))
  each_met v West West m = m
  each_met v West North m = to_right v West m
  each_met v West East m = to_right v North (to_right v West m)
  each_met v West South m = to_right v East (to_right v North (to_right v West m))
  each_met v North North m = m
  each_met v North East m = to_right v North m
  each_met v North South m = to_right v East (to_right v North m)
  each_met v North West m = to_right v South (to_right v East (to_right v North m))

  -- no quarter belongs to two darts
  pub one_dart : (d e j k : ℕ) → d < n → e < n → head d ≡ head e → j < angle d → k < angle e
      → left_quarters j (leaving (next d)) ≡ left_quarters k (leaving (next e)) → d ≡ e
  one_dart d e j k d_in e_in at j_in k_in same =
      elim (cases_eq d e) [
        | inl is ↦ is
        | inr off ↦
            let v : ℕ = head e in
            let s : Direction = left_quarters k (leaving (next e)) in
            let m : Meets v s = record { d = d; j = j; dart_in = d_in; at = at; within = j_in; is = same } in
            let two : 2 ≤ all v s =
            omega (arith, two_members n d e (meets v s) d_in e_in off, meets_some v s d j d_in at j_in same, meets_some v s e k e_in refl k_in refl) in
            absurd (too_many s m two (four v ∙ are.around e e_in))
      ]
    where
      too_many : (s : Direction) → Meets (head e) s → 2 ≤ all (head e) s → all (head e) East + all (head e) North + all (head e) West + all (head e) South ≡ 4 → ⊥
      too_many s m two sum =
          let x1 = one_more (head e) East (each_met (head e) s East m) in
          let x2 = one_more (head e) North (each_met (head e) s North m) in
          let x3 = one_more (head e) West (each_met (head e) s West m) in
          let x4 = one_more (head e) South (each_met (head e) s South m) in
          by_way s two
        where
          by_way : (s : Direction) → 2 ≤ all (head e) s → ⊥
          by_way East two = omega (arith, one_more (head e) North (each_met (head e) s North m), one_more (head e) West (each_met (head e) s West m), one_more (head e) South (each_met (head e) s South m), two, sum)
          by_way North two = omega (arith, one_more (head e) East (each_met (head e) s East m), one_more (head e) West (each_met (head e) s West m), one_more (head e) South (each_met (head e) s South m), two, sum)
          by_way West two = omega (arith, one_more (head e) East (each_met (head e) s East m), one_more (head e) North (each_met (head e) s North m), one_more (head e) South (each_met (head e) s South m), two, sum)
          by_way South two = omega (arith, one_more (head e) East (each_met (head e) s East m), one_more (head e) North (each_met (head e) s North m), one_more (head e) West (each_met (head e) s West m), two, sum)

  -- no two darts leave a vertex in one direction
  pub one_leaves : (d e : ℕ) → d < n → e < n → head (reverse_dart d) ≡ head (reverse_dart e) → leaving d ≡ leaving e → d ≡ e
  one_leaves d e d_in e_in at same =
      let r : ℕ = reverse_dart d in
      let s : ℕ = reverse_dart e in
      let r_in = are.back_in d d_in in
      let s_in = are.back_in e e_in in
      let some_r = are.some r r_in in
      let some_s = are.some s s_in in
      let one : left_of (left_quarters (angle r - 1) (leaving (next r))) ≡ leaving d =
      ap (λ (k : ℕ). left_quarters k (leaving (next r))) (up (angle r) some_r) ∙ sym (are.turns r r_in) ∙ ap leaving (are.back_back d d_in) in
      let two : left_of (left_quarters (angle s - 1) (leaving (next s))) ≡ leaving e =
      ap (λ (k : ℕ). left_quarters k (leaving (next s))) (up (angle s) some_s) ∙ sym (are.turns s s_in) ∙ ap leaving (are.back_back e e_in) in
      let quarter : left_quarters (angle r - 1) (leaving (next r)) ≡ left_quarters (angle s - 1) (leaving (next s)) =
      sym (right_left (left_quarters (angle r - 1) (leaving (next r)))) ∙ ap right_of (one ∙ same ∙ sym two) ∙ right_left (left_quarters (angle s - 1) (leaving (next s))) in
      sym (are.back_back d d_in) ∙ ap reverse_dart (one_dart r s (angle r - 1) (angle s - 1) r_in s_in at (omega (arith, some_r)) (omega (arith, some_s)) quarter) ∙ are.back_back e e_in
    where
      up : (a : ℕ) → 1 ≤ a → suc (a - 1) ≡ a
      up a some = omega arith

  -- and none leaves between the next dart and the way back, on the left of the next one
  pub none_between : (d e j : ℕ) → d < n → e < n → head (reverse_dart e) ≡ head d → suc j < angle d → leaving e ≡ left_quarters (suc j) (leaving (next d)) → ⊥
  none_between d e j d_in e_in at within is =
      let s : ℕ = reverse_dart e in
      let s_in = are.back_in e e_in in
      let some_s = are.some s s_in in
      let two : left_of (left_quarters (angle s - 1) (leaving (next s))) ≡ leaving e =
      ap (λ (k : ℕ). left_quarters k (leaving (next s))) (up (angle s) some_s) ∙ sym (are.turns s s_in) ∙ ap leaving (are.back_back e e_in) in
      let quarter : left_quarters (angle s - 1) (leaving (next s)) ≡ left_quarters j (leaving (next d)) =
      sym (right_left (left_quarters (angle s - 1) (leaving (next s)))) ∙ ap right_of (two ∙ is) ∙ right_left (left_quarters j (leaving (next d))) in
      let same : s ≡ d = one_dart s d (angle s - 1) j s_in d_in at (omega (arith, some_s)) (omega (arith, within)) quarter in
      let back : leaving e ≡ left_quarters (angle d) (leaving (next d)) = ap leaving (sym (are.back_back e e_in) ∙ ap reverse_dart same) ∙ are.turns d d_in in
      apart (angle d) (suc j) (leaving (next d)) (are.most d d_in) (omega arith) within (sym back ∙ is)
    where
      up : (a : ℕ) → 1 ≤ a → suc (a - 1) ≡ a
      up a some = omega arith

      apart : (a k : ℕ) (b : Direction) → a ≤ 4 → 1 ≤ k → k < a → left_quarters a b ≡ left_quarters k b → ⊥
      apart a k b most some less same =
          omega (arith, quarters_of_lefts a b, quarters_of_lefts k b, ap quarters same)
