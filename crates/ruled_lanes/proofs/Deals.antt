-- Each step keeps the rule of tickets.
use Rattle.std.proofs.Common.{◌≡◌, ◌≢◌, ◌==◌, ◌+◌, ◌-◌, ◌%◌, ◌^◌, ◌<◌, ◌≤◌, ℕ, min, cond, List, [], ◌∷◌, ◌++◌, length, set, sum_by, slice_index, slice_set, refl, sym, ap, ◌∙◌, subst, ⊎_elim, length-append, lt_of_not-le, arith}
use Rattle.std.proofs.Math.Nat.{mod-eq_of_lt}
use Rattle.std.proofs.lemmas.Bool.{eq-eqb, ne_eqb}
use Rattle.std.proofs.lemmas.List.Sums.{sum_by-append, sum_by_push}
use mathlib.Core.Option.{some, some-injective, some-ne-none}
use mathlib.Core.Logic.{dite}
use native.Mathlib.Decide.{dec_le, ℕ_discrete}
use lib.ListN.{get_elem?}
use Rattle.atomic_table.specs.Table.{State, Me, keeps, Allows, Splits, Joins}
use Rattle.atomic_table.proofs.Lists.{at_set}
use Rattle.ruled_lanes.specs.declared.tickets.Draws.{Draws}
use Rattle.ruled_lanes.specs.TicketProtocol.{draws, times, CountsOnceBelow, HasOnceBelow, DrawsNext, Stands, IsDealt}
use Rattle.ruled_lanes.proofs.Counts.{sum_set, sum_le, alone}
use Rattle.ruled_lanes.proofs.Views.{each_set, each_more}

pub opens : (key : ℕ × ℕ) → IsDealt key (0 ∷ []) (draws key.0 key.1 0 [] ∷ [])
opens key = record {
  word = 0;
  only = refl;
  shares = omega arith;
  once = λ x. ((λ less. absurd (omega arith)), λ _. refl);
  count = omega arith;
  ended = omega arith;
  each = each_more (Stands key.0) [] (draws key.0 key.1 0 []) (omega arith, (λ _. refl), λ _. refl) (λ _ v e. absurd (some-ne-none v (sym e)));
}

-- how often x stands among all numbers drawn
abbrev drawn_times : ℕ → Draws → ℕ
drawn_times x v = times x v.drawn

-- one number more, which is the next, keeps that each stands there once
once_more : (n total total' x : ℕ) → (x < n → total ≡ 1) × (n ≤ x → total ≡ 0) → total' ≡ total + cond (n == x) 1 0 → (x < n + 1 → total' ≡ 1) × (n + 1 ≤ x → total' ≡ 0)
once_more n total total' x was now = dite (ℕ_discrete n x)
    (λ (e : n ≡ x). let now' : total' ≡ total + 1 = now ∙ ap (λ t. total + cond t 1 0) (eq-eqb n x e) in let none : total ≡ 0 = was.1 (omega arith) in ((λ _. omega arith), λ more. absurd (omega arith)))
    (λ (e : n ≢ x). let now' : total' ≡ total + 0 = now ∙ ap (λ t. total + cond t 1 0) (ne_eqb n x e) in
    ((λ less. let one : total ≡ 1 = was.0 (omega arith) in omega arith), λ more. let none : total ≡ 0 = was.1 (omega arith) in omega arith))

module _ (key : ℕ × ℕ) (words : List ℕ) (views : List Draws) (id : ℕ) (v : Draws) where
  -- a draw that finds a number below the limit
  drew : (h : IsDealt key words views) → get_elem? views id ≡ some v → v.ends < v.shares → h.word < key.0
      → IsDealt key ((h.word + 1) ∷ []) (set views id (draws v.limit v.shares v.ends (v.drawn ++ h.word ∷ [])))
  drew h at free below =
      let w : Draws = draws v.limit v.shares v.ends (v.drawn ++ h.word ∷ []) in
      let mine = h.each id v at in
      let Once : ℕ → Type 0 = λ n. CountsOnceBelow n (λ x. sum_by (drawn_times x) (set views id w)) in
      let least : min h.word key.0 ≡ h.word = omega arith in
      let next : h.word + 1 ≡ min (h.word + 1) key.0 = omega arith in
      let now : Once (h.word + 1) = λ x.
      let s = sum_set (drawn_times x) views id v w at in
      let p = sum_by_push (λ y. cond (y == x) 1 0) v.drawn h.word in
      let was = subst (λ n. (x < n → sum_by (drawn_times x) views ≡ 1) × (n ≤ x → sum_by (drawn_times x) views ≡ 0)) least (h.once x) in
      once_more h.word (sum_by (drawn_times x) views) (sum_by (drawn_times x) (set views id w)) x was (omega (arith, s, p)) in
      let s0 = sum_set (λ (u : Draws). u.shares) views id v w at in
      let s1 = sum_set (λ (u : Draws). length u.drawn) views id v w at in
      let s2 = sum_set (λ (u : Draws). u.ends) views id v w at in
      let one = length-append v.drawn (h.word ∷ []) in
      let count = h.count in
      let ended = h.ended in
      let whole = h.shares in
      record {
        word = h.word + 1;
        only = refl;
        shares = omega arith;
        once = subst Once next now;
        count = omega arith;
        ended = omega arith;
        each = each_set (Stands key.0) views id w (mine.0, (λ none. absurd (omega arith)), mine.2) (λ j u _ e. h.each j u e);
      }

  -- a draw that finds the limit or more ends the seat
  stopped : (h : IsDealt key words views) → get_elem? views id ≡ some v → v.ends < v.shares → key.0 ≤ h.word
      → IsDealt key ((h.word + 1) ∷ []) (set views id (draws v.limit v.shares (v.ends + 1) v.drawn))
  stopped h at free past =
      let w : Draws = draws v.limit v.shares (v.ends + 1) v.drawn in
      let mine = h.each id v at in
      let same : min h.word key.0 ≡ min (h.word + 1) key.0 = omega arith in
      let s0 = sum_set (λ (u : Draws). u.shares) views id v w at in
      let s1 = sum_set (λ (u : Draws). length u.drawn) views id v w at in
      let s2 = sum_set (λ (u : Draws). u.ends) views id v w at in
      let count = h.count in
      let ended = h.ended in
      let whole = h.shares in
      let once : CountsOnceBelow (min (h.word + 1) key.0) (λ x. sum_by (drawn_times x) (set views id w)) = λ x.
      let s = sum_set (drawn_times x) views id v w at in
      let was = h.once x in
      ((λ less. let one : sum_by (drawn_times x) views ≡ 1 = was.0 (omega arith) in omega arith), λ more. let none : sum_by (drawn_times x) views ≡ 0 = was.1 (omega arith) in omega arith) in
      record {
        word = h.word + 1;
        only = refl;
        shares = omega arith;
        once = once;
        count = omega arith;
        ended = omega arith;
        each = each_set (Stands key.0) views id w (omega arith, mine.1, mine.2) (λ j u _ e. h.each j u e);
      }

  -- a seat is taken off
  divides : IsDealt key words views → get_elem? views id ≡ some v → v.ends < v.shares → 1 < v.shares
      → IsDealt key words (set views id (draws v.limit (v.shares - 1) v.ends v.drawn) ++ draws v.limit 1 0 [] ∷ [])
  divides h at free several =
      let l : Draws = draws v.limit (v.shares - 1) v.ends v.drawn in
      let r : Draws = draws v.limit 1 0 [] in
      let vs : List Draws = set views id l in
      let mine = h.each id v at in
      let total : (f : Draws → ℕ) → sum_by f (vs ++ r ∷ []) + f v ≡ sum_by f views + f l + f r = λ f.
      let s = sum_set f views id v l at in let p = sum_by_push f vs r in omega (arith, s, p) in
      let t0 = total (λ u. u.shares) in
      let t1 = total (λ u. length u.drawn) in
      let t2 = total (λ u. u.ends) in
      let count = h.count in
      let ended = h.ended in
      let whole = h.shares in
      record {
        word = h.word;
        only = h.only;
        shares = omega arith;
        once = λ x. let t = total (drawn_times x) in let was = h.once x in
            ((λ less. let one : sum_by (drawn_times x) views ≡ 1 = was.0 less in omega arith), λ more. let none : sum_by (drawn_times x) views ≡ 0 = was.1 more in omega arith);
        count = omega arith;
        ended = omega arith;
        each = each_more (Stands key.0) vs r (omega arith, (λ _. refl), λ _. mine.2 (omega arith))
            (each_set (Stands key.0) views id l (omega arith, (λ none. absurd (omega arith)), λ _. mine.2 (omega arith)) (λ j u _ e. h.each j u e));
      }

  -- a pass stands for another's seats too
  pools : (other : ℕ) (u : Draws) → IsDealt key words views → get_elem? views id ≡ some v → ¬ (other ≡ id)
      → get_elem? (set views id (draws v.limit (v.shares + u.shares) (v.ends + u.ends) (u.drawn ++ v.drawn))) other ≡ some u → 0 < v.shares
      → IsDealt key words (set (set views id (draws v.limit (v.shares + u.shares) (v.ends + u.ends) (u.drawn ++ v.drawn))) other (draws 0 0 0 []))
  pools other u h at two at' some_share =
      let both : Draws = draws v.limit (v.shares + u.shares) (v.ends + u.ends) (u.drawn ++ v.drawn) in
      let spent : Draws = draws 0 0 0 [] in
      let vs : List Draws = set views id both in
      let mine = h.each id v at in
      let was : get_elem? views other ≡ some u = ⊎_elim (λ x. absurd (two x.0)) (λ x. x.1) (at_set views id other both u at') in
      let theirs = h.each other u was in
      let total : (f : Draws → ℕ) → sum_by f (set vs other spent) + f u + f v ≡ sum_by f views + f both + f spent = λ f.
      let s = sum_set f views id v both at in let p = sum_set f vs other u spent at' in omega (arith, s, p) in
      let t0 = total (λ w. w.shares) in
      let t1 = total (λ w. length w.drawn) in
      let t2 = total (λ w. w.ends) in
      let long = length-append u.drawn v.drawn in
      let count = h.count in
      let ended = h.ended in
      let whole = h.shares in
      record {
        word = h.word;
        only = h.only;
        shares = omega arith;
        once = λ x. let t = total (drawn_times x) in let p = sum_by-append (λ y. cond (y == x) 1 0) u.drawn v.drawn in let o = h.once x in
            ((λ less. let one : sum_by (drawn_times x) views ≡ 1 = o.0 less in omega (arith, t, p)), λ more. let none : sum_by (drawn_times x) views ≡ 0 = o.1 more in omega (arith, t, p));
        count = omega arith;
        ended = omega arith;
        each = each_set (Stands key.0) vs other spent (omega arith, (λ _. refl), λ some_parts. absurd (omega arith))
            (λ j w _ e. each_set (Stands key.0) views id both (omega arith, (λ none. absurd (omega arith)), λ _. mine.2 some_share) (λ i y _ e'. h.each i y e') j w e);
      }

  -- who stands for all seats knows what was drawn, and how far the word has come
  pub closes : IsDealt key words views → get_elem? views id ≡ some v → v.shares ≡ key.1 → (word : ℕ) → get_elem? words 0 ≡ some word
      → HasOnceBelow (min word key.0) v.drawn × (word ≡ length v.drawn + v.ends) × (0 < v.ends → key.0 ≤ word) × (word ≤ key.0 + key.1)
  closes h at all word here =
      let Share : Draws → ℕ = λ u. u.shares in
      let same : h.word ≡ word = some-injective h.word word (ap (λ ws. get_elem? ws 0) (sym h.only) ∙ here) in
      let whole : sum_by Share views ≡ v.shares = h.shares ∙ sym all in
      let only : (f : Draws → ℕ) → ((j : ℕ) (u : Draws) → get_elem? views j ≡ some u → u.shares ≡ 0 → f u ≡ 0) → sum_by f views ≡ f v = λ f zero_of. alone f Share views id v at zero_of whole in
      let length_is = only (λ u. length u.drawn) (λ j u e none. ap length ((h.each j u e).1 none)) in
      let ends_is = only (λ u. u.ends) (λ j u e none. let some_ends = (h.each j u e).0 in omega arith) in
      let count = h.count in
      let ended = h.ended in (
        (λ x. let times_is = only (drawn_times x) (λ j u e none. ap (times x) ((h.each j u e).1 none)) in let was = subst (λ n. CountsOnceBelow (min n key.0) (λ y. sum_by (drawn_times y) views)) same h.once x in
            ((λ less. sym times_is ∙ was.0 less), λ more. sym times_is ∙ was.1 more)),
        omega arith,
        (λ some_ended. omega arith),
        (let ends_le = sum_le (λ (u : Draws). u.ends) Share views (λ j u e. (h.each j u e).0) in let total = h.shares in omega arith),
      )

-- the calls of the table
module _ {S : Type 0} where
  pub deals : (key : ℕ × ℕ) (slots id : ℕ) (me : Me S Draws) → key.0 < 2 ^ 32 → key.1 < 2 ^ 32 → me.0.shares ≡ 1 → me.0.ends ≡ 0
      → Allows (λ (s : State S Draws). IsDealt key s.words s.views) slots id me 0 (λ n. (n + 1) % 2 ^ 64) (λ n w. DrawsNext me.0 n w.0 × (w.1 ≡ me.1))
  deals key slots id me low few one none s h homes at fits =
      let v : Draws = me.0 in
      let n : ℕ = slice_index s.words 0 in
      let is : n ≡ h.word = ap (λ ws. slice_index ws 0) h.only in
      let ends_le = sum_le (λ (u : Draws). u.ends) (λ (u : Draws). u.shares) s.views (λ j u e. (h.each j u e).0) in
      let ended = h.ended in
      let whole = h.shares in
      let small : n + 1 < 2 ^ 64 = omega arith in
      let next : slice_set s.words 0 ((n + 1) % 2 ^ 64) ≡ (h.word + 1) ∷ [] =
      ap (λ ws. slice_set ws 0 ((n + 1) % 2 ^ 64)) h.only ∙ ap (λ k. k ∷ []) (mod-eq_of_lt small ∙ ap (λ k. k + 1) is) in
      let limit : v.limit ≡ key.0 = (h.each id v at).2 (omega arith) in
      let free : v.ends < v.shares = omega arith in
      dite (dec_le key.0 h.word)
      (λ past. let w : Draws = draws v.limit v.shares (v.ends + 1) v.drawn in
      (w, keeps, tt, subst (λ ws. IsDealt key ws (set s.views id w)) (sym next) (stopped key s.words s.views id v h at free past), (((λ less. absurd (omega arith)), λ _. refl), refl)))
      (λ no. let below : h.word < key.0 = lt_of_not-le no in
      let w : Draws = draws v.limit v.shares v.ends (v.drawn ++ h.word ∷ []) in (
        w,
        keeps,
        tt,
        subst (λ ws. IsDealt key ws (set s.views id w)) (sym next) (drew key s.words s.views id v h at free below),
        (((λ _. ap (λ k. draws v.limit v.shares v.ends (v.drawn ++ k ∷ [])) (sym is)), λ past. absurd (omega arith)), refl),
      ))

  pub splits : (key : ℕ × ℕ) (id : ℕ) (v : Draws) → v.ends < v.shares → 1 < v.shares
      → Splits (λ (s : State S Draws). IsDealt key s.words s.views) id v (draws v.limit (v.shares - 1) v.ends v.drawn) (draws v.limit 1 0 [])
  splits key id v free several s h at = divides key s.words s.views id v h at free several

  pub joins : (key : ℕ × ℕ) (id : ℕ) (v : Draws) (other : ℕ) (u : Draws) → 0 < v.shares
      → Joins (λ (s : State S Draws). IsDealt key s.words s.views) id v other u (draws v.limit (v.shares + u.shares) (v.ends + u.ends) (u.drawn ++ v.drawn)) (draws 0 0 0 [])
  joins key id v other u some_share s h at two at' = pools key s.words s.views id v other u h at two at' some_share
