-- Each step keeps the rule of a fan.
use Rattle.std.proofs.Common.{◌≡◌, ◌≢◌, ◌==◌, ◌<◌, ◌≤◌, ◌+◌, ℕ, Bool, true, false, true≢false, cond, List, [], ◌∷◌, ◌++◌, map, filter, length, set, All, sym, refl, ap, ◌∙◌, subst, ⊎_elim, append_assoc, append-nil, lt_of_not-le, arith}
use Rattle.std.proofs.lemmas.Bool.{eq-eqb, ne_eqb}
use Rattle.std.proofs.lemmas.List.{map-append}
use Rattle.std.proofs.lemmas.List.Elements.{filter-append, All-nil, All-cons, All-head, All-append, All-weaker}
use mathlib.Core.Option.{some, some-ne-none}
use mathlib.Core.Logic.{dite}
use native.Mathlib.Decide.{dec_le}
use lib.ListN.{get_elem?}
use Rattle.crossbeam_channel.specs.Fifo.{Pushes, Pops, Forks, Merges, Learns}
use Rattle.atomic_table.proofs.Lists.{at_set}
use Rattle.ruled_lanes.specs.declared.fan_channel.FanLog.{FanLog}
use Rattle.ruled_lanes.specs.FanProtocol.{fan_log, gatherer, giver, nobody, given_in, of_lane, KnowsLane, KnowsFan, Accounts, IsFanned}
use Rattle.ruled_lanes.proofs.Views.{Each, each_set, each_more}

off : false ≡ true → ⊥
off p = true≢false (sym p)

-- a choice by a test of two numbers, where they are one and where they are not
chosen : (a b x y : ℕ) → a ≡ b → x ≡ cond (a == b) x y
chosen a b x y e = ap (λ t. cond t x y) (sym (eq-eqb a b e))

passed_by : (a b x y : ℕ) → a ≢ b → y ≡ cond (a == b) x y
passed_by a b x y n = ap (λ t. cond t x y) (sym (ne_eqb a b n))

module _ {T : Type 0} where
  -- the items of a lane, part by part
  pub of_lane-append : (lane : ℕ) (xs ys : List (ℕ × T)) → of_lane lane (xs ++ ys) ≡ of_lane lane xs ++ of_lane lane ys
  of_lane-append lane xs ys = let p : ℕ × T → Bool = λ x. x.0 == lane in let f : ℕ × T → T = λ x. x.1 in
      ap (map f) (filter-append p xs ys) ∙ map-append f (filter p xs) (filter p ys)

  -- an item of the lane at the end is the last of the lane
  of_lane-mine : (lane : ℕ) (xs : List (ℕ × T)) (x : ℕ × T) → x.0 ≡ lane → of_lane lane (xs ++ x ∷ []) ≡ of_lane lane xs ++ x.1 ∷ []
  of_lane-mine lane xs x e = let f : ℕ × T → T = λ y. y.1 in
      of_lane-append lane xs (x ∷ []) ∙ ap (λ t. of_lane lane xs ++ map f (cond t (x ∷ []) [])) (eq-eqb x.0 lane e)

  -- an item of another lane changes nothing
  of_lane-other : (lane : ℕ) (xs : List (ℕ × T)) (x : ℕ × T) → x.0 ≢ lane → of_lane lane (xs ++ x ∷ []) ≡ of_lane lane xs
  of_lane-other lane xs x n = let f : ℕ × T → T = λ y. y.1 in
      of_lane-append lane xs (x ∷ []) ∙ ap (λ t. of_lane lane xs ++ map f (cond t (x ∷ []) [])) (ne_eqb x.0 lane n) ∙ append-nil (of_lane lane xs)

  no_end : (xs ys : List T) (y : T) → xs ++ y ∷ ys ≢ []
  no_end [] ys y e = cc
  no_end (x ∷ xs) ys y e = cc

  -- where an item stands, its lane has something
  of_lane-some : (xs ys : List (ℕ × T)) (x : ℕ × T) → of_lane x.0 (xs ++ x ∷ ys) ≢ []
  of_lane-some xs ys x e = let f : ℕ × T → T = λ y. y.1 in let p : ℕ × T → Bool = λ y. y.0 == x.0 in
      let here : of_lane x.0 (x ∷ ys) ≡ x.1 ∷ of_lane x.0 ys = ap (λ t. map f (cond t (x ∷ filter p ys) (filter p ys))) (eq-eqb x.0 x.0 refl) in
      no_end (of_lane x.0 xs) (of_lane x.0 ys) x.1 (ap (λ l. of_lane x.0 xs ++ l) (sym here) ∙ sym (of_lane-append x.0 xs (x ∷ ys)) ∙ e)

  pub begins : IsFanned {T = T} [] (gatherer 0 [] ∷ [])
  begins = record {
    pass_of = λ _. 0;
    taker = 0;
    made = 0;
    taken = [];
    all = [];
    parted = refl;
    others = λ _ _. refl;
    known = each_more (KnowsFan (λ _. 0) 0 0 [] []) [] (gatherer 0 []) (All-nil (KnowsLane (λ _. 0) 0 [] 0), λ _. (refl, refl, refl)) (λ _ v e. absurd (some-ne-none v (sym e)));
  }

  -- a give, where the item bears the number of the one lane that the pass has
  pub gives : (n pass : ℕ) (v : FanLog T) (lane : ℕ) (x : ℕ × T) → v ≡ giver lane (given_in v) → x.0 ≡ lane → Pushes IsFanned n pass v x (λ w. w ≡ giver x.0 (given_in v ++ x.1 ∷ []))
  gives n pass v lane x role same items views _ h at =
      let w : FanLog T = giver x.0 (given_in v ++ x.1 ∷ []) in
      let all : List (ℕ × T) = h.all ++ x ∷ [] in
      let mine : KnowsLane h.pass_of h.made h.all pass (lane, given_in v) =
      All-head (KnowsLane h.pass_of h.made h.all pass) (lane, given_in v) [] (subst (λ (u : FanLog T). All (KnowsLane h.pass_of h.made h.all pass) u.lanes) role (h.known pass v at).0) in
      let below : x.0 < h.made = subst (λ k. k < h.made) (sym same) mine.1 in
      let now : KnowsLane h.pass_of h.made all pass (x.0, given_in v ++ x.1 ∷ []) =
      (mine.0 ∙ ap h.pass_of (sym same), below, of_lane-mine x.0 h.all x refl ∙ ap (λ l. l ++ x.1 ∷ []) (ap (λ k. of_lane k h.all) same ∙ mine.2)) in (
        w,
        record {
          pass_of = h.pass_of;
          taker = h.taker;
          made = h.made;
          taken = h.taken;
          all = all;
          parted = sym (append_assoc h.taken items (x ∷ [])) ∙ ap (λ l. l ++ x ∷ []) h.parted;
          others = λ l le. of_lane-other l h.all x (λ e. omega arith) ∙ h.others l le;
          known = each_set (KnowsFan h.pass_of h.made h.taker h.taken all) views pass w
              (All-cons (KnowsLane h.pass_of h.made all pass) (x.0, given_in v ++ x.1 ∷ []) [] now (All-nil (KnowsLane h.pass_of h.made all pass)), λ p. absurd (off p))
              (λ j u apart e. (
                All-weaker (KnowsLane h.pass_of h.made h.all j) (KnowsLane h.pass_of h.made all j)
                    (λ l k. (k.0, k.1, of_lane-other l.0 h.all x (λ e'. apart (k.0 ∙ ap h.pass_of (sym e' ∙ same) ∙ sym mine.0)) ∙ k.2)) u.lanes (h.known j u e).0,
                (h.known j u e).1,
              ));
        },
        refl,
      )

  -- what the fan holds is of lanes that were made
  of_made : (x : ℕ × T) (items : List (ℕ × T)) (views : List (FanLog T)) (h : IsFanned (x ∷ items) views) → x.0 < h.made
  of_made x items views h = dite (dec_le h.made x.0) (λ le. absurd (of_lane-some h.taken items x (ap (of_lane x.0) h.parted ∙ h.others x.0 le))) (λ n. lt_of_not-le n)

  pub takes : (pass : ℕ) (v : FanLog T) → v.takes ≡ true → Pops IsFanned pass v (λ x w. (x.0 < v.made) × (w ≡ fan_log v.takes v.made (v.taken ++ x ∷ []) v.lanes))
  takes pass v may x items views h at =
      let w : FanLog T = fan_log v.takes v.made (v.taken ++ x ∷ []) v.lanes in
      let mine = h.known pass v at in
      let role = mine.1 may in
      let taken : List (ℕ × T) = h.taken ++ x ∷ [] in (
        w,
        record {
          pass_of = h.pass_of;
          taker = h.taker;
          made = h.made;
          taken = taken;
          all = h.all;
          parted = append_assoc h.taken (x ∷ []) items ∙ h.parted;
          others = h.others;
          known = each_set (KnowsFan h.pass_of h.made h.taker taken h.all) views pass w (mine.0, λ _. (role.0, ap (λ l. l ++ x ∷ []) role.1, role.2))
              (λ j u apart e. ((h.known j u e).0, λ p. absurd (apart (((h.known j u e).1 p).0 ∙ sym role.0))));
        },
        (subst (λ k. x.0 < k) (sym role.2) (of_made x items views h), refl),
      )

  -- the pass that takes makes a lane
  pub forks : (pass : ℕ) (v : FanLog T) → v.takes ≡ true → Forks IsFanned pass v (fan_log v.takes (v.made + 1) v.taken v.lanes) (giver v.made [])
  forks pass v may items views h at =
      let left : FanLog T = fan_log v.takes (v.made + 1) v.taken v.lanes in
      let mine = h.known pass v at in
      let role = mine.1 may in
      let vs : List (FanLog T) = set views pass left in
      let pass_of : ℕ → ℕ = λ l. cond (l == h.made) (length vs) (h.pass_of l) in
      let Now : ℕ → FanLog T → Type 0 = KnowsFan pass_of (h.made + 1) h.taker h.taken h.all in
      let older : (j : ℕ) (u : FanLog T) → All (KnowsLane h.pass_of h.made h.all j) u.lanes → All (KnowsLane pass_of (h.made + 1) h.all j) u.lanes = λ j u k.
      All-weaker (KnowsLane h.pass_of h.made h.all j) (KnowsLane pass_of (h.made + 1) h.all j)
      (λ l f. (f.0 ∙ passed_by l.0 h.made (length vs) (h.pass_of l.0) (λ e. omega arith), omega arith, f.2)) u.lanes k in
      let new : KnowsLane pass_of (h.made + 1) h.all (length vs) (v.made, []) =
      (chosen v.made h.made (length vs) (h.pass_of v.made) role.2, omega arith, h.others v.made (omega arith)) in
      record {
        pass_of = pass_of;
        taker = h.taker;
        made = h.made + 1;
        taken = h.taken;
        all = h.all;
        parted = h.parted;
        others = λ l le. h.others l (omega arith);
        known = each_more Now vs (giver v.made [])
            (All-cons (KnowsLane pass_of (h.made + 1) h.all (length vs)) (v.made, []) [] new (All-nil (KnowsLane pass_of (h.made + 1) h.all (length vs))), λ p. absurd (off p))
            (each_set Now views pass left (older pass v mine.0, λ _. (role.0, role.1, ap (λ k. k + 1) role.2))
            (λ j u apart e. (older j u (h.known j u e).0, λ p. absurd (apart (((h.known j u e).1 p).0 ∙ sym role.0)))));
      }

  -- a pass takes in another's lanes
  pub merges : (pass : ℕ) (v : FanLog T) (other : ℕ) (u : FanLog T) → Merges IsFanned pass v other u (fan_log v.takes v.made v.taken (u.lanes ++ v.lanes)) nobody
  merges pass v other u items views h at two at' =
      let both : FanLog T = fan_log v.takes v.made v.taken (u.lanes ++ v.lanes) in
      let mine = h.known pass v at in
      let vs : List (FanLog T) = set views pass both in
      let was : get_elem? views other ≡ some u = ⊎_elim (λ x. absurd (two x.0)) (λ x. x.1) (at_set views pass other both u at') in
      let theirs = h.known other u was in
      let pass_of : ℕ → ℕ = λ l. cond (h.pass_of l == other) pass (h.pass_of l) in
      let Now : ℕ → FanLog T → Type 0 = λ j y. j ≢ other → KnowsFan pass_of h.made h.taker h.taken h.all j y in
      let kept : (j : ℕ) (y : FanLog T) → j ≢ other → All (KnowsLane h.pass_of h.made h.all j) y.lanes → All (KnowsLane pass_of h.made h.all j) y.lanes = λ j y no k.
      All-weaker (KnowsLane h.pass_of h.made h.all j) (KnowsLane pass_of h.made h.all j)
      (λ l f. (f.0 ∙ passed_by (h.pass_of l.0) other pass (h.pass_of l.0) (λ e. no (f.0 ∙ e)), f.1, f.2)) y.lanes k in
      let moved : All (KnowsLane pass_of h.made h.all pass) u.lanes =
      All-weaker (KnowsLane h.pass_of h.made h.all other) (KnowsLane pass_of h.made h.all pass)
      (λ l f. (chosen (h.pass_of l.0) other pass (h.pass_of l.0) (sym f.0), f.1, f.2)) u.lanes theirs.0 in
      let now : Each Now vs = each_set Now views pass both
      (λ no. (All-append (KnowsLane pass_of h.made h.all pass) u.lanes v.lanes moved (kept pass v no mine.0), mine.1))
      (λ j y _ e no. (kept j y no (h.known j y e).0, (h.known j y e).1)) in
      record {
        pass_of = pass_of;
        taker = h.taker;
        made = h.made;
        taken = h.taken;
        all = h.all;
        parted = h.parted;
        others = h.others;
        known = each_set (KnowsFan pass_of h.made h.taker h.taken h.all) vs other nobody (All-nil (KnowsLane pass_of h.made h.all other), λ p. absurd (off p)) (λ j y apart e. now j y e apart);
      }

  pub totals : (pass : ℕ) (v : FanLog T) → v.takes ≡ true → Learns IsFanned pass v (Accounts v)
  totals pass v may items views h at =
      let mine = h.known pass v at in
      let role = mine.1 may in
      let all : v.taken ++ items ≡ h.all = ap (λ l. l ++ items) role.1 ∙ h.parted in (
        All-weaker (KnowsLane h.pass_of h.made h.all pass) (λ l. of_lane l.0 (v.taken ++ items) ≡ l.1) (λ l k. ap (of_lane l.0) all ∙ k.2) v.lanes mine.0,
        λ lane le. ap (of_lane lane) all ∙ h.others lane (subst (λ k. k ≤ lane) role.2 le),
      )
