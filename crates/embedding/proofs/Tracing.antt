-- The walk that numbers the faces, dart by dart: what holds between two faces and what holds on the way.
use Rattle.std.proofs.Common.{◌≡◌, ◌≢◌, ℕ, ◌+◌, ◌<◌, Bool, true, cond, eqb, List, length, set, ◌⊎◌, inl, inr, refl, sym, ap, ◌∙◌, subst, arith}
use Rattle.std.proofs.lemmas.Bool.{cases_eq, cases_lt, eq-eqb, ne_eqb}
use Rattle.std.proofs.lemmas.List.{get_or-set_other}
use Rattle.std.proofs.lemmas.Grind.{get_or-set_at}
use Rattle.embedding.specs.declared.genus.TheConstants.{UNSET}
use Rattle.embedding.specs.Faces.{HasFaces}
use Rattle.embedding.specs.Darts.{IsOneToOne}
use Rattle.embedding.specs.Faces.{IsClosedUnder}
use Rattle.common.specs.Sums.{sum_below}
use Rattle.common.proofs.Sums.{sum_below-lt}
use Rattle.embedding.specs.Walk.{IsTraced, at}

-- the walk of face c, which begins at d, is at t: the darts from d to the one before t have the number c
pub record IsWalk (n : ℕ) (next old face : ℕ → ℕ) (c d t : ℕ) : Type 0 where
  pub traced : IsTraced n next old c d
  pub limit : c < UNSET
  pub begins : (d < n) × (old d ≡ UNSET)
  pub inside : t < n
  pub bare : face t ≡ UNSET
  pub kept : (x : ℕ) → x < n → old x < c → face x ≡ old x
  pub fresh : (x : ℕ) → x < n → old x ≡ UNSET → (face x ≡ c) ⊎ (face x ≡ UNSET)
  pub front : (x : ℕ) → x < n → face x ≡ c → (face (next x) ≡ c) ⊎ (next x ≡ t)
  pub behind : (x : ℕ) → x < n → face x ≡ c → x ≢ d → (y : ℕ) × (y < n) × (face y ≡ c) × (next y ≡ x)
  pub here : t ≢ d → (y : ℕ) × (y < n) × (face y ≡ c) × (next y ≡ t)
  pub first : t ≢ d → face d ≡ c
  pub reach : (s : ℕ → Bool) → IsClosedUnder n next s → s d ≡ true → s t ≡ true
  pub along : (s : ℕ → Bool) → IsClosedUnder n next s → s d ≡ true → (x : ℕ) → x < n → face x ≡ c → s x ≡ true
  pub onward : (s : ℕ → Bool) → IsClosedUnder n next s → (x : ℕ) → x < n → face x ≡ c → s x ≡ true → s t ≡ true

-- one number more
pub record IsPut (old new : ℕ → ℕ) (t c : ℕ) : Type 0 where
  pub put : new t ≡ c
  pub others : (x : ℕ) → x ≢ t → new x ≡ old x

-- a dart that has its number already is passed over
pub pass_over : (n : ℕ) (next face : ℕ → ℕ) (c d : ℕ) → IsTraced n next face c d → d < n → face d ≢ UNSET → IsTraced n next face c (d + 1)
pass_over n next face c d t inside named = record {
  few = omega arith;
  passed = λ x h. elim (cases_eq x d) [ inl e ↦ elim (t.flagged d inside) [ inl m ↦ subst (λ y. face y < c) (sym e) m | inr m ↦ absurd (named m) ] | inr e ↦ t.passed x (omega arith) ];
  flagged = t.flagged;
  used = λ k h. let u = t.used k h in (u.0, omega arith, u.2);
  closed = t.closed;
  behind = t.behind;
  least = t.least;
  ordered = t.ordered;
}

-- no number is given twice
one_number : (x a b : ℕ) → x ≡ a → x ≡ b → a ≢ b → ⊥
one_number x a b p q ne = ne (sym p ∙ q)

-- the dart after t is still without a number, unless it is the first
pub walk_meets : (n : ℕ) (next old face : ℕ → ℕ) (c d t : ℕ) → IsOneToOne n next → IsWalk n next old face c d t → next t ≢ d → (next t ≢ t) × (face (next t) ≡ UNSET)
walk_meets n next old face c d t inj w ne = (apart, bare)
  where
    limit : c < UNSET
    limit = w.limit

    -- a dart with a number is not t
    other : (y : ℕ) → face y ≡ c → next y ≡ next t → y < n → ⊥
    other y m e h = let same : y ≡ t = inj.one y t h w.inside e in omega (arith, w.bare, m, ap face same, limit)

    apart : next t ≢ t
    apart e = elim (cases_eq t d) [ inl a ↦ ne (e ∙ a) | inr a ↦ let y = w.here a in other y.0 y.2 (y.3 ∙ sym e) y.1 ]

    inside : next t < n
    inside = inj.inside t w.inside

    passed : old (next t) < c → ⊥
    passed h = let y = w.traced.behind (next t) inside h in
        let same : y.0 ≡ t = inj.one y.0 t y.1 w.inside y.3 in
        let m : old y.0 < c = subst (λ k. k < c) (sym y.2) h in
        omega (arith, w.kept y.0 y.1 m, m, ap face same, w.bare, limit)

    walked : face (next t) ≡ c → ⊥
    walked h = let y = w.behind (next t) inside h ne in other y.0 y.2 y.3 y.1

    bare : face (next t) ≡ UNSET
    bare = elim (w.traced.flagged (next t) inside) [
      | inl m ↦ absurd (passed m)
      | inr m ↦ elim (w.fresh (next t) inside m) [ inl a ↦ absurd (walked a) | inr a ↦ a ]
    ]

-- what is put at t leaves the rest of the walk as it is
put_kept : (n : ℕ) (next old face new : ℕ → ℕ) (c d t : ℕ) → IsWalk n next old face c d t → IsPut face new t c → (x : ℕ) → x < n → old x < c → new x ≡ old x
put_kept n next old face new c d t w p x h m =
    elim (cases_eq x t) [
      | inl e ↦ let k = w.kept x h m in let limit = w.limit in absurd (omega (arith, k, m, ap face e, w.bare, limit))
      | inr e ↦ p.others x e ∙ w.kept x h m
    ]

put_fresh : (n : ℕ) (next old face new : ℕ → ℕ) (c d t : ℕ) → IsWalk n next old face c d t → IsPut face new t c → (x : ℕ) → x < n → old x ≡ UNSET → (new x ≡ c) ⊎ (new x ≡ UNSET)
put_fresh n next old face new c d t w p x h m =
    elim (cases_eq x t) [
      | inl e ↦ inl (ap new e ∙ p.put)
      | inr e ↦ elim (w.fresh x h m) [ inl a ↦ inl (p.others x e ∙ a) | inr a ↦ inr (p.others x e ∙ a) ]
    ]

-- a number that stood stays
put_stays : (face new : ℕ → ℕ) (c t : ℕ) → IsPut face new t c → (x : ℕ) → face x ≡ c → new x ≡ c
put_stays face new c t p x m = elim (cases_eq x t) [ inl e ↦ ap new e ∙ p.put | inr e ↦ p.others x e ∙ m ]

-- the darts of face c after the write: t, and those before
put_cases : (face new : ℕ → ℕ) (c t : ℕ) → IsPut face new t c → (x : ℕ) → new x ≡ c → (x ≡ t) ⊎ (face x ≡ c)
put_cases face new c t p x m = elim (cases_eq x t) [ inl e ↦ inl e | inr e ↦ inr (sym (p.others x e) ∙ m) ]

put_front : (n : ℕ) (next old face new : ℕ → ℕ) (c d t : ℕ) → IsWalk n next old face c d t → IsPut face new t c → (x : ℕ) → x < n → new x ≡ c → (new (next x) ≡ c) ⊎ (next x ≡ next t)
put_front n next old face new c d t w p x h m =
    elim (put_cases face new c t p x m) [
      | inl e ↦ inr (ap next e)
      | inr e ↦ elim (w.front x h e) [ inl a ↦ inl (put_stays face new c t p (next x) a) | inr a ↦ inl (ap new a ∙ p.put) ]
    ]

put_behind : (n : ℕ) (next old face new : ℕ → ℕ) (c d t : ℕ) → IsWalk n next old face c d t → IsPut face new t c → (x : ℕ) → x < n → new x ≡ c → x ≢ d → (y : ℕ) × (y < n) × (new y ≡ c) × (next y ≡ x)
put_behind n next old face new c d t w p x h m ne =
    elim (put_cases face new c t p x m) [
      | inl e ↦ let y = w.here (λ q. ne (e ∙ q)) in (y.0, y.1, put_stays face new c t p y.0 y.2, y.3 ∙ sym e)
      | inr e ↦ let y = w.behind x h e ne in (y.0, y.1, put_stays face new c t p y.0 y.2, y.3)
    ]

put_first : (n : ℕ) (next old face new : ℕ → ℕ) (c d t : ℕ) → IsWalk n next old face c d t → IsPut face new t c → new d ≡ c
put_first n next old face new c d t w p =
    elim (cases_eq t d) [ inl e ↦ ap new (sym e) ∙ p.put | inr e ↦ put_stays face new c t p d (w.first e) ]

put_along : (n : ℕ) (next old face new : ℕ → ℕ) (c d t : ℕ) → IsWalk n next old face c d t → IsPut face new t c → (s : ℕ → Bool) → IsClosedUnder n next s → s d ≡ true → (x : ℕ) → x < n → new x ≡ c → s x ≡ true
put_along n next old face new c d t w p s closed h x hx m =
    elim (put_cases face new c t p x m) [ inl e ↦ ap s e ∙ w.reach s closed h | inr e ↦ w.along s closed h x hx e ]

put_onward : (n : ℕ) (next old face new : ℕ → ℕ) (c d t : ℕ) → IsWalk n next old face c d t → IsPut face new t c → (s : ℕ → Bool) → IsClosedUnder n next s → (x : ℕ) → x < n → new x ≡ c → s x ≡ true → s (next t) ≡ true
put_onward n next old face new c d t w p s closed x hx m h =
    elim (put_cases face new c t p x m) [
      | inl e ↦ closed t w.inside (ap s (sym e) ∙ h)
      | inr e ↦ closed t w.inside (w.onward s closed x hx e h)
    ]

-- one dart more is walked
pub walk_on : (n : ℕ) (next old face new : ℕ → ℕ) (c d t : ℕ) → IsOneToOne n next → IsWalk n next old face c d t → IsPut face new t c → next t ≢ d → IsWalk n next old new c d (next t)
walk_on n next old face new c d t inj w p ne =
    let meets = walk_meets n next old face c d t inj w ne in
    record {
      traced = w.traced;
      limit = w.limit;
      begins = w.begins;
      inside = inj.inside t w.inside;
      bare = p.others (next t) meets.0 ∙ meets.1;
      kept = put_kept n next old face new c d t w p;
      fresh = put_fresh n next old face new c d t w p;
      front = put_front n next old face new c d t w p;
      behind = put_behind n next old face new c d t w p;
      here = λ _. (t, w.inside, p.put, refl);
      first = λ _. put_first n next old face new c d t w p;
      reach = λ s closed h. closed t w.inside (w.reach s closed h);
      along = put_along n next old face new c d t w p;
      onward = put_onward n next old face new c d t w p;
    }

-- the walk has come round: the face is whole
pub walk_ends : (n : ℕ) (next old face new : ℕ → ℕ) (c d t : ℕ) → IsOneToOne n next → IsWalk n next old face c d t → IsPut face new t c → next t ≡ d → IsTraced n next new (c + 1) (d + 1)
walk_ends n next old face new c d t inj w p round = record {
  few = let few = w.traced.few in omega arith;
  passed = passed;
  flagged = flagged;
  used = used;
  closed = closed;
  behind = behind;
  least = least;
  ordered = ordered;
}
  where
    limit : c < UNSET
    limit = w.limit

    start : d < n
    start = w.begins.0

    kept : (x : ℕ) → x < n → old x < c → new x ≡ old x
    kept = put_kept n next old face new c d t w p

    first : new d ≡ c
    first = put_first n next old face new c d t w p

    -- a number is an older one, or that of this face
    numbered : (x : ℕ) → x < n → new x < c + 1 → ((old x < c) × (new x ≡ old x)) ⊎ ((old x ≡ UNSET) × (new x ≡ c))
    numbered x h m = elim (w.traced.flagged x h) [
      | inl a ↦ inl (a, kept x h a)
      | inr a ↦ elim (put_fresh n next old face new c d t w p x h a) [ inl b ↦ inr (a, b) | inr b ↦ absurd (omega arith) ]
    ]

    passed : (x : ℕ) → x < d + 1 → new x < c + 1
    passed x h = elim (cases_eq x d) [
      | inl e ↦ omega (arith, ap new e, first)
      | inr e ↦ let old_one = w.traced.passed x (omega arith) in omega (arith, kept x (omega arith) old_one, old_one)
    ]

    flagged : (x : ℕ) → x < n → (new x < c + 1) ⊎ (new x ≡ UNSET)
    flagged x h = elim (w.traced.flagged x h) [
      | inl a ↦ inl (omega (arith, kept x h a))
      | inr a ↦ elim (put_fresh n next old face new c d t w p x h a) [ inl b ↦ inl (omega arith) | inr b ↦ inr b ]
    ]

    used : (k : ℕ) → k < c + 1 → (e : ℕ) × (e < d + 1) × (new e ≡ k)
    used k h = elim (cases_lt k c) [
      | inl a ↦ let u = w.traced.used k a in (u.0, omega (arith, u.1), kept u.0 (omega (arith, u.1)) (omega (arith, u.2)) ∙ u.2)
      | inr a ↦ let same : c ≡ k = omega arith in (d, omega arith, first ∙ same)
    ]

    closed : (x : ℕ) → x < n → new x < c + 1 → new (next x) ≡ new x
    closed x h m = elim (numbered x h m) [
      | inl a ↦ let q = w.traced.closed x h a.0 in kept (next x) (inj.inside x h) (omega (arith, q, a.0)) ∙ q ∙ sym a.1
      | inr a ↦ elim (put_front n next old face new c d t w p x h a.1) [
        | inl b ↦ b ∙ sym a.1
        | inr b ↦ ap new (b ∙ round) ∙ first ∙ sym a.1
      ]
    ]

    behind : (x : ℕ) → x < n → new x < c + 1 → (y : ℕ) × (y < n) × (new y ≡ new x) × (next y ≡ x)
    behind x h m = elim (numbered x h m) [
      | inl a ↦ let y = w.traced.behind x h a.0 in (y.0, y.1, kept y.0 y.1 (omega (arith, y.2, a.0)) ∙ y.2 ∙ sym a.1, y.3)
      | inr a ↦ elim (cases_eq x d) [
        | inl e ↦ (t, w.inside, p.put ∙ sym a.1, round ∙ sym e)
        | inr e ↦ let y = put_behind n next old face new c d t w p x h a.1 e in (y.0, y.1, y.2 ∙ sym a.1, y.3)
      ]
    ]

    least : (s : ℕ → Bool) → IsClosedUnder n next s → (x y : ℕ) → x < n → y < n → new x ≡ new y → new x < c + 1 → s x ≡ true → s y ≡ true
    least s shut x y hx hy same m here = elim (numbered x hx m) [
      | inl a ↦ elim (numbered y hy (omega arith)) [
        | inl b ↦ w.traced.least s shut x y hx hy (sym a.1 ∙ same ∙ b.1) a.0 here
        | inr b ↦ absurd (omega (arith, a.0, a.1, b.1, same))
      ]
      | inr a ↦
          let back : s d ≡ true = ap s (sym round) ∙ put_onward n next old face new c d t w p s shut x hx a.1 here in
          put_along n next old face new c d t w p s shut back y hy (sym same ∙ a.1)
    ]

    ordered : (x k : ℕ) → x < n → new x < c + 1 → k < new x → (e : ℕ) × (e < x) × (new e ≡ k)
    ordered x k h m less = elim (numbered x h m) [
      | inl a ↦ let u = w.traced.ordered x k h a.0 (omega (arith, a.1)) in
          (u.0, u.1, kept u.0 (omega (arith, u.1)) (omega (arith, u.2, a.0, a.1)) ∙ u.2)
      | inr a ↦ let u = w.traced.used k (omega (arith, a.1)) in
          (u.0, elim (cases_lt x d) [ inl b ↦ let q = w.traced.passed x b in absurd (omega (arith, q, a.0)) | inr b ↦ omega (arith, u.1) ], kept u.0 (omega (arith, u.1)) (omega (arith, u.2, a.1)) ∙ u.2)
    ]

-- the walk writes its number into a list
pub put_list : (xs : List ℕ) (i t c : ℕ) → i ≡ t → t < length xs → IsPut (at xs) (at (set xs i c)) t c
put_list xs i t c same h = record {
  put = get_or-set_at xs i t c 0 (sym same) (omega arith);
  others = λ x ne. get_or-set_other xs i x c 0 (λ e. ne (e ∙ same));
}

-- how many of n darts are without a number
abbrev pub bare_count : ℕ → (ℕ → ℕ) → ℕ
bare_count n face = sum_below n (λ d. cond (eqb (face d) UNSET) 1 0)

-- each number given leaves one dart fewer without
pub fewer_bare : (n : ℕ) (old new : ℕ → ℕ) (t c : ℕ) → IsPut old new t c → t < n → old t ≡ UNSET → c < UNSET → bare_count n new < bare_count n old
fewer_bare n old new t c p h bare limit =
    sum_below-lt n t (λ d. cond (eqb (new d) UNSET) 1 0) (λ d. cond (eqb (old d) UNSET) 1 0) h
    (λ x hx. elim (cases_eq x t) [
      | inl e ↦ let k : new x ≡ c = ap new e ∙ p.put in rw (ne_eqb (new x) UNSET (λ q. omega arith)) (omega arith)
      | inr e ↦ rw (p.others x e) (omega arith)
    ])
    (rw (ne_eqb (new t) UNSET (λ q. let k = p.put in omega arith), eq-eqb (old t) UNSET bare) (omega arith))

-- every dart has been passed
pub all_faces : (n : ℕ) (next face : ℕ → ℕ) (c : ℕ) → IsTraced n next face c n → HasFaces n next face c
all_faces n next face c t = record {
  named = t.passed;
  used = t.used;
  closed = λ d h. t.closed d h (t.passed d h);
  least = λ s shut d e hd he same. t.least s shut d e hd he same (t.passed d hd);
  ordered = λ d k h. t.ordered d k h (t.passed d h);
}
