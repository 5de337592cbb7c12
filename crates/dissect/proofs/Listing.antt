-- Lists of darts without repeats.
use Rattle.std.proofs.Common.{◌≡◌, ◌≢◌, ◌⊎◌, ℕ, ◌<◌, ◌≤◌, List, [], ◌∷◌, ◌++◌, arith, subst, sym, refl, inl, inr}
use Rattle.dissect.specs.Faces.{In, Distinct, Below}

pub in_left : (a : ℕ) (xs ys : List ℕ) → In a xs → In a (xs ++ ys)
in_left a [] ys here = absurd here
in_left a (x ∷ xs) ys here = elim here [ inl e ↦ inl e | inr later ↦ inr (in_left a xs ys later) ]

pub in_right : (a : ℕ) (xs ys : List ℕ) → In a ys → In a (xs ++ ys)
in_right a [] ys here = here
in_right a (x ∷ xs) ys here = inr (in_right a xs ys here)

pub in_append : (a : ℕ) (xs ys : List ℕ) → In a (xs ++ ys) → In a xs ⊎ In a ys
in_append a [] ys here = inr here
in_append a (x ∷ xs) ys here =
    elim here [
      | inl e ↦ inl (inl e)
      | inr later ↦ elim (in_append a xs ys later) [ inl left ↦ inl (inr left) | inr right ↦ inr right ]
    ]

pub in_below : (n a : ℕ) (xs : List ℕ) → Below n xs → In a xs → a < n
in_below n a [] below here = absurd here
in_below n a (x ∷ xs) below here =
    elim here [ inl e ↦ omega (arith, e, below.0) | inr later ↦ in_below n a xs below.1 later ]

pub below_append : (n : ℕ) (xs ys : List ℕ) → Below n xs → Below n ys → Below n (xs ++ ys)
below_append n [] ys first second = second
below_append n (x ∷ xs) ys first second = (first.0, below_append n xs ys first.1 second)

pub below_left : (n : ℕ) (xs ys : List ℕ) → Below n (xs ++ ys) → Below n xs
below_left n [] ys both = tt
below_left n (x ∷ xs) ys both = (both.0, below_left n xs ys both.1)

pub below_right : (n : ℕ) (xs ys : List ℕ) → Below n (xs ++ ys) → Below n ys
below_right n [] ys both = both
below_right n (x ∷ xs) ys both = below_right n xs ys both.1

pub below_more : (n m : ℕ) (xs : List ℕ) → n ≤ m → Below n xs → Below m xs
below_more n m [] le below = tt
below_more n m (x ∷ xs) le below = (omega (arith, below.0, le), below_more n m xs le below.1)

pub distinct_left : (xs ys : List ℕ) → Distinct (xs ++ ys) → Distinct xs
distinct_left [] ys both = tt
distinct_left (x ∷ xs) ys both = (λ here. both.0 (in_left x xs ys here), distinct_left xs ys both.1)

pub distinct_right : (xs ys : List ℕ) → Distinct (xs ++ ys) → Distinct ys
distinct_right [] ys both = both
distinct_right (x ∷ xs) ys both = distinct_right xs ys both.1

pub distinct_apart : (a : ℕ) (xs ys : List ℕ) → Distinct (xs ++ ys) → In a xs → In a ys → ⊥
distinct_apart a [] ys both left right = left
distinct_apart a (x ∷ xs) ys both left right =
    elim left [
      | inl e ↦ both.0 (subst (λ (k : ℕ). In k (xs ++ ys)) e (in_right a xs ys right))
      | inr later ↦ distinct_apart a xs ys both.1 later right
    ]

pub distinct_append : (xs ys : List ℕ) → Distinct xs → Distinct ys → ((a : ℕ) → In a xs → In a ys → ⊥) → Distinct (xs ++ ys)
distinct_append [] ys first second apart = second
distinct_append (x ∷ xs) ys first second apart = (
  λ here. elim (in_append x xs ys here) [ inl left ↦ first.0 left | inr right ↦ apart x (inl refl) right ],
  distinct_append xs ys first.1 second (λ a left right. apart a (inr left) right),
)

-- one list of a bridge, turned
pub distinct_turned : (xs ys zs : List ℕ) → Distinct ((xs ++ ys) ++ zs) → Distinct ((ys ++ xs) ++ zs)
distinct_turned xs ys zs all =
    let front : Distinct (xs ++ ys) = distinct_left (xs ++ ys) zs all in
    distinct_append (ys ++ xs) zs
    (distinct_append ys xs (distinct_right xs ys front) (distinct_left xs ys front)
    (λ a right left. distinct_apart a xs ys front left right))
    (distinct_right (xs ++ ys) zs all)
    (λ a here there. distinct_apart a (xs ++ ys) zs all
    (elim (in_append a ys xs here) [ inl right ↦ in_right a xs ys right | inr left ↦ in_left a xs ys left ]) there)

-- what is left of a list of which three neighbours go, or the last two of them, and a new one comes
pub gone_in : (a d c1 c x : ℕ) (before tail : List ℕ) → In a (before ++ (x ∷ tail)) →
    (a ≡ x) ⊎ In a (before ++ (d ∷ c1 ∷ c ∷ tail))
gone_in a d c1 c x [] tail here = elim here [ inl e ↦ inl e | inr later ↦ inr (inr (inr (inr later))) ]
gone_in a d c1 c x (b ∷ bs) tail here =
    elim here [
      | inl e ↦ inr (inl e)
      | inr later ↦ elim (gone_in a d c1 c x bs tail later) [ inl e ↦ inl e | inr old ↦ inr (inr old) ]
    ]

pub kept_in : (a d c1 c x : ℕ) (before tail : List ℕ) → In a (before ++ (d ∷ x ∷ tail)) →
    (a ≡ x) ⊎ In a (before ++ (d ∷ c1 ∷ c ∷ tail))
kept_in a d c1 c x [] tail here =
    elim here [
      | inl e ↦ inr (inl e)
      | inr later ↦ elim later [ inl e ↦ inl e | inr last ↦ inr (inr (inr (inr last))) ]
    ]
kept_in a d c1 c x (b ∷ bs) tail here =
    elim here [
      | inl e ↦ inr (inl e)
      | inr later ↦ elim (kept_in a d c1 c x bs tail later) [ inl e ↦ inl e | inr old ↦ inr (inr old) ]
    ]

pub still_in : (a d c1 c : ℕ) (before tail : List ℕ) → a ≢ d → a ≢ c1 → a ≢ c → In a (before ++ (d ∷ c1 ∷ c ∷ tail)) →
    In a before ⊎ In a tail
still_in a d c1 c before tail nd nc1 nc here =
    elim (in_append a before (d ∷ c1 ∷ c ∷ tail) here) [
      | inl left ↦ inl left
      | inr right ↦ elim right [
        | inl e ↦ absurd (nd e)
        | inr r1 ↦ elim r1 [
          | inl e ↦ absurd (nc1 e)
          | inr r2 ↦ elim r2 [ inl e ↦ absurd (nc e) | inr r3 ↦ inr r3 ]
        ]
      ]
    ]

pub gone_distinct : (d c1 c x : ℕ) (before tail : List ℕ) → Distinct (before ++ (d ∷ c1 ∷ c ∷ tail)) →
    (In x (before ++ (d ∷ c1 ∷ c ∷ tail)) → ⊥) → Distinct (before ++ (x ∷ tail))
gone_distinct d c1 c x [] tail all fresh = (λ here. fresh (inr (inr (inr here))), all.1.1.1)
gone_distinct d c1 c x (b ∷ bs) tail all fresh = (
  λ here. elim (gone_in b d c1 c x bs tail here) [ inl e ↦ fresh (inl (sym e)) | inr old ↦ all.0 old ],
  gone_distinct d c1 c x bs tail all.1 (λ here. fresh (inr here)),
)

pub kept_distinct : (d c1 c x : ℕ) (before tail : List ℕ) → Distinct (before ++ (d ∷ c1 ∷ c ∷ tail)) →
    (In x (before ++ (d ∷ c1 ∷ c ∷ tail)) → ⊥) → Distinct (before ++ (d ∷ x ∷ tail))
kept_distinct d c1 c x [] tail all fresh = (
  λ here. elim here [ inl e ↦ fresh (inl (sym e)) | inr later ↦ all.0 (inr (inr later)) ],
  (λ here. fresh (inr (inr (inr here))), all.1.1.1),
)
kept_distinct d c1 c x (b ∷ bs) tail all fresh = (
  λ here. elim (kept_in b d c1 c x bs tail here) [ inl e ↦ fresh (inl (sym e)) | inr old ↦ all.0 old ],
  kept_distinct d c1 c x bs tail all.1 (λ here. fresh (inr here)),
)

pub gone_below : (n m d c1 c x : ℕ) (before tail : List ℕ) → n ≤ m → x < m → Below n (before ++ (d ∷ c1 ∷ c ∷ tail)) →
    Below m (before ++ (x ∷ tail))
gone_below n m d c1 c x [] tail le new all = (new, below_more n m tail le all.1.1.1)
gone_below n m d c1 c x (b ∷ bs) tail le new all = (omega (arith, all.0, le), gone_below n m d c1 c x bs tail le new all.1)

pub kept_below : (n m d c1 c x : ℕ) (before tail : List ℕ) → n ≤ m → x < m → Below n (before ++ (d ∷ c1 ∷ c ∷ tail)) →
    Below m (before ++ (d ∷ x ∷ tail))
kept_below n m d c1 c x [] tail le new all = (omega (arith, all.0, le), (new, below_more n m tail le all.1.1.1))
kept_below n m d c1 c x (b ∷ bs) tail le new all = (omega (arith, all.0, le), kept_below n m d c1 c x bs tail le new all.1)
