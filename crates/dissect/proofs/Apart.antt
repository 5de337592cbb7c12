-- Chains of darts: the way back along an edge, what two edges share, and what vertices an edge comes to.
use Rattle.std.proofs.Common.{◌≡◌, ◌≢◌, ℕ, ◌<◌, ◌≤◌, ◌⊎◌, ◌∙◌, List, [], ◌∷◌, ◌++◌, map, reverse, arith, subst, sym, ap, refl, inl, inr}
use Rattle.std.proofs.lemmas.Grind.{reverse_onto}
use Rattle.std.proofs.lemmas.List.{map_push}
use Rattle.dissect.specs.DartMaps.{DartMap, no_dart}
use Rattle.dissect.specs.Faces.{last_of, Below, In, Distinct}
use Rattle.dissect.specs.Paths.{Follows, IsPath, HasPaths}
use Rattle.dissect.proofs.Backwards.{path_unique, path_distinct}
use Rattle.dissect.proofs.Chains.{HasChains}

-- the darts after the reverse of the last dart on the way back
abbrev pub backs : DartMap → ℕ → List ℕ → List ℕ
backs w a [] = []
backs w a (b ∷ bs) = backs w b bs ++ (w.reverse_dart a ∷ [])

follows_push : (w : DartMap) (x z : ℕ) (xs : List ℕ) → Follows w x xs → w.before z ≡ last_of x xs → w.head (w.reverse_dart z) ≡ w.head (last_of x xs) →
    Follows w x (xs ++ (z ∷ []))
follows_push w x z [] follows before head = (before, head, tt)
follows_push w x z (y ∷ ys) follows before head = (follows.0, follows.1, follows_push w y z ys follows.2 before head)

last_push : (x z : ℕ) (xs : List ℕ) → last_of x (xs ++ (z ∷ [])) ≡ z
last_push x z [] = refl
last_push x z (y ∷ ys) = last_push y z ys

below_push : (n z : ℕ) (xs : List ℕ) → Below n xs → z < n → Below n (xs ++ (z ∷ []))
below_push n z [] below z_in = (z_in, tt)
below_push n z (y ∷ ys) below z_in = (below.0, below_push n z ys below.1 z_in)

-- a dart of the rest is the last one, or stands before another of the rest
later : (w : DartMap) (b y : ℕ) (bs : List ℕ) → Follows w b bs → In y (b ∷ bs) →
    (y ≡ last_of b bs) ⊎ ((c : ℕ) × In c bs × (w.before c ≡ y))
later w b y [] follows here = elim here [ inl at ↦ inl at | inr none ↦ absurd none ]
later w b y (c ∷ cs) follows here =
    elim here [
      | inl at ↦ inr (c, inl refl, follows.0 ∙ sym at)
      | inr there ↦ elim (later w c y cs follows.2 there) [
        | inl last ↦ inl last
        | inr (d, inside, before) ↦ inr (d, inr inside, before)
      ]
    ]

-- what comes after a dart of a path
pub record IsRest (w : DartMap) (y end : ℕ) : Type 0 where
  pub list : List ℕ
  pub follows : Follows w y list
  pub below : Below w.darts list
  pub last : last_of y list ≡ end

rest_from : (w : DartMap) (a y : ℕ) (rest : List ℕ) → Follows w a rest → Below w.darts rest → In y (a ∷ rest) → IsRest w y (last_of a rest)
rest_from w a y [] follows below here =
    elim here [
      | inl at ↦ record { list = []; follows = tt; below = tt; last = at }
      | inr none ↦ absurd none
    ]
rest_from w a y (b ∷ bs) follows below here =
    elim here [
      | inl at ↦ subst (λ (k : ℕ). IsRest w k (last_of b bs)) (sym at)
          (record { list = b ∷ bs; follows = follows; below = below; last = refl })
      | inr there ↦ rest_from w b y bs follows.2 below.1 there
    ]

in_below : (n y : ℕ) (xs : List ℕ) → Below n xs → In y xs → y < n
in_below n y [] below here = absurd here
in_below n y (x ∷ xs) below (inl at) = omega (arith, at, below.0)
in_below n y (x ∷ xs) below (inr there) = in_below n y xs below.1 there

in_map : (f : ℕ → ℕ) (y : ℕ) (xs : List ℕ) → In y (map f xs) → (x : ℕ) × In x xs × (f x ≡ y)
in_map f y [] here = absurd here
in_map f y (x ∷ xs) (inl at) = (x, inl refl, sym at)
in_map f y (x ∷ xs) (inr there) = let (z, inside, is) = in_map f y xs there in (z, inr inside, is)

in_mapped : (f : ℕ → ℕ) (x : ℕ) (xs : List ℕ) → In x xs → In (f x) (map f xs)
in_mapped f x [] here = absurd here
in_mapped f x (y ∷ ys) (inl at) = inl (ap f at)
in_mapped f x (y ∷ ys) (inr there) = inr (in_mapped f x ys there)

in_right : (y : ℕ) (xs ys : List ℕ) → In y ys → In y (xs ++ ys)
in_right y [] ys here = here
in_right y (x ∷ xs) ys here = inr (in_right y xs ys here)

in_left : (y : ℕ) (xs ys : List ℕ) → In y xs → In y (xs ++ ys)
in_left y [] ys here = absurd here
in_left y (x ∷ xs) ys (inl at) = inl at
in_left y (x ∷ xs) ys (inr there) = inr (in_left y xs ys there)

in_reverse : (y : ℕ) (xs : List ℕ) → In y xs → In y (reverse xs)
in_reverse y [] here = absurd here
in_reverse y (x ∷ xs) here =
    subst (In y) (sym (reverse_onto xs x []))
    (elim here [
      | inl at ↦ in_right y (reverse xs) (x ∷ []) (inl at)
      | inr there ↦ in_left y (reverse xs) (x ∷ []) (in_reverse y xs there)
    ])

-- a map whose chains are the edges of a plane of v vertices and n darts, without loops
pub record AreEdges (v : ℕ) (w : DartMap) (n : ℕ) (reverse_dart : ℕ → ℕ) (quarters : ℕ → List ℕ) : Type 0 where
  pub chains : HasChains v w
  pub darts_fit : w.darts ≤ no_dart
  pub paths : HasPaths w n reverse_dart quarters
  pub reverse_dart_in : (d : ℕ) → d < n → reverse_dart d < n
  pub reverse_dart_apart : (d : ℕ) → d < n → reverse_dart d ≢ d
  pub ends : (d : ℕ) → d < n → w.head d < v
  pub no_loop : (d : ℕ) → d < n → w.head (reverse_dart d) ≢ w.head d

module _ (v : ℕ) (w : DartMap) (n : ℕ) (reverse_dart : ℕ → ℕ) (quarters : ℕ → List ℕ) (are : AreEdges v w n reverse_dart quarters) where
  dart_in : (d : ℕ) → d < n → d < w.darts
  dart_in d l = omega (arith, are.paths.few)

  -- nothing comes after the dart of an edge
  ends_there : (b d : ℕ) → b < w.darts → d < n → w.before b ≢ d
  ends_there b d b_in d_in at =
      elim (are.paths.ends b b_in) [
        | inl none ↦ let darts_fit = are.darts_fit in let inside = dart_in d d_in in omega (arith, at, none, darts_fit, inside)
        | inr late ↦ omega (arith, at, late.0, d_in)
      ]

  some : (a b : ℕ) → w.before b ≡ a → a < w.darts → w.before b ≢ no_dart
  some a b at a_in none = let darts_fit = are.darts_fit in omega (arith, at, none, darts_fit, a_in)

  -- before two darts there never stands the same one
  before_apart : (a b c : ℕ) → a < w.darts → b < w.darts → c < w.darts → w.before b ≡ a → w.before c ≡ a → b ≡ c
  before_apart a b c a_in b_in c_in at_b at_c =
      let reverse_darts : w.reverse_dart b ≡ w.reverse_dart c =
      sym (are.chains.chains.back b b_in (some a b at_b a_in)) ∙ ap (λ (k : ℕ). w.before (w.reverse_dart k)) (at_b ∙ sym at_c)
      ∙ are.chains.chains.back c c_in (some a c at_c a_in) in
      sym (are.chains.tied.reverse_dart_back b b_in) ∙ ap w.reverse_dart reverse_darts ∙ are.chains.tied.reverse_dart_back c c_in

  rest_same : (y d e : ℕ) (bs cs : List ℕ) → y < w.darts → d < n → e < n → Follows w y bs → Follows w y cs → Below w.darts bs →
      Below w.darts cs → last_of y bs ≡ d → last_of y cs ≡ e → d ≡ e
  rest_same y d e [] [] y_in d_in e_in fb fc bb bc to_d to_e = sym to_d ∙ to_e
  rest_same y d e [] (c ∷ cs) y_in d_in e_in fb fc bb bc to_d to_e = absurd (ends_there c d bc.0 d_in (fc.0 ∙ to_d))
  rest_same y d e (b ∷ bs) [] y_in d_in e_in fb fc bb bc to_d to_e = absurd (ends_there b e bb.0 e_in (fb.0 ∙ to_e))
  rest_same y d e (b ∷ bs) (c ∷ cs) y_in d_in e_in fb fc bb bc to_d to_e =
      let one : b ≡ c = before_apart y b c y_in bb.0 bc.0 fb.0 fc.0 in
      rest_same b d e bs cs bb.0 d_in e_in fb.2 (subst (λ (k : ℕ). Follows w k cs) (sym one) fc.2) bb.1 bc.1 to_d
      (ap (λ (k : ℕ). last_of k cs) one ∙ to_e)

  -- two edges share no dart
  pub paths_apart : (d e y first first' : ℕ) (rest rest' : List ℕ) → d < n → e < n → IsPath w d first rest → IsPath w e first' rest' →
      In y (first ∷ rest) → In y (first' ∷ rest') → d ≡ e
  paths_apart d e y first first' rest rest' d_in e_in path path' here here' =
      let one = rest_from w first y rest path.follows path.rest_in here in
      let two = rest_from w first' y rest' path'.follows path'.rest_in here' in
      rest_same y d e one.list two.list (in_below w.darts y (first ∷ rest) (path.first_in, path.rest_in) here) d_in e_in one.follows
      two.follows one.below two.below (one.last ∙ path.ends) (two.last ∙ path'.ends)

  backs_last : (a : ℕ) (rest : List ℕ) → last_of (w.reverse_dart (last_of a rest)) (backs w a rest) ≡ w.reverse_dart a
  backs_last a [] = refl
  backs_last a (b ∷ bs) = last_push (w.reverse_dart (last_of b bs)) (w.reverse_dart a) (backs w b bs)

  backs_follow : (a : ℕ) (rest : List ℕ) → a < w.darts → Below w.darts rest → Follows w a rest →
      Follows w (w.reverse_dart (last_of a rest)) (backs w a rest)
  backs_follow a [] a_in below follows = tt
  backs_follow a (b ∷ bs) a_in below follows =
      let behind : last_of (w.reverse_dart (last_of b bs)) (backs w b bs) ≡ w.reverse_dart b = backs_last b bs in
      follows_push w (w.reverse_dart (last_of b bs)) (w.reverse_dart a) (backs w b bs) (backs_follow b bs below.0 below.1 follows.2)
      (ap (λ (k : ℕ). w.before (w.reverse_dart k)) (sym follows.0) ∙ are.chains.chains.back b below.0 (some a b follows.0 a_in) ∙ sym behind)
      (ap w.head (are.chains.tied.reverse_dart_back a a_in) ∙ sym follows.1 ∙ ap w.head (sym behind))

  backs_below : (a : ℕ) (rest : List ℕ) → a < w.darts → Below w.darts rest → Below w.darts (backs w a rest)
  backs_below a [] a_in below = tt
  backs_below a (b ∷ bs) a_in below =
      below_push w.darts (w.reverse_dart a) (backs w b bs) (backs_below b bs below.0 below.1) (are.chains.tied.reverse_dart_in a a_in)

  backs_reverse : (a : ℕ) (rest : List ℕ) → w.reverse_dart (last_of a rest) ∷ backs w a rest ≡ map w.reverse_dart (reverse (a ∷ rest))
  backs_reverse a [] = refl
  backs_reverse a (b ∷ bs) =
      ap (λ (xs : List ℕ). xs ++ (w.reverse_dart a ∷ [])) (backs_reverse b bs)
      ∙ sym (map_push w.reverse_dart (reverse (b ∷ bs)) a)
      ∙ ap (map w.reverse_dart) (sym (reverse_onto (b ∷ bs) a []))

  path_first : (d first : ℕ) (rest : List ℕ) → d < n → IsPath w d first rest → w.reverse_dart first ≡ reverse_dart d
  path_first d first rest d_in path =
      let has = are.paths.paths d d_in in
      ap w.reverse_dart (path_unique w d first has.first rest has.rest are.darts_fit path has.path).first ∙ has.back

  -- the way back along the edge of a dart
  way_back : (d first : ℕ) (rest : List ℕ) → d < n → IsPath w d first rest → IsPath w (reverse_dart d) (w.reverse_dart d) (backs w first rest)
  way_back d first rest d_in path =
      let inside : w.reverse_dart d < w.darts = are.chains.tied.reverse_dart_in d (dart_in d d_in) in
      let end : w.reverse_dart (last_of first rest) ≡ w.reverse_dart d = ap w.reverse_dart path.ends in
      record {
        first_in = inside;
        rest_in = backs_below first rest path.first_in path.rest_in;
        start = elim (are.chains.chains.inside (w.reverse_dart d) inside) [
          | inl none ↦ none
          | inr real ↦ absurd
              (ends_there (w.reverse_dart (w.before (w.reverse_dart d))) d (are.chains.tied.reverse_dart_in (w.before (w.reverse_dart d)) real) d_in
              (are.chains.chains.back (w.reverse_dart d) inside (some (w.before (w.reverse_dart d)) (w.reverse_dart d) refl real)
              ∙ are.chains.tied.reverse_dart_back d (dart_in d d_in)))
        ];
        follows = subst (λ (k : ℕ). Follows w k (backs w first rest)) end
            (backs_follow first rest path.first_in path.rest_in path.follows);
        ends = ap (λ (k : ℕ). last_of k (backs w first rest)) (sym end) ∙ backs_last first rest ∙ path_first d first rest d_in path;
      }

  -- the path of a dart's reverse has the reverses of its path, last first
  pub paths_back : (d first first' : ℕ) (rest rest' : List ℕ) → d < n → IsPath w d first rest → IsPath w (reverse_dart d) first' rest' →
      first' ∷ rest' ≡ map w.reverse_dart (reverse (first ∷ rest))
  paths_back d first first' rest rest' d_in path path' =
      let same = path_unique w (reverse_dart d) first' (w.reverse_dart d) rest' (backs w first rest) are.darts_fit path' (way_back d first rest d_in path) in
      ap (λ (k : ℕ). k ∷ rest') same.first ∙ ap (λ (xs : List ℕ). w.reverse_dart d ∷ xs) same.rests
      ∙ ap (λ (k : ℕ). w.reverse_dart k ∷ backs w first rest) (sym path.ends) ∙ backs_reverse first rest

  -- no dart and its reverse are on one path
  reverse_dart_elsewhere : (d y first : ℕ) (rest : List ℕ) → d < n → IsPath w d first rest → In y (first ∷ rest) → In (w.reverse_dart y) (first ∷ rest) → ⊥
  reverse_dart_elsewhere d y first rest d_in path here there =
      let back : IsPath w (reverse_dart d) (w.reverse_dart d) (backs w first rest) = way_back d first rest d_in path in
      let listed : w.reverse_dart d ∷ backs w first rest ≡ map w.reverse_dart (reverse (first ∷ rest)) =
      paths_back d first (w.reverse_dart d) rest (backs w first rest) d_in path back in
      let here_back : In (w.reverse_dart y) (w.reverse_dart d ∷ backs w first rest) =
      subst (In (w.reverse_dart y)) (sym listed)
      (in_mapped w.reverse_dart y (reverse (first ∷ rest)) (in_reverse y (first ∷ rest) here)) in
      are.reverse_dart_apart d d_in
      (paths_apart (reverse_dart d) d (w.reverse_dart y) (w.reverse_dart d) first (backs w first rest) rest (are.reverse_dart_in d d_in) d_in back path here_back there)

  -- the heads of a path from one of its darts on
  heads_distinct : (d start a : ℕ) (all rest : List ℕ) → d < n → IsPath w d start all → a < w.darts → Below w.darts rest →
      Follows w a rest → last_of a rest ≡ d → Distinct (a ∷ rest) → ((y : ℕ) → In y (a ∷ rest) → In y (start ∷ all)) →
      Distinct (map w.head (a ∷ rest))
  heads_distinct d start a all [] d_in path a_in below follows ends distinct within = ((λ none. none), tt)
  heads_distinct d start a all (b ∷ bs) d_in path a_in below follows ends distinct within =
      let some_b : w.before b ≢ no_dart = some a b follows.0 a_in in
      let old_head : v ≤ w.head a = omega (arith, ap w.head follows.0, are.chains.chains.fresh b below.0 some_b) in (
        (λ again.
            let (y, inside, at) = in_map w.head (w.head a) (b ∷ bs) again in
            elim (later w b y bs follows.2 inside) [
              | inl last ↦ omega (arith, old_head, at, ap w.head (last ∙ ends), are.ends d d_in)
              | inr (c, c_in, before) ↦
                  let c_dart : c < w.darts = in_below w.darts c bs below.1 c_in in
                  let y_dart : y < w.darts = in_below w.darts y (b ∷ bs) below inside in
                  elim (are.chains.chains.own b c below.0 c_dart some_b (some y c before y_dart)
                  (ap w.head follows.0 ∙ sym at ∙ ap w.head (sym before))) [
                    | inl one ↦ distinct.0 (subst (λ (k : ℕ). In k (b ∷ bs)) (sym before ∙ ap w.before (sym one) ∙ follows.0) inside)
                    | inr other ↦ reverse_dart_elsewhere d y start all d_in path (within y (inr inside))
                        (subst (λ (k : ℕ). In k (start ∷ all)) (other ∙ ap w.reverse_dart before) (within b (inr (inl refl))))
                  ]
            ]),
        heads_distinct d start b all bs d_in path below.0 below.1 follows.2 ends distinct.1 (λ y there. within y (inr there)),
      )

  -- a path comes to no vertex twice, and not back to where it sets out
  pub paths_once : (d first : ℕ) (rest : List ℕ) → d < n → IsPath w d first rest →
      Distinct (w.head (w.reverse_dart first) ∷ map w.head (first ∷ rest))
  paths_once d first rest d_in path =
      let start : w.head (w.reverse_dart first) ≡ w.head (reverse_dart d) = ap w.head (path_first d first rest d_in path) in
      let low : w.head (reverse_dart d) < v = are.ends (reverse_dart d) (are.reverse_dart_in d d_in) in (
        (λ again.
            let (y, inside, at) = in_map w.head (w.head (w.reverse_dart first)) (first ∷ rest) again in
            elim (later w first y rest path.follows inside) [
              | inl last ↦ are.no_loop d d_in (sym start ∙ sym at ∙ ap w.head (last ∙ path.ends))
              | inr (c, c_in, before) ↦
                  let c_dart : c < w.darts = in_below w.darts c rest path.rest_in c_in in
                  let y_dart : y < w.darts = in_below w.darts y (first ∷ rest) (path.first_in, path.rest_in) inside in
                  let fresh : v ≤ w.head (w.before c) = are.chains.chains.fresh c c_dart (some y c before y_dart) in
                  omega (arith, fresh, ap w.head before, at, start, low)
            ]),
        heads_distinct d first first rest rest d_in path path.first_in path.rest_in path.follows path.ends
            (path_distinct w d first rest are.darts_fit path) (λ y here. here),
      )
