-- How the parts of edges run in boxes.
use Rattle.std.proofs.Common.{◌≡◌, ◌≢◌, ℕ, ◌-◌, ◌<◌, ◌⊎◌, ◌∙◌, List, [], ◌∷◌, ◌++◌, map, reverse, arith, subst, sym, ap, refl, inl, inr}
use Rattle.std.proofs.lemmas.Grind.{reverse_onto}
use Rattle.faces.specs.Planes.{PlaneModel, IsPlane, darts, vertices, tail, reverse_dart}
use Rattle.faces.proofs.Ends.{plane_ends}
use Rattle.ortho_rep.specs.Shapes.{ShapeModel}
use Rattle.dissect.specs.DartMaps.{DartMap, no_dart}
use Rattle.dissect.specs.Faces.{last_of, Below, In, Distinct}
use Rattle.dissect.specs.Paths.{Follows, IsPath}
use Rattle.dissect.proofs.Backwards.{path_unique}
use Rattle.dissect.specs.Boxes.{BoxesModel, dart_map}
use Rattle.dissect.specs.Boxed.{IsBoxed}
use Rattle.drawing_laws.specs.Parts.{IsPart, IsOneEdge}

-- ---- lists

in_below : (n y : ℕ) (xs : List ℕ) → Below n xs → In y xs → y < n
in_below n y [] below here = absurd here
in_below n y (x ∷ xs) below (inl at) = omega (arith, at, below.0)
in_below n y (x ∷ xs) below (inr there) = in_below n y xs below.1 there

in_mapped : (f : ℕ → ℕ) (x : ℕ) (xs : List ℕ) → In x xs → In (f x) (map f xs)
in_mapped f x [] here = absurd here
in_mapped f x (y ∷ ys) (inl at) = inl (ap f at)
in_mapped f x (y ∷ ys) (inr there) = inr (in_mapped f x ys there)

in_right : (y : ℕ) (xs ys : List ℕ) → In y ys → In y (xs ++ ys)
in_right y [] ys here = here
in_right y (x ∷ xs) ys here = inr (in_right y xs ys here)

in_left : (y : ℕ) (xs ys : List ℕ) → In y xs → In y (xs ++ ys)
in_left y [] ys here = absurd here
in_left y (x ∷ xs) ys (inl at) = inl at
in_left y (x ∷ xs) ys (inr there) = inr (in_left y xs ys there)

in_reverse : (y : ℕ) (xs : List ℕ) → In y xs → In y (reverse xs)
in_reverse y [] here = absurd here
in_reverse y (x ∷ xs) here =
    subst (In y) (sym (reverse_onto xs x []))
    (elim here [
      | inl at ↦ in_right y (reverse xs) (x ∷ []) (inl at)
      | inr there ↦ in_left y (reverse xs) (x ∷ []) (in_reverse y xs there)
    ])

-- where a function maps no two of a list to one value, two of them with one value are one
one_of : (f : ℕ → ℕ) (a c : ℕ) (xs : List ℕ) → Distinct (map f xs) → In a xs → In c xs → f a ≡ f c → a ≡ c
one_of f a c [] distinct here there same = absurd here
one_of f a c (x ∷ xs) distinct (inl at) (inl at') same = at ∙ sym at'
one_of f a c (x ∷ xs) distinct (inl at) (inr there) same =
    absurd (distinct.0 (subst (λ (k : ℕ). In k (map f xs)) (sym same ∙ ap f at) (in_mapped f c xs there)))
one_of f a c (x ∷ xs) distinct (inr here) (inl at') same =
    absurd (distinct.0 (subst (λ (k : ℕ). In k (map f xs)) (same ∙ ap f at') (in_mapped f a xs here)))
one_of f a c (x ∷ xs) distinct (inr here) (inr there) same = one_of f a c xs distinct.1 here there same

-- a dart of a path is the last one, or stands before another dart of it
later : (w : DartMap) (b y : ℕ) (bs : List ℕ) → Follows w b bs → In y (b ∷ bs) → (y ≡ last_of b bs) ⊎ ((c : ℕ) × In c bs × (w.before c ≡ y))
later w b y [] follows here = elim here [ inl at ↦ inl at | inr none ↦ absurd none ]
later w b y (c ∷ cs) follows here =
    elim here [
      | inl at ↦ inr (c, inl refl, follows.0 ∙ sym at)
      | inr there ↦ elim (later w c y cs follows.2 there) [
        | inl last ↦ inl last
        | inr (d, inside, before) ↦ inr (d, inr inside, before)
      ]
    ]

-- ---- parts

module _ (p : PlaneModel) (shape : ShapeModel) (b : BoxesModel) (plane : IsPlane p) (boxed : IsBoxed p shape b) where
  pub part_in : (d a : ℕ) → IsPart (dart_map b) d a → a < b.darts
  part_in d a part = in_below b.darts a (part.first ∷ part.rest) (part.path.first_in, part.path.rest_in) part.on

  -- the reverse of a part is one of the way back
  pub part_back : (d a : ℕ) → d < darts p → IsPart (dart_map b) d a → IsPart (dart_map b) (reverse_dart p d) ((dart_map b).reverse_dart a)
  part_back d a d_in part =
      let back = boxed.paths.paths (reverse_dart p d) ((plane_ends p plane).reverse_dart_in_range d d_in) in
      let all : List ℕ = part.first ∷ part.rest in
      record {
        first = back.first;
        rest = back.rest;
        path = back.path;
        on = subst (In ((dart_map b).reverse_dart a))
            (sym (boxed.apart.back d part.first back.first part.rest back.rest d_in part.path back.path))
            (in_mapped (dart_map b).reverse_dart a (reverse all) (in_reverse a all part.on));
      }

  pub one_part : (d e a : ℕ) → d < darts p → e < darts p → IsPart (dart_map b) d a → IsPart (dart_map b) e a → d ≡ e
  one_part d e a d_in e_in one two =
      boxed.apart.apart d e a one.first two.first one.rest two.rest d_in e_in one.path two.path one.on two.on

  pub part_of_one : (d e a : ℕ) → d < darts p → e < darts p → IsPart (dart_map b) d a
      → IsPart (dart_map b) e a ⊎ IsPart (dart_map b) e ((dart_map b).reverse_dart a) → IsOneEdge p d e
  part_of_one d e a d_in e_in one (inl two) = inl (one_part d e a d_in e_in one two)
  part_of_one d e a d_in e_in one (inr two) =
      let e' : ℕ = reverse_dart p e in
      let there : IsPart (dart_map b) e' a =
      subst (λ (k : ℕ). IsPart (dart_map b) e' k) (boxed.boxes.sound.tied.reverse_dart_back a (part_in d a one)) (part_back e ((dart_map b).reverse_dart a) e_in two) in
      inr (one_part d e' a d_in ((plane_ends p plane).reverse_dart_in_range e e_in) one there)

  -- two parts of one dart, on one path
  pub on_path : (d c first : ℕ) (rest : List ℕ) → IsPath (dart_map b) d first rest → IsPart (dart_map b) d c → In c (first ∷ rest)
  on_path d c first rest path part =
      let same = path_unique (dart_map b) d part.first first part.rest rest boxed.boxes.few_darts part.path path in
      subst (λ (xs : List ℕ). In c (first ∷ xs)) same.rests (subst (λ (k : ℕ). In c (k ∷ part.rest)) same.first part.on)

  pub vertex_once : (d a c : ℕ) → d < darts p → IsPart (dart_map b) d a → IsPart (dart_map b) d c → (dart_map b).head a ≡ (dart_map b).head c → a ≡ c
  vertex_once d a c d_in one two same =
      one_of (dart_map b).head a c (one.first ∷ one.rest) (boxed.apart.once d one.first one.rest d_in one.path).1 one.on
      (on_path d c one.first one.rest one.path two) same

  pub start_apart : (d a : ℕ) → d < darts p → IsPart (dart_map b) d a → (dart_map b).head a ≢ tail p d - 1
  start_apart d a d_in part same =
      let ends = plane_ends p plane in
      let has = boxed.paths.paths d d_in in
      let on = on_path d a has.first has.rest has.path part in
      let start : (dart_map b).head ((dart_map b).reverse_dart has.first) ≡ tail p d - 1 =
      ap (dart_map b).head has.back ∙ boxed.heads (reverse_dart p d) (ends.reverse_dart_in_range d d_in)
      ∙ ap (λ (k : ℕ). k - 1) (ends.reverse_dart_head d d_in) in
      (boxed.apart.once d has.first has.rest d_in has.path).0
      (subst (λ (k : ℕ). In k (map (dart_map b).head (has.first ∷ has.rest))) (same ∙ sym start) (in_mapped (dart_map b).head a (has.first ∷ has.rest) on))

  -- a part is the last one, or stands before another part of its edge
  before_part : (d a : ℕ) → IsPart (dart_map b) d a → (a ≡ d) ⊎ ((c : ℕ) × IsPart (dart_map b) d c × ((dart_map b).before c ≡ a))
  before_part d a part =
      elim (later (dart_map b) part.first a part.rest part.path.follows part.on) [
        | inl last ↦ inl (last ∙ part.path.ends)
        | inr (c, inside, before) ↦ inr (c, record { first = part.first; rest = part.rest; path = part.path; on = inr inside }, before)
      ]

  some : (d a c : ℕ) → IsPart (dart_map b) d a → (dart_map b).before c ≡ a → (dart_map b).before c ≢ no_dart
  some d a c part before none = omega (arith, before, none, part_in d a part, boxed.boxes.few_darts)

  end_low : (d : ℕ) → d < darts p → (dart_map b).head d < vertices p
  end_low d d_in =
      let ends = plane_ends p plane in
      omega (arith, boxed.heads d d_in, ends.head_from d d_in, ends.head_to d d_in)

  pub end_alone : (d a : ℕ) → d < darts p → IsPart (dart_map b) d a → (dart_map b).head a < vertices p → a ≡ d
  end_alone d a d_in part low =
      elim (before_part d a part) [
        | inl last ↦ last
        | inr (c, next, before) ↦
            absurd (omega (arith, boxed.chains.fresh c (part_in d c next) (some d a c part before), ap (dart_map b).head before, low))
      ]

  pub meet_at_ends : (d e a c : ℕ) → d < darts p → e < darts p → IsPart (dart_map b) d a → IsPart (dart_map b) e c → (dart_map b).head a ≡ (dart_map b).head c
      → IsOneEdge p d e ⊎ ((a ≡ d) × (c ≡ e))
  meet_at_ends d e a c d_in e_in one two same =
      elim (before_part d a one) [
        | inl last ↦ inr (last, end_alone e c e_in two (omega (arith, same, ap (dart_map b).head last, end_low d d_in)))
        | inr (a', one', before) ↦ elim (before_part e c two) [
          | inl last ↦ inr (end_alone d a d_in one (omega (arith, same, ap (dart_map b).head last, end_low e e_in)), last)
          | inr (c', two', before') ↦
              elim (boxed.chains.own a' c' (part_in d a' one') (part_in e c' two') (some d a a' one before) (some e c c' two before')
              (ap (dart_map b).head before ∙ same ∙ sym (ap (dart_map b).head before'))) [
                | inl at ↦ inl (inl (one_part d e a' d_in e_in one' (subst (λ (k : ℕ). IsPart (dart_map b) e k) (sym at) two')))
                | inr other ↦
                    let back : IsPart (dart_map b) (reverse_dart p e) a' =
                    subst (λ (k : ℕ). IsPart (dart_map b) (reverse_dart p e) k) (ap (dart_map b).reverse_dart (sym before') ∙ sym other) (part_back e c e_in two) in
                    inl (inr (one_part d (reverse_dart p e) a' d_in ((plane_ends p plane).reverse_dart_in_range e e_in) one' back))
              ]
        ]
      ]
