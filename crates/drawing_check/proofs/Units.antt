-- A path in steps of length 1.
use Rattle.std.proofs.Common.{◌≡◌, ◌≤◌, ◌<◌, ℕ, zero, suc, ◌+◌, ◌-◌, List, [], ◌∷◌, ◌++◌, length, length-append, get_or, append_assoc, refl, sym, ap, ◌∙◌, subst, inl, inr, arith}
use Rattle.std.proofs.lemmas.Bool.{cases_lt}
use Rattle.std.proofs.lemmas.List.{get_or_append_left, get_or-append-add}
use Rattle.std.proofs.lemmas.List.FromFn.{length-map-range_with_len, get_or-map-range_with_len, map-range_with_len_more}
use Rattle.geometry.specs.declared.direction.Direction.{Direction}
use Rattle.geometry.specs.declared.direction.Direction.TheVariants.{East, North, West, South}
use Rattle.ortho_rep.specs.declared.grid_points.Point.{Point}
use Rattle.ortho_rep.specs.Points.{origin}
use Rattle.drawing_check.specs.Paths.{point_of}
use Rattle.drawing_check.specs.Walks.{step_from, distance, walk, interior}
use Rattle.drawing_check.specs.Draws.{IsAxis, IsOnAxes, direction_between}
use Rattle.drawing_check.proofs.PathParts.{toward_up, toward_down, toward_same}
use Rattle.drawing_check.proofs.Coverings.{point_is}
use Rattle.std.proofs.lemmas.Bool.{lt-ltb, le-ltb}
use Rattle.drawing_check.proofs.Weights.{IsStep}

-- all points that are met along a path, with its ends
abbrev pub units : List Point → List Point
units [] = []
units (a ∷ []) = a ∷ []
units (a ∷ b ∷ rest) = a ∷ (walk a b (distance a b - 1) ++ units (b ∷ rest))

-- ---- one part

-- the four ways that a part may go
pub data PartWay (a b : Point) : Type 0 where
  goes_east : a.x < b.x → a.y ≡ b.y → direction_between a b ≡ East → PartWay a b
  goes_north : a.x ≡ b.x → a.y < b.y → direction_between a b ≡ North → PartWay a b
  goes_west : b.x < a.x → a.y ≡ b.y → direction_between a b ≡ West → PartWay a b
  goes_south : a.x ≡ b.x → b.y < a.y → direction_between a b ≡ South → PartWay a b

pub part_way : (a b : Point) → IsAxis a b → PartWay a b
part_way a b (inl upright) =
    elim (cases_lt a.y b.y) [
      | inl up ↦ goes_north upright.0 up (rw (le-ltb a.x b.x (omega (arith, upright.0)), le-ltb b.x a.x (omega (arith, upright.0)), lt-ltb a.y b.y up) refl)
      | inr down ↦ goes_south upright.0 (omega (arith, upright.1, down))
          (rw (le-ltb a.x b.x (omega (arith, upright.0)), le-ltb b.x a.x (omega (arith, upright.0)), le-ltb a.y b.y down) refl)
    ]
part_way a b (inr level) =
    elim (cases_lt a.x b.x) [
      | inl up ↦ goes_east up level.1 (rw (lt-ltb a.x b.x up) refl)
      | inr down ↦ goes_west (omega (arith, level.0, down)) level.1 (rw (le-ltb a.x b.x down, lt-ltb b.x a.x (omega (arith, level.0, down))) refl)
    ]

pub start_is : (a b : Point) → PartWay a b → step_from a b 0 ≡ a
start_is a b (goes_east along across is) = point_is (step_from a b 0) a (omega (arith, toward_up a.x b.x 0 along)) (toward_same a.y b.y 0 across)
start_is a b (goes_north across along is) = point_is (step_from a b 0) a (toward_same a.x b.x 0 across) (omega (arith, toward_up a.y b.y 0 along))
start_is a b (goes_west along across is) = point_is (step_from a b 0) a (omega (arith, toward_down a.x b.x 0 along)) (toward_same a.y b.y 0 across)
start_is a b (goes_south across along is) = point_is (step_from a b 0) a (toward_same a.x b.x 0 across) (omega (arith, toward_down a.y b.y 0 along))

pub end_is : (a b : Point) → PartWay a b → step_from a b (distance a b) ≡ b
end_is a b (goes_east along across is) =
    point_is (step_from a b (distance a b)) b (omega (arith, toward_up a.x b.x (distance a b) along, along, across)) (toward_same a.y b.y (distance a b) across ∙ across)
end_is a b (goes_north across along is) =
    point_is (step_from a b (distance a b)) b (toward_same a.x b.x (distance a b) across ∙ across) (omega (arith, toward_up a.y b.y (distance a b) along, along, across))
end_is a b (goes_west along across is) =
    point_is (step_from a b (distance a b)) b (omega (arith, toward_down a.x b.x (distance a b) along, along, across)) (toward_same a.y b.y (distance a b) across ∙ across)
end_is a b (goes_south across along is) =
    point_is (step_from a b (distance a b)) b (toward_same a.x b.x (distance a b) across ∙ across) (omega (arith, toward_down a.y b.y (distance a b) along, along, across))

pub distance_some : (a b : Point) → PartWay a b → 1 ≤ distance a b
distance_some a b (goes_east along across is) = omega (arith, along)
distance_some a b (goes_north across along is) = omega (arith, along)
distance_some a b (goes_west along across is) = omega (arith, along)
distance_some a b (goes_south across along is) = omega (arith, along)

-- each step along a part goes as the part does
pub part_step : (a b : Point) → PartWay a b → (m : ℕ) → m < distance a b
    → IsStep (direction_between a b) (step_from a b m).x (step_from a b m).y (step_from a b (m + 1)).x (step_from a b (m + 1)).y
part_step a b (goes_east along across is) m less =
    subst (λ (q : Direction). IsStep q (step_from a b m).x (step_from a b m).y (step_from a b (m + 1)).x (step_from a b (m + 1)).y) (sym is)
    (omega (arith, toward_up a.x b.x m along, toward_up a.x b.x (m + 1) along), toward_same a.y b.y (m + 1) across ∙ sym (toward_same a.y b.y m across))
part_step a b (goes_north across along is) m less =
    subst (λ (q : Direction). IsStep q (step_from a b m).x (step_from a b m).y (step_from a b (m + 1)).x (step_from a b (m + 1)).y) (sym is)
    (toward_same a.x b.x (m + 1) across ∙ sym (toward_same a.x b.x m across), omega (arith, toward_up a.y b.y m along, toward_up a.y b.y (m + 1) along))
part_step a b (goes_west along across is) m less =
    subst (λ (q : Direction). IsStep q (step_from a b m).x (step_from a b m).y (step_from a b (m + 1)).x (step_from a b (m + 1)).y) (sym is)
    (omega (arith, toward_down a.x b.x m along, toward_down a.x b.x (m + 1) along, less, along, across), toward_same a.y b.y (m + 1) across ∙ sym (toward_same a.y b.y m across))
part_step a b (goes_south across along is) m less =
    subst (λ (q : Direction). IsStep q (step_from a b m).x (step_from a b m).y (step_from a b (m + 1)).x (step_from a b (m + 1)).y) (sym is)
    (toward_same a.x b.x (m + 1) across ∙ sym (toward_same a.x b.x m across), omega (arith, toward_down a.y b.y m along, toward_down a.y b.y (m + 1) along, less, along, across))

-- ---- a path

-- step i of the units is step m of part k
pub record IsAt (path : List Point) (i k m : ℕ) : Type 0 where
  pub in_units : i + 1 < length (units path)
  pub in_path : k + 1 < length path
  pub in_part : m < distance (point_of path k) (point_of path (k + 1))
  pub from : point_of (units path) i ≡ step_from (point_of path k) (point_of path (k + 1)) m
  pub to : point_of (units path) (i + 1) ≡ step_from (point_of path k) (point_of path (k + 1)) (m + 1)

axes_behind : (a b : Point) (rest : List Point) → IsOnAxes (a ∷ b ∷ rest) → IsOnAxes (b ∷ rest)
axes_behind a b rest axes k less =
    subst (λ (n : ℕ). IsAxis (point_of (b ∷ rest) k) (point_of (a ∷ b ∷ rest) n)) (e k) (axes (suc k) (omega (arith, less)))
  where
    e : (k : ℕ) → suc k + 1 ≡ suc (k + 1)
    e k = omega arith

units_start : (b : Point) (rest : List Point) → point_of (units (b ∷ rest)) 0 ≡ b
units_start b [] = refl
units_start b (c ∷ rest) = refl

units_some : (b : Point) (rest : List Point) → 1 ≤ length (units (b ∷ rest))
units_some b [] = omega arith
units_some b (c ∷ rest) = omega arith

module _ (a b : Point) (rest : List Point) (way : PartWay a b) where
  abbrev front : List Point
  front = a ∷ walk a b (distance a b - 1)

  front_size : length (a ∷ walk a b (distance a b - 1)) ≡ distance a b
  front_size = omega (arith, length-map-range_with_len (step_from a b) 1 (distance a b - 1), distance_some a b way)

  size : length (units (a ∷ b ∷ rest)) ≡ distance a b + length (units (b ∷ rest))
  size = omega (arith, length-append (a ∷ walk a b (distance a b - 1)) (units (b ∷ rest)), front_size)

  high : (i : ℕ) → point_of (units (a ∷ b ∷ rest)) (distance a b + i) ≡ point_of (units (b ∷ rest)) i
  high i =
      ap (λ (n : ℕ). point_of (units (a ∷ b ∷ rest)) (n + i)) (sym front_size)
      ∙ get_or-append-add (a ∷ walk a b (distance a b - 1)) (units (b ∷ rest)) i origin

  in_front : (i : ℕ) → i < distance a b → get_or (a ∷ walk a b (distance a b - 1)) i origin ≡ step_from a b i
  in_front zero less = sym (start_is a b way)
  in_front (suc i) less = get_or-map-range_with_len (step_from a b) 1 (distance a b - 1) i (suc i) origin (omega (arith, less)) (omega arith)

  low : (i : ℕ) → i ≤ distance a b → point_of (units (a ∷ b ∷ rest)) i ≡ step_from a b i
  low i less =
      elim (cases_lt i (distance a b)) [
        | inl inside ↦ get_or_append_left (a ∷ walk a b (distance a b - 1)) (units (b ∷ rest)) origin i (omega (arith, inside, front_size)) ∙ in_front i inside
        | inr end ↦
            let e : i ≡ distance a b + 0 = omega (arith, less, end) in
            let e' : distance a b ≡ i = omega (arith, less, end) in
            ap (point_of (units (a ∷ b ∷ rest))) e ∙ high 0 ∙ units_start b rest ∙ sym (end_is a b way) ∙ ap (step_from a b) e'
      ]

  here : (m : ℕ) → m < distance a b → IsAt (a ∷ b ∷ rest) m 0 m
  here m less = record {
    in_units = omega (arith, size, units_some b rest, less);
    in_path = omega arith;
    in_part = less;
    from = low m (omega (arith, less));
    to = low (m + 1) (omega (arith, less));
  }

  behind : (i k m : ℕ) → IsAt (b ∷ rest) i k m → IsAt (a ∷ b ∷ rest) (distance a b + i) (suc k) m
  behind i k m at =
      let e : suc k + 1 ≡ suc (k + 1) = omega arith in
      let f : distance a b + i + 1 ≡ distance a b + (i + 1) = omega arith in
      record {
        in_units = omega (arith, size, at.in_units);
        in_path = omega (arith, at.in_path);
        in_part = subst (λ (n : ℕ). m < distance (point_of (b ∷ rest) k) (point_of (a ∷ b ∷ rest) n)) (sym e) at.in_part;
        from = high i ∙ at.from ∙ ap (λ (n : ℕ). step_from (point_of (b ∷ rest) k) (point_of (a ∷ b ∷ rest) n) m) (sym e);
        to = ap (point_of (units (a ∷ b ∷ rest))) f ∙ high (i + 1) ∙ at.to ∙ ap (λ (n : ℕ). step_from (point_of (b ∷ rest) k) (point_of (a ∷ b ∷ rest) n) (m + 1)) (sym e);
      }

first_way : (a b : Point) (rest : List Point) → IsOnAxes (a ∷ b ∷ rest) → PartWay a b
first_way a b rest axes = part_way a b (axes 0 (omega arith))

-- each step of a part is one of the units
pub found : (path : List Point) → IsOnAxes path → (k m : ℕ) → k + 1 < length path → m < distance (point_of path k) (point_of path (k + 1))
    → (i : ℕ) × IsAt path i k m
found [] axes k m k_in m_in = absurd (omega (arith, k_in))
found (a ∷ []) axes k m k_in m_in = absurd (omega (arith, k_in))
found (a ∷ b ∷ rest) axes zero m k_in m_in = (m, here a b rest (first_way a b rest axes) m m_in)
found (a ∷ b ∷ rest) axes (suc k) m k_in m_in =
    let e : suc k + 1 ≡ suc (k + 1) = omega arith in
    let it = found (b ∷ rest) (axes_behind a b rest axes) k m (omega (arith, k_in)) (subst (λ (n : ℕ). m < distance (point_of (b ∷ rest) k) (point_of (a ∷ b ∷ rest) n)) e m_in) in
    (distance a b + it.0, behind a b rest (first_way a b rest axes) it.0 k m it.1)

-- and each of the units is a step of a part
pub told : (path : List Point) → IsOnAxes path → (i : ℕ) → i + 1 < length (units path) → (k : ℕ) × (m : ℕ) × IsAt path i k m
told [] axes i i_in = absurd (omega (arith, i_in))
told (a ∷ []) axes i i_in = absurd (omega (arith, i_in))
told (a ∷ b ∷ rest) axes i i_in =
    let way = first_way a b rest axes in
    elim (cases_lt i (distance a b)) [
      | inl less ↦ (0, i, here a b rest way i less)
      | inr more ↦
          let j : ℕ = i - distance a b in
          let it = told (b ∷ rest) (axes_behind a b rest axes) j (omega (arith, i_in, more, size a b rest way)) in
          let e : distance a b + j ≡ i = omega (arith, more) in
          (suc it.0, it.1, subst (λ (n : ℕ). IsAt (a ∷ b ∷ rest) n (suc it.0) it.1) e (behind a b rest way j it.0 it.1 it.2))
    ]

pub first : (path : List Point) → IsOnAxes path → 2 ≤ length path → IsAt path 0 0 0
first [] axes some = absurd (omega (arith, some))
first (a ∷ []) axes some = absurd (omega (arith, some))
first (a ∷ b ∷ rest) axes some = let way = first_way a b rest axes in here a b rest way 0 (distance_some a b way)

pub last : (path : List Point) → IsOnAxes path → (n : ℕ) → length path ≡ n + 2
    → (i : ℕ) × (m : ℕ) × (i + 2 ≡ length (units path)) × IsAt path i n m × (m + 1 ≡ distance (point_of path n) (point_of path (n + 1)))
last [] axes n many = absurd (omega (arith, many))
last (a ∷ []) axes n many = absurd (omega (arith, many))
last (a ∷ b ∷ []) axes zero many =
    let way = first_way a b [] axes in
    let some = distance_some a b way in
    let m : ℕ = distance a b - 1 in
    (m, m, omega (arith, size a b [] way, some), here a b [] way m (omega (arith, some)), omega (arith, some))
last (a ∷ b ∷ []) axes (suc n) many = absurd (omega (arith, many))
last (a ∷ b ∷ c ∷ rest) axes zero many = absurd (omega (arith, many))
last (a ∷ b ∷ c ∷ rest) axes (suc n) many =
    let way = first_way a b (c ∷ rest) axes in
    let e : suc n + 1 ≡ suc (n + 1) = omega arith in
    let it = last (b ∷ c ∷ rest) (axes_behind a b (c ∷ rest) axes) n (omega (arith, many)) in (
      distance a b + it.0,
      it.1,
      omega (arith, size a b (c ∷ rest) way, it.2),
      behind a b (c ∷ rest) way it.0 n it.1 it.3,
      it.4 ∙ ap (λ (k : ℕ). distance (point_of (b ∷ c ∷ rest) n) (point_of (a ∷ b ∷ c ∷ rest) k)) (sym e),
    )

-- ---- between the ends

inner_more : (a b : Point) (u : List Point) (z : Point) → PartWay a b
    → walk a b (distance a b - 1) ++ (b ∷ (u ++ z ∷ [])) ≡ (walk a b (distance a b) ++ u) ++ z ∷ []
inner_more a b u z way =
    let some = distance_some a b way in
    let up : distance a b - 1 + 1 ≡ distance a b = omega (arith, some) in
    let more : walk a b (distance a b) ≡ walk a b (distance a b - 1) ++ b ∷ [] =
    ap (walk a b) (sym up)
    ∙ map-range_with_len_more (step_from a b) 1 (distance a b - 1) (distance a b) (omega (arith, some))
    ∙ ap (λ (q : Point). walk a b (distance a b - 1) ++ q ∷ []) (end_is a b way) in
    sym (append_assoc (walk a b (distance a b - 1)) (b ∷ []) (u ++ z ∷ []))
    ∙ ap (λ (l : List Point). l ++ (u ++ z ∷ [])) (sym more)
    ∙ sym (append_assoc (walk a b (distance a b)) u (z ∷ []))

-- the units are the ends of the path and what is met between them
units_are : (path : List Point) → IsOnAxes path → 2 ≤ length path → (z : Point) × (units path ≡ point_of path 0 ∷ (interior path ++ z ∷ []))
units_are [] axes some = absurd (omega (arith, some))
units_are (a ∷ []) axes some = absurd (omega (arith, some))
units_are (a ∷ b ∷ []) axes some = (b, refl)
units_are (a ∷ b ∷ c ∷ rest) axes some =
    let way = first_way a b (c ∷ rest) axes in
    let it = units_are (b ∷ c ∷ rest) (axes_behind a b (c ∷ rest) axes) (omega arith) in (
      it.0,
      ap (λ (l : List Point). a ∷ (walk a b (distance a b - 1) ++ l)) it.1 ∙ ap (λ (l : List Point). a ∷ l) (inner_more a b (interior (b ∷ c ∷ rest)) it.0 way),
    )

pub units_size : (path : List Point) → IsOnAxes path → 2 ≤ length path → length (units path) ≡ length (interior path) + 2
units_size path axes some =
    let it = units_are path axes some in
    omega (arith, ap length it.1, length-append (interior path) (it.0 ∷ []))

pub units_inner : (path : List Point) → IsOnAxes path → 2 ≤ length path → (i : ℕ) → i < length (interior path)
    → point_of (units path) (suc i) ≡ get_or (interior path) i origin
units_inner path axes some i i_in =
    let it = units_are path axes some in
    ap (λ (l : List Point). point_of l (suc i)) it.1 ∙ get_or_append_left (interior path) (it.0 ∷ []) origin i i_in
