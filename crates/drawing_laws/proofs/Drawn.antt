-- Points that are taken from coordinates in order draw the shape.
use Rattle.std.proofs.Common.{◌≡◌, ℕ, zero, suc, ◌+◌, ◌-◌, ◌%◌, ◌<◌, ◌≤◌, ◌∙◌, List, [], ◌∷◌, ◌++◌, map, filter, length, length-append, get_or, slice_index, arith, subst, sym, ap, refl, inl, inr, true, cond, ltb, eqb, All, AllPairs, Contains}
use Rattle.std.specs.List.{range_with_len, flat_map}
use Rattle.std.proofs.lemmas.Bool.{cases_eq, cases_lt, cond-true, cond-false, lt-ltb, ltb-true, eq-eqb, ne_eqb}
use Rattle.std.proofs.lemmas.List.{get_or_append_left, get_or_push, get_or_default}
use Rattle.std.proofs.lemmas.List.FromFn.{get_or-map-range_with_len, get_or-range_with_len, length-range_with_len}
use Rattle.std.proofs.lemmas.List.Kept.{AllPairs-filter}
use Rattle.std.proofs.lemmas.List.Elements.{All-cons, All-nil, All-head, All-tail, All-contains, Contains-append_cases}
use Rattle.geometry.specs.Directions.{left_of, left_quarters}
use Rattle.faces.specs.Planes.{PlaneModel, IsPlane, darts, vertices, head, tail, reverse_dart, next}
use Rattle.faces.proofs.Ends.{plane_ends}
use Rattle.ortho_rep.specs.declared.grid_points.Point.{Point}
use Rattle.ortho_rep.specs.Points.{PointsModel, origin, vertex_point, corners_at}
use Rattle.ortho_rep.specs.Shapes.{ShapeModel, angle_at, turns_at}
use Rattle.ortho_rep.specs.Edges.{is_lesser, lesser_darts, edge_number}
use Rattle.ortho_rep.proofs.EdgeNumbers.{edge_number-below, lesser-more, length-lesser}
use Rattle.dissect.specs.Steps.{angle_of}
use Rattle.dissect.specs.Faces.{In, Distinct, Below, last_of}
use Rattle.dissect.specs.Paths.{HasPath, IsPath, turn_to, turning_vertices}
use Rattle.dissect.specs.Boxes.{BoxesModel, dart_map}
use Rattle.dissect.specs.Boxed.{IsBoxed}
use Rattle.dissect.specs.Monotone.{IsMonotone, AreWithin, AreTaken, AreLeastPoints, point_at}
use Rattle.drawing_check.specs.declared.drawing.CheckFault.{CheckFault}
use Rattle.drawing_check.specs.declared.drawing.CheckFault.TheVariants.{OutOfGrid, NotAxis, WrongTurn, Meet, Memory}
use Rattle.drawing_check.specs.Faults.{IsFirstFault}
use Rattle.drawing_check.specs.Paths.{path_along, paths, point_of}
use Rattle.drawing_check.specs.Walks.{interior, AreDistinct}
use Rattle.drawing_check.specs.Draws.{AreInGrid, IsInGrid, IsOnAxes, IsTurning, TurnAsSaid, MeetNowhere, Draws, direction_of, direction_between, leaving}
use Rattle.drawing_check.proofs.Coverings.{no_repeat_append}
use Rattle.drawing_check.proofs.Leaving.{leaving-lesser, leaving-reverse_dart}
use Rattle.drawing_check.proofs.Routing.{axes_each, each_lesser}
use Rattle.drawing_laws.proofs.Sides.{Goes, dart_goes}
use Rattle.drawing_laws.proofs.Lines.{line, way_of, line_axes, line_way, line_back, line_turning}
use Rattle.drawing_laws.proofs.Passing.{PassesAt, IsBefore, line_met, line_once}
use Rattle.drawing_laws.specs.Parts.{IsPart, IsOneEdge}
use Rattle.drawing_laws.proofs.Meeting.{one_path, two_paths, off_path, vertex_one}

-- ---- lists

-- a lesser dart stands in their list at the number of its edge
lesser_at : (p : PlaneModel) (n d : ℕ) → d < n → is_lesser p d ≡ true → get_or (filter (is_lesser p) (range_with_len 0 n)) (edge_number p d) 0 ≡ d
lesser_at p zero d d_in lesser = absurd (omega (arith, d_in))
lesser_at p (suc n) d d_in lesser =
    let one : n + 1 ≡ suc n = omega arith in
    let front : List ℕ = filter (is_lesser p) (range_with_len 0 n) in
    let more : filter (is_lesser p) (range_with_len 0 (suc n)) ≡ front ++ cond (is_lesser p n) (n ∷ []) [] =
    subst (λ (m : ℕ). filter (is_lesser p) (range_with_len 0 m) ≡ front ++ cond (is_lesser p n) (n ∷ []) []) one (lesser-more (is_lesser p) n) in
    let size : length front ≡ edge_number p n = length-lesser p n in
    elim (cases_eq d n) [
      | inl at ↦
          let last : cond (is_lesser p n) (n ∷ []) [] ≡ n ∷ [] = cond-true {A = List ℕ} (is_lesser p n) (n ∷ []) [] (subst (λ (k : ℕ). is_lesser p k ≡ true) at lesser) in
          ap (λ (xs : List ℕ). get_or xs (edge_number p d) 0) (more ∙ ap (λ (ys : List ℕ). front ++ ys) last)
          ∙ get_or_push front n 0 (edge_number p d) (size ∙ ap (edge_number p) (sym at)) ∙ sym at
      | inr other ↦
          let below : d < n = omega (arith, other, d_in) in
          ap (λ (xs : List ℕ). get_or xs (edge_number p d) 0) more
          ∙ get_or_append_left front (cond (is_lesser p n) (n ∷ []) []) 0 (edge_number p d) (omega (arith, size, edge_number-below p n d below lesser))
          ∙ lesser_at p n d below lesser
    ]

distinct_from : (f : ℕ → ℕ) (xs : List ℕ) → Distinct (map f xs) → Distinct xs
distinct_from f [] distinct = tt
distinct_from f (x ∷ xs) distinct = ((λ here. distinct.0 (mapped f x xs here)), distinct_from f xs distinct.1)
  where
    mapped : (f : ℕ → ℕ) (x : ℕ) (xs : List ℕ) → In x xs → In (f x) (map f xs)
    mapped f x [] here = absurd here
    mapped f x (y ∷ ys) (inl at) = inl (ap f at)
    mapped f x (y ∷ ys) (inr there) = inr (mapped f x ys there)

-- ---- quarter turns to the left

ways_left : (n k : ℕ) → k < 4 → left_quarters n (way_of k) ≡ way_of ((k + n) % 4)
ways_left zero k few = ap way_of (let e : k ≡ (k + 0) % 4 = omega (arith, few) in e)
ways_left (suc n) k few =
    ap left_of (ways_left n k few) ∙ left_way ((k + n) % 4) (omega arith) ∙ ap way_of (let e : ((k + n) % 4 + 1) % 4 ≡ (k + suc n) % 4 = omega arith in e)
  where
    left_way : (m : ℕ) → m < 4 → left_of (way_of m) ≡ way_of ((m + 1) % 4)
    left_way zero few = refl
    left_way (suc zero) few = refl
    left_way (suc (suc zero)) few = refl
    left_way (suc (suc (suc zero))) few = refl
    left_way (suc (suc (suc (suc m)))) few = absurd (omega (arith, few))

-- ---- the points of a shape

module _ (p : PlaneModel) (shape : ShapeModel) (b : BoxesModel) (plane : IsPlane p) (boxed : IsBoxed p shape b) (x y : ℕ → ℕ)
    (monotone : IsMonotone (dart_map b) x y) (points : PointsModel) (taken : AreTaken b x y points) where
  pub path_of : (d : ℕ) → d < darts p → HasPath (dart_map b) d (reverse_dart p d) (map angle_of (turns_at shape d))
  path_of d d_in = boxed.paths.paths d d_in

  -- the point of a vertex
  vertex_is : (v : ℕ) → 1 ≤ v → v ≤ vertices p → vertex_point points v ≡ point_at x y (v - 1)
  vertex_is v some most =
      ap (λ (ps : List Point). get_or ps (v - 1) origin) taken.vertices
      ∙ get_or-map-range_with_len (point_at x y) 0 b.old (v - 1) (v - 1) origin (omega (arith, boxed.old, some, most)) (omega arith)

  edge_in : (d : ℕ) → d < darts p → is_lesser p d ≡ true → edge_number p d < length b.edges
  edge_in d d_in lesser = omega (arith, edge_number-below p (darts p) d d_in lesser, length-lesser p (darts p), ap length boxed.edges)

  -- the corners of an edge
  corners_are : (d : ℕ) (d_in : d < darts p) → is_lesser p d ≡ true
      → corners_at points (edge_number p d) ≡ map (point_at x y) (turning_vertices (dart_map b) (path_of d d_in).first (path_of d d_in).rest)
  corners_are d d_in lesser =
      let has = path_of d d_in in
      let at : slice_index b.edges (edge_number p d) ≡ d =
      ap (λ (es : List ℕ). slice_index es (edge_number p d)) boxed.edges ∙ lesser_at p (darts p) d d_in lesser in
      taken.corners (edge_number p d) (edge_in d d_in lesser) (record {
        first = has.first;
        rest = has.rest;
        path = subst (λ (e : ℕ). IsPath (dart_map b) e has.first has.rest) (sym at) has.path;
      })

  -- where a path sets out
  start_is : (d : ℕ) (d_in : d < darts p) → (dart_map b).head ((dart_map b).reverse_dart (path_of d d_in).first) ≡ tail p d - 1
  start_is d d_in =
      let ends = plane_ends p plane in
      ap (dart_map b).head (path_of d d_in).back ∙ boxed.heads (reverse_dart p d) (ends.reverse_dart_in_range d d_in)
      ∙ ap (λ (v : ℕ). v - 1) (ends.reverse_dart_head d d_in)

  abbrev pub line_of : (d : ℕ) → d < darts p → List Point
  line_of d d_in =
      line (dart_map b) x y ((dart_map b).head ((dart_map b).reverse_dart (path_of d d_in).first)) (path_of d d_in).first (path_of d d_in).rest

  -- the path of an edge is the line along its darts
  pub line_is : (d : ℕ) (d_in : d < darts p) → is_lesser p d ≡ true → path_along p points d ≡ line_of d d_in
  line_is d d_in lesser =
      let ends = plane_ends p plane in
      let has = path_of d d_in in
      let first : vertex_point points (tail p d) ≡ point_at x y ((dart_map b).head ((dart_map b).reverse_dart has.first)) =
      vertex_is (tail p d) (ends.tail_from d d_in) (ends.tail_to d d_in) ∙ ap (point_at x y) (sym (start_is d d_in)) in
      let last : vertex_point points (head p d) ≡ point_at x y ((dart_map b).head (last_of has.first has.rest)) =
      vertex_is (head p d) (ends.head_from d d_in) (ends.head_to d d_in)
      ∙ ap (point_at x y) (sym (ap (dart_map b).head has.path.ends ∙ boxed.heads d d_in)) in
      ap (λ (q : Point). q ∷ (corners_at points (edge_number p d) ++ vertex_point points (head p d) ∷ [])) first
      ∙ ap (λ (qs : List Point). point_at x y ((dart_map b).head ((dart_map b).reverse_dart has.first)) ∷ (qs ++ vertex_point points (head p d) ∷ [])) (corners_are d d_in lesser)
      ∙ ap (λ (q : Point). point_at x y ((dart_map b).head ((dart_map b).reverse_dart has.first)) ∷ (map (point_at x y) (turning_vertices (dart_map b) has.first has.rest) ++ q ∷ [])) last

  pub first_goes : (d : ℕ) (d_in : d < darts p)
      → Goes ((dart_map b).direction (path_of d d_in).first) x y ((dart_map b).head ((dart_map b).reverse_dart (path_of d d_in).first)) ((dart_map b).head (path_of d d_in).first)
  first_goes d d_in =
      let has = path_of d d_in in
      dart_goes (dart_map b) boxed.boxes.sound x y monotone ((dart_map b).direction has.first) has.first has.path.first_in refl

  -- ---- axes and turns

  path_axes : (d : ℕ) → d < darts p → is_lesser p d ≡ true → IsOnAxes (path_along p points d)
  path_axes d d_in lesser =
      let has = path_of d d_in in
      subst IsOnAxes (sym (line_is d d_in lesser))
      (line_axes (dart_map b) boxed.boxes.sound x y monotone ((dart_map b).head ((dart_map b).reverse_dart has.first)) has.first has.rest
      has.path.first_in has.path.rest_in has.path.follows (first_goes d d_in))

  path_turning : (d : ℕ) → d < darts p → is_lesser p d ≡ true → IsTurning (path_along p points d) (turns_at shape d)
  path_turning d d_in lesser =
      let has = path_of d d_in in
      subst (λ (path : List Point). IsTurning path (turns_at shape d)) (sym (line_is d d_in lesser))
      (line_turning (dart_map b) boxed.boxes.sound x y monotone ((dart_map b).head ((dart_map b).reverse_dart has.first)) has.first has.rest (turns_at shape d)
      has.path.first_in has.path.rest_in has.path.follows (first_goes d d_in) has.turns)

  -- the direction in which a path sets out
  first_way : (d : ℕ) (d_in : d < darts p) → (dart_map b).direction (path_of d d_in).first ≡ ((dart_map b).direction (reverse_dart p d) + 2) % 4
  first_way d d_in =
      let has = path_of d d_in in
      let sound = boxed.boxes.sound in
      omega (arith, sound.straight has.first has.path.first_in, ap (dart_map b).direction has.back, sound.meeting.quarter has.first has.path.first_in)

  lesser_leaves : (d : ℕ) → d < darts p → is_lesser p d ≡ true → leaving p points d ≡ way_of (((dart_map b).direction (reverse_dart p d) + 2) % 4)
  lesser_leaves d d_in lesser =
      let has = path_of d d_in in
      leaving-lesser p points d lesser
      ∙ ap (λ (path : List Point). direction_of path 0) (line_is d d_in lesser)
      ∙ line_way (dart_map b) boxed.boxes.sound x y monotone ((dart_map b).head ((dart_map b).reverse_dart has.first)) has.first has.rest
      has.path.first_in has.path.rest_in has.path.follows (first_goes d d_in)
      ∙ ap way_of (first_way d d_in)

  reverse_leaves : (d : ℕ) → d < darts p → is_lesser p d ≡ true → leaving p points (reverse_dart p d) ≡ way_of (((dart_map b).direction d + 2) % 4)
  reverse_leaves d d_in lesser =
      let has = path_of d d_in in
      let u : ℕ = (dart_map b).head ((dart_map b).reverse_dart has.first) in
      let n : ℕ = length (map (point_at x y) (turning_vertices (dart_map b) has.first has.rest)) in
      let is = line_is d d_in lesser in
      let size : length (line_of d d_in) ≡ n + 2 =
      omega (arith, length-append (map (point_at x y) (turning_vertices (dart_map b) has.first has.rest)) (point_at x y ((dart_map b).head (last_of has.first has.rest)) ∷ [])) in
      leaving-reverse_dart p points d n (plane_ends p plane) d_in lesser (ap length is ∙ size)
      ∙ ap (λ (path : List Point). direction_between (point_of path (n + 1)) (point_of path n)) is
      ∙ line_back (dart_map b) boxed.boxes.sound x y monotone n u has.first has.rest has.path.first_in has.path.rest_in has.path.follows (first_goes d d_in) size
      ∙ ap (λ (e : ℕ). way_of (((dart_map b).direction e + 2) % 4)) has.path.ends

  -- a dart leaves in the direction opposite to that in which its reverse arrives in the boxes
  leaves : (d : ℕ) → d < darts p → leaving p points d ≡ way_of (((dart_map b).direction (reverse_dart p d) + 2) % 4)
  leaves d d_in =
      let ends = plane_ends p plane in
      let r : ℕ = reverse_dart p d in
      elim (cases_lt d r) [
        | inl less ↦ lesser_leaves d d_in (lt-ltb d r less)
        | inr more ↦
            let back = ends.reverse_dart_back d d_in in
            let lesser : is_lesser p r ≡ true = smaller d r (reverse_dart p r) more (ends.reverse_dart_apart d d_in) back in
            sym (ap (leaving p points) back) ∙ reverse_leaves r (ends.reverse_dart_in_range d d_in) lesser
      ]
    where
      smaller : (d r e : ℕ) → r ≤ d → (r ≡ d → ⊥) → e ≡ d → ltb r e ≡ true
      smaller d r e more other same = lt-ltb r e (omega (arith, more, other, same))

  turn_as_said : TurnAsSaid p shape points
  turn_as_said =
      let ends = plane_ends p plane in
      let q = boxed.boxes.sound.meeting.quarter in
      record {
        edges = (each_lesser (λ d. IsTurning (path_along p points d) (turns_at shape d)) p).1 path_turning;
        heads = λ d d_in.
            let r : ℕ = reverse_dart p d in
            let n : ℕ = next p d in
            let n_in = ends.next_one.inside d d_in in
            let m : ℕ = reverse_dart p n in
            let m_in = ends.reverse_dart_in_range n n_in in
            let k : ℕ = ((dart_map b).direction m + 2) % 4 in
            let turn : ((dart_map b).direction d + 2) % 4 ≡ (k + angle_at shape d) % 4 = omega (arith, boxed.angles d d_in) in
            leaves r (ends.reverse_dart_in_range d d_in)
            ∙ ap (λ (e : ℕ). way_of (((dart_map b).direction e + 2) % 4)) (ends.reverse_dart_back d d_in)
            ∙ ap way_of turn
            ∙ sym (ways_left (angle_at shape d) k (omega arith))
            ∙ ap (left_quarters (angle_at shape d)) (sym (leaves n n_in));
      }

  -- ---- what is met along an edge

  path_part : (d : ℕ) (d_in : d < darts p) (z : ℕ) → In z ((path_of d d_in).first ∷ (path_of d d_in).rest) → IsPart (dart_map b) d z
  path_part d d_in z here =
      let has = path_of d d_in in
      record { first = has.first; rest = has.rest; path = has.path; on = here }

  path_distinct : (d : ℕ) (d_in : d < darts p) → Distinct ((path_of d d_in).first ∷ (path_of d d_in).rest)
  path_distinct d d_in =
      let has = path_of d d_in in
      distinct_from (dart_map b).head (has.first ∷ has.rest) (boxed.apart.once d has.first has.rest d_in has.path).1

  -- each point between the ends of an edge is passed by a part of it, before its end
  path_met : (d : ℕ) → d < darts p → is_lesser p d ≡ true → (q : Point) → Contains (interior (path_along p points d)) q
      → (z : ℕ) × IsPart (dart_map b) d z × PassesAt (dart_map b) x y q.x q.y z × IsBefore (dart_map b) x y q.x q.y z d
  path_met d d_in lesser q within =
      let has = path_of d d_in in
      let end = has.path.ends in
      elim (line_met (dart_map b) boxed.boxes.sound x y monotone ((dart_map b).head ((dart_map b).reverse_dart has.first)) has.first has.rest q
      has.path.first_in has.path.rest_in has.path.follows (path_distinct d d_in) (first_goes d d_in)
      (subst (λ (path : List Point). Contains (interior path) q) (line_is d d_in lesser) within)) [
        | inl (passes, before) ↦
            (has.first, path_part d d_in has.first (inl refl), passes, λ ex ey e. before ex ey (e ∙ sym end))
        | inr (z, inside, passes, before) ↦
            (z, path_part d d_in z (inr inside), passes, λ ex ey e. before ex ey (e ∙ sym end))
      ]

  path_once : (d : ℕ) → d < darts p → is_lesser p d ≡ true → AreDistinct (interior (path_along p points d))
  path_once d d_in lesser =
      let has = path_of d d_in in
      let distinct = path_distinct d d_in in
      subst (λ (path : List Point). AreDistinct (interior path)) (sym (line_is d d_in lesser))
      (line_once (dart_map b) boxed.boxes.sound x y monotone (IsPart (dart_map b) d)
      (λ z c px py one two passes passes'. one_path p shape b plane boxed x y monotone d z c px py d_in one two passes passes')
      ((dart_map b).head ((dart_map b).reverse_dart has.first)) has.first has.rest (λ z. z ≡ has.first)
      has.path.first_in has.path.rest_in has.path.follows distinct (first_goes d d_in)
      (λ z at. path_part d d_in z (inl at))
      (λ z inside. path_part d d_in z (inr inside))
      (λ z c at inside e. distinct.0 (subst (λ (k : ℕ). In k has.rest) (sym e ∙ at) inside))
      (λ px py passes. (has.first, refl, passes)))

  -- ---- all points

  -- a lesser dart of the plane
  abbrev IsEdge : ℕ → Type 0
  IsEdge d = (d < darts p) × (is_lesser p d ≡ true)

  all_edges : All IsEdge (lesser_darts p)
  all_edges = (each_lesser IsEdge p).1 (λ d d_in lesser. (d_in, lesser))

  -- what is met along some edge of a list
  met_in : (ds : List ℕ) (q : Point) → Contains (flat_map interior (map (path_along p points) ds)) q
      → (e : ℕ) × Contains ds e × Contains (interior (path_along p points e)) q
  met_in [] q within = absurd (omega (arith, within.1))
  met_in (d ∷ ds) q within =
      elim (Contains-append_cases (interior (path_along p points d)) (flat_map interior (map (path_along p points) ds)) q within) [
        | inl first ↦ (d, (0, omega arith, refl), first)
        | inr later ↦
            let (e, (k, k_in, at), here) = met_in ds q later in
            (e, (suc k, omega (arith, k_in), at), here)
      ]

  two_edges : (d e : ℕ) → IsEdge d → IsEdge e → d < e → IsOneEdge p d e → ⊥
  two_edges d e (d_in, lesser) (e_in, lesser') less (inl same) = omega (arith, same, less)
  two_edges d e (d_in, lesser) (e_in, lesser') less (inr back) = omega (arith, ltb-true e (reverse_dart p e) lesser', back, less)

  edges_once : (ds : List ℕ) → All IsEdge ds → AllPairs (λ d e. d < e) ds → AreDistinct (flat_map interior (map (path_along p points) ds))
  edges_once [] all pairs = λ i j d less within same. absurd (omega (arith, within))
  edges_once (d ∷ ds) all pairs =
      let here : IsEdge d = All-head IsEdge d ds all in
      let rest : All IsEdge ds = All-tail IsEdge d ds all in
      no_repeat_append (interior (path_along p points d)) (flat_map interior (map (path_along p points) ds))
      (path_once d here.0 here.1)
      (edges_once ds rest (λ i j c less within. pairs (suc i) (suc j) c (omega (arith, less)) (omega (arith, within))))
      (λ q one others.
      let (e, (k, k_in, at), two) = met_in ds q others in
      let there : IsEdge e = All-contains IsEdge ds e rest (k, k_in, at) in
      let less : d < e = subst (λ (c : ℕ). d < c) at (pairs 0 (suc k) e (omega arith) (omega (arith, k_in))) in
      let (z, part, passes, before) = path_met d here.0 here.1 q one in
      let (c, part', passes', before') = path_met e there.0 there.1 q two in
      two_edges d e here there less
      (two_paths p shape b plane boxed x y monotone d e z c q.x q.y here.0 there.0 part part' passes before passes'))

  increasing : AllPairs (λ (d e : ℕ). d < e) (lesser_darts p)
  increasing =
      AllPairs-filter (λ (d e : ℕ). d < e) (is_lesser p) (range_with_len 0 (darts p))
      (λ i j d less within.
      let size = length-range_with_len 0 (darts p) in
      let first = get_or-range_with_len 0 (darts p) i d (omega arith) in
      let second = get_or-range_with_len 0 (darts p) j d (omega arith) in
      omega arith)

  -- vertex k has the point k
  point_k : (k : ℕ) (q : Point) → k < b.old → get_or points.vertices k q ≡ point_at x y k
  point_k k q k_in =
      ap (λ (ps : List Point). get_or ps k q) taken.vertices
      ∙ get_or-map-range_with_len (point_at x y) 0 b.old k k q k_in (omega arith)

  vertices_once : AreDistinct points.vertices
  vertices_once = λ i j q less within same.
      let j_in : j < b.old = omega (arith, within, taken.vertex_count) in
      let i_in : i < b.old = omega (arith, less, j_in) in
      let points_same : point_at x y i ≡ point_at x y j = sym (point_k i q i_in) ∙ same ∙ point_k j q j_in in
      let one : i ≡ j =
      vertex_one p shape b plane boxed x y monotone i j (omega (arith, i_in, boxed.old)) (omega (arith, j_in, boxed.old))
      (ap (λ (r : Point). r.x) points_same) (ap (λ (r : Point). r.y) points_same) in
      omega (arith, one, less)

  meet_nowhere : MeetNowhere points (paths p points)
  meet_nowhere =
      no_repeat_append points.vertices (flat_map interior (paths p points)) vertices_once (edges_once (lesser_darts p) all_edges increasing)
      (λ q vertex path.
      let (v, inside, at) = vertex in
      let v_in : v < b.old = omega (arith, inside, taken.vertex_count) in
      let is : point_at x y v ≡ q = sym (point_k v q v_in) ∙ at in
      let (e, among, met) = met_in (lesser_darts p) q path in
      let edge : IsEdge e = All-contains IsEdge (lesser_darts p) e all_edges among in
      let (z, part, passes, before) = path_met e edge.0 edge.1 (point_at x y v) (subst (λ (r : Point). Contains (interior (path_along p points e)) r) (sym is) met) in
      off_path p shape b plane boxed x y monotone e z v edge.0 (omega (arith, v_in, boxed.old)) part passes before)

  -- ---- the grid

  module _ (x_within : AreWithin b.vertices x) (y_within : AreWithin b.vertices y) where
    turns_within : (a : ℕ) (rest : List ℕ) → a < b.darts → Below b.darts rest → All IsInGrid (map (point_at x y) (turning_vertices (dart_map b) a rest))
    turns_within a [] a_in below = All-nil IsInGrid
    turns_within a (c ∷ cs) a_in below =
        let later = turns_within c cs below.0 below.1 in
        let t : ℕ = turn_to (dart_map b) a c in
        let v_in = boxed.boxes.sound.meeting.head_in a a_in in
        elim (cases_eq t 0) [
          | inl none ↦
              subst (λ (vs : List ℕ). All IsInGrid (map (point_at x y) vs))
              (sym (cond-true {A = List ℕ} (eqb t 0) (turning_vertices (dart_map b) c cs) ((dart_map b).head a ∷ turning_vertices (dart_map b) c cs) (eq-eqb t 0 none)))
              later
          | inr some ↦
              subst (λ (vs : List ℕ). All IsInGrid (map (point_at x y) vs))
              (sym (cond-false {A = List ℕ} (eqb t 0) (turning_vertices (dart_map b) c cs) ((dart_map b).head a ∷ turning_vertices (dart_map b) c cs) (ne_eqb t 0 some)))
              (All-cons IsInGrid (point_at x y ((dart_map b).head a)) (map (point_at x y) (turning_vertices (dart_map b) c cs)) (x_within ((dart_map b).head a) v_in, y_within ((dart_map b).head a) v_in) later)
        ]

    in_grid : AreInGrid points
    in_grid = record {
      ends = λ k q within.
          let k_in : k < b.old = omega (arith, within, taken.vertex_count) in
          let v_in : k < b.vertices = omega (arith, k_in, boxed.boxes.old_in) in
          subst IsInGrid (sym (point_k k q k_in)) (x_within k v_in, y_within k v_in);
      bends = λ e l within.
          let e_in : e < length b.edges = omega (arith, within, taken.count) in
          let edge = boxed.boxes.edges e e_in in
          subst (All IsInGrid) (sym (get_or_default points.corners e l [] within ∙ taken.corners e e_in edge))
          (turns_within edge.first edge.rest edge.path.first_in edge.path.rest_in);
    }

    pub draws : Draws p shape points
    draws = record {
      grid = in_grid;
      axes = (axes_each p points).1 path_axes;
      turns = turn_as_said;
      apart = meet_nowhere;
    }

-- where points draw the shape, no condition of a drawing fails
drawn_passes : (p : PlaneModel) (shape : ShapeModel) (points : PointsModel) → Draws p shape points → (fault : CheckFault)
    → IsFirstFault p shape points fault → fault ≡ Memory
drawn_passes p shape points drawn OutOfGrid first = absurd (first drawn.grid)
drawn_passes p shape points drawn NotAxis first = absurd (first.1 drawn.axes)
drawn_passes p shape points drawn WrongTurn first = absurd (first.2 drawn.turns)
drawn_passes p shape points drawn Meet first = absurd (first.3 drawn.apart)
drawn_passes p shape points drawn Memory first = refl

pub least_points_draw : (p : PlaneModel) (shape : ShapeModel) (b : BoxesModel) (points : PointsModel) → IsPlane p → IsBoxed p shape b
    → AreLeastPoints b points → Draws p shape points
least_points_draw p shape b points plane boxed laid =
    draws p shape b plane boxed laid.x laid.y laid.monotone points laid.taken laid.x_within laid.y_within

pub least_points_passed : (p : PlaneModel) (shape : ShapeModel) (b : BoxesModel) (points : PointsModel) → IsPlane p → IsBoxed p shape b
    → AreLeastPoints b points → (fault : CheckFault) → IsFirstFault p shape points fault → fault ≡ Memory
least_points_passed p shape b points plane boxed laid =
    drawn_passes p shape points (least_points_draw p shape b points plane boxed laid)
