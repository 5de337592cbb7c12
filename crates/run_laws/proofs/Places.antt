-- Each point between the ends of paths lies on one part of one path, and on no vertex.
use Rattle.std.proofs.Common.{◌≡◌, ℕ, zero, suc, ◌-◌, ◌<◌, ◌≤◌, ◌⊎◌, ◌∙◌, List, [], ◌∷◌, map, length, arith, subst, sym, ap, refl, inl, inr, true, Contains}
use Rattle.std.specs.List.{flat_map}
use Rattle.std.proofs.lemmas.Bool.{cases_eq, cases_lt}
use Rattle.std.proofs.lemmas.List.{get_or_default}
use Rattle.std.proofs.lemmas.List.FromFn.{length-map-range_with_len, get_or-map-range_with_len}
use Rattle.std.proofs.lemmas.List.Elements.{Contains-append_left, Contains-append_right, Contains-get_or}
use Rattle.faces.specs.Planes.{PlaneModel, darts, vertices}
use Rattle.ortho_rep.specs.declared.grid_points.Point.{Point}
use Rattle.ortho_rep.specs.Points.{PointsModel, origin, vertex_point}
use Rattle.ortho_rep.specs.Edges.{is_lesser, lesser_darts}
use Rattle.drawing_check.specs.Walks.{step_from, distance, walk, interior, AreDistinct}
use Rattle.drawing_check.specs.Paths.{path_along, paths, point_of}
use Rattle.drawing_check.specs.Draws.{MeetNowhere}
use Rattle.drawing_check.proofs.Coverings.{no_repeat_left, no_repeat_right, no_repeat_apart}
use Rattle.drawing_check.proofs.Routing.{each_lesser}

-- the point lies on part k of the path, after the beginning of that, and not at the end of the path
pub record Inner (path : List Point) (k : ℕ) (q : Point) : Type 0 where
  pub inside : suc k < length path
  pub steps : ℕ
  pub some : 1 ≤ steps
  pub most : steps ≤ distance (point_of path k) (point_of path (suc k))
  pub short : (suc (suc k) < length path) ⊎ (steps < distance (point_of path k) (point_of path (suc k)))
  pub at : step_from (point_of path k) (point_of path (suc k)) steps ≡ q

inner_rest : (a : Point) (path : List Point) (k : ℕ) (q : Point) → Inner (a ∷ path) (suc k) q → Inner path k q
inner_rest a path k q is = record {
  inside = omega (arith, is.inside);
  steps = is.steps;
  some = is.some;
  most = is.most;
  short = elim is.short [ inl more ↦ inl (omega (arith, more)) | inr less ↦ inr less ];
  at = is.at;
}

walk_has : (a b : Point) (n m : ℕ) (q : Point) → 1 ≤ m → m ≤ n → step_from a b m ≡ q → Contains (walk a b n) q
walk_has a b n m q some most at = (
  m - 1,
  omega (arith, some, most, length-map-range_with_len (step_from a b) 1 n),
  get_or-map-range_with_len (step_from a b) 1 n (m - 1) m q (omega (arith, some, most)) (omega (arith, some)) ∙ at,
)

inner_contains : (path : List Point) (k : ℕ) (q : Point) → Inner path k q → Contains (interior path) q
inner_contains [] k q is = absurd (omega (arith, is.inside))
inner_contains (a ∷ []) k q is = absurd (omega (arith, is.inside))
inner_contains (a ∷ b ∷ []) zero q is =
    elim is.short [
      | inl more ↦ absurd (omega (arith, more))
      | inr less ↦ walk_has a b (distance a b - 1) is.steps q is.some (omega (arith, less)) is.at
    ]
inner_contains (a ∷ b ∷ []) (suc k) q is = absurd (omega (arith, is.inside))
inner_contains (a ∷ b ∷ c ∷ rest) zero q is =
    Contains-append_left (walk a b (distance a b)) (interior (b ∷ c ∷ rest)) q (walk_has a b (distance a b) is.steps q is.some is.most is.at)
inner_contains (a ∷ b ∷ c ∷ rest) (suc k) q is =
    Contains-append_right (walk a b (distance a b)) (interior (b ∷ c ∷ rest)) q (inner_contains (b ∷ c ∷ rest) k q (inner_rest a (b ∷ c ∷ rest) k q is))

-- it lies on one part
inner_one : (path : List Point) (k l : ℕ) (q : Point) → AreDistinct (interior path) → Inner path k q → Inner path l q → k ≡ l
inner_one [] k l q apart one two = absurd (omega (arith, one.inside))
inner_one (a ∷ []) k l q apart one two = absurd (omega (arith, one.inside))
inner_one (a ∷ b ∷ []) k l q apart one two = omega (arith, one.inside, two.inside)
inner_one (a ∷ b ∷ c ∷ rest) zero zero q apart one two = refl
inner_one (a ∷ b ∷ c ∷ rest) zero (suc l) q apart one two =
    absurd (no_repeat_apart (walk a b (distance a b)) (interior (b ∷ c ∷ rest)) apart q
    (walk_has a b (distance a b) one.steps q one.some one.most one.at) (inner_contains (b ∷ c ∷ rest) l q (inner_rest a (b ∷ c ∷ rest) l q two)))
inner_one (a ∷ b ∷ c ∷ rest) (suc k) zero q apart one two =
    absurd (no_repeat_apart (walk a b (distance a b)) (interior (b ∷ c ∷ rest)) apart q
    (walk_has a b (distance a b) two.steps q two.some two.most two.at) (inner_contains (b ∷ c ∷ rest) k q (inner_rest a (b ∷ c ∷ rest) k q one)))
inner_one (a ∷ b ∷ c ∷ rest) (suc k) (suc l) q apart one two =
    ap suc (inner_one (b ∷ c ∷ rest) k l q (no_repeat_right (walk a b (distance a b)) (interior (b ∷ c ∷ rest)) apart)
    (inner_rest a (b ∷ c ∷ rest) k q one) (inner_rest a (b ∷ c ∷ rest) l q two))

-- ---- of several paths

either_has : {X : Type 0} (x y : X) (xs : List X) → Contains (x ∷ xs) y → (x ≡ y) ⊎ Contains xs y
either_has x y xs (zero, inside, at) = inl at
either_has x y xs (suc k, inside, at) = inr (k, omega (arith, inside), at)

none_has : {X : Type 0} (y : X) → Contains [] y → ⊥
none_has y (k, inside, at) = omega (arith, inside)

in_all : (f : ℕ → List Point) (ds : List ℕ) (d : ℕ) (q : Point) → Contains ds d → Contains (interior (f d)) q → Contains (flat_map interior (map f ds)) q
in_all f [] d q among here = absurd (none_has d among)
in_all f (c ∷ cs) d q among here =
    elim (either_has c d cs among) [
      | inl same ↦
          Contains-append_left (interior (f c)) (flat_map interior (map f cs)) q (subst (λ (e : ℕ). Contains (interior (f e)) q) (sym same) here)
      | inr later ↦ Contains-append_right (interior (f c)) (flat_map interior (map f cs)) q (in_all f cs d q later here)
    ]

one_edge : (f : ℕ → List Point) (ds : List ℕ) (d e : ℕ) (q : Point) → AreDistinct (flat_map interior (map f ds)) → Contains ds d → Contains ds e
    → Contains (interior (f d)) q → Contains (interior (f e)) q → d ≡ e
one_edge f [] d e q apart one two here there = absurd (none_has d one)
one_edge f (c ∷ cs) d e q apart one two here there =
    elim (either_has c d cs one) [
      | inl at ↦ elim (either_has c e cs two) [
        | inl at' ↦ sym at ∙ at'
        | inr later ↦
            absurd (no_repeat_apart (interior (f c)) (flat_map interior (map f cs)) apart q
            (subst (λ (k : ℕ). Contains (interior (f k)) q) (sym at) here) (in_all f cs e q later there))
      ]
      | inr before ↦ elim (either_has c e cs two) [
        | inl at' ↦
            absurd (no_repeat_apart (interior (f c)) (flat_map interior (map f cs)) apart q
            (subst (λ (k : ℕ). Contains (interior (f k)) q) (sym at') there) (in_all f cs d q before here))
        | inr later ↦ one_edge f cs d e q (no_repeat_right (interior (f c)) (flat_map interior (map f cs)) apart) before later here there
      ]
    ]

one_distinct : (f : ℕ → List Point) (ds : List ℕ) (d : ℕ) → AreDistinct (flat_map interior (map f ds)) → Contains ds d → AreDistinct (interior (f d))
one_distinct f [] d apart among = absurd (none_has d among)
one_distinct f (c ∷ cs) d apart among =
    elim (either_has c d cs among) [
      | inl same ↦
          subst (λ (e : ℕ). AreDistinct (interior (f e))) same (no_repeat_left (interior (f c)) (flat_map interior (map f cs)) apart)
      | inr later ↦ one_distinct f cs d (no_repeat_right (interior (f c)) (flat_map interior (map f cs)) apart) later
    ]

-- ---- of the paths of a plane

module _ (p : PlaneModel) (points : PointsModel) (apart : MeetNowhere points (paths p points)) where
  inner_apart : AreDistinct (flat_map interior (paths p points))
  inner_apart = no_repeat_right points.vertices (flat_map interior (paths p points)) apart

  among : (d : ℕ) → d < darts p → is_lesser p d ≡ true → Contains (lesser_darts p) d
  among d d_in lesser =
      (each_lesser (λ c. Contains (lesser_darts p) c) p).0 (λ k e inside. Contains-get_or (lesser_darts p) k e inside) d d_in lesser

  -- one edge and one part
  pub one_place : (d e k l : ℕ) (q : Point) → d < darts p → e < darts p → is_lesser p d ≡ true → is_lesser p e ≡ true
      → Inner (path_along p points d) k q → Inner (path_along p points e) l q → (d ≡ e) × (k ≡ l)
  one_place d e k l q d_in e_in lesser lesser' one two =
      let same : d ≡ e =
      one_edge (path_along p points) (lesser_darts p) d e q inner_apart (among d d_in lesser) (among e e_in lesser')
      (inner_contains (path_along p points d) k q one) (inner_contains (path_along p points e) l q two) in (
        same,
        inner_one (path_along p points e) k l q (one_distinct (path_along p points) (lesser_darts p) e inner_apart (among e e_in lesser'))
            (subst (λ (c : ℕ). Inner (path_along p points c) k q) same one) two,
      )

  module _ (whole : length points.vertices ≡ vertices p) where
    -- no vertex lies there
    pub vertex_off : (v d k : ℕ) → 1 ≤ v → v ≤ vertices p → d < darts p → is_lesser p d ≡ true
        → Inner (path_along p points d) k (vertex_point points v) → ⊥
    vertex_off v d k from to d_in lesser is =
        no_repeat_apart points.vertices (flat_map interior (paths p points)) apart (vertex_point points v)
        (v - 1, omega (arith, from, to, whole), get_or_default points.vertices (v - 1) (vertex_point points v) origin (omega (arith, from, to, whole)))
        (in_all (path_along p points) (lesser_darts p) d (vertex_point points v) (among d d_in lesser) (inner_contains (path_along p points d) k (vertex_point points v) is))

    -- nor two at one point
    pub vertex_one : (u v : ℕ) → 1 ≤ u → u ≤ vertices p → 1 ≤ v → v ≤ vertices p → vertex_point points u ≡ vertex_point points v → u ≡ v
    vertex_one u v from to from' to' same =
        let distinct : AreDistinct points.vertices = no_repeat_left points.vertices (flat_map interior (paths p points)) apart in
        elim (cases_eq u v) [
          | inl one ↦ one
          | inr other ↦ elim (cases_lt u v) [
            | inl less ↦ absurd (distinct (u - 1) (v - 1) origin (omega (arith, from, less)) (omega (arith, from', to', whole)) same)
            | inr more ↦ absurd (distinct (v - 1) (u - 1) origin (omega (arith, from', more, other)) (omega (arith, from, to, whole)) (sym same))
          ]
        ]
