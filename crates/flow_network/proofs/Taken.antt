-- Supplies of nodes from which what is given is taken, dart by dart.
use Rattle.std.proofs.Common.{◌≡◌, ◌≢◌, ℕ, ◌+◌, ◌-◌, ◌*◌, ◌^◌, ◌<◌, ◌≤◌, ◌==◌, if◌then◌else◌, Bool, true, false, List, length, get_or, set, length-set, get_or-set_same, get_or-set_other, ◌∙◌, refl, sym, ap, subst, inl, inr, arith}
use mir.Syntax.{w32}
use mir.Val.{SFits, of_z, to_z}
use Rattle.std.specs.Prelude.{ℤ, pos, negsuc, ◌+ℤ◌, ◌-ℤ◌, ◌≤ℤ◌, nat_abs}
use Rattle.std.proofs.lemmas.Bool.{cases_eq, cases_lt, eq-eqb, ne_eqb}
use Rattle.std.proofs.lemmas.Int.{ints}
use Rattle.common.specs.Sums.{sum_below}
use Rattle.common.proofs.Sums.{sum_below-more, sum_below-same, sum_below-le, sum_below-none, sum_below-add, sum_below-constant}
use Rattle.embedding.specs.declared.graphs.TheConstants.{MAX_DARTS}
use Rattle.faces.specs.Planes.{PlaneModel, IsPlane, HasEnds, darts, vertices, head, face_at, degree}
use Rattle.faces.proofs.Ends.{plane_ends}
use Rattle.faces.proofs.Degrees.{degree_few}
use Rattle.flow_network.specs.declared.given_shape.TheConstants.{MAX_GIVEN_TURNS}
use Rattle.flow_network.specs.Given.{GivenModel, CanBeGiven, angle_given, turns_given, beyond_first, lefts_given}
use Rattle.flow_network.specs.FaceNet.{vertex_degree, beyond_at_vertex, beyond_in_face, lefts_in_face, vertex_has_to_turn, face_has_to_turn}
use Rattle.flow_network.proofs.GivenParts.{left_part, right_part, lefts_parts, both_parts, abs_le, beyond_first_few, turns_few, lefts_of_face, rights_of_face, face_parts}
use Rattle.flow_network.proofs.OuterSet.{same_test}
use Rattle.flow_network.proofs.VertexDegrees.{arrivals_most}

-- what dart d adds to node k, and what it takes from it
abbrev pub added_at : PlaneModel → GivenModel → ℕ → ℕ → ℕ
added_at p given k d = if vertices p + face_at p d == k then beyond_first (angle_given given d) + right_part (turns_given p given d) else 0

abbrev pub taken_at : PlaneModel → GivenModel → ℕ → ℕ → ℕ
taken_at p given k d =
    (if head p d - 1 == k then beyond_first (angle_given given d) else 0)
    + (if vertices p + face_at p d == k then left_part (turns_given p given d) else 0)

-- the first n darts are taken from the supplies
pub record AreTaken (p : PlaneModel) (given : GivenModel) (old xs : List ℤ) (n : ℕ) : Type 0 where
  pub size : length xs ≡ length old
  pub each : (k : ℕ) → k < length old → get_or xs k (pos 0) ≡ get_or old k (pos 0) +ℤ pos (sum_below n (added_at p given k)) -ℤ pos (sum_below n (taken_at p given k))

pub none_taken : (p : PlaneModel) (given : GivenModel) (old : List ℤ) → AreTaken p given old old 0
none_taken p given old = record { size = refl; each = λ k l. even (get_or old k (pos 0)) }
  where
    even : (z : ℤ) → z ≡ z +ℤ pos 0 -ℤ pos 0
    even z = omega (arith, ints)

-- a number that is put at place j, and what each place has then
put : (xs : List ℤ) (j : ℕ) (z : ℤ) (x y : ℕ) (k : ℕ) → j < length xs → z ≡ get_or xs j (pos 0) +ℤ pos x -ℤ pos y →
    get_or (set xs j z) k (pos 0) ≡ get_or xs k (pos 0) +ℤ pos (if j == k then x else 0) -ℤ pos (if j == k then y else 0)
put xs j z x y k b is =
    elim (cases_eq k j) [
      | inl e ↦
          here (get_or (set xs j z) k (pos 0)) z (get_or xs j (pos 0)) (get_or xs k (pos 0)) (j == k) x y (eq-eqb j k (sym e))
          (ap (λ (i : ℕ). get_or (set xs j z) i (pos 0)) e ∙ get_or-set_same xs j z (pos 0) b) is (ap (λ (i : ℕ). get_or xs i (pos 0)) e)
      | inr ne ↦
          there (get_or (set xs j z) k (pos 0)) (get_or xs k (pos 0)) (j == k) x y (ne_eqb j k (λ e. ne (sym e))) (get_or-set_other xs j k z (pos 0) ne)
    ]
  where
    here : (w z a a' : ℤ) (c : Bool) (x y : ℕ) → c ≡ true → w ≡ z → z ≡ a +ℤ pos x -ℤ pos y → a' ≡ a → w ≡ a' +ℤ pos (if c then x else 0) -ℤ pos (if c then y else 0)
    here w z a a' true x y on e f g = omega (arith, ints)
    here w z a a' false x y on e f g = cc

    there : (w a : ℤ) (c : Bool) (x y : ℕ) → c ≡ false → w ≡ a → w ≡ a +ℤ pos (if c then x else 0) -ℤ pos (if c then y else 0)
    there w a true x y off e = cc
    there w a false x y off e = omega (arith, ints)

-- one more dart
pub taken_next : (p : PlaneModel) (given : GivenModel) (old xs : List ℤ) (n v f : ℕ) (y z : ℤ) → AreTaken p given old xs n → v < length xs → f < length xs →
    v ≡ head p n - 1 → f ≡ vertices p + face_at p n →
    y ≡ get_or xs v (pos 0) -ℤ pos (beyond_first (angle_given given n)) →
    z ≡ get_or (set xs v y) f (pos 0) +ℤ (pos (beyond_first (angle_given given n)) -ℤ lefts_given (turns_given p given n)) →
    AreTaken p given old (set (set xs v y) f z) (n + 1)
taken_next p given old xs n v f y z taken v_in f_in at_v at_f y_is z_is = record {
  size = length-set (set xs v y) f z ∙ length-set xs v y ∙ taken.size;
  each = λ k l.
      let b : ℕ = beyond_first (angle_given given n) in
      let l_n : ℕ = left_part (turns_given p given n) in
      let r_n : ℕ = right_part (turns_given p given n) in
      let first : get_or (set xs v y) k (pos 0) ≡ get_or xs k (pos 0) +ℤ pos (if v == k then 0 else 0) -ℤ pos (if v == k then b else 0) =
      put xs v y 0 b k v_in (less y (get_or xs v (pos 0)) b y_is) in
      let second : get_or (set (set xs v y) f z) k (pos 0) ≡ get_or (set xs v y) k (pos 0) +ℤ pos (if f == k then b + r_n else 0) -ℤ pos (if f == k then l_n else 0) =
      put (set xs v y) f z (b + r_n) l_n k (omega (arith, length-set xs v y, f_in)) (parted z (get_or (set xs v y) f (pos 0)) (lefts_given (turns_given p given n)) b l_n r_n z_is (lefts_parts (turns_given p given n))) in
      let added : (if f == k then b + r_n else 0) ≡ added_at p given k n = ap (λ (j : ℕ). if j == k then b + r_n else 0) at_f in
      let at_face : (if f == k then l_n else 0) ≡ (if vertices p + face_at p n == k then l_n else 0) = ap (λ (j : ℕ). if j == k then l_n else 0) at_f in
      let at_vertex : (if v == k then b else 0) ≡ (if head p n - 1 == k then b else 0) = ap (λ (j : ℕ). if j == k then b else 0) at_v in
      close (get_or (set (set xs v y) f z) k (pos 0)) (get_or (set xs v y) k (pos 0)) (get_or xs k (pos 0)) (get_or old k (pos 0))
      (if v == k then 0 else 0) (if v == k then b else 0) (if f == k then b + r_n else 0) (if f == k then l_n else 0)
      (sum_below n (added_at p given k)) (sum_below n (taken_at p given k)) (sum_below (n + 1) (added_at p given k)) (sum_below (n + 1) (taken_at p given k))
      first second (taken.each k l) (nothing (v == k))
      (sum_below-more n (added_at p given k) ∙ ap (λ (i : ℕ). sum_below n (added_at p given k) + i) (sym added))
      (omega (arith, sum_below-more n (taken_at p given k), at_face, at_vertex));
}
  where
    less : (y a : ℤ) (b : ℕ) → y ≡ a -ℤ pos b → y ≡ a +ℤ pos 0 -ℤ pos b
    less y a b e = omega (arith, ints)

    parted : (z a t : ℤ) (b l r : ℕ) → z ≡ a +ℤ (pos b -ℤ t) → t ≡ pos l -ℤ pos r → z ≡ a +ℤ pos (b + r) -ℤ pos l
    parted z a t b l r e f = omega (arith, ints)

    nothing : (c : Bool) → ◌≡◌ {A = ℕ} (if c then 0 else 0) 0
    nothing true = refl
    nothing false = refl

    close : (z y x a : ℤ) (none took_v add took_f sa st ma mt : ℕ) → y ≡ x +ℤ pos none -ℤ pos took_v → z ≡ y +ℤ pos add -ℤ pos took_f → x ≡ a +ℤ pos sa -ℤ pos st → none ≡ 0 →
        ma ≡ sa + add → mt ≡ st + (took_v + took_f) → z ≡ a +ℤ pos ma -ℤ pos mt
    close z y x a none took_v add took_f sa st ma mt e1 e2 e3 e4 e5 e6 = omega (arith, ints)

-- ---- where nothing is taken yet

-- what nodes supply where nothing is given
pub record ArePlain (p : PlaneModel) (old : List ℤ) : Type 0 where
  pub nodes : length old ≡ vertices p + p.faces
  pub at_vertex : (v : ℕ) → 1 ≤ v → v ≤ vertices p → get_or old (v - 1) (pos 0) ≡ pos 4 -ℤ pos (vertex_degree p v)
  pub at_face : (f : ℕ) → f < p.faces → get_or old (vertices p + f) (pos 0) ≡ (if f == p.outer then negsuc 3 else pos 4) -ℤ pos (degree p f)

plain_bound : (p : PlaneModel) (old : List ℤ) → IsPlane p → ArePlain p old → (k : ℕ) → k < length old → ((pos 0 -ℤ pos (MAX_DARTS + 4)) ≤ℤ get_or old k (pos 0)) × (get_or old k (pos 0) ≤ℤ pos 4)
plain_bound p old plane plain k l =
    let ends = plane_ends p plane in
    elim (cases_lt k (vertices p)) [
      | inl vertex ↦
          let back : k + 1 - 1 ≡ k = omega arith in
          at_vertex (get_or old k (pos 0)) (vertex_degree p (k + 1))
          (subst (λ (j : ℕ). get_or old j (pos 0) ≡ pos 4 -ℤ pos (vertex_degree p (k + 1))) back (plain.at_vertex (k + 1) (omega arith) (omega arith)))
          (arrivals_most p plane (k + 1))
      | inr face ↦
          let f : ℕ = k - vertices p in
          let at : vertices p + f ≡ k = omega arith in
          at_face (f == p.outer) (get_or old k (pos 0)) (degree p f)
          (subst (λ (j : ℕ). get_or old j (pos 0) ≡ (if f == p.outer then negsuc 3 else pos 4) -ℤ pos (degree p f)) at (plain.at_face f (omega (arith, plain.nodes))))
          (omega (arith, degree_few (darts p) (face_at p) f, ends.few_darts))
    ]
  where
    at_vertex : (z : ℤ) (k : ℕ) → z ≡ pos 4 -ℤ pos k → k ≤ 4 → ((pos 0 -ℤ pos (MAX_DARTS + 4)) ≤ℤ z) × (z ≤ℤ pos 4)
    at_vertex z k is few = (omega (arith, ints), omega (arith, ints))

    at_face : (b : Bool) (z : ℤ) (k : ℕ) → z ≡ (if b then negsuc 3 else pos 4) -ℤ pos k → k ≤ MAX_DARTS → ((pos 0 -ℤ pos (MAX_DARTS + 4)) ≤ℤ z) × (z ≤ℤ pos 4)
    at_face true z k is few = (omega (arith, ints), omega (arith, ints))
    at_face false z k is few = (omega (arith, ints), omega (arith, ints))

-- no dart adds or takes more than three right angles and all turns
pub taken_bound : (p : PlaneModel) (given : GivenModel) (old xs : List ℤ) (n : ℕ) → IsPlane p → CanBeGiven given.angles given.turns → ArePlain p old → AreTaken p given old xs n → (k : ℕ) → k < length xs →
    ((pos 0 -ℤ pos (MAX_DARTS + 4 + n * (MAX_GIVEN_TURNS + 3))) ≤ℤ get_or xs k (pos 0)) × (get_or xs k (pos 0) ≤ℤ pos (4 + n * (MAX_GIVEN_TURNS + 3)))
taken_bound p given old xs n plane can plain taken k l =
    let inside : k < length old = omega (arith, l, taken.size) in
    let m : ℕ = MAX_GIVEN_TURNS + 3 in
    let beyond = beyond_first_few given can in
    let turns = turns_few p given can in
    let added : sum_below n (added_at p given k) ≤ n * m =
    omega (
      arith,
      sum_below-constant n m,
      sum_below-le n (added_at p given k) (λ _. m) (λ d _. one (vertices p + face_at p d == k) (beyond_first (angle_given given d)) (right_part (turns_given p given d))
          (beyond d) (omega (arith, both_parts (turns_given p given d), turns d))),
    ) in
    let took : sum_below n (taken_at p given k) ≤ n * m =
    omega (
      arith,
      sum_below-constant n m,
      sum_below-le n (taken_at p given k) (λ _. m) (λ d _. two (head p d - 1 == k) (vertices p + face_at p d == k) (beyond_first (angle_given given d)) (left_part (turns_given p given d))
          (beyond d) (omega (arith, both_parts (turns_given p given d), turns d))),
    ) in
    close (get_or xs k (pos 0)) (get_or old k (pos 0)) (sum_below n (added_at p given k)) (sum_below n (taken_at p given k)) (n * m) (taken.each k inside) (plain_bound p old plane plain k inside) added took
  where
    one : (c : Bool) (b r : ℕ) → b ≤ 3 → r ≤ MAX_GIVEN_TURNS → (if c then b + r else 0) ≤ MAX_GIVEN_TURNS + 3
    one true b r few less = omega (arith, few, less)
    one false b r few less = omega arith

    two : (c e : Bool) (b l : ℕ) → b ≤ 3 → l ≤ MAX_GIVEN_TURNS → (if c then b else 0) + (if e then l else 0) ≤ MAX_GIVEN_TURNS + 3
    two true true b l few less = omega (arith, few, less)
    two true false b l few less = omega (arith, few, less)
    two false true b l few less = omega (arith, few, less)
    two false false b l few less = omega arith

    close : (z a : ℤ) (x y m : ℕ) → z ≡ a +ℤ pos x -ℤ pos y → ((pos 0 -ℤ pos (MAX_DARTS + 4)) ≤ℤ a) × (a ≤ℤ pos 4) → x ≤ m → y ≤ m →
        ((pos 0 -ℤ pos (MAX_DARTS + 4 + m)) ≤ℤ z) × (z ≤ℤ pos (4 + m))
    close z a x y m is near few less =
        let low = near.0 in
        let high = near.1 in
        (omega (arith, ints), omega (arith, ints))

-- ---- they fit 32 bits

abbrev pub IsNear : ℤ → Type 0
IsNear z = ((pos 0 -ℤ pos (2 ^ 30)) ≤ℤ z) × (z ≤ℤ pos (2 ^ 30))

pub taken_near : (p : PlaneModel) (given : GivenModel) (old xs : List ℤ) (n : ℕ) → IsPlane p → CanBeGiven given.angles given.turns → ArePlain p old → AreTaken p given old xs n → n ≤ MAX_DARTS → (k : ℕ) → k < length xs → IsNear (get_or xs k (pos 0))
taken_near p given old xs n plane can plain taken few k l = close (get_or xs k (pos 0)) n few (taken_bound p given old xs n plane can plain taken k l)
  where
    close : (z : ℤ) (n : ℕ) → n ≤ MAX_DARTS → ((pos 0 -ℤ pos (MAX_DARTS + 4 + n * (MAX_GIVEN_TURNS + 3))) ≤ℤ z) × (z ≤ℤ pos (4 + n * (MAX_GIVEN_TURNS + 3))) → IsNear z
    close z n few (low, high) = (omega (arith, ints), omega (arith, ints))

pub difference_fits : (a b : ℤ) (k : ℕ) → IsNear a → b ≡ pos k → k ≤ 3 → SFits w32 (to_z w32 (of_z w32 a) -ℤ to_z w32 (of_z w32 b))
difference_fits a b k (low, high) is few = grind (arith, ints)

pub difference_is : (a b : ℤ) (k : ℕ) → IsNear a → b ≡ pos k → k ≤ 3 → to_z w32 (of_z w32 (to_z w32 (of_z w32 a) -ℤ to_z w32 (of_z w32 b))) ≡ a -ℤ pos k
difference_is a b k (low, high) is few = omega (arith, ints)

-- right angles less turns
pub gain_fits : (b t : ℤ) (k : ℕ) → b ≡ pos k → k ≤ 3 → nat_abs t ≤ MAX_GIVEN_TURNS → SFits w32 (to_z w32 (of_z w32 b) -ℤ to_z w32 (of_z w32 t))
gain_fits b t k is few turns =
    let low = (abs_le t MAX_GIVEN_TURNS turns).0 in
    let high = (abs_le t MAX_GIVEN_TURNS turns).1 in
    grind (arith, ints)

pub sum_fits : (a b t : ℤ) (k : ℕ) → IsNear a → b ≡ pos k → k ≤ 3 → nat_abs t ≤ MAX_GIVEN_TURNS → SFits w32 (to_z w32 (of_z w32 a) +ℤ to_z w32 (of_z w32 (to_z w32 (of_z w32 b) -ℤ to_z w32 (of_z w32 t))))
sum_fits a b t k (low, high) is few turns =
    let least = (abs_le t MAX_GIVEN_TURNS turns).0 in
    let most = (abs_le t MAX_GIVEN_TURNS turns).1 in
    grind (arith, ints)

pub sum_is : (a b t u : ℤ) (k : ℕ) → IsNear a → b ≡ pos k → k ≤ 3 → t ≡ u → nat_abs u ≤ MAX_GIVEN_TURNS →
    to_z w32 (of_z w32 (to_z w32 (of_z w32 a) +ℤ to_z w32 (of_z w32 (to_z w32 (of_z w32 b) -ℤ to_z w32 (of_z w32 t))))) ≡ a +ℤ (pos k -ℤ u)
sum_is a b t u k (low, high) is few same turns =
    let least = (abs_le u MAX_GIVEN_TURNS turns).0 in
    let most = (abs_le u MAX_GIVEN_TURNS turns).1 in
    omega (arith, ints)

-- the node of a vertex is none of a face
pub written_near : (xs : List ℤ) (v f : ℕ) (y : ℤ) → v ≢ f → IsNear (get_or xs f (pos 0)) → IsNear (get_or (set xs v y) f (pos 0))
written_near xs v f y apart near = subst IsNear (sym (get_or-set_other xs v f y (pos 0) (λ e. apart (sym e)))) near

-- ---- what one vertex has to turn

pub units_fit : (u b : ℤ) (k s n : ℕ) → u ≡ pos 4 -ℤ pos k -ℤ pos s → (pos 0 -ℤ pos (251 + 3 * n)) ≤ℤ u → n ≤ MAX_DARTS → pos 0 ≤ℤ b → b ≤ℤ pos 3 → SFits w32 (u -ℤ to_z w32 (of_z w32 b))
units_fit u b k s n sum low few some most = grind (arith, ints)

pub units_next : (u b : ℤ) (k s s' x n : ℕ) → u ≡ pos 4 -ℤ pos k -ℤ pos s → (pos 0 -ℤ pos (251 + 3 * n)) ≤ℤ u → n ≤ MAX_DARTS → b ≡ pos x → b ≤ℤ pos 3 → s' ≡ s + x →
    (to_z w32 (of_z w32 (u -ℤ to_z w32 (of_z w32 b))) ≡ pos 4 -ℤ pos k -ℤ pos s') × ((pos 0 -ℤ pos (251 + 3 * (n + 1))) ≤ℤ to_z w32 (of_z w32 (u -ℤ to_z w32 (of_z w32 b))))
units_next u b k s s' x n sum low few is most more = (omega (arith, ints), omega (arith, ints))

-- ---- once all darts are taken

pub taken_vertex : (p : PlaneModel) (given : GivenModel) (old xs : List ℤ) → HasEnds p → ArePlain p old → AreTaken p given old xs (darts p) → (v : ℕ) → 1 ≤ v → v ≤ vertices p →
    get_or xs (v - 1) (pos 0) ≡ vertex_has_to_turn p given v
taken_vertex p given old xs ends plain taken v some most =
    let n : ℕ = darts p in
    let k : ℕ = v - 1 in
    let b : ℕ → ℕ = λ d. beyond_first (angle_given given d) in
    let no_face : (d : ℕ) → (vertices p + face_at p d == k) ≡ false = λ d. ne_eqb (vertices p + face_at p d) k (λ e. omega (arith, e, some, most)) in
    let added : sum_below n (added_at p given k) ≡ 0 =
    sum_below-none n (added_at p given k) (λ d _. nothing (vertices p + face_at p d == k) (b d + right_part (turns_given p given d)) (no_face d)) in
    let took : sum_below n (taken_at p given k) ≡ beyond_at_vertex p given v =
    sum_below-same n (taken_at p given k) (λ d. if head p d == v then b d else 0)
    (λ d l. only (head p d - 1 == k) (head p d == v) (vertices p + face_at p d == k) (b d) (left_part (turns_given p given d)) (alike (head p d) v (ends.head_from d l) some) (no_face d)) in
    close (get_or xs k (pos 0)) (get_or old k (pos 0)) (vertex_degree p v) (sum_below n (added_at p given k)) (sum_below n (taken_at p given k)) (beyond_at_vertex p given v)
    (taken.each k (omega (arith, plain.nodes, some, most))) (plain.at_vertex v some most) added took
  where
    nothing : (c : Bool) (x : ℕ) → c ≡ false → (if c then x else 0) ≡ 0
    nothing true x off = cc
    nothing false x off = refl

    only : (c e f : Bool) (b l : ℕ) → c ≡ e → f ≡ false → (if c then b else 0) + (if f then l else 0) ≡ (if e then b else 0)
    only true true true b l same off = cc
    only true true false b l same off = omega arith
    only true false f b l same off = cc
    only false true f b l same off = cc
    only false false true b l same off = cc
    only false false false b l same off = omega arith

    alike : (h v : ℕ) → 1 ≤ h → 1 ≤ v → (h - 1 == v - 1) ≡ (h == v)
    alike h v one some =
        elim (cases_eq h v) [
          | inl e ↦ eq-eqb (h - 1) (v - 1) (omega (arith, e)) ∙ sym (eq-eqb h v e)
          | inr ne ↦ ne_eqb (h - 1) (v - 1) (λ e. ne (omega (arith, e, one, some))) ∙ sym (ne_eqb h v ne)
        ]

    close : (z a : ℤ) (k x y b : ℕ) → z ≡ a +ℤ pos x -ℤ pos y → a ≡ pos 4 -ℤ pos k → x ≡ 0 → y ≡ b → z ≡ pos 4 -ℤ pos k -ℤ pos b
    close z a k x y b e f none same = omega (arith, ints)

pub taken_face : (p : PlaneModel) (given : GivenModel) (old xs : List ℤ) → HasEnds p → ArePlain p old → AreTaken p given old xs (darts p) → (f : ℕ) → f < p.faces →
    get_or xs (vertices p + f) (pos 0) ≡ face_has_to_turn p given f
taken_face p given old xs ends plain taken f f_in =
    let n : ℕ = darts p in
    let k : ℕ = vertices p + f in
    let b : ℕ → ℕ = λ d. beyond_first (angle_given given d) in
    let ls : ℕ → ℕ = λ d. left_part (turns_given p given d) in
    let rs : ℕ → ℕ = λ d. right_part (turns_given p given d) in
    let added : sum_below n (added_at p given k) ≡ beyond_in_face p given f + rights_of_face p given f =
    sum_below-same n (added_at p given k) (λ d. (if face_at p d == f then b d else 0) + (if face_at p d == f then rs d else 0))
    (λ d _. both (vertices p + face_at p d == k) (face_at p d == f) (b d) (rs d) (same_test (vertices p) (face_at p d) f))
    ∙ sum_below-add n (λ d. if face_at p d == f then b d else 0) (λ d. if face_at p d == f then rs d else 0) in
    let took : sum_below n (taken_at p given k) ≡ lefts_of_face p given f =
    sum_below-same n (taken_at p given k) (λ d. if face_at p d == f then ls d else 0)
    (λ d l. only (head p d - 1 == k) (vertices p + face_at p d == k) (face_at p d == f) (b d) (ls d)
    (ne_eqb (head p d - 1) k (λ e. omega (arith, e, ends.head_from d l, ends.head_to d l))) (same_test (vertices p) (face_at p d) f)) in
    close (get_or xs k (pos 0)) (get_or old k (pos 0)) (if f == p.outer then negsuc 3 else pos 4) (lefts_in_face p given f) (degree p f)
    (sum_below n (added_at p given k)) (sum_below n (taken_at p given k)) (beyond_in_face p given f) (lefts_of_face p given f) (rights_of_face p given f)
    (taken.each k (omega (arith, plain.nodes, f_in))) (plain.at_face f f_in) added took (face_parts p given f)
  where
    both : (c e : Bool) (b r : ℕ) → c ≡ e → (if c then b + r else 0) ≡ (if e then b else 0) + (if e then r else 0)
    both true true b r same = refl
    both true false b r same = cc
    both false true b r same = cc
    both false false b r same = refl

    only : (c f e : Bool) (b l : ℕ) → c ≡ false → f ≡ e → (if c then b else 0) + (if f then l else 0) ≡ (if e then l else 0)
    only true f e b l off same = cc
    only false true true b l off same = omega arith
    only false true false b l off same = cc
    only false false true b l off same = cc
    only false false false b l off same = omega arith

    close : (z a turn t : ℤ) (k x y b l r : ℕ) → z ≡ a +ℤ pos x -ℤ pos y → a ≡ turn -ℤ pos k → x ≡ b + r → y ≡ l → t ≡ pos l -ℤ pos r → z ≡ turn -ℤ pos k +ℤ pos b -ℤ t
    close z a turn t k x y b l r e f g h i = omega (arith, ints)
