-- A shape that prices prove has at most one bend for each edge and four for each inner face. Its bends are what the faces
-- turn by their prices, less what the angles take at the dearest face of each vertex. A tree on the vertices and one on
-- the faces, rooted at a vertex of the outer face and at the outer face, are all edges: each edge stands for the vertex or the
-- face that it leads to, of whose price its faces and ends are near.
use Rattle.std.proofs.Common.{◌≡◌, ◌≤◌, ◌<◌, ℕ, ◌+◌, ◌-◌, ◌*◌, ◌/◌, List, length, sym, ap, ◌∙◌, arith}
use Rattle.std.specs.Prelude.{ℤ}
use Rattle.common.specs.Sums.{sum_below}
use Rattle.common.proofs.Sums.{sum_below-same, sum_below-add, sum_below-times, sum_below-constant, sum_below-turned}
use Rattle.ortho_rep.specs.declared.turn_strings.Turn.{Turn}
use Rattle.embedding.proofs.Rotation.{darts_few}
use Rattle.faces.specs.Planes.{PlaneModel, IsPlane, HasEnds, darts, vertices, head, tail, reverse_dart, face_at}
use Rattle.faces.proofs.Ends.{plane_ends, seven_rules}
use Rattle.ortho_rep.specs.Shapes.{ShapeModel, angle_at, turns_at}
use Rattle.ortho_rep.specs.Representation.{Rep, IsLeast, bends_of}
use Rattle.ortho_rep.specs.Prices.{Prove}
use Rattle.ortho_rep.proofs.WeakDuality.{lefts_of, lengths-twice}
use Rattle.dissect.proofs.Trees.{Connections}
use Rattle.dissect.proofs.Vertices.{vertex_connections, face_connections, vertices_paired, faces_paired}
use Rattle.dissect.proofs.TreeCounts.{ups}
use Rattle.drawing_laws.proofs.StrongDuality.{prices_exist}
use Rattle.drawing_laws.specs.Bound.{bends, edges, bend_bound}
use Rattle.drawing_laws.proofs.Shifted.{AreFacePrices, face_prices}
use Rattle.drawing_laws.proofs.Dearest.{dearest, dearest-from, dearest-to, dearest-near, angles_worth, four_each}
use Rattle.drawing_laws.proofs.Balance.{balanced}
use Rattle.drawing_laws.proofs.OtherRoots.{connections_by, paired_by, trees}
use Rattle.drawing_laws.proofs.Weighing.{by_nodes, by_trees, up_le}

-- the prices of both faces of a dart and of the dearest ones at both ends
abbrev around : PlaneModel → (ℕ → ℕ) → ℕ → ℕ
around p y d = y (face_at p d) + y (face_at p (reverse_dart p d)) + dearest p y (head p d - 1) + dearest p y (tail p d - 1)

around_back : (p : PlaneModel) (y : ℕ → ℕ) → HasEnds p → (d : ℕ) → d < darts p → around p y (reverse_dart p d) ≡ around p y d
around_back p y ends d l =
    omega (
      arith,
      ap (λ (e : ℕ). y (face_at p e)) (ends.reverse_dart_back d l),
      ap (λ (v : ℕ). dearest p y (v - 1)) (ends.reverse_dart_head d l),
      ap (λ (v : ℕ). dearest p y (v - 1)) (ends.reverse_dart_tail d l),
    )

-- over all darts that is twice the prices of their faces and heads
around_all : (p : PlaneModel) (y : ℕ → ℕ) → HasEnds p
    → sum_below (darts p) (around p y) ≡ 2 * (sum_below (darts p) (λ d. y (face_at p d)) + sum_below (darts p) (λ d. dearest p y (head p d - 1)))
around_all p y ends =
    let n : ℕ = darts p in
    let own : ℕ → ℕ = λ d. y (face_at p d) in
    let over : ℕ → ℕ = λ d. y (face_at p (reverse_dart p d)) in
    let to : ℕ → ℕ = λ d. dearest p y (head p d - 1) in
    let from : ℕ → ℕ = λ d. dearest p y (tail p d - 1) in
    let across : sum_below n over ≡ sum_below n own = sum_below-turned n (reverse_dart p) own ends.reverse_dart_in_range ends.reverse_dart_back in
    let back : sum_below n from ≡ sum_below n to =
    sum_below-same n from (λ d. to (reverse_dart p d)) (λ d l. ap (λ (v : ℕ). dearest p y (v - 1)) (sym (ends.reverse_dart_head d l)))
    ∙ sum_below-turned n (reverse_dart p) to ends.reverse_dart_in_range ends.reverse_dart_back in
    omega (arith, across, back, sum_below-add n (λ d. own d + over d + to d) from, sum_below-add n (λ d. own d + over d) to, sum_below-add n own over)

-- a dart is near the dearest face at its head
near_head : (p : PlaneModel) (a : ℕ → ℕ) (s : ℕ → List Turn) (y : ℕ → ℕ) → IsPlane p → HasEnds p → AreFacePrices p a s y
    → (d : ℕ) → d < darts p → around p y d ≤ 4 * dearest p y (head p d - 1) + 1
near_head p a s y plane ends prices d l =
    let own : y (face_at p d) ≤ dearest p y (head p d - 1) = dearest-to p y plane ends d l in
    let over : y (face_at p (reverse_dart p d)) ≤ dearest p y (head p d - 1) =
    omega (arith, dearest-from p y (reverse_dart p d) (ends.reverse_dart_in_range d l), ap (λ (v : ℕ). dearest p y (v - 1)) (ends.reverse_dart_tail d l)) in
    omega (arith, own, over, dearest-near p a s y plane ends prices d (dearest p y (head p d - 1)) l own over)

-- and near its face
near_face : (p : PlaneModel) (a : ℕ → ℕ) (s : ℕ → List Turn) (y : ℕ → ℕ) → IsPlane p → HasEnds p → AreFacePrices p a s y
    → (d : ℕ) → d < darts p → around p y d ≤ 4 * y (face_at p d) + 5
near_face p a s y plane ends prices d l =
    let back = reverse_dart p d in
    let back_in = ends.reverse_dart_in_range d l in
    let over : y (face_at p back) ≤ y (face_at p d) + 1 = prices.near d l in
    let own : y (face_at p (reverse_dart p back)) ≤ y (face_at p d) + 1 = omega (arith, ap (λ (e : ℕ). y (face_at p e)) (ends.reverse_dart_back d l)) in
    omega (
      arith,
      over,
      dearest-near p a s y plane ends prices d (y (face_at p d) + 1) l (omega arith) over,
      dearest-near p a s y plane ends prices back (y (face_at p d) + 1) back_in over own,
      ap (λ (v : ℕ). dearest p y (v - 1)) (ends.reverse_dart_tail d l),
    )

-- the prices of all faces and heads, by the vertices and faces but for the two roots
by_roots : (p : PlaneModel) (a : ℕ → ℕ) (s : ℕ → List Turn) (y : ℕ → ℕ) → IsPlane p → HasEnds p → AreFacePrices p a s y
    → (vertex : ℕ) → vertex < vertices p
    → sum_below (darts p) (λ d. y (face_at p d)) + sum_below (darts p) (λ d. dearest p y (head p d - 1)) + 4 * dearest p y vertex + 4 * y p.outer + 6
    ≤ 4 * sum_below (vertices p) (dearest p y) + vertices p + 4 * sum_below p.faces y + 5 * p.faces
by_roots p a s y plane ends prices vertex inside =
    let t = trees p plane ends vertex p.outer inside plane.outer in
    let n : ℕ = darts p in
    let j : Connections = connections_by (vertex_connections p) t.allowed vertex in
    let k : Connections = connections_by (face_connections p (λ _. 0)) t.allowed' p.outer in
    let paired = paired_by (vertex_connections p) (reverse_dart p) t.allowed vertex (vertices_paired p ends) in
    let paired' = paired_by (face_connections p (λ _. 0)) (reverse_dart p) t.allowed' p.outer (faces_paired p (λ _. 0) ends) in
    let w : ℕ → ℕ = around p y in
    let at_vertex : ℕ → ℕ = λ v. 4 * dearest p y v + 1 in
    let at_face : ℕ → ℕ = λ f. 4 * y f + 5 in
    let half : sum_below n w ≤ 2 * (sum_below n (λ d. w d * ups j t.parent d) + sum_below n (λ d. w d * ups k t.parent' d)) =
    by_trees j k (reverse_dart p) t.parent t.parent' paired t.each w (around_back p y ends) in
    let heads : sum_below n (λ d. w d * ups j t.parent d) ≤ sum_below n (λ d. at_vertex (head p d - 1) * ups j t.parent d) =
    up_le j t.parent w at_vertex (λ d l up. near_head p a s y plane ends prices d l) in
    let faces : sum_below n (λ d. w d * ups k t.parent' d) ≤ sum_below n (λ d. at_face (face_at p d) * ups k t.parent' d) =
    up_le k t.parent' w at_face (λ d l up. near_face p a s y plane ends prices d l) in
    let of_heads : sum_below n (λ d. at_vertex (head p d - 1) * ups j t.parent d) + at_vertex vertex ≤ sum_below (vertices p) at_vertex =
    by_nodes j (reverse_dart p) (λ _. 0) t.rank t.parent t.base paired t.first inside at_vertex in
    let of_faces : sum_below n (λ d. at_face (face_at p d) * ups k t.parent' d) + at_face p.outer ≤ sum_below p.faces at_face =
    by_nodes k (reverse_dart p) (λ _. 0) t.rank' t.parent' t.base' paired' t.second plane.outer at_face in
    let vertices_all : sum_below (vertices p) at_vertex ≡ 4 * sum_below (vertices p) (dearest p y) + vertices p =
    each_more (vertices p) 4 1 (dearest p y) ∙ omega arith in
    let faces_all : sum_below p.faces at_face ≡ 4 * sum_below p.faces y + p.faces * 5 = each_more p.faces 4 5 y in
    omega (arith, half, heads, faces, of_heads, of_faces, vertices_all, faces_all, around_all p y ends)
  where
    each_more : (n c e : ℕ) (f : ℕ → ℕ) → sum_below n (λ i. c * f i + e) ≡ c * sum_below n f + n * e
    each_more n c e f = omega (arith, sum_below-add n (λ i. c * f i) (λ _. e), sum_below-times n c f, sum_below-constant n e)

-- the left turns of all darts
few_lefts : (p : PlaneModel) (a : ℕ → ℕ) (s : ℕ → List Turn) (y : ℕ → ℕ) → IsPlane p → HasEnds p → Rep p a s → AreFacePrices p a s y
    → sum_below (darts p) (lefts_of s) + 6 ≤ vertices p + 5 * p.faces
few_lefts p a s y plane ends rep prices =
    let (d, inside, face) = plane.faces.used p.outer plane.outer in
    let vertex : ℕ = tail p d - 1 in
    let at_outer : y p.outer ≤ dearest p y vertex = omega (arith, dearest-from p y d inside, ap y face) in
    omega (
      arith,
      at_outer,
      by_roots p a s y plane ends prices vertex (omega (arith, ends.tail_from d inside, ends.tail_to d inside)),
      balanced p a s y plane ends rep prices,
      angles_worth p a s y plane ends rep prices,
      four_each p a s ends rep (dearest p y),
    )

-- at most one bend for each edge and four for each inner face
pub few : (p : PlaneModel) (a : ℕ → ℕ) (s : ℕ → List Turn) (v q : ℕ → ℤ) → IsPlane p → Rep p a s → Prove p a s v q
    → bends_of (darts p) s ≤ darts p / 2 + 4 * (p.faces - 1)
few p a s v q plane rep prove =
    let ends = plane_ends p plane in
    let (y, prices) = face_prices p a s v q ends prove in
    let lefts : sum_below (darts p) (lefts_of s) + 6 ≤ vertices p + 5 * p.faces = few_lefts p a s y plane ends rep prices in
    let twice : sum_below (darts p) (λ d. length (s d)) ≡ 2 * sum_below (darts p) (lefts_of s) = lengths-twice p a s ends rep in
    omega (arith, lefts, twice, plane.euler, plane.outer)

-- ---- of a least shape

pub few_inner : (p : PlaneModel) (shape : ShapeModel) → IsPlane p → IsLeast p shape → bends p shape ≤ bend_bound p
few_inner p shape plane least =
    let (v, q, prove) = prices_exist p (angle_at shape) (turns_at shape) plane least in
    few p (angle_at shape) (turns_at shape) v q plane least.rep prove

pub few_five : (p : PlaneModel) (shape : ShapeModel) → IsPlane p → IsLeast p shape → bends p shape ≤ 5 * edges p
few_five p shape plane least =
    let ends = plane_ends p plane in
    omega (arith, few_inner p shape plane least, plane.euler, plane.outer, ends.tail_from 0 ends.some_darts, ends.tail_to 0 ends.some_darts)

pub few_six : (p : PlaneModel) (shape : ShapeModel) → IsPlane p → IsLeast p shape → bends p shape ≤ 6 * vertices p + 4
few_six p shape plane least =
    omega (arith, few_inner p shape plane least, plane.euler, plane.outer, darts_few p.lists (seven_rules p.lists plane.rules))
