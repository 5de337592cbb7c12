-- Each orthogonal representation of a plane gives its darts directions.
use Rattle.std.proofs.Common.{◌≡◌, ◌<◌, ℕ, ◌+◌, ◌-◌, ◌*◌, ◌%◌, true, List, refl, sym, ap, ◌∙◌, subst, inl, inr, arith}
use Rattle.std.proofs.lemmas.Bool.{not-true}
use Rattle.faces.specs.Planes.{PlaneModel, IsPlane, HasEnds, darts, vertices, head, tail, reverse_dart, next, face_at}
use Rattle.faces.proofs.Ends.{plane_ends}
use Rattle.ortho_rep.specs.declared.turn_strings.Turn.{Turn}
use Rattle.ortho_rep.specs.Turns.{lefts, rights}
use Rattle.ortho_rep.specs.Representation.{Rep}
use Rattle.dissect.specs.Directions.{AreDirections}
use Rattle.dissect.proofs.Reordered.{sum_at, sum_at-add, sum_at-times, sum_at-same, sum_at-four, reordered_at}
use Rattle.dissect.proofs.Trees.{IsTree, Tree, tree}
use Rattle.dissect.proofs.Peeling.{IsUp, nothing}
use Rattle.dissect.proofs.TreeCounts.{in_tree, tree_from, spanned}
use Rattle.dissect.proofs.Vertices.{vertex_connections, face_connections, vertices_paired, faces_paired, vertices_connect}
use Rattle.dissect.proofs.Crossings.{faces_connect, arrives_next, arrives_there}
use Rattle.dissect.proofs.Corners.{lacks, lacks_next}
use Rattle.dissect.proofs.Potential.{gap, gap_pairs, gap_round}

-- how far a dart is from what its string asks, where its tail and its head have the values of `base`
abbrev over : PlaneModel → (ℕ → ℕ) → (ℕ → List Turn) → (ℕ → ℕ) → ℕ → ℕ
over p a s base d = (base (tail p d - 1) + gap p a s d + 3 * base (head p d - 1)) % 4

over_pairs : (p : PlaneModel) (a : ℕ → ℕ) (s : ℕ → List Turn) (base : ℕ → ℕ) → HasEnds p → Rep p a s → (d : ℕ) → d < darts p
    → (over p a s base d + over p a s base (reverse_dart p d)) % 4 ≡ 0
over_pairs p a s base ends rep d l =
    close (base (tail p d - 1)) (base (head p d - 1)) (base (tail p (reverse_dart p d) - 1)) (base (head p (reverse_dart p d) - 1)) (gap p a s d) (gap p a s (reverse_dart p d))
    (ap (λ (v : ℕ). base (v - 1)) (ends.reverse_dart_tail d l)) (ap (λ (v : ℕ). base (v - 1)) (ends.reverse_dart_head d l)) (gap_pairs p a s ends rep d l)
  where
    close : (x y x' y' g g' : ℕ) → x' ≡ y → y' ≡ x → (g + g') % 4 ≡ 0 → ((x + g + 3 * y) % 4 + (x' + g' + 3 * y') % 4) % 4 ≡ 0
    close x y x' y' g g' e1 e2 e3 = omega arith

-- round a face that sums to a multiple of four
over_round : (p : PlaneModel) (a : ℕ → ℕ) (s : ℕ → List Turn) (base : ℕ → ℕ) → IsPlane p → HasEnds p → Rep p a s → (f : ℕ) → f < p.faces
    → sum_at (darts p) (face_at p) f (over p a s base) % 4 ≡ 0
over_round p a s base plane ends rep f l =
    let n : ℕ = darts p in
    let at : ℕ → ℕ = face_at p in
    let start : ℕ → ℕ = λ d. base (tail p d - 1) in
    let end : ℕ → ℕ = λ d. base (head p d - 1) in
    let whole : sum_at n at f (over p a s base) % 4 ≡ sum_at n at f (λ d. start d + gap p a s d + 3 * end d) % 4 =
    sum_at-four n at f (over p a s base) (λ d. start d + gap p a s d + 3 * end d) (λ d h. twice (start d + gap p a s d + 3 * end d)) in
    let first : sum_at n at f (λ d. start d + gap p a s d + 3 * end d) ≡ sum_at n at f (λ d. start d + gap p a s d) + sum_at n at f (λ d. 3 * end d) =
    sum_at-add n at f (λ d. start d + gap p a s d) (λ d. 3 * end d) in
    let second : sum_at n at f (λ d. start d + gap p a s d) ≡ sum_at n at f start + sum_at n at f (gap p a s) = sum_at-add n at f start (gap p a s) in
    let third : sum_at n at f (λ d. 3 * end d) ≡ 3 * sum_at n at f end = sum_at-times n at f 3 end in
    let moved : sum_at n at f (λ d. start (next p d)) ≡ sum_at n at f start = reordered_at n (next p) at f start ends.next_one plane.faces.closed in
    let same : sum_at n at f (λ d. start (next p d)) ≡ sum_at n at f end =
    sum_at-same n at f (λ d. start (next p d)) end (λ d h. ap (λ (v : ℕ). base (v - 1)) (ends.next_tail d h)) in
    close (sum_at n at f (over p a s base)) (sum_at n at f (λ d. start d + gap p a s d + 3 * end d)) (sum_at n at f (λ d. start d + gap p a s d)) (sum_at n at f (λ d. 3 * end d))
    (sum_at n at f start) (sum_at n at f (gap p a s)) (sum_at n at f end)
    whole first second third (sym moved ∙ same) (gap_round p a s plane ends rep f l)
  where
    twice : (x : ℕ) → x % 4 % 4 ≡ x % 4
    twice x = omega arith

    close : (t u c e x g y : ℕ) → t % 4 ≡ u % 4 → u ≡ c + e → c ≡ x + g → e ≡ 3 * y → x ≡ y → g % 4 ≡ 0 → t % 4 ≡ 0
    close t u c e x g y e1 e2 e3 e4 e5 e6 = omega arith

-- it is 0 along the darts of the tree that gives the values
over_up : (p : PlaneModel) (a : ℕ → ℕ) (s : ℕ → List Turn) (rank parent base : ℕ → ℕ) → HasEnds p → IsTree (vertex_connections p) (gap p a s) rank parent base
    → (d : ℕ) → d < darts p → IsUp (vertex_connections p) parent d → over p a s base d ≡ 0
over_up p a s rank parent base ends tree d l up =
    let v : ℕ = head p d - 1 in
    let along : base v % 4 ≡ (base (tail p (parent v) - 1) + gap p a s (parent v)) % 4 =
    tree.along v ((vertices_paired p ends).node d l) up.node in
    let here : base v % 4 ≡ (base (tail p d - 1) + gap p a s d) % 4 =
    subst (λ (e : ℕ). base v % 4 ≡ (base (tail p e - 1) + gap p a s e) % 4) up.parent_is along in
    close (base (tail p d - 1)) (gap p a s d) (base v) here
  where
    close : (x g y : ℕ) → y % 4 ≡ (x + g) % 4 → (x + g + 3 * y) % 4 ≡ 0
    close x g y e = omega arith

over_tree : (p : PlaneModel) (a : ℕ → ℕ) (s : ℕ → List Turn) (rank parent base : ℕ → ℕ) → HasEnds p → Rep p a s → IsTree (vertex_connections p) (gap p a s) rank parent base
    → (d : ℕ) → d < darts p → in_tree (vertex_connections p) (reverse_dart p) parent d ≡ true → over p a s base d ≡ 0
over_tree p a s rank parent base ends rep tree d l on =
    elim (tree_from (vertex_connections p) (reverse_dart p) parent d on) [
      | inl up ↦ over_up p a s rank parent base ends tree d l up
      | inr up ↦
          let none : over p a s base (reverse_dart p d) ≡ 0 = over_up p a s rank parent base ends tree (reverse_dart p d) (ends.reverse_dart_in_range d l) up in
          close (base (tail p d - 1) + gap p a s d + 3 * base (head p d - 1)) (over p a s base (reverse_dart p d)) (over_pairs p a s base ends rep d l) none
    ]
  where
    close : (x y : ℕ) → (x % 4 + y) % 4 ≡ 0 → y ≡ 0 → x % 4 ≡ 0
    close x y e h = omega arith

-- so it is 0 for each dart: the darts off the tree on the vertices are a tree on the faces
over_none : (p : PlaneModel) (a : ℕ → ℕ) (s : ℕ → List Turn) (rank parent base : ℕ → ℕ) → IsPlane p → HasEnds p → Rep p a s → IsTree (vertex_connections p) (gap p a s) rank parent base
    → Tree (face_connections p parent) (λ _. 0) → (d : ℕ) → d < darts p → over p a s base d ≡ 0
over_none p a s rank parent base plane ends rep first (rank', parent', base', second) =
    let j = vertex_connections p in
    let k = face_connections p parent in
    let some_vertices : 0 < vertices p = omega (arith, ends.head_from 0 ends.some_darts, ends.head_to 0 ends.some_darts) in
    let some_faces : 0 < p.faces = omega (arith, plane.outer) in
    let each = spanned j k (reverse_dart p) (gap p a s) rank parent base (λ _. 0) rank' parent' base' refl (vertices_paired p ends) first some_vertices (faces_paired p parent ends) second some_faces
    (λ d h. not-true (in_tree j (reverse_dart p) parent d) h) (omega (arith, plane.euler)) in
    nothing k (reverse_dart p) (λ _. 0) rank' parent' base' (over p a s base) (faces_paired p parent ends) second (record {
      small = λ d l. small (base (tail p d - 1) + gap p a s d + 3 * base (head p d - 1));
      pairs = over_pairs p a s base ends rep;
      round = over_round p a s base plane ends rep;
      only = λ d l. elim (each d l) [
        | inl on ↦ inl (over_tree p a s rank parent base ends rep first d l on)
        | inr on ↦ inr (tree_from k (reverse_dart p) parent' d on)
      ];
    })
  where
    small : (x : ℕ) → x % 4 < 4
    small x = omega arith

-- the direction of a dart: the value at its head, and the sum of what the angles before its reverse lack
abbrev direction : PlaneModel → (ℕ → ℕ) → (ℕ → ℕ) → ℕ → ℕ
direction p a base d = (base (head p d - 1) + lacks p a (reverse_dart p d)) % 4

heads_so : (p : PlaneModel) (a : ℕ → ℕ) (s : ℕ → List Turn) (base : ℕ → ℕ) → HasEnds p → Rep p a s → ((d : ℕ) → d < darts p → over p a s base d ≡ 0)
    → AreDirections p a s (direction p a base)
heads_so p a s base ends rep none = record {
  quarter = λ d l. small (base (head p d - 1) + lacks p a (reverse_dart p d));
  angles = λ d l.
      let inside = ends.next_one.inside d l in
      corner (base (head p (arrives_next p d) - 1)) (base (head p d - 1)) (lacks p a (reverse_dart p (arrives_next p d))) (lacks p a (next p d)) (lacks p a (reverse_dart p d)) (a d)
      (ap (λ (v : ℕ). base (v - 1)) (arrives_there p ends d l)) (ap (lacks p a) (ends.reverse_dart_back (next p d) inside)) (lacks_next p a ends rep.angles rep.around d l);
  strings = λ d l.
      string (base (head p (reverse_dart p d) - 1)) (base (tail p d - 1)) (base (head p d - 1)) (lacks p a (reverse_dart p (reverse_dart p d))) (lacks p a d) (lacks p a (reverse_dart p d)) (lefts (s d)) (rights (s d))
      (ap (λ (v : ℕ). base (v - 1)) (ends.reverse_dart_head d l)) (ap (lacks p a) (ends.reverse_dart_back d l)) (none d l);
}
  where
    small : (x : ℕ) → x % 4 < 4
    small x = omega arith

    corner : (b' b z y x c : ℕ) → b' ≡ b → z ≡ y → (y + c) % 4 ≡ x % 4 → ((b' + z) % 4 + c) % 4 ≡ (b + x) % 4
    corner b' b z y x c e1 e2 e3 = omega arith

    string : (b' t b z y x m r : ℕ) → b' ≡ t → z ≡ y → (t + (y + 2 + m + 3 * (r + x)) + 3 * b) % 4 ≡ 0 → ((b' + z) % 4 + 2 + m) % 4 ≡ ((b + x) % 4 + r) % 4
    string b' t b z y x m r e1 e2 e3 = omega arith

pub plane_directions : (p : PlaneModel) (a : ℕ → ℕ) (s : ℕ → List Turn) → IsPlane p → Rep p a s → (h : ℕ → ℕ) × AreDirections p a s h
plane_directions p a s plane rep =
    let ends = plane_ends p plane in
    let (rank, parent, base, first) = tree (vertex_connections p) (gap p a s) (vertices_paired p ends).node (vertices_connect p plane) in
    let second = tree (face_connections p parent) (λ _. 0) (faces_paired p parent ends).node (faces_connect p plane (gap p a s) rank parent base first) in
    (direction p a base, heads_so p a s base ends rep (over_none p a s rank parent base plane ends rep first second))
