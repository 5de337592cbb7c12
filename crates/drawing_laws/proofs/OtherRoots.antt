-- Trees with other roots: a tree on the vertices of a plane and one on its faces, with any vertex and any face as roots,
-- that are all darts of the plane between them.
use Rattle.std.proofs.Common.{◌≡◌, ◌≢◌, ◌<◌, ◌⊎◌, ℕ, zero, suc, ◌+◌, Bool, true, not, eqb, inl, inr, refl, sym, ap, ◌∙◌, subst, arith}
use Rattle.std.proofs.lemmas.Bool.{cases_eq, cases_Bool, eq-eqb, ne_eqb, and_from, both_ways, not_from_false, not-true, or_cases, or_left, or_right}
use Rattle.faces.specs.Planes.{PlaneModel, IsPlane, HasEnds, darts, vertices, reverse_dart}
use Rattle.dissect.proofs.Trees.{Connections, IsTree, Connects, tree}
use Rattle.dissect.proofs.Peeling.{IsUp, IsPaired}
use Rattle.dissect.proofs.TreeCounts.{is_up, in_tree, tree_from, spanned}
use Rattle.dissect.proofs.Vertices.{vertex_connections, face_connections, vertices_paired, faces_paired, vertices_connect}
use Rattle.dissect.proofs.Crossings.{faces_connect}

-- the same nodes and darts, with these darts allowed and this root
abbrev pub connections_by : Connections → (ℕ → Bool) → ℕ → Connections
connections_by j allowed root = record { darts = j.darts; nodes = j.nodes; from = j.from; to = j.to; allowed = allowed; root = root }

pub paired_by : (j : Connections) (reverse_dart : ℕ → ℕ) (allowed : ℕ → Bool) (root : ℕ) → IsPaired j reverse_dart → IsPaired (connections_by j allowed root) reverse_dart
paired_by j reverse_dart allowed root is = record { inside = is.inside; back = is.back; from = is.from; node = is.node }

-- where a dart is allowed its reverse is
abbrev AreBothWays : Connections → (ℕ → ℕ) → Type 0
AreBothWays j reverse_dart = (d : ℕ) → d < j.darts → j.allowed d ≡ true → j.allowed (reverse_dart d) ≡ true

-- darts that connect all nodes from one root connect them from each
connects_from : (j : Connections) (reverse_dart : ℕ → ℕ) (root : ℕ) → IsPaired j reverse_dart → AreBothWays j reverse_dart → root < j.nodes → Connects j
    → Connects (connections_by j j.allowed root)
connects_from j reverse_dart root paired both inside connects s held shut v l =
    elim (cases_Bool (s j.root)) [
      | inl there ↦ connects s there shut v l
      | inr away ↦ absurd (both_ways (s root) (not-true (s root) (connects (λ u. not (s u)) (not_from_false (s j.root) away) shut_off root inside)) held)
    ]
  where
    shut_off : (d : ℕ) → d < j.darts → j.allowed d ≡ true → not (s (j.from d)) ≡ true → not (s (j.to d)) ≡ true
    shut_off d b may off =
        elim (cases_Bool (s (j.to d))) [
          | inr none ↦ not_from_false (s (j.to d)) none
          | inl held' ↦
              let back = reverse_dart d in
              let from : j.from back ≡ j.to d = paired.from back (paired.inside d b) ∙ ap j.to (paired.back d b) in
              let there : s (j.to back) ≡ true = shut back (paired.inside d b) (both d b may) (ap s from ∙ held') in
              absurd (both_ways (s (j.from d)) (not-true (s (j.from d)) off) (ap s (paired.from d b) ∙ there))
        ]

-- more darts connect them too
connects_more : (j : Connections) (allowed : ℕ → Bool) → ((d : ℕ) → d < j.darts → j.allowed d ≡ true → allowed d ≡ true) → Connects j
    → Connects (connections_by j allowed j.root)
connects_more j allowed more connects s held shut v l = connects s held (λ d b may. shut d b (more d b may)) v l

-- a dart of a tree is one both ways
tree_back : (j : Connections) (reverse_dart parent : ℕ → ℕ) → IsPaired j reverse_dart → (d : ℕ) → d < j.darts → in_tree j reverse_dart parent d ≡ true → in_tree j reverse_dart parent (reverse_dart d) ≡ true
tree_back j reverse_dart parent paired d b h =
    elim (or_cases (is_up j parent d) (is_up j parent (reverse_dart d)) h) [
      | inl up ↦ or_right (is_up j parent (reverse_dart d)) (is_up j parent (reverse_dart (reverse_dart d))) (ap (is_up j parent) (paired.back d b) ∙ up)
      | inr up ↦ or_left (is_up j parent (reverse_dart d)) (is_up j parent (reverse_dart (reverse_dart d))) up
    ]

-- and so is one off it
off_back : (j : Connections) (reverse_dart parent : ℕ → ℕ) → IsPaired j reverse_dart → (d : ℕ) → d < j.darts → not (in_tree j reverse_dart parent d) ≡ true → not (in_tree j reverse_dart parent (reverse_dart d)) ≡ true
off_back j reverse_dart parent paired d b off =
    elim (cases_Bool (in_tree j reverse_dart parent (reverse_dart d))) [
      | inr none ↦ not_from_false (in_tree j reverse_dart parent (reverse_dart d)) none
      | inl on ↦
          let there : in_tree j reverse_dart parent (reverse_dart (reverse_dart d)) ≡ true = tree_back j reverse_dart parent paired (reverse_dart d) (paired.inside d b) on in
          absurd (both_ways (in_tree j reverse_dart parent d) (not-true (in_tree j reverse_dart parent d) off) (ap (in_tree j reverse_dart parent) (sym (paired.back d b)) ∙ there))
    ]

-- the darts of a tree connect all nodes
tree_connects : (j : Connections) (reverse_dart g rank parent base : ℕ → ℕ) → IsPaired j reverse_dart → IsTree j g rank parent base
    → Connects (connections_by j (in_tree j reverse_dart parent) j.root)
tree_connects j reverse_dart g rank parent base paired is s held shut v l = by_rank (rank v + 1) v l (omega arith)
  where
    up_here : (v : ℕ) → v < j.nodes → v ≢ j.root → in_tree j reverse_dart parent (parent v) ≡ true
    up_here v l ne =
        let to : j.to (parent v) ≡ v = (is.leads v l ne).to in
        or_left (is_up j parent (parent v)) (is_up j parent (reverse_dart (parent v)))
        (and_from (not (eqb (j.to (parent v)) j.root)) (eqb (parent (j.to (parent v))) (parent v))
        (not_from_false (eqb (j.to (parent v)) j.root) (ne_eqb (j.to (parent v)) j.root (λ e. ne (sym to ∙ e))))
        (eq-eqb (parent (j.to (parent v))) (parent v) (ap parent to)))

    by_rank : (k v : ℕ) → v < j.nodes → rank v < k → s v ≡ true
    by_rank zero v l less = absurd (omega arith)
    by_rank (suc k) v l less =
        elim (cases_eq v j.root) [
          | inl e ↦ ap s e ∙ held
          | inr ne ↦
              let leads = is.leads v l ne in
              let from_in : j.from (parent v) < j.nodes = subst (λ (u : ℕ). u < j.nodes) (sym (paired.from (parent v) leads.inside)) (paired.node (reverse_dart (parent v)) (paired.inside (parent v) leads.inside)) in
              let below : s (j.from (parent v)) ≡ true = by_rank k (j.from (parent v)) from_in (omega (arith, leads.lower)) in
              ap s (sym leads.to) ∙ shut (parent v) leads.inside (up_here v l ne) below
        ]

-- ---- of a plane

-- a tree on the vertices with this root and one on the faces with that one: each dart is of one of them
pub record AreTrees (p : PlaneModel) (vertex face : ℕ) : Type 0 where
  pub allowed : ℕ → Bool
  pub allowed' : ℕ → Bool
  pub rank : ℕ → ℕ
  pub parent : ℕ → ℕ
  pub base : ℕ → ℕ
  pub rank' : ℕ → ℕ
  pub parent' : ℕ → ℕ
  pub base' : ℕ → ℕ
  pub first : IsTree (connections_by (vertex_connections p) allowed vertex) (λ _. 0) rank parent base
  pub second : IsTree (connections_by (face_connections p (λ _. 0)) allowed' face) (λ _. 0) rank' parent' base'
  pub each : (d : ℕ) → d < darts p
      → (in_tree (connections_by (vertex_connections p) allowed vertex) (reverse_dart p) parent d ≡ true)
      ⊎ (in_tree (connections_by (face_connections p (λ _. 0)) allowed' face) (reverse_dart p) parent' d ≡ true)

-- darts off a tree are off each tree of its darts
off_inner : (j : Connections) (reverse_dart g rank parent base parent' : ℕ → ℕ) (root : ℕ) → IsPaired j reverse_dart
    → IsTree (connections_by j (in_tree j reverse_dart parent') root) g rank parent base
    → (d : ℕ) → d < j.darts → not (in_tree j reverse_dart parent' d) ≡ true → not (in_tree (connections_by j (in_tree j reverse_dart parent') root) reverse_dart parent d) ≡ true
off_inner j reverse_dart g rank parent base parent' root paired is d b off =
    elim (cases_Bool (in_tree inner reverse_dart parent d)) [
      | inr none ↦ not_from_false (in_tree inner reverse_dart parent d) none
      | inl on ↦ absurd (both_ways (in_tree j reverse_dart parent' d) (not-true (in_tree j reverse_dart parent' d) off)
          (elim (tree_from inner reverse_dart parent d on) [
            | inl up ↦ of_up d b up
            | inr up ↦
                let back : in_tree j reverse_dart parent' (reverse_dart (reverse_dart d)) ≡ true =
                tree_back j reverse_dart parent' paired (reverse_dart d) (paired.inside d b) (of_up (reverse_dart d) (paired.inside d b) up) in
                ap (in_tree j reverse_dart parent') (sym (paired.back d b)) ∙ back
          ]))
    ]
  where
    inner : Connections
    inner = connections_by j (in_tree j reverse_dart parent') root

    of_up : (e : ℕ) → e < j.darts → IsUp inner parent e → in_tree j reverse_dart parent' e ≡ true
    of_up e c up = subst (λ (x : ℕ). in_tree j reverse_dart parent' x ≡ true) up.parent_is (is.leads (j.to e) (paired.node e c) up.node).allowed

pub trees : (p : PlaneModel) → IsPlane p → HasEnds p → (vertex face : ℕ) → vertex < vertices p → face < p.faces → AreTrees p vertex face
trees p plane ends vertex face v_in f_in =
    let j = vertex_connections p in
    let back = reverse_dart p in
    let paired = vertices_paired p ends in
    let (rank0, parent0, base0, tree0) = tree j (λ _. 0) paired.node (vertices_connect p plane) in
    let on0 : ℕ → Bool = in_tree j back parent0 in
    let from_vertex : Connects (connections_by j on0 vertex) =
    connects_from (connections_by j on0 j.root) back vertex (paired_by j back on0 j.root paired) (tree_back j back parent0 paired) v_in (tree_connects j back (λ _. 0) rank0 parent0 base0 paired tree0) in
    let (rank, parent, base, first) = tree (connections_by j on0 vertex) (λ _. 0) paired.node from_vertex in
    let off : ℕ → Bool = λ d. not (in_tree (connections_by j on0 vertex) back parent d) in
    let k = face_connections p parent0 in
    let paired' = faces_paired p parent0 ends in
    let from_face : Connects (connections_by k k.allowed face) =
    connects_from k back face paired' (off_back j back parent0 paired) f_in (faces_connect p plane (λ _. 0) rank0 parent0 base0 tree0) in
    let off_face : Connects (connections_by k off face) =
    connects_more (connections_by k k.allowed face) off (off_inner j back (λ _. 0) rank parent base parent0 vertex paired first) from_face in
    let (rank', parent', base', second) = tree (connections_by k off face) (λ _. 0) paired'.node off_face in
    record {
      allowed = on0;
      allowed' = off;
      rank = rank;
      parent = parent;
      base = base;
      rank' = rank';
      parent' = parent';
      base' = base';
      first = first;
      second = second;
      each = spanned (connections_by j on0 vertex) (connections_by k off face) back (λ _. 0) rank parent base (λ _. 0) rank' parent' base' refl
          (paired_by j back on0 vertex paired) first v_in (paired_by k back off face paired') second f_in
          (λ d h. not-true (in_tree (connections_by j on0 vertex) back parent d) h) (omega (arith, plane.euler));
    }
