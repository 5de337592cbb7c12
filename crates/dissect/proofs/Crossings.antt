-- The faces of a plane are connected by the darts off a tree on its vertices.
use Rattle.std.proofs.Common.{◌≡◌, ◌<◌, ℕ, ◌+◌, ◌-◌, ◌*◌, ◌%◌, Bool, true, false, not, cond, refl, sym, ap, ◌∙◌, subst, inl, inr, arith}
use Rattle.std.proofs.lemmas.Bool.{cases_Bool, both_ways, not_from_false, or_parts, or_from}
use Rattle.embedding.specs.Darts.{IsOneToOne}
use Rattle.faces.specs.Planes.{PlaneModel, IsPlane, HasEnds, darts, head, reverse_dart, next, face_at}
use Rattle.faces.proofs.Ends.{plane_ends}
use Rattle.faces.proofs.Connected.{faces_connected}
use Rattle.dissect.proofs.Reordered.{sum_at, sum_at-add, sum_at-times, sum_at-same, sum_at-four, reordered_at}
use Rattle.dissect.proofs.Trees.{IsTree, Connects}
use Rattle.dissect.proofs.Peeling.{IsBalanced, nothing}
use Rattle.dissect.proofs.TreeCounts.{is_up, in_tree, tree_from}
use Rattle.dissect.proofs.Vertices.{vertex_connections, face_connections, vertices_paired}

-- the dart that arrives next clockwise at the same vertex
abbrev pub arrives_next : PlaneModel → ℕ → ℕ
arrives_next p d = reverse_dart p (next p d)

pub arrives_one : (p : PlaneModel) → HasEnds p → IsOneToOne (darts p) (arrives_next p)
arrives_one p ends = record {
  inside = λ d l. ends.reverse_dart_in_range (next p d) (ends.next_one.inside d l);
  one = λ d e l k same.
      ends.next_one.one d e l k
      (sym (ends.reverse_dart_back (next p d) (ends.next_one.inside d l)) ∙ ap (reverse_dart p) same ∙ ends.reverse_dart_back (next p e) (ends.next_one.inside e k));
}

pub arrives_there : (p : PlaneModel) → HasEnds p → (d : ℕ) → d < darts p → head p (arrives_next p d) ≡ head p d
arrives_there p ends d l = ends.reverse_dart_head (next p d) (ends.next_one.inside d l) ∙ ends.next_tail d l

-- the reverse of a dart off the tree is off the tree
off_back : (p : PlaneModel) (parent : ℕ → ℕ) → HasEnds p → (d : ℕ) → d < darts p
    → in_tree (vertex_connections p) (reverse_dart p) parent d ≡ false → in_tree (vertex_connections p) (reverse_dart p) parent (reverse_dart p d) ≡ false
off_back p parent ends d l off =
    let j = vertex_connections p in
    let both = or_parts (is_up j parent d) (is_up j parent (reverse_dart p d)) off in
    or_from (is_up j parent (reverse_dart p d)) (is_up j parent (reverse_dart p (reverse_dart p d))) both.1 (ap (is_up j parent) (ends.reverse_dart_back d l) ∙ both.0)

-- one for a dart whose face is of the set
abbrev held : PlaneModel → (ℕ → Bool) → ℕ → ℕ
held p s d = cond (s (face_at p d)) 1 0

-- what the set gains in crossing a dart, up to multiples of four
abbrev gained : PlaneModel → (ℕ → Bool) → ℕ → ℕ
gained p s d = (held p s (reverse_dart p d) + 3 * held p s d) % 4

-- round each vertex it gains nothing
gained_round : (p : PlaneModel) → IsPlane p → HasEnds p → (s : ℕ → Bool) → (v : ℕ) → sum_at (darts p) (λ d. head p d - 1) v (gained p s) % 4 ≡ 0
gained_round p plane ends s v =
    let n : ℕ = darts p in
    let at : ℕ → ℕ = λ d. head p d - 1 in
    let whole : sum_at n at v (gained p s) % 4 ≡ sum_at n at v (λ d. held p s (reverse_dart p d) + 3 * held p s d) % 4 =
    sum_at-four n at v (gained p s) (λ d. held p s (reverse_dart p d) + 3 * held p s d) (λ d l. twice (held p s (reverse_dart p d) + 3 * held p s d)) in
    let parts : sum_at n at v (λ d. held p s (reverse_dart p d) + 3 * held p s d) ≡ sum_at n at v (λ d. held p s (reverse_dart p d)) + sum_at n at v (λ d. 3 * held p s d) =
    sum_at-add n at v (λ d. held p s (reverse_dart p d)) (λ d. 3 * held p s d) in
    let thrice : sum_at n at v (λ d. 3 * held p s d) ≡ 3 * sum_at n at v (held p s) = sum_at-times n at v 3 (held p s) in
    let moved : sum_at n at v (λ d. held p s (reverse_dart p (arrives_next p d))) ≡ sum_at n at v (λ d. held p s (reverse_dart p d)) =
    reordered_at n (arrives_next p) at v (λ d. held p s (reverse_dart p d)) (arrives_one p ends) (λ d l. ap (λ (u : ℕ). u - 1) (arrives_there p ends d l)) in
    let same : sum_at n at v (λ d. held p s (reverse_dart p (arrives_next p d))) ≡ sum_at n at v (held p s) =
    sum_at-same n at v (λ d. held p s (reverse_dart p (arrives_next p d))) (held p s)
    (λ d l. ap (held p s) (ends.reverse_dart_back (next p d) (ends.next_one.inside d l)) ∙ ap (λ (f : ℕ). cond (s f) 1 0) (plane.faces.closed d l)) in
    close (sum_at n at v (gained p s)) (sum_at n at v (λ d. held p s (reverse_dart p d) + 3 * held p s d)) (sum_at n at v (λ d. held p s (reverse_dart p d))) (sum_at n at v (λ d. 3 * held p s d)) (sum_at n at v (held p s))
    whole parts thrice (sym moved ∙ same)
  where
    twice : (x : ℕ) → x % 4 % 4 ≡ x % 4
    twice x = omega arith

    close : (t u a b c : ℕ) → t % 4 ≡ u % 4 → u ≡ a + b → b ≡ 3 * c → a ≡ c → t % 4 ≡ 0
    close t u a b c e1 e2 e3 e4 = omega arith

-- and off the tree, where the set is closed across the darts
gained_off : (p : PlaneModel) → HasEnds p → (parent : ℕ → ℕ) (s : ℕ → Bool)
    → ((d : ℕ) → d < darts p → not (in_tree (vertex_connections p) (reverse_dart p) parent d) ≡ true → s (face_at p (reverse_dart p d)) ≡ true → s (face_at p d) ≡ true)
    → (d : ℕ) → d < darts p → in_tree (vertex_connections p) (reverse_dart p) parent d ≡ false → gained p s d ≡ 0
gained_off p ends parent s shut d l off =
    none (s (face_at p (reverse_dart p d))) (s (face_at p d))
    (λ h. shut d l (not_from_false (in_tree (vertex_connections p) (reverse_dart p) parent d) off) h)
    (λ h. shut (reverse_dart p d) (ends.reverse_dart_in_range d l) (not_from_false (in_tree (vertex_connections p) (reverse_dart p) parent (reverse_dart p d)) (off_back p parent ends d l off))
    (subst (λ (e : ℕ). s (face_at p e) ≡ true) (sym (ends.reverse_dart_back d l)) h))
  where
    none : (a b : Bool) → (a ≡ true → b ≡ true) → (b ≡ true → a ≡ true) → (cond a 1 0 + 3 * cond b 1 0) % 4 ≡ 0
    none true true h k = refl
    none true false h k = absurd (both_ways false refl (h refl))
    none false true h k = absurd (both_ways false refl (k refl))
    none false false h k = refl

balanced : (p : PlaneModel) → IsPlane p → HasEnds p → (parent : ℕ → ℕ) (s : ℕ → Bool)
    → ((d : ℕ) → d < darts p → not (in_tree (vertex_connections p) (reverse_dart p) parent d) ≡ true → s (face_at p (reverse_dart p d)) ≡ true → s (face_at p d) ≡ true)
    → IsBalanced (vertex_connections p) (reverse_dart p) parent (gained p s)
balanced p plane ends parent s shut = record {
  small = λ d l. omega arith;
  pairs = λ d l. close (held p s (reverse_dart p d)) (held p s d) (held p s (reverse_dart p (reverse_dart p d))) (ap (held p s) (ends.reverse_dart_back d l));
  round = λ v l. gained_round p plane ends s v;
  only = λ d l. elim (cases_Bool (in_tree (vertex_connections p) (reverse_dart p) parent d)) [
    | inl on ↦ inr (tree_from (vertex_connections p) (reverse_dart p) parent d on)
    | inr off ↦ inl (gained_off p ends parent s shut d l off)
  ];
}
  where
    close : (x y z : ℕ) → z ≡ y → ((x + 3 * y) % 4 + (z + 3 * x) % 4) % 4 ≡ 0
    close x y z e = omega arith

-- so it is closed across all darts, and holds all faces
pub faces_connect : (p : PlaneModel) → IsPlane p → (g rank parent base : ℕ → ℕ) → IsTree (vertex_connections p) g rank parent base → Connects (face_connections p parent)
faces_connect p plane g rank parent base tree s root shut f l =
    let ends = plane_ends p plane in
    let none = nothing (vertex_connections p) (reverse_dart p) g rank parent base (gained p s) (vertices_paired p ends) tree (balanced p plane ends parent s shut) in
    faces_connected p plane s (λ d h here. across (s (face_at p (reverse_dart p d))) (s (face_at p d)) (none d h) here) 0 f (omega arith) l root
  where
    across : (a b : Bool) → (cond a 1 0 + 3 * cond b 1 0) % 4 ≡ 0 → b ≡ true → a ≡ true
    across true b e h = refl
    across false true e h = absurd (omega arith)
    across false false e h = h
