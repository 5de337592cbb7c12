-- The vertices of a plane are connected by its darts, and so are the faces by those off a tree on the vertices.
use Rattle.std.proofs.Common.{◌≡◌, ℕ, ◌+◌, ◌-◌, true, not, refl, sym, ap, ◌∙◌, subst, arith}
use Rattle.std.proofs.lemmas.Bool.{true_from_ne_false}
use Rattle.embedding.specs.declared.breaks.Rule.TheVariants.{Disconnected}
use Rattle.embedding.specs.Rules.{IsClosed}
use Rattle.faces.specs.Planes.{PlaneModel, IsPlane, HasEnds, darts, vertices, head, tail, reverse_dart, face_at}
use Rattle.flow_network.proofs.VertexDegrees.{entry_dart}
use Rattle.dissect.proofs.Trees.{Connections, Connects}
use Rattle.dissect.proofs.Peeling.{IsPaired}
use Rattle.dissect.proofs.TreeCounts.{in_tree}

-- the vertices, numbered from 0, connected by all darts
abbrev pub vertex_connections : PlaneModel → Connections
vertex_connections p = record {
  darts = darts p;
  nodes = vertices p;
  from = λ d. tail p d - 1;
  to = λ d. head p d - 1;
  allowed = λ d. true;
  root = 0;
}

-- the faces, connected by the darts that are not of the tree on the vertices
abbrev pub face_connections : PlaneModel → (ℕ → ℕ) → Connections
face_connections p parent = record {
  darts = darts p;
  nodes = p.faces;
  from = λ d. face_at p (reverse_dart p d);
  to = λ d. face_at p d;
  allowed = λ d. not (in_tree (vertex_connections p) (reverse_dart p) parent d);
  root = 0;
}

pub vertices_paired : (p : PlaneModel) → HasEnds p → IsPaired (vertex_connections p) (reverse_dart p)
vertices_paired p ends = record {
  inside = ends.reverse_dart_in_range;
  back = ends.reverse_dart_back;
  from = λ d l. ap (λ (v : ℕ). v - 1) (sym (ends.reverse_dart_head d l));
  node = λ d l. omega (arith, ends.head_from d l, ends.head_to d l);
}

pub faces_paired : (p : PlaneModel) (parent : ℕ → ℕ) → HasEnds p → IsPaired (face_connections p parent) (reverse_dart p)
faces_paired p parent ends = record {
  inside = ends.reverse_dart_in_range;
  back = ends.reverse_dart_back;
  from = λ d l. refl;
  node = ends.face_named;
}

-- all darts connect all vertices
pub vertices_connect : (p : PlaneModel) → IsPlane p → Connects (vertex_connections p)
vertices_connect p plane s one shut v l =
    true_from_ne_false (s v) (λ none.
    plane.rules Disconnected (omega arith) (
      (λ u. s (u - 1)),
      one,
      closed,
      (v + 1, omega arith, omega arith, ap s back ∙ none),
    ))
  where
    back : v + 1 - 1 ≡ v
    back = omega arith

    closed : IsClosed p.lists (λ u. s (u - 1))
    closed u here i other inside =
        let entry = entry_dart p.lists u i other inside in
        subst (λ (w : ℕ). s (w - 1) ≡ true) entry.3
        (shut entry.0 entry.1 refl (subst (λ (w : ℕ). s (w - 1) ≡ true) (sym entry.2) here))
