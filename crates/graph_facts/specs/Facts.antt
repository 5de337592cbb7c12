-- What is known of a graph once its record is answered.
use Rattle.std.specs.Prelude.{◌≡◌, ◌/◌, ◌⊎◌, ℕ, List, length, Option, None, Some}
use Rattle.common.specs.declared.parameters.Choice.{Choice}
use Rattle.embedding.specs.declared.breaks.Rule.{Rule}
use Rattle.embedding.specs.declared.breaks.Rule.TheVariants.{Range, Loop, Multi, Asymmetric, Edgeless, Degree, Disconnected, Genus}
use Rattle.embedding.specs.Darts.{dart_count}
use Rattle.embedding.specs.Rules.{FirstBroken, KeepsBefore}
use Rattle.faces.specs.Planes.{PlaneModel, IsPlane, vertices, darts}
use Rattle.ortho_rep.specs.Shapes.{ShapeModel, turns_at}
use Rattle.ortho_rep.specs.Representation.{IsShape, IsLeast, bends_of}
use Rattle.ortho_rep.specs.Best.{IsChosen}
use Rattle.graph_facts.specs.declared.selection.Facts.{Facts}

-- The number of edges of lists that break this rule first: half their entries, if they are those of a simple graph.
-- Otherwise, if they break one of the first four rules, they have no edges.
abbrev pub edges_of_refused : Rule → List (List ℕ) → Option ℕ
edges_of_refused Range g = None
edges_of_refused Loop g = None
edges_of_refused Multi g = None
edges_of_refused Asymmetric g = None
edges_of_refused Edgeless g = Some (dart_count g / 2)
edges_of_refused Degree g = Some (dart_count g / 2)
edges_of_refused Disconnected g = Some (dart_count g / 2)
edges_of_refused Genus g = Some (dart_count g / 2)

-- the facts of a graph that breaks no rule, with a shape that has the fewest bends
abbrev pub laid_facts : PlaneModel → ShapeModel → Facts
laid_facts plane shape = record {
  vertices = vertices plane;
  edges = Some (darts plane / 2);
  faces = Some plane.faces;
  bends = Some (bends_of (length shape.strings) (turns_at shape));
  rule = None;
}

-- the facts of a graph with these lists, which break this rule first: it has neither faces nor bends
abbrev pub refused_facts : List (List ℕ) → Rule → Facts
refused_facts g rule = record {
  vertices = length g;
  edges = edges_of_refused rule g;
  faces = None;
  bends = None;
  rule = Some rule;
}

-- the facts of the plane of these lists with the chosen outer face, and of a shape of it with the fewest bends
pub record AreLaidFacts (choice : Choice) (g : List (List ℕ)) (facts : Facts) : Type 0 where
  pub plane : PlaneModel
  pub shape : ShapeModel
  pub lists : plane.lists ≡ g
  pub rules : IsPlane plane
  pub chosen : IsChosen choice plane
  pub shape_is : IsShape plane shape
  pub least : IsLeast plane shape
  pub same : facts ≡ laid_facts plane shape

-- the facts of lists that break a rule
pub record AreRefusedFacts (g : List (List ℕ)) (facts : Facts) : Type 0 where
  pub rule : Rule
  pub broken : FirstBroken g rule
  pub same : facts ≡ refused_facts g rule

-- The facts of a graph with these lists under this choice. They are missing only if the graph breaks no rule, and memory
-- ran out for it.
abbrev pub AreFacts : Choice → List (List ℕ) → Option Facts → Type 0
AreFacts choice g None = KeepsBefore g 9
AreFacts choice g (Some facts) = AreLaidFacts choice g facts ⊎ AreRefusedFacts g facts
