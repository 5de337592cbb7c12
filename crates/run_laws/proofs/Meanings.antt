-- What a laid answer says, from the words that the contracts have for it.
use Rattle.std.proofs.Common.{◌≡◌, ◌≢◌, ◌<◌, ℕ, ◌∙◌, List, slice_index, arith, subst, sym, ap, refl, inl, inr, eqb}
use Rattle.std.specs.Prelude.{Result, Ok, Err, IfOk, IfErr, ℤ, pos, negsuc}
use Rattle.std.proofs.lemmas.Bool.{cases_eq, eq-eqb, ne_eqb, cond-true, cond-false}
use Rattle.embedding.specs.declared.breaks.Rule.{Rule}
use Rattle.embedding.specs.declared.breaks.Rule.TheVariants.{Range, Loop, Multi, Asymmetric, Edgeless, Degree, Disconnected, Genus}
use Rattle.embedding.specs.Darts.{dart_count, next_of}
use Rattle.embedding.specs.Faces.{HasFaces}
use Rattle.embedding.specs.Rules.{Breaks, KeepsBefore}
use Rattle.common.specs.declared.parameters.Choice.{Choice}
use Rattle.common.specs.declared.parameters.Choice.TheVariants.{First, Best}
use Rattle.faces.specs.Planes.{PlaneModel, IsPlane, darts, head, reverse_dart, face_at, with_outer}
use Rattle.ortho_rep.specs.declared.turn_strings.Turn.{Turn}
use Rattle.ortho_rep.specs.Shapes.{ShapeModel, angle_at, turns_at}
use Rattle.ortho_rep.specs.Points.{PointsModel}
use Rattle.ortho_rep.specs.Prices.{PricesModel, IsAnglePriced, AreTurnsPriced, IsProof, vertex_price, face_price}
use Rattle.ortho_rep.proofs.Priced.{plain_angle, plain_turns}
use Rattle.ortho_rep.specs.Representation.{Rep, IsLeast, whole_turn}
use Rattle.ortho_rep.specs.Best.{IsBest, IsChosen}
use Rattle.reports.specs.declared.answer.Cause.{Cause}
use Rattle.reports.specs.Answers.{IsLaid}
use Rattle.reports.specs.Drawn.{IsDrawingOf, IsDrawn}
use Rattle.run_laws.specs.Laid.{Represents, IsFirstBest, HasOuter, ProveLeast, AreDrawn, IsCauseShown, IsLaidPlainly}

-- ---- representations, in both words

inner_turn : (p : PlaneModel) (f : ℕ) → f ≢ p.outer → whole_turn p f ≡ pos 4
inner_turn p f other = cond-false {A = ℤ} (eqb f p.outer) (negsuc 3) (pos 4) (ne_eqb f p.outer other)

outer_turn : (p : PlaneModel) (f : ℕ) → f ≡ p.outer → whole_turn p f ≡ negsuc 3
outer_turn p f same = cond-true {A = ℤ} (eqb f p.outer) (negsuc 3) (pos 4) (eq-eqb f p.outer same)

represents : (p : PlaneModel) (a : ℕ → ℕ) (s : ℕ → List Turn) → Rep p a s → Represents p a s
represents p a s rep = record {
  angles = rep.angles;
  strings = rep.strings;
  around = rep.around;
  inner = λ f inside other. rep.faces f inside ∙ inner_turn p f other;
  outer = λ f inside same. rep.faces f inside ∙ outer_turn p f same;
}

is_rep : (p : PlaneModel) (a : ℕ → ℕ) (s : ℕ → List Turn) → Represents p a s → Rep p a s
is_rep p a s rep = record {
  angles = rep.angles;
  strings = rep.strings;
  around = rep.around;
  faces = λ f inside. elim (cases_eq f p.outer) [
    | inl same ↦ rep.outer f inside same ∙ sym (outer_turn p f same)
    | inr other ↦ rep.inner f inside other ∙ sym (inner_turn p f other)
  ];
}

-- ---- the outer face

first_best : (p : PlaneModel) (shape : ShapeModel) → IsPlane p → IsBest p → IsLeast p shape → IsFirstBest p shape
first_best p shape plane best least =
    let (angle, turns, rep, count) = best.some in
    record {
      fewest = λ f inside a s other.
          omega (arith, least.least angle turns rep, count, best.fewest f inside a s (is_rep (with_outer p f) a s other));
      first = λ f inside a s other same.
          best.first f inside (
            a,
            s,
            is_rep (with_outer p f) a s other,
            omega (
              arith,
              same,
              least.least angle turns rep,
              count,
              best.fewest f inside a s (is_rep (with_outer p f) a s other),
              best.fewest p.outer plane.outer (angle_at shape) (turns_at shape) least.rep,
            ),
          );
    }

has_outer : (choice : Choice) (p : PlaneModel) (shape : ShapeModel) → IsPlane p → IsChosen choice p → IsLeast p shape → HasOuter choice p shape
has_outer First p shape plane greatest least = record {
  most = greatest.most;
  first = λ d d_in same. greatest.first (face_at p d) d same d_in refl;
}
has_outer Best p shape plane best least = first_best p shape plane best least

-- ---- rules

kept : (g : List (List ℕ)) → KeepsBefore g 9 → (rule : Rule) → ¬ Breaks g rule
kept g rules Range = rules Range (omega arith)
kept g rules Loop = rules Loop (omega arith)
kept g rules Multi = rules Multi (omega arith)
kept g rules Asymmetric = rules Asymmetric (omega arith)
kept g rules Edgeless = rules Edgeless (omega arith)
kept g rules Degree = rules Degree (omega arith)
kept g rules Disconnected = rules Disconnected (omega arith)
kept g rules Genus = rules Genus (omega arith)

-- ---- prices and drawings

proves : (p : PlaneModel) (shape : ShapeModel) (prices : PricesModel) → IsProof p shape prices → ProveLeast p shape prices
proves p shape prices proof = record {
  vertices = proof.prices.vertices;
  faces = proof.prices.faces;
  greater = λ d d_in. (angle d d_in).wider;
  less = λ d d_in. (angle d d_in).narrower;
  across = λ d d_in. (turns d d_in).crossed;
  bent = λ d d_in. (turns d d_in).tight;
}
  where
    angle : (d : ℕ) → d < darts p → IsAnglePriced (angle_at shape d) (vertex_price prices (head p d)) (face_price prices (face_at p d))
    angle d d_in = plain_angle p (angle_at shape) (turns_at shape) (vertex_price prices) (face_price prices) d (proof.prove d d_in)

    turns : (d : ℕ) → d < darts p → AreTurnsPriced (turns_at shape d) (face_price prices (face_at p d)) (face_price prices (face_at p (reverse_dart p d)))
    turns d d_in = plain_turns p (angle_at shape) (turns_at shape) (vertex_price prices) (face_price prices) d (proof.prove d d_in)

are_drawn : (p : PlaneModel) (shape : ShapeModel) (points : PointsModel) → IsDrawingOf p shape points → AreDrawn p shape points
are_drawn p shape points is =
    let draws = is.draws in
    record {
      vertex_count = is.whole.vertex_count;
      edge_count = is.whole.edge_count;
      vertices = draws.grid.ends;
      corners = draws.grid.bends;
      axes = draws.axes;
      counted = λ k d inside. (draws.turns.edges k d inside).corners;
      turned_at = λ k d inside. (draws.turns.edges k d inside).each;
      heads = draws.turns.heads;
      apart = draws.apart;
      regions = is.regions;
    }

drawn_means : (p : PlaneModel) (shape : ShapeModel) (drawing : Result PointsModel Cause) → IsDrawn p shape drawing
    → (IfOk drawing (AreDrawn p shape)) × (IfErr drawing (IsCauseShown p shape))
drawn_means p shape (Ok points) drawn = (are_drawn p shape points drawn, tt)
drawn_means p shape (Err cause) drawn = (tt, record { boxes = drawn.boxes; boxed = drawn.boxed; shown = drawn.shown })

-- ---- the whole answer

pub means : (choice : Choice) (g : List (List ℕ)) (plane : PlaneModel) (shape : ShapeModel) (prices : PricesModel) (drawing : Result PointsModel Cause)
    → IsLaid choice g plane shape prices drawing → IsLaidPlainly choice g plane shape prices drawing
means choice g plane shape prices drawing laid =
    let drawn = drawn_means plane shape drawing laid.drawn in
    record {
      lists = laid.lists;
      no_rule = subst (λ (g : List (List ℕ)). (rule : Rule) → ¬ Breaks g rule) laid.lists (kept plane.lists laid.rules.rules);
      face_count = laid.rules.size ∙ ap dart_count laid.lists;
      faces = subst (λ (g : List (List ℕ)). HasFaces (dart_count g) (next_of g) (λ d. slice_index plane.face d) plane.faces) laid.lists laid.rules.faces;
      outer = has_outer choice plane shape laid.rules laid.chosen laid.least;
      angle_count = laid.shape_is.lengths.angles;
      string_count = laid.shape_is.lengths.strings;
      representation = represents plane (angle_at shape) (turns_at shape) laid.shape_is.rep;
      fewest = λ a s rep. laid.least.least a s (is_rep plane a s rep);
      proof = proves plane shape prices laid.proof;
      drawn = drawn.0;
      shown = drawn.1;
      near = laid.near;
      no_longer = laid.no_longer;
    }
