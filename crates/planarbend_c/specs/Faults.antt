-- Why a graph, given by its neighbour lists, is not laid out, and why what a caller gives is not.
use Rattle.std.specs.Prelude.{◌≡◌, ◌⊎◌, ℕ, List, ⊤}
use Rattle.embedding.specs.Rules.{FirstBroken}
use Rattle.common.specs.declared.parameters.Choice.{Choice}
use Rattle.faces.specs.Planes.{PlaneModel, IsPlane}
use Rattle.ortho_rep.specs.Shapes.{ShapeModel}
use Rattle.ortho_rep.specs.Prices.{PricesModel}
use Rattle.reports.specs.declared.answer.Cause.TheVariants as cause
use Rattle.reports.specs.Drawn.{IsCause}
use Rattle.conditions.specs.declared.conditions.Conditions.{Conditions}
use Rattle.conditions.specs.declared.cuts.KeepFault.TheVariants as keep
use Rattle.conditions.specs.declared.cuts.Unkept.{Unkept}
use Rattle.conditions.specs.Chosen.{IsKept}
use Rattle.answers.specs.Kept.{IsUnkept}
use Rattle.planarbend_c.specs.Cuts.{CutModel, HoldsCut}
use Rattle.planarbend_c.specs.Sources.{Input, IsOneRecord, IsTooLarge, input_lists}
use Rattle.planarbend_c.specs.declared.request.Outcome.{Outcome}
use Rattle.planarbend_c.specs.declared.request.Outcome.TheVariants.{Refused, NotARecord, Memory, Argument, NoShape, NoEdge, NoOuter, Wide, Large, Conflict}

-- what an outcome shows of neighbour lists that are not laid out
abbrev pub IsFault : List (List ℕ) → Outcome → Type 0
-- the rule is broken, and none before it
IsFault g (Refused rule) = FirstBroken g rule
-- nothing is said
IsFault g Memory = ⊤
-- no other comes of it
IsFault g _ = ⊥

-- a shape that keeps the conditions has boxes, and no coordinates in their order are in the grid
pub record IsTooWide (conditions : Conditions) (choice : Choice) (g : List (List ℕ)) : Type 0 where
  pub plane : PlaneModel
  pub shape : ShapeModel
  pub prices : PricesModel
  pub lists : plane.lists ≡ g
  pub rules : IsPlane plane
  pub kept : IsKept conditions choice plane shape prices
  pub shown : IsCause plane shape cause.Wide

-- no shape keeps the angles and turns, and the vertices and faces that show it stand in the lists of the cut
pub record HasCut (conditions : Conditions) (choice : Choice) (g : List (List ℕ)) (cut : CutModel) : Type 0 where
  pub why : Unkept
  pub shown : IsUnkept conditions choice g (keep.NoShape why)
  pub held : HoldsCut why cut

-- what an outcome shows of them where conditions are to be kept
abbrev pub IsKeepingFault : Conditions → Choice → List (List ℕ) → CutModel → Outcome → Type 0
IsKeepingFault conditions choice g cut NoShape = HasCut conditions choice g cut
IsKeepingFault conditions choice g cut NoEdge = IsUnkept conditions choice g keep.NoEdge
IsKeepingFault conditions choice g cut Conflict = IsUnkept conditions choice g keep.Conflict
-- some angle is none, or there are more turns than can be given
IsKeepingFault conditions choice g cut Argument = IsUnkept conditions choice g keep.NoAngle ⊎ IsUnkept conditions choice g keep.TooManyTurns
IsKeepingFault conditions choice g cut NoOuter = IsUnkept conditions choice g keep.NoOuter
IsKeepingFault conditions choice g cut Wide = IsTooWide conditions choice g
IsKeepingFault conditions choice g cut outcome = IsFault g outcome

-- what an outcome shows of an input that is not laid out, where `Shows` says what it shows of the lists of a record
abbrev pub IsFaultOf : (List (List ℕ) → Outcome → Type 0) → Input → Outcome → Type 0
IsFaultOf Shows input NotARecord = (¬ IsOneRecord input) × (¬ IsTooLarge input)
IsFaultOf Shows input Large = IsTooLarge input
-- nothing is said
IsFaultOf Shows input Memory = ⊤
IsFaultOf Shows input outcome = IsOneRecord input × Shows (input_lists input) outcome

-- what it shows of an input that is not parsed as a record
abbrev pub IsUnparsed : Input → Outcome → Type 0
IsUnparsed input outcome = IsFaultOf (λ g shown. ⊥) input outcome

-- what it shows of an input where conditions are to be kept
abbrev pub IsKeepingFaultOf : Conditions → Choice → Input → CutModel → Outcome → Type 0
IsKeepingFaultOf conditions choice input cut outcome = IsFaultOf (λ g shown. IsKeepingFault conditions choice g cut shown) input outcome
