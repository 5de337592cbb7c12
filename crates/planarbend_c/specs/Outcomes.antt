-- What comes of a call, by its number, and what it shows.
use Rattle.std.specs.Prelude.{◌≡◌, ◌⊎◌, ℕ, List, Option, Some, None, is_some, ⊤}
use Rattle.embedding.specs.Rules.{FirstBroken}
use Rattle.common.specs.declared.parameters.Choice.{Choice}
use Rattle.common.specs.declared.parameters.DrawingKind.{DrawingKind}
use Rattle.planarbend_c.specs.declared.request.Request.{Request}
use Rattle.planarbend_c.specs.Cuts.{CutModel}
use Rattle.planarbend_c.specs.Sources.{Input, IsOneRecord, IsTooLarge, input_lists, input_of}
use Rattle.planarbend_c.specs.Faults.{IsKeepingFault}
use Rattle.planarbend_c.specs.declared.lists.Counts.{Counts}
use Rattle.planarbend_c.specs.declared.request.Outcome.{Outcome}
use Rattle.planarbend_c.specs.declared.request.Outcome.TheVariants.{Laid, Refused, NotARecord, Memory, Room, Argument, NoShape, NoEdge, NoOuter, Wide, Large, Conflict}
use Rattle.planarbend_c.specs.Requests.{AsksNothing, choice_in, drawing_in}
use Rattle.planarbend_c.specs.Held.{ListsModel}
use Rattle.planarbend_c.specs.Found.{Finding, IsAsAsked, IsFound, IsFoundKeeping, AreCounts, HoldFinding, HaveRoom}

-- the input is one record, of which something is found under what the numbers of an outer face and of a drawing ask for:
-- `Is` says what
pub record IsAnswerOf (Is : Choice → List (List ℕ) → Finding → Type 0) (input : Input) (outer drawing : ℕ) (found : Finding) : Type 0 where
  pub choice : Choice
  pub choice_asked : choice_in outer ≡ Some choice
  pub kind : Option DrawingKind
  pub kind_asked : drawing_in drawing ≡ Some kind
  -- it is what this kind of drawing asks for
  pub as_asked : IsAsAsked kind found
  pub is_record : IsOneRecord input
  pub is_found : Is choice (input_lists input) found

-- what is found of the record stands in the counts and in the lists
pub record IsLaidOut (Is : Choice → List (List ℕ) → Finding → Type 0) (input : Input) (outer drawing : ℕ) (counts : Counts) (lists : ListsModel) : Type 0 where
  pub found : Finding
  pub answer : IsAnswerOf Is input outer drawing found
  pub counted : AreCounts found counts
  pub held : HoldFinding found lists

-- what is found stands in the counts, and some list has room for less
pub record LacksRoom (Is : Choice → List (List ℕ) → Finding → Type 0) (input : Input) (outer drawing : ℕ) (counts : Counts) (lists : ListsModel) : Type 0 where
  pub found : Finding
  pub answer : IsAnswerOf Is input outer drawing found
  pub counted : AreCounts found counts
  pub short : ¬ HaveRoom (is_some found.points) counts lists

-- no such outer face can be asked for, or no such drawing
abbrev pub IsUnknown : ℕ → ℕ → Type 0
IsUnknown outer drawing = (choice_in outer ≡ None) ⊎ (drawing_in drawing ≡ None)

-- what an outcome shows, where `Unkept` says what is shown where conditions are not kept
abbrev pub IsOutcomeOf : (Choice → List (List ℕ) → Finding → Type 0) → (Outcome → Type 0) → Input → ℕ → ℕ → Counts → ListsModel → Outcome → Type 0
IsOutcomeOf Is Unkept input outer drawing counts lists Laid = IsLaidOut Is input outer drawing counts lists
-- the rule is broken, and none before it
IsOutcomeOf Is Unkept input outer drawing counts lists (Refused rule) = IsOneRecord input × FirstBroken (input_lists input) rule
IsOutcomeOf Is Unkept input outer drawing counts lists NotARecord = (¬ IsOneRecord input) × (¬ IsTooLarge input)
-- nothing is said
IsOutcomeOf Is Unkept input outer drawing counts lists Memory = ⊤
IsOutcomeOf Is Unkept input outer drawing counts lists Room = LacksRoom Is input outer drawing counts lists
IsOutcomeOf Is Unkept input outer drawing counts lists Argument = IsUnknown outer drawing ⊎ Unkept Argument
IsOutcomeOf Is Unkept input outer drawing counts lists NoShape = Unkept NoShape
IsOutcomeOf Is Unkept input outer drawing counts lists NoEdge = Unkept NoEdge
IsOutcomeOf Is Unkept input outer drawing counts lists NoOuter = Unkept NoOuter
IsOutcomeOf Is Unkept input outer drawing counts lists Wide = Unkept Wide
-- the number of vertices is above the maximum
IsOutcomeOf Is Unkept input outer drawing counts lists Large = IsTooLarge input
IsOutcomeOf Is Unkept input outer drawing counts lists Conflict = Unkept Conflict

-- without conditions nothing is unkept
abbrev pub IsOutcomePlain : Request → Counts → ListsModel → Outcome → Type 0
IsOutcomePlain request counts lists outcome =
    IsOutcomeOf IsFound (λ _. ⊥) (input_of request.source) request.outer request.drawing counts lists outcome

-- a choice that is asked for, and what is shown of the record under it
pub record IsUnlaid (request : Request) (cut : CutModel) (outcome : Outcome) : Type 0 where
  pub choice : Choice
  pub choice_asked : choice_in request.outer ≡ Some choice
  pub is_record : IsOneRecord (input_of request.source)
  pub shown : IsKeepingFault request.conditions choice (input_lists (input_of request.source)) cut outcome

-- with conditions
abbrev pub IsOutcomeKeeping : Request → Counts → ListsModel → CutModel → Outcome → Type 0
IsOutcomeKeeping request counts lists cut outcome =
    IsOutcomeOf (IsFoundKeeping request.conditions) (IsUnlaid request cut) (input_of request.source) request.outer request.drawing counts lists outcome

-- what an outcome shows of a request
pub record IsOutcome (request : Request) (counts : Counts) (lists : ListsModel) (cut : CutModel) (outcome : Outcome) : Type 0 where
  pub plain : AsksNothing request.conditions → IsOutcomePlain request counts lists outcome
  pub keeping : ¬ AsksNothing request.conditions → IsOutcomeKeeping request counts lists cut outcome

-- what an outcome shows of a finding that is told to C
abbrev pub IsTold : Finding → Counts → ListsModel → Outcome → Type 0
IsTold found counts lists Laid = AreCounts found counts × HoldFinding found lists
IsTold found counts lists Room = AreCounts found counts × (¬ HaveRoom (is_some found.points) counts lists)
IsTold found counts lists Memory = ⊤
-- no other comes of it
IsTold found counts lists _ = ⊥
