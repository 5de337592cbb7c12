-- From what is told of a finding to what comes of a call.
use Rattle.std.proofs.Common.{◌≡◌, ◌∙◌, ℕ, List, Bool, false, Option, Some, None, ap, inr, is_some, sym}
use Rattle.common.specs.declared.parameters.Choice.{Choice}
use Rattle.common.specs.declared.parameters.DrawingKind.{DrawingKind}
use Rattle.planarbend_c.specs.declared.lists.Counts.{Counts}
use Rattle.planarbend_c.specs.declared.request.Outcome.{Outcome}
use Rattle.planarbend_c.specs.declared.request.Outcome.TheVariants.{Laid, Refused, NotARecord, Memory, Room, Argument, NoShape, NoEdge, NoOuter, Wide, Large, Conflict}
use Rattle.planarbend_c.specs.declared.request.Request.{Request}
use Rattle.planarbend_c.specs.Cuts.{CutModel}
use Rattle.planarbend_c.specs.Sources.{Input, IsOneRecord, input_lists, input_of}
use Rattle.planarbend_c.specs.Faults.{IsFault, IsFaultOf, IsKeepingFaultOf, IsUnparsed}
use Rattle.planarbend_c.specs.Requests.{choice_in, drawing_in}
use Rattle.planarbend_c.specs.Held.{ListsModel}
use Rattle.planarbend_c.specs.Found.{Finding, IsAsAsked, IsFound}
use Rattle.planarbend_c.specs.Outcomes.{IsAnswerOf, IsOutcomeKeeping, IsOutcomeOf, IsTold}

-- what is found is an answer
pub answer_of : (Is : Choice → List (List ℕ) → Finding → Type 0) (input : Input) (outer drawing : ℕ) (choice : Choice) (kind : Option DrawingKind) (found : Finding)
    → choice_in outer ≡ Some choice → drawing_in drawing ≡ Some kind → IsOneRecord input → Is choice (input_lists input) found
    → IsAsAsked kind found
    → IsAnswerOf Is input outer drawing found
answer_of Is input outer drawing choice kind found choice_asked kind_asked is_record is_found asked =
    record {
      choice = choice;
      choice_asked = choice_asked;
      kind = kind;
      kind_asked = kind_asked;
      as_asked = asked;
      is_record = is_record;
      is_found = is_found;
    }

-- what is told of an answer is what comes of the call
pub told : (Is : Choice → List (List ℕ) → Finding → Type 0) (Unkept : Outcome → Type 0) (input : Input) (outer drawing : ℕ) (found : Finding) (counts : Counts) (lists : ListsModel) (outcome : Outcome)
    → IsAnswerOf Is input outer drawing found → IsTold found counts lists outcome → IsOutcomeOf Is Unkept input outer drawing counts lists outcome
told Is Unkept input outer drawing found counts lists Laid answer is =
    record { found = found; answer = answer; counted = is.0; held = is.1 }
told Is Unkept input outer drawing found counts lists Room answer is =
    record { found = found; answer = answer; counted = is.0; short = is.1 }
told Is Unkept input outer drawing found counts lists Memory answer is = tt
told Is Unkept input outer drawing found counts lists (Refused rule) answer is = absurd is
told Is Unkept input outer drawing found counts lists NotARecord answer is = absurd is
told Is Unkept input outer drawing found counts lists Argument answer is = absurd is
told Is Unkept input outer drawing found counts lists NoShape answer is = absurd is
told Is Unkept input outer drawing found counts lists NoEdge answer is = absurd is
told Is Unkept input outer drawing found counts lists NoOuter answer is = absurd is
told Is Unkept input outer drawing found counts lists Wide answer is = absurd is
told Is Unkept input outer drawing found counts lists Large answer is = absurd is
told Is Unkept input outer drawing found counts lists Conflict answer is = absurd is

-- what is shown of the lists of a record is shown of the input
pub of_record : (Shows : List (List ℕ) → Outcome → Type 0) (input : Input) (it : Outcome) → IsOneRecord input → (Shows (input_lists input) NotARecord → ⊥) → (Shows (input_lists input) Large → ⊥)
    → Shows (input_lists input) it → IsFaultOf Shows input it
of_record Shows input (Refused rule) is_record never never_large shown = (is_record, shown)
of_record Shows input NotARecord is_record never never_large shown = absurd (never shown)
of_record Shows input Memory is_record never never_large shown = tt
of_record Shows input Laid is_record never never_large shown = (is_record, shown)
of_record Shows input Room is_record never never_large shown = (is_record, shown)
of_record Shows input Argument is_record never never_large shown = (is_record, shown)
of_record Shows input NoShape is_record never never_large shown = (is_record, shown)
of_record Shows input NoEdge is_record never never_large shown = (is_record, shown)
of_record Shows input NoOuter is_record never never_large shown = (is_record, shown)
of_record Shows input Wide is_record never never_large shown = (is_record, shown)
of_record Shows input Large is_record never never_large shown = absurd (never_large shown)
of_record Shows input Conflict is_record never never_large shown = (is_record, shown)

-- a refusal is what comes of the call
pub refused_told : (input : Input) (outer drawing : ℕ) (counts : Counts) (lists : ListsModel) (it : Outcome)
    → IsFaultOf IsFault input it → IsOutcomeOf IsFound (λ _. ⊥) input outer drawing counts lists it
refused_told input outer drawing counts lists (Refused rule) shown = shown
refused_told input outer drawing counts lists NotARecord shown = shown
refused_told input outer drawing counts lists Memory shown = tt
refused_told input outer drawing counts lists Laid shown = absurd shown.1
refused_told input outer drawing counts lists Room shown = absurd shown.1
refused_told input outer drawing counts lists Argument shown = absurd shown.1
refused_told input outer drawing counts lists NoShape shown = absurd shown.1
refused_told input outer drawing counts lists NoEdge shown = absurd shown.1
refused_told input outer drawing counts lists NoOuter shown = absurd shown.1
refused_told input outer drawing counts lists Wide shown = absurd shown.1
refused_told input outer drawing counts lists Large shown = shown
refused_told input outer drawing counts lists Conflict shown = absurd shown.1

-- the same where conditions are to be kept
pub unlaid_told : (request : Request) (choice : Choice) (counts : Counts) (lists : ListsModel) (cut : CutModel) (it : Outcome)
    → choice_in request.outer ≡ Some choice → IsKeepingFaultOf request.conditions choice (input_of request.source) cut it
    → IsOutcomeKeeping request counts lists cut it
unlaid_told request choice counts lists cut (Refused rule) asked shown = shown
unlaid_told request choice counts lists cut NotARecord asked shown = shown
unlaid_told request choice counts lists cut Memory asked shown = tt
unlaid_told request choice counts lists cut NoShape asked shown = record { choice = choice; choice_asked = asked; is_record = shown.0; shown = shown.1 }
unlaid_told request choice counts lists cut NoEdge asked shown = record { choice = choice; choice_asked = asked; is_record = shown.0; shown = shown.1 }
unlaid_told request choice counts lists cut NoOuter asked shown = record { choice = choice; choice_asked = asked; is_record = shown.0; shown = shown.1 }
unlaid_told request choice counts lists cut Wide asked shown = record { choice = choice; choice_asked = asked; is_record = shown.0; shown = shown.1 }
unlaid_told request choice counts lists cut Large asked shown = shown
unlaid_told request choice counts lists cut Laid asked shown = absurd shown.1
unlaid_told request choice counts lists cut Room asked shown = absurd shown.1
unlaid_told request choice counts lists cut Argument asked shown = inr (record { choice = choice; choice_asked = asked; is_record = shown.0; shown = shown.1 })
unlaid_told request choice counts lists cut Conflict asked shown = record { choice = choice; choice_asked = asked; is_record = shown.0; shown = shown.1 }

-- an input that is not parsed is not laid out
pub unparsed_anyhow : (Shows : List (List ℕ) → Outcome → Type 0) (input : Input) (it : Outcome) → IsUnparsed input it → IsFaultOf Shows input it
unparsed_anyhow Shows input NotARecord shown = shown
unparsed_anyhow Shows input Memory shown = tt
unparsed_anyhow Shows input (Refused rule) shown = absurd shown.1
unparsed_anyhow Shows input Laid shown = absurd shown.1
unparsed_anyhow Shows input Room shown = absurd shown.1
unparsed_anyhow Shows input Argument shown = absurd shown.1
unparsed_anyhow Shows input NoShape shown = absurd shown.1
unparsed_anyhow Shows input NoEdge shown = absurd shown.1
unparsed_anyhow Shows input NoOuter shown = absurd shown.1
unparsed_anyhow Shows input Wide shown = absurd shown.1
unparsed_anyhow Shows input Large shown = shown
unparsed_anyhow Shows input Conflict shown = absurd shown.1

-- whether a kind of drawing is asked for
abbrev is_drawn_in : Option (Option DrawingKind) → Bool
is_drawn_in None = false
is_drawn_in (Some kind) = is_some kind

-- where no drawing is asked for there are no points
pub not_drawn : (drawing : ℕ) (kind : Option DrawingKind) (found : Finding) → drawing_in drawing ≡ Some kind → IsAsAsked kind found
    → drawing_in drawing ≡ Some None → is_some found.points ≡ false
not_drawn drawing kind found asked as_asked none = as_asked.points ∙ ap is_drawn_in (sym asked ∙ none)
