-- The requests that the arguments of a command line make.
use Rattle.std.specs.Prelude.{◌≡◌, ◌<◌, ◌≤◌, ◌+◌, ◌++◌, ◌↔◌, ◌&&◌, ◌||◌, if◌then◌else◌, ℕ, Bool, true, false, not, nat_eq, List, [], ◌∷◌, map, length, drop, String, Option, None, Some, Result, Ok, Err, ⊤, codes, bytes_eq, slice_index, string_bytes, vec_len}
use Rattle.std.specs.List.{count_by, starts_with}
use Rattle.std.specs.Option.{option_map_or}
use Rattle.std.specs.Str.Parse.{ParsesUnsigned}
use Rattle.std.specs.declared.alloc.Global.{Global}
use Rattle.common.specs.declared.parameters.Choice.{Choice}
use Rattle.streams.specs.declared.frames.Form.{Form}
use Rattle.common.specs.declared.parameters.DrawingKind.{DrawingKind}
use Rattle.common.specs.declared.parameters.DrawingKind.TheVariants.{Quick, Short}
use Rattle.reports.specs.declared.book.Style.{Style}
use Rattle.named_sources.specs.Naming.{is_input}
use Rattle.command_line.specs.declared.reading.Role.{Role}
use Rattle.command_line.specs.declared.reading.Role.TheVariants.{Command, Any, Value, File}
use Rattle.command_line.specs.declared.reading.Group.{Group}
use Rattle.command_line.specs.declared.reading.Group.TheVariants.{Selecting, Other}
use Rattle.command_line.specs.declared.reading.Setting.{Setting}
use Rattle.command_line.specs.declared.reading.Setting.TheVariants.{Lanes, Waiting, Outer, Drawing, Vertices, Edges, Faces, Bends, Rule, By}
use Rattle.command_line.specs.declared.reading.Keyword.{Keyword}
use Rattle.command_line.specs.declared.reading.Keyword.TheVariants as keyword
use Rattle.command_line.specs.declared.request.Request.{Request}
use Rattle.command_line.specs.declared.request.RunRequest.{RunRequest}
use Rattle.command_line.specs.declared.request.Request.TheVariants.{Frames, Layout, Check, Pick, Count}
use Rattle.graph_facts.specs.declared.selection.Range.{Range}
use Rattle.graph_facts.specs.declared.selection.RuleCondition.{RuleCondition}
use Rattle.graph_facts.specs.declared.selection.Selection.{Selection}
use Rattle.graph_facts.specs.declared.table.Columns.{Columns}
use Rattle.graph_facts.specs.Ranges.{IsRangeText}
use Rattle.graph_facts.specs.Words.{IsRuleText, columns_in, no_columns}

-- the argument begins with these two bytes
abbrev pub has_prefix : ℕ → ℕ → List ℕ → Bool
has_prefix first second word = nat_eq (slice_index word 0) first && nat_eq (slice_index word 1) second

-- an option that asks for help: '--help', or '-h' with anything after it
abbrev pub is_help : List ℕ → Bool
is_help word = bytes_eq word (codes "--help") || has_prefix 45 104 word

-- the group of the command with this name
abbrev pub group_of : List ℕ → Group
group_of word = if bytes_eq word (codes "pick") then Selecting else if bytes_eq word (codes "count") then Selecting else Other

-- in commands that select graphs `--faces` has a value
abbrev pub faces_of : Group → Option Setting
faces_of Selecting = Some Faces
faces_of Other = None

-- the option whose value is the argument after this one, if this is the name of such an option
abbrev pub setting_of : Group → List ℕ → Option Setting
setting_of group word =
    if bytes_eq word (codes "--lanes") then Some Lanes
    else if bytes_eq word (codes "--waiting") then Some Waiting
    else if bytes_eq word (codes "--outer") then Some Outer
    else if bytes_eq word (codes "--drawing") then Some Drawing
    else if bytes_eq word (codes "--vertices") then Some Vertices
    else if bytes_eq word (codes "--edges") then Some Edges
    else if bytes_eq word (codes "--bends") then Some Bends
    else if bytes_eq word (codes "--rule") then Some Rule
    else if bytes_eq word (codes "--by") then Some By
    else if bytes_eq word (codes "--faces") then faces_of group
    else None

-- the role of the argument after one that is the name of this option, or of none
abbrev pub value_role : Group → Option Setting → Role
value_role group None = Any group
value_role group (Some setting) = Value group setting

-- the role of the argument after this one, which has this role
abbrev pub role_after : Role → List ℕ → Role
role_after Command word = Any (group_of word)
role_after (Any group) word = if bytes_eq word (codes "--") then File else value_role group (setting_of group word)
role_after (Value group setting) word = Any group
role_after File word = File

-- the argument is a file: it does not begin with '--' at a place where an option may be
abbrev pub is_file : Role → List ℕ → Bool
is_file (Any group) word = not (has_prefix 45 45 word)
is_file File word = true
is_file _ word = false

-- the argument is an option: it begins with '-', and is not that alone
abbrev pub is_option : List ℕ → Bool
is_option word = nat_eq (slice_index word 0) 45 && not (bytes_eq word (codes "-"))

-- the argument asks for this
abbrev pub asks : Keyword → Role → List ℕ → Bool
asks keyword.Version Command word = bytes_eq word (codes "--version")
asks keyword.Frames Command word = bytes_eq word (codes "frames")
asks keyword.Layout Command word = bytes_eq word (codes "layout")
asks keyword.Check Command word = bytes_eq word (codes "check")
asks keyword.Pick Command word = bytes_eq word (codes "pick")
asks keyword.Count Command word = bytes_eq word (codes "count")
asks keyword.Json (Any group) word = bytes_eq word (codes "--json")
asks keyword.BestOuter (Any group) word = bytes_eq word (codes "--outer=best")
asks keyword.BestOuter (Value group Outer) word = bytes_eq word (codes "best")
asks keyword.ShortDrawing (Any group) word = bytes_eq word (codes "--drawing=short")
asks keyword.ShortDrawing (Value group Drawing) word = bytes_eq word (codes "short")
asks keyword.QuickDrawing (Any group) word = bytes_eq word (codes "--drawing=quick")
asks keyword.QuickDrawing (Value group Drawing) word = bytes_eq word (codes "quick")
asks keyword.Faces (Any group) word = bytes_eq word (codes "--faces")
asks keyword.Others (Any group) word = bytes_eq word (codes "--not")
asks keyword.Help File word = false
asks keyword.Help Command word = bytes_eq word (codes "help") || is_help word
asks keyword.Help _ word = is_help word
asks _ _ word = false

-- one of these arguments asks for this, the first of which has this role
abbrev pub asks_from : Keyword → Role → List (String Global) → Bool
asks_from w role [] = false
asks_from w role (word ∷ words) =
    if asks w role (string_bytes word) then true else asks_from w (role_after role (string_bytes word)) words

-- the files among these arguments, in order, the first of which has this role
abbrev pub files_from : Role → List (String Global) → List (List ℕ)
files_from role [] = []
files_from role (word ∷ words) =
    if is_file role (string_bytes word) then string_bytes word ∷ files_from (role_after role (string_bytes word)) words
    else files_from (role_after role (string_bytes word)) words

-- one of the arguments of a command line asks for this
abbrev pub asks_in : Keyword → List (String Global) → Bool
asks_in w words = asks_from w Command words

-- the files that a command line names, in order: all arguments that are neither the command nor an option nor the value
-- of one, and all after '--'
abbrev pub files_in : List (String Global) → List (List ℕ)
files_in words = files_from Command words

-- how often a command line names standard input
abbrev pub inputs_in : List (String Global) → ℕ
inputs_in words = count_by is_input (files_in words)

-- the drawing that a command line asks for; if it names none, a short one in JSON lines and a quick one in the report
abbrev pub drawing_in : List (String Global) → DrawingKind
drawing_in words =
    if asks_in keyword.ShortDrawing words then Short
    else if asks_in keyword.QuickDrawing words then Quick
    else if asks_in keyword.Json words then Short
    else Quick

-- the rest of an argument after this prefix, if it begins with it
abbrev pub given_after : List ℕ → List ℕ → Option (List ℕ)
given_after front word = if starts_with nat_eq word front then Some (drop (length front) word) else None

-- what an argument begins with that has this option and its value
abbrev pub prefix_of : Setting → List ℕ
prefix_of Lanes = codes "--lanes="
prefix_of Waiting = codes "--waiting="
prefix_of Outer = codes "--outer="
prefix_of Drawing = codes "--drawing="
prefix_of Vertices = codes "--vertices="
prefix_of Edges = codes "--edges="
prefix_of Faces = codes "--faces="
prefix_of Bends = codes "--bends="
prefix_of Rule = codes "--rule="
prefix_of By = codes "--by="

-- the text that an argument in this role gives for an option: the argument itself, or what follows '='
abbrev pub setting_text : Setting → Role → List ℕ → Option (List ℕ)
setting_text setting (Value group other) word = if bytes_eq (prefix_of setting) (prefix_of other) then Some word else None
setting_text setting (Any group) word = given_after (prefix_of setting) word
setting_text setting Command word = None
setting_text setting File word = None

-- what follows the name of an option is nothing, or '=' and a value
abbrev pub ends_option : Option (List ℕ) → Bool
ends_option None = false
ends_option (Some []) = true
ends_option (Some (byte ∷ bytes)) = nat_eq byte 61

-- the argument is the option with this name, alone or with '=' and a value
abbrev pub is_of : List ℕ → List ℕ → Bool
is_of name word = ends_option (given_after name word)

abbrev pub is_outer : List ℕ → Bool
is_outer word = bytes_eq word (codes "first") || bytes_eq word (codes "best")

abbrev pub is_drawing : List ℕ → Bool
is_drawing word = bytes_eq word (codes "short") || bytes_eq word (codes "quick")

-- the argument is the option with this name, alone or with '=' and a value that passes a test
abbrev pub is_of_with : List ℕ → (List ℕ → Bool) → List ℕ → Bool
is_of_with name passes word = bytes_eq word name || option_map_or passes (given_after (name ++ codes "=") word) false

-- the argument is an option of each of `layout`, `pick` and `count`
abbrev pub is_run_option : List ℕ → Bool
is_run_option word =
    if bytes_eq word (codes "--progress") then true
    else if is_of (codes "--lanes") word then true
    else is_of_with (codes "--outer") is_outer word

-- the argument is an option that sets a condition on graphs, or asks for the other graphs
abbrev pub is_condition : List ℕ → Bool
is_condition word =
    if bytes_eq word (codes "--not") then true
    else if is_of (codes "--vertices") word then true
    else if is_of (codes "--edges") word then true
    else if is_of (codes "--faces") word then true
    else if is_of (codes "--bends") word then true
    else is_of (codes "--rule") word

-- the argument is an option of this command
abbrev pub is_option_of : Keyword → List ℕ → Bool
is_option_of keyword.Layout word =
    if is_run_option word then true
    else if bytes_eq word (codes "--json") then true
    else if is_of (codes "--waiting") word then true
    else is_of_with (codes "--drawing") is_drawing word
is_option_of keyword.Check word = bytes_eq word (codes "--json") || bytes_eq word (codes "--faces")
is_option_of keyword.Pick word =
    if is_run_option word then true
    else if is_of (codes "--waiting") word then true
    else is_condition word
is_option_of keyword.Count word =
    if is_run_option word then true
    else if is_of (codes "--by") word then true
    else is_condition word
is_option_of _ word = false

-- an argument of this command may stand in this role: it is no option, or one of this command, and a value is one that
-- its option takes
abbrev pub fits : Keyword → Role → List ℕ → Bool
fits command (Any group) word =
    if bytes_eq word (codes "--") then true else if is_option word then is_option_of command word else true
fits command (Value group Outer) word = is_outer word
fits command (Value group Drawing) word = is_drawing word
fits command _ word = true

-- no value of an option is missing before an argument in this role
abbrev pub may_end : Role → Bool
may_end Command = true
may_end (Any group) = true
may_end File = true
may_end _ = false

-- each of these arguments fits this command, the first of which has this role, and no value is missing after them
abbrev pub fit_from : Keyword → Role → List (String Global) → Bool
fit_from command role [] = may_end role
fit_from command role (word ∷ words) =
    if fits command role (string_bytes word) then fit_from command (role_after role (string_bytes word)) words else false

-- an argument in this role uses the option with this name
abbrev pub is_use : List ℕ → Role → List ℕ → Bool
is_use name (Any group) word = is_of name word
is_use name _ word = false

-- how often these arguments use the option with this name, the first of which has this role
abbrev pub uses_from : List ℕ → Role → List (String Global) → ℕ
uses_from name role [] = 0
uses_from name role (word ∷ words) =
    (if is_use name role (string_bytes word) then 1 else 0) + uses_from name (role_after role (string_bytes word)) words

abbrev pub uses_in : List ℕ → List (String Global) → ℕ
uses_in name words = uses_from name Command words

-- The arguments of a command line are valid for this command: each fits, and no option but `--progress` is used twice.
pub record AreValid (command : Keyword) (words : List (String Global)) : Type 0 where
  pub fit : fit_from command Command words ≡ true
  pub lanes : uses_in (codes "--lanes") words ≤ 1
  pub waiting : uses_in (codes "--waiting") words ≤ 1
  pub outer : uses_in (codes "--outer") words ≤ 1
  pub drawing : uses_in (codes "--drawing") words ≤ 1
  pub json : uses_in (codes "--json") words ≤ 1
  pub faces : uses_in (codes "--faces") words ≤ 1
  pub vertices : uses_in (codes "--vertices") words ≤ 1
  pub edges : uses_in (codes "--edges") words ≤ 1
  pub bends : uses_in (codes "--bends") words ≤ 1
  pub rule : uses_in (codes "--rule") words ≤ 1
  pub by : uses_in (codes "--by") words ≤ 1
  pub others : uses_in (codes "--not") words ≤ 1

-- the first of two texts that there is
abbrev pub text_or : Option (List ℕ) → Option (List ℕ) → Option (List ℕ)
text_or (Some text) other = Some text
text_or None other = other

-- the text given for an option by the first of these arguments that gives one, where the first argument has this role
abbrev pub setting_text_from : Setting → Role → List (String Global) → Option (List ℕ)
setting_text_from s role [] = None
setting_text_from s role (word ∷ words) = text_or (setting_text s role (string_bytes word)) (setting_text_from s (role_after role (string_bytes word)) words)

-- the text that a command line gives for an option
abbrev pub setting_text_in : Setting → List (String Global) → Option (List ℕ)
setting_text_in s words = setting_text_from s Command words

-- the value of a number's text; 0 if it is not a decimal number or does not fit in 32 bits
abbrev pub number_or_0 : Result ℕ ⊤ → ℕ
number_or_0 (Ok n) = n
number_or_0 (Err fault) = 0

-- a number is what its text says, and if there is no text, this
abbrev pub IsNumberOf : ℕ → Option (List ℕ) → ℕ → Type 0
IsNumberOf otherwise None n = n ≡ otherwise
IsNumberOf otherwise (Some text) n = (parsed : Result ℕ ⊤) × ParsesUnsigned 32 10 text parsed × (n ≡ number_or_0 parsed)

-- the number of lanes and the number of megabytes that a command line asks for
abbrev pub AreLanesIn : List (String Global) → ℕ → Type 0
AreLanesIn words n = IsNumberOf 1 (setting_text_in Lanes words) n

abbrev pub IsWaitingIn : List (String Global) → ℕ → Type 0
IsWaitingIn words n = IsNumberOf 64 (setting_text_in Waiting words) n

-- this limit on buffered text, in megabytes, is in range
abbrev pub IsWaiting : ℕ → Type 0
IsWaiting waiting = (1 ≤ waiting) × (waiting ≤ 65536)

-- the arguments ask for this run: over its files, of which at most one is standard input, under its choice, over its
-- number of lanes. Here and below, arguments that are not valid, and those that ask for help, ask for nothing
pub record AsksRun (words : List (String Global)) (run : RunRequest) : Type 0 where
  pub no_help : asks_in keyword.Help words ≡ false
  pub files : map (λ name. name.now) run.names.items ≡ files_in words
  pub some : 0 < vec_len run.names
  pub once : inputs_in words ≤ 1
  pub best : (run.choice ≡ Choice.Best) ↔ (asks_in keyword.BestOuter words ≡ true)
  pub lanes_in : AreLanesIn words run.lanes

-- the arguments ask for a layout in this style, in a run with this limit on buffered text in megabytes. A kind of drawing
-- is named for JSON lines alone
pub record AsksLayout (words : List (String Global)) (run : RunRequest) (style : Style) (waiting : ℕ) : Type 0 where
  pub command : asks_in keyword.Layout words ≡ true
  pub valid : AreValid keyword.Layout words
  pub asks_run : AsksRun words run
  pub json : (style.form ≡ Form.Json) ↔ (asks_in keyword.Json words ≡ true)
  pub drawing : style.drawing_kind ≡ drawing_in words
  pub waiting_in : IsWaitingIn words waiting
  pub in_range : IsWaiting waiting
  pub needs_json : (asks_in keyword.ShortDrawing words || asks_in keyword.QuickDrawing words) ≡ true → asks_in keyword.Json words ≡ true

-- the range that a text names, if there is a text
abbrev pub IsRangeOf : Option (List ℕ) → Option Range → Type 0
IsRangeOf None None = ⊤
IsRangeOf (Some text) (Some range) = IsRangeText text range
IsRangeOf _ _ = ⊥

-- the condition on the first broken rule that a text names, if there is a text
abbrev pub IsRuleOf : Option (List ℕ) → Option RuleCondition → Type 0
IsRuleOf None None = ⊤
IsRuleOf (Some text) (Some rule) = IsRuleText text rule
IsRuleOf _ _ = ⊥

-- the columns that a text lists, and without a text none
abbrev pub columns_of : Option (List ℕ) → Option Columns
columns_of None = Some no_columns
columns_of (Some text) = columns_in text

-- the arguments select these graphs
pub record IsSelectedBy (words : List (String Global)) (selection : Selection) : Type 0 where
  pub vertices : IsRangeOf (setting_text_in Vertices words) selection.conditions.vertices
  pub edges : IsRangeOf (setting_text_in Edges words) selection.conditions.edges
  pub faces : IsRangeOf (setting_text_in Faces words) selection.conditions.faces
  pub bends : IsRangeOf (setting_text_in Bends words) selection.conditions.bends
  pub rule : IsRuleOf (setting_text_in Rule words) selection.conditions.rule
  pub others : selection.others ≡ asks_in keyword.Others words

-- the arguments ask for the records of these graphs, in a run with this limit on buffered bytes in megabytes
pub record AsksPick (words : List (String Global)) (run : RunRequest) (selection : Selection) (waiting : ℕ) : Type 0 where
  pub command : asks_in keyword.Pick words ≡ true
  pub valid : AreValid keyword.Pick words
  pub asks_run : AsksRun words run
  pub selected : IsSelectedBy words selection
  pub waiting_in : IsWaitingIn words waiting
  pub in_range : IsWaiting waiting

-- the arguments ask for the numbers of these graphs in a table with these columns
pub record AsksCount (words : List (String Global)) (run : RunRequest) (selection : Selection) (columns : Columns) : Type 0 where
  pub command : asks_in keyword.Count words ≡ true
  pub valid : AreValid keyword.Count words
  pub asks_run : AsksRun words run
  pub selected : IsSelectedBy words selection
  pub columns_in : columns_of (setting_text_in By words) ≡ Some columns

-- the arguments ask for the records of this file
pub record AsksFrames (words : List (String Global)) (name : List ℕ) : Type 0 where
  pub command : asks_in keyword.Frames words ≡ true
  pub valid : AreValid keyword.Frames words
  pub no_help : asks_in keyword.Help words ≡ false
  pub file : files_in words ≡ name ∷ []

-- the arguments ask for the verdicts on the drawings in one file, line by line, of the graphs in another one, of which at
-- most one is standard input, in this form; `faces` says whether each region must also be its face
pub record AsksCheck (words : List (String Global)) (graphs lines : List ℕ) (form : Form) (faces : Bool) : Type 0 where
  pub command : asks_in keyword.Check words ≡ true
  pub valid : AreValid keyword.Check words
  pub no_help : asks_in keyword.Help words ≡ false
  pub files : files_in words ≡ graphs ∷ lines ∷ []
  pub once : inputs_in words ≤ 1
  pub json : (form ≡ Form.Json) ↔ (asks_in keyword.Json words ≡ true)
  pub faces_in : faces ≡ asks_in keyword.Faces words

-- if the request has a limit on buffered text, it is in range
abbrev pub HasWaiting : Request → Type 0
HasWaiting (Frames name) = ⊤
HasWaiting (Layout asked) = IsWaiting asked.waiting
HasWaiting (Check asked) = ⊤
HasWaiting (Pick asked) = IsWaiting asked.waiting
HasWaiting (Count asked) = ⊤

-- the request is what the arguments ask for
abbrev pub IsAskedBy : List (String Global) → Request → Type 0
IsAskedBy words (Frames name) = AsksFrames words name.now
IsAskedBy words (Layout asked) = AsksLayout words asked.run asked.style asked.waiting
IsAskedBy words (Check asked) = AsksCheck words asked.graphs.now asked.lines.now asked.form asked.faces
IsAskedBy words (Pick asked) = AsksPick words asked.run asked.selection asked.waiting
IsAskedBy words (Count asked) = AsksCount words asked.run asked.selection asked.columns

-- the arguments ask for nothing
abbrev pub AsksNothing : List (String Global) → Type 0
AsksNothing words = (request : Request) → ¬ IsAskedBy words request
