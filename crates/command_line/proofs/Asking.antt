-- Arguments ask for one thing at most.
use Rattle.std.proofs.Common.{◌≡◌, ◌≢◌, ◌∙◌, ◌≤◌, ◌<◌, if◌then◌else◌, ℕ, Bool, true, false, List, [], ◌∷◌, map, length, String, Global, Bor, Option, None, Some, Result, Ok, Err, string_bytes, codes, bytes_eq, refl, ap, sym, subst, true≢false, arith}
use Rattle.std.proofs.lemmas.List.{length-map}
use Rattle.std.specs.List.{count_by}
use Rattle.named_sources.specs.Naming.{is_input}
use Rattle.std.specs.Prelude.{⊤}
use Rattle.std.specs.Str.Parse.{ParsesUnsigned}
use Rattle.std.proofs.lemmas.Slice.Eq.{bytes_eq-Decides}
use Rattle.command_line.specs.declared.reading.Role.{Role}
use Rattle.command_line.specs.declared.reading.Role.TheVariants.{Command, Any, Value, File}
use Rattle.command_line.specs.declared.reading.Group.{Group}
use Rattle.command_line.specs.declared.reading.Setting.{Setting}
use Rattle.command_line.specs.declared.reading.Keyword.{Keyword}
use Rattle.command_line.specs.declared.reading.Keyword.TheVariants as keyword
use Rattle.command_line.specs.declared.request.Request.{Request}
use Rattle.command_line.specs.declared.request.Request.TheVariants as request
use Rattle.command_line.specs.declared.request.RunRequest.{RunRequest}
use Rattle.command_line.specs.declared.request.LayoutRequest.{LayoutRequest}
use Rattle.command_line.specs.declared.request.PickRequest.{PickRequest}
use Rattle.command_line.specs.declared.request.CountRequest.{CountRequest}
use Rattle.command_line.specs.Requests.{role_after, setting_of, value_role, asks, asks_from, asks_in, files_in, inputs_in, IsNumberOf, number_or_0, AreValid, IsAskedBy, AsksRun, AsksLayout, AsksPick, AsksCount, AsksNothing}

-- ---- the first argument is the command

-- no later argument is in its role
valued : (group : Group) (setting : Option Setting) → value_role group setting ≡ Command → ⊥
valued group None is = cc
valued group (Some setting) is = cc

optional : (dashes : Bool) (group : Group) (setting : Option Setting) → (if dashes then File else value_role group setting) ≡ Command → ⊥
optional true group setting is = cc
optional false group setting is = valued group setting is

later : (role : Role) (word : List ℕ) → role_after role word ≢ Command
later Command word is = cc
later (Any group) word is = optional _ group (setting_of group word) is
later (Value group setting) word is = cc
later File word is = cc

-- what only the command asks for
abbrev IsOfCommand : Keyword → Type 0
IsOfCommand w = (role : Role) (word : List ℕ) → role ≢ Command → asks w role word ≡ false

version_only : IsOfCommand keyword.Version
version_only Command word not = absurd (not refl)
version_only (Any group) word not = refl
version_only (Value group setting) word not = refl
version_only File word not = refl

frames_only : IsOfCommand keyword.Frames
frames_only Command word not = absurd (not refl)
frames_only (Any group) word not = refl
frames_only (Value group setting) word not = refl
frames_only File word not = refl

layout_only : IsOfCommand keyword.Layout
layout_only Command word not = absurd (not refl)
layout_only (Any group) word not = refl
layout_only (Value group setting) word not = refl
layout_only File word not = refl

check_only : IsOfCommand keyword.Check
check_only Command word not = absurd (not refl)
check_only (Any group) word not = refl
check_only (Value group setting) word not = refl
check_only File word not = refl

pick_only : IsOfCommand keyword.Pick
pick_only Command word not = absurd (not refl)
pick_only (Any group) word not = refl
pick_only (Value group setting) word not = refl
pick_only File word not = refl

count_only : IsOfCommand keyword.Count
count_only Command word not = absurd (not refl)
count_only (Any group) word not = refl
count_only (Value group setting) word not = refl
count_only File word not = refl

rest_silent : (w : Keyword) → IsOfCommand w → (role : Role) → role ≢ Command → (words : List (String Global)) → asks_from w role words ≡ false
rest_silent w only role not [] = refl
rest_silent w only role not (word ∷ words) =
    ap (λ (b : Bool). if b then true else asks_from w (role_after role (string_bytes word)) words) (only role (string_bytes word) not)
    ∙ rest_silent w only (role_after role (string_bytes word)) (later role (string_bytes word)) words

first_of_two : (b rest : Bool) → rest ≡ false → (if b then true else rest) ≡ true → b ≡ true
first_of_two true rest none is = refl
first_of_two false rest none is = sym none ∙ is

-- the first argument asks for it
first_asks : (w : Keyword) → IsOfCommand w → (word : String Global) (words : List (String Global)) → asks_in w (word ∷ words) ≡ true → asks w Command (string_bytes word) ≡ true
first_asks w only word words is =
    first_of_two (asks w Command (string_bytes word)) (asks_from w (role_after Command (string_bytes word)) words)
    (rest_silent w only (role_after Command (string_bytes word)) (later Command (string_bytes word)) words) is

-- the first argument is this
abbrev pub BeginsWith : List ℕ → List (String Global) → Type 0
BeginsWith name [] = ⊥
BeginsWith name (word ∷ words) = string_bytes word ≡ name

-- it is not another one
pub one_beginning : (words : List (String Global)) (a b : List ℕ) → bytes_eq a b ≡ false → BeginsWith a words → BeginsWith b words → ⊥
one_beginning [] a b differ is also = is
one_beginning (word ∷ words) a b differ is also = true≢false (sym ((bytes_eq-Decides a b).1 (sym is ∙ also)) ∙ differ)

-- arguments that ask for what only the command asks for, and which this name asks for, begin with it
begins : (w : Keyword) (name : List ℕ) → IsOfCommand w → ((word : List ℕ) → asks w Command word ≡ bytes_eq word name) → (words : List (String Global))
    → asks_in w words ≡ true → BeginsWith name words
begins w name only named [] is = absurd (true≢false (sym is))
begins w name only named (word ∷ words) is =
    (bytes_eq-Decides (string_bytes word) name).0 (sym (named (string_bytes word)) ∙ first_asks w only word words is)

pub version_begins : (words : List (String Global)) → asks_in keyword.Version words ≡ true → BeginsWith (codes "--version") words
version_begins = begins keyword.Version (codes "--version") version_only (λ word. refl)

pub frames_begins : (words : List (String Global)) → asks_in keyword.Frames words ≡ true → BeginsWith (codes "frames") words
frames_begins = begins keyword.Frames (codes "frames") frames_only (λ word. refl)

pub layout_begins : (words : List (String Global)) → asks_in keyword.Layout words ≡ true → BeginsWith (codes "layout") words
layout_begins = begins keyword.Layout (codes "layout") layout_only (λ word. refl)

pub check_begins : (words : List (String Global)) → asks_in keyword.Check words ≡ true → BeginsWith (codes "check") words
check_begins = begins keyword.Check (codes "check") check_only (λ word. refl)

pub pick_begins : (words : List (String Global)) → asks_in keyword.Pick words ≡ true → BeginsWith (codes "pick") words
pick_begins = begins keyword.Pick (codes "pick") pick_only (λ word. refl)

pub count_begins : (words : List (String Global)) → asks_in keyword.Count words ≡ true → BeginsWith (codes "count") words
count_begins = begins keyword.Count (codes "count") count_only (λ word. refl)

-- the name of the command that a request is of
abbrev pub name_of : Request → List ℕ
name_of (request.Frames asked) = codes "frames"
name_of (request.Layout asked) = codes "layout"
name_of (request.Check asked) = codes "check"
name_of (request.Pick asked) = codes "pick"
name_of (request.Count asked) = codes "count"

-- the arguments begin with it
pub asked_begins : (words : List (String Global)) (request : Request) → IsAskedBy words request → BeginsWith (name_of request) words
asked_begins words (request.Frames asks) asked = frames_begins words asked.command
asked_begins words (request.Layout asks) asked = layout_begins words asked.command
asked_begins words (request.Check asks) asked = check_begins words asked.command
asked_begins words (request.Pick asks) asked = pick_begins words asked.command
asked_begins words (request.Count asks) asked = count_begins words asked.command

-- ---- numbers

parsed_once : (text : List ℕ) (p q : Result ℕ ⊤) → ParsesUnsigned 32 10 text p → ParsesUnsigned 32 10 text q → number_or_0 p ≡ number_or_0 q
parsed_once text (Ok n) (Ok m) a b = a.1 ∙ sym b.1
parsed_once text (Ok n) (Err e) a b = absurd (b a.0)
parsed_once text (Err e) (Ok m) a b = absurd (a b.0)
parsed_once text (Err e) (Err f) a b = refl

pub same_number : (otherwise : ℕ) (text : Option (List ℕ)) (n m : ℕ) → IsNumberOf otherwise text n → IsNumberOf otherwise text m → n ≡ m
same_number otherwise None n m is also = is ∙ sym also
same_number otherwise (Some text) n m is also = is.2 ∙ parsed_once text is.0 also.0 is.1 also.1 ∙ sym also.2

-- ---- arguments that ask for help, and those that ask for nothing

pub no_help_asked : (words : List (String Global)) (request : Request) → IsAskedBy words request → asks_in keyword.Help words ≡ false
no_help_asked words (request.Frames asks) asked = asked.no_help
no_help_asked words (request.Layout asks) asked = asked.asks_run.no_help
no_help_asked words (request.Check asks) asked = asked.no_help
no_help_asked words (request.Pick asks) asked = asked.asks_run.no_help
no_help_asked words (request.Count asks) asked = asked.asks_run.no_help

pub nothing_with_help : (words : List (String Global)) → asks_in keyword.Help words ≡ true → AsksNothing words
nothing_with_help words help request asked = true≢false (sym help ∙ no_help_asked words request asked)

pub nothing_for_frames : (words : List (String Global)) → asks_in keyword.Frames words ≡ true
    → (AreValid keyword.Frames words → (name : List ℕ) → files_in words ≡ name ∷ [] → ⊥) → AsksNothing words
nothing_for_frames words is none (request.Frames asks) asked = none asked.valid asks.now asked.file
nothing_for_frames words is none (request.Layout asks) asked = one_beginning words (codes "frames") (codes "layout") refl (frames_begins words is) (layout_begins words asked.command)
nothing_for_frames words is none (request.Check asks) asked = one_beginning words (codes "frames") (codes "check") refl (frames_begins words is) (check_begins words asked.command)
nothing_for_frames words is none (request.Pick asks) asked = one_beginning words (codes "frames") (codes "pick") refl (frames_begins words is) (pick_begins words asked.command)
nothing_for_frames words is none (request.Count asks) asked = one_beginning words (codes "frames") (codes "count") refl (frames_begins words is) (count_begins words asked.command)

pub nothing_for_check : (words : List (String Global)) → asks_in keyword.Check words ≡ true
    → (AreValid keyword.Check words → inputs_in words ≤ 1 → (graphs lines : List ℕ) → files_in words ≡ graphs ∷ lines ∷ [] → ⊥) → AsksNothing words
nothing_for_check words is none (request.Frames asks) asked = one_beginning words (codes "check") (codes "frames") refl (check_begins words is) (frames_begins words asked.command)
nothing_for_check words is none (request.Layout asks) asked = one_beginning words (codes "check") (codes "layout") refl (check_begins words is) (layout_begins words asked.command)
nothing_for_check words is none (request.Check asks) asked = none asked.valid asked.once asks.graphs.now asks.lines.now asked.files
nothing_for_check words is none (request.Pick asks) asked = one_beginning words (codes "check") (codes "pick") refl (check_begins words is) (pick_begins words asked.command)
nothing_for_check words is none (request.Count asks) asked = one_beginning words (codes "check") (codes "count") refl (check_begins words is) (count_begins words asked.command)

pub nothing_for_layout : (words : List (String Global)) → asks_in keyword.Layout words ≡ true
    → ((layout : LayoutRequest) → AsksLayout words layout.run layout.style layout.waiting → ⊥) → AsksNothing words
nothing_for_layout words is none (request.Frames asks) asked = one_beginning words (codes "layout") (codes "frames") refl (layout_begins words is) (frames_begins words asked.command)
nothing_for_layout words is none (request.Layout asks) asked = none asks asked
nothing_for_layout words is none (request.Check asks) asked = one_beginning words (codes "layout") (codes "check") refl (layout_begins words is) (check_begins words asked.command)
nothing_for_layout words is none (request.Pick asks) asked = one_beginning words (codes "layout") (codes "pick") refl (layout_begins words is) (pick_begins words asked.command)
nothing_for_layout words is none (request.Count asks) asked = one_beginning words (codes "layout") (codes "count") refl (layout_begins words is) (count_begins words asked.command)

pub nothing_for_pick : (words : List (String Global)) → asks_in keyword.Pick words ≡ true
    → ((pick : PickRequest) → AsksPick words pick.run pick.selection pick.waiting → ⊥) → AsksNothing words
nothing_for_pick words is none (request.Frames asks) asked = one_beginning words (codes "pick") (codes "frames") refl (pick_begins words is) (frames_begins words asked.command)
nothing_for_pick words is none (request.Layout asks) asked = one_beginning words (codes "pick") (codes "layout") refl (pick_begins words is) (layout_begins words asked.command)
nothing_for_pick words is none (request.Check asks) asked = one_beginning words (codes "pick") (codes "check") refl (pick_begins words is) (check_begins words asked.command)
nothing_for_pick words is none (request.Pick asks) asked = none asks asked
nothing_for_pick words is none (request.Count asks) asked = one_beginning words (codes "pick") (codes "count") refl (pick_begins words is) (count_begins words asked.command)

pub nothing_for_count : (words : List (String Global)) → asks_in keyword.Count words ≡ true
    → ((count : CountRequest) → AsksCount words count.run count.selection count.columns → ⊥) → AsksNothing words
nothing_for_count words is none (request.Frames asks) asked = one_beginning words (codes "count") (codes "frames") refl (count_begins words is) (frames_begins words asked.command)
nothing_for_count words is none (request.Layout asks) asked = one_beginning words (codes "count") (codes "layout") refl (count_begins words is) (layout_begins words asked.command)
nothing_for_count words is none (request.Check asks) asked = one_beginning words (codes "count") (codes "check") refl (count_begins words is) (check_begins words asked.command)
nothing_for_count words is none (request.Pick asks) asked = one_beginning words (codes "count") (codes "pick") refl (count_begins words is) (pick_begins words asked.command)
nothing_for_count words is none (request.Count asks) asked = none asks asked

pub nothing_without_command : (words : List (String Global)) → asks_in keyword.Frames words ≡ false → asks_in keyword.Layout words ≡ false → asks_in keyword.Check words ≡ false
    → asks_in keyword.Pick words ≡ false → asks_in keyword.Count words ≡ false → AsksNothing words
nothing_without_command words frames layout check pick count (request.Frames asks) asked = true≢false (sym asked.command ∙ frames)
nothing_without_command words frames layout check pick count (request.Layout asks) asked = true≢false (sym asked.command ∙ layout)
nothing_without_command words frames layout check pick count (request.Check asks) asked = true≢false (sym asked.command ∙ check)
nothing_without_command words frames layout check pick count (request.Pick asks) asked = true≢false (sym asked.command ∙ pick)
nothing_without_command words frames layout check pick count (request.Count asks) asked = true≢false (sym asked.command ∙ count)

-- ---- files

count_same : (xs : List (Bor (List ℕ))) (texts : List (List ℕ)) → map (λ name. name.now) xs ≡ texts → length xs ≡ length texts
count_same xs texts same = sym (length-map xs (λ name. name.now)) ∙ ap length same

pub files_of_run : (words : List (String Global)) (run : RunRequest) (files : List (Bor (List ℕ)))
    → map (λ file. file.now) files ≡ files_in words → AsksRun words run → (0 < length files) × (count_by is_input (map (λ file. file.now) files) ≤ 1)
files_of_run words run files same asked = (
  subst (λ n. 0 < n) (run.names.ok.0 ∙ count_same run.names.items (files_in words) asked.files ∙ sym (count_same files (files_in words) same)) asked.some,
  subst (λ texts. count_by is_input texts ≤ 1) (sym same) asked.once,
)

pub files_of_check : (words : List (String Global)) (graphs lines : List ℕ) (files : List (Bor (List ℕ))) → map (λ file. file.now) files ≡ files_in words
    → files_in words ≡ graphs ∷ lines ∷ [] → inputs_in words ≤ 1 → (0 < length files) × (count_by is_input (map (λ file. file.now) files) ≤ 1)
files_of_check words graphs lines files same two once = (
  subst (λ n. 0 < n) (sym (count_same files (files_in words) same ∙ ap length two)) (omega arith),
  subst (λ texts. count_by is_input texts ≤ 1) (sym same) once,
)

pub two_given : (words : List (String Global)) (graphs lines : List ℕ) (files : List (Bor (List ℕ))) → map (λ file. file.now) files ≡ files_in words
    → files_in words ≡ graphs ∷ lines ∷ [] → length files ≡ 2
two_given words graphs lines files same two = count_same files (files_in words) same ∙ ap length two

pub one_given : (words : List (String Global)) (name : List ℕ) (files : List (Bor (List ℕ))) → map (λ file. file.now) files ≡ files_in words
    → files_in words ≡ name ∷ [] → length files ≡ 1
one_given words name files same one = count_same files (files_in words) same ∙ ap length one

-- a test that fails, of what holds
pub passes_not : (b : Bool) → b ≡ true → b ≡ false → ⊥
passes_not b is not = true≢false (sym is ∙ not)
