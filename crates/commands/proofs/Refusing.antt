-- If one request that arguments ask for is refusable, each is.
use Rattle.std.proofs.Common.{◌≡◌, ◌∙◌, ◌<◌, ◌≤◌, ◌⊎◌, ◌↔◌, ℕ, Bool, true, false, ltb, List, String, Global, Bor, Result, Ok, Err, length, map, inl, inr, ⊎_elim, ap, sym, subst, refl, codes, bytes_eq, true≢false}
use Rattle.std.proofs.lemmas.Bool.Decides.{Decides-ltb}
use Rattle.streams.specs.declared.output.BatchFault.TheVariants.{TooManyFiles, BadLanes}
use Rattle.command_line.specs.declared.fault.Fault.{Fault}
use Rattle.command_line.specs.Refusals.{IsMisuse}
use Rattle.std.proofs.lemmas.List.{length-map}
use Rattle.std.specs.Prelude.{vec_len}
use Rattle.command_line.specs.declared.request.Request.{Request}
use Rattle.command_line.specs.declared.request.RunRequest.{RunRequest}
use Rattle.command_line.specs.declared.request.Request.TheVariants as request
use Rattle.command_line.specs.Requests.{AsksRun, IsAskedBy, asks_in, setting_text_in}
use Rattle.command_line.specs.declared.reading.Setting.TheVariants as setting
use Rattle.command_line.specs.declared.reading.Keyword.TheVariants as keyword
use Rattle.command_line.proofs.Asking.{name_of, asked_begins, one_beginning, pick_begins, same_number, version_begins}
use Rattle.reports.specs.declared.book.TheConstants.{MAX_FILES}
use Rattle.ruled_lanes.specs.declared.channel.TheConstants.{LANES}
use Rattle.commands.proofs.FaultStatus.{few_or_many}
use Rattle.commands.specs.Statuses.{IsOfRecords, IsRefusable, IsTooMuch}

as_many : (xs ys : List (Bor (List ℕ))) → map (λ name. name.now) xs ≡ map (λ name. name.now) ys → length xs ≡ length ys
as_many xs ys same = sym (length-map xs (λ name. name.now)) ∙ ap length same ∙ length-map ys (λ name. name.now)

out_of_range : (files more lanes also : ℕ) → files ≡ more → lanes ≡ also → (MAX_FILES < files) ⊎ ((lanes ≡ 0) ⊎ (LANES < lanes)) → (MAX_FILES < more) ⊎ ((also ≡ 0) ⊎ (LANES < also))
out_of_range files more lanes also same equal is =
    subst (λ n. (MAX_FILES < n) ⊎ ((also ≡ 0) ⊎ (LANES < also))) same (subst (λ n. (MAX_FILES < files) ⊎ ((n ≡ 0) ⊎ (LANES < n))) equal is)

same_lanes : (words : List (String Global)) (run also : RunRequest) → AsksRun words run → AsksRun words also → IsTooMuch (vec_len run.names) run.lanes → IsTooMuch (vec_len also.names) also.lanes
same_lanes words run also one other =
    out_of_range (vec_len run.names) (vec_len also.names) run.lanes also.lanes
    (run.names.ok.0 ∙ as_many run.names.items also.names.items (one.files ∙ sym other.files) ∙ sym also.names.ok.0)
    (same_number 1 (setting_text_in setting.Lanes words) run.lanes also.lanes one.lanes_in other.lanes_in)

-- what holds of a request is no other request's, if its command has another name
other_command : {P : Type 0} (words : List (String Global)) (one other : Request) → bytes_eq (name_of one) (name_of other) ≡ false → IsAskedBy words one → IsAskedBy words other → P
other_command words one other differ asked also =
    absurd (one_beginning words (name_of one) (name_of other) differ (asked_begins words one asked) (asked_begins words other also))

pub each_refusable : (terminal : Bool) (words : List (String Global)) (one other : Request) → IsAskedBy words one → IsRefusable terminal one → IsAskedBy words other → IsRefusable terminal other
each_refusable terminal words (request.Frames name) other asked is also = absurd is
each_refusable terminal words (request.Check check) other asked is also = absurd is
each_refusable terminal words (request.Layout one) (request.Frames other) asked is also = other_command words (request.Layout one) (request.Frames other) refl asked also
each_refusable terminal words (request.Layout one) (request.Check other) asked is also = other_command words (request.Layout one) (request.Check other) refl asked also
each_refusable terminal words (request.Layout one) (request.Layout other) asked is also =
    same_lanes words one.run other.run asked.asks_run also.asks_run is
each_refusable terminal words (request.Layout one) (request.Pick other) asked is also = other_command words (request.Layout one) (request.Pick other) refl asked also
each_refusable terminal words (request.Layout one) (request.Count other) asked is also = other_command words (request.Layout one) (request.Count other) refl asked also
each_refusable terminal words (request.Pick one) (request.Frames other) asked is also = other_command words (request.Pick one) (request.Frames other) refl asked also
each_refusable terminal words (request.Pick one) (request.Check other) asked is also = other_command words (request.Pick one) (request.Check other) refl asked also
each_refusable terminal words (request.Pick one) (request.Layout other) asked is also = other_command words (request.Pick one) (request.Layout other) refl asked also
each_refusable terminal words (request.Pick one) (request.Pick other) asked (inl shown) also = inl shown
each_refusable terminal words (request.Pick one) (request.Pick other) asked (inr much) also =
    inr (same_lanes words one.run other.run asked.asks_run also.asks_run much)
each_refusable terminal words (request.Pick one) (request.Count other) asked is also = other_command words (request.Pick one) (request.Count other) refl asked also
each_refusable terminal words (request.Count one) (request.Frames other) asked is also = other_command words (request.Count one) (request.Frames other) refl asked also
each_refusable terminal words (request.Count one) (request.Check other) asked is also = other_command words (request.Count one) (request.Check other) refl asked also
each_refusable terminal words (request.Count one) (request.Layout other) asked is also = other_command words (request.Count one) (request.Layout other) refl asked also
each_refusable terminal words (request.Count one) (request.Pick other) asked is also = other_command words (request.Count one) (request.Pick other) refl asked also
each_refusable terminal words (request.Count one) (request.Count other) asked is also =
    same_lanes words one.run other.run asked.asks_run also.asks_run is

done_refused : (status : ℕ) (fault : Fault) (outcome answer : Result ℕ Fault) → outcome ≡ Ok status → outcome ≡ answer → answer ≡ Err fault → ⊥
done_refused status fault outcome answer done is refused = cc

one_fault : (fault found : Fault) (outcome answer : Result ℕ Fault) → outcome ≡ Err found → outcome ≡ answer → answer ≡ Err fault → fault ≡ found
one_fault fault found outcome answer failed is refused = cc

-- what is too much is refused
pub refused_for : (files lanes : ℕ) (answer : Result ℕ Fault) → IsTooMuch files lanes → (MAX_FILES < files) ↔ (answer ≡ Err (Fault.Run TooManyFiles))
    → (((lanes ≡ 0) ⊎ (LANES < lanes)) × (files ≤ MAX_FILES)) ↔ (answer ≡ Err (Fault.Run BadLanes)) → (fault : Fault) × (answer ≡ Err fault) × IsMisuse fault
refused_for files lanes answer (inl more) many bad = (Fault.Run TooManyFiles, many.0 more, tt)
refused_for files lanes answer (inr wrong) many bad =
    ⊎_elim (λ few. (Fault.Run BadLanes, bad.0 (wrong, few), tt)) (λ more. (Fault.Run TooManyFiles, many.0 more, tt)) (few_or_many files (ltb MAX_FILES files) (Decides-ltb MAX_FILES files))

pub pick_refused_for : (terminal : Bool) (files lanes : ℕ) (answer : Result ℕ Fault) → (terminal ≡ true) ⊎ IsTooMuch files lanes → (terminal ≡ true → answer ≡ Err Fault.Terminal)
    → (terminal ≡ false → (MAX_FILES < files) ↔ (answer ≡ Err (Fault.Run TooManyFiles)))
    → (terminal ≡ false → (((lanes ≡ 0) ⊎ (LANES < lanes)) × (files ≤ MAX_FILES)) ↔ (answer ≡ Err (Fault.Run BadLanes))) → (fault : Fault) × (answer ≡ Err fault) × IsMisuse fault
pick_refused_for true files lanes answer refusable shown many bad = (Fault.Terminal, shown refl, tt)
pick_refused_for false files lanes answer (inl is) shown many bad = absurd (true≢false (sym is))
pick_refused_for false files lanes answer (inr much) shown many bad = refused_for files lanes answer much (many refl) (bad refl)

-- an outcome that is refused
pub not_done : {P : Type 0} (status : ℕ) (outcome answer : Result ℕ Fault) → outcome ≡ Ok status → outcome ≡ answer → (fault : Fault) × (answer ≡ Err fault) × IsMisuse fault → P
not_done status outcome answer done is (fault, refused, misuse) = absurd (done_refused status fault outcome answer done is refused)

pub is_misuse : (found : Fault) (outcome answer : Result ℕ Fault) → outcome ≡ Err found → outcome ≡ answer → (fault : Fault) × (answer ≡ Err fault) × IsMisuse fault → IsMisuse found
is_misuse found outcome answer failed is (fault, refused, misuse) = subst IsMisuse (one_fault fault found outcome answer failed is refused) misuse

-- a request of arguments for `pick` asks for records
pub of_records : (words : List (String Global)) (request : Request) → asks_in keyword.Pick words ≡ true → IsAskedBy words request → IsOfRecords request
of_records words (request.Frames other) is asked = absurd (one_beginning words (codes "pick") (codes "frames") refl (pick_begins words is) (asked_begins words (request.Frames other) asked))
of_records words (request.Check other) is asked = absurd (one_beginning words (codes "pick") (codes "check") refl (pick_begins words is) (asked_begins words (request.Check other) asked))
of_records words (request.Layout other) is asked = absurd (one_beginning words (codes "pick") (codes "layout") refl (pick_begins words is) (asked_begins words (request.Layout other) asked))
of_records words (request.Pick pick) is asked = tt
of_records words (request.Count other) is asked = absurd (one_beginning words (codes "pick") (codes "count") refl (pick_begins words is) (asked_begins words (request.Count other) asked))

-- arguments for the version make no request
pub no_request : (words : List (String Global)) → asks_in keyword.Version words ≡ true → (request : Request) → IsAskedBy words request → ⊥
no_request words is (request.Frames other) asked = one_beginning words (codes "--version") (codes "frames") refl (version_begins words is) (asked_begins words (request.Frames other) asked)
no_request words is (request.Layout other) asked = one_beginning words (codes "--version") (codes "layout") refl (version_begins words is) (asked_begins words (request.Layout other) asked)
no_request words is (request.Check other) asked = one_beginning words (codes "--version") (codes "check") refl (version_begins words is) (asked_begins words (request.Check other) asked)
no_request words is (request.Pick other) asked = one_beginning words (codes "--version") (codes "pick") refl (version_begins words is) (asked_begins words (request.Pick other) asked)
no_request words is (request.Count other) asked = one_beginning words (codes "--version") (codes "count") refl (version_begins words is) (asked_begins words (request.Count other) asked)
