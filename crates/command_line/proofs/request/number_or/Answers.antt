use Rattle.std.proofs.Common.{◌≡◌, ℕ, List, Option, Some, Bor, Result, Ok, Err, option_map, subst, sym}
use Rattle.std.specs.Str.Parse.{ParsesUnsigned}
use Rattle.std.specs.Result.{result_unwrap_or}
use Rattle.command_line.specs.Requests.{IsNumberOf}
use Rattle.command_line.proofs.request.number_or.Goals as goal

-- the number that a text gives, whatever the fault of one that gives none
number_of : {E : Type 0} (otherwise : ℕ) (text : List ℕ) (parsed : Result ℕ E) (n : ℕ) → ParsesUnsigned 32 10 text parsed → n ≡ result_unwrap_or parsed 0 → IsNumberOf otherwise (Some text) n
number_of otherwise text (Ok m) n parses same = (Ok m, parses, same)
number_of otherwise text (Err fault) n parses same = (Err tt, parses, same)

pub returns-in-Some : goal.returns-in-Some
returns-in-Some c =
    subst (λ (o : Option (Bor (List ℕ))). IsNumberOf c.args.otherwise (option_map (λ t. t.now) o) c.unwrap_or.result) (sym c.in-Some.is)
    (number_of c.args.otherwise c.in-Some.text.now c.parse.result c.unwrap_or.result c.parse.ensures.value.0 c.unwrap_or.ensures)
