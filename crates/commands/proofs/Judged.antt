-- What status 4 says.
use Rattle.std.proofs.Common.{ℕ, Bool, String, List, Option, Global}
use Rattle.lanes.specs.Opening.{Meaning}
use Rattle.command_line.specs.Requests.{IsAskedBy}
use Rattle.command_line.specs.declared.request.Request.{Request}
use Rattle.command_line.specs.declared.request.Request.TheVariants.{Frames, Layout, Check, Pick, Count}
use Rattle.commands.specs.Statuses.{IsJudged, IsJudgedFor}

-- a request with this status is one of verdicts
pub judged_for : (files : List ℕ → Meaning) (words : List (String Global)) (request : Request) (old new : Option (List ℕ)) (failed : Bool)
    → IsAskedBy words request → IsJudged files request old new failed → IsJudgedFor files words old new failed
judged_for files words (Frames name) old new failed asked is = absurd is
judged_for files words (Layout layout) old new failed asked is = absurd is
judged_for files words (Check check) old new failed asked is = (check, asked, is)
judged_for files words (Pick pick) old new failed asked is = absurd is
judged_for files words (Count count) old new failed asked is = absurd is
