-- What a streaming run writes, beside `IsBegun` of `printing`.
use Rattle.std.specs.Prelude.{◌≡◌, ◌<◌, ◌≤◌, ◌⊎◌, ◌↔◌, ℕ, Bool, true, false, List, Option, Result, Err, IfOk, IfErr, OnErr, ⊤}
use Rattle.common.specs.declared.parameters.Choice.{Choice}
use Rattle.ruled_lanes.specs.declared.channel.TheConstants.{LANES}
use Rattle.streams.specs.declared.output.BatchFault.TheVariants.{TooManyFiles, BadLanes}
use Rattle.streams.specs.declared.output.WriteFault.TheVariants as write
use Rattle.lanes.specs.Opening.{Meaning}
use Rattle.reports.specs.declared.book.TheConstants.{MAX_FILES}
use Rattle.streams.specs.declared.frames.Form.{Form}
pub use Rattle.collector.specs.Whole.{IsBegun}
pub use Rattle.file_order.specs.Writing.{HasFailedBy}
use Rattle.collector.specs.Whole.{IsAllWritten}
use Rattle.command_line.specs.declared.fault.Fault.{Fault}
use Rattle.command_line.specs.declared.fault.Fault.TheVariants.{Run, Write}
use Rattle.command_line.specs.Refusals.{IsMisuse}

-- the run failed, or the sink did
abbrev pub IsOfTextRun : Fault → Type 0
IsOfTextRun (Run fault) = ⊤
IsOfTextRun (Write write.Write) = ⊤
IsOfTextRun _ = ⊥

-- What a run over this many files, which mean this, leaves on this many lanes in a sink, which was `old` and is `new`,
-- of which these bytes are taken and which may have failed.
pub record IsStreamed {S : Type 0} (choice : Choice) (meaning : ℕ → Meaning) (form : Form) (files lanes : ℕ) (taken : S → Option (List ℕ)) (fails : S → Bool) (old new : S) (result : Result ℕ Fault) : Type 0 where
  -- the whole text was added, with its status
  pub written : IfOk result (IsAllWritten choice meaning form files (taken old) (taken new))
  pub status : IfOk result (λ status. (status ≡ 0) ⊎ (status ≡ 3))
  -- after a fault a prefix of such a text was added
  pub begun : OnErr result ∥ IsBegun choice meaning form files (taken old) (taken new) ∥₁
  pub too_many : (MAX_FILES < files) ↔ (result ≡ Err (Run TooManyFiles))
  pub bad_lanes : (((lanes ≡ 0) ⊎ (LANES < lanes)) × (files ≤ MAX_FILES)) ↔ (result ≡ Err (Run BadLanes))
  -- if the run is refused, nothing was written
  pub refused : IfErr result (λ fault. IsMisuse fault → new ≡ old)
  pub failed : (result ≡ Err (Write write.Write)) ↔ (fails new ≡ true)
  -- there is no other fault
  pub only : IfErr result IsOfTextRun
