-- Runs over the files that a request names.
use Rattle.std.proofs.Common.{◌≡◌, ◌<◌, ◌≤◌, ◌∙◌, ℕ, List, Bor, ap, arith, inl, inr, subst}
use Rattle.common.specs.declared.parameters.Choice.{Choice}
use Rattle.lanes.specs.Opening.{Meaning}
use Rattle.named_sources.specs.Naming.{meanings_in}
use Rattle.named_sources.specs.declared.source.FileOpener.{FileOpener}
use Rattle.reports.specs.declared.book.TheConstants.{MAX_FILES}
use Rattle.ruled_lanes.specs.declared.channel.TheConstants.{LANES}
use Rattle.commands.specs.Statuses.{IsTooMuch}

-- what holds of a run holds of what was asked for, if the run has its choice, its files and their number
pub as_asked : (P : Choice → (ℕ → Meaning) → ℕ → Type 0) (choice used : Choice) (meaning also : ℕ → Meaning) (files count : ℕ) → choice ≡ used → meaning ≡ also → files ≡ count
    → P choice meaning files → P used also count
as_asked P choice used meaning also files count chosen same many is =
    subst (P used also) many (subst (λ m. P used m files) same (subst (λ c. P c meaning files) chosen is))

-- an opener of these names in these files
pub opened_as : {N : Type 0} (known : N → List ℕ → Meaning) (a b : FileOpener N) (files : N) (names : List (Bor (List ℕ))) → a ≡ b → b.files.now ≡ files → b.names.now ≡ names
    → meanings_in (known a.files.now) a.names.now ≡ meanings_in (known files) names
opened_as {N} known a b files names same of named =
    ap (λ (o : FileOpener N). meanings_in (known o.files.now) o.names.now) same
    ∙ ap (λ (n : N). meanings_in (known n) b.names.now) of ∙ ap (λ (ns : List (Bor (List ℕ))). meanings_in (known files) ns) named

-- a run in range is not too much
pub not_much : (files lanes : ℕ) → files ≤ MAX_FILES → 0 < lanes → lanes ≤ LANES → IsTooMuch files lanes → ⊥
not_much files lanes few some most (inl many) = omega (arith, few, many)
not_much files lanes few some most (inr (inl none)) = omega (arith, some, none)
not_much files lanes few some most (inr (inr more)) = omega (arith, most, more)
