-- What each exit of a framer's step gives.
use Rattle.std.proofs.Common.{◌≡◌, ◌≢◌, ℕ, ◌+◌, ◌<◌, List, [], ◌∷◌, ◌++◌, length, take, drop, get_or, refl, sym, ap, subst, ◌∙◌, arith, Option, Some, None, Result, Ok, Err}
use Rattle.std.proofs.lemmas.List.{take-append-drop}
use Rattle.planar_code.specs.declared.TheConstants.{HEADER, MAX_RECORDS}
use Rattle.planar_code.specs.declared.partial_record.FeedFault.{FeedFault}
use Rattle.planar_code.specs.declared.partial_record.FeedFault.TheVariants as fault
use Rattle.planar_code.specs.declared.framer.Phase.{Phase}
use Rattle.planar_code.specs.declared.framer.Phase.TheVariants as phase
use Rattle.planar_code.specs.Stream.{IsUnfinished}
use Rattle.planar_code.specs.Scan.{TakesFrom}
use Rattle.planar_code.specs.FramerState.{FramerState, Early, After, Goes, HasNotFailed}
use Rattle.planar_code.specs.Framer.{framer_state_at, IsBefore}
use Rattle.planar_code.specs.Step.{FramerSteps}
use Rattle.planar_code.proofs.Scanning.{take-first}
use Rattle.planar_code.proofs.LeadsTo.{goes_more, goes_whole, goes_early, goes_with_header, fails_many, fails_large, fails_oversize}

early-runs : (front : List ℕ) → HasNotFailed (Early front)
early-runs front f e = cc

after-runs : (count : ℕ) (rest : List ℕ) → HasNotFailed (After count rest)
after-runs count rest f e = cc

-- a text that is not empty
some-text : (text : List ℕ) → 0 < length text → text ≢ []
some-text text some e = omega (arith, ap length e)

-- one byte of the header, not the last
pub step-early : (passed records : ℕ) (rest text : List ℕ) → IsBefore (phase.Header passed) records rest → 0 < length text → (passed + 1 ≡ 15 → ⊥) → get_or text 0 0 ≡ get_or HEADER passed 0 → FramerSteps (framer_state_at (phase.Header passed) records rest) text (framer_state_at (phase.Header (passed + 1)) records rest) (Ok (1, None))
step-early passed records rest text before some short same =
    let room = before.0 in (
      omega arith,
      omega arith,
      early-runs (take (passed + 1) HEADER),
      subst (λ z. Goes (Early (take passed HEADER)) z [] (Early (take (passed + 1) HEADER))) (sym (take-first text some)) (goes_early passed (get_or text 0 0) (omega (arith, short)) same),
    )

-- the last byte of the header
pub step-with_header : (passed records : ℕ) (rest text : List ℕ) → IsBefore (phase.Header passed) records rest → 0 < length text → passed + 1 ≡ 15 → get_or text 0 0 ≡ get_or HEADER passed 0 → FramerSteps (framer_state_at (phase.Header passed) records rest) text (framer_state_at phase.Records records rest) (Ok (1, None))
step-with_header passed records rest text before some last same =
    let state : After 0 [] ≡ After records rest = ap (λ n. After n []) (sym before.1) ∙ ap (λ z. After records z) (sym before.2) in (
      omega arith,
      omega arith,
      after-runs records rest,
      subst (Goes (Early (take passed HEADER)) (take 1 text) []) state
          (subst (λ z. Goes (Early (take passed HEADER)) z [] (After 0 [])) (sym (take-first text some)) (goes_with_header passed (get_or text 0 0) last same)),
    )

-- a byte after the last record
pub step-many : (records : ℕ) (rest text : List ℕ) (new : FramerState) → records ≡ MAX_RECORDS → 0 < length text → FramerSteps (After records rest) text new (Err fault.Many)
step-many records rest text new full some = fails_many records rest text full (some-text text some)

-- the text ends the partial record
pub step-whole : (records : ℕ) (rest text new bytes : List ℕ) (end : ℕ) → records < MAX_RECORDS → TakesFrom rest text new (Ok (Some (bytes, end))) → FramerSteps (After records rest) text (After (records + 1) new) (Ok (end, Some bytes))
step-whole records rest text new bytes end room t = (
  t.1,
  t.2,
  after-runs (records + 1) new,
  subst (λ z. Goes (After records rest) (take end text) (bytes ∷ []) (After (records + 1) z)) (sym t.0) (goes_whole records rest (take end text) bytes room t.3 t.4),
)

-- the text leaves it open
pub step-more : (records : ℕ) (rest text new : List ℕ) → records < MAX_RECORDS → 0 < length text → TakesFrom rest text new (Ok None) → FramerSteps (After records rest) text (After records new) (Ok (length text, None))
step-more records rest text new room some t = (
  some,
  omega arith,
  after-runs records new,
  subst (λ z. Goes (After records rest) z [] (After records new)) (sym (take-all text))
      (subst (λ z. Goes (After records rest) text [] (After records z)) (sym t.1) (goes_more records rest text (λ e. omega arith) (subst IsUnfinished t.1 t.0))),
)
  where
    take-all : (xs : List ℕ) → take (length xs) xs ≡ xs
    take-all [] = refl
    take-all (x ∷ xs) = ap (λ z. x ∷ z) (take-all xs)

-- the partial record has a fault
pub step-fault : (records : ℕ) (rest text taken : List ℕ) (new : FramerState) (f : FeedFault) → records < MAX_RECORDS → TakesFrom rest text taken (Err f) → FramerSteps (After records rest) text new (Err f)
step-fault records rest text taken new fault.Header room t = absurd t
step-fault records rest text taken new fault.Large room t = fails_large records rest text (λ e. omega arith) t
step-fault records rest text taken new fault.Oversize room t = fails_oversize records rest text (λ e. omega arith) t
step-fault records rest text taken new fault.Memory room t = record {
  front = take t.0 text;
  back = drop t.0 text;
  parts = sym (take-append-drop t.0 text);
  lost = rest ++ take t.0 text;
  next = After (records + 1) [];
  goes = goes_whole records rest (take t.0 text) (rest ++ take t.0 text) room refl t.1;
}
step-fault records rest text taken new fault.Many room t = absurd t

-- the same, said of a framer's fields
pub at-records : (s : Phase) (count next_count : ℕ) (rest next_rest text : List ℕ) (old : FramerState) (result : Result (ℕ × Option (List ℕ)) FeedFault) → s ≡ phase.Records → framer_state_at s count rest ≡ old → FramerSteps (After count rest) text (After next_count next_rest) result → FramerSteps old text (framer_state_at s next_count next_rest) result
at-records s count next_count rest next_rest text old result e view h =
    subst (λ p. FramerSteps p text (framer_state_at s next_count next_rest) result) view
    (subst (λ z. FramerSteps (framer_state_at z count rest) text (framer_state_at z next_count next_rest) result) (sym e) h)

pub at-header : (s : Phase) (passed count : ℕ) (rest text : List ℕ) (old new : FramerState) (result : Result (ℕ × Option (List ℕ)) FeedFault) → s ≡ phase.Header passed → framer_state_at s count rest ≡ old → FramerSteps (framer_state_at (phase.Header passed) count rest) text new result → FramerSteps old text new result
at-header s passed count rest text old new result e view h =
    subst (λ p. FramerSteps p text new result) view
    (subst (λ z. FramerSteps (framer_state_at z count rest) text new result) (sym e) h)
