-- What a reader of lines keeps, step by step.
use Rattle.std.proofs.Common.{◌≡◌, ◌≢◌, ◌≤◌, ◌-◌, ◌^◌, min, ◌⊎◌, ℕ, ◌+◌, Bool, true, false, List, [], ◌∷◌, ◌++◌, Option, None, Some, length, inl, inr, refl, ap, sym, subst, ◌∙◌, append_assoc, append-nil, length-append, arith}
use Rattle.std.proofs.lemmas.List.Elements.{All-nil, All-push}
use Rattle.planar_code.specs.Stream.{lists_of}
use Rattle.checking.specs.declared.line_buffer.TheConstants.{MAX_LINE}
use Rattle.checking.specs.declared.line_reader.Lines.{Lines}
use Rattle.checking.specs.declared.line_reader.LineOutcome.TheVariants as next
use Rattle.checking.specs.declared.line_reader.SourceState.{SourceState}
use Rattle.checking.specs.declared.line_reader.SourceState.TheVariants as state
use Rattle.checking.specs.Lines.{HasGiven, GivesNext, StaysClosed, state_in, rest_in, fails_in, line_in}
use Rattle.checking.specs.declared.json.LineFault.TheVariants.{Memory, Malformed}
use Rattle.checking.specs.declared.json.LineFault.{LineFault}
use Rattle.checking.specs.declared.json.LineFault.TheVariants as fault
use Rattle.checking.specs.declared.line_content.Trailing.TheVariants as behind
use Rattle.checking.specs.LineContents.{IsEndLine}
use Rattle.checking.specs.Verdicts.{IsVerdict}
use Rattle.checking.specs.declared.line_content.DrawingInput.{DrawingInput}
use Rattle.checking.specs.declared.line_content.DrawingInput.TheVariants as given
use Rattle.checking.specs.declared.judging.Verdict.{Verdict}
use Rattle.checking.specs.declared.judging.Verdict.TheVariants as verdict
use Rattle.checking.specs.Pairs.{EndsRun, TellsOf, AreVerdicts, IsVerdictOf}
use Rattle.checking.specs.UnderWay.{trailing_of, MayFail, closed, Keeps, HasKept, KeepsNoMore, KeepsOneMore, KeepsNext, KeepsMore, KeepsRest}
use Rattle.checking.proofs.Ends.{judged_as, told_goes_on}
use Rattle.checking.proofs.Pairing.{one_kept, one_left, one_judged, one_missing}

-- ---- the state of a reader

pub open_at_line : (s : SourceState) → StaysClosed s next.Line → s ≡ state.Open
open_at_line state.Open stays = refl
open_at_line state.Ended stays = let e : next.Line ≡ next.End = stays in cc
open_at_line state.Failed stays = let e : next.Line ≡ next.Failed = stays in cc

pub open_at_long : (s : SourceState) → StaysClosed s next.TooLong → s ≡ state.Open
open_at_long state.Open stays = refl
open_at_long state.Ended stays = let e : next.TooLong ≡ next.End = stays in cc
open_at_long state.Failed stays = let e : next.TooLong ≡ next.Failed = stays in cc

pub may_end : (s : SourceState) → StaysClosed s next.End → MayFail s false
may_end state.Open stays = tt
may_end state.Ended stays = refl
may_end state.Failed stays = let e : next.End ≡ next.Failed = stays in cc

pub may_fail : (s : SourceState) → StaysClosed s next.Failed → MayFail s true
may_fail state.Open stays = tt
may_fail state.Ended stays = let e : next.Failed ≡ next.End = stays in cc
may_fail state.Failed stays = refl

-- a reader that has given some line was open, and is else as it was
abbrev pub IsSince : SourceState → SourceState → Type 0
IsSince first now = (first ≡ state.Open) ⊎ (now ≡ first)

pub open_first : (first now : SourceState) → IsSince first now → now ≡ state.Open → first ≡ state.Open
open_first first now since is = elim since [ inl opened ↦ opened | inr same ↦ sym same ∙ is ]

pub may_first : (first now : SourceState) (failed : Bool) → IsSince first now → MayFail now failed → MayFail first failed
may_first first now failed since may = elim since [
  | inl opened ↦ subst (λ (s : SourceState). MayFail s failed) (sym opened) tt
  | inr same ↦ subst (λ (s : SourceState). MayFail s failed) same may
]

pub exactly : (s : SourceState) (kept records : ℕ) → kept ≡ records → Keeps s kept records
exactly state.Open kept records same = same
exactly state.Ended kept records same = omega arith
exactly state.Failed kept records same = omega arith

pub at_most : (s : SourceState) (kept records : ℕ) → Keeps s kept records → kept ≤ records
at_most state.Open kept records many = omega arith
at_most state.Ended kept records many = many
at_most state.Failed kept records many = many

closed_keeps : (failed : Bool) (kept records : ℕ) → kept ≤ records → Keeps (closed failed) kept records
closed_keeps true kept records few = few
closed_keeps false kept records few = few

fault_behind : (f : LineFault) → (trailing_of (given.Fault f) ≡ behind.Line) ⊎ (trailing_of (given.Fault f) ≡ behind.OutOfMemory)
fault_behind fault.Malformed = inl refl
fault_behind fault.Points = inl refl
fault_behind fault.Number = inl refl
fault_behind fault.Angles = inl refl
fault_behind fault.Turns = inl refl
fault_behind fault.Prices = inl refl
fault_behind fault.Memory = inr refl

pub some_failing : (s : SourceState) → (failed : Bool) × MayFail s failed
some_failing state.Open = (false, tt)
some_failing state.Ended = (false, refl)
some_failing state.Failed = (true, refl)

closed_or_open : (s : SourceState) (failed : Bool) → MayFail s failed → (s ≡ state.Open) ⊎ (closed failed ≡ s)
closed_or_open state.Open failed may = inl refl
closed_or_open state.Ended failed may = inr (ap closed may)
closed_or_open state.Failed failed may = inr (ap closed may)

pub closed_fails : (known failed : Bool) → MayFail (closed known) failed → failed ≡ known
closed_fails true failed may = may
closed_fails false failed may = may

-- ---- one step of a reader

module _ {L : Type 0} (to_come : L → Option (List ℕ)) (fails : L → Bool) (known : Option (List ℕ)) (known_fails : Bool) (lines : Lines L) where
  -- the next line is the end of a run
  pub leaves_out : (before : Lines L) (kept : List (List ℕ)) → IsEndLine (line_in lines)
      → (so_far : HasKept to_come fails known known_fails before kept)
      → GivesNext known known_fails (state_in lines) (rest_in to_come lines) (fails_in fails lines) so_far.given (line_in lines) next.Line
      → HasKept to_come fails known known_fails lines kept
  leaves_out before kept says so_far gives = record {
    given = so_far.given ++ line_in lines ∷ [];
    has_given = gives.1;
    keeps = one_left so_far.given kept (line_in lines) (record { short = gives.0; says = says }) so_far.keeps;
  }

  -- it is another one, of which this is told
  pub keeps_line : (first : SourceState) (before : Lines L) (kept : List (List ℕ)) (told : DrawingInput) → first ≡ state.Open
      → (so_far : HasKept to_come fails known known_fails before kept)
      → (length (line_in lines) ≤ MAX_LINE → TellsOf false (Some (line_in lines)) told)
      → GivesNext known known_fails (state_in lines) (rest_in to_come lines) (fails_in fails lines) so_far.given (line_in lines) next.Line
      → KeepsOneMore to_come fails known known_fails first lines kept told
  keeps_line first before kept told opened so_far tells gives = record {
    line = line_in lines;
    opened = opened;
    tells = tells gives.0;
    has_kept = record {
      given = so_far.given ++ line_in lines ∷ [];
      has_given = gives.1;
      keeps = one_kept so_far.given kept (line_in lines) so_far.keeps;
    };
  }

  -- it is too long
  pub keeps_long : (first : SourceState) (before : Lines L) (kept : List (List ℕ)) → first ≡ state.Open
      → (so_far : HasKept to_come fails known known_fails before kept)
      → GivesNext known known_fails (state_in lines) (rest_in to_come lines) (fails_in fails lines) so_far.given (line_in lines) next.TooLong
      → KeepsOneMore to_come fails known known_fails first lines kept (given.Fault Malformed)
  keeps_long first before kept opened so_far gives = record {
    line = gives.0;
    opened = opened;
    tells = λ other. inr (gives.1, refl);
    has_kept = record {
      given = so_far.given ++ gives.0 ∷ [];
      has_given = gives.2;
      keeps = one_kept so_far.given kept gives.0 so_far.keeps;
    };
  }

  -- there is none
  pub keeps_none : (failed : Bool) (first : SourceState) (before : Lines L) (kept : List (List ℕ)) → MayFail first failed
      → (so_far : HasKept to_come fails known known_fails before kept) → state_in lines ≡ closed failed
      → HasGiven known known_fails (closed failed) (rest_in to_come lines) (fails_in fails lines) so_far.given
      → KeepsNoMore to_come fails known known_fails failed first lines kept
  keeps_none failed first before kept may so_far is gives = record {
    ended = is;
    may_fail = may;
    has_kept = record {
      given = so_far.given;
      has_given = subst (λ (s : SourceState). HasGiven known known_fails s (rest_in to_come lines) (fails_in fails lines) so_far.given) (sym is) gives;
      keeps = so_far.keeps;
    };
  }

  -- ---- one more verdict

  -- the lines that were kept are those of these records, as far as there are lines
  pub record ArePaired (faces : Bool) (records : List (List ℕ)) (verdicts : List Verdict) : Type 0 where
    pub kept : List (List ℕ)
    pub has_kept : HasKept to_come fails known known_fails lines kept
    pub as_many : Keeps (state_in lines) (length kept) (length records)
    pub each : (failed : Bool) → MayFail (state_in lines) failed → AreVerdicts faces failed records kept verdicts

  -- a record and a line of which this is told
  pairs_one : (before : SourceState) (faces : Bool) (records kept : List (List ℕ)) (verdicts : List Verdict) (bytes : List ℕ) (v : Verdict) (told : DrawingInput)
      → Keeps before (length kept) (length records) → ((failed : Bool) → MayFail before failed → AreVerdicts faces failed records kept verdicts)
      → (step : KeepsOneMore to_come fails known known_fails before lines kept told)
      → ((failed : Bool) → IsVerdictOf faces failed bytes (Some step.line) v) → ArePaired faces (records ++ bytes ∷ []) (verdicts ++ v ∷ [])
  pairs_one before faces records kept verdicts bytes v told many each step is =
      let same : length kept ≡ length records = subst (λ (s : SourceState). Keeps s (length kept) (length records)) step.opened many in
      record {
        kept = kept ++ step.line ∷ [];
        has_kept = step.has_kept;
        as_many = exactly (state_in lines) (length (kept ++ step.line ∷ [])) (length (records ++ bytes ∷ []))
            (omega (arith, length-append kept (step.line ∷ []), length-append records (bytes ∷ [])));
        each = λ failed may. one_judged faces failed records kept verdicts bytes step.line v same
            (each failed (subst (λ (s : SourceState). MayFail s failed) (sym step.opened) tt)) (is failed);
      }

  -- a record for which there is no line
  pairs_none : (before : SourceState) (faces known_failed : Bool) (records kept : List (List ℕ)) (verdicts : List Verdict) (bytes : List ℕ) (v : Verdict)
      → Keeps before (length kept) (length records) → ((failed : Bool) → MayFail before failed → AreVerdicts faces failed records kept verdicts)
      → KeepsNoMore to_come fails known known_fails known_failed before lines kept
      → IsVerdictOf faces known_failed bytes None v → ArePaired faces (records ++ bytes ∷ []) (verdicts ++ v ∷ [])
  pairs_none before faces known_failed records kept verdicts bytes v many each step is =
      let few : length kept ≤ length records = at_most before (length kept) (length records) many in
      record {
        kept = kept;
        has_kept = step.has_kept;
        as_many = subst (λ (s : SourceState). Keeps s (length kept) (length (records ++ bytes ∷ []))) (sym step.ended)
            (closed_keeps known_failed (length kept) (length (records ++ bytes ∷ [])) (omega (arith, length-append records (bytes ∷ []))));
        each = λ failed may.
            let same : failed ≡ known_failed = closed_fails known_failed failed (subst (λ (s : SourceState). MayFail s failed) step.ended may) in
            subst (λ (f : Bool). AreVerdicts faces f (records ++ bytes ∷ []) kept (verdicts ++ v ∷ [])) (sym same)
            (one_missing faces known_failed records kept verdicts bytes v few (each known_failed step.may_fail) is);
      }

  -- a record and the next line, if there is one
  pub pairs_next : (before : SourceState) (faces : Bool) (records kept : List (List ℕ)) (verdicts : List Verdict) (bytes : List ℕ) (v : Verdict) (told : DrawingInput)
      → Keeps before (length kept) (length records) → ((failed : Bool) → MayFail before failed → AreVerdicts faces failed records kept verdicts)
      → KeepsNext to_come fails known known_fails before lines kept told → IsVerdict faces (lists_of bytes) told v → (told ≡ given.Fault Memory → v ≡ verdict.Memory)
      → ArePaired faces (records ++ bytes ∷ []) (verdicts ++ v ∷ [])
  pairs_next before faces records kept verdicts bytes v given.Missing many each step holds memory =
      pairs_none before faces false records kept verdicts bytes v many each step (judged_as faces false bytes None v given.Missing refl holds memory)
  pairs_next before faces records kept verdicts bytes v given.Unread many each step holds memory =
      pairs_none before faces true records kept verdicts bytes v many each step (judged_as faces true bytes None v given.Unread refl holds memory)
  pairs_next before faces records kept verdicts bytes v (given.Drawing said) many each step holds memory =
      pairs_one before faces records kept verdicts bytes v (given.Drawing said) many each step
      (λ failed. judged_as faces failed bytes (Some step.line) v (given.Drawing said) step.tells holds memory)
  pairs_next before faces records kept verdicts bytes v (given.Fault fault) many each step holds memory =
      pairs_one before faces records kept verdicts bytes v (given.Fault fault) many each step
      (λ failed. judged_as faces failed bytes (Some step.line) v (given.Fault fault) step.tells holds memory)

  -- ---- the lines after the last record

  pub rest_none : (kept : List (List ℕ)) (first : SourceState) → state_in lines ≡ first → HasKept to_come fails known known_fails lines kept
      → KeepsMore to_come fails known known_fails first lines kept 0
  rest_none kept first is so_far = record {
    more = [];
    has_kept = subst (λ (l : List (List ℕ)). HasKept to_come fails known known_fails lines l) (sym (append-nil kept)) so_far;
    each = All-nil (λ line. ¬ EndsRun line);
    counted = omega arith;
    opened = inr (is, refl);
  }

  -- one more, unless memory ran out for it
  rest_one : (kept : List (List ℕ)) (first : SourceState) (before : Lines L) (surplus next : ℕ) (told : DrawingInput) → next ≡ min (surplus + 1) (2 ^ 64 - 1)
      → told ≢ given.Fault Memory → (so_far : KeepsMore to_come fails known known_fails first before kept surplus)
      → KeepsOneMore to_come fails known known_fails (state_in before) lines (kept ++ so_far.more) told
      → KeepsMore to_come fails known known_fails first lines kept next
  rest_one kept first before surplus next told is other so_far step =
      let counted = so_far.counted in
      record {
        more = so_far.more ++ step.line ∷ [];
        has_kept = subst (λ (l : List (List ℕ)). HasKept to_come fails known known_fails lines l) (append_assoc kept so_far.more (step.line ∷ [])) step.has_kept;
        each = All-push (λ line. ¬ EndsRun line) so_far.more step.line so_far.each (told_goes_on false (Some step.line) told step.tells other);
        counted = omega (arith, length-append so_far.more (step.line ∷ []));
        opened = elim so_far.opened [ inl opened ↦ inl opened | inr same ↦ inl (sym same.0 ∙ step.opened) ];
      }

  pub rest_next : (kept : List (List ℕ)) (first : SourceState) (before : Lines L) (surplus next : ℕ) (told : DrawingInput) → trailing_of told ≡ behind.Line
      → next ≡ min (surplus + 1) (2 ^ 64 - 1) → (so_far : KeepsMore to_come fails known known_fails first before kept surplus)
      → KeepsNext to_come fails known known_fails (state_in before) lines (kept ++ so_far.more) told
      → KeepsMore to_come fails known known_fails first lines kept next
  rest_next kept first before surplus next given.Missing here is so_far step = cc
  rest_next kept first before surplus next given.Unread here is so_far step = cc
  rest_next kept first before surplus next (given.Drawing said) here is so_far step =
      rest_one kept first before surplus next (given.Drawing said) is (λ e. cc) so_far step
  rest_next kept first before surplus next (given.Fault why) here is so_far step =
      rest_one kept first before surplus next (given.Fault why) is (λ e. let other = ap trailing_of e in cc) so_far step

  -- there is none
  rest_none_told : (failed : Bool) (kept : List (List ℕ)) (before : SourceState) (told : DrawingInput) → trailing_of told ≡ behind.End failed
      → KeepsNext to_come fails known known_fails before lines kept told → KeepsNoMore to_come fails known known_fails failed before lines kept
  rest_none_told failed kept before given.Missing here step =
      let same : false ≡ failed = cc in subst (λ (b : Bool). KeepsNoMore to_come fails known known_fails b before lines kept) same step
  rest_none_told failed kept before given.Unread here step =
      let same : true ≡ failed = cc in subst (λ (b : Bool). KeepsNoMore to_come fails known known_fails b before lines kept) same step
  rest_none_told failed kept before (given.Drawing said) here step = cc
  rest_none_told failed kept before (given.Fault why) here step = elim (fault_behind why) [ inl line ↦ cc | inr wanting ↦ cc ]

  pub rest_all : (kept : List (List ℕ)) (first : SourceState) (before : Lines L) (surplus : ℕ) (failed : Bool) (told : DrawingInput) → trailing_of told ≡ behind.End failed
      → (so_far : KeepsMore to_come fails known known_fails first before kept surplus) → KeepsNext to_come fails known known_fails (state_in before) lines (kept ++ so_far.more) told
      → KeepsRest to_come fails known known_fails first lines kept (record { surplus = surplus; failed = failed })
  rest_all kept first before surplus failed told here so_far next =
      let step = rest_none_told failed (kept ++ so_far.more) (state_in before) told here next in
      record {
        all = record {
          more = so_far.more;
          has_kept = step.has_kept;
          each = so_far.each;
          counted = so_far.counted;
          opened = elim so_far.opened [
            | inl opened ↦ inl opened
            | inr same ↦ elim (closed_or_open (state_in before) failed step.may_fail) [
              | inl opened ↦ inl (sym same.0 ∙ opened)
              | inr stays ↦ inr (step.ended ∙ stays ∙ same.0, same.1)
            ]
          ];
        };
        ended = step.ended;
        may_fail = elim so_far.opened [
          | inl opened ↦ subst (λ (s : SourceState). MayFail s failed) (sym opened) tt
          | inr same ↦ subst (λ (s : SourceState). MayFail s failed) same.0 step.may_fail
        ];
      }
