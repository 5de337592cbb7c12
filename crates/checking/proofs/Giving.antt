-- What a reader has given once it gives one more line.
use Rattle.std.proofs.Common.{◌≡◌, ◌≢◌, ℕ, ◌<◌, Bool, true, false, List, [], ◌∷◌, ◌++◌, length, All, Option, None, Some, refl, sym, ap, subst, ◌∙◌, append_assoc, append-nil, arith}
use Rattle.std.specs.List.{flat_map}
use Rattle.std.specs.Io.KnownBytes.{Consumes, prepend_known}
use Rattle.std.proofs.KnownBytes.{Consumes-trans}
use Rattle.std.proofs.lemmas.List.Elements.{All-append, All-push}
use Rattle.streams.specs.Reading.{IsKnownOf}
use Rattle.streams.specs.Tap.{IsAtItsEnd, IsAtItsFailure}
use Rattle.checking.specs.declared.line_buffer.TheConstants.{MAX_LINE}
use Rattle.checking.specs.declared.line_reader.LineOutcome.{LineOutcome}
use Rattle.checking.specs.declared.line_reader.LineOutcome.TheVariants as next
use Rattle.checking.specs.declared.line_reader.SourceState.{SourceState}
use Rattle.checking.specs.declared.line_reader.SourceState.TheVariants as state
use Rattle.checking.specs.Lines.{IsNoEnd, lines_in, ended_line, IsOpenAfter, HasGivenAll, GivesNext, IsCollected, IsWhole, IsLast}
use Rattle.checking.proofs.Dividing.{lines-last, ended_lines-none, lines-given, ended_lines-given}

-- ---- what is to come

-- the line's bytes so far, and then those that were held
pub took_held : (first source now : Option (List ℕ)) (seen held next : List ℕ) → Consumes first (prepend_known held source) seen
    → Consumes source now next → Consumes first (prepend_known next now) (seen ++ held)
took_held None source now seen held next p q = tt
took_held (Some x) None now seen held next p q = absurd p
took_held (Some x) (Some y) None seen held next p q = absurd q
took_held (Some x) (Some y) (Some z) seen held next p q = p ∙ ap (λ l. seen ++ (held ++ l)) q ∙ sym (append_assoc seen held (next ++ z))

-- the line's bytes so far, and then a part of what is held
pub took_part : (first source : Option (List ℕ)) (seen held part rest : List ℕ) → Consumes first (prepend_known held source) seen
    → held ≡ part ++ rest → Consumes first (prepend_known rest source) (seen ++ part)
took_part None source seen held part rest p e = tt
took_part (Some x) None seen held part rest p e = absurd p
took_part (Some x) (Some y) seen held part rest p e =
    let regrouped : seen ++ ((part ++ rest) ++ y) ≡ (seen ++ part) ++ (rest ++ y) = simp append_assoc in
    p ∙ ap (λ l. seen ++ (l ++ y)) e ∙ regrouped

-- all bytes of the source were read, and it ended
ended_source : (known first source : Option (List ℕ)) (known_fails first_fails fails : Bool) (before seen held : List ℕ)
    → Consumes known first before → Consumes first (prepend_known held source) seen → first_fails ≡ known_fails → fails ≡ first_fails → IsAtItsEnd source fails
    → IsKnownOf known known_fails (before ++ (seen ++ held)) false
ended_source None first source known_fails first_fails fails before seen held p q same stays at = tt
ended_source (Some w) None source known_fails first_fails fails before seen held p q same stays at = absurd p
ended_source (Some w) (Some x) None known_fails first_fails fails before seen held p q same stays at = absurd q
ended_source (Some w) (Some x) (Some y) known_fails first_fails fails before seen held p q same stays at =
    (p ∙ ap (λ l. before ++ l) (q ∙ ap (λ l. seen ++ l) (ap (λ l. held ++ l) at.0 ∙ append-nil held)), sym (stays ∙ same) ∙ at.1)

failed_source : (known first source : Option (List ℕ)) (known_fails first_fails fails : Bool) (before seen held : List ℕ)
    → Consumes known first before → Consumes first (prepend_known held source) seen → first_fails ≡ known_fails → fails ≡ first_fails → IsAtItsFailure source fails
    → IsKnownOf known known_fails (before ++ (seen ++ held)) true
failed_source None first source known_fails first_fails fails before seen held p q same stays at = tt
failed_source (Some w) None source known_fails first_fails fails before seen held p q same stays at = absurd p
failed_source (Some w) (Some x) None known_fails first_fails fails before seen held p q same stays at = absurd q
failed_source (Some w) (Some x) (Some y) known_fails first_fails fails before seen held p q same stays at =
    (p ∙ ap (λ l. before ++ l) (q ∙ ap (λ l. seen ++ l) (ap (λ l. held ++ l) at.0 ∙ append-nil held)), sym (stays ∙ same) ∙ at.1)

-- ---- one line more

flat_more : (given : List (List ℕ)) (line : List ℕ) → flat_map ended_line (given ++ line ∷ []) ≡ flat_map ended_line given ++ ended_line line
flat_more [] line = append-nil (ended_line line)
flat_more (first ∷ given) line = ap (λ l. ended_line first ++ l) (flat_more given line) ∙ sym (append_assoc (ended_line first) (flat_map ended_line given) (ended_line line))

-- a byte 0A ended the line
pub given_more : (known first source : Option (List ℕ)) (known_fails first_fails fails : Bool) (given : List (List ℕ)) (seen held part rest : List ℕ)
    → IsOpenAfter known known_fails first first_fails given → IsNoEnd seen → IsNoEnd part → Consumes first (prepend_known held source) seen
    → held ≡ part ++ 10 ∷ rest → fails ≡ first_fails
    → IsOpenAfter known known_fails (prepend_known rest source) fails (given ++ (seen ++ part) ∷ [])
given_more known first source known_fails first_fails fails given seen held part rest so_far none more took e stays =
    let split : held ≡ (part ++ 10 ∷ []) ++ rest = e ∙ sym (append_assoc part (10 ∷ []) rest) in
    let all : seen ++ (part ++ 10 ∷ []) ≡ ended_line (seen ++ part) = sym (append_assoc seen part (10 ∷ [])) in
    let next : Consumes first (prepend_known rest source) (ended_line (seen ++ part)) =
    subst (Consumes first (prepend_known rest source)) all (took_part first source seen held (part ++ 10 ∷ []) rest took split) in
    record {
      each = All-push IsNoEnd given (seen ++ part) so_far.each (All-append (λ b. b ≢ 10) seen part none more);
      took = subst (Consumes known (prepend_known rest source)) (sym (flat_more given (seen ++ part))) (Consumes-trans known first (prepend_known rest source) _ _ so_far.took next);
      same = stays ∙ so_far.same;
    }

-- the line as it was kept
gives_whole_open : (known rest : Option (List ℕ)) (known_fails fails : Bool) (given : List (List ℕ)) (line bytes : List ℕ) (long : Bool) (result : LineOutcome)
    → IsOpenAfter known known_fails rest fails (given ++ line ∷ []) → IsCollected line bytes long → IsWhole long result
    → GivesNext known known_fails state.Open rest fails given bytes result
gives_whole_open known rest known_fails fails given line bytes false next.Line so_far kept is =
    (rw kept.0 kept.1, subst (λ l. IsOpenAfter known known_fails rest fails (given ++ l ∷ [])) (sym kept.0) so_far)
gives_whole_open known rest known_fails fails given line bytes true next.Line so_far kept is = absurd (let e : true ≡ false = is in cc)
gives_whole_open known rest known_fails fails given line bytes true next.TooLong so_far kept is = (line, kept, so_far)
gives_whole_open known rest known_fails fails given line bytes false next.TooLong so_far kept is = absurd (let e : false ≡ true = is in cc)
gives_whole_open known rest known_fails fails given line bytes long next.End so_far kept is = absurd is
gives_whole_open known rest known_fails fails given line bytes long next.Failed so_far kept is = absurd is

pub gives_whole : (known rest : Option (List ℕ)) (known_fails fails : Bool) (now : SourceState) (given : List (List ℕ)) (line bytes : List ℕ) (long : Bool) (result : LineOutcome)
    → now ≡ state.Open → IsOpenAfter known known_fails rest fails (given ++ line ∷ []) → IsCollected line bytes long → IsWhole long result
    → GivesNext known known_fails now rest fails given bytes result
gives_whole known rest known_fails fails now given line bytes long result is_open more kept is =
    subst (λ s. GivesNext known known_fails s rest fails given bytes result) (sym is_open) (gives_whole_open known rest known_fails fails given line bytes long result more kept is)

-- the end of the source ended a line, and all are given
all_given : (known : Option (List ℕ)) (known_fails : Bool) (given : List (List ℕ)) (line : List ℕ) → All IsNoEnd given → IsNoEnd line → line ≢ []
    → IsKnownOf known known_fails (flat_map ended_line given ++ line) false → HasGivenAll known known_fails false (given ++ line ∷ [])
all_given known known_fails given line each none some gave = record {
  bytes = flat_map ended_line given ++ line;
  gave = gave;
  all = sym (lines-given given line each ∙ ap (λ ls. given ++ ls) (lines-last line none some));
}

none_left : (known : Option (List ℕ)) (known_fails : Bool) (given : List (List ℕ)) (line : List ℕ) → All IsNoEnd given → line ≡ []
    → IsKnownOf known known_fails (flat_map ended_line given ++ line) false → HasGivenAll known known_fails false given
none_left known known_fails given line each none gave = record {
  bytes = flat_map ended_line given ++ line;
  gave = gave;
  all = sym (lines-given given line each ∙ ap (λ l. given ++ lines_in l) none ∙ append-nil given);
}

long_is_some : (line : List ℕ) → MAX_LINE < length line → line ≢ []
long_is_some [] long e = absurd (omega arith)
long_is_some (b ∷ line) long e = cc

gives_last_of : (known rest : Option (List ℕ)) (known_fails fails : Bool) (given : List (List ℕ)) (line bytes : List ℕ) (long : Bool) (result : LineOutcome)
    → All IsNoEnd given → IsNoEnd line → IsKnownOf known known_fails (flat_map ended_line given ++ line) false
    → IsCollected line bytes long → IsLast bytes long result → GivesNext known known_fails state.Ended rest fails given bytes result
gives_last_of known rest known_fails fails given line bytes false next.Line each none gave kept is =
    (rw kept.0 kept.1, subst (λ l. HasGivenAll known known_fails false (given ++ l ∷ [])) (sym kept.0) (all_given known known_fails given line each none (λ e. is.1 (kept.0 ∙ e)) gave))
gives_last_of known rest known_fails fails given line bytes true next.Line each none gave kept is = absurd (let e : true ≡ false = is.0 in cc)
gives_last_of known rest known_fails fails given line bytes true next.TooLong each none gave kept is =
    (line, kept, all_given known known_fails given line each none (long_is_some line kept) gave)
gives_last_of known rest known_fails fails given line bytes false next.TooLong each none gave kept is = absurd (let e : false ≡ true = is in cc)
gives_last_of known rest known_fails fails given line bytes false next.End each none gave kept is =
    (refl, none_left known known_fails given line each (sym kept.0 ∙ is.1) gave)
gives_last_of known rest known_fails fails given line bytes true next.End each none gave kept is = absurd (let e : true ≡ false = is.0 in cc)
gives_last_of known rest known_fails fails given line bytes long next.Failed each none gave kept is = absurd is

-- the source ended
pub gives_last : (known first source rest : Option (List ℕ)) (known_fails first_fails fails now_fails : Bool) (given : List (List ℕ)) (seen held bytes : List ℕ) (long : Bool) (result : LineOutcome)
    → IsOpenAfter known known_fails first first_fails given → IsNoEnd seen → IsNoEnd held → Consumes first (prepend_known held source) seen → fails ≡ first_fails
    → IsAtItsEnd source fails → IsCollected (seen ++ held) bytes long → IsLast bytes long result
    → GivesNext known known_fails state.Ended rest now_fails given bytes result
gives_last known first source rest known_fails first_fails fails now_fails given seen held bytes long result so_far none more took stays at kept is =
    gives_last_of known rest known_fails now_fails given (seen ++ held) bytes long result so_far.each (All-append (λ b. b ≢ 10) seen held none more)
    (ended_source known first source known_fails first_fails fails _ seen held so_far.took took so_far.same stays at) kept is

-- a read failed
pub gives_none : (known first source rest : Option (List ℕ)) (known_fails first_fails fails now_fails : Bool) (given : List (List ℕ)) (seen held bytes : List ℕ)
    → IsOpenAfter known known_fails first first_fails given → IsNoEnd seen → IsNoEnd held → Consumes first (prepend_known held source) seen → fails ≡ first_fails
    → IsAtItsFailure source fails → GivesNext known known_fails state.Failed rest now_fails given bytes next.Failed
gives_none known first source rest known_fails first_fails fails now_fails given seen held bytes so_far none more took stays at = (
  refl,
  record {
    bytes = flat_map ended_line given ++ (seen ++ held);
    gave = failed_source known first source known_fails first_fails fails _ seen held so_far.took took so_far.same stays at;
    all = sym (ended_lines-given given (seen ++ held) so_far.each
        ∙ ap (λ ls. given ++ ls) (ended_lines-none (seen ++ held) (All-append (λ b. b ≢ 10) seen held none more)) ∙ append-nil given);
  },
)
