-- The lines of bytes: they are divided at each byte 0A.
use Rattle.std.specs.Prelude.{◌≡◌, ◌≢◌, ℕ, ◌<◌, ◌≤◌, ◌==◌, Bool, true, false, List, [], ◌∷◌, ◌++◌, length, All, Option, ⊤, if◌then◌else◌}
use Rattle.std.specs.List.{flat_map}
use Rattle.std.specs.Io.KnownBytes.{Consumes, prepend_known}
use Rattle.planar_code.specs.Stream.{before_first}
use Rattle.streams.specs.Reading.{IsKnownOf}
use Rattle.streams.specs.Tap.{IsAtItsEnd, IsAtItsFailure}
use Rattle.checking.specs.declared.line_buffer.TheConstants.{MAX_LINE}
use Rattle.checking.specs.declared.line_reader.Lines.{Lines}
use Rattle.checking.specs.declared.line_reader.LineOutcome.{LineOutcome}
use Rattle.checking.specs.declared.line_reader.LineOutcome.TheVariants as next
use Rattle.checking.specs.declared.line_reader.SourceState.{SourceState}
use Rattle.checking.specs.declared.line_reader.SourceState.TheVariants as state

-- there is no byte 0A among these
abbrev pub IsNoEnd : List ℕ → Type 0
IsNoEnd bytes = All (λ b. b ≢ 10) bytes

-- the lines, with the byte put before the first of them, or as a line of its own if there is none
abbrev pub before_line : ℕ → List (List ℕ) → List (List ℕ)
before_line b [] = (b ∷ []) ∷ []
before_line b (line ∷ lines) = (b ∷ line) ∷ lines

-- the lines of bytes, each up to its byte 0A; what follows the last byte 0A is a line unless it is empty
abbrev pub lines_in : List ℕ → List (List ℕ)
lines_in [] = []
lines_in (b ∷ bytes) = if b == 10 then [] ∷ lines_in bytes else before_line b (lines_in bytes)

-- those of them that a byte 0A ends
abbrev pub ended_lines_in : List ℕ → List (List ℕ)
ended_lines_in [] = []
ended_lines_in (b ∷ bytes) = if b == 10 then [] ∷ ended_lines_in bytes else before_first b (ended_lines_in bytes)

-- the lines of a source that gives these bytes and then fails or ends: if it fails, what follows the last byte 0A is none
abbrev pub lines_of : List ℕ → Bool → List (List ℕ)
lines_of bytes true = ended_lines_in bytes
lines_of bytes false = lines_in bytes

-- a line as it is written, ended by one byte 0A
abbrev pub ended_line : List ℕ → List ℕ
ended_line line = line ++ 10 ∷ []

-- ---- what a reader has given

-- what a reader may still give: the bytes that it holds, and those of its source
abbrev pub rest_in : {T : Type 0} → (T → Option (List ℕ)) → Lines T → Option (List ℕ)
rest_in to_come lines = prepend_known lines.held (to_come lines.source)

abbrev pub fails_in : {T : Type 0} → (T → Bool) → Lines T → Bool
fails_in fails lines = fails lines.source

abbrev pub state_in : {T : Type 0} → Lines T → SourceState
state_in lines = lines.state

abbrev pub line_in : {T : Type 0} → Lines T → List ℕ
line_in lines = lines.line.bytes.items

-- a reader of a source of which this is known has given these lines, and the rest is to come
pub record IsOpenAfter (known : Option (List ℕ)) (known_fails : Bool) (rest : Option (List ℕ)) (fails : Bool) (given : List (List ℕ)) : Type 0 where
  pub each : All IsNoEnd given
  pub took : Consumes known rest (flat_map ended_line given)
  pub same : fails ≡ known_fails

-- a reader of a source of which this is known has given all lines of it, up to its end or to its failure
pub record HasGivenAll (known : Option (List ℕ)) (known_fails : Bool) (failed : Bool) (given : List (List ℕ)) : Type 0 where
  pub bytes : List ℕ
  pub gave : IsKnownOf known known_fails bytes failed
  pub all : given ≡ lines_of bytes failed

-- the lines that a reader in this state has given
abbrev pub HasGiven : Option (List ℕ) → Bool → SourceState → Option (List ℕ) → Bool → List (List ℕ) → Type 0
HasGiven known known_fails state.Open rest fails given = IsOpenAfter known known_fails rest fails given
HasGiven known known_fails state.Ended rest fails given = HasGivenAll known known_fails false given
HasGiven known known_fails state.Failed rest fails given = HasGivenAll known known_fails true given

-- a reader that had given these lines gives the next one, or none
abbrev pub GivesNext : Option (List ℕ) → Bool → SourceState → Option (List ℕ) → Bool → List (List ℕ) → List ℕ → LineOutcome → Type 0
GivesNext known known_fails now rest fails given line next.Line = (length line ≤ MAX_LINE) × HasGiven known known_fails now rest fails (given ++ line ∷ [])
GivesNext known known_fails now rest fails given line next.TooLong =
    (long : List ℕ) × (MAX_LINE < length long) × HasGiven known known_fails now rest fails (given ++ long ∷ [])
GivesNext known known_fails now rest fails given line next.End = (now ≡ state.Ended) × HasGivenAll known known_fails false given
GivesNext known known_fails now rest fails given line next.Failed = (now ≡ state.Failed) × HasGivenAll known known_fails true given

-- once a source has ended or a read has failed, there is no further line
abbrev pub StaysClosed : SourceState → LineOutcome → Type 0
StaysClosed state.Open given = ⊤
StaysClosed state.Ended given = given ≡ next.End
StaysClosed state.Failed given = given ≡ next.Failed

-- ---- a line as it is read. Only private contracts speak of it

-- of the bytes that were seen these are kept, or they are too many
abbrev pub IsCollected : List ℕ → List ℕ → Bool → Type 0
IsCollected seen bytes false = (bytes ≡ seen) × (length seen ≤ MAX_LINE)
IsCollected seen bytes true = MAX_LINE < length seen

-- a part was added to what was seen
abbrev pub Adds : List ℕ → List ℕ → Bool → List ℕ → Bool → Type 0
Adds part old old_long new new_long = (seen : List ℕ) → IsCollected seen old old_long → IsCollected (seen ++ part) new new_long

-- a read of a source, after which these bytes are held, and the source is in this state
abbrev pub IsRefilled : Option (List ℕ) → Bool → Option (List ℕ) → Bool → List ℕ → SourceState → Type 0
IsRefilled to_come fails now now_fails held state.Open = Consumes to_come now held × (now_fails ≡ fails)
IsRefilled to_come fails now now_fails held state.Ended = IsAtItsEnd to_come fails
IsRefilled to_come fails now now_fails held state.Failed = IsAtItsFailure to_come fails

abbrev pub IsWhole : Bool → LineOutcome → Type 0
IsWhole long next.Line = long ≡ false
IsWhole long next.TooLong = long ≡ true
IsWhole long next.End = ⊥
IsWhole long next.Failed = ⊥

abbrev pub IsLast : List ℕ → Bool → LineOutcome → Type 0
IsLast bytes long next.Line = (long ≡ false) × (bytes ≢ [])
IsLast bytes long next.TooLong = long ≡ true
IsLast bytes long next.End = (long ≡ false) × (bytes ≡ [])
IsLast bytes long next.Failed = ⊥
