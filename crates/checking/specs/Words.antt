-- The words of verdicts.
use Rattle.std.specs.Prelude.{ℕ, List, ◌++◌, codes}
use Rattle.embedding.specs.Words as rules
use Rattle.checking.specs.declared.json.LineFault.{LineFault}
use Rattle.checking.specs.declared.json.LineFault.TheVariants as line
use Rattle.referee.specs.declared.judge.Fault.{Fault}
use Rattle.referee.specs.declared.judge.Fault.TheVariants as fault
use Rattle.referee.specs.declared.claims.FalseClaim.{FalseClaim}
use Rattle.referee.specs.declared.claims.FalseClaim.TheVariants as claim
use Rattle.checking.specs.declared.judging.Verdict.{Verdict}
use Rattle.checking.specs.declared.judging.Verdict.TheVariants as verdict

abbrev pub line_word : LineFault → List ℕ
line_word line.Malformed = codes "line=malformed"
line_word line.Points = codes "line=points"
line_word line.Number = codes "line=range"
line_word line.Angles = codes "line=angles"
line_word line.Turns = codes "line=turns"
line_word line.Prices = codes "line=prices"
line_word line.Memory = codes "memory"

abbrev pub drawn_word : Fault → List ℕ
drawn_word fault.Vertices = codes "drawn=vertices"
drawn_word fault.Edges = codes "drawn=edges"
drawn_word (fault.Long edge) = codes "drawn=long"
drawn_word (fault.VertexOutOfGrid vertex) = codes "drawn=grid"
drawn_word (fault.CornerOutOfGrid edge corner) = codes "drawn=grid"
drawn_word (fault.NotAxis edge part) = codes "drawn=axes"
drawn_word (fault.NoTurn edge corner) = codes "drawn=turn"
drawn_word (fault.Embedding vertex) = codes "embedding"
drawn_word fault.Outer = codes "outer"
drawn_word fault.Meet = codes "drawn=meet"
drawn_word fault.Memory = codes "memory"

abbrev pub claim_word : FalseClaim → List ℕ
claim_word claim.Angles = codes "claim=angles"
claim_word claim.Turns = codes "claim=turns"
claim_word claim.Prices = codes "claim=prices"
claim_word claim.Bends = codes "claim=bends"
claim_word claim.Outer = codes "claim=outer"

abbrev pub word_of : Verdict → List ℕ
word_of (verdict.Refused r) = codes "refused " ++ rules.word_of r
word_of verdict.Missing = codes "line=missing"
word_of verdict.Unread = codes "line=unread"
word_of (verdict.Line f) = line_word f
word_of (verdict.Drawn f) = drawn_word f
word_of verdict.Regions = codes "regions"
word_of (verdict.Claim c) = claim_word c
word_of (verdict.Ok bends fewest) = codes "ok"
word_of verdict.Memory = codes "memory"
