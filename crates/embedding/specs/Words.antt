-- The words that reports have for the rules.
use Rattle.std.specs.Prelude.{ℕ, List, codes}
use Rattle.embedding.specs.declared.breaks.Rule.{Rule}
use Rattle.embedding.specs.declared.breaks.Rule.TheVariants.{Range, Loop, Multi, Asymmetric, Edgeless, Degree, Disconnected, Genus}

abbrev pub word_of : Rule → List ℕ
word_of Range = codes "range"
word_of Loop = codes "loop"
word_of Multi = codes "multi"
word_of Asymmetric = codes "asymmetric"
word_of Edgeless = codes "edgeless"
word_of Degree = codes "degree"
word_of Disconnected = codes "disconnected"
word_of Genus = codes "genus"
