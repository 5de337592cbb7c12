-- Why lists give no graph.
use Rattle.std.specs.Prelude.{ℕ, ◌<◌, List}
use Rattle.embedding.specs.declared.breaks.ReadFault.{ReadFault}
use Rattle.embedding.specs.declared.breaks.ReadFault.TheVariants.{Rule, Memory}
use Rattle.embedding.specs.Rules.{KeepsBefore, FirstBroken, rule_number}

-- the rule is the first of rules 1 to 7 that the lists break; memory is asked for only where they keep all seven
abbrev pub IsReadFault : List (List ℕ) → ReadFault → Type 0
IsReadFault g (Rule r) = FirstBroken g r × (rule_number r < 8)
IsReadFault g Memory = KeepsBefore g 8
