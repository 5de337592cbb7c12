-- The reason why a graph is not a plane.
use Rattle.std.specs.Prelude.{◌≡◌, ℕ, List}
use Rattle.embedding.specs.declared.breaks.Rule.TheVariants.{Genus as genus_rule}
use Rattle.embedding.specs.Rules.{FirstBroken}
use Rattle.faces.specs.declared.plane.TraceFault.{TraceFault}
use Rattle.faces.specs.declared.plane.TraceFault.TheVariants.{Genus, Memory}

-- the fault returns the graph, and is `Genus` only if the last rule is the first one broken
abbrev pub IsTraceFault : List (List ℕ) → TraceFault → Type 0
IsTraceFault g (Genus back) = (back ≡ g) × FirstBroken g genus_rule
IsTraceFault g (Memory back) = back ≡ g
