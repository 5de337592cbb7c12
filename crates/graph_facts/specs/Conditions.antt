-- Conditions on graphs, and the graphs that they choose.
use Rattle.std.specs.Prelude.{ℕ, ◌==◌, ◌&&◌, Bool, true, false, not, if◌then◌else◌, Option, None, Some, is_none}
use Rattle.embedding.specs.declared.breaks.Rule.{Rule}
use Rattle.embedding.specs.Rules.{rule_number}
use Rattle.graph_facts.specs.declared.selection.Range.{Range}
use Rattle.graph_facts.specs.declared.selection.Facts.{Facts}
use Rattle.graph_facts.specs.declared.selection.Conditions.{Conditions}
use Rattle.graph_facts.specs.declared.selection.Selection.{Selection}
use Rattle.graph_facts.specs.declared.selection.RuleCondition.{RuleCondition}
use Rattle.graph_facts.specs.declared.selection.RuleCondition.TheVariants.{BreaksNone, BreaksFirst}
use Rattle.graph_facts.specs.Ranges.{in_range}

-- The number meets a condition on it, if there is one. A graph that has no such number meets no condition on it.
abbrev pub meets_range : Option Range → Option ℕ → Bool
meets_range None number = true
meets_range (Some range) None = false
meets_range (Some range) (Some n) = in_range range n

-- the first rule that the graph breaks, if any, meets a condition on it, if there is one
abbrev pub meets_rule : Option RuleCondition → Option Rule → Bool
meets_rule None rule = true
meets_rule (Some BreaksNone) rule = is_none rule
meets_rule (Some (BreaksFirst asked)) None = false
meets_rule (Some (BreaksFirst asked)) (Some rule) = rule_number asked == rule_number rule

-- the graph meets every condition; without any, each graph does
abbrev pub meets : Conditions → Facts → Bool
meets conditions facts =
    meets_range conditions.vertices (Some facts.vertices)
    && (meets_range conditions.edges facts.edges
    && (meets_range conditions.faces facts.faces
    && (meets_range conditions.bends facts.bends
    && meets_rule conditions.rule facts.rule)))

-- the graphs that meet the conditions are chosen, or, if the others are asked for, those that do not
abbrev pub chooses : Selection → Facts → Bool
chooses selection facts = if selection.others then not (meets selection.conditions facts) else meets selection.conditions facts

-- A record is chosen by its facts. If memory ran out for it, it is neither chosen nor one of the others.
abbrev pub is_chosen : Selection → Option Facts → Bool
is_chosen selection None = false
is_chosen selection (Some facts) = chooses selection facts

-- no condition: every graph meets it
abbrev pub no_condition : Conditions
no_condition = record { vertices = None; edges = None; faces = None; bends = None; rule = None }

-- the graphs that meet the conditions
abbrev pub those_meeting : Conditions → Selection
those_meeting conditions = record { conditions = conditions; others = false }

-- those that do not
abbrev pub others_than : Conditions → Selection
others_than conditions = record { conditions = conditions; others = true }
