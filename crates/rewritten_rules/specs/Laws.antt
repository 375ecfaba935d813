-- What follows from the definitions.
use Rattle.std.specs.Prelude.{◌≡◌, ℕ, true, length}
use Rattle.syntax_tree.specs.declared.rule.Rule.{Rule}
use Rattle.ground_model.specs.Members.{IsMember}
use Rattle.rewriting.specs.Order.{order_of}
use Rattle.safety_meaning.specs.Program.{rule_of}
use Rattle.program_meaning.specs.Search.{AreNumbered}
use Rattle.rewritten_rules.specs.Named.{AreNamed}
use Rattle.rewritten_rules.specs.Within.{within_rule}

-- each variable that stands in a rewritten rule is in the rule's order
abbrev pub OrderedLaw : Type 0
OrderedLaw = (rule : Rule) (n : ℕ) → within_rule n (rule_of rule) ≡ true → IsMember (order_of rule) n

-- the order has each variable once, and they are numbered from 1
abbrev pub NumberedLaw : Type 0
NumberedLaw = (rule : Rule) → AreNamed rule → AreNumbered (length (order_of rule)) (order_of rule)
