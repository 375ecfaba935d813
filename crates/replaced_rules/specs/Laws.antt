-- What follows for rules whose constants are replaced.
use Rattle.std.specs.Prelude.{◌≡◌}
use Rattle.syntax_tree.specs.declared.rule.Rule.{Rule}
use Rattle.asp_parser.specs.Replacement.{Constants, replaced_rule}
use Rattle.rewriting.specs.Order.{sights_of}
use Rattle.checked_rules.specs.Checked.{IsCheckedRule}

-- in a rule whose constants are replaced the same variables are seen, in the same order
abbrev pub SightsLaw : Type 0
SightsLaw = (constants : Constants) (rule : Rule) → sights_of (replaced_rule constants rule) ≡ sights_of rule

-- a rule that passes the checks still does when its constants are replaced
abbrev pub ReplacedLaw : Type 0
ReplacedLaw = (constants : Constants) (rule : Rule) → IsCheckedRule rule → IsCheckedRule (replaced_rule constants rule)
