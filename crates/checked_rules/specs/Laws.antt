-- What follows for rules that pass the checks.
use Rattle.std.specs.Prelude.{◌≡◌, true}
use Rattle.syntax_tree.specs.declared.rule.Rule.{Rule}
use Rattle.syntax_tree.specs.Statements.{is_rule}
use Rattle.rewriting.specs.Rewritten.{rewritten}
use Rattle.safety_meaning.specs.Program.{rule_of}
use Rattle.safety_meaning.specs.Failures.{HasNoUnsafe}
use Rattle.groundable_rules.specs.Groundable.{IsGroundable}
use Rattle.checked_rules.specs.Checked.{IsChecked, IsCheckedRule}

-- a rewritten rule is a tree as the rule was, and still passes the checks
abbrev pub RewrittenLaw : Type 0
RewrittenLaw = (rule : Rule) → is_rule rule ≡ true → IsChecked rule → (is_rule (rewritten rule) ≡ true) × IsChecked (rewritten rule)

-- where no named variable and none of a `_` is unsafe, the rewritten rule can be grounded
abbrev pub GroundableLaw : Type 0
GroundableLaw = (rule : Rule) → is_rule rule ≡ true → IsCheckedRule rule → HasNoUnsafe rule → IsGroundable (rule_of rule)
