-- Rules beside their variables in order.
use Rattle.program_meaning.specs.Read.{ReadRule, rule_read}
use Rattle.groundable_texts.specs.Statements.{IsGroundableRule}
use Rattle.ordered_rules.specs.declared.ordered.OrderedRule.{OrderedRule}

-- the rule as it is read
abbrev pub read_of : OrderedRule → ReadRule
read_of ordered = rule_read ordered.rule.now ordered.order.now

-- it is a tree and can be grounded
abbrev pub IsGroundableOrdered : OrderedRule → Type 0
IsGroundableOrdered ordered = IsGroundableRule ordered.rule.now ordered.order.now
