-- Rewritten statements whose rules can be grounded.
use Rattle.std.specs.Prelude.{◌≡◌, ℕ, true, List}
use Rattle.syntax_tree.specs.declared.rule.Rule.{Rule}
use Rattle.syntax_tree.specs.declared.statement.Statement.{Statement}
use Rattle.syntax_tree.specs.declared.statement.Statement.TheVariants as statement
use Rattle.syntax_tree.specs.Statements.{is_rule}
use Rattle.program_meaning.specs.Read.{rule_read}
use Rattle.groundable_rules.specs.Groundable.{IsGroundable}

-- the rule is a tree, and can be grounded with its variables in this order
pub record IsGroundableRule (rule : Rule) (order : List ℕ) : Type 0 where
  pub tree : is_rule rule ≡ true
  pub groundable : IsGroundable (rule_read rule order)

-- a statement that is a rule can be grounded
abbrev pub IsGroundableStatement : Statement → List ℕ → Type 0
IsGroundableStatement (statement.Rule rule) order = IsGroundableRule rule order
IsGroundableStatement (statement.Constant name term place) order = Unit {0}
IsGroundableStatement statement.ShowNothing order = Unit {0}
IsGroundableStatement (statement.Show name arity) order = Unit {0}
