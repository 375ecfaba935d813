-- Programs with their bodies in order.
use Rattle.std.specs.Prelude.{◌≡◌, ℕ, List, [], ◌∷◌}
use Rattle.syntax_tree.specs.declared.statement.Statement.{Statement}
use Rattle.syntax_tree.specs.declared.statement.Statement.TheVariants as statement
use Rattle.program_meaning.specs.Read.{rule_read}
use Rattle.rewriting.specs.declared.program.RewrittenProgram.{RewrittenProgram}
use Rattle.groundable_rules.specs.Groundable.{IsGroundable}
use Rattle.safety_meaning.specs.Ordered.{IsOrderedRule}

-- the statement, if it is a rule, can be grounded, where its variables are in this order
abbrev pub IsGroundableIn : Statement → List ℕ → Type 0
IsGroundableIn (statement.Rule rule) order = IsGroundable (rule_read rule order)
IsGroundableIn other order = Unit {0}

-- a rule with its body and its conditions in order; another statement stays as it is
abbrev pub IsOrderedIn : List ℕ → Statement → Statement → Type 0
IsOrderedIn order (statement.Rule rule) (statement.Rule done) = IsOrderedRule (rule_read rule order) (rule_read done order)
IsOrderedIn order one done = one ≡ done

-- each statement beside the order of its variables
abbrev pub AreOrderedIn : List Statement → List (List ℕ) → List Statement → Type 0
AreOrderedIn [] [] [] = Unit {0}
AreOrderedIn (one ∷ statements) (order ∷ orders) (done ∷ others) = IsOrderedIn order one done × AreOrderedIn statements orders others
AreOrderedIn statements orders others = ⊥

pub record IsOrderedProgram (one done : RewrittenProgram) : Type 0 where
  pub statements : AreOrderedIn one.program.statements one.orders done.program.statements
  pub files : done.program.files ≡ one.program.files
  pub orders : done.orders ≡ one.orders
  pub sights : done.sights ≡ one.sights
