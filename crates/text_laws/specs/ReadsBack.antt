-- What it is that a printed statement reads back.
use Rattle.std.specs.Prelude.{◌≡◌, [], ◌∷◌}
use Rattle.syntax_tree.specs.Printed.{statement_text}
use Rattle.syntax_tree.specs.declared.rule.Rule.{Rule}
use Rattle.syntax_tree.specs.declared.statement.Statement.{Statement}
use Rattle.syntax_tree.specs.declared.statement.Statement.TheVariants as statement
use Rattle.asp_parser.specs.Parsed.{FoundText}

-- two rules are the same, but for where they stand
pub record IsSameRule (one other : Rule) : Type 0 where
  pub head : other.head ≡ one.head
  pub body : other.body ≡ one.body
  pub arrow : other.arrow ≡ one.arrow
  pub names : other.names ≡ one.names

-- two statements are the same, but for where they stand
abbrev pub IsSame : Statement → Statement → Type 0
IsSame (statement.Rule one) (statement.Rule other) = IsSameRule one other
IsSame (statement.Constant name term place) (statement.Constant other same there) = (other ≡ name) × (same ≡ term)
IsSame statement.ShowNothing statement.ShowNothing = Unit {0}
IsSame (statement.Show name arity) (statement.Show other same) = (other ≡ name) × (same ≡ arity)
IsSame _ _ = ⊥

-- the printed text of the statement is that of one statement, which is the same
pub record ReadsBack (printed : Statement) : Type 0 where
  pub again : Statement
  pub found : FoundText (statement_text printed) (again ∷ [])
  pub same : IsSame printed again
