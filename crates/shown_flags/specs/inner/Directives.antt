-- Directives, statement by statement.
use Rattle.std.specs.Prelude.{Bool, false}
use Rattle.syntax_tree.specs.declared.literal.TheoryName.{TheoryName}
use Rattle.syntax_tree.specs.declared.statement.Statement.{Statement}
use Rattle.syntax_tree.specs.declared.statement.Statement.TheVariants as s
use Rattle.program_meaning.specs.Read.{head_read}
use Rattle.program_meaning.specs.Canonical.{head_directs}

-- it is a rule with the directive as its head
abbrev pub directs : TheoryName → Statement → Bool
directs name (s.Rule rule) = head_directs name (head_read rule.head)
directs name statement = false
