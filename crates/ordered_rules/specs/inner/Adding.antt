-- What a statement adds.
use Rattle.std.specs.Prelude.{ℕ, List, [], ◌∷◌}
use Rattle.syntax_tree.specs.declared.statement.Statement.{Statement}
use Rattle.syntax_tree.specs.declared.statement.Statement.TheVariants as statement
use Rattle.program_meaning.specs.Read.{ReadRule, rule_read}

-- the rule that the statement is, if it is one
abbrev pub rule_there : Statement → List ℕ → List ReadRule
rule_there (statement.Rule rule) order = rule_read rule order ∷ []
rule_there (statement.Constant name term place) order = []
rule_there statement.ShowNothing order = []
rule_there (statement.Show name arity) order = []
