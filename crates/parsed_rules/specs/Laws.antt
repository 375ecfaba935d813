-- What follows for the rules that a text parses to.
use Rattle.std.specs.Prelude.{ℕ, List}
use Rattle.std.specs.List.{AllByRecursion}
use Rattle.syntax_tree.specs.declared.statement.Statement.{Statement}
use Rattle.asp_parser.specs.Parsed.{FoundText}
use Rattle.safety_meaning.specs.Program.{written_rules}
use Rattle.checked_rules.specs.Checked.{IsCheckedRule}

-- each rule that a text parses to passes the checks: its named variables are numbered, and it has at most 64
abbrev pub ParsedLaw : Type 0
ParsedLaw = (text : List ℕ) (statements : List Statement) → FoundText text statements → AllByRecursion IsCheckedRule (written_rules statements)
