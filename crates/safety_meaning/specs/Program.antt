-- The program that a text's statements stand for: a function of their trees alone.
use Rattle.std.specs.Prelude.{List, [], ◌∷◌, map}
use Rattle.std.specs.List.{flat_map}
use Rattle.syntax_tree.specs.declared.rule.Rule.{Rule}
use Rattle.syntax_tree.specs.declared.statement.Statement.{Statement}
use Rattle.syntax_tree.specs.declared.statement.Statement.TheVariants as statement
use Rattle.rewriting.specs.Rewritten.{rewritten}
use Rattle.rewriting.specs.Order.{order_of}
use Rattle.program_meaning.specs.Read.{ReadRule, ReadProgram, rule_read, show_read}

abbrev pub rule_in : Statement → List Rule
rule_in (statement.Rule rule) = rule ∷ []
rule_in statement = []

-- the rules among statements, as they are written
abbrev pub written_rules : List Statement → List Rule
written_rules statements = flat_map rule_in statements

-- a rule rewritten, with all its variables in the order in which they first occur in its text
abbrev pub rule_of : Rule → ReadRule
rule_of rule = rule_read (rewritten rule) (order_of rule)

-- the rules that statements stand for
abbrev pub rules_of : List Statement → List ReadRule
rules_of statements = map rule_of (written_rules statements)

-- the program that statements stand for
abbrev pub program_of : List Statement → ReadProgram
program_of statements = record { rules = rules_of statements; shows = flat_map show_read statements }
