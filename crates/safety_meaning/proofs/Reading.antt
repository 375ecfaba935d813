-- The program of statements, rule by rule.
use Rattle.std.proofs.Common.{◌≡◌, List, [], ◌∷◌, map, refl, ap}
use Rattle.std.specs.List.{flat_map}
use Rattle.syntax_tree.specs.declared.statement.Statement.{Statement}
use Rattle.syntax_tree.specs.declared.statement.Statement.TheVariants as statement
use Rattle.rewriting.specs.Rewritten.{rewritten_statement}
use Rattle.rewriting.specs.Order.{order_of_statement}
use Rattle.program_meaning.specs.Read.{ShowsNothing, ShowsPredicate, rules_read, show_read}
use Rattle.safety_meaning.specs.Program.{rule_of, rules_of}
use Rattle.safety_meaning.specs.Laws.{ReadLaw}

rules_are : (statements : List Statement) → rules_read (map rewritten_statement statements) (map order_of_statement statements) ≡ rules_of statements
rules_are [] = refl
rules_are (statement.Rule rule ∷ rest) = ap (λ rules. rule_of rule ∷ rules) (rules_are rest)
rules_are (statement.Constant name term place ∷ rest) = rules_are rest
rules_are (statement.ShowNothing ∷ rest) = rules_are rest
rules_are (statement.Show name arity ∷ rest) = rules_are rest

shows_are : (statements : List Statement) → flat_map show_read (map rewritten_statement statements) ≡ flat_map show_read statements
shows_are [] = refl
shows_are (statement.Rule rule ∷ rest) = shows_are rest
shows_are (statement.Constant name term place ∷ rest) = shows_are rest
shows_are (statement.ShowNothing ∷ rest) = ap (λ shows. ShowsNothing ∷ shows) (shows_are rest)
shows_are (statement.Show name arity ∷ rest) = ap (λ shows. ShowsPredicate name arity ∷ shows) (shows_are rest)

pub read_law : ReadLaw
read_law statements = λ i. record { rules = rules_are statements i; shows = shows_are statements i }
