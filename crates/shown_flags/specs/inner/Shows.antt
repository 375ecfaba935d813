-- What is shown, statement by statement.
use Rattle.std.specs.Prelude.{Bool, true, false, not, ◌||◌, List}
use Rattle.std.specs.List.{list_any}
use Rattle.symbols.specs.Symbol.{Symbol}
use Rattle.syntax_tree.specs.declared.statement.Statement.{Statement}
use Rattle.syntax_tree.specs.declared.statement.Statement.TheVariants as s
use Rattle.program_meaning.specs.Canonical.{is_of_predicate}

-- it is a `#show` statement
abbrev pub is_show : Statement → Bool
is_show s.ShowNothing = true
is_show (s.Show name arity) = true
is_show statement = false

-- it names the atom's predicate
abbrev pub names : Symbol → Statement → Bool
names a (s.Show name arity) = is_of_predicate name arity a
names a statement = false

-- no statement is one, or some statement names the predicate
abbrev pub is_shown : List Statement → Symbol → Bool
is_shown statements a = not (list_any is_show statements) || list_any (names a) statements
