-- The constants of a program: each statement `#const n = t.` defines n once, and its value is that of t, in which the constants
-- before it are replaced.
use Rattle.std.specs.Prelude.{◌≡◌, ◌⊎◌, ℕ, List, [], ◌∷◌, ◌++◌, map, take, fold, slice_get, Option, Some, None, IsSome}
use Rattle.symbols.specs.Symbol.{Symbol}
use Rattle.syntax_tree.specs.declared.term.Term.{Term}
use Rattle.syntax_tree.specs.declared.statement.Statement.{Statement}
use Rattle.syntax_tree.specs.declared.statement.Statement.TheVariants as statement
use Rattle.syntax_tree.specs.declared.statement.Program.{Program}
use Rattle.syntax_tree.specs.Outcome.{Outcome, IsSymbol, IsOver, IsUndefined}
use Rattle.syntax_tree.specs.Value.{value_of}
use Rattle.asp_parser.specs.declared.constants.ConstantStop.{ConstantStop}
use Rattle.asp_parser.specs.declared.constants.ConstantStop.TheVariants as stop
use Rattle.asp_parser.specs.Replacement.{Constants, value_at, replaced, replaced_statement}

-- a value that is neither undefined nor over
abbrev pub symbol_in : Outcome → Option Symbol
symbol_in (IsSymbol symbol) = Some symbol
symbol_in IsOver = None
symbol_in IsUndefined = None

-- the symbol that a constant's term is worth, where the constants before it are these
abbrev pub symbol_of : Constants → Term → Option Symbol
symbol_of constants term = symbol_in (value_of [] (replaced constants term))

-- one constant more: there is none where the name has a value already, or the term is worth no symbol
abbrev pub with_constant : Constants → List ℕ → Option Symbol → Option Symbol → Option Constants
with_constant constants name (Some before) symbol = None
with_constant constants name None None = None
with_constant constants name None (Some symbol) = Some (constants ++ (name, symbol) ∷ [])

-- the constants so far with that of one statement more
abbrev pub with_statement : Constants → Statement → Option Constants
with_statement constants (statement.Rule rule) = Some constants
with_statement constants (statement.Constant name term place) = with_constant constants name (value_at constants name) (symbol_of constants term)
with_statement constants statement.ShowNothing = Some constants
with_statement constants (statement.Show name arity) = Some constants

abbrev pub and_statement : Option Constants → Statement → Option Constants
and_statement None next = None
and_statement (Some constants) next = with_statement constants next

-- the constants of statements in order, or none where one may not be defined so
abbrev pub constants_of : List Statement → Option Constants
constants_of statements = fold and_statement (Some []) statements

-- the constants are those of the program, and the new one has them replaced
pub record IsReplaced (old : Program) (new : Program) : Type 0 where
  pub constants : Constants
  pub defined : constants_of old.statements ≡ Some constants
  pub statements : new.statements ≡ map (replaced_statement constants) old.statements
  pub files : new.files ≡ old.files

-- the name was defined before, or the term is undefined or over
abbrev pub IsBad : Constants → List ℕ → Term → Type 0
IsBad constants name term = IsSome (value_at constants name) ⊎ (symbol_of constants term ≡ None)

-- the statement defines a constant that may not be, with its name at this place
pub record DefinesBad (constants : Constants) (next : Statement) (place : ℕ) : Type 0 where
  pub name : List ℕ
  pub term : Term
  pub is : next ≡ statement.Constant name term place
  pub bad : IsBad constants name term

-- the first statement that defines a bad constant is of this text, and its name at this place
pub record IsFirstBad (statements : List Statement) (files : List ℕ) (file : ℕ) (place : ℕ) : Type 0 where
  pub before : ℕ
  pub constants : Constants
  pub next : Statement
  pub defined : constants_of (take before statements) ≡ Some constants
  pub here : slice_get statements before ≡ Some next
  pub text : slice_get files before ≡ Some file
  pub bad : DefinesBad constants next place

-- a bad constant is named only where it is the first; memory may be wanting at any time
abbrev pub IsStop : List Statement → List ℕ → ConstantStop → Type 0
IsStop statements files (stop.BadConstant file place) = IsFirstBad statements files file place
IsStop statements files stop.Memory = Unit {0}
