-- What the code holds of constants. Only this crate's code reads this file.
use Rattle.std.specs.Prelude.{◌≡◌, ℕ, zero, suc, ◌+◌, ◌<◌, List, [], ◌∷◌, length, map, position, IsTrue, Option, Some, None, if◌then◌else◌}
use Rattle.std.specs.Option.{option_map}
use Rattle.std.specs.List.{AllByRecursion}
use Rattle.std.specs.Str.{bytes_eq}
use Rattle.symbols.specs.Symbol.{Symbol}
use Rattle.symbols.specs.Table.{symbol_at}
use Rattle.syntax_tree.specs.declared.binding.Value.{Value}
use Rattle.syntax_tree.specs.declared.binding.Value.TheVariants as value
use Rattle.syntax_tree.specs.declared.statement.Statement.{Statement}
use Rattle.syntax_tree.specs.declared.term.Part.{Part}
use Rattle.syntax_tree.specs.declared.term.Term.{Term}
use Rattle.syntax_tree.specs.declared.term.Term.TheOpen.{Term-F}
use Rattle.syntax_tree.specs.declared.term.Term.TheFolds.{fold-Term, fold-Part}
use Rattle.syntax_tree.specs.declared.term.Term.TheVariants as t
use Rattle.syntax_tree.specs.Outcome.{Outcome, IsSymbol}
use Rattle.syntax_tree.specs.Tree.{is_term}
use Rattle.syntax_tree.specs.Value.{value_of}
use Rattle.asp_parser.specs.declared.constants.ConstantStop.{ConstantStop}
use Rattle.asp_parser.specs.declared.constants.ConstantStop.TheVariants as stop
use Rattle.asp_parser.specs.Replacement.{Constants, term_of, part_step}
use Rattle.asp_parser.specs.Constants.{DefinesBad}

-- a name with the symbol of its id
abbrev pub constant_in : List Symbol → List ℕ × ℕ → List ℕ × Symbol
constant_in symbols entry = (entry.0, symbol_at symbols entry.1)

-- the constants that the entries of a map say, each value's id read in a table
abbrev pub constants_in : List Symbol → List (List ℕ × ℕ) → Constants
constants_in symbols entries = map (constant_in symbols) entries

-- the number of a name among entries, from 1
abbrev pub number_in : List (List ℕ × ℕ) → List ℕ → Option ℕ
number_in entries name = option_map suc (position (bytes_eq name) (map (λ entry. entry.0) entries))

-- the ids are those of the table
abbrev pub AreHeld : ℕ → List (List ℕ × ℕ) → Type 0
AreHeld size entries = AllByRecursion (λ entry. entry.1 < size) entries

-- the ids as values of variables, the first constant's that of variable 1
abbrev pub values_in : List (List ℕ × ℕ) → List (Option Value)
values_in entries = map (λ entry. Some (value.Symbol entry.1)) entries

-- the ids of the entries are those of the table, and the variables have them as values
pub record IsTable (size : ℕ) (values : List (Option Value)) (entries : List (List ℕ × ℕ)) : Type 0 where
  pub held : AreHeld size entries
  pub bound : values ≡ values_in entries

-- the values are trees as terms
abbrev pub AreTrees : Constants → Type 0
AreTrees constants = AllByRecursion (λ constant. IsTrue (is_term (term_of constant.1))) constants

-- each value is worth itself as a term
abbrev pub AreWorthThemselves : Constants → Type 0
AreWorthThemselves constants = AllByRecursion (λ constant. value_of [] (term_of constant.1) ≡ IsSymbol constant.1) constants

-- ---- constants as variables
-- what the variables are worth
abbrev pub worth_of : Constants → List Outcome
worth_of constants = map (λ constant. IsSymbol constant.1) constants

-- the number of a name among names, from the first number on
abbrev pub number_from : ℕ → Constants → List ℕ → Option ℕ
number_from first [] name = None
number_from first (constant ∷ constants) name = (if bytes_eq name constant.0 then Some first else number_from (first + 1) constants name)

-- the number of a constant, from 1
abbrev pub number_at : Constants → List ℕ → Option ℕ
number_at constants name = number_from 1 constants name

abbrev pub variable_or_name : List ℕ → Option ℕ → Term
variable_or_name name None = t.Function name []
variable_or_name name (Some number) = t.Variable number

-- a name without arguments is a variable where it is a constant, and one with arguments stays
abbrev pub name_as_variable : Constants → List ℕ → List Term → Term
name_as_variable constants name [] = variable_or_name name (number_at constants name)
name_as_variable constants name (arg ∷ args) = t.Function name (arg ∷ args)

-- one layer of a term, whose constants stand as variables in its parts
abbrev pub variable_step : Constants → Term-F Term Part → Term
variable_step constants (Term-F.Number n) = t.Number n
variable_step constants (Term-F.Text text) = t.Text text
variable_step constants (Term-F.Variable n) = t.Anonymous
variable_step constants Term-F.Anonymous = t.Anonymous
variable_step constants (Term-F.Function name args) = name_as_variable constants name args
variable_step constants (Term-F.Tuple args) = t.Tuple args
variable_step constants (Term-F.Sum parts) = t.Sum parts
variable_step constants (Term-F.Product parts) = t.Product parts
variable_step constants (Term-F.Minus inner) = t.Minus inner
variable_step constants (Term-F.Interval left right) = t.Interval left right

-- a term with its constants as variables; its own variables have no value
abbrev pub as_variables : Constants → Term → Term
as_variables constants = fold-Term Term Part (variable_step constants) part_step

abbrev pub part_as_variables : Constants → Part → Part
part_as_variables constants = fold-Part Term Part (variable_step constants) part_step

-- ---- statements
-- why one statement stops
abbrev pub IsStopAt : Constants → Statement → ℕ → ConstantStop → Type 0
IsStopAt constants next text (stop.BadConstant file place) = (file ≡ text) × DefinesBad constants next place
IsStopAt constants next text stop.Memory = Unit {0}

-- the item at a place is changed so, and no other
abbrev pub IsSetBy : {A : Type 0} → (A → A) → List A → ℕ → List A → Type 0
IsSetBy f [] at new = new ≡ []
IsSetBy f (x ∷ xs) zero new = new ≡ f x ∷ xs
IsSetBy {A} f (x ∷ xs) (suc at) new = (rest : List A) × IsSetBy f xs at rest × (new ≡ x ∷ rest)
