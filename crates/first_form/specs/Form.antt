-- The first form: which statements have it, and which rules they state.
use Rattle.std.specs.Prelude.{◌≡◌, ℕ, ◌<◌, ◌≤◌, nat_le, ℤ, pos, negsuc, Bool, true, false, if◌then◌else◌, length, List, [], ◌∷◌, map, Option, Some, None, option_map, option_and_then}
use Rattle.std.specs.List.{AllByRecursion}
use Rattle.symbols.specs.Symbol.{Symbol, Number, Identifier, Text, Function, arguments, depth}
use Rattle.symbols.specs.Table.{symbol_at}
use Rattle.syntax_tree.specs.declared.term.Term.{Term}
use Rattle.syntax_tree.specs.declared.term.Term.TheOpen.{Term-F}
use Rattle.syntax_tree.specs.declared.term.Term.TheFolds.{fold-Term}
use Rattle.syntax_tree.specs.declared.literal.Literal.{Literal}
use Rattle.syntax_tree.specs.declared.literal.Literal.TheOpen.{Literal-F}
use Rattle.syntax_tree.specs.declared.literal.Literal.TheFolds.{fold-Literal}
use Rattle.syntax_tree.specs.declared.rule.Head.{Head}
use Rattle.syntax_tree.specs.declared.rule.Head.TheVariants as head
use Rattle.syntax_tree.specs.declared.statement.Statement.{Statement}
use Rattle.syntax_tree.specs.declared.statement.Statement.TheVariants as statement
use Rattle.syntax_tree.specs.Tree.{is_name}
use Rattle.first_form.specs.declared.statement.DefiniteStatement.{DefiniteStatement}

-- a rule with an atom as its head and atoms as its body; the body of a fact is empty
pub record SymbolRule : Type 0 where
  pub head : Symbol
  pub body : List Symbol

-- all of them, where each is there
abbrev pub all_there : {A : Type 0} → List (Option A) → Option (List A)
all_there [] = Some []
all_there (None ∷ rest) = None
all_there (Some x ∷ rest) = option_map (λ xs. x ∷ xs) (all_there rest)

-- a number that is not negative
abbrev pub number : ℤ → Option Symbol
number (pos n) = Some (Number (pos n))
number (negsuc n) = None

-- a name with arguments, which is an identifier where there are none
abbrev pub named : List ℕ → List Symbol → Symbol
named name [] = Identifier name
named name (arg ∷ args) = Function name (arguments (arg ∷ args))

-- the symbol of one layer of a term, where those of its parts are known
abbrev pub symbol_step : Term-F (Option Symbol) (Unit {0}) → Option Symbol
symbol_step (Term-F.Number n) = number n
symbol_step (Term-F.Text text) = None
symbol_step (Term-F.Variable n) = None
symbol_step Term-F.Anonymous = None
symbol_step (Term-F.Function name args) = (if is_name name then option_map (named name) (all_there args) else None)
symbol_step (Term-F.Tuple args) = None
symbol_step (Term-F.Sum parts) = None
symbol_step (Term-F.Product parts) = None
symbol_step (Term-F.Minus inner) = None
symbol_step (Term-F.Interval left right) = None

-- the symbol that a term is, where it is a number that is not negative, an identifier, or a name with such arguments
abbrev pub symbol_of : Term → Option Symbol
symbol_of = fold-Term (Option Symbol) (Unit {0}) symbol_step (λ part. tt)

-- a symbol whose argument lists nest at most n deep
abbrev pub within : ℕ → Symbol → Option Symbol
within n symbol = (if nat_le (depth symbol) n then Some symbol else None)

-- the symbol that a term is, nested at most n deep
abbrev pub symbol_within : ℕ → Term → Option Symbol
symbol_within n term = option_and_then (within n) (symbol_of term)

-- an identifier or a name with arguments
abbrev pub atom : Symbol → Option Symbol
atom (Number n) = None
atom (Identifier name) = Some (Identifier name)
atom (Text text) = None
atom (Function name args) = Some (Function name args)

-- the symbol that an atom is, whose argument lists nest at most 64 deep
abbrev pub atom_of : Term → Option Symbol
atom_of term = option_and_then atom (symbol_within 64 term)

-- the head is an atom
abbrev pub head_of : Head → Option Symbol
head_of head.Nothing = None
head_of (head.Atom term) = atom_of term
head_of (head.Theory theory) = None
head_of (head.Choice choice) = None

-- a literal is an atom with no `not`
abbrev pub literal_step : Literal-F (Option Symbol) (Unit {0}) (Unit {0}) → Option Symbol
literal_step (Literal-F.Atom term true) = atom_of term
literal_step (Literal-F.Atom term false) = None
literal_step (Literal-F.Compare left rel right) = None
literal_step (Literal-F.Theory theory sign) = None

abbrev pub literal_of : Literal → Option Symbol
literal_of = fold-Literal (Option Symbol) (Unit {0}) (Unit {0}) literal_step (λ theory. tt) (λ element. tt)

-- `:-` stands exactly before a body
abbrev pub ruled : Bool → Symbol → List Symbol → Option SymbolRule
ruled false head [] = Some (record { head = head; body = [] })
ruled true head (first ∷ rest) = Some (record { head = head; body = first ∷ rest })
ruled true head [] = None
ruled false head (first ∷ rest) = None

-- the rule that a statement states, where it has the first form
abbrev pub rule_of : Statement → Option SymbolRule
rule_of (statement.Rule rule) =
    option_and_then (λ head. option_and_then (ruled rule.arrow head) (all_there (map literal_of rule.body))) (head_of rule.head)
rule_of (statement.Constant name term place) = None
rule_of statement.ShowNothing = None
rule_of (statement.Show name arity) = None

-- at most 65,536 statements, which state these rules in order
pub record States (statements : List Statement) (rules : List SymbolRule) : Type 0 where
  pub few : length statements ≤ 65536
  pub stated : map rule_of statements ≡ map (λ rule. Some rule) rules

-- a statement with its ids read as the symbols of a table
abbrev pub rule_in : List Symbol → DefiniteStatement → SymbolRule
rule_in symbols statement = record { head = symbol_at symbols statement.head; body = map (symbol_at symbols) statement.body }

-- statements with their ids read as the symbols of a table
abbrev pub rules_in : List Symbol → List DefiniteStatement → List SymbolRule
rules_in symbols statements = map (rule_in symbols) statements

-- these ids are of the table
abbrev pub AreKnown : List Symbol → List ℕ → Type 0
AreKnown symbols ids = AllByRecursion (λ id. id < length symbols) ids

-- the ids of these statements are of the table
abbrev pub HaveKnown : List Symbol → List DefiniteStatement → Type 0
HaveKnown symbols statements =
    AllByRecursion (λ statement. (statement.head < length symbols) × AreKnown symbols statement.body) statements
