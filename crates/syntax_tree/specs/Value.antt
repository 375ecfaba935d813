-- The value of a term.
use Rattle.std.specs.Prelude.{ℕ, ◌-◌, ◌==◌, zero, pos, nat_le, List, [], ◌∷◌, ◌++◌, fold, Option, Some, None, slice_index_or, if◌then◌else◌}
use Rattle.symbols.specs.Symbol.{Symbol, Identifier, Text, Function, arguments, depth, Number as NumberSymbol}
use Rattle.syntax_tree.specs.declared.term.Op.{Op}
use Rattle.syntax_tree.specs.declared.term.Op.TheVariants.{Minus}
use Rattle.syntax_tree.specs.declared.term.Term.{Term}
use Rattle.syntax_tree.specs.declared.term.Term.TheOpen.{Term-F, Part-F}
use Rattle.syntax_tree.specs.declared.term.Term.TheFolds.{fold-Term, fold-Part}
use Rattle.syntax_tree.specs.declared.term.Part.{Part}
use Rattle.syntax_tree.specs.declared.amount.Amount.{Amount}
use Rattle.syntax_tree.specs.declared.amount.Amount.TheVariants as amount
use Rattle.syntax_tree.specs.Arithmetic.{combined}
use Rattle.syntax_tree.specs.Outcome.{Outcome, IsSymbol, IsOver, IsUndefined}

-- what a value is as an operand: a symbol that is no number is undefined there
abbrev pub operand : Outcome → Amount
operand (IsSymbol (NumberSymbol n)) = amount.Number n
operand (IsSymbol (Identifier name)) = amount.Undefined
operand (IsSymbol (Text text)) = amount.Undefined
operand (IsSymbol (Function name args)) = amount.Undefined
operand IsOver = amount.Over
operand IsUndefined = amount.Undefined

-- the value that arithmetic gives
abbrev pub plain : Amount → Outcome
plain (amount.Number n) = IsSymbol (NumberSymbol n)
plain amount.Over = IsOver
plain amount.Undefined = IsUndefined

-- the first part stands as it is, and each further one is joined by its sign to those before it
abbrev pub joined : Option Outcome → Op × Outcome → Option Outcome
joined None part = Some part.1
joined (Some total) part = Some (plain (combined part.0 (operand total) (operand part.1)))

abbrev pub some_outcome : Option Outcome → Outcome
some_outcome None = IsUndefined
some_outcome (Some outcome) = outcome

-- the value of a sum or a product, whose parts are joined from the left
abbrev pub from_left : List (Op × Outcome) → Outcome
from_left parts = some_outcome (fold joined None parts)

-- all arguments as symbols, or what keeps them from it
pub data Arguments : Type 0 where
  AreSymbols : List Symbol → Arguments
  HasOver : Arguments
  HasUndefined : Arguments

-- one argument more: undefined wins over `over`
abbrev pub with_argument : Arguments → Outcome → Arguments
with_argument HasUndefined outcome = HasUndefined
with_argument (AreSymbols symbols) IsUndefined = HasUndefined
with_argument HasOver IsUndefined = HasUndefined
with_argument (AreSymbols symbols) IsOver = HasOver
with_argument HasOver IsOver = HasOver
with_argument (AreSymbols symbols) (IsSymbol symbol) = AreSymbols (symbols ++ symbol ∷ [])
with_argument HasOver (IsSymbol symbol) = HasOver

-- a symbol that nests deeper than 256 is over
abbrev pub shallow : Symbol → Outcome
shallow symbol = (if nat_le (depth symbol) 256 then IsSymbol symbol else IsOver)

abbrev pub applied_to : List ℕ → Arguments → Outcome
applied_to name (AreSymbols symbols) = shallow (Function name (arguments symbols))
applied_to name HasOver = IsOver
applied_to name HasUndefined = IsUndefined

-- the value of a function or, where the name is empty, of a tuple
abbrev pub nested : List ℕ → List Outcome → Outcome
nested name args = applied_to name (fold with_argument (AreSymbols []) args)

-- a name alone is an identifier
abbrev pub named : List ℕ → List Outcome → Outcome
named name [] = IsSymbol (Identifier name)
named name (arg ∷ args) = nested name (arg ∷ args)

-- the value of a variable by its number, from 1
abbrev pub variable : List Outcome → ℕ → Outcome
variable bound number = (if number == 0 then IsUndefined else slice_index_or bound (number - 1) IsUndefined)

-- the value with the other sign
abbrev pub negated : Outcome → Outcome
negated outcome = plain (combined Minus (amount.Number (pos zero)) (operand outcome))

-- the value of one layer of a term, where those of its parts are known; `_` and an interval have none of their own
abbrev pub value_step : List Outcome → Term-F Outcome (Op × Outcome) → Outcome
value_step bound (Term-F.Number n) = IsSymbol (NumberSymbol n)
value_step bound (Term-F.Text text) = IsSymbol (Text text)
value_step bound (Term-F.Variable n) = variable bound n
value_step bound Term-F.Anonymous = IsUndefined
value_step bound (Term-F.Function name args) = named name args
value_step bound (Term-F.Tuple args) = nested [] args
value_step bound (Term-F.Sum parts) = from_left parts
value_step bound (Term-F.Product parts) = from_left parts
value_step bound (Term-F.Minus inner) = negated inner
value_step bound (Term-F.Interval left right) = IsUndefined

abbrev pub part_step : Part-F Outcome (Op × Outcome) → Op × Outcome
part_step part = (part.op, part.term)

-- the value of a term, where the variables have these
abbrev pub value_of : List Outcome → Term → Outcome
value_of bound = fold-Term Outcome (Op × Outcome) (value_step bound) part_step

-- a part's sign, and the value of its term
abbrev pub part_value : List Outcome → Part → Op × Outcome
part_value bound = fold-Part Outcome (Op × Outcome) (value_step bound) part_step
