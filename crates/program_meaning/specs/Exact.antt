-- What a linear term comes to, where the integer variables have values: an integer without bounds.
use Rattle.std.specs.Prelude.{ℤ, pos, ◌+ℤ◌, ◌*ℤ◌, ◌-ℤ◌, int_div, List, [], ◌∷◌, map, fold, Option, None, Some, if◌then◌else◌}
use Rattle.symbols.specs.Symbol.{Symbol, Number, Identifier, Text, Function}
use Rattle.syntax_tree.specs.declared.term.Op.{Op}
use Rattle.syntax_tree.specs.declared.term.Op.TheVariants as op
use Rattle.syntax_tree.specs.declared.term.Term.{Term}
use Rattle.syntax_tree.specs.declared.term.Term.TheOpen.{Term-F}
use Rattle.syntax_tree.specs.declared.term.Term.TheFolds.{fold-Term}
use Rattle.syntax_tree.specs.Arithmetic.{combined, is_zero}
use Rattle.syntax_tree.specs.Outcome.{Outcome, IsSymbol, IsOver, IsUndefined}
use Rattle.syntax_tree.specs.Value.{operand, plain, named, nested, negated, variable}

-- a term's value as an ordinary term, and the integer that it comes to, if it comes to one
pub record Exact : Type 0 where
  pub value : Outcome
  pub integer : Option ℤ

-- a number comes to itself, an identifier and a name with arguments to the value of the integer variable, a string and a tuple to nothing
abbrev pub symbol_integer : (Symbol → ℤ) → Symbol → Option ℤ
symbol_integer values (Number n) = Some n
symbol_integer values (Identifier name) = Some (values (Identifier name))
symbol_integer values (Text text) = None
symbol_integer values (Function [] args) = None
symbol_integer values (Function (byte ∷ name) args) = Some (values (Function (byte ∷ name) args))

-- a variable of the rule, or a name with its arguments, by what it is worth
abbrev pub worth_exact : (Symbol → ℤ) → Outcome → Exact
worth_exact values (IsSymbol symbol) = record { value = IsSymbol symbol; integer = symbol_integer values symbol }
worth_exact values IsOver = record { value = IsOver; integer = None }
worth_exact values IsUndefined = record { value = IsUndefined; integer = None }

-- an operation on integers; `/` truncates, and there is no quotient by zero
abbrev pub operated : Op → ℤ → ℤ → Option ℤ
operated op.Plus a b = Some (a +ℤ b)
operated op.Minus a b = Some (a -ℤ b)
operated op.Times a b = Some (a *ℤ b)
operated op.Divide a b = (if is_zero b then None else Some (int_div a b))
operated op.Remainder a b = (if is_zero b then None else Some (a -ℤ (b *ℤ int_div a b)))

-- the same where both sides come to integers
abbrev pub operated_both : Op → Option ℤ → Option ℤ → Option ℤ
operated_both op None b = None
operated_both op (Some a) None = None
operated_both op (Some a) (Some b) = operated op a b

abbrev pub operation_exact : Op → Exact → Exact → Exact
operation_exact op a b = record {
  value = plain (combined op (operand a.value) (operand b.value));
  integer = operated_both op a.integer b.integer;
}

abbrev pub exact_joined : Option Exact → Op × Exact → Option Exact
exact_joined None part = Some part.1
exact_joined (Some total) part = Some (operation_exact part.0 total part.1)

abbrev pub some_exact : Option Exact → Exact
some_exact None = record { value = IsUndefined; integer = None }
some_exact (Some total) = total

-- the parts of a sum or a product, joined from the left
abbrev pub parts_exact : List (Op × Exact) → Exact
parts_exact parts = some_exact (fold exact_joined None parts)

abbrev pub minus_exact : Exact → Exact
minus_exact a = record { value = negated a.value; integer = operated_both op.Minus (Some (pos 0)) a.integer }

abbrev pub exact_step : (Symbol → ℤ) → List Outcome → Term-F Exact (Op × Exact) → Exact
exact_step values bound (Term-F.Number n) = worth_exact values (IsSymbol (Number n))
exact_step values bound (Term-F.Text text) = worth_exact values (IsSymbol (Text text))
exact_step values bound (Term-F.Variable n) = worth_exact values (variable bound n)
exact_step values bound Term-F.Anonymous = worth_exact values IsUndefined
exact_step values bound (Term-F.Function name args) = worth_exact values (named name (map (λ arg. arg.value) args))
exact_step values bound (Term-F.Tuple args) = worth_exact values (nested [] (map (λ arg. arg.value) args))
exact_step values bound (Term-F.Sum parts) = parts_exact parts
exact_step values bound (Term-F.Product parts) = parts_exact parts
exact_step values bound (Term-F.Minus inner) = minus_exact inner
exact_step values bound (Term-F.Interval left right) = record { value = IsUndefined; integer = None }

-- what a term comes to, where the variables of its rule and the integer variables have these values
abbrev pub exact : (Symbol → ℤ) → List Outcome → Term → Exact
exact values bound = fold-Term Exact (Op × Exact) (exact_step values bound) (λ part. (part.op, part.term))
